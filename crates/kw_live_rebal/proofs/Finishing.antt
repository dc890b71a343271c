-- The end of a rebalance that won: its new rows are made normal, and the rows of its group are
-- retired; then the put tries again, or leaves where it was done.
use Rattle.std.proofs.Common.{◌≡◌, ℕ, ◌+◌, Bool, true, false, Option, Some, None, refl, sym, ◌∙◌, ap, subst, if◌then◌else◌}
use Rattle.kw_world.specs.declared.activity.Activity.{Activity}
use Rattle.kw_world.specs.declared.activity.rebalance.Rebalance.TheVariants as Rebalance
use Rattle.kw_world.specs.declared.activity.rebalance.replace.Replace.TheVariants as Replace
use Rattle.kw_world.specs.declared.answer.Answer.{Answer}
use Rattle.kw_world.specs.declared.answer.Answer.TheVariants.{Done}
use Rattle.kw_world.specs.declared.event.Choice.TheVariants.{Go}
use Rattle.kw_world.specs.declared.event.StepDone.TheVariants.{Moved}
use Rattle.kw_world.specs.declared.local.Local.{Local}
use Rattle.kw_world.specs.EngageTransitions.{retrying}
use Rattle.kw_world.specs.GroupPlaces.{at_first_row}
use Rattle.kw_world.specs.ReplaceTransitions.{retired}
use Rattle.kw_world.specs.SeekTransitions.{at_infant, has_more}
use Rattle.kw_world.specs.Sizes.{product}
use Rattle.kw_world.specs.Step.{next_of, transition_of}
use Rattle.kw_world.specs.Table.{transition}
use Rattle.kw_world.specs.Transition.{Outcome, outcome, to}
use Rattle.kw_table.specs.declared.pass.Pass.{Pass}
use Rattle.kw_table.specs.declared.shared.Shared.{Shared}
use Rattle.kw_follow.specs.Calling.{KeepsCalls}
use Rattle.kw_follow.specs.Following.{Follows, GoesTo, held}
use Rattle.kw_core.specs.Stages.{IsBalancing}
use Rattle.kw_follow.proofs.Untidied.{balancing_works, keeps}

-- where it stands, of a put that was done or not
abbrev pub IsFinishing : Activity → Bool → Type 0
IsFinishing (Activity.Rebalance (Rebalance.Replace Replace.Normalise)) tidies = Unit {0}
IsFinishing (Activity.Rebalance (Rebalance.Replace Replace.Number)) tidies = Unit {0}
IsFinishing (Activity.Rebalance (Rebalance.Replace Replace.Retire)) tidies = Unit {0}
IsFinishing Activity.Retry tidies = tidies ≡ false
IsFinishing (Activity.Leave Done) tidies = tidies ≡ true
IsFinishing _ tidies = ⊥

-- what stays through its events
pub record Finishes (s : Shared) (o p : Pass) (k l : Local) : Type 0 where
  pub goes : GoesTo s o p
  pub follows : Follows s p l
  pub calls : KeepsCalls o p
  pub held : held p ≡ held o
  pub tidies : l.tidies ≡ k.tidies
  pub stands : IsFinishing l.activity l.tidies

-- Where it is not over.

module _ (a : Activity) (tidies : Bool) (h : IsFinishing a tidies) (g : a ≡ Activity.Retry → ⊥) (e : (x : Answer) → a ≡ Activity.Leave x → ⊥) where
  -- it stands at one of these events
  rebalances : (b : Activity) → a ≡ b → IsFinishing b tidies → IsBalancing b
  rebalances (Activity.Rebalance _) is k = tt
  rebalances Activity.Retry is k = absurd (g is)
  rebalances (Activity.Leave x) is k = absurd (e x is)
  rebalances _ is k = absurd k

  pub finishing_balances : IsBalancing a
  finishing_balances = rebalances a refl h

-- Where it is over.

-- it stands where a rebalance that is over leads
pub finished_again : (l : Local) → IsFinishing Activity.Retry l.tidies → Activity.Retry ≡ retrying l
finished_again l h = sym (ap (λ b. if b then (Activity.Leave Done) else Activity.Retry) h)

pub finished_done : (x : Answer) (l : Local) → IsFinishing (Activity.Leave x) l.tidies → Activity.Leave x ≡ retrying l
finished_done Done l h = sym (ap (λ b. if b then (Activity.Leave Done) else Activity.Retry) h)
finished_done _ l h = absurd h

-- An event of it.

module _ (rows : ℕ) (l m : Local) (told : ℕ) (line : outcome m Moved ≡ next_of product rows Go l told) where
  activity_is : (a : Activity) → l.activity ≡ a → m.activity ≡ ((transition product a 0 Go l).next rows told).local.activity
  unfolding transition_of
  activity_is a is = ap (λ (x : Outcome). x.local.activity) (line ∙ ap (λ b. (transition product b 0 Go l).next rows told) is)

  -- the next of the new rows is made normal, or the first row of the group gets its number
  normalises : (b : Bool) → IsFinishing (let x : Outcome = if b then to (Activity.Rebalance (Rebalance.Replace Replace.Normalise)) (at_infant (l.rebalance.at + 1) l) else to (Activity.Rebalance (Rebalance.Replace Replace.Number)) (at_first_row l) in x).local.activity m.tidies
  normalises true = tt
  normalises false = tt

  -- a put that is not done tries again, and one that is done leaves
  ends : (b : Bool) → m.tidies ≡ b → IsFinishing (if b then (Activity.Leave Done) else Activity.Retry) m.tidies
  ends true e = e
  ends false e = e

  -- once no row of the group is ahead; before that the next one gets its number
  retires : (ahead : Option ℕ) → m.tidies ≡ l.tidies → IsFinishing (retired ahead l).local.activity m.tidies
  retires (Some r) kept = tt
  retires None kept = ends l.tidies kept

  event : (a : Activity) → l.activity ≡ a → IsFinishing a l.tidies → IsBalancing a → m.tidies ≡ l.tidies → IsFinishing m.activity m.tidies
  event (Activity.Rebalance (Rebalance.Replace Replace.Normalise)) is h n kept = subst (λ (a : Activity). IsFinishing a m.tidies) (sym (activity_is (Activity.Rebalance (Rebalance.Replace Replace.Normalise)) is)) (normalises (has_more l))
  event (Activity.Rebalance (Rebalance.Replace Replace.Number)) is h n kept = subst (λ (a : Activity). IsFinishing a m.tidies) (sym (activity_is (Activity.Rebalance (Rebalance.Replace Replace.Number)) is)) tt
  event (Activity.Rebalance (Rebalance.Replace Replace.Retire)) is h n kept = subst (λ (a : Activity). IsFinishing a m.tidies) (sym (activity_is (Activity.Rebalance (Rebalance.Replace Replace.Retire)) is)) (retires l.rebalance.ahead kept)
  event (Activity.Rebalance _) is h n kept = absurd h
  event _ is h n kept = absurd n

  -- it leaves the put as little done as before, or as much
  pub finishes_tidies : IsBalancing l.activity → m.tidies ≡ l.tidies
  unfolding transition_of
  finishes_tidies n = ap (λ (x : Outcome). x.local.tidies) line ∙ keeps product l.activity 0 Go l rows told (balancing_works l.activity n)

  -- and goes on to where the end still stands
  pub finishes_on : IsFinishing l.activity l.tidies → IsBalancing l.activity → IsFinishing m.activity m.tidies
  finishes_on h n = event l.activity refl h n (finishes_tidies n)
