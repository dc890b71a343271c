-- The events by which a rebalance begins and ends, and those that begin at a guessed row: what each
-- asks, and of which part it is.
use Rattle.std.proofs.Common.{◌≡◌, ◌<◌, ℕ, ap, refl, sym, subst}
use Rattle.kw_words.specs.declared.kind.Kind.{Kind}
use Rattle.kw_words.specs.declared.kind.Kind.TheVariants as kind
use Rattle.kw_words.specs.declared.layout.Name.{Name}
use Rattle.kw_words.specs.declared.layout.Name.TheVariants.{State}
use Rattle.kw_world.specs.declared.activity.Activity.{Activity}
use Rattle.kw_world.specs.declared.activity.rebalance.Rebalance.{Rebalance}
use Rattle.kw_world.specs.declared.activity.rebalance.replace.Replace.TheVariants as Replace
use Rattle.kw_world.specs.declared.activity.rebalance.seek.Seek.TheVariants as Seek
use Rattle.kw_world.specs.declared.event.Choice.TheVariants.{Go, Guess}
use Rattle.kw_world.specs.declared.local.Local.{Local}
use Rattle.kw_world.specs.declared.operation.Action.TheVariants.{Load}
use Rattle.kw_world.specs.declared.part.Part.TheVariants as part
use Rattle.kw_world.specs.Parts.{part_at, part_of}
use Rattle.kw_world.specs.Sizes.{product}
use Rattle.kw_world.specs.Step.{next_of, transition_of}
use Rattle.kw_world.specs.Table.{transition}
use Rattle.kw_world.specs.WalkTransitions.{offered}
use Rattle.kw_core.specs.Stages.{IsBusy}
use Rattle.kw_table.specs.declared.pass.Pass.{Pass}
use Rattle.kw_table.specs.declared.shared.Shared.{Shared}
use Rattle.kw_table.specs.Passes.{view, operation, Asks}
use Rattle.kw_follow.specs.Following.{Follows}
use Rattle.kw_follow.proofs.OneEvent.{asks, begins_in, moves_in}
use Rattle.kw_follow.proofs.PutEvents.{asks_at}
use Rattle.kw_follow.proofs.WayEvents.{offered_guess}

-- the events of a rebalance are of its part, whatever the choice
pub balance_part : (l : Local) (x : Rebalance) → l.activity ≡ Activity.Rebalance x → part_of Go l ≡ part.Rebalance
balance_part l x is = ap (λ (a : Activity). part_at a Go l) is

pub balance_part_guess : (l : Local) (r : ℕ) (x : Rebalance) → l.activity ≡ Activity.Rebalance x → part_of (Guess r) l ≡ part.Rebalance
balance_part_guess l r x is = ap (λ (a : Activity). part_at a (Guess r) l) is

-- and so are those by which a call enters anew
pub anew_part : (l : Local) (a : Activity) → l.activity ≡ a → part_at a Go l ≡ part.Rebalance → part_of Go l ≡ part.Rebalance
anew_part l a is there = subst (λ (b : Activity). part_at b Go l ≡ part.Rebalance) (sym is) there

-- the load of a word that code names otherwise
pub asks_loaded_at : (s : Shared) (p : Pass) (l : Local) (a : Activity) (k : Kind) (n m : Name) → Follows s p l → l.activity ≡ a → IsBusy a → n ≡ m → operation k m Load ≡ (transition product a (view p).number Go l).operation → Asks s p Go (operation k n Load)
asks_loaded_at s p l a k n m f is busy name line =
    subst (λ (q : Name). Asks s p Go (operation k q Load)) (sym name)
    (subst (Asks s p Go) (sym line) (asks_at s p l a f is busy))

-- the search for free rows, or the walk to the row before the full one, begins
abbrev pub IsBeginning : Rebalance → Type 0
IsBeginning (Rebalance.Seek Seek.First) = Unit {0}
IsBeginning (Rebalance.Replace Replace.Start) = Unit {0}
IsBeginning _ = ⊥

-- where it is to begin at a row of the table it loads the state of that row
guess_line : (x : Rebalance) (r n : ℕ) (l : Local) → IsBeginning x → operation kind.LoadState (State r) Load ≡ (transition product (Activity.Rebalance x) n (Guess r) l).operation
guess_line (Rebalance.Seek Seek.First) r n l b = refl
guess_line (Rebalance.Replace Replace.Start) r n l b = refl
guess_line _ r n l b = absurd b

pub asks_guessed_row : (s : Shared) (p : Pass) (l : Local) (r : ℕ) (x : Rebalance) → Follows s p l → l.activity ≡ Activity.Rebalance x → IsBeginning x → r < s.opening.rows → Asks s p (Guess r) (operation kind.LoadState (State r) Load)
unfolding transition_of
asks_guessed_row s p l r x f is begins below =
    let b : IsBusy l.activity = subst IsBusy (sym is) tt in
    let line : operation kind.LoadState (State r) Load ≡ (transition_of product (view p).number (Guess r) l).operation = subst (λ (a : Activity). operation kind.LoadState (State r) Load ≡ (transition product a (view p).number (Guess r) l).operation) (sym is) (guess_line x r (view p).number l begins) in
    asks s p (Guess r) l s.opening.rows (view p).number (Guess r) _ f (begins_in s p l (Guess r) f b) (moves_in s p l (Guess r) f b) refl refl (sym (offered_guess _ r below)) line

-- and what follows is what the line says
pub offers_row : (rows r : ℕ) (l : Local) (told : ℕ) → r < rows → next_of product rows (Guess r) l told ≡ next_of product rows (offered rows (Guess r)) l told
offers_row rows r l told below = ap (λ o. next_of product rows o l told) (sym (offered_guess rows r below))
