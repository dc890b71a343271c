-- Where a rebalance stands, of a put that is to try again and of one that is done: the first has
-- seen a cause, and of the second a law of the core says it.
use Rattle.std.proofs.Common.{◌≡◌, ◌⊎◌, inl, inr, ◌∙◌, Bool, true, false, if◌then◌else◌, ap, refl, sym}
use Rattle.kw_world.specs.declared.answer.Answer.{Answer}
use Rattle.kw_world.specs.declared.answer.Answer.TheVariants.{Done}
use Rattle.kw_world.specs.declared.activity.Activity.{Activity}
use Rattle.kw_world.specs.declared.activity.rebalance.Rebalance.TheVariants as Rebalance
use Rattle.kw_world.specs.declared.activity.rebalance.replace.Replace.TheVariants as Replace
use Rattle.kw_world.specs.declared.local.Local.{Local}
use Rattle.kw_world.specs.EngageTransitions.{retrying}
use Rattle.kw_core.specs.Stages.{IsBalancing, IsDone}
use Rattle.kw_table.specs.declared.pass.Pass.{Pass}
use Rattle.kw_table.specs.declared.shared.Shared.{Shared}
use Rattle.kw_follow.specs.Following.{Follows}
use Rattle.kw_follow.specs.Within.{IsWithinCall}
use Rattle.kw_follow.proofs.Untidied.{untidied}
use Rattle.kw_live_rebal.specs.Standing.{HasSeenCause, Rebalances, ends_rebuild}

-- it rebalances or is done, or it does neither
rebalances_or_not : (a : Activity) → (IsBalancing a ⊎ IsDone a) ⊎ (IsBalancing a ⊎ IsDone a → ⊥)
rebalances_or_not (Activity.Rebalance _) = inl (inl tt)
rebalances_or_not (Activity.Leave Done) = inl (inr tt)
rebalances_or_not _ = inr (λ x. elim x [
  | inl b ↦ absurd b
  | inr d ↦ absurd d
])

-- a seat that tidies rebalances, or is done
pub tidies_at : {s : Shared} {p : Pass} {l : Local} → Follows s p l → l.tidies ≡ true → IsBalancing l.activity ⊎ IsDone l.activity
tidies_at {s} {p} {l} f tidies = elim (rebalances_or_not l.activity) [
  | inl stands ↦ stands
  | inr neither ↦ let x : true ≡ false = sym tidies ∙ untidied s p l f neither in absurd (cc)
]

-- one that has seen a cause stands at an event of a rebalance, before the rebuild ends
seen_balances : (o p : Pass) (l : Local) (a : Activity) → HasSeenCause o p a l → ends_rebuild a ≡ false → IsBalancing a
seen_balances o p l (Activity.Rebalance _) h u = tt
seen_balances o p l (Activity.Leave x) h u = let y : true ≡ false = u in absurd (cc)
seen_balances o p l Activity.Retry h u = let y : true ≡ false = u in absurd (cc)
seen_balances o p l _ h u = absurd h

-- so does one that is done
tidied_balances : (a : Activity) → IsBalancing a ⊎ IsDone a → ends_rebuild a ≡ false → IsBalancing a
tidied_balances (Activity.Leave x) h u = let y : true ≡ false = u in absurd (cc)
tidied_balances a (inl b) u = b
tidied_balances _ (inr d) u = absurd d

pub balances : {s : Shared} {o p : Pass} {l : Local} → Rebalances s o p l → ends_rebuild l.activity ≡ false → IsBalancing l.activity
balances {s} {o} {p} {l} r u = by l.tidies refl
  where
    by : (b : Bool) → l.tidies ≡ b → IsBalancing l.activity
    by true e = tidied_balances l.activity (tidies_at r.follows e) u
    by false e = seen_balances o p l l.activity (r.saw e) u

-- and an event of a rebalance is one in the middle of a call
pub balancing_within : (a : Activity) → IsBalancing a → IsWithinCall a
balancing_within (Activity.Rebalance _) b = tt
balancing_within _ b = absurd b

-- where the rebuild ends otherwise than by its exchange, one that is done is about to leave so
leaves_done : (a : Activity) → IsBalancing a ⊎ IsDone a → ends_rebuild a ≡ true → (a ≡ Activity.Rebalance (Rebalance.Replace Replace.Normalise) → ⊥) → a ≡ Activity.Leave Done
leaves_done (Activity.Leave Done) h u n = refl
leaves_done (Activity.Rebalance (Rebalance.Replace Replace.Normalise)) h u n = absurd (n refl)
leaves_done (Activity.Leave x) (inr d) u n = absurd d
leaves_done (Activity.Leave x) (inl b) u n = absurd b
leaves_done Activity.Retry (inl b) u n = absurd b
leaves_done Activity.Retry (inr d) u n = absurd d
leaves_done _ h u n = let y : false ≡ true = u in absurd (cc)

pub ends_done : {s : Shared} {p : Pass} {l : Local} → Follows s p l → l.tidies ≡ true → ends_rebuild l.activity ≡ true → (l.activity ≡ Activity.Rebalance (Rebalance.Replace Replace.Normalise) → ⊥) → l.activity ≡ Activity.Leave Done
ends_done f tidies over other = leaves_done _ (tidies_at f tidies) over other

-- one that is neither to try again nor about to leave has won
pub ends_won : (a : Activity) → ends_rebuild a ≡ true → (a ≡ Activity.Retry → ⊥) → ((x : Answer) → a ≡ Activity.Leave x → ⊥) → a ≡ Activity.Rebalance (Rebalance.Replace Replace.Normalise)
ends_won (Activity.Rebalance (Rebalance.Replace Replace.Normalise)) u g e = refl
ends_won Activity.Retry u g e = absurd (g refl)
ends_won (Activity.Leave x) u g e = absurd (e x refl)
ends_won _ u g e = let y : false ≡ true = u in absurd (cc)

-- Where a rebalance that is over leads.

-- a put that is not done tries again
pub undone_again : (l : Local) → l.tidies ≡ false → retrying l ≡ Activity.Retry
undone_again l undone = ap (λ (b : Bool). if b then (Activity.Leave Done) else Activity.Retry) undone

-- one that is done leaves
pub done_leaves : (l : Local) → l.tidies ≡ true → retrying l ≡ Activity.Leave Done
done_leaves l done = ap (λ (b : Bool). if b then (Activity.Leave Done) else Activity.Retry) done

-- it leads on as long as this stays
pub leads_as : (l k : Local) → l.tidies ≡ k.tidies → retrying l ≡ retrying k
leads_as l k same = ap (λ (b : Bool). if b then (Activity.Leave Done) else Activity.Retry) same
