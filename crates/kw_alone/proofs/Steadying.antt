-- After a valid list from which a seat goes on alone and stands on its way: each of its events ends
-- its call, or leaves it there and lowers its three numbers, which have bounds.
use Rattle.std.proofs.Common.{ℕ, ◌≡◌, ◌⊎◌, ◌+◌, ◌*◌, ◌<◌, ◌≤◌, ◌++◌, ◌∷◌, [], Bool, true, false, if◌then◌else◌, List, arith, sym, ◌∙◌, ap, subst}
use Rattle.kw_lists.specs.Counts.{count_below}
use Rattle.kw_lists.proofs.Counting.{count_most}
use Rattle.kw_rows.specs.Ledger.{Ledger}
use Rattle.kw_windows.specs.Triples as triples
use Rattle.kw_windows.specs.Triples.{IsWithin}
use Rattle.kw_world.specs.declared.activity.Activity.{Activity}
use Rattle.kw_world.specs.declared.event.Event.{Event}
use Rattle.kw_world.specs.declared.local.Local.{Local}
use Rattle.kw_world.specs.declared.opening.Opening.{Opening}
use Rattle.kw_world.specs.Opening.{IsOpening}
use Rattle.kw_world.specs.Sizes.{Sizes}
use Rattle.kw_world.specs.Step.{word}
use Rattle.kw_world.specs.WorldView.{WorldView}
use Rattle.kw_core.specs.Events.{is_valid, local_of, world}
use Rattle.kw_core.specs.Run.{history}
use Rattle.kw_core.specs.Stages.{is_put}
use Rattle.kw_core.specs.Words.{Words}
use Rattle.kw_core.proofs.Events.{valid_front}
use Rattle.kw_core.proofs.Runs.{history-world}
use Rattle.kw_shape.proofs.Worlds.{world-rows}
use Rattle.kw_laws.proofs.LawProofs.{laws_hold}
use Rattle.kw_full.proofs.FullHold.{frozen_holds, full_holds}
use Rattle.kw_alone.specs.Alone.{IsEnd, activity_after}
use Rattle.kw_alone.specs.Falls.{most_rest}
use Rattle.kw_alone.specs.Rest.{rest}
use Rattle.kw_alone.specs.Steady.{AreSteady, IsSteady, triple_after}
use Rattle.kw_alone.specs.Wins.{is_to_go, to_tidy, triple, wins_left}
use Rattle.kw_alone.proofs.Knowing.{both_hold}
use Rattle.kw_alone.proofs.Lessening.{lessens}
use Rattle.kw_alone.proofs.MovesLeft.{moves_most}
use Rattle.kw_alone.proofs.RestPlus.{plus_most}
use Rattle.kw_alone.proofs.Turning.{Made, made, most_after}
use Rattle.kw_alone.proofs.WinsLeft.{tidy_most}

-- Bounds.

-- no more rows than there are may be replaced, and one more
wins_most : (z : Sizes) (rows : ℕ) (v : Words) (g : Ledger) (a : Activity) (l : Local) → wins_left z rows v g a l ≤ rows + 1
wins_most z rows v g (Activity.Leave answer) l = omega arith
wins_most z rows v g a l = which (is_put l.call)
  where
    which : (b : Bool) → (if b then count_below rows (is_to_go z v g a l) + to_tidy v a l else 0) ≤ rows + 1
    which true = omega (arith, count_most rows (is_to_go z v g a l), tidy_most v a l)
    which false = omega arith

-- the numbers after a valid list have bounds
pub steady_within : (z : Sizes) (o : Opening) (s : ℕ) → IsOpening z o → (xs : List Event) → is_valid z o xs ≡ true → s < o.seats → ((triple_after z o s xs).wins ≤ o.rows + 1) × IsWithin o.rows (2 * most_rest z o.rows) (triple_after z o s xs)
steady_within z o s opening xs ok inside =
    let most = most_after z o xs s opening ok inside in
    let here = subst (λ (w : WorldView). rest z o.rows (word z w) (activity_after z o s xs) (local_of (world z o xs) s) ≤ most_rest z o.rows) (sym (history-world z o xs)) most in (
      wins_most z o.rows (word z (history z o xs).world) (history z o xs).ledger.rows (activity_after z o s xs) (local_of (world z o xs) s),
      record {
        moves = moves_most o.rows (word z (history z o xs).world) (history z o xs).ledger.rows (activity_after z o s xs) (local_of (world z o xs) s);
        rest = plus_most z o.rows (word z (history z o xs).world) (activity_after z o s xs) (local_of (world z o xs) s) here;
      },
    )

-- One event.

-- what is said of it, for what the seat knows before and after it
abbrev Less : Sizes → Opening → List Event → Event → ℕ → Local → Local → Type 0
Less z o xs e rows l k = IsEnd l.activity k.activity ⊎ IsSteady (word z (history z o (xs ++ e ∷ [])).world) (history z o (xs ++ e ∷ [])).ledger.rows k.activity k ×
    triples.Falls (triple z rows (word z (history z o xs).world) (history z o xs).ledger.rows l.activity l) (triple z rows (word z (history z o (xs ++ e ∷ [])).world) (history z o (xs ++ e ∷ [])).ledger.rows k.activity k)

steady_made : (z : Sizes) (o : Opening) → z.built < z.cells → IsOpening z o → (xs : List Event) (e : Event) → is_valid z o (xs ++ e ∷ []) ≡ true → (m : Made z o xs e) → IsSteady (word z (history z o xs).world) (history z o xs).ledger.rows m.local.activity m.local → Less z o xs e (history z o xs).world.rows m.local m.next
steady_made z o room opening xs e ok m steady =
    let front : is_valid z o xs ≡ true = valid_front z o xs (e ∷ []) ok in
    let both = both_hold z o opening xs front in
    lessens (record { happens = m.happens; inv = both.inv; after = (both_hold z o opening (xs ++ e ∷ []) ok).inv; laws = laws_hold z o opening xs front; known = both.known; frozen = frozen_holds z o opening xs front; full = full_holds z o opening xs front; room = room }) steady

steady_here : (z : Sizes) (o : Opening) → z.built < z.cells → IsOpening z o → (xs : List Event) (e : Event) → is_valid z o (xs ++ e ∷ []) ≡ true → AreSteady z o e.seat xs →
    IsEnd (activity_after z o e.seat xs) (activity_after z o e.seat (xs ++ e ∷ [])) ⊎ AreSteady z o e.seat (xs ++ e ∷ []) × triples.Falls (triple_after z o e.seat xs) (triple_after z o e.seat (xs ++ e ∷ []))
steady_here z o room opening xs e ok steady =
    let m = made z o xs e opening ok in
    let rows : (history z o xs).world.rows ≡ o.rows = ap (λ (w : WorldView). w.rows) (history-world z o xs) ∙ world-rows z o xs in
    let f1 : Less z o xs e (history z o xs).world.rows m.local m.next = steady_made z o room opening xs e ok m (subst (λ (k : Local). IsSteady (word z (history z o xs).world) (history z o xs).ledger.rows k.activity k) m.was steady) in
    let f2 = subst (λ n. Less z o xs e n m.local m.next) rows f1 in
    let f3 = subst (λ (k : Local). Less z o xs e o.rows k m.next) (sym m.was) f2 in
    subst (λ (k : Local). Less z o xs e o.rows (local_of (world z o xs) e.seat) k) (sym m.is) f3

-- of the seat that makes it
pub steady_falls : (z : Sizes) (o : Opening) (s : ℕ) → z.built < z.cells → IsOpening z o → (xs : List Event) (e : Event) → is_valid z o (xs ++ e ∷ []) ≡ true → e.seat ≡ s → AreSteady z o s xs →
    IsEnd (activity_after z o s xs) (activity_after z o s (xs ++ e ∷ [])) ⊎ AreSteady z o s (xs ++ e ∷ []) × triples.Falls (triple_after z o s xs) (triple_after z o s (xs ++ e ∷ []))
steady_falls z o s room opening xs e ok own steady =
    subst (λ n. IsEnd (activity_after z o n xs) (activity_after z o n (xs ++ e ∷ [])) ⊎ AreSteady z o n (xs ++ e ∷ []) × triples.Falls (triple_after z o n xs) (triple_after z o n (xs ++ e ∷ []))) own
    (steady_here z o room opening xs e ok (subst (λ n. AreSteady z o n xs) (sym own) steady))
