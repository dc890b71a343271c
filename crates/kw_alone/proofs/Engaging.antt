-- The events by which a rebalance begins: the full row gets its leader, the row after it is taken
-- along, and the seat of a follower goes left.
use Rattle.std.proofs.Common.{ℕ, ◌≡◌, ◌≢◌, ◌⊎◌, inl, inr, ◌+◌, ◌<◌, ◌==◌, if◌then◌else◌, Some, arith, refl, sym, ◌∙◌, ap}
use Rattle.std.proofs.lemmas.Bool.{cases_eq}
use Rattle.kw_words.specs.declared.layout.Name.TheVariants as name
use Rattle.kw_words.specs.declared.state.State.TheVariants as state
use Rattle.kw_words.specs.State.{state_of, state_word}
use Rattle.kw_words.proofs.StateWords.{state_of-Normal, state_word_of}
use Rattle.kw_world.specs.declared.activity.Activity.{Activity}
use Rattle.kw_world.specs.declared.activity.rebalance.Rebalance.TheVariants as Rebalance
use Rattle.kw_world.specs.declared.activity.rebalance.left.Left.TheVariants as Left
use Rattle.kw_world.specs.declared.event.Choice.{Choice}
use Rattle.kw_world.specs.declared.local.Local.{Local}
use Rattle.kw_world.specs.declared.operation.Action.TheVariants.{Exchange}
use Rattle.kw_world.specs.ClaimTransitions.{row_after}
use Rattle.kw_world.specs.Operation.{word_after}
use Rattle.kw_world.specs.Sizes.{Sizes}
use Rattle.kw_world.specs.Table.{transition}
use Rattle.kw_core.specs.Words.{Words, least_in}
use Rattle.kw_core.proofs.Arrows.{Arrow, builds, clock_is_spent, ends_at_clock, clock_serves, epoch_is_spent, ends_at_epoch, epoch_serves, finds_infant, finds_normal, finds_leader, finds_follower, finds_other_state, ends_at_state, normalises, engages, is_engaged, marks_link, marks_last, marks_led, decides, decides_not, ends_undecided, counts_next, claims_next, next_is_infant, next_leads, claims_not, ends_unclaimed, normalises_next, marks_next, begins_left, takes_leader, reaches_leader, leads_left, walks_left, head_follows, ends_at_head, none_is_left, ends_at_none, passes_left, ends_past}
use Rattle.kw_core.proofs.Building.{IsBuilding}
use Rattle.kw_core.proofs.Grouping.{NextCounted, claims_row, goes_alone}
use Rattle.kw_core.proofs.Happens.{Changed, chosen, not_chosen, exchanged, not_exchanged}
use Rattle.kw_alone.specs.Facts.{Facts}
use Rattle.kw_alone.specs.Falls.{Falls}
use Rattle.kw_alone.specs.Marks.{moves}
use Rattle.kw_alone.specs.Prices.{base_price, claim_price}
use Rattle.kw_alone.specs.Rest.{rest, state_price, infant_price}
use Rattle.kw_alone.proofs.Counting.{less_up, most_up}
use Rattle.kw_alone.proofs.Prices.{ahead_most, infant_most}

-- a rebalance has no group as yet
abbrev pub IsEngaging : Activity → Type 0
IsEngaging (Activity.Rebalance (Rebalance.Engage _)) = Unit {0}
IsEngaging (Activity.Rebalance (Rebalance.Claim _)) = Unit {0}
IsEngaging (Activity.Rebalance (Rebalance.Left _)) = Unit {0}
IsEngaging _ = ⊥

not_building : (a : Activity) → IsBuilding a → IsEngaging a → ⊥
not_building (Activity.Rebalance (Rebalance.Seek _)) b w = w
not_building (Activity.Rebalance (Rebalance.Write _)) b w = w
not_building (Activity.Rebalance (Rebalance.Replace _)) b w = w
not_building _ b w = b

-- a row that is made normal costs nothing more
normal_price : (x : ℕ) → x ≡ state_word state.Normal → infant_price (state_of x) ≡ 0
normal_price x e = let k : state_of x ≡ Some state.Normal = ap state_of e ∙ state_of-Normal in ap infant_price k

normal_state : (x : ℕ) → x ≡ state_word state.Normal → state_price (state_of x) ≡ 2
normal_state x e = let k : state_of x ≡ Some state.Normal = ap state_of e ∙ state_of-Normal in ap state_price k

-- an infant is not normal
infant_not : (x seat : ℕ) → state_of x ≡ Some (state.Infant seat) → x ≢ state_word state.Normal
infant_not x seat e n = let k : Some (state.Infant seat) ≡ Some state.Normal = sym e ∙ ap state_of n ∙ state_of-Normal in absurd (cc)

-- an infant is made normal, or the state stays as it is: either way one event is gone
normalised_state : (x x' base seat : ℕ) → x' ≡ word_after (Exchange (state_word (state.Infant seat)) (state_word state.Normal)) x →
    base + 1 + state_price (state_of x') < base + (if x == state_word (state.Infant seat) then 4 else 2 + state_price (state_of x))
normalised_state x x' base seat c = which (cases_eq x (state_word (state.Infant seat)))
  where
    which : (x ≡ state_word (state.Infant seat)) ⊎ (x ≢ state_word (state.Infant seat)) → base + 1 + state_price (state_of x') < base + (if x == state_word (state.Infant seat) then 4 else 2 + state_price (state_of x))
    which (inl e) = omega (arith, normal_state x' (exchanged x' x (state_word (state.Infant seat)) (state_word state.Normal) c e), chosen x (state_word (state.Infant seat)) 4 (2 + state_price (state_of x)) e)
    which (inr d) =
        let same = ap (λ w. state_price (state_of w)) (not_exchanged x' x (state_word (state.Infant seat)) (state_word state.Normal) c d) in
        omega (arith, same, not_chosen x (state_word (state.Infant seat)) 4 (2 + state_price (state_of x)) d)

normalised_next : (x x' base seat : ℕ) → x' ≡ word_after (Exchange (state_word (state.Infant seat)) (state_word state.Normal)) x →
    base + infant_price (state_of x') < base + 1 + (if x == state_word (state.Infant seat) then 0 else infant_price (state_of x))
normalised_next x x' base seat c = which (cases_eq x (state_word (state.Infant seat)))
  where
    which : (x ≡ state_word (state.Infant seat)) ⊎ (x ≢ state_word (state.Infant seat)) → base + infant_price (state_of x') < base + 1 + (if x == state_word (state.Infant seat) then 0 else infant_price (state_of x))
    which (inl e) = omega (arith, normal_price x' (exchanged x' x (state_word (state.Infant seat)) (state_word state.Normal) c e), chosen x (state_word (state.Infant seat)) 0 (infant_price (state_of x)) e)
    which (inr d) =
        let same = ap (λ w. infant_price (state_of w)) (not_exchanged x' x (state_word (state.Infant seat)) (state_word state.Normal) c d) in
        omega (arith, same, not_chosen x (state_word (state.Infant seat)) 0 (infant_price (state_of x)) d)

module _ (z : Sizes) (rows : ℕ) (v v' : Words) where
  -- so many rows are led
  counted_falls : (count : ℕ) (a : Activity) (l m next : Local) → NextCounted count m next → claim_price z rows + 2 < rest z rows v a l → Falls z rows v v' a l next
  counted_falls count a l m next (claims_row r e o) k = inr (inr (omega (arith, k, infant_most (state_of (v' (name.State (row_after m)))))))
  counted_falls count a l m next (goes_alone d) k = inr (inr (omega (arith, k, ahead_most z m.rebalance.second)))

pub engaging_falls : (z : Sizes) (rows : ℕ) (v v' : Words) (s : ℕ) (choice : Choice) (a : Activity) (l next : Local) → Arrow z v s choice l a next → IsEngaging a → Changed z rows v v' (transition z a s choice l) → Facts z rows v v' a l next → Falls z rows v v' a l next
engaging_falls z rows v v' s choice a l next (builds b k y t) w c f = absurd (not_building b y w)
engaging_falls z rows v v' s choice a l next (clock_is_spent h t) w c f = inr (inr (omega arith))
engaging_falls z rows v v' s choice a l next (ends_at_clock t) w c f = inr (inr (omega arith))
engaging_falls z rows v v' s choice a l next (clock_serves h) w c f = let e = ap (λ x. state_price (state_of x)) (c.loaded refl (name.State l.row)) in inr (inr (omega (arith, e)))
engaging_falls z rows v v' s choice a l next (epoch_is_spent h t) w c f = inr (inr (omega arith))
engaging_falls z rows v v' s choice a l next (ends_at_epoch t) w c f = inr (inr (omega arith))
engaging_falls z rows v v' s choice a l next (epoch_serves h) w c f = let e = ap (λ x. state_price (state_of x)) (c.loaded refl (name.State l.row)) in inr (inr (omega (arith, e)))
engaging_falls z rows v v' s choice a l next (finds_infant seat e) w c f =
    let x : v' (name.State l.row) ≡ state_word (state.Infant seat) = c.loaded refl (name.State l.row) ∙ sym (state_word_of (v (name.State l.row)) (state.Infant seat) e) in
    let p : state_price (state_of (v (name.State l.row))) ≡ 4 = ap state_price e in
    inr (inr (omega (arith, p, chosen (v' (name.State l.row)) (state_word (state.Infant seat)) 4 (2 + state_price (state_of (v' (name.State l.row)))) x)))
engaging_falls z rows v v' s choice a l next (finds_normal e) w c f =
    let x : v' (name.State l.row) ≡ state_word state.Normal = c.loaded refl (name.State l.row) ∙ sym (state_word_of (v (name.State l.row)) state.Normal e) in
    let p : state_price (state_of (v (name.State l.row))) ≡ 2 = ap state_price e in
    inr (inr (omega (arith, p, chosen (v' (name.State l.row)) (state_word state.Normal) 1 (2 + state_price (state_of (v' (name.State l.row)))) x)))
engaging_falls z rows v v' s choice a l next (finds_leader n e) w c f = inr (inr (omega arith))
engaging_falls z rows v v' s choice a l next (finds_follower q e) w c f = inr (inr (omega arith))
engaging_falls z rows v v' s choice a l next (finds_other_state t) w c f = inr (inr (omega arith))
engaging_falls z rows v v' s choice a l next (ends_at_state t) w c f = inr (inr (omega arith))
engaging_falls z rows v v' s choice a l next (normalises seat) w c f = inr (inr (normalised_state (v (name.State l.row)) (v' (name.State l.row)) (base_price z rows) seat c.same))
engaging_falls z rows v v' s choice a l next (engages e) w c f = inr (inr (omega (arith, chosen (v (name.State l.row)) (state_word state.Normal) 1 (2 + state_price (state_of (v (name.State l.row)))) e)))
engaging_falls z rows v v' s choice a l next (is_engaged e) w c f =
    let p = ap (λ x. state_price (state_of x)) (not_exchanged (v' (name.State l.row)) (v (name.State l.row)) (state_word state.Normal) (state_word (state.Leader 0)) c.same e) in
    inr (inr (omega (arith, p, not_chosen (v (name.State l.row)) (state_word state.Normal) 1 (2 + state_price (state_of (v (name.State l.row)))) e)))
engaging_falls z rows v v' s choice a l next (marks_link n r e o) w c f = inr (inr (omega arith))
engaging_falls z rows v v' s choice a l next (marks_last n e o) w c f = inr (inr (omega arith))
engaging_falls z rows v v' s choice a l next (marks_led n k d y) w c f = counted_falls z rows v v' n a l _ next y (omega arith)
engaging_falls z rows v v' s choice a l next (decides n m k e y) w c f = counted_falls z rows v v' _ a l l next y (omega arith)
engaging_falls z rows v v' s choice a l next (decides_not n t) w c f = inr (inr (omega arith))
engaging_falls z rows v v' s choice a l next (ends_undecided n t) w c f = inr (inr (omega arith))
engaging_falls z rows v v' s choice a l next counts_next w c f = inr (inr (omega arith))
engaging_falls z rows v v' s choice a l next (claims_next e) w c f = inr (inr (omega arith))
engaging_falls z rows v v' s choice a l next (next_is_infant seat e) w c f =
    let same = not_exchanged (v' (name.State (row_after l))) (v (name.State (row_after l))) (state_word state.Normal) (state_word (state.Follower l.row)) c.same (infant_not (v (name.State (row_after l))) seat e) in
    let x : v' (name.State (row_after l)) ≡ state_word (state.Infant seat) = same ∙ sym (state_word_of (v (name.State (row_after l))) (state.Infant seat) e) in
    let p : infant_price (state_of (v (name.State (row_after l)))) ≡ 2 = ap infant_price e in
    inr (inr (omega (arith, p, chosen (v' (name.State (row_after l))) (state_word (state.Infant seat)) 0 (infant_price (state_of (v' (name.State (row_after l))))) x)))
engaging_falls z rows v v' s choice a l next (next_leads n e) w c f = inr (inr (omega (arith, ahead_most z l.rebalance.second)))
engaging_falls z rows v v' s choice a l next (claims_not t) w c f = inr (inr (omega arith))
engaging_falls z rows v v' s choice a l next (ends_unclaimed t) w c f = inr (inr (omega arith))
engaging_falls z rows v v' s choice a l next (normalises_next seat) w c f = inr (inr (normalised_next (v (name.State (row_after l))) (v' (name.State (row_after l))) (claim_price z rows) seat c.same))
engaging_falls z rows v v' s choice a l next marks_next w c f = inr (inr (omega (arith, ahead_most z l.rebalance.after)))
engaging_falls z rows v v' s choice a l next (begins_left r e d) w c f = inr (inr (omega (arith, most_up v' rows 0)))
engaging_falls z rows v v' s choice a l next (takes_leader q e) w c f = inl (moves (Activity.Rebalance (Rebalance.Left Left.Start)) tt)
engaging_falls z rows v v' s choice a l next (reaches_leader e) w c f = inl (moves (Activity.Rebalance (Rebalance.Left Left.Next)) tt)
engaging_falls z rows v v' s choice a l next (leads_left q e d) w c f = inr (inr (omega (arith, f.ups tt l.rebalance.least)))
engaging_falls z rows v v' s choice a l next (walks_left h) w c f = inr (inr (omega (arith, f.ups tt (least_in v l.candidate), less_up v rows l.rebalance.least l.candidate f.candidate (f.climbs_before tt))))
engaging_falls z rows v v' s choice a l next (head_follows t e) w c f = inr (inr (omega arith))
engaging_falls z rows v v' s choice a l next (ends_at_head t) w c f = inr (inr (omega arith))
engaging_falls z rows v v' s choice a l next (none_is_left t e) w c f = inr (inr (omega arith))
engaging_falls z rows v v' s choice a l next (ends_at_none t) w c f = inr (inr (omega arith))
engaging_falls z rows v v' s choice a l next (passes_left t h) w c f = inr (inr (omega arith))
engaging_falls z rows v v' s choice a l next (ends_past t) w c f = inr (inr (omega arith))
engaging_falls z rows v v' s choice a l next _ w c f = absurd w
