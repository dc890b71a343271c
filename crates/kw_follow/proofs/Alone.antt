-- The link after a cell that is the only one of its key, where the next one is so too.
use Rattle.std.proofs.Common.{◌≡◌, ◌≢◌, ◌∙◌, ◌+◌, ◌-◌, ◌<◌, ◌&&◌, ℕ, Bool, true, false, nat_lt, nat_le, if◌then◌else◌, List, Some, count_by, arith, refl, sym, ap, subst, length, get_or, slice_get}
use Rattle.std.proofs.lemmas.Bool.Decides.{nat_tests}
use Rattle.std.proofs.lemmas.Option.{slice_get-get_or}
use Rattle.std.proofs.lemmas.List.{get_or_default}
use Rattle.kw_cells.specs.declared.cell.Cell.{Cell}
use Rattle.kw_cells.specs.Kept.{AreRising}
use Rattle.kw_cells.proofs.Rising.{any_cell}
use Rattle.kw_step_rebal.proofs.Rising.{key_ends, next_above}
use Rattle.kw_world.specs.WriteTransitions.{has_key, last_of_key, last_with, listed_after, listed_behind}
use Rattle.kw_follow.specs.BuildsOn.{StandAlone}

module _ (cells : List Cell) (rising : AreRising cells) where
  -- where the cell at a place has another key than the one behind it, if there is one, so many
  -- cells have no greater key
  ends : (j : ℕ) → j < length cells → ((d : Cell) → j + 1 < length cells → (get_or cells (j + 1) d).key ≢ (get_or cells j d).key) → j + 1 ≡ count_by (λ c. nat_le c.key (get_or cells j any_cell).key) cells
  ends j within other =
      let key = (get_or cells j any_cell).key in
      let here : (d : Cell) → (get_or cells (j + 1 - 1) d).key ≡ key = λ d. (let e : j + 1 - 1 ≡ j = omega arith in rw e (ap (λ (c : Cell). c.key) (get_or_default cells j d any_cell within))) in
      key_ends cells rising key (j + 1) (omega arith) (omega (arith, within)) here (λ l. next_above cells rising key (j + 1) l here (other any_cell l))

  module _ (j : ℕ) (alone : StandAlone cells j) where
    within : j < length cells
    within = let w = alone.within in omega (arith, w)

    -- the cell before it has another key
    first : (nat_lt 0 j && has_key (get_or cells j any_cell).key (slice_get cells (j - 1))) ≡ false
    first = which (nat_lt 0 j) refl
      where
        which : (b : Bool) → nat_lt 0 j ≡ b → (nat_lt 0 j && has_key (get_or cells j any_cell).key (slice_get cells (j - 1))) ≡ false
        which false e = rw e refl
        which true e =
            let some : 0 < j = grind (arith, nat_tests) in
            let o = alone.first (j - 1) any_cell (omega (arith, some)) in
            let w = alone.within in
            rw (slice_get-get_or cells (j - 1) any_cell (omega (arith, w))) (grind (arith, nat_tests))

    -- and so has the one behind the next one
    last : (d : Cell) → j + 1 + 1 < length cells → (get_or cells (j + 1 + 1) d).key ≢ (get_or cells (j + 1) d).key
    last d l =
        let e : j + 1 + 1 ≡ j + 2 = omega arith in
        subst (λ n. (get_or cells n d).key ≢ (get_or cells (j + 1) d).key) (sym e) (alone.last d (omega (arith, l)))

    pub alone_behind : listed_after cells j ≡ Some (j + 1)
    alone_behind =
        let c = get_or cells j any_cell in
        let d = get_or cells (j + 1) any_cell in
        let here : j + 1 ≡ count_by (λ x. nat_le x.key c.key) cells = ends j within (λ x l. alone.next x) in
        let next : j + 1 + 1 ≡ count_by (λ x. nat_le x.key d.key) cells = ends (j + 1) alone.within last in
        let back : last_of_key cells d.key ≡ j + 1 = omega (arith, next) in
        ap (listed_behind cells j) (slice_get-get_or cells j any_cell within)
        ∙ (ap (λ (b : Bool). if b then Some (j - 1) else last_with cells (slice_get cells (count_by (λ x. nat_le x.key c.key) cells))) first
        ∙ (ap (λ n. last_with cells (slice_get cells n)) (sym here)
        ∙ (ap (last_with cells) (slice_get-get_or cells (j + 1) any_cell alone.within)
        ∙ ap (λ n. Some n) back)))
