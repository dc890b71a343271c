-- The attempt beside the first cell of a place.
use Rattle.std.proofs.Common.{ℕ, zero, suc, ◌≡◌, ◌≢◌, ◌<◌, List, [], ◌∷◌, None, get_or, slice_get, length, arith, refl, eq-eqb, ne_eqb}
use Rattle.kw_cells.specs.declared.cell.Cell as kw_cell
use Rattle.kw_core.specs.Run.{id_at}

-- what stands past the end of the cells
abbrev pub no_cell : kw_cell.Cell
no_cell = record { key = 0; version = 0; place = 0; value = None }

-- it is the one beside the cell of this place before which there is none
pub id_found : (place i : ℕ) (cells : List kw_cell.Cell) (ids : List ℕ) → ((k : ℕ) → k < i → (get_or cells k no_cell).place ≢ place) → i < length cells → (get_or cells i no_cell).place ≡ place → id_at place cells ids ≡ slice_get ids i
id_found place i [] ids before w is = absurd (omega arith)
id_found place zero (c ∷ cells) [] before w is = refl
id_found place (suc i) (c ∷ cells) [] before w is = refl
id_found place zero (c ∷ cells) (p ∷ ids) before w is = rw (eq-eqb c.place place is) refl
id_found place (suc i) (c ∷ cells) (p ∷ ids) before w is = rw (ne_eqb c.place place (before zero (omega arith))) (id_found place i cells ids (λ k o. before (suc k) (omega (arith, o))) (omega (arith, w)) is)

-- where no cell has the place, there is none
pub id_absent : (place : ℕ) (cells : List kw_cell.Cell) (ids : List ℕ) → ((k : ℕ) → k < length cells → (get_or cells k no_cell).place ≢ place) → id_at place cells ids ≡ None
id_absent place [] ids before = refl
id_absent place (c ∷ cells) [] before = refl
id_absent place (c ∷ cells) (p ∷ ids) before = rw (ne_eqb c.place place (before zero (omega arith))) (id_absent place cells ids (λ k o. before (suc k) (omega (arith, o))))
