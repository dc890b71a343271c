-- The cell is put behind the others, or at its place among them, or finds no room.
use Rattle.std.proofs.Common.{ℕ, ◌≡◌, ◌≤◌, ◌==◌, arith, refl, sym, ◌∙◌, ap, subst, length, true, false, List, nat_lt, [], ◌∷◌, ◌++◌}
use Rattle.std.proofs.lemmas.Bool.Decides.{nat_tests}
use Rattle.std.proofs.lemmas.List.Edits.{insert_end}
use Rattle.kw_cells.specs.InOrder.{AreInOrder, index_in, with_cell}
use Rattle.kw_cells.specs.declared.cell.Cell.{Cell}
use Rattle.kw_cells.proofs.InOrder.{with_cell-new, with_cell-in_order}
use Rattle.kw_world.proofs.gathered.Gathered.gather.Given as given
use Rattle.kw_world.proofs.gathered.Gathered.gather.Goals as goal

-- there is room
has_room : (n most : ℕ) → n ≤ most → (n == most) ≡ false → nat_lt n most ≡ true
has_room n most u e = grind (arith, nat_tests)

-- a cell whose place is behind all of them is put at the end
at_end : (c : Cell) (xs : List Cell) → index_in c xs ≡ length xs → with_cell c xs ≡ xs ++ c ∷ []
at_end c xs e =
    let n : nat_lt (length xs) (length xs) ≡ false = grind (arith, nat_tests) in
    with_cell-new c xs (length xs) (sym e) (rw n refl) ∙ insert_end xs c

added : (g : given.Over) (c : goal.After-push g) → c.push.new.self.items ≡ with_cell c.args.cell c.args.self.now
added g c =
    let same = c.as_slice.ensures.value ∙ c.self.view_is in
    let behind : index_in c.args.cell c.args.self.now ≡ length c.args.self.now = rw same at c.is_behind.ensures.0 c.if-is_behind.true in
    c.push.ensures.items ∙ ap (λ (xs : List Cell). xs ++ c.args.cell ∷ []) c.self.view_is ∙ sym (at_end c.args.cell c.args.self.now behind)

pub invariant_of-self : goal.invariant_of-self
invariant_of-self g c = subst AreInOrder (sym (added g c)) (with_cell-in_order c.args.cell c.args.self.now (subst AreInOrder c.self.view_is c.self.invariant))

pub returns-then-is_behind-clause-gathered : goal.returns-then-is_behind-clause-gathered
returns-then-is_behind-clause-gathered g c =
    let e = has_room (length c.args.self.now) g.row.MOST (omega (arith, c.is_full.ensures.fits, ap length c.self.view_is)) (rw c.self.view_is at (sym c.is_full.ensures.value ∙ c.if-is_full.false)) in
    rw e (added g c)
