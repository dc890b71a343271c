-- The cell is put at its place, or agrees with the one there.
use Rattle.std.proofs.Common.{ℕ, ◌≡◌, ◌≤◌, arith, sym, ◌∙◌, ap, subst, length, Bool, true, false, List, nat_lt, if◌then◌else◌, get_or}
use Rattle.std.specs.Prelude.{insert, remove}
use Rattle.std.proofs.lemmas.List.Edits.{length-insert}
use Rattle.kw_cells.specs.InOrder.{AreInOrder, index_in, stands_before, with_cell}
use Rattle.kw_cells.specs.declared.cell.Cell.{Cell}
use Rattle.kw_cells.proofs.InOrder.{IsNewAt, with_cell-new, with_cell-known, with_cell-in_order, remove-insert}
use Rattle.kw_world.proofs.gathered.Gathered.put_between.Given as given
use Rattle.kw_world.proofs.gathered.Gathered.put_between.Goals as goal

-- the test at the place, over the cells as they are
new_at : (c : Cell) (xs ys zs : List Cell) (n : ℕ) (b : Bool) → ys ≡ xs → zs ≡ xs → n ≡ index_in c ys → b ≡ (if nat_lt n (length zs) then stands_before c (get_or zs n c) else true) → (n ≡ index_in c xs) × IsNewAt c xs n b
new_at c xs ys zs n b e f p t = (rw e at p, rw f at (sym t))

pub returns-then-not-is_new-clause-gathered : goal.returns-then-not-is_new-clause-gathered
returns-then-not-is_new-clause-gathered g c =
    let t = new_at c.args.cell c.args.self.now c.as_slice.result.now c.as_slice-2.result.now c.index_in-at.result false (c.as_slice.ensures.value ∙ c.self.view_is) (c.as_slice-2.ensures.value ∙ c.self.view_is) c.index_in-at.ensures.place (sym c.if-not-is_new.true ∙ c.is_new.ensures) in
    sym (with_cell-known c.args.cell c.args.self.now c.index_in-at.result t.0 t.1)

added : (g : given.Over) (c : goal.After-insert g) → c.insert.new.self.items ≡ with_cell c.args.cell c.args.self.now
added g c =
    let t = new_at c.args.cell c.args.self.now c.as_slice.result.now c.as_slice-2.result.now c.index_in-at.result true (c.as_slice.ensures.value ∙ c.self.view_is) (c.as_slice-2.ensures.value ∙ c.self.view_is) c.index_in-at.ensures.place (sym c.if-not-is_new.false ∙ c.is_new.ensures) in
    c.insert.ensures.items ∙ ap (λ (xs : List Cell). insert xs c.index_in-at.result c.args.cell) c.self.view_is ∙ sym (with_cell-new c.args.cell c.args.self.now c.index_in-at.result t.0 t.1)

pub invariant_of-self : goal.invariant_of-self
invariant_of-self g c = subst AreInOrder (sym (added g c)) (with_cell-in_order c.args.cell c.args.self.now (subst AreInOrder c.self.view_is c.self.invariant))

pub returns-clause-gathered : goal.returns-clause-gathered
returns-clause-gathered g c = added g c

pub returns-clause-put : goal.returns-clause-put
returns-clause-put g c =
    let w : c.index_in-at.result ≤ length c.args.self.now = omega (arith, c.index_in-at.ensures.within, ap length c.as_slice.ensures.value, ap length c.self.view_is) in
    let e = c.insert.ensures.items ∙ ap (λ (xs : List Cell). insert xs c.index_in-at.result c.args.cell) c.self.view_is in
    (omega (arith, ap length e, length-insert c.args.self.now c.index_in-at.result c.args.cell w), ap (λ (xs : List Cell). remove xs c.index_in-at.result) e ∙ remove-insert c.args.cell c.args.self.now c.index_in-at.result w)
