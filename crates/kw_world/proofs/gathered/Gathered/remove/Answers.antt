-- What is left of cells in order is in order.
use Rattle.std.proofs.Common.{◌≡◌, sym, subst, true}
use Rattle.std.proofs.lemmas.List.Quantifiers.{all_pairs_remove}
use Rattle.kw_cells.specs.InOrder.{stands_before, AreInOrder}
use Rattle.kw_world.proofs.gathered.Gathered.remove.Goals as goal

pub invariant_of-self : goal.invariant_of-self
invariant_of-self g c = subst AreInOrder (sym c.remove.ensures.items) (all_pairs_remove (λ x y. stands_before x y ≡ true) c.self.inside.cells.items c.args.at (rw c.self.view_is c.requires) c.self.invariant)
