-- The cells are known, and the test of their order computes.
use Rattle.std.proofs.Common.{List, [], ◌∷◌, Some, None, refl}
use Rattle.kw_cells.specs.declared.cell.Cell.{Cell}
use Rattle.kw_cells.proofs.InOrder.{in_order-yes}
use Rattle.kw_words_tests.proofs.cells.ordered_row.Goals as goal

-- the row of the tests
cells : List Cell
cells = record { key = 5; place = 6; version = 2; value = Some 52 } ∷
    record { key = 5; place = 4; version = 2; value = Some 50 } ∷
    record { key = 5; place = 0; version = 1; value = Some 51 } ∷
    record { key = 7; place = 5; version = 3; value = None } ∷
    record { key = 7; place = 1; version = 1; value = Some 71 } ∷
    record { key = 9; place = 3; version = 8; value = Some 98 } ∷ []

pub returns : goal.returns
unfolding cells
returns c = in_order-yes cells refl
