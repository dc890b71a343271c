-- A cell with a value in range is put among such cells, or there is no room.
use Rattle.std.specs.Prelude.{All, Bool, true, false, if◌then◌else◌, length, nat_lt}
use Rattle.std.proofs.Common.{subst, sym}
use Rattle.kw_words.specs.declared.sizes.TheConstants.{CELLS}
use Rattle.kw_words.specs.Plain.{IsValue}
use Rattle.kw_cells.specs.declared.cell.Cell.{Cell}
use Rattle.kw_cells.specs.InOrder.{with_cell}
use Rattle.kw_cells.proofs.InOrder.{with_cell-all}
use Rattle.kw_map_tests.proofs.gatherers.add.Goals as goal

pub returns : goal.returns
returns c = subst (All (λ x. IsValue x.value)) (sym c.gather.ensures.gathered) (which (nat_lt (length c.args.row.now) CELLS))
  where
    cell : Cell
    cell = record { key = c.args.key; place = c.args.place; version = c.args.version; value = c.args.value }

    which : (b : Bool) → All (λ x. IsValue x.value) (if b then with_cell cell c.args.row.now else c.args.row.now)
    which true = with_cell-all (λ x. IsValue x.value) cell c.args.row.now c.requires.value c.requires.values
    which false = c.requires.values
