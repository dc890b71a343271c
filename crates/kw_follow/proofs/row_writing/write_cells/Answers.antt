use Rattle.std.proofs.Common.{◌≡◌, ◌<◌, ◌∙◌, arith, ap, length, List, refl, slice_get, Some, sym}
use Rattle.kw_cells.specs.declared.cell.Cell.{Cell}
use Rattle.kw_cells.specs.Cells.{value_in}
use Rattle.kw_words.specs.declared.layout.Name.TheVariants.{After, Key, Value, Version}
use Rattle.kw_words.specs.Plain.{key_word, value_word, version_word}
use Rattle.kw_world.specs.declared.activity.rebalance.write.Write.TheVariants as Write
use Rattle.kw_world.specs.WriteTransitions.{infant_cells, key_in, version_in}
use Rattle.kw_follow.proofs.RowWriting.{asks_word, cell_next, key_written, link_written, value_written, version_written}
use Rattle.kw_follow.proofs.row_writing.write_cells.Goals as goal
use Rattle.kw_follow.proofs.Advancing.{advances_as, advances_none}

pub infant_cells-cells-requires : goal.infant_cells-cells-requires
infant_cells-cells-requires c = c.requires.ranges

pub loop-place-init : goal.loop-place-init
loop-place-init c = record { within = omega arith; on = advances_none c.requires.follows }

pub word_behind-behind-requires-clause-ranges : goal.word_behind-behind-requires-clause-ranges
word_behind-behind-requires-clause-ranges c = c.requires.ranges

pub word_behind-behind-requires-clause-rising : goal.word_behind-behind-requires-clause-rising
word_behind-behind-requires-clause-rising c = c.requires.rising

pub word_behind-behind-requires-clause-cells : goal.word_behind-behind-requires-clause-cells
word_behind-behind-requires-clause-cells c = c.infant_cells-cells.ensures.cells

pub word_behind-behind-requires-clause-few : goal.word_behind-behind-requires-clause-few
word_behind-behind-requires-clause-few c = c.infant_cells-cells.ensures.few

pub store_infant-requires : goal.store_infant-requires
store_infant-requires c =
    let within : c.loop-place.place < length (infant_cells c.args.local.now) = omega (arith, ap length c.infant_cells-cells.ensures.cells) in
    let next = advances_as (cell_next c.loop-place.place c.args.local.now (omega (arith, c.infant_cells-cells.ensures.few)) within) c.loop-place.invariant.on in
    let at : slice_get (infant_cells c.args.local.now) c.loop-place.place ≡ Some c.cell_at-cell.result = ap (λ (cells : List Cell). slice_get cells c.loop-place.place) (sym c.infant_cells-cells.ensures.cells) ∙ c.cell_at-cell.ensures.cell in
    asks_word c.args.local.now (Write.Key c.loop-place.place) next.follows (ap (λ row. Key row c.loop-place.place) c.infant-row.ensures)
    (c.pack_key-key.ensures.value ∙ ap (λ o. key_word (key_in o)) (sym at)) refl

pub store_infant-requires-in-loop-place : goal.store_infant-requires-in-loop-place
store_infant-requires-in-loop-place c =
    let within : c.loop-place.place < length (infant_cells c.args.local.now) = omega (arith, ap length c.infant_cells-cells.ensures.cells) in
    let next = advances_as (cell_next c.loop-place.place c.args.local.now (omega (arith, c.infant_cells-cells.ensures.few)) within) c.loop-place.invariant.on in
    let at : slice_get (infant_cells c.args.local.now) c.loop-place.place ≡ Some c.cell_at-cell.result = ap (λ (cells : List Cell). slice_get cells c.loop-place.place) (sym c.infant_cells-cells.ensures.cells) ∙ c.cell_at-cell.ensures.cell in
    asks_word c.args.local.now (Write.Value c.loop-place.place) (key_written c.args.local.now c.loop-place.place next c.store_infant.ensures).follows (ap (λ row. Value row c.loop-place.place) c.infant-row.ensures)
    (c.pack_value-value.ensures.value ∙ ap (λ o. value_word (value_in o)) (sym at)) refl

pub store_infant-requires-in-loop-place-2 : goal.store_infant-requires-in-loop-place-2
store_infant-requires-in-loop-place-2 c =
    let within : c.loop-place.place < length (infant_cells c.args.local.now) = omega (arith, ap length c.infant_cells-cells.ensures.cells) in
    let next = advances_as (cell_next c.loop-place.place c.args.local.now (omega (arith, c.infant_cells-cells.ensures.few)) within) c.loop-place.invariant.on in
    let at : slice_get (infant_cells c.args.local.now) c.loop-place.place ≡ Some c.cell_at-cell.result = ap (λ (cells : List Cell). slice_get cells c.loop-place.place) (sym c.infant_cells-cells.ensures.cells) ∙ c.cell_at-cell.ensures.cell in
    let keyed = key_written c.args.local.now c.loop-place.place next c.store_infant.ensures in
    asks_word c.args.local.now (Write.Version c.loop-place.place) (value_written c.args.local.now c.loop-place.place keyed c.store_infant-in-loop-place.ensures).follows (ap (λ row. Version row c.loop-place.place) c.infant-row.ensures)
    (c.pack_version-version.ensures.value ∙ ap (λ o. version_word (version_in o)) (sym at)) refl

pub store_infant-requires-in-loop-place-3 : goal.store_infant-requires-in-loop-place-3
store_infant-requires-in-loop-place-3 c =
    let within : c.loop-place.place < length (infant_cells c.args.local.now) = omega (arith, ap length c.infant_cells-cells.ensures.cells) in
    let next = advances_as (cell_next c.loop-place.place c.args.local.now (omega (arith, c.infant_cells-cells.ensures.few)) within) c.loop-place.invariant.on in
    let keyed = key_written c.args.local.now c.loop-place.place next c.store_infant.ensures in
    let valued = value_written c.args.local.now c.loop-place.place keyed c.store_infant-in-loop-place.ensures in
    asks_word c.args.local.now (Write.After c.loop-place.place) (version_written c.args.local.now c.loop-place.place within valued c.store_infant-in-loop-place-2.ensures).follows (ap (λ row. After row c.loop-place.place) c.infant-row.ensures)
    c.word_behind-behind.ensures refl

pub overflow_add-place : goal.overflow_add-place
overflow_add-place c = omega (arith, c.infant_cells-cells.ensures.few)

pub loop-place-preserved : goal.loop-place-preserved
loop-place-preserved c =
    let within : c.loop-place.place < length (infant_cells c.args.local.now) = omega (arith, ap length c.infant_cells-cells.ensures.cells) in
    let next = advances_as (cell_next c.loop-place.place c.args.local.now (omega (arith, c.infant_cells-cells.ensures.few)) within) c.loop-place.invariant.on in
    let keyed = key_written c.args.local.now c.loop-place.place next c.store_infant.ensures in
    let valued = value_written c.args.local.now c.loop-place.place keyed c.store_infant-in-loop-place.ensures in
    let versioned = version_written c.args.local.now c.loop-place.place within valued c.store_infant-in-loop-place-2.ensures in
    record { within = omega (arith, within); on = link_written c.args.local.now c.loop-place.place versioned c.store_infant-in-loop-place-3.ensures }

pub loop-place-smaller : goal.loop-place-smaller
loop-place-smaller c = omega (arith, ap length c.infant_cells-cells.ensures.cells)
