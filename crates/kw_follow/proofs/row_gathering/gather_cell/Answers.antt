use Rattle.std.proofs.Common.{arith, refl, subst, sym, ◌<◌, ℕ}
use Rattle.kw_words.specs.declared.kind.Kind.TheVariants as kind
use Rattle.kw_words.specs.declared.layout.Name.TheVariants.{Key, Value, Version}
use Rattle.kw_words.specs.declared.sizes.TheConstants.{CELLS}
use Rattle.kw_words.specs.Plain.{value_of_word}
use Rattle.kw_world.specs.declared.activity.Activity.TheVariants as Activity
use Rattle.kw_world.specs.declared.activity.rebalance.Rebalance.TheVariants as Rebalance
use Rattle.kw_world.specs.declared.activity.rebalance.gather.Gather.TheVariants as Gather
use Rattle.kw_world.specs.declared.event.Choice.TheVariants.{Go}
use Rattle.kw_world.specs.declared.operation.Action.TheVariants.{Load}
use Rattle.kw_table.specs.Passes.{Asks, operation}
use Rattle.kw_follow.specs.BuildsOn.{taking_at}
use Rattle.kw_follow.proofs.OneEvent.{follows_ranges}
use Rattle.kw_follow.proofs.PutEvents.{asks_at}
use Rattle.kw_follow.proofs.RowGathering.{cell_kept, in_hand, key_told, value_told, version_told}
use Rattle.kw_follow.proofs.row_gathering.gather_cell.Goals as goal
use Rattle.kw_follow.proofs.Reaching.{advances_trans}

pub load_key-key-requires : goal.load_key-key-requires
load_key-key-requires c = subst (λ (r : ℕ). Asks c.args.shared.now c.args.pass.now Go (operation kind.LoadKey (Key r c.args.cursor.place) Load)) (sym c.requires.hand.row) (asks_at c.args.shared.now c.args.pass.now (taking_at Gather.Key c.args.cursor c.args.local.now) (Activity.Rebalance (Rebalance.Gather Gather.Key)) c.requires.follows refl tt)

pub load_version-version-requires : goal.load_version-version-requires
load_version-version-requires c =
    let keyed = key_told c.args.local.now c.args.cursor c.with_key-keyed.result _ c.with_key-keyed.ensures c.unpack_key.ensures.value c.requires.follows c.load_key-key.ensures in
    subst (λ (r : ℕ). Asks c.args.shared.now c.load_key-key.new.pass Go (operation kind.LoadVersion (Version r c.with_key-keyed.result.place) Load)) (sym c.requires.hand.row) (asks_at c.args.shared.now c.load_key-key.new.pass (taking_at Gather.Version c.with_key-keyed.result c.args.local.now) (Activity.Rebalance (Rebalance.Gather Gather.Version)) keyed.follows refl tt)

pub load_value-value-requires : goal.load_value-value-requires
load_value-value-requires c =
    let keyed = key_told c.args.local.now c.args.cursor c.with_key-keyed.result _ c.with_key-keyed.ensures c.unpack_key.ensures.value c.requires.follows c.load_key-key.ensures in
    let read = version_told c.args.local.now c.with_key-keyed.result c.with_version-read.result c.with_version-read.ensures keyed.follows c.load_version-version.ensures in
    subst (λ (r : ℕ). Asks c.args.shared.now c.load_version-version.new.pass Go (operation kind.LoadValue (Value r c.with_version-read.result.place) Load)) (sym c.requires.hand.row) (asks_at c.args.shared.now c.load_version-version.new.pass (taking_at Gather.Value c.with_version-read.result c.args.local.now) (Activity.Rebalance (Rebalance.Gather Gather.Value)) read.follows refl tt)

pub cell_of_group-cell-requires-clause-within : goal.cell_of_group-cell-requires-clause-within
cell_of_group-cell-requires-clause-within c = c.requires.hand.within

pub cell_of_group-cell-requires-clause-place : goal.cell_of_group-cell-requires-clause-place
cell_of_group-cell-requires-clause-place c =
    let keyed = key_told c.args.local.now c.args.cursor c.with_key-keyed.result _ c.with_key-keyed.ensures c.unpack_key.ensures.value c.requires.follows c.load_key-key.ensures in
    let read = version_told c.args.local.now c.with_key-keyed.result c.with_version-read.result c.with_version-read.ensures keyed.follows c.load_version-version.ensures in
    let place : c.with_version-read.result.place < CELLS = (follows_ranges _ _ _ read.follows).place in
    omega (arith, place)

pub returns-clause-on : goal.returns-clause-on
returns-clause-on c =
    let keyed = key_told c.args.local.now c.args.cursor c.with_key-keyed.result _ c.with_key-keyed.ensures c.unpack_key.ensures.value c.requires.follows c.load_key-key.ensures in
    let read = version_told c.args.local.now c.with_key-keyed.result c.with_version-read.result c.with_version-read.ensures keyed.follows c.load_version-version.ensures in
    let cell = in_hand c.args.local.now c.with_version-read.result (value_of_word c.load_value-value.result) c.requires.hand c.cell_of_group-cell.ensures in
    let valued = value_told c.args.local.now c.with_version-read.result c.past.result c.gather.new.self c.past.ensures (cell_kept c.args.local.now c.with_version-read.result cell c.gather.ensures.gathered) read.follows c.load_value-value.ensures in
    advances_trans keyed (advances_trans read valued)

pub returns-clause-hand : goal.returns-clause-hand
returns-clause-hand c = record { row = c.requires.hand.row; base = c.requires.hand.base; within = c.requires.hand.within }
