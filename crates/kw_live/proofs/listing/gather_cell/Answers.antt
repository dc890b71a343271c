use Rattle.std.proofs.Common.{refl}
use Rattle.kw_live.proofs.CursorEvents.{value_told, version_told}
use Rattle.kw_live.proofs.ReadEvent.{reads_trans}
use Rattle.kw_live.proofs.listing.gather_cell.Goals as goal

pub load_version-version-requires : goal.load_version-version-requires
load_version-version-requires c = (c.args.local.now, c.requires)

pub load_value-value-requires : goal.load_value-value-requires
load_value-value-requires c = (c.args.local.now, (version_told c.args.local.now _ _ c.with_version-read.ensures c.requires (c.load_version-version.ensures c.args.local.now c.requires)).follows)

pub returns : goal.returns
returns c =
    let told = version_told c.args.local.now _ _ c.with_version-read.ensures c.requires (c.load_version-version.ensures c.args.local.now c.requires) in
    reads_trans _ _ _ _ _ _ _ refl told (value_told c.args.local.now _ _ _ c.past.ensures c.gather.ensures told.follows (c.load_value-value.ensures c.args.local.now told.follows))
