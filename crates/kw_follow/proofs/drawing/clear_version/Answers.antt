use Rattle.std.proofs.Common.{◌∙◌}
use Rattle.kw_follow.proofs.DrawEvents.{asks_clear, clears_at}
use Rattle.kw_follow.proofs.Moving.{moves}
use Rattle.kw_follow.proofs.drawing.clear_version.Goals as goal

pub clear_scan-requires : goal.clear_scan-requires
clear_scan-requires c = asks_clear _ _ c.args.choice c.args.local.now c.args.answer _ _ c.requires.follows c.requires.activity c.number.ensures c.pack-quiet.ensures.value

pub returns : goal.returns
returns c = moves c.clear_scan.ensures (c.end_scan.ensures ∙ clears_at _ c.args.choice c.args.answer c.args.local.now _ c.requires.activity)
