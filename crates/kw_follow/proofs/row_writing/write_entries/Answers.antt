use Rattle.std.proofs.Common.{◌+◌, arith, ap, refl}
use Rattle.kw_words.specs.declared.layout.Name.TheVariants.{Pend}
use Rattle.kw_world.specs.declared.activity.rebalance.write.Write.TheVariants as Write
use Rattle.kw_follow.specs.BuildsOn.{at_entry}
use Rattle.kw_follow.proofs.RowWriting.{asks_word, entries_over, entry_next, wrote}
use Rattle.kw_follow.proofs.row_writing.write_entries.Goals as goal
use Rattle.kw_follow.proofs.Advancing.{advances_as, advances_none}

pub loop-seat-init : goal.loop-seat-init
loop-seat-init c = advances_none c.requires

pub store_infant-requires : goal.store_infant-requires
store_infant-requires c =
    let next = advances_as (entry_next c.loop-seat.seat c.args.local.now (omega arith)) c.loop-seat.invariant in
    asks_word c.args.local.now (Write.Entry c.loop-seat.seat) next.follows (ap (λ row. Pend row c.loop-seat.seat) c.infant-row.ensures) c.pack-idle.ensures.value refl

pub loop-seat-preserved : goal.loop-seat-preserved
loop-seat-preserved c =
    let next = advances_as (entry_next c.loop-seat.seat c.args.local.now (omega arith)) c.loop-seat.invariant in
    wrote c.args.local.now (at_entry (c.loop-seat.seat + 1) c.args.local.now) (Write.Entry c.loop-seat.seat) next c.store_infant.ensures refl

pub returns : goal.returns
returns c = advances_as (entries_over c.loop-seat.seat c.args.local.now (omega arith)) c.loop-seat.invariant
