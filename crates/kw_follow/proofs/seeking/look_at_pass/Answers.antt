use Rattle.std.proofs.Common.{◌∙◌, ◌+◌, ◌<◌, arith, sym}
use Rattle.kw_words.specs.declared.sizes.TheConstants.{SEATS}
use Rattle.kw_world.specs.declared.activity.Activity.TheVariants as Activity
use Rattle.kw_world.specs.declared.activity.rebalance.Rebalance.TheVariants as Rebalance
use Rattle.kw_world.specs.declared.activity.rebalance.seek.Seek.TheVariants as Seek
use Rattle.kw_follow.proofs.BuildEvents.{named_below}
use Rattle.kw_follow.proofs.EngageEvents.{balance_part}
use Rattle.kw_follow.proofs.Moving.{moves, moves_at}
use Rattle.kw_follow.proofs.OneEvent.{follows_ranges, follows_room}
use Rattle.kw_follow.proofs.PutEvents.{asks_at}
use Rattle.kw_follow.proofs.SeekEvents.{pass_next}
use Rattle.kw_follow.proofs.seeking.look_at_pass.Goals as goal

pub load_pass-told-requires : goal.load_pass-told-requires
load_pass-told-requires c = asks_at _ _ c.args.local.now (Activity.Rebalance (Rebalance.Seek (Seek.Pass c.args.seat))) c.requires.follows c.requires.activity tt

pub overflow_add-seat : goal.overflow_add-seat
overflow_add-seat c =
    let below : c.args.seat < SEATS = named_below _ _ c.args.local.now c.requires.follows (Activity.Rebalance (Rebalance.Seek (Seek.Pass c.args.seat))) c.requires.activity in
    omega (arith, below)

pub rebalance_on-requires-clause-ranges : goal.rebalance_on-requires-clause-ranges
rebalance_on-requires-clause-ranges c = follows_ranges _ _ _ c.requires.follows

pub rebalance_on-requires-clause-room : goal.rebalance_on-requires-clause-room
rebalance_on-requires-clause-room c = follows_room _ _ _ c.requires.follows

pub rebalance_on-requires-clause-part : goal.rebalance_on-requires-clause-part
rebalance_on-requires-clause-part c = balance_part c.args.local.now (Rebalance.Seek (Seek.Pass c.args.seat)) c.requires.activity

pub returns : goal.returns
returns c = moves c.load_pass-told.ensures c.rebalance_on.ensures

pub returns-then-not-may_hold : goal.returns-then-not-may_hold
returns-then-not-may_hold c =
    moves_at (Activity.Rebalance (Rebalance.Seek (Seek.Pass c.args.seat))) c.requires c.load_pass-told.ensures
    (c.to.ensures
    ∙ (sym (pass_next (c.args.seat + 1) c.args.local.now c.if-seat-lt-SEAT_COUNT.true)
    ∙ sym (c.may_hold.ensures c.if-not-may_hold.true c.args.shared.now.opening.rows c.args.seat)))
