use Rattle.std.proofs.Common.{arith, refl, sym, ◌∙◌}
use Rattle.kw_follow.specs.Within.{looking}
use Rattle.kw_follow.proofs.WayEvents.{entry_below}
use Rattle.kw_live.proofs.LookStages.{begins_looking, idle_is, looking_on, goes_by_idle}
use Rattle.kw_live.proofs.looking.look_along.Goals as goal

pub loop-at-init : goal.loop-at-init
loop-at-init c = λ k f. begins_looking _ _ (looking c.args.entry k) _ f refl

pub load_entry-found-requires : goal.load_entry-found-requires
load_entry-found-requires c = (c.requires.0, (c.loop-at.invariant c.requires.0 c.requires.1).follows, c.requires.2)

pub overflow_add-next : goal.overflow_add-next
overflow_add-next c = let on = c.loop-at.invariant c.requires.0 c.requires.1 in grind (arith, entry_below _ _ (looking c.loop-at.at c.requires.0) c.loop-at.at on.follows refl)

pub loop-at-smaller : goal.loop-at-smaller
loop-at-smaller c =
    let on = c.loop-at.invariant c.requires.0 c.requires.1 in
    (goes_by_idle c.requires.0 c.loop-at.at on.follows c.load_entry-found.ensures (idle_is _ (sym c.is_idle.ensures ∙ c.if-is_idle.true)) c.if-next-lt-SEAT_COUNT.true).fewer

pub loop-at-preserved : goal.loop-at-preserved
loop-at-preserved c = λ k f.
    let on = c.loop-at.invariant k f in
    looking_on on (goes_by_idle k c.loop-at.at on.follows c.load_entry-found.ensures (idle_is _ (sym c.is_idle.ensures ∙ c.if-is_idle.true)) c.if-next-lt-SEAT_COUNT.true)

pub returns-else-next-lt-SEAT_COUNT : goal.returns-else-next-lt-SEAT_COUNT
returns-else-next-lt-SEAT_COUNT c = λ k f same. record { before = c.loop-at.pass; on = c.loop-at.invariant k f; makes = c.load_entry-found.ensures }
