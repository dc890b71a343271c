use Rattle.kw_follow.proofs.Ends.{end_idles, end_replies, end_rests, ends}
use Rattle.kw_follow.proofs.Growing.{closes}
use Rattle.kw_follow.proofs.Moving.{went_in}
use Rattle.kw_follow.proofs.OwnEvents.{only_event}
use Rattle.kw_follow.proofs.going.end.Goals as goal

pub returns-clause-idle : goal.returns-clause-idle
returns-clause-idle c = end_idles (went_in c.requires.follows c.clear_epoch-done.ensures) c.requires.leaving.0 c.requires.leaving.1

pub returns-clause-rests : goal.returns-clause-rests
returns-clause-rests c = end_rests _ _ _ _ _ _ _ c.requires.leaving.0 c.requires.follows c.requires.leaving.1 c.clear_epoch-done.ensures.line

pub returns-clause-closes : goal.returns-clause-closes
returns-clause-closes c = λ answer is.
    let done = end_replies (went_in c.requires.follows c.clear_epoch-done.ensures) answer is in
    (closes answer c.clear_epoch-done.ensures.makes is, cc)

pub returns-clause-only : goal.returns-clause-only
returns-clause-only c = (c.clear_epoch-done.ensures.told, only_event c.clear_epoch-done.ensures.makes)

pub unreachable-requires : goal.unreachable-requires
unreachable-requires c = c.in_default.not-Leave c.requires.leaving.0 c.requires.leaving.1

pub unreachable-requires-in-Moved : goal.unreachable-requires-in-Moved
unreachable-requires-in-Moved c =
    let done = ends _ _ _ _ _ _ c.requires.leaving.1 c.clear_epoch-done.ensures.line in
    cc

pub unreachable-requires-in-Skipped : goal.unreachable-requires-in-Skipped
unreachable-requires-in-Skipped c =
    let done = ends _ _ _ _ _ _ c.requires.leaving.1 c.clear_epoch-done.ensures.line in
    cc
