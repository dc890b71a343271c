-- The verdict on the record that was read.
use Rattle.std.proofs.Common.{refl}
use Rattle.kw_app.proofs.judging.judged.Goals as goal

pub returns-clause-text : goal.returns-clause-text
returns-clause-text c = (
  refl,
  record {
    written = c.in_ok-written.written;
    text = c.in_ok-written.ensures.record;
    only = c.in_ok-written.ensures.only;
    verdict_on = record {
      told = c.in_ok-verdict.verdict;
      is_verdict = (c.in_ok-verdict.ensures c.in_ok-verdict.verdict).0 refl;
      text_is = c.in_ok-text.ensures;
      ending_is = c.ending_of.ensures;
    };
  },
)
