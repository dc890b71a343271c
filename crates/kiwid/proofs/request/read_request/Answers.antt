use Rattle.std.proofs.Common.{ap, ◌∙◌}
use Rattle.kw_line.specs.Line.{item_text}
use Rattle.kiwid.proofs.Cuts.{not_wait}
use Rattle.kiwid.proofs.request.read_request.Goals as goal

pub returns-in-Wait : goal.returns-in-Wait
returns-in-Wait c = not_wait c.args.line.now ((c.in_ok-call.ensures {u = tt}).1 ∙ ap item_text c.in-Wait.is)
