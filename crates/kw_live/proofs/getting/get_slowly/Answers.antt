use Rattle.std.proofs.Common.{◌∙◌, ap, subst, sym}
use Rattle.kw_model.specs.Map.{found}
use Rattle.kw_follow.specs.Calling.{Closes}
use Rattle.kw_follow.proofs.OwnEvents.{goes_trans}
use Rattle.kw_live.proofs.Gets.{get_absent, get_reads, get_replies, leaves_with}
use Rattle.kw_live.proofs.getting.get_slowly.Goals as goal
use Rattle.kw_live.proofs.getting.get_slowly.Goals.{in-Value, in_default}

pub returns : goal.returns
returns c =
    let at = get_reads c.args.key c.args.local.now c.read_row.new.local _ _ c.requires.call c.read_row.ensures.read in
    let both = c.leave.ensures.closes _ (leaves_with _ c.read_row.ensures.on.follows at) in
    let closes = get_replies _ _ c.leave.result both in
    record {
      goes = goes_trans _ _ _ _ c.read_row.ensures.on.goes c.leave.ensures.goes;
      idle = c.leave.ensures.idle;
      rests = c.leave.ensures.rests;
      before = c.read_row.new.pass;
      calls = c.read_row.ensures.on.calls;
      closes = elim c.match-leave.branch [
        | in-Value w ↦ subst (Closes c.read_row.new.pass c.leave.new.pass) (w.in-Value.is ∙ sym (ap found w.result-is)) closes
        | in_default w ↦ subst (Closes c.read_row.new.pass c.leave.new.pass) (get_absent _ c.leave.result both.1 w.in_default.not-Value ∙ sym (ap found w.result-is)) closes
      ];
    }
