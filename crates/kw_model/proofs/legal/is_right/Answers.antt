-- That the answer equals the reply decides whether the reply is right.
use Rattle.std.proofs.Common.{Bool, ◌≡◌, sym, ◌∙◌, subst, Decides}
use Rattle.kw_model.specs.Snapshots.{state_answer}
use Rattle.kw_model.proofs.Replies.{same_reply_decides, right_from_same}
use Rattle.kw_model.proofs.legal.is_right.Goals as goal

pub returns-clause-right : goal.returns-clause-right
returns-clause-right c =
    let a = c.in_ok-apply.field-0 in
    let r = c.args.reply.now in
    right_from_same c.args.call.now a r (state_answer c.args.map.now c.args.seat c.args.call.now) c.eq.result (sym c.may_refuse.ensures ∙ c.if-may_refuse.false) c.in_ok-apply.ensures.answer
    (subst (λ (b : Bool). Decides b (a ≡ r)) (sym c.eq.ensures) (same_reply_decides a r))
