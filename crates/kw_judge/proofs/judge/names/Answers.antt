use Rattle.std.proofs.Common.{map, ap, sym, ◌∙◌}
use Rattle.std.proofs.lemmas.List.{append-nil}
use Rattle.kw_judge.specs.declared.record.DoneCall.{DoneCall}
use Rattle.kw_judge.proofs.judge.names.Goals as goal

pub loop-call-init : goal.loop-call-init
loop-call-init c = c.in_ok-names.ensures ∙ ap (map (λ (d : DoneCall). d.name)) c.done.ensures.value ∙ sym (append-nil _)
