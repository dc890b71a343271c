-- What the four steps add.
use Rattle.std.proofs.Common.{true, ap, ◌∙◌}
use Rattle.std.proofs.lemmas.Result.{IfOk-weaker}
use Rattle.clap.specs.Words.{App, with_rule}
use Rattle.clap.specs.Simple.{app_of_fields, on_top}
use Rattle.kw_command.specs.Clap.{start, count, workers, rows, bucket, rule_for, flag_rule}
use Rattle.kw_command.proofs.words.parser.Goals as goal

pub returns : goal.returns
returns c =
    let none_is = ap app_of_fields c.disable_help_flag-program.ensures ∙ ap (on_top (λ s. record s { disable_help_flag = true })) c.new.ensures.app in
    let numbers_are = c.in_ok-program.ensures ∙ ap (λ (a : App). with_rule (with_rule a (rule_for start)) (rule_for count)) none_is in
    let options_are = c.in_ok-program-2.ensures ∙ ap (λ (a : App). with_rule (with_rule a (rule_for workers)) (rule_for rows)) numbers_are in
    let bucket_is = c.in_ok-program-3.ensures ∙ ap (λ (a : App). with_rule a (rule_for bucket)) options_are in
    IfOk-weaker c.with_flag.result _ _ (λ r h. h ∙ ap (λ (a : App). with_rule a flag_rule) bucket_is) c.with_flag.ensures
