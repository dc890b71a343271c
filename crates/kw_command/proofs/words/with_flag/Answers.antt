-- The flag.
use Rattle.std.proofs.Common.{◌≡◌, Some, false, codes, ◌∙◌, ap}
use Rattle.std.proofs.lemmas.Result.{IfOk-weaker}
use Rattle.clap.specs.Words.{Rule, new_rule, with_rule, rule_of}
use Rattle.clap.specs.declared.builder.action.ArgAction.TheVariants.{SetTrue}
use Rattle.clap.specs.declared.builder.arg.Arg.{Arg}
use Rattle.kw_command.specs.Clap.{flag_rule}
use Rattle.kw_command.proofs.words.with_flag.Goals as goal

pub returns : goal.returns
returns c =
    let flag_long : rule_of c.long.result ≡ record (new_rule (codes "record")) { long = Some (codes "record") } = ap rule_of c.long.ensures ∙ ap (λ (x : Rule). record x { long = Some (codes "record") }) c.new.ensures.rule in
    let flag_is : rule_of c.action-recorded.result ≡ flag_rule = ap rule_of c.action-recorded.ensures ∙ ap (λ (x : Rule). record x { action = Some SetTrue }) flag_long in
    let flag_global : c.action-recorded.result.global ≡ false = ap (λ (a : Arg). a.global) c.action-recorded.ensures ∙ (ap (λ (a : Arg). a.global) c.long.ensures ∙ c.new.ensures.optional.1) in
    IfOk-weaker c.arg.result _ _ (λ r h. h.shape flag_global ∙ ap (with_rule _) flag_is) c.arg.ensures
