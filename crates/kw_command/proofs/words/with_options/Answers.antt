-- The two options.
use Rattle.std.proofs.Common.{◌≡◌, Some, false, codes, ◌∙◌, ap, ap₂}
use Rattle.std.proofs.lemmas.Result.{IfOk-weaker}
use Rattle.clap.specs.Words.{Rule, new_rule, with_rule, rule_of}
use Rattle.clap.specs.declared.builder.arg.Arg.{Arg}
use Rattle.kw_command.specs.Clap.{workers, rows, rule_for, parser_of}
use Rattle.kw_command.proofs.Rules.{with_parser}
use Rattle.kw_command.proofs.words.with_options.Goals as goal

pub returns : goal.returns
returns c =
    let workers_range : c.range.result ≡ parser_of workers = rw (c.value_parser.ensures, c.new-2.ensures.start, c.new-2.ensures.end, c.from.ensures) at c.range.ensures in
    let workers_long : rule_of c.long.result ≡ record (new_rule (codes "workers")) { long = Some (codes "workers") } = ap rule_of c.long.ensures ∙ ap (λ (x : Rule). record x { long = Some (codes "workers") }) c.new.ensures.rule in
    let workers_is : rule_of c.value_parser-workers.result ≡ rule_for workers = with_parser c.long.result c.value_parser-workers.result _ _ (parser_of workers) c.value_parser-workers.ensures.others workers_long c.value_parser-workers.ensures.given.1 (c.value_parser-workers.ensures.given.2 ∙ workers_range) in
    let rows_range : c.range-2.result ≡ parser_of rows = rw (c.value_parser-2.ensures, c.new-4.ensures.start, c.new-4.ensures.end, c.from-2.ensures, c.from-3.ensures) at c.range-2.ensures in
    let rows_long : rule_of c.long-2.result ≡ record (new_rule (codes "rows")) { long = Some (codes "rows") } = ap rule_of c.long-2.ensures ∙ ap (λ (x : Rule). record x { long = Some (codes "rows") }) c.new-3.ensures.rule in
    let rows_is : rule_of c.value_parser-rows.result ≡ rule_for rows = with_parser c.long-2.result c.value_parser-rows.result _ _ (parser_of rows) c.value_parser-rows.ensures.others rows_long c.value_parser-rows.ensures.given.1 (c.value_parser-rows.ensures.given.2 ∙ rows_range) in
    let workers_global : c.value_parser-workers.result.global ≡ false = ap (λ (a : Arg). a.global) c.value_parser-workers.ensures.others ∙ (ap (λ (a : Arg). a.global) c.long.ensures ∙ c.new.ensures.optional.1) in
    let rows_global : c.value_parser-rows.result.global ≡ false = ap (λ (a : Arg). a.global) c.value_parser-rows.ensures.others ∙ (ap (λ (a : Arg). a.global) c.long-2.ensures ∙ c.new-3.ensures.optional.1) in
    let one_is = c.in_ok-arg.ensures.shape workers_global ∙ ap (with_rule _) workers_is in
    IfOk-weaker c.arg-2.result _ _ (λ r h. h.shape rows_global ∙ ap₂ with_rule one_is rows_is) c.arg-2.ensures
