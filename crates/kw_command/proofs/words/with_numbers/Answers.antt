-- The two numbers.
use Rattle.std.proofs.Common.{◌≡◌, false, ◌∙◌, ap, ap₂}
use Rattle.std.proofs.lemmas.Result.{IfOk-weaker}
use Rattle.clap.specs.Words.{with_rule, rule_of}
use Rattle.clap.specs.declared.builder.arg.Arg.{Arg}
use Rattle.kw_command.specs.Clap.{start, count, rule_for, parser_of}
use Rattle.kw_command.proofs.Rules.{with_parser}
use Rattle.kw_command.proofs.words.with_numbers.Goals as goal

pub returns : goal.returns
returns c =
    let start_is : rule_of c.value_parser-start.result ≡ rule_for start = with_parser c.new.result c.value_parser-start.result _ _ (parser_of start) c.value_parser-start.ensures.others c.new.ensures.rule c.value_parser-start.ensures.given.1 (c.value_parser-start.ensures.given.2 ∙ c.value_parser.ensures) in
    let count_range : c.range.result ≡ parser_of count = rw (c.value_parser-2.ensures, c.new-3.ensures.start, c.new-3.ensures.end, c.from.ensures) at c.range.ensures in
    let count_is : rule_of c.value_parser-count.result ≡ rule_for count = with_parser c.new-2.result c.value_parser-count.result _ _ (parser_of count) c.value_parser-count.ensures.others c.new-2.ensures.rule c.value_parser-count.ensures.given.1 (c.value_parser-count.ensures.given.2 ∙ count_range) in
    let start_global : c.value_parser-start.result.global ≡ false = ap (λ (a : Arg). a.global) c.value_parser-start.ensures.others ∙ c.new.ensures.optional.1 in
    let count_global : c.value_parser-count.result.global ≡ false = ap (λ (a : Arg). a.global) c.value_parser-count.ensures.others ∙ c.new-2.ensures.optional.1 in
    let one_is = c.in_ok-arg.ensures.shape start_global ∙ ap (with_rule _) start_is in
    IfOk-weaker c.arg-2.result _ _ (λ r h. h.shape count_global ∙ ap₂ with_rule one_is count_is) c.arg-2.ensures
