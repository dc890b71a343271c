-- The option for the minutes of a bucket.
use Rattle.std.proofs.Common.{◌≡◌, Some, false, codes, ◌∙◌, ap}
use Rattle.std.proofs.lemmas.Result.{IfOk-weaker}
use Rattle.clap.specs.Words.{Rule, new_rule, with_rule, rule_of}
use Rattle.clap.specs.declared.builder.arg.Arg.{Arg}
use Rattle.kw_command.specs.Clap.{bucket, rule_for, parser_of}
use Rattle.kw_command.proofs.Rules.{with_parser}
use Rattle.kw_command.proofs.words.with_bucket.Goals as goal

pub returns : goal.returns
returns c =
    let range_is : c.range.result ≡ parser_of bucket = rw (c.value_parser.ensures, c.new-2.ensures.start, c.new-2.ensures.end, c.from.ensures) at c.range.ensures in
    let long_is : rule_of c.long.result ≡ record (new_rule (codes "bucket")) { long = Some (codes "bucket") } = ap rule_of c.long.ensures ∙ ap (λ (x : Rule). record x { long = Some (codes "bucket") }) c.new.ensures.rule in
    let bucket_is : rule_of c.value_parser-bucket.result ≡ rule_for bucket = with_parser c.long.result c.value_parser-bucket.result _ _ (parser_of bucket) c.value_parser-bucket.ensures.others long_is c.value_parser-bucket.ensures.given.1 (c.value_parser-bucket.ensures.given.2 ∙ range_is) in
    let bucket_global : c.value_parser-bucket.result.global ≡ false = ap (λ (a : Arg). a.global) c.value_parser-bucket.ensures.others ∙ (ap (λ (a : Arg). a.global) c.long.ensures ∙ c.new.ensures.optional.1) in
    IfOk-weaker c.arg.result _ _ (λ r h. h.shape bucket_global ∙ ap (with_rule _) bucket_is) c.arg.ensures
