-- An argument as `clap` is told it.
use Rattle.std.proofs.Common.{◌≡◌, Option, Some, ◌∙◌, ap}
use Rattle.clap.specs.Words.{Rule, rule_of}
use Rattle.clap.specs.declared.builder.arg.Arg.{Arg}
use Rattle.clap.specs.declared.builder.value_parser.ValueParser.{ValueParser}

-- an argument with a parser
pub with_parser : (a b : Arg) (r : Rule) (p q : ValueParser) → b ≡ record a { value_parser = b.value_parser } → rule_of a ≡ r → b.value_parser ≡ Some p → p ≡ q → rule_of b ≡ record r { parser = Some q }
with_parser a b r p q h k j e = ap rule_of h ∙ (ap (λ (x : Rule). record x { parser = b.value_parser }) k ∙ ap (λ (x : Option ValueParser). record r { parser = x }) (j ∙ ap (λ (x : ValueParser). Some x) e))
