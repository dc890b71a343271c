-- No kind so far has the name.
use Rattle.std.proofs.Common.{◌≢◌, ◌<◌}
use Rattle.kw_words.specs.declared.kind.Kind.{Kind}
use Rattle.kw_words.specs.Kind.{name_of, index_in_kinds}
use Rattle.kw_words.proofs.kind.Kind.named.Given as goal

abbrev pub invariant-loop-kind : goal.invariant-loop-kind
invariant-loop-kind l = (k : Kind) → index_in_kinds k < l.kind-index → name_of k ≢ l.name
