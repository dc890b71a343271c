-- The lines so far, and those of the buckets that are left, are those of all buckets.
use Rattle.std.proofs.Common.{◌≡◌, ◌++◌}
use Rattle.std.specs.List.{flat_map}
use Rattle.std.specs.Map.{keys_of}
use Rattle.kw_rollup.specs.Texts.{summaries_text}
use Rattle.kw_rollup.proofs.Tables.{bucket_at}
use Rattle.kw_rollup.proofs.rollup.Rollup.print.Given as goal

abbrev pub invariant-loop-first : goal.invariant-loop-first
invariant-loop-first l =
    l.out.items ++ summaries_text (flat_map (bucket_at l.self.width l.self.pairs) (keys_of l.first-iterator)) ≡ summaries_text (flat_map (bucket_at l.self.width l.self.pairs) (keys_of l.initial.first-iterator))
