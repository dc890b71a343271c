-- The text of a table.
use Rattle.std.specs.Prelude.{ℕ, List, [], ◌∷◌, ◌++◌, codes, decimal}
use Rattle.std.specs.List.{join_with_byte, flat_map}
use Rattle.kw_line.specs.declared.words.TheConstants.{LINE_FEED, SPACE}
use Rattle.kw_rollup.specs.declared.summary.Summary.{Summary}

-- a bucket as it is printed: its words, separated by one space each
abbrev pub summary_text : Summary → List ℕ
summary_text s = join_with_byte SPACE (decimal s.series ∷ decimal s.start ∷ codes "count" ∷ decimal s.count ∷ codes "sum" ∷ decimal s.sum ∷ codes "least" ∷ decimal s.least ∷ codes "greatest" ∷ decimal s.greatest ∷ [])

-- buckets as they are printed: a line for each
abbrev pub summaries_text : List Summary → List ℕ
summaries_text ss = flat_map (λ s. summary_text s ++ LINE_FEED ∷ []) ss

-- the last line of a table: the number of updates that were refused
abbrev pub end_text : ℕ → List ℕ
end_text refused = join_with_byte SPACE (codes "end" ∷ decimal refused ∷ [])

-- a table as it is printed: the line of each bucket, and the last line
abbrev pub table_text : List Summary → ℕ → List ℕ
table_text ss refused = summaries_text ss ++ end_text refused ++ LINE_FEED ∷ []
