-- How bytes are cut into lines, and a line into words.
use Rattle.std.specs.Prelude.{ℕ, List, [], ◌∷◌, length, Option, Some, None, ◌==◌, if◌then◌else◌}
use Rattle.std.specs.List.{slice_split}
use Rattle.std.specs.Borrow.{Bor}
use Rattle.kw_line.specs.declared.words.TheConstants.{LINE_FEED, SPACE}

-- the parts, less an empty one at their end
abbrev pub without_empty_end : List (List ℕ) → List (List ℕ)
without_empty_end [] = []
without_empty_end (part ∷ []) = if length part == 0 then [] else part ∷ []
without_empty_end (part ∷ next ∷ parts) = part ∷ without_empty_end (next ∷ parts)

-- the lines of bytes: what stands between line feeds; nothing after the last feed is no line, so
-- the last line's feed may be missing
unfoldable pub lines : List ℕ → List (List ℕ)
lines bytes = without_empty_end (slice_split (λ byte. byte == LINE_FEED) bytes)

-- the words of a line: what stands between spaces, also where that is empty
unfoldable pub words : List ℕ → List (List ℕ)
words line = slice_split (λ byte. byte == SPACE) line

-- the words of what is left of a line, or none where nothing is
abbrev pub words_of : Option (Bor (List ℕ)) → List (List ℕ)
words_of None = []
words_of (Some line) = words line.now
