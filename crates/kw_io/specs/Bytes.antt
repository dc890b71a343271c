-- What happens to the bytes of a stream, where the stream tells them. `None` is a stream that does
-- not tell, and then nothing is said. For whole pieces the words are std's: `Appends old new bytes`
-- for a sink, `Consumes old new bytes` for a source, `Keeps old new` for either, and `IsAtEnd
-- left`, no byte is left.
use Rattle.std.specs.Prelude.{ℕ, List, Option, take}
use Rattle.std.specs.Io.KnownBytes.{Appends, Consumes}

-- what the sink holds grew by the first n of the bytes, for some n
abbrev pub AppendsPrefix : Option (List ℕ) → Option (List ℕ) → List ℕ → Type 0
AppendsPrefix old new bytes = (n : ℕ) × Appends old new (take n bytes)

-- what is left of the source lost some bytes at its front
abbrev pub ConsumesSome : Option (List ℕ) → Option (List ℕ) → Type 0
ConsumesSome old new = (bytes : List ℕ) × Consumes old new bytes
