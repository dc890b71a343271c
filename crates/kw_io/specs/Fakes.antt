-- What streams over memory are seen as.
use Rattle.std.specs.Prelude.{ℕ, List, Bool, ◌==◌, ◌-◌, length}
use Rattle.std.specs.List.{list_any}

-- a source over memory: the bytes that are left, how many reads were made, the numbers of those
-- that fail, and the count of faults
pub record SourceState : Type 0 where
  pub left : List ℕ
  pub calls : ℕ
  pub fails : List ℕ
  pub faults : ℕ

-- a sink over memory: the bytes written, how many it can hold, how many writes were made, the
-- numbers of those that fail, and the count of faults
pub record SinkState : Type 0 where
  pub written : List ℕ
  pub room : ℕ
  pub calls : ℕ
  pub fails : List ℕ
  pub faults : ℕ

-- a sink that takes every byte: those that it has kept, and how many it can hold
pub record KeptState : Type 0 where
  pub kept : List ℕ
  pub room : ℕ

-- this number is among those of the calls that fail
abbrev pub is_listed : ℕ → List ℕ → Bool
is_listed number fails = list_any (λ fail. fail == number) fails

-- how many more bytes the sink can hold
abbrev pub free_room : SinkState → ℕ
free_room sink = sink.room - length sink.written
