-- What was taken of a record so far.
use Rattle.std.specs.Prelude.{ℕ, ◌≡◌, Option, Some, None, List, [], ◌∷◌, ◌++◌, map, Vec}
use Rattle.std.specs.Global.{Global}
use Rattle.kw_judge.specs.declared.record.Name.{Name}
use Rattle.kw_judge.specs.declared.read.Reader.{Reader}
use Rattle.kw_judge.specs.Record.{RecordView, IsRecord, names_of}
use Rattle.kw_judge.specs.Index.{IsIndex}
use Rattle.kw_judge.specs.Texts.{done_text, open_text, order_text}

-- the calls that were taken, as a record without an order
abbrev pub calls_taken : Reader → RecordView
calls_taken r = record { done = r.done.items; open_calls = r.open_calls.items; order = [] }

abbrev pub names_taken : Reader → List Name
names_taken r = names_of (calls_taken r)

-- the line of an order, if it was taken
abbrev pub order_lines : Option (Vec Name Global) → List (List ℕ)
order_lines None = []
order_lines (Some names) = order_text names.items ∷ []

-- the lines that were taken
abbrev pub lines_taken : Reader → List (List ℕ)
lines_taken r = (map done_text r.done.items ++ map open_text r.open_calls.items) ++ order_lines r.order

-- the places of these names are in the map
abbrev pub IsIndexed : List Name → Reader → Type 0
IsIndexed names r = IsIndex names r.places

-- the names of an order, if it was taken, are in range
abbrev pub order_taken : Option (Vec Name Global) → List Name
order_taken None = []
order_taken (Some names) = names.items

-- what was taken begins a record
pub record IsReading (r : Reader) : Type 0 where
  pub fits : IsRecord (record { done = r.done.items; open_calls = r.open_calls.items; order = order_taken r.order })
  pub index : IsIndexed (names_taken r) r

-- the lists are as they were
pub record KeepsLists (old new : Reader) : Type 0 where
  pub done : new.done ≡ old.done
  pub open_calls : new.open_calls ≡ old.open_calls
  pub order : new.order ≡ old.order
