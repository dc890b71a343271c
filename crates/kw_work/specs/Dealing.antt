-- How the lines of an input are cut into blocks and dealt to workers.
use Rattle.std.specs.Prelude.{ℕ, ◌+◌, ◌%◌, ◌^◌, ◌<◌, ◌==◌, List, [], ◌∷◌, filter, length, All}
use Rattle.std.specs.List.{onto_first}
use Rattle.kw_model.specs.declared.call.Call.{Call}
use Rattle.kw_model.specs.declared.call.Call.TheVariants as call
use Rattle.kw_line.specs.declared.item.Form.{Form}
use Rattle.kw_line.specs.declared.item.Item.{Item}
use Rattle.kw_line.specs.declared.item.Item.TheVariants as item
use Rattle.kw_line.specs.Line.{IsItem}
use Rattle.kw_work.specs.declared.line.Line.{Line}

-- lines between two waits, and how many workers they are dealt to
pub record Dealt : Type 0 where
  pub lines : List Line
  pub workers : ℕ

-- the number by which a line is dealt: the key of its call, or for a call of no one key the number
-- of the line
abbrev pub dealt_by : Call → ℕ → ℕ
dealt_by (call.Put k v) number = k
dealt_by (call.Del k) number = k
dealt_by (call.Get k) number = k
dealt_by (call.Scan a b) number = number
dealt_by call.Pin number = number
dealt_by (call.ScanAt a b) number = number
dealt_by call.Unpin number = number

-- the worker that takes the line
abbrev pub worker_of : ℕ → Line → ℕ
worker_of workers line = dealt_by line.call line.number % workers

-- the lines of one worker, in their order
unfoldable pub part : ℕ → ℕ → List Line → List Line
part workers worker lines = filter (λ l. worker_of workers l == worker) lines

-- a call's line of this number
abbrev pub line_at : ℕ → Call → Form → Line
line_at n c f = record { number = n; call = c; form = f }

-- the lines of the items that make calls. The items are numbered from n on, waits too
unfoldable pub lines_of : ℕ → List Item → List Line
lines_of n [] = []
lines_of n (item.Call c f ∷ items) = line_at n c f ∷ lines_of (n + 1) items
lines_of n (item.Wait ∷ items) = lines_of (n + 1) items

-- the blocks of the items, which are numbered from n on: a wait ends a block
unfoldable pub blocks_of : ℕ → List Item → List (List Line)
blocks_of n [] = [] ∷ []
blocks_of n (item.Call c f ∷ items) = onto_first (line_at n c f) (blocks_of (n + 1) items)
blocks_of n (item.Wait ∷ items) = [] ∷ blocks_of (n + 1) items

-- the line makes a call of its form whose numbers are in range
abbrev pub IsLine : Line → Type 0
IsLine line = IsItem (item.Call line.call line.form)

-- the item makes a call: it is no wait
abbrev pub IsCall : Item → Type 0
IsCall (item.Call c f) = Unit {0}
IsCall item.Wait = ⊥

-- what a block is made of: items that all make calls, so many items before them, and how many
-- workers answer them. There is a worker, and the number of each line has 32 bits
pub record IsBlock (items : List Item) (before workers : ℕ) : Type 0 where
  pub some : 0 < workers
  pub calls : All IsCall items
  pub few : before + length items < 2 ^ 32
