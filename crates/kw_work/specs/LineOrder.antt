-- Orders of the lines of an input: the calls and replies in such an order, and what an order keeps
-- of the order of the lines.
use Rattle.std.specs.Prelude.{ℕ, ◌≡◌, ◌-◌, ◌^◌, ◌<◌, ◌≤◌, ◌⊎◌, true, false, IsTrue, All, List, [], map, length, take, get_or, slice_get, Option, Some, None}
use Rattle.std.specs.List.{flat_map}
use Rattle.kw_model.specs.declared.call.Call.{Call}
use Rattle.kw_model.specs.declared.call.Call.TheVariants as call
use Rattle.kw_model.specs.declared.call.Reply.{Reply}
use Rattle.kw_model.specs.declared.call.Reply.TheVariants.{Done}
use Rattle.kw_model.specs.Map.{Pairs, answers}
use Rattle.kw_model.specs.Legal.{IsLegal, IsRight, may_refuse, is_refusal, went_all}
use Rattle.kw_line.specs.declared.item.Form.{Form}
use Rattle.kw_line.specs.declared.item.Item.{Item}
use Rattle.kw_line.specs.Line.{IsCallOf, calls, forms}
use Rattle.kw_line.specs.Quiet.{quiet}
use Rattle.kw_line.specs.Answered.{is_update, is_range}
use Rattle.kw_work.specs.declared.line.Line.{Line}
use Rattle.kw_work.specs.Dealing.{worker_of}
use Rattle.kw_work.specs.Lines.{quiet_lines}

-- the numbers of n lines, counted from 0, in an order: each stands in it once, and nothing else
-- does
pub record IsOrderOf (n : ℕ) (xs : List ℕ) : Type 0 where
  pub every : (i : ℕ) → i < n → (a : ℕ) × (slice_get xs a ≡ Some i)
  pub within : (a i : ℕ) → slice_get xs a ≡ Some i → i < n
  pub once : (a b i : ℕ) → slice_get xs a ≡ Some i → slice_get xs b ≡ Some i → a ≡ b

-- i stands before j
abbrev pub StandsBefore : List ℕ → ℕ → ℕ → Type 0
StandsBefore xs i j = (a b : ℕ) → slice_get xs a ≡ Some i → slice_get xs b ≡ Some j → a < b

-- the call of this number. What stands past the end is of no order
abbrev pub call_at : List Call → ℕ → Call
call_at cs i = get_or cs i (call.Get 0)

-- the reply of this number
abbrev pub reply_at : List Reply → ℕ → Reply
reply_at rs i = get_or rs i Done

-- asked in this order of the empty map, the calls have right replies
abbrev pub IsLegalIn : List Call → List Reply → List ℕ → Type 0
IsLegalIn cs rs xs = IsLegal [] (map (call_at cs) xs) (map (reply_at rs) xs)

-- the key of a put, a delete or a get
abbrev pub key_of : Call → Option ℕ
key_of (call.Put k v) = Some k
key_of (call.Del k) = Some k
key_of (call.Get k) = Some k
key_of (call.Scan a b) = None
key_of call.Pin = None
key_of (call.ScanAt a b) = None
key_of call.Unpin = None

-- the lines of blocks, one block after another
abbrev pub joined : List (List Line) → List Line
joined blocks = flat_map (λ b. b) blocks

-- how many lines stand before block k
abbrev pub lines_before : ℕ → List (List Line) → ℕ
lines_before k blocks = length (joined (take k blocks))

-- what the lines ask
abbrev pub calls_of : List Line → List Call
calls_of lines = map (λ (l : Line). l.call) lines

-- a line of an earlier block stands before one of a later block
abbrev pub KeepsBlocks : List (List Line) → List ℕ → Type 0
KeepsBlocks blocks xs = (k i j : ℕ) → i < lines_before k blocks → lines_before k blocks ≤ j → StandsBefore xs i j

-- the order keeps the blocks and, among the lines on one key, the order of the lines
pub record KeepsKeys (blocks : List (List Line)) (xs : List ℕ) : Type 0 where
  pub keys : (i j k : ℕ) (l m : Line) → i < j → slice_get (joined blocks) i ≡ Some l → slice_get (joined blocks) j ≡ Some m → key_of l.call ≡ Some k → key_of m.call ≡ Some k → StandsBefore xs i j
  pub cuts : KeepsBlocks blocks xs

-- the order keeps the blocks and, among the lines of one worker, the order of the lines
pub record KeepsWorkers (workers : ℕ) (blocks : List (List Line)) (xs : List ℕ) : Type 0 where
  pub shares : (i j : ℕ) (l m : Line) → i < j → slice_get (joined blocks) i ≡ Some l → slice_get (joined blocks) j ≡ Some m → worker_of workers l ≡ worker_of workers m → StandsBefore xs i j
  pub cuts : KeepsBlocks blocks xs

-- each line's call is one of its form
abbrev pub HaveForms : List Line → Type 0
HaveForms lines = All (λ (l : Line). IsCallOf l.form l.call) lines

-- no line that sets a value or takes a key away was refused
abbrev pub NoneRefused : List Line → List Reply → Type 0
NoneRefused lines rs = (i : ℕ) (l : Line) (r : Reply) → slice_get lines i ≡ Some l → slice_get rs i ≡ Some r → IsTrue (is_update l.form) → is_refusal r ≡ false

-- the reply to a line is this answer, or a range line was refused
abbrev pub IsAnswered : Line → Reply → Option Reply → Type 0
IsAnswered l r answer = (answer ≡ Some r) ⊎ (IsTrue (is_range l.form) × IsTrue (may_refuse l.call r))

-- each quiet line has the reply that the map gives when it is asked by the lines in line order, or
-- is a range line that was refused
abbrev pub QuietServed : List (List Line) → List Reply → Type 0
QuietServed blocks rs =
    (i : ℕ) (l : Line) (r : Reply) → slice_get (joined blocks) i ≡ Some l → slice_get rs i ≡ Some r → slice_get (flat_map quiet_lines blocks) i ≡ Some true → IsAnswered l r (slice_get (answers [] (calls_of (joined blocks))) i)

-- the map after all lines, asked in this order. A refusal leaves the map as it is, so this is the
-- map of the lines that were accepted
abbrev pub map_in : List Call → List Reply → List ℕ → Pairs
map_in cs rs xs = went_all [] (map (call_at cs) xs) (map (reply_at rs) xs)

-- the greatest key that a call may have
abbrev pub greatest_key : ℕ
greatest_key = 2 ^ 32 - 1

-- the map of the lines above line i that were accepted, in line order
abbrev pub accepted_above : List Call → List Reply → ℕ → Pairs
accepted_above cs rs i = went_all [] (take i cs) (take i rs)

-- each quiet line has the reply that the map of the accepted lines above it gives, or was refused
abbrev pub QuietRight : List (List Line) → List Reply → Type 0
QuietRight blocks rs =
    (i : ℕ) (l : Line) (r : Reply) → slice_get (joined blocks) i ≡ Some l → slice_get rs i ≡ Some r → slice_get (flat_map quiet_lines blocks) i ≡ Some true → IsRight (accepted_above (calls_of (joined blocks)) rs i) l.call r

-- Calls that were made, by their numbers, and the lines that they are of.

-- the calls that were made, in this order, are those of the lines: each line has one call, and it
-- has the call and the reply of its line
pub record AreOfLines (cs : List Call) (rs : List Reply) (call_of : ℕ → Call) (reply_of : ℕ → Reply) (line_of : ℕ → ℕ) (ys : List ℕ) : Type 0 where
  pub every : (i : ℕ) → i < length cs → (p : ℕ) × (y : ℕ) × (slice_get ys p ≡ Some y) × (line_of y ≡ i)
  pub once : (p q y z : ℕ) → slice_get ys p ≡ Some y → slice_get ys q ≡ Some z → line_of y ≡ line_of z → p ≡ q
  pub calls : (p y : ℕ) → slice_get ys p ≡ Some y → slice_get cs (line_of y) ≡ Some (call_of y)
  pub replies : (p y : ℕ) → slice_get ys p ≡ Some y → slice_get rs (line_of y) ≡ Some (reply_of y)

-- each call of line i stands before each call of line j
abbrev pub StandsBeforeBy : (ℕ → ℕ) → List ℕ → ℕ → ℕ → Type 0
StandsBeforeBy line_of ys i j = (p q y z : ℕ) → slice_get ys p ≡ Some y → slice_get ys q ≡ Some z → line_of y ≡ i → line_of z ≡ j → p < q

-- The lines of an input.

-- no item that sets a value or takes a key away was refused
abbrev pub NoItemRefused : List Item → List Reply → Type 0
NoItemRefused items rs = (i : ℕ) (f : Form) (r : Reply) → slice_get (forms items) i ≡ Some f → slice_get rs i ≡ Some r → IsTrue (is_update f) → is_refusal r ≡ false

-- each quiet item has the reply that the map gives when it is asked in the order of the items, or
-- is a range item that was refused
abbrev pub QuietItemsAnswered : List Item → List Reply → Type 0
QuietItemsAnswered items rs =
    (i : ℕ) (c : Call) (f : Form) (r : Reply) → slice_get (calls items) i ≡ Some c → slice_get (forms items) i ≡ Some f → slice_get rs i ≡ Some r → slice_get (quiet items) i ≡ Some true
    → (slice_get (answers [] (calls items)) i ≡ Some r) ⊎ (IsTrue (is_range f) × IsTrue (may_refuse c r))
