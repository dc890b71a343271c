-- What a run shows in the list of events that its first pass has seen.
use Rattle.std.specs.Prelude.{◌≡◌, ℕ, ◌<◌, ◌≤◌, Bool, true, false, List, length, take, drop, slice_index_or, All}
use Rattle.std.specs.List.{flat_map}
use Rattle.kw_core.specs.Events.{is_valid}
use Rattle.kw_laws.specs.SeatCalls.{CallSeen}
use Rattle.kw_world.specs.declared.event.Event.{Event}
use Rattle.kw_world.specs.declared.opening.Opening.{Opening}
use Rattle.kw_world.specs.Sizes.{product}
use Rattle.kw_line.specs.declared.answer.Answer.{Answer}
use Rattle.kw_line.specs.declared.answer.Answer.TheVariants as answer
use Rattle.kw_line.specs.declared.item.Item.{Item}
use Rattle.kw_line.specs.Answered.{answers_for}
use Rattle.kw_line.specs.Line.{forms}
use Rattle.kw_map.specs.Refusals.{HasReason}
use Rattle.kw_table.specs.declared.pass.View.{View}
use Rattle.kw_work.specs.declared.line.Line.{Line}
use Rattle.kw_work.specs.Dealing.{part, lines_of, blocks_of}
use Rattle.kw_app.specs.Recorded.{asked, asks, AreReplies, EndsBefore, IsWithin, printed, recorded, seat_calls}

-- the lines of all these blocks
abbrev pub joined : List (List Line) → List Line
joined bs = flat_map (λ b. b) bs

-- a place in the list such that the calls of these lines have ended before it, and all other calls
-- begin at it or after it
pub record IsCut (o : Opening) (n : ℕ) (E : List Event) (lines : List Line) : Type 0 where
  pub at : ℕ
  pub inside : at ≤ length E
  pub before : (w : ℕ) → w < n → All (λ (c : CallSeen). EndsBefore at c.end) (take (length (part n w lines)) (seat_calls o E w))
  pub after : (w : ℕ) → w < n → All (λ (c : CallSeen). at ≤ c.first) (drop (length (part n w lines)) (seat_calls o E w))

-- in the list each of n workers has made just the calls of its lines, in their order, and all have
-- ended; the answers are those of the recorded replies; and after each block there is a cut
pub record Ran (o : Opening) (n : ℕ) (blocks : List (List Line)) (E : List Event) (answers : List Answer) : Type 0 where
  pub asks_are : (w : ℕ) → w < n → asked (seat_calls o E w) ≡ asks (part n w (joined blocks))
  pub ended : (w : ℕ) → w < n → All (IsWithin 0 (length E)) (seat_calls o E w)
  pub are_replies : (w : ℕ) → w < n → AreReplies (part n w (joined blocks)) (seat_calls o E w)
  pub prints : answers ≡ printed n (seat_calls o E) (joined blocks)
  pub cuts : (j : ℕ) → j ≤ length blocks → IsCut o n E (joined (take j blocks))

-- every call of a block has ended before the first event of every call of a later block: for each
-- number j of blocks, call i of seat v, where it is one of the calls of the first j blocks, has
-- ended before call k of seat w, where it is none of them
abbrev pub AreInBlocks : Opening → ℕ → List (List Line) → List Event → Type 0
AreInBlocks o n blocks E = (j v w i k : ℕ) (c d : CallSeen) → j ≤ length blocks → v < n → w < n
    → i < length (part n v (joined (take j blocks))) → i < length (seat_calls o E v) → length (part n w (joined (take j blocks))) ≤ k → k < length (seat_calls o E w)
    → EndsBefore (slice_index_or (seat_calls o E w) k d).first (slice_index_or (seat_calls o E v) i c).end

-- the list of events that a pass has seen, as that of a run over these items with as many workers
-- as seats, which gave these answers
pub record Shows (o : Opening) (items : List Item) (answers : List Answer) (v : View) : Type 0 where
  pub number : v.number ≡ 0
  pub opening : v.opening ≡ o
  pub valid : is_valid product o v.seen ≡ true
  -- each seat has just the calls of the lines that are dealt to it, in their order, and all have
  -- ended, none of them stopped
  pub asks_are : (w : ℕ) → w < o.seats → asked (seat_calls o v.seen w) ≡ asks (part o.seats w (lines_of 1 items))
  pub ended : (w : ℕ) → w < o.seats → All (IsWithin 0 (length v.seen)) (seat_calls o v.seen w)
  -- each was answered by a reply that its line may have
  pub are_replies : (w : ℕ) → w < o.seats → AreReplies (part o.seats w (lines_of 1 items)) (seat_calls o v.seen w)
  -- a call was refused only for what its seat found while it made it: the versions or the epochs
  -- spent, or too few rows left
  pub causes : (w : ℕ) → w < o.seats → All (HasReason o v.seen w) (seat_calls o v.seen w)
  -- the answers are those of the recorded replies, in line order
  pub prints : answers ≡ answers_for (forms items) (recorded o.seats (seat_calls o v.seen) (lines_of 1 items))
  pub blocks : AreInBlocks o o.seats (blocks_of 1 items) v.seen

-- the answer says that the call was refused
abbrev pub is_refused : Answer → Bool
is_refused answer.NoRows = true
is_refused answer.Spent = true
is_refused _ = false
