-- One block, answered by its workers.
use Rattle.std.specs.Prelude.{◌≡◌, ℕ, ◌<◌, List, ◌++◌, length, map, drop, All, IfOk, Ok, Vec, slice_index_or}
use Rattle.std.specs.List.{flat_map}
use Rattle.std.specs.declared.alloc.AllocError.{AllocError}
use Rattle.std.specs.declared.alloc.Global.{Global}
use Rattle.std.specs.declared.result.Result.{Result}
use mathlib.Core.List.{IsPrefix}
use Rattle.kw_laws.specs.SeatCalls.{CallSeen}
use Rattle.kw_world.specs.declared.event.Event.{Event}
use Rattle.kw_world.specs.declared.opening.Opening.{Opening}
use Rattle.kw_line.specs.declared.answer.Answer.{Answer}
use Rattle.kw_table.specs.declared.pass.Pass.{Pass}
use Rattle.kw_table.specs.Passes.{view}
use Rattle.kw_follow.specs.Following.{GoesTo}
use Rattle.kw_map.specs.declared.kiwi.Kiwi.{Kiwi}
use Rattle.kw_map.specs.Kiwi.{IsIdle}
use Rattle.kw_map.specs.Meetings.{AtEach}
use Rattle.kw_work.specs.declared.line.Line.{Line}
use Rattle.kw_work.specs.Dealing.{Dealt, part}
use Rattle.kw_work.specs.Collecting.{answers_of}
use Rattle.kw_app.specs.declared.rounds.Done.{Done}
use Rattle.kw_app.specs.Recorded.{asked, asks, AreReplies, IsWithin, printed, seat_calls}
use Rattle.kw_app.specs.Working.{Works}

-- what a pass did in its thread: it answered the lines of the block that are dealt to it
pub record IsDone (m : Kiwi) (b : Dealt) (p : Pass) (d : Done) : Type 0 where
  pub idle : IsIdle m d.pass
  pub goes : GoesTo m p d.pass
  pub works : IfOk d.answers (λ v. Works p d.pass (part b.workers (view p).number b.lines) v.items)

-- so did each of the passes, in their order
pub record AreDone (m : Kiwi) (b : Dealt) (ps : List Pass) (ds : List Done) : Type 0 where
  pub len : length ds ≡ length ps
  pub each : AtEach (IsDone m b) ps ds

-- what passes did that stood in groups, where no group wanted memory: one group after the other
pub record AreOfGroups (parts : List (Result (Vec Done Global) AllocError)) (ds : List Done) : Type 0 where
  pub groups : List (Vec Done Global)
  pub parts_are : parts ≡ map Ok groups
  pub dones_are : ds ≡ flat_map (λ (group : Vec Done Global). group.items) groups

-- p became q by the lines of the block that are dealt to it, and has these answers
pub record Worked (m : Kiwi) (b : Dealt) (p q : Pass) (answers : List Answer) : Type 0 where
  pub idle : IsIdle m q
  pub goes : GoesTo m p q
  pub works : Works p q (part b.workers (view p).number b.lines) answers

-- so did each of the passes
abbrev pub WorkedEach : Kiwi → Dealt → List Pass → List Pass → List (Vec Answer Global) → Type 0
WorkedEach m b ps qs parts = (i : ℕ) (d e : Pass) → i < length ps → Worked m b (slice_index_or ps i d) (slice_index_or qs i e) (answers_of parts i)

-- the idle pass numbered i, which has seen E
pub record IsSeated (m : Kiwi) (E : List Event) (i : ℕ) (p : Pass) : Type 0 where
  pub idle : IsIdle m p
  pub number : (view p).number ≡ i
  pub seen : (view p).seen ≡ E

-- n idle passes, numbered from 0, which have all seen E
pub record AreTogether (m : Kiwi) (n : ℕ) (E : List Event) (ps : List Pass) : Type 0 where
  pub some : 0 < n
  pub len : length ps ≡ n
  pub each : (i : ℕ) (d : Pass) → i < n → IsSeated m E i (slice_index_or ps i d)

-- the calls of each seat that a longer list has more
abbrev pub more_calls : Opening → List Event → List Event → ℕ → List CallSeen
more_calls o E E' seat = drop (length (seat_calls o E seat)) (seat_calls o E' seat)

-- the list E' goes on after E by the calls of the lines and no others, each made whole by the
-- worker of its line, in line order; the answers are those of the recorded replies
pub record Grew (o : Opening) (n : ℕ) (lines : List Line) (E E' : List Event) (answers : List Answer) : Type 0 where
  pub longer : IsPrefix E E'
  pub calls : (w : ℕ) → w < n → seat_calls o E' w ≡ seat_calls o E w ++ more_calls o E E' w
  pub asks_are : (w : ℕ) → w < n → asked (more_calls o E E' w) ≡ asks (part n w lines)
  pub within : (w : ℕ) → w < n → All (IsWithin (length E) (length E')) (more_calls o E E' w)
  pub are_replies : (w : ℕ) → w < n → AreReplies (part n w lines) (more_calls o E E' w)
  pub prints : answers ≡ printed n (more_calls o E E') lines
