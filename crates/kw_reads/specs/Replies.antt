-- What holds of what a get or a scan is going to answer.
use Rattle.std.specs.Prelude.{ℕ, suc, ◌≡◌, ◌+◌, ◌<◌, ◌≤◌, true, Option, Some, List, [], ◌∷◌, slice_get}
use Rattle.kw_model.specs.declared.call.Call.{Call}
use Rattle.kw_model.specs.declared.call.Call.TheVariants.{Get}
use Rattle.kw_model.specs.declared.call.Reply.{Reply}
use Rattle.kw_model.specs.declared.call.Reply.TheVariants.{Value}
use Rattle.kw_world.specs.declared.answer.Answer.TheVariants.{Pairs}
use Rattle.kw_world.specs.Answers.{reply_of}
use Rattle.kw_world.specs.declared.activity.Activity.{Activity}
use Rattle.kw_world.specs.declared.local.Local.{Local}
use Rattle.kw_world.specs.declared.limits.TheConstants.{NEWEST}
use Rattle.kw_world.specs.Calls.{first_key, last_key, is_scan}
use Rattle.kw_core.specs.History.{History, called}
use Rattle.kw_core.specs.HistoryLaws.{GetKey, ScanKey}
use Rattle.kw_core.specs.declared.seat_log.SeatLog.{SeatLog}
use Rattle.kw_core.specs.Run.{Run, best_id}
use Rattle.kw_core.specs.Stages.{IsCovering, IsEarly}
use Rattle.kw_shape.specs.Shape.{IsPutCall}

-- the keys rise strictly from the first number on, and lie below the second
abbrev pub RisesBelow : ℕ → ℕ → List (ℕ × ℕ) → Type 0
RisesBelow low bound [] = Unit {0}
RisesBelow low bound (p ∷ pairs) = (low ≤ p.0) × (p.0 < bound) × RisesBelow (suc p.0) bound pairs

-- the pairs are what a scan of this range, version and draw gives for the keys below a bound
pub record Covers (h : History) (from version drawn bound : ℕ) (pairs : List (ℕ × ℕ)) : Type 0 where
  pub rises : RisesBelow from bound pairs
  pub keys : (key : ℕ) → from ≤ key → key < bound → (o : Option ℕ) × ScanKey h key version drawn pairs o

-- a scan that has all its pairs has them for its whole range
abbrev pub IsCovered : Activity → History → Local → SeatLog → Type 0
IsCovered (Activity.EndScan Pairs) h l g = Covers h (first_key l.call) l.version g.drawn (last_key l.call + 1) l.pairs
IsCovered (Activity.Leave Pairs) h l g = Covers h (first_key l.call) l.version g.drawn (last_key l.call + 1) l.pairs
IsCovered _ h l g = Unit {0}

-- a call that has read no row has no pairs. A scan on its way or at a row has the pairs of the keys
-- below the wanted one, which is in its range; and in the end those of its range
pub record HasPairs (h : History) (a : Activity) (l : Local) (g : SeatLog) : Type 0 where
  pub early : IsEarly a → l.pairs ≡ []
  pub from : is_scan l.call ≡ true → IsCovering a → first_key l.call ≤ l.want
  pub upto : is_scan l.call ≡ true → IsCovering a → l.want ≤ last_key l.call
  pub covers : is_scan l.call ≡ true → IsCovering a → Covers h (first_key l.call) l.version g.drawn l.want l.pairs
  pub covered : IsCovered a h l g

-- a get that is about to answer knows what it answers: what a gap of its key shows; and where this
-- is a value, the gap is behind the attempt beside its best gathered cell
pub record AnswersGet (h : History) (key first : ℕ) (reply : Reply) (best : Option ℕ) : Type 0 where
  pub gap : Option ℕ
  pub knows : GetKey h key first reply gap
  pub answer : (v : ℕ) → reply ≡ Value v → best ≡ gap

-- such a get has looked at the attempt beside its best gathered cell
abbrev pub IsAnswered : Activity → Option Call → History → Local → SeatLog → Type 0
IsAnswered (Activity.Leave answer) (Some (Get key)) h l g = AnswersGet h key (called h g.call).first (reply_of answer l.pairs) (best_id l.gathered g.ids key NEWEST)
IsAnswered _ call h l g = Unit {0}

-- The group.

-- what holds of the pairs and the answers
pub record Replies (r : Run) : Type 0 where
  pub pairs : (t : ℕ) (l : Local) → slice_get r.world.locals t ≡ Some l → HasPairs r.history l.activity l (r.seats t)
  -- a put or a delete has no pairs
  pub unpaired : (t : ℕ) (l : Local) → slice_get r.world.locals t ≡ Some l → IsPutCall l.call → l.pairs ≡ []
  pub answers : (t : ℕ) (l : Local) → slice_get r.world.locals t ≡ Some l → IsAnswered l.activity l.call r.history l (r.seats t)
