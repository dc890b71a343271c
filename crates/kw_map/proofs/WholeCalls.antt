-- How a whole call comes of the stages that `kw_live` takes it through: its begin and its end, what
-- it met on the way, and its reply.
use Rattle.std.proofs.Common.{ℕ, ◌≡◌, true, false, Option, Some, None, Err, List, ap, refl}
use Rattle.kw_model.specs.declared.call.Call.{Call}
use Rattle.kw_model.specs.declared.call.Call.TheVariants.{Put, Del, Get, Scan, Pin, ScanAt, Unpin}
use Rattle.kw_world.specs.declared.activity.Activity.{Activity}
use Rattle.kw_world.specs.declared.activity.walk.Walk.TheVariants as Walk
use Rattle.kw_world.specs.Answers.{reply_of}
use Rattle.kw_world.specs.declared.answer.Answer.{Answer}
use Rattle.kw_world.specs.declared.answer.Answer.TheVariants as answer
use Rattle.kw_world.specs.declared.local.Local.{Local}
use Rattle.kw_core.specs.Stages.{is_put}
use Rattle.kw_table.specs.declared.pass.Pass.{Pass}
use Rattle.kw_table.specs.declared.shared.Shared.{Shared}
use Rattle.kw_table.specs.Passes.{IsFresh}
use Rattle.kw_map.specs.declared.kiwi.Kiwi.{Kiwi}
use Rattle.kw_map.specs.declared.kiwi.PutEnd.{PutEnd}
use Rattle.kw_map.specs.declared.kiwi.PutEnd.TheVariants.{NoRows, Spent}
use Rattle.kw_map.specs.Kiwi.{IsIdle, put_reply, stands_after}
use Rattle.kw_follow.specs.Following.{GoesTo}
use Rattle.kw_live.specs.Sights.{SawClock}
use Rattle.kw_live.specs.Stages.{HasEntered}
use Rattle.kw_follow.proofs.OwnEvents.{saw_later}

-- The begin.

-- a pass that was just made is idle
pub fresh_idle : (m : Kiwi) (n : ℕ) (p : Pass) → IsFresh m n p → IsIdle m p
fresh_idle m n p fresh = record { of_map = fresh.of_table; idle = ap (λ (l : Local). l.activity) fresh.local }

-- The call.

-- a put or a delete that has entered is to begin its walk
pub put_starts : (call : Call) (a : Activity) → is_put (Some call) ≡ true → HasEntered call a → a ≡ Activity.Walk Walk.Start
put_starts (Put key value) (Activity.Walk Walk.Start) is entered = refl
put_starts (Put key value) _ is entered = absurd entered
put_starts (Del key) (Activity.Walk Walk.Start) is entered = refl
put_starts (Del key) _ is entered = absurd entered
put_starts (Get key) a is entered = let x : false ≡ true = is in absurd (cc)
put_starts (Scan from upto) a is entered = let x : false ≡ true = is in absurd (cc)
put_starts Pin a is entered = let x : false ≡ true = is in absurd (cc)
put_starts (ScanAt from upto) a is entered = let x : false ≡ true = is in absurd (cc)
put_starts Unpin a is entered = let x : false ≡ true = is in absurd (cc)

-- where it made room and was not refused, it is to begin its walk
pub begins_anew : (made : Option PutEnd) (a : Activity) → ((end : PutEnd) → made ≡ Some end → ⊥) → a ≡ stands_after made → a ≡ Activity.Walk Walk.Start
begins_anew None a none e = e
begins_anew (Some end) a none e = absurd (none end refl)

-- What it met.

-- a clock that a scan loaded before was its clock
pub clock_later : {s : Shared} {p q r : Pass} {clock : ℕ} → SawClock p q clock → GoesTo s q r → SawClock p r clock
clock_later {s} {p} {q} {r} m after = record { saw = saw_later p q r m.saw after.seen }

-- What it replies.

-- a put or a delete that is refused is about to leave with its refusal
pub ends_with : (end : PutEnd) (a : Activity) (pairs : List (ℕ × ℕ)) → a ≡ stands_after (Some end) → (answer : Answer) × (a ≡ Activity.Leave answer) × (reply_of answer pairs ≡ put_reply (Err end))
ends_with NoRows a pairs e = (answer.NoRows, e, refl)
ends_with Spent a pairs e = (answer.Spent, e, refl)
