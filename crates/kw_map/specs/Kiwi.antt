-- What the calls of the map say of a pass: that it is idle, how its calls go on, why one was
-- refused, and that what it has seen has a legal order.
use Rattle.std.specs.Prelude.{◌≡◌, ◌↔◌, ℕ, ◌≤◌, true, Option, Some, None, List, ◌++◌, Result, Ok, Err}
use Rattle.kw_words.specs.declared.sizes.TheConstants.{SPENT}
use Rattle.kw_model.specs.declared.call.Call.{Call}
use Rattle.kw_model.specs.declared.call.Call.TheVariants.{Scan}
use Rattle.kw_model.specs.declared.call.Reply.{Reply}
use Rattle.kw_model.specs.declared.call.Reply.TheVariants as reply
use Rattle.kw_model.specs.Map.{Pairs}
use Rattle.kw_world.specs.declared.activity.Activity.{Activity}
use Rattle.kw_world.specs.declared.activity.walk.Walk.TheVariants as Walk
use Rattle.kw_world.specs.declared.answer.Answer.TheVariants as answer
use Rattle.kw_world.specs.declared.event.Event.{Event}
use Rattle.kw_world.specs.declared.opening.Opening.{Opening}
use Rattle.kw_world.specs.Sizes.{product}
use Rattle.kw_core.specs.Events.{is_valid}
use Rattle.kw_core.specs.History.{History}
use Rattle.kw_core.specs.Run.{history}
use Rattle.kw_laws.specs.Causes.{AskedAll, IsSpentBy}
use Rattle.kw_order.specs.Legal.{IsLegalOrder}
use Rattle.kw_order.specs.Order.{IsOrder}
use Rattle.kw_order.specs.OrderLaws.{OrderLaws}
use Rattle.kw_order.specs.Trace.{GivesTops}
use Rattle.kw_table.specs.declared.pass.Pass.{Pass}
use Rattle.kw_table.specs.declared.pass.View.{View}
use Rattle.kw_table.specs.Passes.{IsPassOf, view}
use Rattle.kw_follow.specs.Calling.{Calls}
use Rattle.kw_follow.specs.Following.{activity_in}
use Rattle.kw_live.specs.Sights.{SawClock}
use Rattle.kw_map.specs.declared.kiwi.Kiwi.{Kiwi}
use Rattle.kw_map.specs.declared.kiwi.PutEnd.{PutEnd}
use Rattle.kw_map.specs.declared.kiwi.PutEnd.TheVariants as put_end
use Rattle.kw_map.specs.declared.kiwi.ScanEnd.{ScanEnd}
use Rattle.kw_map.specs.declared.kiwi.ScanEnd.TheVariants.{Stopped, Spent}
use Rattle.kw_map.specs.Scanning.{StoppedAt}

-- the pass is one of the map, and makes no call
pub record IsIdle (m : Kiwi) (p : Pass) : Type 0 where
  pub of_map : IsPassOf m p
  pub idle : activity_in p ≡ Activity.Idle

-- the reply of a put or a delete that ended so
abbrev pub put_reply : Result Unit PutEnd → Reply
put_reply (Ok done) = reply.Done
put_reply (Err put_end.NoRows) = reply.NoRows
put_reply (Err put_end.Spent) = reply.Spent

-- where a put or a delete stands that made room, or is refused
abbrev pub stands_after : Option PutEnd → Activity
stands_after None = Activity.Walk Walk.Start
stands_after (Some put_end.NoRows) = Activity.Leave answer.NoRows
stands_after (Some put_end.Spent) = Activity.Leave answer.Spent

-- what the view's seat found between the first and the last event of its call, which was refused so
abbrev pub IsCause : PutEnd → View → Call → ℕ → ℕ → Type 0
IsCause put_end.NoRows v call first last = AskedAll product v.opening v.seen v.number v.opening.rows first last
IsCause put_end.Spent v call first last = IsSpentBy product v.opening v.seen call v.number first last

-- where the call that the pass made was refused, its seat has found why
abbrev pub HasCause : Pass → Pass → Call → Result Unit PutEnd → Type 0
HasCause p q call (Ok done) = Unit {0}
HasCause p q call (Err end) = (c : Calls p q call (put_reply (Err end))) → IsCause end (view q) call c.first c.last

-- what happened in a list of events
abbrev pub happened : Opening → List Event → History
happened o es = (history product o es).history

-- the calls of what was seen have one order; it is legal, keeps precedence, and scans give what the
-- last updates before them wrote, whatever comes later
pub record IsOrdered (v : View) : Type 0 where
  pub exists : (xs : List ℕ) × IsOrder (happened v.opening v.seen) xs
  pub one : (xs ys : List ℕ) → IsOrder (happened v.opening v.seen) xs → IsOrder (happened v.opening v.seen) ys → xs ≡ ys
  pub laws : (xs : List ℕ) → IsOrder (happened v.opening v.seen) xs → OrderLaws (happened v.opening v.seen) xs
  pub legal : (xs : List ℕ) → IsOrder (happened v.opening v.seen) xs → IsLegalOrder (happened v.opening v.seen) xs
  pub later : (events : List Event) → is_valid product v.opening (v.seen ++ events) ≡ true → GivesTops (happened v.opening v.seen) (happened v.opening (v.seen ++ events))

-- how a scan ended and what it replied, where the gatherer may have taken pairs, counted a stop, or
-- be as it was
abbrev pub ScanGave : (Pairs → Type 0) → Type 0 → Type 0 → Pass → Pass → Call → Reply → Result Unit ScanEnd → Type 0
ScanGave Took Counted Same p q call answer (Ok done) = (pairs : Pairs) × (answer ≡ reply.Pairs pairs) × Took pairs
ScanGave Took Counted Same p q call answer (Err Stopped) = (answer ≡ reply.Stopped) × Counted × StoppedAt Took p q (Some call)
ScanGave Took Counted Same p q call answer (Err Spent) = (answer ≡ reply.Spent) × Same

-- the scan is the pass's next call, and has ended with what it answered; Took, Counted and Same say
-- what its gatherer did in it: that it took these pairs, that it counted a stop, and that it is as
-- it was
pub record AnswersScan (Took : Pairs → Type 0) (Counted Same : Type 0) (p q : Pass) (from upto : ℕ) (result : Result Unit ScanEnd) : Type 0 where
  pub reply : Reply
  pub calls : Calls p q (Scan from upto) reply
  pub gave : ScanGave Took Counted Same p q (Scan from upto) reply result
  pub clock : ℕ
  pub saw : SawClock p q clock
  pub spent : (result ≡ Err Spent) ↔ (SPENT ≤ clock)
