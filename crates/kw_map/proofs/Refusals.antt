-- Why a call was refused. Nothing of the code is asked: what the pass has seen is valid, so each
-- call of its record has its cause, and the pass's own call stands there.
use Rattle.std.proofs.Common.{ℕ, ◌≡◌, ◌∙◌, ◌++◌, [], ◌∷◌, true, List, Result, Ok, Err, Some, ap, length, refl, subst}
use Rattle.std.specs.List.{slice_get}
use Rattle.kw_model.specs.declared.call.Call.{Call}
use Rattle.kw_model.specs.declared.call.Reply.{Reply}
use Rattle.kw_world.specs.declared.event.Event.{Event}
use Rattle.kw_world.specs.declared.opening.Opening.{Opening}
use Rattle.kw_world.specs.Opening.{IsOpening}
use Rattle.kw_world.specs.Sizes.{product}
use Rattle.kw_core.specs.History.{History, called}
use Rattle.kw_core.specs.Events.{is_valid}
use Rattle.kw_core.specs.Run.{history}
use Rattle.kw_laws.specs.Causes.{AskedAll, HaveCauses, IsSpentBy}
use Rattle.kw_laws.specs.SeatCalls.{CallSeen, calls_seen, begun_at, ended_at}
use Rattle.kw_laws.proofs.CausesHold.{causes_hold}
use Rattle.kw_order.proofs.SeatOrders.{name_of}
use Rattle.kw_table.specs.declared.pass.Pass.{Pass}
use Rattle.kw_table.specs.Passes.{view}
use Rattle.kw_follow.specs.Calling.{Calls, calls_in}
use Rattle.kw_map.specs.Refusals.{HasReason}
use Rattle.kw_map.specs.declared.kiwi.PutEnd.{PutEnd}
use Rattle.kw_map.specs.declared.kiwi.PutEnd.TheVariants.{NoRows, Spent}
use Rattle.kw_map.specs.Kiwi.{HasCause, put_reply}

-- the last element of a list
pub last_at : (cs : List CallSeen) (c : CallSeen) → slice_get (cs ++ c ∷ []) (length cs) ≡ Some c
last_at [] c = refl
last_at (b ∷ cs) c = last_at cs c

-- each call that is seen of a seat in a valid list has its reason
pub seat_caused : (o : Opening) (es : List Event) → IsOpening product o → is_valid product o es ≡ true → (s k : ℕ) (c : CallSeen) → slice_get (calls_seen product o s es) k ≡ Some c → HasReason o es s c
seat_caused o es opening valid s k c here =
    let h : History = (history product o es).history in
    let n = name_of product o es s k c here in
    let causes : HaveCauses product o es h = causes_hold product o opening es valid in
    let end = ap (λ (x : CallSeen). x.end) n.is in
    record {
      spent = λ e is answer.
          subst (λ (x : CallSeen). IsSpentBy product o es x.call s x.first e.at) n.is
          (subst (λ q. IsSpentBy product o es (called h n.place).call q (called h n.place).first e.at) n.turn.seat
          (causes.spent n.place e n.turn.within (end ∙ is) answer));
      no_rows = λ e is answer.
          subst (λ (x : CallSeen). AskedAll product o es s o.rows x.first e.at) n.is
          (subst (λ q. AskedAll product o es q o.rows (called h n.place).first e.at) n.turn.seat
          (causes.no_rows n.place e n.turn.within (end ∙ is) answer));
    }

-- the call that a pass made last has it in what the pass has seen
made_reason : {p q : Pass} {call : Call} {answer : Reply} (c : Calls p q call answer) → HasReason (view q).opening (view q).seen (view q).number (ended_at c.last answer (begun_at c.first c.number call))
made_reason {p} {q} {call} {answer} c =
    let made : CallSeen = ended_at c.last answer (begun_at c.first c.number call) in
    seat_caused (view q).opening (view q).seen q.known.opens q.known.valid (view q).number (length (calls_in p)) made
    (ap (λ cs. slice_get cs (length (calls_in p))) c.calls ∙ last_at (calls_in p) made)

-- a put or a delete that was refused has its cause
pub refused_by : (p q : Pass) (call : Call) (result : Result Unit PutEnd) → HasCause p q call result
refused_by p q call (Ok done) = tt
refused_by p q call (Err NoRows) = λ c. (made_reason c).no_rows (record { at = c.last; reply = put_reply (Err NoRows) }) refl refl
refused_by p q call (Err Spent) = λ c. (made_reason c).spent (record { at = c.last; reply = put_reply (Err Spent) }) refl refl
