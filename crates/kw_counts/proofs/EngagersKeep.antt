-- Who made a row lead, by induction over the events. After that the row gives no cell any more, and
-- the call gets its put in no other row of the list, for no other one holds its key. So the call is
-- still on, unless it was refused.
use Rattle.std.proofs.Common.{ℕ, ◌≡◌, ◌⊎◌, inl, inr, ◌<◌, ◌≤◌, Bool, true, false, nat_lt, if◌then◌else◌, Option, None, Some, arith, refl, sym, ◌∙◌, ap, subst, length, slice_get}
use Rattle.std.proofs.lemmas.Bool.{cases_eq, ltb-true}
use Rattle.std.proofs.lemmas.Option.{same_Some}
use Rattle.kw_words.specs.declared.count.Count.{Count}
use Rattle.kw_words.specs.declared.layout.Name.TheVariants as name
use Rattle.kw_words.specs.Count.{count_of}
use Rattle.kw_rows.specs.Ledger.{Fate, IsLive}
use Rattle.kw_rows.proofs.Named.{one_row}
use Rattle.kw_model.specs.declared.call.Call.{Call}
use Rattle.kw_model.specs.declared.call.Call.TheVariants.{Del, Get, Put, Scan, Pin, ScanAt, Unpin}
use Rattle.kw_model.specs.declared.call.Reply.{Reply}
use Rattle.kw_world.specs.declared.activity.Activity.{Activity}
use Rattle.kw_world.specs.declared.answer.Answer.{Answer}
use Rattle.kw_world.specs.declared.answer.Answer.TheVariants.{Done, NoRows, Spent}
use Rattle.kw_world.specs.declared.event.Choice.{Choice}
use Rattle.kw_world.specs.declared.local.Local.{Local}
use Rattle.kw_world.specs.Answers.{reply_of}
use Rattle.kw_world.specs.Calls.{first_key}
use Rattle.kw_world.specs.PutTransitions.{given_of, has_room}
use Rattle.kw_world.specs.Sizes.{Sizes}
use Rattle.kw_world.specs.Step.{word}
use Rattle.kw_core.specs.declared.history.CallLog.{CallLog}
use Rattle.kw_core.specs.declared.seat_log.SeatLog.{SeatLog}
use Rattle.kw_core.specs.History.{History, attempt, called}
use Rattle.kw_core.specs.HistoryLaws.{IsPut, Makes}
use Rattle.kw_core.specs.Run.{Run, answering, drawing}
use Rattle.kw_core.specs.Stages.{IsBusy, IsDone, IsStaying, IsUnderway}
use Rattle.kw_core.specs.Step.{Step}
use Rattle.kw_core.specs.Words.{given_in}
use Rattle.kw_core.proofs.Attempts.{in_range}
use Rattle.kw_core.proofs.Happens.{Happens, knows_next, knows_other, log_entry}
use Rattle.kw_core.proofs.NotedLaws.{called_set_same}
use Rattle.kw_shape.specs.RowsIn.{rows_in}
use Rattle.kw_shape.specs.Shape.{HoldsKey, IsAnswerOf, IsKind, IsPutCall}
use Rattle.kw_shape.proofs.LinkedRows.{holds_stays, linked_given, linked_least}
use Rattle.kw_shape.proofs.NextCalls.{arrow_call}
use Rattle.kw_puts.specs.Here.{IsMadeIn}
use Rattle.kw_puts.specs.Positions.{Calling}
use Rattle.kw_puts.proofs.Callings.{same_call}
use Rattle.kw_puts.proofs.NewAttempts.{IsNew, attempt_was}
use Rattle.kw_puts.proofs.Rely.{GoesOn}
use Rattle.kw_puts.proofs.RelyProof.{goes_on_by}
use Rattle.kw_reads.specs.Inv.{Inv, lower}
use Rattle.kw_reads.proofs.HistoryKeeps.{history_step}
use Rattle.kw_reads.proofs.Stamping.{StampStep, StampsNow, stamp_step, stamps_none, stamps_one}
use Rattle.kw_laws.proofs.MirrorSeats.{arrow_busy}
use Rattle.kw_counts.specs.Engagers.{HasEngaged}
use Rattle.kw_counts.specs.Refusals.{IsBeforeRefusals, IsRefusal}
use Rattle.kw_counts.proofs.StampsKeep.{pending_linked}

-- Calls.

-- a seat that makes a call goes on with it, or is about to leave
underway_or_leaves : (a : Activity) → IsBusy a → IsUnderway a ⊎ ((answer : Answer) × (a ≡ Activity.Leave answer))
underway_or_leaves Activity.Idle b = absurd b
underway_or_leaves (Activity.Leave answer) b = inr (answer, refl)
underway_or_leaves a b = inl tt

underway_stays : (a : Activity) → IsUnderway a → IsStaying a
underway_stays Activity.Idle u = absurd u
underway_stays (Activity.Leave answer) u = absurd u
underway_stays a u = tt

-- the key of what a call makes is the call's
makes_key : (call : Call) (key : ℕ) (value : Option ℕ) → Makes call key value → first_key (Some call) ≡ key
makes_key (Put k v) key value m = sym m.0
makes_key (Del k) key value m = sym m.0
makes_key (Get k) key value m = absurd m
makes_key (Scan from upto) key value m = absurd m
makes_key Pin key value m = absurd m
makes_key (ScanAt from upto) key value m = absurd m
makes_key Unpin key value m = absurd m

-- a put or a delete is done, or it is refused
data Leaves (call : Call) (answer : Answer) (r : Reply) : Type 0 where
  is_done : answer ≡ Done → Leaves call answer r
  is_refused : IsRefusal call r → Leaves call answer r

leaves_put : (c : Option Call) (call : Call) (answer : Answer) (pairs : _) → c ≡ Some call → IsPutCall c → IsAnswerOf c answer → Leaves call answer (reply_of answer pairs)
leaves_put c call answer pairs e p k = by call (subst IsPutCall e p) answer (subst (λ q. IsAnswerOf q answer) e k)
  where
    by : (d : Call) → IsPutCall (Some d) → (b : Answer) → IsAnswerOf (Some d) b → Leaves d b (reply_of b pairs)
    by (Put key value) q Done j = is_done refl
    by (Put key value) q NoRows j = is_refused tt
    by (Put key value) q Spent j = is_refused tt
    by (Put key value) q _ j = absurd j
    by (Del key) q Done j = is_done refl
    by (Del key) q NoRows j = is_refused tt
    by (Del key) q Spent j = is_refused tt
    by (Del key) q _ j = absurd j
    by (Get key) q b j = absurd q
    by (Scan from upto) q b j = absurd q
    by Pin q b j = absurd q
    by (ScanAt from upto) q b j = absurd q
    by Unpin q b j = absurd q

-- a row that has room has not given all its cells
room_given : (z : Sizes) (c : Option Count) → has_room z c ≡ true → given_of c < z.cells
room_given z (Some c) e = saw c.frozen e
  where
    saw : (b : Bool) → (let t : Bool = if b then false else nat_lt c.given z.cells in t) ≡ true → c.given < z.cells
    saw true f = let x : false ≡ true = f in absurd (cc)
    saw false f = ltb-true c.given z.cells f
room_given z None e = let x : false ≡ true = e in absurd (cc)

-- the seat goes on with the call that it was in, where it knew k
record GoesOnWith (r r' : Run) (t : ℕ) (k : Local) : Type 0 where
  local : Local
  knows : slice_get r'.world.locals t ≡ Some local
  busy : IsBusy local.activity
  call : local.call ≡ k.call
  log : (r'.seats t).call ≡ (r.seats t).call

-- One event.

module _ (z : Sizes) (r r' : Run) (s : ℕ) (choice : Choice) (l l' : Local) (a : Activity) (h : Happens z r r' s choice l l' a) (v : Inv z r) (v' : Inv z r') (b : IsBeforeRefusals z r') (x t : ℕ) (live : IsLive r.ledger.rows x) (fate : r'.ledger.rows.fates x ≡ r.ledger.rows.fates x) (y : HasEngaged z r x t) where
  st : Step r.history r'.history (log_entry z r a s choice l)
  st = history_step z r r' s choice l a l' h v

  goes : GoesOn r.history r'.history r.origin r'.origin r.ledger.rows
  goes = goes_on_by z r r' s choice l a l' h (lower v) st

  -- the call before the event
  calling : Calling r.history t y.local.activity y.local (r.seats t)
  calling = v.positions.calling t y.local y.knows y.busy

  -- it gets no put: its attempt would stand in another row of the list that holds its key
  not_stamped : (p : ℕ) → IsPut r'.history p → (attempt r'.history p).call ≡ (r.seats t).call → ⊥
  not_stamped p is of = which (stamp_step a h (lower v))
    where
      was_put : IsPut r.history p → ⊥
      was_put e =
          let within = in_range r.history p e in
          let same : (attempt r.history p).call ≡ (r.seats t).call = sym (goes.attempts p within).call ∙ of in
          let q : None ≡ Some p = sym y.unstamped ∙ subst (λ k. (called r.history k).put ≡ Some p) same (v.history.laws.has_put p e) in
          absurd (cc)

      now : (o : ℕ) → StampsNow z r r' a o → p ≡ o → ⊥
      now o n i =
          let same : (attempt r.history o).call ≡ (r.seats t).call = sym (goes.attempts o n.within).call ∙ subst (λ k. (attempt r'.history k).call ≡ (r.seats t).call) i of in
          let holds = (v.puts.given o n.within n.here).holds in
          let listed : IsLive r.ledger.rows (attempt r.history o).row = pending_linked z r v (attempt r.history o).row (attempt r.history o).seat n.cell n.here.linked (v.puts.placed o n.within).seat n.entry in
          let made : Makes (called r.history (r.seats t).call).call (attempt r.history o).key (attempt r.history o).value = subst (λ k. Makes (called r.history k).call (attempt r.history o).key (attempt r.history o).value) same (v.history.laws.attempted o n.within).makes in
          let key : first_key y.local.call ≡ (attempt r.history o).key = ap first_key calling.call ∙ makes_key (called r.history (r.seats t).call).call (attempt r.history o).key (attempt r.history o).value made in
          let here : (attempt r.history o).row ≡ x = one_row (rows_in (word z r.world)) r.ledger.rows v.shape.rows.closed (attempt r.history o).row x (attempt r.history o).key v.shape.rows.chain listed live holds (subst (HoldsKey (word z r.world) r.ledger.rows x) key y.holds) in
          y.none o n.within same (record { row = here; born = subst (λ k. (r.ledger.rows.fates k).born ≤ (attempt r.history o).add) here n.here.born })

      which : StampStep z r r' a → ⊥
      which (stamps_none f) = was_put (f p is)
      which (stamps_one o n) = met (n.was p is)
        where
          met : (p ≡ o) ⊎ IsPut r.history p → ⊥
          met (inl i) = now o n i
          met (inr e) = was_put e

  no_put : (called r'.history (r.seats t).call).put ≡ None
  no_put = by (called r'.history (r.seats t).call).put refl
    where
      not_some : (p : ℕ) → (called r'.history (r.seats t).call).put ≡ Some p → ⊥
      not_some p e = let k = v'.history.laws.is_put (r.seats t).call p e in not_stamped p k.0 k.1

      by : (o : Option ℕ) → (called r'.history (r.seats t).call).put ≡ o → (called r'.history (r.seats t).call).put ≡ None
      by None e = e
      by (Some p) e = absurd (not_some p e)

  -- nor is it given a cell of the row, which has none left
  no_cell : (p : ℕ) → p < length r'.history.attempts → (attempt r'.history p).call ≡ (r.seats t).call → IsMadeIn r'.ledger.rows r'.history x p → ⊥
  no_cell p w of m = which (attempt_was a h p w)
    where
      which : (p < length r.history.attempts) ⊎ IsNew z r r' s l a p → ⊥
      which (inl o) =
          let k = goes.attempts p o in
          y.none p o (sym k.call ∙ of) (record { row = sym k.row ∙ m.row; born = omega (arith, m.born, k.add, ap (λ (f : Fate). f.born) fate) })
      which (inr n) =
          let row : l.row ≡ x = sym (ap (λ k. k.row) n.is) ∙ m.row in
          let room = room_given z (count_of (word z r.world (name.Count l.row))) n.gives.room in
          omega (arith, room, y.full, ap (given_in (word z r.world)) row)

  -- if it acts it does not end the call
  acts : t ≡ s → GoesOnWith r r' t y.local
  acts e = which (underway_or_leaves a (subst IsBusy h.activity (subst (λ (k : Local). IsBusy k.activity) known y.busy)))
    where
      known : y.local ≡ l
      known = same_Some y.local l (sym y.knows ∙ subst (λ n. slice_get r.world.locals n ≡ Some l) (sym e) h.knows)

      on : IsUnderway a → GoesOnWith r r' t y.local
      on u = record {
        local = l';
        knows = subst (λ n. slice_get r'.world.locals n ≡ Some l') (sym e) (knows_next h);
        busy = arrow_busy z (word z r.world) s choice l a l' h.arrow (underway_stays a u);
        call = (arrow_call z (word z r.world) s choice l a l' h.arrow u).0 ∙ ap (λ (k : Local). k.call) (sym known);
        log = subst (λ n. (r'.seats n).call ≡ (r.seats n).call) (sym e) (same_call z r r' s choice l a l' h.arrow h (lower v) st v'.history u);
      }

      ends_call : (answer : Answer) → a ≡ Activity.Leave answer → ⊥
      ends_call answer f = by (leaves_put l.call (called r.history (r.seats s).call).call answer l.pairs called_is (subst (λ (k : Local). IsPutCall k.call) known y.update) (subst (λ q. IsKind q l) (h.activity ∙ f) (v.shape.kinds s l h.knows).kind))
        where
          own_call : Calling r.history s l.activity l (r.seats s)
          own_call = subst (λ n. Calling r.history n l.activity l (r.seats n)) e (subst (λ (k : Local). Calling r.history t k.activity k (r.seats t)) known calling)

          called_is : l.call ≡ Some (called r.history (r.seats s).call).call
          called_is = own_call.call

          unstamped : (called r.history (r.seats s).call).put ≡ None
          unstamped = subst (λ n. (called r.history (r.seats n).call).put ≡ None) e y.unstamped

          leaving : Happens z r r' s choice l l' (Activity.Leave answer)
          leaving = subst (Happens z r r' s choice l l') f h

          now : CallLog
          now = record (called r.history (r.seats s).call) { end = Some (record { at = length r.history.log; reply = reply_of answer l.pairs }); answer = answering l.call l (r.seats s); draw = drawing answer l (r.seats s) }

          is : called r'.history (r.seats s).call ≡ now
          is = called_set_same r.history r'.history (r.seats s).call now (ap (λ (q : History). q.calls) leaving.history) own_call.within

          by : Leaves (called r.history (r.seats s).call).call answer (reply_of answer l.pairs) → ⊥
          by (is_done d) =
              let p = own_call.done (inl (subst IsDone (sym (h.activity ∙ f ∙ ap Activity.Leave d)) tt)) in
              let q : None ≡ Some p.0 = sym unstamped ∙ p.1 in
              absurd (cc)
          by (is_refused q) = b.none (r.seats s).call (record { at = length r.history.log; reply = reply_of answer l.pairs }) (omega (arith, own_call.within, st.more_calls)) (ap (λ (k : CallLog). k.end) is) (subst (λ (k : CallLog). IsRefusal k.call (reply_of answer l.pairs)) (sym is) q)

      which : IsUnderway a ⊎ ((answer : Answer) × (a ≡ Activity.Leave answer)) → GoesOnWith r r' t y.local
      which (inl u) = on u
      which (inr (answer, f)) = absurd (ends_call answer f)

  stays_in : GoesOnWith r r' t y.local
  stays_in = which (cases_eq t s)
    where
      which : (t ≡ s) ⊎ (t ≡ s → ⊥) → GoesOnWith r r' t y.local
      which (inl e) = acts e
      which (inr d) = record { local = y.local; knows = knows_other h t d ∙ y.knows; busy = y.busy; call = refl; log = ap (λ (g : SeatLog). g.call) (h.logs t d) }

  pub engaged_on : HasEngaged z r' x t
  engaged_on = record {
    local = k.local;
    knows = k.knows;
    busy = k.busy;
    update = subst IsPutCall (sym k.call) y.update;
    unstamped = ap (λ n. (called r'.history n).put) k.log ∙ no_put;
    holds = subst (λ q. HoldsKey (word z r'.world) r'.ledger.rows x (first_key q)) (sym k.call) (holds_stays (word z r.world) (word z r'.world) r.ledger.rows r'.ledger.rows x (first_key y.local.call) (ap (λ (f : Fate). f.upper) fate) (linked_least a h v.shape x (inl live)) y.holds);
    full = omega (arith, y.full, linked_given a h v.shape x (inl live));
    none = λ p w of m. no_cell p w (of ∙ k.log) m;
  }
    where
      k : GoesOnWith r r' t y.local
      k = stays_in
