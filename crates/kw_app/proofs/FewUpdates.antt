-- No answer of a run is a refusal, where its updates are few.
use Rattle.std.proofs.Common.{ℕ, false, ◌≡◌, ◌+◌, ◌*◌, ◌^◌, ◌<◌, ◌≤◌, All, List, [], ◌∷◌, length, map, Option, Some, refl, sym, ap, ◌∙◌, subst, arith}
use Rattle.std.specs.List.{slice_get}
use Rattle.std.specs.Option.{option_map}
use Rattle.std.proofs.lemmas.List.{length-map}
use Rattle.std.proofs.lemmas.List.Elements.{All-cons, All-head, All-nil, All-same, All-tail}
use Rattle.std.proofs.lemmas.List.Folds.{list_any_none}
use Rattle.std.proofs.lemmas.Option.{get_or_from_slice_get, same_Some, slice_get-map, slice_get_within}
use Rattle.kw_words.specs.declared.sizes.TheConstants.{MOST_NEW_ROWS}
use Rattle.kw_model.specs.Legal.{is_refusal}
use Rattle.kw_model.specs.declared.call.Call.{Call}
use Rattle.kw_model.specs.declared.call.Call.TheVariants.{Del, Get, Put, Scan, Pin, ScanAt, Unpin}
use Rattle.kw_model.specs.declared.call.Reply.{Reply}
use Rattle.kw_model.specs.declared.call.Reply.TheVariants as reply
use Rattle.kw_world.specs.declared.event.Event.{Event}
use Rattle.kw_world.specs.declared.limits.TheConstants.{TIDY_SHARE}
use Rattle.kw_world.specs.declared.opening.Opening.{Opening}
use Rattle.kw_world.specs.Opening.{IsOpening}
use Rattle.kw_world.specs.Sizes.{product}
use Rattle.kw_core.specs.History.{History, called}
use Rattle.kw_core.specs.HistoryLaws.{Answers, HistoryLaws}
use Rattle.kw_core.specs.declared.history.End.{End}
use Rattle.kw_core.specs.Run.{history}
use Rattle.kw_laws.specs.Clocks.{IsScan}
use Rattle.kw_laws.specs.SeatCalls.{CallSeen, seen}
use Rattle.kw_laws.proofs.LawProofs.{laws_hold}
use Rattle.kw_counts.specs.Refusals.{HasNoRefusal, IsRefusal}
use Rattle.kw_counts.proofs.BankHold.{bank_holds}
use Rattle.kw_counts.proofs.EngagersHold.{engagers_hold}
use Rattle.kw_counts.proofs.SpentHold.{spent_holds}
use Rattle.kw_used.specs.Few.{HasEnoughNew, update_price, update_share}
use Rattle.kw_used.proofs.AtProduct.{enough_new, update_pays}
use Rattle.kw_used.proofs.NeverRefused.{never_refused}
use Rattle.kw_order.proofs.SeatOrders.{placed_within}
use Rattle.kw_table.specs.declared.pass.Pass.{Pass}
use Rattle.kw_table.specs.Passes.{view}
use Rattle.kw_line.specs.declared.answer.Answer.{Answer}
use Rattle.kw_line.specs.declared.item.Form.{Form}
use Rattle.kw_line.specs.declared.item.Item.{Item}
use Rattle.kw_line.specs.Answered.{answer_for, answers_for}
use Rattle.kw_line.specs.Line.{calls, forms}
use Rattle.kw_work.specs.Dealing.{lines_of}
use Rattle.kw_work.proofs.Asked.{element_at}
use Rattle.kw_app.specs.Answering.{IsRun, opening, some_refused}
use Rattle.kw_app.specs.Few.{AreFew}
use Rattle.kw_app.specs.Headline.{HasOneOrder, line_calls}
use Rattle.kw_app.specs.Recorded.{IsWithin, reply_at, reply_of}
use Rattle.kw_app.specs.Running.{is_refused}
use Rattle.kw_app.proofs.AnswerForms.{served_answer}
use Rattle.kw_app.proofs.LineOrders.{has_end}
use Rattle.kw_app.proofs.RunCalls.{all_scans-few, all_updates-lines}

-- a call that was not stopped, and is no update that was refused and no scan that was, was answered
answered : (call : Call) (put : Option ℕ) (r : Reply) → Answers call put r → (IsRefusal call r → ⊥) → (IsScan call → r ≡ reply.Spent → ⊥) → (r ≡ reply.Stopped → ⊥) → is_refusal r ≡ false
answered call put reply.Done a update scan stopped = refl
answered call put (reply.Value v) a update scan stopped = refl
answered call put reply.Absent a update scan stopped = refl
answered call put (reply.Pairs ps) a update scan stopped = refl
answered (Put key value) put reply.NoRows a update scan stopped = absurd (update tt)
answered (Del key) put reply.NoRows a update scan stopped = absurd (update tt)
answered (Get key) put reply.NoRows a update scan stopped = absurd a
answered (Scan from upto) put reply.NoRows a update scan stopped = absurd a
answered Pin put reply.NoRows a update scan stopped = absurd a
answered (ScanAt from upto) put reply.NoRows a update scan stopped = absurd a
answered Unpin put reply.NoRows a update scan stopped = absurd a
answered (Put key value) put reply.Spent a update scan stopped = absurd (update tt)
answered (Del key) put reply.Spent a update scan stopped = absurd (update tt)
answered (Get key) put reply.Spent a update scan stopped = absurd a
answered (Scan from upto) put reply.Spent a update scan stopped = absurd (scan tt refl)
answered Pin put reply.Spent a update scan stopped = absurd (scan tt refl)
answered (ScanAt from upto) put reply.Spent a update scan stopped = absurd a
answered Unpin put reply.Spent a update scan stopped = absurd a
answered call put reply.Held a update scan stopped = refl
answered call put reply.NotPinned a update scan stopped = refl
answered call put reply.Stopped a update scan stopped = absurd (stopped refl)

-- the answers that stand for replies which are no refusals are none
served_answers : (fs : List Form) (rs : List Reply) → All (λ r. is_refusal r ≡ false) rs → All (λ a. is_refused a ≡ false) (answers_for fs rs)
served_answers [] rs all = All-nil (λ a. is_refused a ≡ false)
served_answers (f ∷ fs) [] all = All-nil (λ a. is_refused a ≡ false)
served_answers (f ∷ fs) (r ∷ rs) all =
    All-cons (λ a. is_refused a ≡ false) (answer_for f r) (answers_for fs rs) (served_answer f r (All-head (λ r. is_refusal r ≡ false) r rs all))
    (served_answers fs rs (All-tail (λ r. is_refusal r ≡ false) r rs all))

module _ (workers rows : ℕ) (items : List Item) (answers : List Answer) (p : Pass) (run : IsRun (opening workers rows) items answers p) (short : length items < 2 ^ 32) (few : AreFew workers rows items) where
  abbrev o : Opening
  o = opening workers rows

  -- what happened
  abbrev E : List Event
  E = (view p).seen

  abbrev h : History
  h = (history product o E).history

  opens : IsOpening product o
  opens = subst (IsOpening product) run.shows.opening p.known.opens

  -- the map has enough for the calls that were begun
  enough : HasEnoughNew o E
  enough = record {
    rows = subst (λ n. workers * (update_price * n) + TIDY_SHARE ≤ rows) (sym (all_updates-lines o E opens run.shows.valid items run.shows.asks_are)) few;
    scans = omega (arith, all_scans-few o E opens run.shows.valid items run.shows.asks_are, short);
  }

  -- so no update was refused
  updates_served : HasNoRefusal h
  updates_served =
      (never_refused product o opens MOST_NEW_ROWS update_share update_price update_pays (engagers_hold product o opens) (bank_holds product o opens) E run.shows.valid (enough_new o E opens refl refl enough)).refused

  -- and no scan
  scan_served : (x : ℕ) (e : End) → x < length h.calls → (called h x).end ≡ Some e → IsScan (called h x).call → e.reply ≡ reply.Spent → ⊥
  scan_served x e lt ends scans spent =
      let may = (spent_holds product o opens E run.shows.valid).scans x e lt scans ends spent in
      omega (arith, may, enough.scans)

  -- The lines.

  laws : HistoryLaws h
  laws = (laws_hold product o opens E run.shows.valid).history

  abbrev order : HasOneOrder o E items answers
  order = run.headline.order

  abbrev made : List CallSeen
  made = line_calls o E (lines_of 1 items)

  -- the call of a line, by its number in the record
  record IsRecorded (c : CallSeen) : Type 0 where
    call : ℕ
    inside : call < length h.calls
    is : c ≡ seen (called h call)
    within : IsWithin 0 (length E) c

  line_recorded : (i : ℕ) (c : CallSeen) → slice_get made i ≡ Some c → IsRecorded c
  line_recorded i c e =
      let long : length made ≡ length (calls items) = sym (length-map made (λ (c : CallSeen). c.call)) ∙ ap length order.asks in
      let inside : i < length made = slice_get_within made i c e in
      let a = order.order.every i (omega (arith, long, inside)) in
      let placed : a.0 < length order.numbers = slice_get_within order.numbers a.0 i a.1 in
      let x = element_at order.of_calls.places a.0 (omega (arith, order.of_calls.as_many, placed)) in
      record {
        call = x.0;
        inside = placed_within h x.0 (order.of_calls.is_order.placed a.0 x.0 x.1);
        is = same_Some c (seen (called h x.0)) (◌∙◌ {c = Some (seen (called h x.0))} (sym e) (order.of_calls.made_by a.0 i x.0 a.1 x.1));
        within = subst (λ (d : CallSeen). IsWithin 0 (length E) d) (get_or_from_slice_get made i c c e) (order.ended i c inside);
      }

  -- a call that ended so was answered
  call_served : (x : ℕ) (e : End) → x < length h.calls → (called h x).end ≡ Some e → (e.reply ≡ reply.Stopped → ⊥) → is_refusal e.reply ≡ false
  call_served x e lt ends = answered (called h x).call (called h x).put e.reply (laws.ends x e ends).1 (updates_served x e lt ends) (scan_served x e lt ends)

  -- so was the call of a line
  line_served : (i : ℕ) (c : CallSeen) → slice_get made i ≡ Some c → is_refusal (reply_of c) ≡ false
  line_served i c e = go (line_recorded i c e)
    where
      go : IsRecorded c → is_refusal (reply_of c) ≡ false
      go x =
          let d = has_end (length E) c.end x.within.ends in
          let replied : reply_of c ≡ d.0.reply = ap reply_at d.1 in
          ap is_refusal replied ∙ call_served x.call d.0 x.inside (ap (λ (q : CallSeen). q.end) (sym x.is) ∙ d.1) (λ s. x.within.unstopped (replied ∙ s))

  replies_served : All (λ r. is_refusal r ≡ false) (map reply_of made)
  replies_served i d lt =
      let c = element_at made i (subst (λ n. i < n) (length-map made reply_of) lt) in
      subst (λ r. is_refusal r ≡ false) (sym (get_or_from_slice_get (map reply_of made) i (reply_of c.0) d (slice_get-map reply_of made i ∙ ap (option_map reply_of) c.1))) (line_served i c.0 c.1)

  -- no answer of the run is a refusal
  pub none_refused : All (λ a. is_refused a ≡ false) answers
  none_refused = All-same (λ a. is_refused a ≡ false) answers (answers_for (forms items) (map reply_of made)) run.shows.prints (served_answers (forms items) (map reply_of made) replies_served)

  -- so none is found among them
  pub complete : some_refused answers ≡ false
  complete = list_any_none is_refused answers none_refused
