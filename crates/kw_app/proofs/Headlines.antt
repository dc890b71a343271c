-- What the answers of a run are worth, from the order of its lines.
use Rattle.std.proofs.Common.{ℕ, zero, suc, ◌<◌, ◌≤◌, true, false, ◌≡◌, ◌⊎◌, inl, inr, IsTrue, All, List, [], ◌∷◌, length, map, take, Some, refl, sym, ap, ◌∙◌, subst, arith}
use Rattle.std.specs.List.{slice_get, AllByRecursion}
use Rattle.std.proofs.lemmas.Bool.{false≢true}
use Rattle.std.proofs.lemmas.List.{length-map}
use Rattle.std.specs.Option.{option_map}
use Rattle.std.proofs.lemmas.Option.{same_Some, slice_get_within, slice_get-map, get_or_from_slice_get}
use Rattle.kw_words.specs.declared.sizes.TheConstants.{SPENT}
use Rattle.kw_model.specs.Map.{Pairs, after, answers}
use Rattle.kw_model.specs.Legal.{IsLegal, IsRight, is_refusal, may_refuse}
use Rattle.kw_model.specs.declared.call.Call.{Call}
use Rattle.kw_model.specs.declared.call.Reply.{Reply}
use Rattle.kw_model.specs.declared.call.Reply.TheVariants as reply
use Rattle.kw_model.proofs.Answers.{answers_only}
use Rattle.kw_core.specs.declared.history.End.{End}
use Rattle.kw_world.specs.declared.opening.Opening.{Opening}
use Rattle.kw_world.specs.Opening.{IsOpening}
use Rattle.kw_world.specs.Sizes.{product}
use Rattle.kw_line.specs.declared.answer.Answer.{Answer}
use Rattle.kw_line.specs.declared.answer.Answer.TheVariants.{NoRows, Spent}
use Rattle.kw_line.specs.declared.item.Form.{Form}
use Rattle.kw_line.specs.declared.item.Item.{Item}
use Rattle.kw_line.specs.declared.item.Item.TheVariants as item
use Rattle.kw_line.specs.Answered.{IsReplyOf, answer_for, answers_for, is_range}
use Rattle.kw_line.specs.Line.{IsCallOf, IsItem, calls, forms}
use Rattle.kw_line.specs.Quiet.{quiet}
use Rattle.kw_work.specs.declared.line.Line.{Line}
use Rattle.kw_work.specs.Dealing.{lines_of, blocks_of}
use Rattle.kw_work.specs.LineOrder.{IsOrderOf, IsLegalIn, call_at, reply_at, joined, KeepsWorkers, NoItemRefused}
use Rattle.kw_work.proofs.Asked.{element_at, map_after, right_at}
use Rattle.kw_work.proofs.LineOrders.{legal_in_line_order}
use Rattle.kw_work.proofs.Numbers.{calls-lines_of, forms-lines_of, joined-blocks_of}
use Rattle.kw_work.proofs.QuietBlocks.{none_passes}
use Rattle.kw_work.proofs.QuietItems.{quiet_items_answered}
use Rattle.kw_work.proofs.WorkerOrders.{keeps_all, keeps_keys}
use Rattle.kw_table.specs.declared.pass.Pass.{Pass}
use Rattle.kw_table.specs.declared.pass.View.{View}
use Rattle.kw_table.specs.Passes.{view}
use Rattle.kw_laws.specs.SeatCalls.{CallSeen}
use Rattle.kw_map.proofs.Ordering.{pass_ordered}
use Rattle.kw_app.specs.Recorded.{IsWithin, line_forms, no_call, recorded, reply_at as reply_at_end, reply_of, seat_calls}
use Rattle.kw_app.specs.Running.{is_refused, Shows}
use Rattle.kw_app.specs.Headline.{Headline, HasOneOrder, UpdatesServed, QuietAnswered, AreRefusals, AreRefusedBeside, IsBesideRange, line_calls}
use Rattle.kw_app.specs.Answering.{IsRun, some_refused}
use Rattle.kw_app.specs.OneThread.{answers_to}
use Rattle.kw_app.proofs.AnswerForms.{MayBeRefused, answers_at, range_refused, range_scan, right_refusal, same_answers, scan_range, spent_reply, unrefused}
use Rattle.kw_app.proofs.Shown.{IfFirst}
use Rattle.kw_app.proofs.Merging.{length-merge}
use Rattle.kw_app.proofs.LineOrders.{AreOrdered, HasOtherScan, has_end, line_caused, line_replied, lines_ordered, scan_beside}

-- there are as many forms as calls
many_forms : (items : List Item) → length (forms items) ≡ length (calls items)
many_forms [] = refl
many_forms (item.Call c f ∷ items) = ap suc (many_forms items)
many_forms (item.Wait ∷ items) = many_forms items

-- a call is one of its form
formed : (items : List Item) (i : ℕ) (c : Call) (f : Form) → AllByRecursion IsItem items → slice_get (calls items) i ≡ Some c → slice_get (forms items) i ≡ Some f → IsCallOf f c
formed [] i c f all d e = absurd (cc)
formed (item.Call b g ∷ items) zero c f all d e = subst (λ h. IsCallOf h c) (same_Some g f e) (subst (λ a. IsCallOf g a) (same_Some b c d) all.0.0)
formed (item.Call b g ∷ items) (suc i) c f all d e = formed items i c f all.1 d e
formed (item.Wait ∷ items) i c f all d e = formed items i c f all.1 d e

-- there are as many answers as calls
length-answers : (m : Pairs) (cs : List Call) → length (answers m cs) ≡ length cs
length-answers m [] = refl
length-answers m (c ∷ cs) = ap suc (length-answers (after m c) cs)

module _ (o : Opening) (items : List Item) (printed : List Answer) (v : View) (opening : IsOpening product o) (each : AllByRecursion IsItem items) (shows : Shows o items printed v) where
  -- the replies to the lines
  abbrev replies : List Reply
  replies = recorded o.seats (seat_calls o v.seen) (lines_of 1 items)

  -- their order
  ordered : AreOrdered o v.seen (lines_of 1 items) opening shows.valid shows.asks_are shows.ended (blocks_of 1 items)
  ordered = lines_ordered o v.seen (lines_of 1 items) opening shows.valid shows.asks_are shows.ended (blocks_of 1 items) (joined-blocks_of 1 items) shows.blocks

  -- there are as many replies as calls
  many_replies : length replies ≡ length (calls items)
  many_replies =
      length-map (line_calls o v.seen (lines_of 1 items)) reply_of ∙ (length-merge o.seats (seat_calls o v.seen) no_call [] (lines_of 1 items)
      ∙ (sym (length-map (lines_of 1 items) (λ (l : Line). l.call)) ∙ ap length (calls-lines_of 1 items)))

  -- the order has each call once
  order : IsOrderOf (length (calls items)) ordered.numbers
  order = subst (λ cs. IsOrderOf (length cs) ordered.numbers) (calls-lines_of 1 items) ordered.order

  -- the replies are right in it
  legal : IsLegalIn (calls items) replies ordered.numbers
  legal = subst (λ cs. IsLegalIn cs replies ordered.numbers) (calls-lines_of 1 items) ordered.legal

  -- it keeps each worker's lines, and the blocks
  workers : KeepsWorkers o.seats (blocks_of 1 items) ordered.numbers
  workers =
      let is : joined (blocks_of 1 items) ≡ lines_of 1 items = joined-blocks_of 1 items in
      record {
        shares = λ i j l m lt e f same. ordered.shares i j l m lt (ap (λ ls. slice_get ls i) (sym is) ∙ e) (ap (λ ls. slice_get ls j) (sym is) ∙ f) same;
        cuts = ordered.cuts;
      }

  -- The line at a place.

  record IsAt (i : ℕ) (f : Form) : Type 0 where
    call : Call
    calls_are : slice_get (calls items) i ≡ Some call
    is_call : IsCallOf f call
    reply : Reply
    replied : slice_get replies i ≡ Some reply
    answered : slice_get printed i ≡ Some (answer_for f reply)

  -- the line of a form
  at : (i : ℕ) (f : Form) → slice_get (forms items) i ≡ Some f → IsAt i f
  at i f e =
      let inside = slice_get_within (forms items) i f e in
      let many = many_forms items in
      let long = many_replies in
      let c = element_at (calls items) i (omega arith) in
      let r = element_at replies i (omega arith) in
      record {
        call = c.0;
        calls_are = c.1;
        is_call = formed items i c.0 f each c.1 e;
        reply = r.0;
        replied = r.1;
        answered = ap (λ q. slice_get q i) shows.prints ∙ answers_at (forms items) replies i f r.0 e r.1;
      }

  -- The reply of a line.

  -- it is right where the line's call stands
  record IsRightAt (i : ℕ) (f : Form) (x : IsAt i f) : Type 0 where
    map : Pairs
    right : IsRight map x.call x.reply

  right_here : (i : ℕ) (f : Form) (x : IsAt i f) → IsRightAt i f x
  right_here i f x =
      let a = order.every i (slice_get_within (calls items) i x.call x.calls_are) in
      let m : Pairs = map_after (call_at (calls items)) (reply_at replies) [] (take a.0 ordered.numbers) in
      let right = right_at (call_at (calls items)) (reply_at replies) [] ordered.numbers a.0 i legal a.1 in
      let c : call_at (calls items) i ≡ x.call = get_or_from_slice_get (calls items) i x.call _ x.calls_are in
      let r : reply_at replies i ≡ x.reply = get_or_from_slice_get replies i x.reply _ x.replied in
      record { map = m; right = subst (λ q. IsRight m q x.reply) c (subst (λ q. IsRight m (call_at (calls items) i) q) r right) }

  -- the line at a place, and the call that it made
  record IsLineAt (i : ℕ) (f : Form) (r : Reply) : Type 0 where
    line : Line
    here : slice_get (lines_of 1 items) i ≡ Some line
    is_form : line.form ≡ f
    made : CallSeen
    seen : slice_get (line_calls o v.seen (lines_of 1 items)) i ≡ Some made
    is_reply : reply_of made ≡ r

  line_at : (i : ℕ) (f : Form) (r : Reply) → slice_get (forms items) i ≡ Some f → slice_get replies i ≡ Some r → IsLineAt i f r
  line_at i f r e g =
      let calls : List CallSeen = line_calls o v.seen (lines_of 1 items) in
      let fs : map (λ (l : Line). l.form) (lines_of 1 items) ≡ forms items = forms-lines_of 1 items in
      let l = element_at (lines_of 1 items) i (subst (λ n. i < n) (length-map (lines_of 1 items) (λ (l : Line). l.form)) (slice_get_within (line_forms (lines_of 1 items)) i f (ap (λ q. slice_get q i) fs ∙ e))) in
      let c = element_at calls i (subst (λ n. i < n) (length-map calls reply_of) (slice_get_within replies i r g)) in
      record {
        line = l.0;
        here = l.1;
        is_form = same_Some l.0.form f (sym (slice_get-map (λ (l : Line). l.form) (lines_of 1 items) i ∙ ap (option_map (λ (l : Line). l.form)) l.1) ∙ (ap (λ q. slice_get q i) fs ∙ e));
        made = c.0;
        seen = c.1;
        is_reply = same_Some (reply_of c.0) r (sym (slice_get-map reply_of calls i ∙ ap (option_map reply_of) c.1) ∙ g);
      }

  -- the reply of a line is one that the line may have, since it is so of the calls of each seat
  are_replies : (i : ℕ) (f : Form) (r : Reply) → slice_get (forms items) i ≡ Some f → slice_get replies i ≡ Some r → IsReplyOf f r
  are_replies i f r e g =
      let x = line_at i f r e g in
      let h : IsReplyOf x.line.form (reply_of x.made) = line_replied o v.seen (lines_of 1 items) opening shows.valid shows.asks_are shows.ended shows.are_replies i x.line x.made x.here x.seen in
      subst (λ q. IsReplyOf q r) x.is_form (subst (IsReplyOf x.line.form) x.is_reply h)

  one_order : HasOneOrder o v.seen items printed
  one_order = record {
    asks = ordered.asks_all ∙ calls-lines_of 1 items;
    ended = ordered.ended_all;
    prints = shows.prints;
    are_replies = are_replies;
    causes = line_caused o v.seen (lines_of 1 items) opening shows.valid shows.asks_are shows.ended shows.causes;
    numbers = ordered.numbers;
    order = order;
    of_calls = ordered.of_calls;
    legal = legal;
    precedence = ordered.precedence;
    workers = workers;
  }

  -- One worker.

  -- where no answer is a refusal, no reply is one
  none_refused : All (λ a. is_refused a ≡ false) printed → All (λ r. is_refusal r ≡ false) replies
  none_refused none i d lt =
      let many = many_forms items in
      let long = many_replies in
      let f = element_at (forms items) i (omega arith) in
      let x = at i f.0 f.1 in
      let a : Answer = answer_for f.0 x.reply in
      let served : is_refused a ≡ false = subst (λ b. is_refused b ≡ false) (get_or_from_slice_get printed i a a x.answered) (none i a (slice_get_within printed i a x.answered)) in
      subst (λ r. is_refusal r ≡ false) (sym (get_or_from_slice_get replies i x.reply d x.replied)) (unrefused f.0 x.reply (are_replies i f.0 x.reply f.1 x.replied) served)

  -- one worker's lines stand in line order, and so the answers are those in line order
  alone : o.seats ≡ 1 → All (λ a. is_refused a ≡ false) printed → printed ≡ answers_to items
  alone one none =
      let all : length (calls items) ≡ length (joined (blocks_of 1 items)) = ap length (sym (calls-lines_of 1 items)) ∙ (length-map (lines_of 1 items) (λ (l : Line). l.call) ∙ ap length (sym (joined-blocks_of 1 items))) in
      let keeps : KeepsWorkers 1 (blocks_of 1 items) ordered.numbers = subst (λ n. KeepsWorkers n (blocks_of 1 items) ordered.numbers) one workers in
      let in_order = keeps_all (blocks_of 1 items) ordered.numbers (subst (λ n. IsOrderOf n ordered.numbers) all order) keeps in
      let right : IsLegal [] (calls items) replies = legal_in_line_order (calls items) replies ordered.numbers (sym many_replies) order in_order legal in
      shows.prints ∙ ap (answers_for (forms items)) (answers_only [] (calls items) replies (none_refused none) right)

  -- Quiet lines.

  -- where no answer of a line that sets a value or takes a key away is a refusal, no such reply is
  -- one
  served : UpdatesServed items printed → NoItemRefused items replies
  served all i f r e g u = unrefused f r (are_replies i f r e g) (all i f (answer_for f r) e (ap (λ q. slice_get q i) shows.prints ∙ answers_at (forms items) replies i f r e g) u)

  quiet_answered : UpdatesServed items printed → QuietAnswered items printed
  quiet_answered all i f e q = go (quiet_items_answered 1 items replies ordered.numbers each many_replies order (keeps_keys o.seats (blocks_of 1 items) ordered.numbers workers) (served all) legal i x.call f x.reply x.calls_are e x.replied q)
    where
      x : IsAt i f
      x = at i f e

      go : (slice_get (answers [] (calls items)) i ≡ Some x.reply) ⊎ (IsTrue (is_range f) × IsTrue (may_refuse x.call x.reply)) → (slice_get printed i ≡ slice_get (answers_to items) i) ⊎ (IsTrue (is_range f) × (slice_get printed i ≡ Some Spent))
      go (inl same) = inl (x.answered ∙ sym (answers_at (forms items) (answers [] (calls items)) i f x.reply e same))
      go (inr h) = inr (h.0, x.answered ∙ ap Some (range_refused f x.call x.reply (are_replies i f x.reply e x.replied) x.is_call h.0 h.1))

  -- where all lines are quiet and none is refused, the answers are those in line order
  pub all_quiet : ((i : ℕ) (f : Form) → slice_get (forms items) i ≡ Some f → slice_get (quiet items) i ≡ Some true) → some_refused printed ≡ false → printed ≡ answers_to items
  all_quiet each_quiet none =
      shows.prints ∙ same_answers (forms items) replies (answers [] (calls items)) (many_replies ∙ sym (many_forms items)) (length-answers [] (calls items) ∙ sym (many_forms items))
      (λ i f e. sym (ap (λ q. slice_get q i) shows.prints) ∙ at_line i f e (quiet_answered (λ j g a is_f is_a u. none_passes is_refused printed j a none is_a) i f e (each_quiet i f e)))
    where
      at_line : (i : ℕ) (f : Form) → slice_get (forms items) i ≡ Some f → (slice_get printed i ≡ slice_get (answers_to items) i) ⊎ (IsTrue (is_range f) × (slice_get printed i ≡ Some Spent)) → slice_get printed i ≡ slice_get (answers_to items) i
      at_line i f e (inl same) = same
      at_line i f e (inr refused) = absurd (false≢true (sym (none_passes is_refused printed i Spent none refused.1)))

  -- Refusals.

  -- the reply of a line is right where its call stands, so it is refused only as its form may be
  may : (i : ℕ) (f : Form) (x : IsAt i f) → MayBeRefused f (answer_for f x.reply)
  may i f x = let h = right_here i f x in right_refusal f x.call x.reply h.map x.is_call h.right

  refusals : AreRefusals items printed
  refusals = record {
    no_rows = λ i f e g. let x = at i f e in (may i f x).0 (same_Some (answer_for f x.reply) NoRows (sym x.answered ∙ g));
    spent = λ i f e g. let x = at i f e in (may i f x).1 (same_Some (answer_for f x.reply) Spent (sym x.answered ∙ g));
  }

  -- a line that asks for a range made a scan, which was refused only beside another one
  ranges : o.clock < SPENT → AreRefusedBeside items printed
  ranges low i f e t g =
      let made : List CallSeen = line_calls o v.seen (lines_of 1 items) in
      let x = at i f e in
      let r : x.reply ≡ reply.Spent = spent_reply f x.reply (are_replies i f x.reply e x.replied) (same_Some (answer_for f x.reply) Spent (sym x.answered ∙ g)) in
      let l = line_at i f x.reply e x.replied in
      let asks : l.made.call ≡ x.call =
      same_Some l.made.call x.call (sym (slice_get-map (λ (c : CallSeen). c.call) made i ∙ ap (option_map (λ (c : CallSeen). c.call)) l.seen) ∙ (ap (λ (cs : List Call). slice_get cs i) one_order.asks ∙ x.calls_are)) in
      let s = range_scan f x.call x.is_call t in
      let within = subst (λ (c : CallSeen). IsWithin 0 (length v.seen) c) (get_or_from_slice_get made i l.made l.made l.seen) (ordered.ended_all i l.made (slice_get_within made i l.made l.seen)) in
      let d = has_end (length v.seen) l.made.end within.ends in
      let is : d.0.reply ≡ reply.Spent = sym (ap reply_at_end d.1) ∙ (l.is_reply ∙ r) in
      which (scan_beside o v.seen (lines_of 1 items) opening shows.valid shows.asks_are shows.ended i s.0 s.1 d.0.at l.made l.seen (asks ∙ s.2) (d.1 ∙ ap (λ (q : Reply). let e : End = record { at = d.0.at; reply = q } in Some e) is))
    where
      which : (SPENT ≤ o.clock) ⊎ HasOtherScan (line_calls o v.seen (lines_of 1 items)) i → IsBesideRange items i
      which (inl high) = absurd (omega (arith, low, high))
      which (inr b) =
          let made : List CallSeen = line_calls o v.seen (lines_of 1 items) in
          let called : slice_get (calls items) b.place ≡ Some b.call.call = sym (ap (λ (cs : List Call). slice_get cs b.place) one_order.asks) ∙ (slice_get-map (λ (c : CallSeen). c.call) made b.place ∙ ap (option_map (λ (c : CallSeen). c.call)) b.here) in
          let f = element_at (forms items) b.place (let many = many_forms items in let inside = slice_get_within (calls items) b.place b.call.call called in omega arith) in
          record { place = b.place; apart = b.apart; form = f.0; here = f.1; range = scan_range f.0 b.call.call (formed items b.place b.call.call f.0 each called f.1) b.scans }

  -- all of it
  pub headline : Headline o v.seen items printed
  headline = record { order = one_order; alone = alone; quiet = quiet_answered; refusals = refusals; ranges = ranges }

-- where the first of some passes shows a run, the answers are those of the run
pub run_first : (o : Opening) (items : List Item) (printed : List Answer) (ps : List Pass) → IsOpening product o → AllByRecursion IsItem items → IfFirst ps (λ p. Shows o items printed (view p)) → IfFirst ps (IsRun o items printed)
run_first o items printed [] opening each shows = tt
run_first o items printed (p ∷ ps) opening each shows = record { shows = shows; ordered = pass_ordered p; headline = headline o items printed (view p) opening each shows }
