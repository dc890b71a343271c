-- The tables among the lines of an input.
use Rattle.std.proofs.Common.{◌≡◌, ◌<◌, ℕ, List, [], length, Some, slice_get, refl, sym, ◌∙◌, ap, ap₂, subst, arith}
use Rattle.std.specs.List.{AllByRecursion}
use Rattle.std.proofs.lemmas.List.{length-map}
use Rattle.kw_model.specs.declared.call.Reply.{Reply}
use Rattle.kw_world.specs.declared.event.Event.{Event}
use Rattle.kw_world.specs.declared.opening.Opening.{Opening}
use Rattle.kw_line.specs.declared.answer.Answer.{Answer}
use Rattle.kw_line.specs.declared.answer.Answer.TheVariants as answer
use Rattle.kw_line.specs.declared.item.Form.TheVariants as form
use Rattle.kw_line.specs.declared.item.Item.{Item}
use Rattle.kw_line.specs.Line.{IsItem, calls}
use Rattle.kw_rollup.specs.declared.item.RollItem.{RollItem}
use Rattle.kw_rollup.specs.Lines.{AreRollLines, IsRollItem}
use Rattle.kw_table.specs.declared.pass.Pass.{Pass}
use Rattle.kw_table.specs.Passes.{view}
use Rattle.kw_work.specs.declared.line.Line.{Line}
use Rattle.kw_work.specs.Dealing.{lines_of}
use Rattle.kw_work.proofs.Numbers.{calls-lines_of}
use Rattle.kw_app.specs.Answering.{IsRun, opening, some_refused}
use Rattle.kw_app.specs.Asked.{asked_items, updates_above}
use Rattle.kw_app.specs.Ending.{refusal_ending}
use Rattle.kw_app.specs.Headline.{HasOneOrder, line_calls}
use Rattle.kw_app.specs.Recorded.{no_call, recorded, reply_of, seat_calls}
use Rattle.kw_app.specs.Tables.{AreWhole, tables}
use Rattle.kw_app.proofs.Merging.{length-merge}
use Rattle.kw_app.proofs.Scans.{are_whole, asked_are_items, first_workers, scan_alone, scan_asked}
use Rattle.kw_app.proofs.rolling.rolled.Goals as goal

-- no other line asks for a range, so the scan was not refused
unrefused : (workers rows : ℕ) (items : List RollItem) (answers : List Answer) (p : Pass) → IsRun (opening workers rows) (asked_items workers items) answers p → updates_above items < length items → slice_get answers (updates_above items) ≡ Some answer.Spent → ⊥
unrefused workers rows items answers p run table e =
    let b = run.headline.ranges (omega arith) (updates_above items) form.List (scan_asked workers items table) refl e in
    b.apart (scan_alone workers items table b.place b.form b.here b.range)

-- the answers of a run are what tables are made of
whole : (workers rows : ℕ) (items : List RollItem) (answers : List Answer) (p : Pass) → AllByRecursion IsRollItem items → IsRun (opening workers rows) (asked_items workers items) answers p → updates_above items < length items → AreWhole items answers
whole workers rows items answers p each run table =
    let o : Opening = opening workers rows in
    let E : List Event = (view p).seen in
    let asked : List Item = asked_items workers items in
    let one : HasOneOrder o E asked answers = run.headline.order in
    let rs : List Reply = recorded workers (seat_calls o E) (lines_of 1 asked) in
    let long : length rs ≡ length (calls asked) =
    length-map (line_calls o E (lines_of 1 asked)) reply_of ∙ (length-merge workers (seat_calls o E) no_call [] (lines_of 1 asked)
    ∙ (sym (length-map (lines_of 1 asked) (λ (l : Line). l.call)) ∙ ap length (calls-lines_of 1 asked))) in
    subst (AreWhole items) (sym one.prints)
    (are_whole workers items rs one.numbers each long one.are_replies one.order one.legal one.workers (λ e. unrefused workers rows items answers p run table (ap (λ (given : List Answer). slice_get given (updates_above items)) one.prints ∙ e)) table)

pub run_on_map-requires-clause-items : goal.run_on_map-requires-clause-items
run_on_map-requires-clause-items g c κs within =
    let items : List RollItem = c.in_ok-items.items.items in
    let workers = c.args.crew.now.workers in
    let asked : c.deref-3.result.now ≡ asked_items workers items = c.deref-3.ensures.value ∙ (c.in_ok-asked.ensures ∙ ap (asked_items workers) c.deref-2.ensures.value) in
    subst (AllByRecursion IsItem) (sym asked) (asked_are_items workers items c.in_ok-items.ensures.items.each)

pub tables-requires-clause-whole : goal.tables-requires-clause-whole
tables-requires-clause-whole g c =
    let items : List RollItem = c.in_ok-items.items.items in
    let answers : List Answer = c.in_ok-front.answers.items in
    let workers = c.args.crew.now.workers in
    let rows = c.args.crew.now.rows in
    let asked : c.deref-3.result.now ≡ asked_items workers items = c.deref-3.ensures.value ∙ (c.in_ok-asked.ensures ∙ ap (asked_items workers) c.deref-2.ensures.value) in
    let w : updates_above items < length items → AreWhole items answers = whole workers rows items answers c.in_ok-front.front c.in_ok-items.ensures.items.each (subst (λ (l : List Item). IsRun (opening workers rows) l answers c.in_ok-front.front) asked c.in_ok-front.ensures) in
    subst (λ (is : List RollItem). updates_above is < length is → AreWhole is c.deref-5.result.now) (sym c.deref-4.ensures.value) (subst (λ (given : List Answer). updates_above items < length items → AreWhole items given) (sym c.deref-5.ensures.value) w)

pub returns-clause-text : goal.returns-clause-text
returns-clause-text g c =
    let items : List RollItem = c.in_ok-items.items.items in
    let answers : List Answer = c.in_ok-front.answers.items in
    let workers = c.args.crew.now.workers in
    let begins = opening workers c.args.crew.now.rows in
    let asked : c.deref-3.result.now ≡ asked_items workers items = c.deref-3.ensures.value ∙ (c.in_ok-asked.ensures ∙ ap (asked_items workers) c.deref-2.ensures.value) in
    record {
      items = items;
      lines = subst (λ (bytes : List ℕ). AreRollLines bytes items) c.deref.ensures.value c.in_ok-items.ensures.items;
      rolled = record {
        answers = answers;
        answered = record {
          pass = c.in_ok-front.front;
          front_is = refl;
          run = subst (λ (l : List Item). IsRun begins l answers c.in_ok-front.front) asked c.in_ok-front.ensures;
        };
        scan = first_workers workers items (let some = c.args.crew.now.opens.some_seats in omega arith);
        text_is = c.in_ok-text.ensures ∙ ap₂ (tables c.args.width) c.deref-4.ensures.value c.deref-5.ensures.value;
        ending_is = c.of_answers-ending.ensures ∙ ap (λ (l : List Answer). refusal_ending (some_refused l)) c.deref-6.ensures.value;
      };
    }
