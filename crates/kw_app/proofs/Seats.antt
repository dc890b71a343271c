-- What one pass knows of its calls, in the list of events that all passes then have seen.
use Rattle.std.proofs.Common.{◌≡◌, ℕ, true, List, ◌++◌, length, drop, All, refl, sym, ap, ◌∙◌, subst, arith}
use Rattle.std.proofs.lemmas.List.{drop_at}
use Rattle.std.proofs.lemmas.List.Elements.{All-weaker, All-same}
use mathlib.Core.List.{IsPrefix}
use Rattle.kw_world.specs.declared.event.Event.{Event}
use Rattle.kw_world.specs.declared.local.Local.{Local}
use Rattle.kw_world.specs.declared.opening.Opening.{Opening}
use Rattle.kw_world.specs.Sizes.{product}
use Rattle.kw_core.specs.Events.{is_valid, of_seat}
use Rattle.kw_laws.specs.SeatCalls.{CallSeen, calls_seen}
use Rattle.kw_laws.proofs.SeatCalls.{calls_still}
use Rattle.kw_table.specs.declared.pass.Pass.{Pass}
use Rattle.kw_table.specs.Passes.{view}
use Rattle.kw_table.specs.Views.{Meets}
use Rattle.kw_map.specs.Meetings.{MeetsAt}
use Rattle.kw_table.proofs.Prefixes.{prefix_trans}
use Rattle.kw_table.proofs.Stepping.{rest_is_others}
use Rattle.kw_follow.specs.Calling.{calls_in, now_in}
use Rattle.kw_map.specs.declared.kiwi.Kiwi.{Kiwi}
use Rattle.kw_work.specs.declared.line.Line.{Line}
use Rattle.kw_line.specs.declared.answer.Answer.{Answer}
use Rattle.kw_work.specs.Dealing.{Dealt, part}
use Rattle.kw_app.specs.Recorded.{asked, asks, seat_calls, AreReplies, IsWithin}
use Rattle.kw_app.specs.Working.{Works, answered_by}
use Rattle.kw_app.specs.Rounds.{IsSeated, Worked, more_calls}
use Rattle.kw_app.proofs.Works.{within_wider, prefix_length}

-- a pass's calls are the same after a meeting
calls_met : (q r : Pass) → Meets (view q) (view r) → calls_in r ≡ calls_in q
calls_met q r meets =
    let o : Opening = (view q).opening in
    let n : ℕ = (view q).number in
    let es : List Event = (view r).seen in
    let mine : of_seat n es ≡ of_seat n (view q).seen = ap (λ k. of_seat k es) (sym meets.number) ∙ meets.mine in
    let valid : is_valid product o es ≡ true = subst (λ (x : Opening). is_valid product x es ≡ true) meets.opening r.known.valid in
    ap (λ (x : Opening). calls_seen product x (view r).number es) meets.opening ∙ (ap (λ k. calls_seen product o k es) meets.number
    ∙ (ap (calls_seen product o n) (sym meets.seen.1)
    ∙ calls_still product o n (view q).seen meets.seen.0 q.known.opens (ap (is_valid product o) meets.seen.1 ∙ valid) (rest_is_others (view q) es n meets.seen mine)))

-- the calls of a seated pass are those of its number in the list
calls_seated : (m : Kiwi) (E : List Event) (i : ℕ) (p : Pass) → IsSeated m E i p → calls_in p ≡ seat_calls m.opening E i
calls_seated m E i p at =
    ap (λ (o : Opening). calls_seen product o (view p).number (view p).seen) at.idle.of_map.1
    ∙ (ap (λ n. calls_seen product m.opening n (view p).seen) at.number ∙ ap (λ es. calls_seen product m.opening i es) at.seen)

-- the pass that met is seated again
pub seated_again : (m : Kiwi) (b : Dealt) (E E' : List Event) (i : ℕ) (p q r : Pass) (answers : List Answer) → IsSeated m E i p → Worked m b p q answers → MeetsAt m E' q r → IsSeated m E' i r
seated_again m b E E' i p q r answers at worked met = record {
  idle = record { of_map = met.of_table; idle = ap (λ (l : Local). l.activity) met.meets.local ∙ worked.idle.idle };
  number = met.meets.number ∙ (worked.goes.number ∙ at.number);
  seen = met.seen;
}

-- what one worker's calls are in the list that all passes then have seen
pub record OneGrew (o : Opening) (n : ℕ) (lines : List Line) (E E' : List Event) (w : ℕ) (answers : List Answer) : Type 0 where
  pub longer : IsPrefix E E'
  pub calls : seat_calls o E' w ≡ seat_calls o E w ++ more_calls o E E' w
  pub asks_are : asked (more_calls o E E' w) ≡ asks (part n w lines)
  pub within : All (IsWithin (length E) (length E')) (more_calls o E E' w)
  pub are_replies : AreReplies (part n w lines) (more_calls o E E' w)
  pub answers_are : answers ≡ answered_by (part n w lines) (more_calls o E E' w)

-- it is what the worker's pass knew when it had answered its lines
pub one_grew : (m : Kiwi) (b : Dealt) (E E' : List Event) (w : ℕ) (p q r : Pass) (answers : List Answer) → IsSeated m E w p → Worked m b p q answers → MeetsAt m E' q r
    → OneGrew m.opening b.workers b.lines E E' w answers
one_grew m b E E' w p q r answers at worked met =
    let o : Opening = m.opening in
    let there : IsSeated m E' w r = seated_again m b E E' w p q r answers at worked met in
    let works : Works p q (part b.workers (view p).number b.lines) answers = worked.works in
    let made : List CallSeen = works.made in
    let grown : seat_calls o E' w ≡ seat_calls o E w ++ made =
    sym (calls_seated m E' w r there) ∙ (calls_met q r met.meets ∙ (works.calls ∙ ap (λ x. x ++ made) (calls_seated m E w p at))) in
    let is : more_calls o E E' w ≡ made = ap (drop (length (seat_calls o E w))) grown ∙ drop_at (seat_calls o E w) made (length (seat_calls o E w)) refl in
    let first : IsPrefix E (view q).seen = subst (λ l. IsPrefix l (view q).seen) at.seen worked.goes.seen in
    let last : IsPrefix (view q).seen E' = subst (IsPrefix (view q).seen) met.seen met.meets.seen in
    let from : now_in p ≡ length E = ap length at.seen in
    record {
      longer = prefix_trans E (view q).seen E' first last;
      calls = grown ∙ ap (λ x. seat_calls o E w ++ x) (sym is);
      asks_are = ap asked is ∙ (works.asks_are ∙ ap (λ n. asks (part b.workers n b.lines)) at.number);
      within = All-same (IsWithin (length E) (length E')) (more_calls o E E' w) made is
          (All-weaker (IsWithin (now_in p) (now_in q)) (IsWithin (length E) (length E')) (λ x h. within_wider (now_in p) (now_in q) (length E) (length E') (omega arith) (prefix_length (view q).seen E' last) x h) made works.within);
      are_replies = subst (AreReplies (part b.workers w b.lines)) (sym is) (subst (λ n. AreReplies (part b.workers n b.lines) made) at.number works.are_replies);
      answers_are = works.answers_are ∙ (ap (λ n. answered_by (part b.workers n b.lines) made) at.number ∙ ap (answered_by (part b.workers w b.lines)) (sym is));
    }
