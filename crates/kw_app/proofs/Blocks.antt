-- One block: from the workers' jobs to what the list of events then shows.
use Rattle.std.proofs.Common.{◌≡◌, ℕ, ◌<◌, List, [], ◌∷◌, ◌++◌, length, drop, take, slice_index_or, IfOk, Ok, Err, Vec, refl, sym, ap, ◌∙◌, subst, arith, vec_len}
use Rattle.std.specs.declared.alloc.Global.{Global}
use Rattle.std.specs.declared.result.Result.{Result}
use Rattle.std.proofs.Math.Seq.{drop-length}
use Rattle.std.proofs.lemmas.List.{drop_all, take_all, append-nil}
use Rattle.std.proofs.lemmas.List.Elements.{All-nil, All-same}
use Rattle.kw_model.specs.declared.memory.Memory.{Memory}
use Rattle.kw_line.specs.declared.answer.Answer.{Answer}
use Rattle.kw_laws.specs.SeatCalls.{CallSeen}
use Rattle.kw_world.specs.declared.event.Event.{Event}
use Rattle.kw_world.specs.declared.opening.Opening.{Opening}
use Rattle.kw_table.specs.declared.pass.Pass.{Pass}
use Rattle.kw_table.specs.Passes.{view}
use Rattle.kw_map.specs.Meetings.{AtEach, MeetsAt, front_seen}
use Rattle.kw_table.proofs.Prefixes.{prefix_self}
use Rattle.kw_follow.specs.Following.{GoesTo}
use Rattle.kw_map.specs.declared.kiwi.Kiwi.{Kiwi}
use Rattle.kw_map.specs.Kiwi.{IsIdle}
use Rattle.kw_work.specs.declared.line.Line.{Line}
use Rattle.kw_work.specs.Dealing.{Dealt, part}
use Rattle.kw_work.specs.Collecting.{answers_of, merge, no_answer, AnswersEach}
use Rattle.kw_work.proofs.Merges.{answers_of_is}
use Rattle.kw_work.proofs.Shares.{part-nil}
use Rattle.kw_app.specs.declared.rounds.Done.{Done}
use Rattle.kw_app.specs.Recorded.{AreReplies, IsWithin, asked, asks, seat_calls}
use Rattle.kw_app.specs.Working.{Works}
use Rattle.kw_app.specs.Rounds.{IsDone, IsSeated, AreTogether, Worked, WorkedEach, Grew, more_calls}
use Rattle.kw_app.proofs.Each.{element_at}
use Rattle.kw_app.proofs.Merging.{collected_is_printed, length-answered_by}
use Rattle.kw_app.proofs.Seats.{OneGrew, one_grew, seated_again}
use Rattle.kw_app.proofs.Works.{as_many}

-- what holds of a result that is Ok holds of its value
if_ok : {V E : Type 0} (r : Result V E) (P : V → Type 0) (v : V) → r ≡ Ok v → IfOk r P → P v
if_ok r P v is h = subst (λ x. IfOk x P) is h

-- a pass whose part is answered has worked
worked_one : (m : Kiwi) (b : Dealt) (p q : Pass) (d : Done) (v : Vec Answer Global) → IsDone m b p d → d.pass ≡ q → d.answers ≡ Ok v → Worked m b p q v.items
worked_one m b p q d v done pass answers = record {
  idle = subst (IsIdle m) pass done.idle;
  goes = subst (λ (x : Pass). GoesTo m p x) pass done.goes;
  works = subst (λ (x : Pass). Works p x (part b.workers (view p).number b.lines) v.items) pass
      (if_ok d.answers (λ x. Works p d.pass (part b.workers (view p).number b.lines) x.items) v answers done.works);
}

-- so have all passes, where no worker wanted memory
pub worked_each : (m : Kiwi) (b : Dealt) (ps : List Pass) (ds : List Done) (made : Result (Vec Pass Global × Vec (Vec Answer Global) Global) Memory) (n : ℕ) → n ≡ length ds → length ds ≡ length ps
    → AtEach (IsDone m b) ps ds → IfOk made (λ r. (vec_len r.0 ≡ n) × (vec_len r.1 ≡ n))
    → IfOk made (λ r. AtEach (λ (d : Done) (p : Pass). d.pass ≡ p) ds r.0.items) → IfOk made (λ r. AtEach (λ (d : Done) (v : Vec Answer Global). d.answers ≡ Ok v) ds r.1.items)
    → IfOk made (λ r. WorkedEach m b ps r.0.items r.1.items)
worked_each m b ps ds (Err x) n same e dones len passes parts = len
worked_each m b ps ds (Ok r) n same e dones len passes parts = λ i d f lt.
    let done = element_at ds i (omega arith) in
    let ok = r.1.ok in
    let inside : i < length r.1.items = omega (arith, len.1) in
    let v = element_at r.1.items i inside in
    let p : Pass = slice_index_or ps i d in
    let q : Pass = slice_index_or r.0.items i f in
    let h : answers_of r.1.items i ≡ v.0.items = answers_of_is r.1.items i v.0 inside (sym (v.1 v.0)) in
    let isdone : IsDone m b p done.0 = subst (λ (x : Done). IsDone m b p x) (done.1 done.0) (dones i d done.0 lt) in
    let pass : done.0.pass ≡ q = ap (λ (x : Done). x.pass) (sym (done.1 done.0)) ∙ passes i done.0 f (omega arith) in
    let answers : done.0.answers ≡ Ok v.0 = ap (λ (x : Done). x.answers) (sym (done.1 done.0)) ∙ (parts i done.0 v.0 (omega arith) ∙ ap Ok (v.1 v.0)) in
    subst (Worked m b p q) (sym h) (worked_one m b p q done.0 v.0 isdone pass answers)

-- the whole block: what all workers did, in the list that all passes then have seen
pub grew : (m : Kiwi) (b : Dealt) (ps qs rs : List Pass) (parts : List (Vec Answer Global)) (E E' : List Event) (answers : List Answer) → AreTogether m b.workers E ps → length qs ≡ length ps
    → WorkedEach m b ps qs parts → AtEach (MeetsAt m E') qs rs → answers ≡ merge b.workers (answers_of parts) no_answer [] b.lines
    → Grew m.opening b.workers b.lines E E' answers
grew m b ps qs rs parts E E' answers together same worked met is = record {
  longer = (one 0 together.some).longer;
  calls = λ w lt. (one w lt).calls;
  asks_are = λ w lt. (one w lt).asks_are;
  within = λ w lt. (one w lt).within;
  are_replies = λ w lt. (one w lt).are_replies;
  prints = is ∙ collected_is_printed b.workers (answers_of parts) (more_calls m.opening E E') b.lines together.some (λ w lt. (one w lt).answers_are) (λ w lt. as_many (more_calls m.opening E E' w) (part b.workers w b.lines) (one w lt).asks_are);
}
  where
    one : (w : ℕ) → w < b.workers → OneGrew m.opening b.workers b.lines E E' w (answers_of parts w)
    one w lt =
        let len = together.len in
        let p = element_at ps w (omega arith) in
        let q = element_at qs w (omega arith) in
        one_grew m b E E' w (slice_index_or ps w p.0) (slice_index_or qs w q.0) (slice_index_or rs w q.0) (answers_of parts w) (together.each w p.0 lt) (worked w p.0 q.0 (omega arith)) (met w q.0 q.0 (omega arith))

-- the passes are together again
pub together_again : (m : Kiwi) (b : Dealt) (ps qs rs : List Pass) (parts : List (Vec Answer Global)) (E E' : List Event) → AreTogether m b.workers E ps → length qs ≡ length ps → length rs ≡ length qs
    → WorkedEach m b ps qs parts → AtEach (MeetsAt m E') qs rs → AreTogether m b.workers E' rs
together_again m b ps qs rs parts E E' together same again worked met = record {
  some = together.some;
  len = again ∙ (same ∙ together.len);
  each = λ i d lt.
      let len = together.len in
      let p = element_at ps i (omega arith) in
      let q = element_at qs i (omega arith) in
      seated_again m b E E' i (slice_index_or ps i p.0) (slice_index_or qs i q.0) (slice_index_or rs i d) (answers_of parts i) (together.each i p.0 lt) (worked i p.0 q.0 (omega arith)) (met i q.0 d (omega arith));
}

-- the workers answer just the lines of the block
pub answers_each : (m : Kiwi) (b : Dealt) (ps qs : List Pass) (parts : List (Vec Answer Global)) (E : List Event) → AreTogether m b.workers E ps → length qs ≡ length ps → WorkedEach m b ps qs parts → AnswersEach b.workers b.lines parts
answers_each m b ps qs parts E together same worked = λ w lt.
    let len = together.len in
    let p = element_at ps w (omega arith) in
    let q = element_at qs w (omega arith) in
    let at : IsSeated m E w (slice_index_or ps w p.0) = together.each w p.0 lt in
    let works = (worked w p.0 q.0 (omega arith)).works in
    ap length works.answers_are ∙ (length-answered_by (part b.workers (view (slice_index_or ps w p.0)).number b.lines) works.made (as_many works.made _ works.asks_are)
    ∙ ap (λ n. length (part b.workers n b.lines)) at.number)

-- passes that are together have seen what the first of them has
pub front_is : (m : Kiwi) (n : ℕ) (E : List Event) (ps : List Pass) → AreTogether m n E ps → front_seen ps ≡ E
front_is m n E [] together = let a = together.some in let b = together.len in absurd (omega arith)
front_is m n E (p ∷ ps) together = (together.each 0 p together.some).seen

-- what is written over a list of the same length takes its place
pub written_over : {A : Type 0} (xs ys : List A) (n : ℕ) → length xs ≡ n → length ys ≡ n → take n (xs ++ drop (length xs) ys) ≡ xs
written_over xs ys n a b = ap (λ x. take n (xs ++ x)) (drop_all (length xs) ys (omega arith)) ∙ (ap (take n) (append-nil xs) ∙ take_all n xs (omega arith))

-- no lines are answered by no events
pub grew_by_none : (o : Opening) (n : ℕ) (lines : List Line) (E : List Event) (answers : List Answer) → lines ≡ [] → answers ≡ [] → Grew o n lines E E answers
grew_by_none o n lines E answers none nothing =
    let drops : (w : ℕ) → more_calls o E E w ≡ [] = λ w. drop-length (seat_calls o E w) in
    subst (λ (ls : List Line). Grew o n ls E E answers) (sym none) (subst (Grew o n [] E E) (sym nothing) (record {
      longer = prefix_self E;
      calls = λ w lt. sym (append-nil (seat_calls o E w)) ∙ ap (λ (x : List CallSeen). seat_calls o E w ++ x) (sym (drops w));
      asks_are = λ w lt. ap asked (drops w) ∙ ap asks (sym (part-nil n w));
      within = λ w lt. All-same (IsWithin (length E) (length E)) (more_calls o E E w) [] (drops w) (All-nil (IsWithin (length E) (length E)));
      are_replies = λ w lt. subst (AreReplies (part n w [])) (sym (drops w)) (λ i l c e f. absurd (cc));
      prints = refl;
    }))
