-- Blocks, one after the other.
use Rattle.std.proofs.Common.{◌≡◌, ℕ, ◌+◌, ◌<◌, ◌≤◌, List, [], ◌∷◌, ◌++◌, length, map, drop, take, get_or, All, refl, sym, ap, ◌∙◌, subst, arith, length-append, le_refl}
use Rattle.std.proofs.lemmas.Bool.{cases_lt}
use Rattle.std.proofs.lemmas.List.{map-append, append-nil, take-append-le, take_all, take-append-drop, length_push, take_more}
use Rattle.std.proofs.lemmas.List.Concat.{flat_map-append}
use Rattle.std.proofs.lemmas.List.Elements.{All-append, All-weaker, All-same}
use mathlib.Core.Logic.{⊎_elim}
use Rattle.kw_laws.specs.SeatCalls.{CallSeen}
use Rattle.kw_laws.proofs.SeatCalls.{calls-none}
use Rattle.kw_line.specs.declared.answer.Answer.{Answer}
use Rattle.kw_line.specs.Answered.{answers_for}
use Rattle.kw_world.specs.declared.event.Event.{Event}
use Rattle.kw_world.specs.declared.opening.Opening.{Opening}
use Rattle.kw_world.specs.Sizes.{product}
use Rattle.kw_work.specs.declared.line.Line.{Line}
use Rattle.kw_work.specs.Dealing.{Dealt, part}
use Rattle.kw_work.specs.Collecting.{merge}
use Rattle.kw_work.proofs.Cuts.{lists, lists-push}
use Rattle.kw_work.proofs.Merges.{merge-append}
use Rattle.kw_work.proofs.Shares.{part-nil, part-append}
use Rattle.kw_app.specs.Recorded.{AreReplies, IsWithin, asked, asks, line_forms, no_call, printed, reply_of, seat_calls}
use Rattle.kw_app.specs.Rounds.{Grew, more_calls}
use Rattle.kw_app.specs.Running.{joined, IsCut, Ran, AreInBlocks}
use Rattle.kw_app.proofs.CutPlaces.{no_calls, cut_none, cut_longer, cut_end, cut_parts}
use Rattle.kw_app.proofs.Merging.{length-merge, merge_front, merge_rest}
use Rattle.kw_app.proofs.Works.{answers_for-append, as_many, within_wider, prefix_length, replies_append}

-- the lines of one block more
joined-push : (bs : List (List Line)) (b : List Line) → joined (bs ++ b ∷ []) ≡ joined bs ++ b
joined-push bs b = flat_map-append (λ x. x) bs (b ∷ []) ∙ ap (λ x. joined bs ++ x) (append-nil b)

-- the lines of the first blocks, and of the others
joined_take : (j : ℕ) (bs : List (List Line)) → joined bs ≡ joined (take j bs) ++ joined (drop j bs)
joined_take j bs = ap joined (sym (take-append-drop j bs)) ∙ flat_map-append (λ x. x) (take j bs) (drop j bs)

-- before the first block
pub ran_none : (o : Opening) (n : ℕ) → Ran o n [] [] []
ran_none o n = record {
  asks_are = λ w lt. ap asked (calls-none product o w) ∙ ap asks (sym (part-nil n w));
  ended = λ w lt. no_calls o w (IsWithin 0 0);
  are_replies = λ w lt. subst (AreReplies (part n w [])) (sym (calls-none product o w)) (λ i l c e f. absurd (cc));
  prints = refl;
  cuts = λ j le. cut_none o n (joined (take j []));
}

-- one block more
pub ran_more : (o : Opening) (n : ℕ) (done : List (List Line)) (b : List Line) (E E' : List Event) (old new : List Answer) → 0 < n → Ran o n done E old → Grew o n b E E' new → Ran o n (done ++ b ∷ []) E' (old ++ new)
ran_more o n done b E E' old new some ran grew = record {
  asks_are = asks_are;
  ended = ended;
  are_replies = are_replies;
  prints = prints;
  cuts = λ j le. ⊎_elim
      (λ (h : length done < j). subst (λ x. IsCut o n E' (joined x)) (sym (take_all j all (let e = length_push done b in omega arith))) (cut_end o n E' (joined all) (λ w lt. sym (as_many (seat_calls o E' w) (part n w (joined all)) (asks_are w lt))) ended))
      (λ (h : j ≤ length done). subst (λ x. IsCut o n E' (joined x)) (sym (take-append-le j done (b ∷ []) h)) (cut_longer o n E E' (joined (take j done)) b new (fits j) grew (ran.cuts j h)))
      (cases_lt (length done) j);
}
  where
    all : List (List Line)
    all = done ++ b ∷ []

    whole : (w : ℕ) → part n w (joined all) ≡ part n w (joined done) ++ part n w b
    whole w = ap (part n w) (joined-push done b) ∙ part-append n w (joined done) b

    asks_are : (w : ℕ) → w < n → asked (seat_calls o E' w) ≡ asks (part n w (joined all))
    asks_are w lt =
        ap asked (grew.calls w lt) ∙ (map-append (λ (c : CallSeen). c.call) (seat_calls o E w) (more_calls o E E' w)
        ∙ (ap (λ x. x ++ asked (more_calls o E E' w)) (ran.asks_are w lt) ∙ (ap (λ x. asks (part n w (joined done)) ++ x) (grew.asks_are w lt)
        ∙ (sym (map-append (λ (l : Line). l.call) (part n w (joined done)) (part n w b)) ∙ ap asks (sym (whole w))))))

    ended : (w : ℕ) → w < n → All (IsWithin 0 (length E')) (seat_calls o E' w)
    ended w lt =
        let le : length E ≤ length E' = prefix_length E E' grew.longer in
        All-same (IsWithin 0 (length E')) (seat_calls o E' w) (seat_calls o E w ++ more_calls o E E' w) (grew.calls w lt)
        (All-append (IsWithin 0 (length E')) (seat_calls o E w) (more_calls o E E' w)
        (All-weaker (IsWithin 0 (length E)) (IsWithin 0 (length E')) (λ x h. within_wider 0 (length E) 0 (length E') (omega arith) le x h) (seat_calls o E w) (ran.ended w lt))
        (All-weaker (IsWithin (length E) (length E')) (IsWithin 0 (length E')) (λ x h. within_wider (length E) (length E') 0 (length E') (omega arith) (le_refl (length E')) x h) (more_calls o E E' w) (grew.within w lt)))

    many : (w : ℕ) → w < n → length (seat_calls o E w) ≡ length (part n w (joined done))
    many w lt = as_many (seat_calls o E w) (part n w (joined done)) (ran.asks_are w lt)

    are_replies : (w : ℕ) → w < n → AreReplies (part n w (joined all)) (seat_calls o E' w)
    are_replies w lt =
        subst (λ ls. AreReplies ls (seat_calls o E' w)) (sym (whole w)) (subst (AreReplies (part n w (joined done) ++ part n w b)) (sym (grew.calls w lt))
        (replies_append (part n w (joined done)) (part n w b) (seat_calls o E w) (more_calls o E E' w) (many w lt) (ran.are_replies w lt) (grew.are_replies w lt)))

    fits : (j w : ℕ) → w < n → length (part n w (joined (take j done))) ≤ length (seat_calls o E w)
    fits j w lt =
        let e : length (part n w (joined done)) ≡ length (part n w (joined (take j done))) + length (part n w (joined (drop j done))) =
        ap (λ x. length (part n w x)) (joined_take j done) ∙ (ap length (part-append n w (joined (take j done)) (joined (drop j done))) ∙ length-append (part n w (joined (take j done))) (part n w (joined (drop j done)))) in
        let m = many w lt in omega arith

    prints : old ++ new ≡ printed n (seat_calls o E') (joined all)
    prints =
        let xs : List Line = joined done in
        let q : ℕ → List CallSeen = λ w. seat_calls o E' w in
        let a : ℕ → List CallSeen = λ w. seat_calls o E w in
        let c : ℕ → List CallSeen = λ w. more_calls o E E' w in
        let front : merge n q no_call [] xs ≡ merge n a no_call [] xs = merge_front n q a c no_call [] xs some grew.calls many in
        let rest : merge n q no_call xs b ≡ merge n c no_call [] b = ap (λ x. merge n q no_call x b) (sym (append-nil xs)) ∙ merge_rest n q a c no_call xs [] b some grew.calls many in
        let both : merge n q no_call [] (xs ++ b) ≡ merge n a no_call [] xs ++ merge n c no_call [] b =
        merge-append n q no_call [] xs b ∙ (ap (λ x. x ++ merge n q no_call xs b) front ∙ ap (λ x. merge n a no_call [] xs ++ x) rest) in
        sym (ap (λ x. printed n q x) (joined-push done b)
        ∙ (ap (λ x. answers_for (line_forms (xs ++ b)) (map reply_of x)) both
        ∙ (answers_for-append xs b (merge n a no_call [] xs) (merge n c no_call [] b) (length-merge n a no_call [] xs)
        ∙ (ap (λ x. x ++ printed n c b) (sym ran.prints) ∙ ap (λ x. old ++ x) (sym grew.prints)))))

-- so the calls stand in blocks
pub in_blocks : (o : Opening) (n : ℕ) (blocks : List (List Line)) (E : List Event) (answers : List Answer) → Ran o n blocks E answers → AreInBlocks o n blocks E
in_blocks o n blocks E answers ran = λ j v w i k c d le. cut_parts o n E (joined (take j blocks)) (ran.cuts j le) v w i k c d

-- so goes the loop over the blocks
pub ran_step : (o : Opening) (n : ℕ) (blocks : List Dealt) (i : ℕ) (b : Dealt) (E E' : List Event) (old new all : List Answer) → 0 < n → i < length blocks → b ≡ get_or blocks i b → b.workers ≡ n → all ≡ old ++ new
    → Ran o n (lists (take i blocks)) E old → Grew o b.workers b.lines E E' new → Ran o n (lists (take (i + 1) blocks)) E' all
ran_step o n blocks i b E E' old new all some lt is workers push ran grew =
    let more : lists (take (i + 1) blocks) ≡ lists (take i blocks) ++ b.lines ∷ [] =
    ap lists (take_more blocks i b lt) ∙ lists-push (take i blocks) (get_or blocks i b) b.lines (ap (λ (x : Dealt). x.lines) (sym is)) in
    subst (λ x. Ran o n x E' all) (sym more) (subst (Ran o n (lists (take i blocks) ++ b.lines ∷ []) E') (sym push)
    (ran_more o n (lists (take i blocks)) b.lines E E' old new some ran (subst (λ k. Grew o k b.lines E E' new) workers grew)))
