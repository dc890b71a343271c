-- Places in the list of events that part the calls of some lines from all others.
use Rattle.std.proofs.Common.{◌≡◌, ℕ, ◌+◌, ◌-◌, ◌<◌, ◌≤◌, List, [], ◌++◌, length, take, drop, get_or, All, ap, ◌∙◌, subst, arith, le_refl}
use Rattle.std.proofs.lemmas.List.{take-append-le, drop-append-le, drop_all, get_or-take, get_or-drop, length-take, length-drop}
use Rattle.std.proofs.lemmas.List.Elements.{All-nil, All-append, All-weaker, All-same, All-take, All-drop}
use Rattle.kw_laws.specs.SeatCalls.{CallSeen}
use Rattle.kw_laws.proofs.SeatCalls.{calls-none}
use Rattle.kw_line.specs.declared.answer.Answer.{Answer}
use Rattle.kw_world.specs.declared.event.Event.{Event}
use Rattle.kw_world.specs.declared.opening.Opening.{Opening}
use Rattle.kw_world.specs.Sizes.{product}
use Rattle.kw_work.specs.declared.line.Line.{Line}
use Rattle.kw_work.specs.Dealing.{part}
use Rattle.kw_app.specs.Recorded.{EndsBefore, IsWithin, seat_calls}
use Rattle.kw_app.specs.Rounds.{Grew, more_calls}
use Rattle.kw_app.specs.Running.{IsCut}
use Rattle.kw_app.proofs.Works.{ends_later, prefix_length}

-- where nothing happened all calls are as is wanted
pub no_calls : (o : Opening) (w : ℕ) (P : CallSeen → Type 0) → All P (seat_calls o [] w)
no_calls o w P = All-same P (seat_calls o [] w) [] (calls-none product o w) (All-nil P)

-- where nothing happened each cut is one
pub cut_none : (o : Opening) (n : ℕ) (lines : List Line) → IsCut o n [] lines
cut_none o n lines = record {
  at = 0;
  inside = omega arith;
  before = λ w lt. All-take (λ (c : CallSeen). EndsBefore 0 c.end) (length (part n w lines)) (seat_calls o [] w) (no_calls o w (λ (c : CallSeen). EndsBefore 0 c.end));
  after = λ w lt. All-drop (λ (c : CallSeen). 0 ≤ c.first) (length (part n w lines)) (seat_calls o [] w) (no_calls o w (λ (c : CallSeen). 0 ≤ c.first));
}

-- a cut stays one as the list goes on
pub cut_longer : (o : Opening) (n : ℕ) (E E' : List Event) (lines b : List Line) (new : List Answer) → ((w : ℕ) → w < n → length (part n w lines) ≤ length (seat_calls o E w)) → Grew o n b E E' new → IsCut o n E lines → IsCut o n E' lines
cut_longer o n E E' lines b new fits grew cut =
    let le : length E ≤ length E' = prefix_length E E' grew.longer in record {
      at = cut.at;
      inside = let i = cut.inside in omega arith;
      before = λ w lt. All-same (λ (c : CallSeen). EndsBefore cut.at c.end) _ (take (length (part n w lines)) (seat_calls o E w))
          (ap (take (length (part n w lines))) (grew.calls w lt) ∙ take-append-le (length (part n w lines)) (seat_calls o E w) (more_calls o E E' w) (fits w lt)) (cut.before w lt);
      after = λ w lt. All-same (λ (c : CallSeen). cut.at ≤ c.first) _ (drop (length (part n w lines)) (seat_calls o E w) ++ more_calls o E E' w)
          (ap (drop (length (part n w lines))) (grew.calls w lt) ∙ drop-append-le (length (part n w lines)) (seat_calls o E w) (more_calls o E E' w) (fits w lt))
          (All-append (λ (c : CallSeen). cut.at ≤ c.first) (drop (length (part n w lines)) (seat_calls o E w)) (more_calls o E E' w) (cut.after w lt)
          (All-weaker (IsWithin (length E) (length E')) (λ (c : CallSeen). cut.at ≤ c.first) (λ x h. let i = cut.inside in let k = h.begins in omega arith) (more_calls o E E' w) (grew.within w lt)));
    }

-- the end of the list is a cut, where all calls are those of the lines and have ended
pub cut_end : (o : Opening) (n : ℕ) (E : List Event) (lines : List Line) → ((w : ℕ) → w < n → length (part n w lines) ≡ length (seat_calls o E w)) → ((w : ℕ) → w < n → All (IsWithin 0 (length E)) (seat_calls o E w)) → IsCut o n E lines
cut_end o n E lines same ended = record {
  at = length E;
  inside = le_refl (length E);
  before = λ w lt. All-take (λ (c : CallSeen). EndsBefore (length E) c.end) (length (part n w lines)) (seat_calls o E w) (All-weaker (IsWithin 0 (length E)) (λ (c : CallSeen). EndsBefore (length E) c.end) (λ x h. h.ends) (seat_calls o E w) (ended w lt));
  after = λ w lt. All-same (λ (c : CallSeen). length E ≤ c.first) _ [] (drop_all (length (part n w lines)) (seat_calls o E w) (let e = same w lt in omega arith)) (All-nil (λ (c : CallSeen). length E ≤ c.first));
}

-- of two calls that a cut parts the one has ended before the other began
pub cut_parts : (o : Opening) (n : ℕ) (E : List Event) (lines : List Line) → IsCut o n E lines → (v w i k : ℕ) (c d : CallSeen) → v < n → w < n
    → i < length (part n v lines) → i < length (seat_calls o E v) → length (part n w lines) ≤ k → k < length (seat_calls o E w)
    → EndsBefore (get_or (seat_calls o E w) k d).first (get_or (seat_calls o E v) i c).end
cut_parts o n E lines cut v w i k c d lt_v lt_w early inside late within =
    let m : ℕ = length (part n v lines) in
    let p : ℕ = length (part n w lines) in
    let left : EndsBefore cut.at (get_or (take m (seat_calls o E v)) i c).end = cut.before v lt_v i c (simp length-take (omega arith)) in
    let right : cut.at ≤ (get_or (drop p (seat_calls o E w)) (k - p) d).first = cut.after w lt_w (k - p) d (simp length-drop (omega arith)) in
    let place : p + (k - p) ≡ k = omega arith in
    ends_later cut.at (get_or (seat_calls o E w) k d).first (get_or (seat_calls o E v) i c).end
    (subst (λ (x : CallSeen). cut.at ≤ x.first) (get_or-drop p (seat_calls o E w) (k - p) d ∙ ap (λ y. get_or (seat_calls o E w) y d) place) right)
    (subst (λ (x : CallSeen). EndsBefore cut.at x.end) (get_or-take m (seat_calls o E v) i c early) left)
