-- What the calls of all workers cost together, where a number is set for each call: as much as the
-- calls of the lines, since each line is dealt to one worker.
use Rattle.std.proofs.Common.{ℕ, zero, suc, ◌≡◌, ◌≢◌, ◌⊎◌, inl, inr, ◌+◌, ◌*◌, ◌<◌, ◌≤◌, cond, List, [], ◌∷◌, length, refl, sym, ap, ◌∙◌, arith, ne_eqb}
use Rattle.std.specs.Prelude.{sum_by}
use Rattle.std.proofs.lemmas.Bool.{cases_lt}
use Rattle.std.proofs.lemmas.List.Sums.{sum_by-cons}
use Rattle.kw_windows.specs.Sums.{sum_below}
use Rattle.kw_windows.proofs.Summing.{sum_most, sum_one_changed}
use Rattle.kw_model.specs.declared.call.Call.{Call}
use Rattle.kw_line.specs.declared.item.Item.{Item}
use Rattle.kw_line.specs.declared.item.Item.TheVariants as item
use Rattle.kw_line.specs.Line.{calls}
use Rattle.kw_work.specs.declared.line.Line.{Line}
use Rattle.kw_work.specs.Dealing.{worker_of, part}
use Rattle.kw_work.proofs.Onces.{part-cons_in}
use Rattle.kw_work.proofs.Shares.{part-nil}
use Rattle.kw_app.specs.Recorded.{asks}

-- a line of another worker is none of a worker's
part-cons_other : (n w : ℕ) (l : Line) (ls : List Line) → worker_of n l ≢ w → part n w (l ∷ ls) ≡ part n w ls
unfolding part
part-cons_other n w l ls ne = ap (λ b. cond b (l ∷ part n w ls) (part n w ls)) (ne_eqb (worker_of n l) w ne)

module _ (cost : Call → ℕ) (n : ℕ) (some : 0 < n) where
  -- what the calls of one worker's lines cost
  abbrev pub share : List Line → ℕ → ℕ
  share ls w = sum_by cost (asks (part n w ls))

  -- what those of all workers cost
  pub shares_together : (ls : List Line) → sum_below n (share ls) ≡ sum_by cost (asks ls)
  shares_together [] =
      let none : sum_below n (share []) ≤ n * 0 = sum_most n (share []) 0 (λ w lt. omega (arith, ap (λ ls. sum_by cost (asks ls)) (part-nil n w))) in
      omega (arith, none)
  shares_together (l ∷ ls) =
      let w : ℕ = worker_of n l in
      let below : w < n = omega arith in
      let one : sum_below n (share (l ∷ ls)) + share ls w ≡ sum_below n (share ls) + share (l ∷ ls) w =
      sum_one_changed n w (share ls) (share (l ∷ ls)) below (λ u ne. ap (λ qs. sum_by cost (asks qs)) (part-cons_other n u l ls (λ e. ne (sym e)))) in
      let here : share (l ∷ ls) w ≡ cost l.call + share ls w = ap (λ qs. sum_by cost (asks qs)) (part-cons_in n w l ls refl) ∙ sum_by-cons cost l.call (asks (part n w ls)) in
      omega (arith, one, here, sum_by-cons cost l.call (asks ls), shares_together ls)

-- a sum of which all numbers from a bound on are 0 is the sum up to there
pub sum_beyond : (n m : ℕ) (f : ℕ → ℕ) → n ≤ m → ((t : ℕ) → n ≤ t → f t ≡ 0) → sum_below m f ≡ sum_below n f
unfolding sum_below
sum_beyond n zero f le none = let e : 0 ≡ n = omega arith in ap (λ k. sum_below k f) e
sum_beyond n (suc m) f le none = which (sum_beyond n m f) (cases_lt m n)
  where
    which : (n ≤ m → ((t : ℕ) → n ≤ t → f t ≡ 0) → sum_below m f ≡ sum_below n f) → (m < n) ⊎ (n ≤ m) → f m + sum_below m f ≡ sum_below n f
    which rest (inl lt) = let e : suc m ≡ n = omega arith in ap (λ k. sum_below k f) e
    which rest (inr beyond) = omega (arith, none m beyond, rest beyond none)

-- there are no more calls than items
pub few_calls : (items : List Item) → length (calls items) ≤ length items
few_calls [] = omega arith
few_calls (item.Call c f ∷ items) = omega (arith, few_calls items)
few_calls (item.Wait ∷ items) = omega (arith, few_calls items)
