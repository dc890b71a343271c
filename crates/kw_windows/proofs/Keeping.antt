-- Every event leaves all counted.
use Rattle.std.proofs.Common.{ℕ, ◌≡◌, ◌⊎◌, inl, inr, ◌+◌, ◌*◌, ◌≤◌, Bool, true, false, arith, refl, sym, ◌∙◌, ap, subst}
use Rattle.std.proofs.lemmas.Bool.{cases_eq}
use Rattle.kw_lists.specs.Counts.{count_below}
use Rattle.kw_lists.proofs.Counting.{count_grows}
use Rattle.kw_windows.specs.Sums.{sum_below}
use Rattle.kw_windows.specs.Builders.{Stage, Builder, Elsewhere, Refused, Asking, Building, with_row, with_build, at_stage, anew}
use Rattle.kw_windows.specs.Windows.{Windows, Limits, IsNew, taken}
use Rattle.kw_windows.specs.Events.{Event, Within, Rests, Counts, Goes, Takes, Wins, MayBuild, rests, comes, begins, takes, resumes, turns, moves, shifts, leaves, gives_up, wins}
use Rattle.kw_windows.specs.Counted.{IsCounted, AreCounted, AreFew, most_of_seat, most_of_window}
use Rattle.kw_windows.proofs.Counting.{count_one_more, count_named}
use Rattle.kw_windows.proofs.Summing.{sum_most, sum_same, sum_one_changed}
use Rattle.kw_windows.proofs.Leading.{built_within}
use Rattle.kw_windows.proofs.Building.{most_taken, begins_one, takes_more, comes_to, turns_to, moves_to, shifts_to, leaves_it, refused, begun_anew}

-- what is counted of a seat is counted of it where more rows lead
within_counted : (z : Limits) (w w' : Windows) (c : Builder) → Within w w' → IsCounted z w c → IsCounted z w' c
within_counted z w w' c within k = record { builds = built_within z.rows w w' within c.stage c k.builds; pays = k.pays }

-- the rows that are taken in a window, and in all
pub taken_most : (z : Limits) (w : Windows) → AreFew z w → AreCounted z w → taken z w ≤ (w.wins + 1) * most_of_window z
taken_most z w few k =
    let here : sum_below z.seats (λ t. (w.seats t).taken) ≤ most_of_window z = sum_most z.seats (λ t. (w.seats t).taken) (most_of_seat z) (λ t u. most_taken z w (w.seats t) few (k.seats t)) in
    grind (arith, here, k.before)

-- One seat goes on.

module _ (z : Limits) (w w' : Windows) (t : ℕ) (c : Builder) (k : AreCounted z w) (e : Counts w w' t c) where
  -- a fact about the seat and about each other one, as it was, is one about each
  each : (P : ℕ → Builder → Type 0) → P t c → ((u : ℕ) → P u (w.seats u)) → (u : ℕ) → P u (w'.seats u)
  each P own others u = which (cases_eq u t)
    where
      which : (u ≡ t) ⊎ (u ≡ t → ⊥) → P u (w'.seats u)
      which (inl i) = subst (λ (v : ℕ). P v (w'.seats v)) (sym i) (subst (P t) (sym e.own) own)
      which (inr other) = subst (P u) (sym (e.others u other)) (others u)

  -- all is counted, if the seat is, and its rows are
  one_seat : IsCounted z w c → (w.wins ≡ 0 → c.deads ≡ 0) → count_below z.rows w'.used ≤ taken z w' + 1 → AreCounted z w'
  one_seat own dead used = record {
    seats = each (λ u d. IsCounted z w' d) (within_counted z w w' c e.within own) (λ u. within_counted z w w' (w.seats u) e.within (k.seats u));
    first = λ i. let o : w.wins ≡ 0 = sym e.within.wins ∙ i in each (λ u d. d.deads ≡ 0) (dead o) (k.first o);
    before = let n = e.within.wins in let b = e.within.before in rw (n, b) k.before;
    used = used;
  }

-- it takes no row
goes : (z : Limits) (w w' : Windows) (t : ℕ) (a : Stage) → AreCounted z w → Goes w w' t a → IsCounted z w (at_stage a (w.seats t)) → AreCounted z w'
goes z w w' t a k e own = one_seat z w w' t (at_stage a (w.seats t)) k e.counts own (λ i. k.first i t) used
  where
    same : (u : ℕ) → (w'.seats u).taken ≡ (w.seats u).taken
    same = each z w w' t (at_stage a (w.seats t)) k e.counts (λ u d. d.taken ≡ (w.seats u).taken) refl (λ u. refl)

    used : count_below z.rows w'.used ≤ taken z w' + 1
    used = omega (arith, count_grows z.rows w'.used w.used e.used, k.used, e.counts.within.before, sum_same z.seats (λ u. (w.seats u).taken) (λ u. (w'.seats u).taken) (λ u i. same u))

-- it takes one
one_taken : (z : Limits) (w w' : Windows) (t y : ℕ) (c : Builder) → AreCounted z w → Takes z w w' t y c → c.taken ≡ (w.seats t).taken + 1 → IsCounted z w c → (w.wins ≡ 0 → c.deads ≡ 0) → AreCounted z w'
one_taken z w w' t y c k e more own dead = one_seat z w w' t c k e.counts own dead used
  where
    sum : sum_below z.seats (λ u. (w'.seats u).taken) + (w.seats t).taken ≡ sum_below z.seats (λ u. (w.seats u).taken) + (w'.seats t).taken
    sum = sum_one_changed z.seats t (λ u. (w.seats u).taken) (λ u. (w'.seats u).taken) e.seat (λ u other. ap (λ (d : Builder). d.taken) (e.counts.others u other))

    used : count_below z.rows w'.used ≤ taken z w' + 1
    used =
        let now : (w'.seats t).taken ≡ c.taken = ap (λ (d : Builder). d.taken) e.counts.own in
        omega (arith, count_one_more z.rows y w.used w'.used e.used, k.used, e.counts.within.before, sum, now, more)

-- the first of a build in a window
one_begun : (z : Limits) (w w' : Windows) (t r y : ℕ) → AreCounted z w → (w.seats t).stage ≡ Asking r ⊎ (w.seats t).stage ≡ Building r false → MayBuild z w r → Takes z w w' t y (with_build (w.live r) (with_row r (w.seats t))) → AreCounted z w'
one_begun z w w' t r y k from may e = one_taken z w w' t y (with_build (w.live r) (with_row r (w.seats t))) k e (more (w.live r)) (begins_one z w (w.seats t) (k.seats t) r from e.room may) (dead (w.live r) refl)
  where
    more : (b : Bool) → (with_build b (with_row r (w.seats t))).taken ≡ (w.seats t).taken + 1
    more true = refl
    more false = refl

    dead : (b : Bool) → w.live r ≡ b → w.wins ≡ 0 → (with_build b (with_row r (w.seats t))).deads ≡ 0
    dead true i o = k.first o t
    dead false i o = absurd (omega (arith, o, may.replaced i))

-- All events.

-- nothing is counted of any seat
rest : (z : Limits) (w w' : Windows) → AreCounted z w → Rests w w' → AreCounted z w'
rest z w w' k e = record {
  seats = λ u. subst (IsCounted z w') (sym (e.seats u)) (within_counted z w w' (w.seats u) e.within (k.seats u));
  first = λ i u. ap (λ (d : Builder). d.deads) (e.seats u) ∙ k.first (sym e.within.wins ∙ i) u;
  before = let n = e.within.wins in let b = e.within.before in rw (n, b) k.before;
  used = omega (arith, count_grows z.rows w'.used w.used e.used, k.used, e.within.before, sum_same z.seats (λ u. (w.seats u).taken) (λ u. (w'.seats u).taken) (λ u i. ap (λ (d : Builder). d.taken) (e.seats u)));
}

-- a window is over
won : (z : Limits) (w w' : Windows) (t : ℕ) → AreFew z w → AreCounted z w → Wins z w w' t → AreCounted z w'
won z w w' t few k e = record {
  seats = λ u. which u (cases_eq u t);
  first = λ i. absurd (omega (arith, i, e.wins));
  before = let n = e.wins in let b = e.before in rw (n, b) (taken_most z w few k);
  used = omega (arith, count_grows z.rows w'.used w.used e.used, k.used, e.before);
}
  where
    which : (u : ℕ) → (u ≡ t) ⊎ (u ≡ t → ⊥) → IsCounted z w' (w'.seats u)
    which u (inr other) = subst (IsCounted z w') (sym (e.others u other)) (begun_anew z w w' (w.seats u) (k.seats u))
    which u (inl i) = subst (λ (v : ℕ). IsCounted z w' (w'.seats v)) (sym i) (subst (IsCounted z w') (sym e.own) own)
      where
        own : IsCounted z w' (at_stage Elsewhere (anew (w.seats t)))
        own = record { builds = (refl, omega arith); pays = omega arith }

pub counted_after : (z : Limits) (w w' : Windows) → AreFew z w → AreCounted z w → Event z w w' → AreCounted z w'
counted_after z w w' few k (rests e) = rest z w w' k e
counted_after z w w' few k (comes t r at live e) = goes z w w' t (Asking r) k e (comes_to z w (w.seats t) (k.seats t) r at live)
counted_after z w w' few k (begins t r y at may e) = one_begun z w w' t r y k (inl at) may e
counted_after z w w' few k (takes t r y at e) = one_taken z w w' t y (with_row r (w.seats t)) k e refl (takes_more z w (w.seats t) (k.seats t) r at e.room) (λ i. k.first i t)
counted_after z w w' few k (resumes t r y at may e) = one_begun z w w' t r y k (inr at) may e
counted_after z w w' few k (turns t r p at e) = goes z w w' t (Asking p) k e (turns_to z w (w.seats t) (k.seats t) r p at)
counted_after z w w' few k (moves t r p at live left e) = goes z w w' t (Asking p) k e (moves_to z w (w.seats t) (k.seats t) r p at live left)
counted_after z w w' few k (shifts t r p at left e) = goes z w w' t (Asking p) k e (shifts_to z w (w.seats t) (k.seats t) r p at left)
counted_after z w w' few k (leaves t may e) = goes z w w' t Elsewhere k e (leaves_it z w (w.seats t) (k.seats t) may)
counted_after z w w' few k (gives_up t e) = goes z w w' t Refused k e (refused z w (w.seats t) (k.seats t))
counted_after z w w' few k (wins t e) = won z w w' t few k e

-- a new table
pub counted_new : (z : Limits) (w : Windows) → IsNew w → AreCounted z w
counted_new z w e = record {
  seats = λ t. subst (IsCounted z w) (sym (e.seats t)) (record { builds = (refl, omega arith); pays = omega arith });
  first = λ i t. ap (λ (c : Builder). c.deads) (e.seats t);
  before = omega (arith, e.before);
  used = omega (arith, count_named z.rows 1 w.used (λ t. 0) (λ c below i. (0, omega arith, sym (e.used c i))));
}
