-- The builds and rows of one seat: what is counted of it after each of its events, and how few rows
-- it has taken.
use Rattle.std.proofs.Common.{ℕ, ◌≡◌, ◌⊎◌, inl, inr, ◌+◌, ◌*◌, ◌<◌, ◌≤◌, Bool, true, false, arith, refl, subst}
use Rattle.std.proofs.lemmas.Bool.{cases_lt}
use Rattle.std.proofs.Math.Nat.{mul-le-mul_left}
use Rattle.kw_lists.specs.Counts.{count_below}
use Rattle.kw_windows.specs.Builders.{Stage, Builder, Elsewhere, Refused, Asking, Building, with_row, with_build, at_stage, anew, stage_anew}
use Rattle.kw_windows.specs.Windows.{Windows, Limits}
use Rattle.kw_windows.specs.Events.{MayBuild, MayLeave, IsLeft}
use Rattle.kw_windows.specs.Counted.{is_right, is_from, HasNone, HasDead, HasFew, HasBuilt, HasPaid, IsCounted, AreFew, most_of_seat}
use Rattle.kw_windows.proofs.Leading.{from_own, right_from, right_of_left, right_few, from_few}
use Rattle.kw_windows.proofs.Summing.{times_one_more}

-- At any stage.

-- no more builds than leaders, and one
pub few_builds : (rows : ℕ) (w : Windows) (a : Stage) (c : Builder) → HasBuilt rows w a c → HasFew rows w.leads c
few_builds rows w Elsewhere c s = (omega (arith, s.0), s.1)
few_builds rows w Refused c s = s
few_builds rows w (Asking r) c s = met (w.live r) refl
  where
    met : (b : Bool) → w.live r ≡ b → HasFew rows w.leads c
    met true e = let f = s.0 e in (omega (arith, f.0, right_few rows w r), f.1)
    met false e = let f = s.1 e in (omega (arith, f.0), omega (arith, f.1))
few_builds rows w (Building r false) c s = (omega (arith, s.0), omega (arith, s.1))
few_builds rows w (Building r true) c s = met (w.live r) refl
  where
    met : (b : Bool) → w.live r ≡ b → HasFew rows w.leads c
    met true e = let f = s.0 e in (omega (arith, f.0, from_few rows w r), f.1)
    met false e = let f = s.1 e in (omega (arith, f.0), f.1)

-- the builds pay for the rows that were taken
pub builds_pay : (build : ℕ) (a : Stage) (c : Builder) → HasPaid build a c → c.taken ≤ build * (c.lives + c.deads)
builds_pay build Elsewhere c p = p
builds_pay build Refused c p = p
builds_pay build (Asking r) c p = p.1
builds_pay build (Building r false) c p = p.1
builds_pay build (Building r true) c p = omega (arith, p.0, p.1)

-- so a seat takes few rows in a window
pub most_taken : (z : Limits) (w : Windows) (c : Builder) → AreFew z w → IsCounted z w c → c.taken ≤ most_of_seat z
most_taken z w c few k =
    let f = few_builds z.rows w c.stage c k.builds in
    let n : c.lives + c.deads ≤ z.leaders + 1 = omega (arith, f.0, f.1, few) in
    omega (arith, builds_pay z.build c.stage c k.pays, mul-le-mul_left z.build n)

-- and at most those of one build where no row leads
pub one_build : (z : Limits) (w : Windows) (c : Builder) → count_below z.rows w.leads ≡ 0 → IsCounted z w c → c.taken ≤ z.build
one_build z w c none k =
    let f = few_builds z.rows w c.stage c k.builds in
    let n : c.lives + c.deads ≤ 1 = omega (arith, f.0, f.1, none) in
    omega (arith, builds_pay z.build c.stage c k.pays, mul-le-mul_left z.build n)

-- and none where it has built for no dead row either
pub no_build : (z : Limits) (w : Windows) (c : Builder) → count_below z.rows w.leads ≡ 0 → c.deads ≡ 0 → IsCounted z w c → c.taken ≤ 0
no_build z w c none dead k =
    let f = few_builds z.rows w c.stage c k.builds in
    let n : c.lives + c.deads ≤ 0 = omega (arith, f.0, dead, none) in
    omega (arith, builds_pay z.build c.stage c k.pays, mul-le-mul_left z.build n)

-- Its events.

module _ (z : Limits) (w : Windows) (c : Builder) (k : IsCounted z w c) where
  -- what is said of a seat that builds in this window
  built : (r : ℕ) → c.stage ≡ Building r true → (w.live r ≡ true → HasFew z.rows (is_from w r) c) × (w.live r ≡ false → HasDead c)
  built r e = subst (λ a. HasBuilt z.rows w a c) e k.builds

  idle : (r : ℕ) → c.stage ≡ Building r false → HasNone c
  idle r e = subst (λ a. HasBuilt z.rows w a c) e k.builds

  asked : (r : ℕ) → c.stage ≡ Asking r → (w.live r ≡ true → HasFew z.rows (is_right w r) c) × (w.live r ≡ false → HasNone c)
  asked r e = subst (λ a. HasBuilt z.rows w a c) e k.builds

  paid : c.taken ≤ z.build * (c.lives + c.deads)
  paid = builds_pay z.build c.stage c k.pays

  -- it takes its first row of a build in this window
  pub begins_one : (r : ℕ) → (c.stage ≡ Asking r) ⊎ (c.stage ≡ Building r false) → c.held < z.build → MayBuild z w r → IsCounted z w (with_build (w.live r) (with_row r c))
  begins_one r from room may = met (w.live r) refl
    where
      stood : (c.stage ≡ Asking r) ⊎ (c.stage ≡ Building r false) → (w.live r ≡ true → HasFew z.rows (is_right w r) c) × (w.live r ≡ false → HasNone c)
      stood (inl e) = asked r e
      stood (inr e) = let s = idle r e in (λ i. (omega (arith, s.0), omega (arith, s.1)), λ i. s)

      pays : (n : ℕ) → n ≡ c.lives + c.deads + 1 → c.taken + 1 + z.build ≤ z.build * n + (c.held + 1)
      pays n e = rw e (omega (arith, paid, times_one_more z.build (c.lives + c.deads)))

      met : (b : Bool) → w.live r ≡ b → IsCounted z w (with_build b (with_row r c))
      met true e = let f = (stood from).0 e in record {
        builds = (λ i. (omega (arith, f.0, from_own z.rows w r may.below (may.leads e)), f.1), λ i. absurd (cc (e, i)));
        pays = (omega (arith, room), pays (c.lives + 1 + c.deads) (omega arith));
      }
      met false e = let f = (stood from).1 e in record {
        builds = (λ i. absurd (cc (e, i)), λ i. (f.0, omega (arith, f.1)));
        pays = (omega (arith, room), pays (c.lives + (c.deads + 1)) (omega arith));
      }

  -- it takes one more
  pub takes_more : (r : ℕ) → c.stage ≡ Building r true → c.held < z.build → IsCounted z w (with_row r c)
  takes_more r e room =
      let p = subst (λ a. HasPaid z.build a c) e k.pays in
      record { builds = built r e; pays = (omega (arith, room), omega (arith, p.1)) }

  -- it comes to a full row
  pub comes_to : (r : ℕ) → c.stage ≡ Elsewhere → (1 ≤ c.deads → w.live r ≡ true) → IsCounted z w (at_stage (Asking r) c)
  comes_to r e h = record { builds = (λ i. (omega (arith, s.0), s.1), λ i. (s.0, none (cases_lt 0 c.deads) i)); pays = (refl, paid) }
    where
      s : HasDead c
      s = subst (λ a. HasBuilt z.rows w a c) e k.builds

      none : (0 < c.deads) ⊎ (c.deads ≤ 0) → w.live r ≡ false → c.deads ≡ 0
      none (inl x) i = let y = h (omega (arith, x)) in absurd (cc (y, i))
      none (inr x) i = omega (arith, x)

  -- it goes on to the row before, and has taken no row in this window, or has
  pub turns_to : (r p : ℕ) → c.stage ≡ Building r false → IsCounted z w (at_stage (Asking p) c)
  turns_to r p e = let s = idle r e in record { builds = (λ i. (omega (arith, s.0), omega (arith, s.1)), λ i. s); pays = (refl, paid) }

  pub moves_to : (r p : ℕ) → c.stage ≡ Building r true → w.live r ≡ true → IsLeft w r p → IsCounted z w (at_stage (Asking p) c)
  moves_to r p e live left =
      let f = (built r e).0 live in
      let there = left.live in
      record { builds = (λ i. (omega (arith, f.0, right_of_left z.rows w r p left.less), f.1), λ i. absurd (cc (there, i))); pays = (refl, paid) }

  -- it goes on to the leader of its row
  pub shifts_to : (r p : ℕ) → c.stage ≡ Asking r → (w.live r ≡ true → IsLeft w r p) → IsCounted z w (at_stage (Asking p) c)
  shifts_to r p e left = met (w.live r) refl
    where
      met : (b : Bool) → w.live r ≡ b → IsCounted z w (at_stage (Asking p) c)
      met true i =
          let f = (asked r e).0 i in
          let there = (left i).live in
          record { builds = (λ y. (omega (arith, f.0, right_from z.rows w r, right_of_left z.rows w r p (left i).less), f.1), λ y. absurd (cc (there, y))); pays = (refl, paid) }
      met false i =
          let f = (asked r e).1 i in
          record { builds = (λ y. (omega (arith, f.0), omega (arith, f.1)), λ y. f); pays = (refl, paid) }

  -- it gives its row up
  pub leaves_it : MayLeave w c.stage → IsCounted z w (at_stage Elsewhere c)
  leaves_it may = record { builds = met c.stage may k.builds; pays = paid }
    where
      met : (a : Stage) → MayLeave w a → HasBuilt z.rows w a c → HasDead c
      met Elsewhere x s = absurd x
      met Refused x s = absurd x
      met (Asking r) x s = let f = s.1 x in (f.0, omega (arith, f.1))
      met (Building r false) x s = (s.0, omega (arith, s.1))
      met (Building r true) x s = s.1 x

  -- it is refused
  pub refused : IsCounted z w (at_stage Refused c)
  refused = record { builds = few_builds z.rows w c.stage c k.builds; pays = paid }

-- A window is over.

pub begun_anew : (z : Limits) (w w' : Windows) (c : Builder) → IsCounted z w c → IsCounted z w' (anew c)
begun_anew z w w' c k = record { builds = stood c.stage; pays = paid_anew c.stage k.pays }
  where
    stood : (a : Stage) → HasBuilt z.rows w' (stage_anew a) (anew c)
    stood Elsewhere = (refl, omega arith)
    stood Refused = (omega arith, omega arith)
    stood (Asking r) = (λ i. (omega arith, omega arith), λ i. (refl, refl))
    stood (Building r true) = (refl, refl)
    stood (Building r false) = (refl, refl)

    paid_anew : (a : Stage) → HasPaid z.build a c → HasPaid z.build (stage_anew a) (anew c)
    paid_anew Elsewhere p = omega arith
    paid_anew Refused p = omega arith
    paid_anew (Asking r) p = (p.0, omega arith)
    paid_anew (Building r true) p = (p.0, omega arith)
    paid_anew (Building r false) p = (p.0, omega arith)
