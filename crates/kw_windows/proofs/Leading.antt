-- Leaders right of a row and from it on: how many there are, seen from one row and from another,
-- and that what is counted of a seat stays so where more rows lead.
use Rattle.std.proofs.Common.{ℕ, ◌≡◌, ◌+◌, ◌<◌, ◌≤◌, ◌&&◌, Bool, true, false, nat_lt, nat_le, arith, refl, sym, ◌∙◌}
use Rattle.std.proofs.lemmas.Bool.{and_parts}
use Rattle.std.proofs.lemmas.Bool.Decides.{nat_tests}
use Rattle.kw_lists.specs.Counts.{count_below}
use Rattle.kw_lists.proofs.Counting.{count_grows, count_gains}
use Rattle.kw_windows.specs.Builders.{Stage, Builder, Elsewhere, Refused, Asking, Building}
use Rattle.kw_windows.specs.Windows.{Windows}
use Rattle.kw_windows.specs.Events.{Within}
use Rattle.kw_windows.specs.Counted.{is_right, is_from, HasBuilt}

-- two tests that hold
both : (a b : Bool) → a ≡ true → b ≡ true → (a && b) ≡ true
both a b e f = rw (e, f)

module _ (rows : ℕ) (w : Windows) where
  -- a leader is one more from its own least key on
  pub from_own : (r : ℕ) → r < rows → w.leads r ≡ true → count_below rows (is_right w r) + 1 ≤ count_below rows (is_from w r)
  from_own r below e = omega (arith, count_gains rows (is_right w r) (is_from w r) r below (here (w.leads r)) (both _ _ e (grind (arith, nat_tests))) from)
    where
      here : (b : Bool) → (b && nat_lt (w.least r) (w.least r)) ≡ false
      here true = grind (arith, nat_tests)
      here false = refl

      from : (x : ℕ) → is_right w r x ≡ true → is_from w r x ≡ true
      from x f = let t = and_parts (w.leads x) (nat_lt (w.least r) (w.least x)) f in both _ _ t.0 (grind (arith, nat_tests, t.1))

  -- what stands right of a row stands from it on
  pub right_from : (r : ℕ) → count_below rows (is_right w r) ≤ count_below rows (is_from w r)
  right_from r = count_grows rows (is_right w r) (is_from w r) (λ x f. let t = and_parts (w.leads x) (nat_lt (w.least r) (w.least x)) f in both _ _ t.0 (grind (arith, nat_tests, t.1)))

  -- what stands from a row on stands right of one that is left of it
  pub right_of_left : (r p : ℕ) → w.least p < w.least r → count_below rows (is_from w r) ≤ count_below rows (is_right w p)
  right_of_left r p h = count_grows rows (is_from w r) (is_right w p) (λ x f. let t = and_parts (w.leads x) (nat_le (w.least r) (w.least x)) f in both _ _ t.0 (grind (arith, nat_tests, t.1, h)))

  -- and all of them lead
  pub right_few : (r : ℕ) → count_below rows (is_right w r) ≤ count_below rows w.leads
  right_few r = count_grows rows (is_right w r) w.leads (λ x f. (and_parts (w.leads x) (nat_lt (w.least r) (w.least x)) f).0)

  pub from_few : (r : ℕ) → count_below rows (is_from w r) ≤ count_below rows w.leads
  from_few r = count_grows rows (is_from w r) w.leads (λ x f. (and_parts (w.leads x) (nat_le (w.least r) (w.least x)) f).0)

-- More rows lead.

module _ (rows : ℕ) (w w' : Windows) (k : Within w w') where
  right_grows : (r : ℕ) → w.live r ≡ true → count_below rows (is_right w r) ≤ count_below rows (is_right w' r)
  right_grows r live = count_grows rows (is_right w r) (is_right w' r) (λ x f.
      let t = and_parts (w.leads x) (nat_lt (w.least r) (w.least x)) f in
      let here : w'.least r ≡ w.least r = k.least r live in
      let there : w'.least x ≡ w.least x = k.least x (k.linked x t.0) in
      both _ _ (k.leads x t.0) (rw (here, there) t.1))

  from_grows : (r : ℕ) → w.live r ≡ true → count_below rows (is_from w r) ≤ count_below rows (is_from w' r)
  from_grows r live = count_grows rows (is_from w r) (is_from w' r) (λ x f.
      let t = and_parts (w.leads x) (nat_le (w.least r) (w.least x)) f in
      let here : w'.least r ≡ w.least r = k.least r live in
      let there : w'.least x ≡ w.least x = k.least x (k.linked x t.0) in
      both _ _ (k.leads x t.0) (rw (here, there) t.1))

  was_live : (r : ℕ) (b : Bool) → w'.live r ≡ b → w.live r ≡ b
  was_live r b e = sym (k.live r) ∙ e

  -- the builds that are counted are as few as they were
  pub built_within : (a : Stage) (c : Builder) → HasBuilt rows w a c → HasBuilt rows w' a c
  built_within Elsewhere c s = s
  built_within Refused c s = (omega (arith, s.0, count_grows rows w.leads w'.leads k.leads), s.1)
  built_within (Asking r) c s = (λ e. let l = was_live r true e in let f = s.0 l in (omega (arith, f.0, right_grows r l), f.1), λ e. s.1 (was_live r false e))
  built_within (Building r false) c s = s
  built_within (Building r true) c s = (λ e. let l = was_live r true e in let f = s.0 l in (omega (arith, f.0, from_grows r l), f.1), λ e. s.1 (was_live r false e))
