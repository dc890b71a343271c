-- The rows that are to go, as a statement: what the test says of such a row.
use Rattle.std.proofs.Common.{ℕ, ◌≡◌, ◌⊎◌, inl, inr, ◌<◌, ◌≤◌, ◌&&◌, ◌||◌, true, nat_lt, nat_le, Option, Some, None, arith, refl, ap}
use Rattle.std.proofs.lemmas.Bool.{and_from, and_parts, or_cases, or_left, or_right}
use Rattle.std.proofs.lemmas.Bool.Decides.{nat_tests}
use Rattle.std.proofs.lemmas.Option.{same_Some}
use Rattle.kw_rows.specs.Ledger.{Ledger, Status, IsLive}
use Rattle.kw_rows.specs.Ledger as fate
use Rattle.kw_rows.specs.RowState as row
use Rattle.kw_rows.specs.RowState.{IsEngaged, IsLeader}
use Rattle.kw_rows.specs.Rows.{HoldsKey}
use Rattle.kw_world.specs.declared.activity.Activity.{Activity}
use Rattle.kw_world.specs.declared.local.Local.{Local}
use Rattle.kw_world.specs.Calls.{first_key}
use Rattle.kw_world.specs.Sizes.{Sizes}
use Rattle.kw_core.specs.Words.{Words, given_in, least_in}
use Rattle.kw_shape.specs.RowsIn.{rows_in}
use Rattle.kw_alone.specs.Wins.{asks, is_below, is_leading, is_left_of, is_live, is_of_range, is_to_go, is_unled}

-- Tests of one row.

-- a row that passes the test is in the list
live_by : (s : Status) → is_live s ≡ true → s ≡ fate.Live
live_by fate.Live e = refl
live_by fate.Free e = absurd (cc)
live_by fate.Infant e = absurd (cc)
live_by fate.Dead e = absurd (cc)

-- a row of the list passes the test
live_test : (s : Status) → s ≡ fate.Live → is_live s ≡ true
live_test s e = ap is_live e

-- an engaged row is not one that nobody has engaged
pub engaged_led : (s : row.State) → IsEngaged s → is_unled s ≡ true → ⊥
engaged_led (row.Leader m) x e = absurd (cc)
engaged_led (row.Follower p) x e = absurd (cc)
engaged_led row.Free x e = x
engaged_led (row.Infant seat) x e = x
engaged_led row.Normal x e = x
engaged_led (row.Retired m) x e = x

-- a key is below the end of a range, if it has one
below_by : (key : ℕ) (u : Option ℕ) → is_below key u ≡ true → (n : ℕ) → u ≡ Some n → key < n
below_by key (Some m) e n f = let x : m ≡ n = same_Some m n f in grind (arith, nat_tests)
below_by key None e n f = absurd (cc)

below_test : (key : ℕ) (u : Option ℕ) → ((n : ℕ) → u ≡ Some n → key < n) → is_below key u ≡ true
below_test key (Some m) f = let x : key < m = f m refl in grind (arith, nat_tests)
below_test key None f = refl

-- comparisons
at_most_by : (x y : ℕ) → nat_le x y ≡ true → x ≤ y
at_most_by x y e = grind (arith, nat_tests)

at_most_test : (x y : ℕ) → x ≤ y → nat_le x y ≡ true
at_most_test x y e = grind (arith, nat_tests)

less_by : (x y : ℕ) → nat_lt x y ≡ true → x < y
less_by x y e = grind (arith, nat_tests)

less_test : (x y : ℕ) → x < y → nat_lt x y ≡ true
less_test x y e = grind (arith, nat_tests)

module _ (v : Words) (g : Ledger) where
  -- the range of the row has the key
  range_by : (x key : ℕ) → is_of_range v g x key ≡ true → HoldsKey (rows_in v) g x key
  range_by x key e =
      let p = and_parts (nat_le (least_in v x) key) (is_below key (g.fates x).upper) e in
      record { from = at_most_by (least_in v x) key p.0; below = below_by key (g.fates x).upper p.1 }

  range_test : (x key : ℕ) → HoldsKey (rows_in v) g x key → is_of_range v g x key ≡ true
  range_test x key h = and_from (nat_le (least_in v x) key) (is_below key (g.fates x).upper) (at_most_test (least_in v x) key h.from) (below_test key (g.fates x).upper h.below)

  -- Rows left of a key.

  -- a row that passes the test is in the list, left of the key
  pub left_by : (lower x : ℕ) → is_left_of v g lower x ≡ true → IsLive g x × (least_in v x < lower)
  left_by lower x e =
      let p = and_parts (is_live (g.fates x).status) (nat_lt (least_in v x) lower) e in
      (live_by (g.fates x).status p.0, less_by (least_in v x) lower p.1)

  pub left_test : (lower x : ℕ) → IsLive g x → least_in v x < lower → is_left_of v g lower x ≡ true
  left_test lower x a o = and_from (is_live (g.fates x).status) (nat_lt (least_in v x) lower) (live_test (g.fates x).status a) (less_test (least_in v x) lower o)

-- Rows that are to go.

-- a row that a seat with this key may yet engage, as it is full
pub record IsToEngage (z : Sizes) (v : Words) (g : Ledger) (key x : ℕ) : Type 0 where
  pub unled : is_unled ((rows_in v).state x) ≡ true
  pub full : z.cells ≤ given_in v x
  pub holds : HoldsKey (rows_in v) g x key

-- the row is in the list; and it leads, or the seat may yet engage it
abbrev pub IsToGo : Sizes → Words → Ledger → Activity → Local → ℕ → Type 0
IsToGo z v g a l x = IsLive g x × ((is_leading ((rows_in v).state x) ≡ true) ⊎ (asks a l ≡ true) × IsToEngage z v g (first_key l.call) x)

module _ (z : Sizes) (v : Words) (g : Ledger) (a : Activity) (l : Local) where
  -- a row that passes the test is to go
  pub going_by : (x : ℕ) → is_to_go z v g a l x ≡ true → IsToGo z v g a l x
  going_by x e =
      let p = and_parts (is_live (g.fates x).status) _ e in
      (live_by (g.fates x).status p.0, which (or_cases (is_leading ((rows_in v).state x)) _ p.1))
    where
      which : (is_leading ((rows_in v).state x) ≡ true) ⊎ ((asks a l && (is_unled ((rows_in v).state x) && (nat_le z.cells (given_in v x) && is_of_range v g x (first_key l.call)))) ≡ true) → (is_leading ((rows_in v).state x) ≡ true) ⊎ (asks a l ≡ true) × IsToEngage z v g (first_key l.call) x
      which (inl f) = inl f
      which (inr f) =
          let q = and_parts (asks a l) _ f in
          let u = and_parts (is_unled ((rows_in v).state x)) _ q.1 in
          let w = and_parts (nat_le z.cells (given_in v x)) _ u.1 in
          inr (q.0, record { unled = u.0; full = at_most_by z.cells (given_in v x) w.0; holds = range_by v g x (first_key l.call) w.1 })

  -- and one that is to go passes it
  pub going_test : (x : ℕ) → IsToGo z v g a l x → is_to_go z v g a l x ≡ true
  going_test x k = and_from (is_live (g.fates x).status) _ (live_test (g.fates x).status k.0) (which k.1)
    where
      which : (is_leading ((rows_in v).state x) ≡ true) ⊎ (asks a l ≡ true) × IsToEngage z v g (first_key l.call) x → (is_leading ((rows_in v).state x) || (asks a l && (is_unled ((rows_in v).state x) && (nat_le z.cells (given_in v x) && is_of_range v g x (first_key l.call))))) ≡ true
      which (inl f) = or_left (is_leading ((rows_in v).state x)) _ f
      which (inr f) = or_right (is_leading ((rows_in v).state x)) _ (and_from (asks a l) _ f.0 (and_from (is_unled ((rows_in v).state x)) _ f.1.unled (and_from (nat_le z.cells (given_in v x)) _ (at_most_test z.cells (given_in v x) f.1.full) (range_test v g x (first_key l.call) f.1.holds))))
