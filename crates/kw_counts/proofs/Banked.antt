-- The stamps of all rows, and those that are banked: one more where a cell is stamped, and as many
-- as before where the rows of a group are replaced.
use Rattle.std.proofs.Common.{ℕ, ◌≡◌, ◌≢◌, ◌+◌, ◌<◌, ◌≤◌, ◌==◌, Bool, true, false, Option, None, Some, List, [], ◌∷◌, if◌then◌else◌, arith, refl, eq-eqb, ne_eqb}
use Rattle.kw_rows.specs.Events.{rest_of}
use Rattle.kw_windows.specs.Sums.{sum_below}
use Rattle.kw_windows.proofs.Summing.{sum_one_changed}
use Rattle.kw_world.specs.declared.activity.Activity.{Activity}
use Rattle.kw_world.specs.declared.activity.look.Look.TheVariants as Look
use Rattle.kw_world.specs.declared.activity.put.Put.TheVariants as Put
use Rattle.kw_world.specs.declared.activity.rebalance.Rebalance.TheVariants as Rebalance
use Rattle.kw_world.specs.declared.activity.rebalance.replace.Replace.TheVariants as Replace
use Rattle.kw_words.specs.declared.pend.Pend.TheVariants.{Pending}
use Rattle.kw_words.specs.Pend.{pend_word}
use Rattle.kw_world.specs.declared.local.Local.{Local}
use Rattle.kw_core.specs.Ledger.{group_of, is_among}
use Rattle.kw_counts.specs.Counts.{Stamps, one_more_at, stamps_after, sum_of, with_at, with_banked}
use Rattle.kw_counts.proofs.Updates.{at_left, at_set}

-- all of them
abbrev pub total : ℕ → Stamps → ℕ
total rows c = c.banked + sum_below rows c.here

pub one_more_total : (rows : ℕ) (c : Stamps) (q : ℕ) → q < rows → total rows (record c { here = one_more_at c.here q }) ≡ total rows c + 1
one_more_total rows c q w = omega (arith, sum_one_changed rows q c.here (one_more_at c.here q) w (λ u n. at_left c.here q (c.here q + 1) u n), at_set c.here q (c.here q + 1) q refl)

-- what is counted in one row is no more than in all
pub one_among : (rows : ℕ) (f : ℕ → ℕ) (q : ℕ) → q < rows → f q ≤ sum_below rows f
one_among rows f q w = omega (arith, sum_one_changed rows q f (with_at f q 0) w (λ u n. at_left f q 0 u n), at_set f q 0 q refl)

-- Rows of a list.

-- rows of the table of which no two are one
abbrev pub AreApart : ℕ → List ℕ → Type 0
AreApart rows [] = Unit {0}
AreApart rows (x ∷ xs) = (x < rows) × (is_among xs x ≡ false) × AreApart rows xs

-- what a function gives, but nothing of these rows
abbrev none_of : List ℕ → (ℕ → ℕ) → ℕ → ℕ
none_of qs f q = if is_among qs q then 0 else f q

sum_none_of : (rows : ℕ) (f : ℕ → ℕ) (qs : List ℕ) → AreApart rows qs → sum_below rows (none_of qs f) + sum_of f qs ≡ sum_below rows f
sum_none_of rows f [] a = omega arith
sum_none_of rows f (x ∷ xs) a =
    let others : (u : ℕ) → u ≢ x → none_of (x ∷ xs) f u ≡ none_of xs f u = λ u n. rw (ne_eqb u x n) refl in
    let now : none_of (x ∷ xs) f x ≡ 0 = rw (eq-eqb x x refl) refl in
    let was : none_of xs f x ≡ f x = rw a.1 refl in
    omega (arith, sum_one_changed rows x (none_of xs f) (none_of (x ∷ xs) f) a.0 others, now, was, sum_none_of rows f xs a.2)

pub banked_total : (rows : ℕ) (c : Stamps) (qs : List ℕ) → AreApart rows qs → total rows (with_banked qs c) ≡ total rows c
banked_total rows c qs a = omega (arith, sum_none_of rows c.here qs a)

-- the rows of a group are apart
pub group_apart : (rows : ℕ) (l : Local) → l.row < rows → ((q : ℕ) → l.rebalance.second ≡ Some q → (q < rows) × (l.row ≢ q)) → AreApart rows (group_of l)
group_apart rows l w f = by l.rebalance.second refl
  where
    by : (o : Option ℕ) → l.rebalance.second ≡ o → AreApart rows (l.row ∷ rest_of o)
    by None e = (w, refl, tt)
    by (Some q) e = let t = f q e in (w, rw (ne_eqb l.row q t.1) refl, (t.0, refl, tt))

-- What is banked.

-- no less than what was counted in the first row of the group
pub first_banked : (l : Local) (c : Stamps) → c.banked + c.here l.row ≤ (with_banked (group_of l) c).banked
first_banked l c = omega arith

-- nothing more is, where no row is replaced
pub banked_same : (a : Activity) (l : Local) (found : ℕ) (c : Stamps) → a ≢ Activity.Rebalance (Rebalance.Replace Replace.Exchange) → (stamps_after a l found c).banked ≡ c.banked
banked_same (Activity.Look Look.Help) l found c n = saw (found == pend_word (Pending l.saw))
  where
    saw : (b : Bool) → (let d : Stamps = if b then record c { here = one_more_at c.here l.row } else c in d).banked ≡ c.banked
    saw true = refl
    saw false = refl
banked_same (Activity.Put Put.Stamp) l found c n = saw (found == pend_word (Pending l.cell))
  where
    saw : (b : Bool) → (let d : Stamps = if b then record c { here = one_more_at c.here l.row } else c in d).banked ≡ c.banked
    saw true = refl
    saw false = refl
banked_same (Activity.Rebalance (Rebalance.Replace Replace.Exchange)) l found c n = absurd (n refl)
banked_same _ l found c n = refl
