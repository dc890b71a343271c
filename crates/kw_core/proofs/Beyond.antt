-- The words of rows that the table does not have: they are 0, so what an event leaves of the rows
-- can be said of all rows.
use Rattle.std.proofs.Common.{ℕ, ◌≡◌, ◌≤◌, arith, length}
use Rattle.std.proofs.lemmas.List.{get_or_past}
use Rattle.std.proofs.Math.Nat.{mul-le-mul_right}
use Rattle.kw_words.specs.declared.layout.Name.{Name}
use Rattle.kw_words.specs.Layout.{place_of, row_len, row_start, words_of}
use Rattle.kw_world.specs.Sizes.{Sizes}
use Rattle.kw_world.specs.WorldView.{WorldView}
use Rattle.kw_world.specs.Step.{word}

-- a row past the last one begins past the table's end
starts_past : (seats cells rows q : ℕ) → rows ≤ q → row_start seats cells rows ≤ row_start seats cells q
starts_past seats cells rows q o = omega (arith, mul-le-mul_right {m = rows} {n = q} (row_len seats cells) o)

-- a word whose place is past the table's end
pub past_end : (z : Sizes) (w : WorldView) (n : Name) → length w.words ≤ place_of z.seats z.cells n → word z w n ≡ 0
unfolding word
past_end z w n o = get_or_past w.words (place_of z.seats z.cells n) 0 o

-- a word of such a row
pub beyond : (z : Sizes) (w : WorldView) (n : Name) (q : ℕ) → length w.words ≡ words_of z.seats z.cells w.rows → w.rows ≤ q → row_start z.seats z.cells q ≤ place_of z.seats z.cells n → word z w n ≡ 0
beyond z w n q e o b = past_end z w n (omega (arith, e, starts_past z.seats z.cells w.rows q o, b))
