-- How the numbers of the measure compare: products, the rows above a key, remembered cells, and the
-- words of links.
use Rattle.std.proofs.Common.{ℕ, suc, zero, ◌≡◌, ◌+◌, ◌*◌, ◌-◌, ◌<◌, ◌≤◌, ◌==◌, nat_lt, nat_le, if◌then◌else◌, Bool, true, false, Some, None, List, [], ◌∷◌, ◌++◌, arith, refl, ap, length, length-append}
use Rattle.std.proofs.lemmas.Bool.Decides.{nat_tests}
use Rattle.std.proofs.lemmas.Option.{same_Some}
use Rattle.std.proofs.Math.Nat.{mul-le-mul_right}
use Rattle.kw_words.specs.Plain.{cell_link_word, cell_of_link_word}
use Rattle.kw_words.specs.declared.sizes.TheConstants.{MOST_CELLS}
use Rattle.kw_cells.specs.declared.cell.Cell.{Cell}
use Rattle.kw_lists.specs.Counts.{count_below}
use Rattle.kw_lists.proofs.Counting.{count_most, count_gains}
use Rattle.kw_puts.specs.Builds.{has_place}
use Rattle.kw_world.specs.declared.marks.Mark.{Mark}
use Rattle.kw_world.specs.Marks.{is_marked, least_mark, unmarked}
use Rattle.kw_world.specs.Sizes.{Sizes}
use Rattle.kw_core.proofs.Marks.{least_marked}
use Rattle.kw_core.specs.Words.{Words, least_in}
use Rattle.kw_alone.specs.Prices.{group_cells}
use Rattle.kw_alone.specs.Rest.{up, gathered_places}

-- Products.

-- one less of so many
pub less_one : (a b c : ℕ) → a < b → (b - (a + 1)) * c + c ≤ (b - a) * c
less_one a b c h = let e : b - a ≡ (b - (a + 1)) + 1 = omega (arith, h) in let f : ((b - (a + 1)) + 1) * c ≡ (b - (a + 1)) * c + c = grind arith in rw e (omega (arith, f))

pub one_more : (n c : ℕ) → (n + 1) * c ≡ n * c + c
one_more n c = grind arith

-- none of so many and one is behind
pub all_but_first : (n c : ℕ) → (n + 1 - (0 + 1)) * c ≡ n * c
all_but_first n c = ap (λ x. x * c) (omega arith)

pub up_times : (a b c : ℕ) → a + 1 ≤ b → a * c + c ≤ b * c
up_times a b c h = let e : (a + 1) * c ≡ a * c + c = grind arith in omega (arith, e, mul-le-mul_right c h)

-- one row more is taken
pub one_taken : (xs : List ℕ) (x : ℕ) → length (xs ++ x ∷ []) ≡ length xs + 1
one_taken xs x = length-append xs (x ∷ [])

-- Rows above a key.

module _ (v : Words) (rows : ℕ) where
  pub most_up : (b : ℕ) → up v rows b ≤ rows
  most_up b = count_most rows (λ x. nat_lt b (least_in v x))

  -- fewer rows are above a row than above a key that it is above
  pub less_up : (b c : ℕ) → c < rows → b < least_in v c → up v rows (least_in v c) < up v rows b
  less_up b c w h = count_gains rows (λ x. nat_lt (least_in v c) (least_in v x)) (λ x. nat_lt b (least_in v x)) c w (grind (arith, nat_tests)) (grind (arith, nat_tests, h)) (λ d e. grind (arith, nat_tests, e, h))

-- tests that are the same below the bound count the same
pub count_same : (n : ℕ) (f g : ℕ → Bool) → ((x : ℕ) → x < n → f x ≡ g x) → count_below n f ≡ count_below n g
unfolding count_below
count_same zero f g h = refl
count_same (suc n) f g h = rw (h n (omega arith), count_same n f g (λ x o. h x (omega (arith, o)))) refl

-- Cells.

pub gathered_most : (z : Sizes) (cells : List Cell) → gathered_places z cells ≤ group_cells z
gathered_most z cells = count_most (group_cells z) (λ p. has_place p cells)

-- a mark fewer is remembered, or as many
pub no_longer : (c : ℕ) (marks : List Mark) → length (unmarked c marks) ≤ length marks
no_longer c [] = omega arith
no_longer c (m ∷ marks) = saw (m.cell == c) (no_longer c marks)
  where
    saw : (b : Bool) → length (unmarked c marks) ≤ length marks → length (if (if b then false else true) then m ∷ unmarked c marks else unmarked c marks) ≤ suc (length marks)
    saw true h = omega (arith, h)
    saw false h = omega (arith, h)

marked_shorter : (c : ℕ) (marks : List Mark) → is_marked c marks ≡ true → length (unmarked c marks) < length marks
marked_shorter c [] e = absurd (cc)
marked_shorter c (m ∷ marks) e = saw (m.cell == c) (marked_shorter c marks) e
  where
    saw : (b : Bool) → (is_marked c marks ≡ true → length (unmarked c marks) < length marks) → (if b then true else is_marked c marks) ≡ true → length (if (if b then false else true) then m ∷ unmarked c marks else unmarked c marks) < suc (length marks)
    saw true k h = omega (arith, no_longer c marks)
    saw false k h = omega (arith, k h)

pub shorter : (marks : List Mark) (m : Mark) → least_mark marks ≡ Some m → length (unmarked m.cell marks) < length marks
shorter marks m e = marked_shorter m.cell marks (least_marked marks m e)

-- Links.

-- the word of a link that leads to a cell, and of one that leads to none
pub leads_to : (x c : ℕ) → cell_of_link_word x ≡ Some c → x ≡ cell_link_word (Some c)
unfolding cell_of_link_word
leads_to x c e = met (x == 0) (nat_le x MOST_CELLS) refl refl e
  where
    met : (a b : Bool) → (x == 0) ≡ a → nat_le x MOST_CELLS ≡ b → (if a then None else if b then Some (x - 1) else None) ≡ Some c → x ≡ c + 1
    met true b h k e = absurd (cc e)
    met false true h k e = let s : x - 1 ≡ c = same_Some (x - 1) c e in grind (arith, nat_tests, h, s)
    met false false h k e = absurd (cc e)

pub leads_nowhere : (x : ℕ) → x ≤ MOST_CELLS → cell_of_link_word x ≡ None → x ≡ 0
unfolding cell_of_link_word
leads_nowhere x w e = met (x == 0) (nat_le x MOST_CELLS) refl refl e
  where
    met : (a b : Bool) → (x == 0) ≡ a → nat_le x MOST_CELLS ≡ b → (if a then None else if b then Some (x - 1) else None) ≡ None → x ≡ 0
    met true b h k e = grind (arith, nat_tests, h)
    met false true h k e = absurd (cc e)
    met false false h k e = absurd (grind (arith, nat_tests, k, w))
