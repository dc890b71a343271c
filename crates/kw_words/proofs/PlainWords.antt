-- The words that hold one number or none: each value in range has one word, and is read back from
-- it.
use Rattle.std.proofs.Common.{ℕ, Bool, true, false, nat_lt, nat_le, if◌then◌else◌, ◌≡◌, ◌==◌, ◌-◌, ◌<◌, ◌≤◌, ◌^◌, Some, None, Option, refl, ap, arith}
use Rattle.std.proofs.lemmas.Bool.Decides.{nat_tests}
use Rattle.kw_words.specs.declared.sizes.TheConstants.{MOST_CELLS, KEY_END, VALUE_END}
use Rattle.kw_words.specs.Plain.{IsValue, value_word, value_of_word, IsCounted, number_word, number_of_word, IsCell, cell_link_word, cell_of_link_word, key_word, key_of_word, least_word, built_of_word}

-- a value, or a tombstone, is read back from its word
pub value_of_word-value_word : (value : Option ℕ) → value_of_word (value_word value) ≡ value
unfolding value_of_word
value_of_word-value_word (Some value) = grind (arith, nat_tests)
value_of_word-value_word None = refl

-- a word that holds a value is the word of what is read from it
pub value_word-value_of_word : (word : ℕ) → VALUE_END ≤ word → value_word (value_of_word word) ≡ word
unfolding value_of_word
value_word-value_of_word word h = saw (nat_lt word VALUE_END) refl
  where
    saw : (b : Bool) → nat_lt word VALUE_END ≡ b → value_word (if b then None else Some (word - VALUE_END)) ≡ word
    saw true e = absurd (grind (arith, nat_tests))
    saw false e = omega arith

-- values of one word are one value
pub value_word-same : (p q : Option ℕ) → value_word p ≡ value_word q → p ≡ q
value_word-same p q e = let a = value_of_word-value_word p in let b = value_of_word-value_word q in let f = ap value_of_word e in cc

-- the word of a value in range fits
pub value_word-fits : (value : Option ℕ) → IsValue value → value_word value < 2 ^ 64
value_word-fits (Some value) h = omega arith
value_word-fits None h = omega arith

-- a number that is not 0, or none, is read back from its word; so are versions and announced epochs
pub number_of_word-number_word : (number : Option ℕ) → IsCounted number → number_of_word (number_word number) ≡ number
unfolding number_of_word
number_of_word-number_word (Some number) h = grind (arith, nat_tests)
number_of_word-number_word None h = refl

-- what is read from a word has that word
pub number_word-number_of_word : (word : ℕ) → number_word (number_of_word word) ≡ word
unfolding number_of_word
number_word-number_of_word word = saw (word == 0) refl
  where
    saw : (b : Bool) → (word == 0) ≡ b → number_word (if b then None else Some word) ≡ word
    saw true e = grind (arith, nat_tests)
    saw false e = refl

-- what is read from a word is no 0
pub IsCounted-number_of_word : (word : ℕ) → IsCounted (number_of_word word)
unfolding number_of_word
IsCounted-number_of_word word = saw (word == 0) refl
  where
    saw : (b : Bool) → (word == 0) ≡ b → IsCounted (if b then None else Some word)
    saw true e = tt
    saw false e = grind (arith, nat_tests)

-- numbers of one word are one number
pub number_word-same : (p q : Option ℕ) → IsCounted p → IsCounted q → number_word p ≡ number_word q → p ≡ q
number_word-same p q h o e = let a = number_of_word-number_word p h in let b = number_of_word-number_word q o in let f = ap number_of_word e in cc

-- a cell in range, or none, is read back from the word of the link to it
pub cell_of_link_word-cell_link_word : (cell : Option ℕ) → IsCell cell → cell_of_link_word (cell_link_word cell) ≡ cell
unfolding cell_of_link_word
cell_of_link_word-cell_link_word (Some cell) h = grind (arith, nat_tests)
cell_of_link_word-cell_link_word None h = refl

-- what a link leads to is in range
pub IsCell-cell_of_link_word : (word : ℕ) → IsCell (cell_of_link_word word)
unfolding cell_of_link_word
IsCell-cell_of_link_word word = saw (word == 0) (nat_le word MOST_CELLS) refl refl
  where
    saw : (b c : Bool) → (word == 0) ≡ b → nat_le word MOST_CELLS ≡ c → IsCell (if b then None else if c then Some (word - 1) else None)
    saw true c e f = tt
    saw false true e f = grind (arith, nat_tests)
    saw false false e f = tt

-- cells in range of one word are one cell
pub cell_link_word-same : (p q : Option ℕ) → IsCell p → IsCell q → cell_link_word p ≡ cell_link_word q → p ≡ q
cell_link_word-same p q h o e = let a = cell_of_link_word-cell_link_word p h in let b = cell_of_link_word-cell_link_word q o in let f = ap cell_of_link_word e in cc

-- a key in range is read back from its word
pub key_of_word-key_word : (key : ℕ) → key < KEY_END → key_of_word (key_word key) ≡ key
unfolding key_of_word
key_of_word-key_word key h = grind arith

-- what is read from a word is a key in range
pub key_of_word-below : (word : ℕ) → key_of_word word < KEY_END
unfolding key_of_word
key_of_word-below word = omega arith

-- the least key of a row is read back from its word
pub key_of_word-least_word : (key built : ℕ) → key < KEY_END → key_of_word (least_word key built) ≡ key
unfolding key_of_word
key_of_word-least_word key built h = omega arith

-- and so is with how many cells the row was built
pub built_of_word-least_word : (key built : ℕ) → key < KEY_END → built_of_word (least_word key built) ≡ built
unfolding built_of_word
built_of_word-least_word key built h = omega arith

-- the word of a row that was never built says so
pub built_of_word-zero : built_of_word 0 ≡ 0
unfolding built_of_word
built_of_word-zero = refl
