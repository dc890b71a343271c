-- Counts and their words: each count in range has one word and is read back from it, and what
-- adding and freezing do to it.
use Rattle.std.proofs.Common.{ℕ, ◌≡◌, ◌≢◌, ◌+◌, ◌<◌, ◌^◌, bit_or, true, Some, None, ap, arith}
use Rattle.std.proofs.lemmas.Bool.Decides.{nat_tests}
use Rattle.kw_words.proofs.Refusals.{none_unless}
use Rattle.kw_words.specs.declared.count.Count.{Count}
use Rattle.kw_words.specs.declared.sizes.TheConstants.{FROZEN_BIT}
use Rattle.kw_words.specs.Count.{IsCount, count_word, count_of}
use Rattle.kw_words.proofs.Bits.{or-below, or-above}

-- a count in range is read back from its word
pub count_of-count_word : (count : Count) → IsCount count → count_of (count_word count) ≡ Some count
unfolding count_of
count_of-count_word count h = grind (arith, nat_tests)

-- what is read from a word has that word
pub count_word_of : (word : ℕ) (count : Count) → count_of word ≡ Some count → count_word count ≡ word
unfolding count_of
count_word_of word count e = grind (arith, nat_tests)

-- what is read from a word is in range
pub IsCount-count_of : (word : ℕ) (count : Count) → count_of word ≡ Some count → IsCount count
unfolding count_of
IsCount-count_of word count e = grind (arith, nat_tests)

-- a word that nothing in range packs to stands for nothing
pub count_of-None : (word : ℕ) → ((count : Count) → IsCount count → count_word count ≢ word) → count_of word ≡ None
count_of-None word h = none_unless (count_of word) (λ count e. h count (IsCount-count_of word count e) (count_word_of word count e))

-- counts in range of one word are one count
pub count_word-same : (p q : Count) → IsCount p → IsCount q → count_word p ≡ count_word q → p ≡ q
count_word-same p q h o e = let a = count_of-count_word p h in let b = count_of-count_word q o in let f = ap count_of e in cc

-- different counts in range have different words
pub count_word-other : (p q : Count) → IsCount p → IsCount q → p ≢ q → count_word p ≢ count_word q
count_word-other p q h o d = λ e. d (count_word-same p q h o e)

-- the word of a count in range fits
pub count_word-fits : (count : Count) → IsCount count → count_word count < 2 ^ 64
count_word-fits count h = grind (arith, nat_tests)

-- adding one to a word gives one more cell, and leaves the frozen bit
pub count_of_next : (word : ℕ) (count : Count) → count_of word ≡ Some count → count.given + 1 < FROZEN_BIT → count_of (word + 1) ≡ Some (record count { given = count.given + 1 })
unfolding count_of
count_of_next word count e h = grind (arith, nat_tests)

-- setting the frozen bit in a word freezes the count, and leaves the cells given
pub count_of_frozen : (word : ℕ) (count : Count) → count_of word ≡ Some count → count_of (bit_or word FROZEN_BIT) ≡ Some (record count { frozen = true })
unfolding count_of
count_of_frozen word count e = grind (arith, nat_tests, or-below, or-above)
