-- Entries and their words: each entry in range has one word, and is read back from it.
use Rattle.std.proofs.Common.{ℕ, ◌≡◌, ◌≢◌, ◌+◌, ◌*◌, ◌<◌, ◌≤◌, ◌^◌, Some, None, refl, ap, arith}
use Rattle.std.proofs.lemmas.Bool.Decides.{nat_tests}
use Rattle.kw_words.proofs.Refusals.{none_unless}
use Rattle.kw_words.specs.declared.pend.Pend.{Pend}
use Rattle.kw_words.specs.declared.pend.Pend.TheVariants.{Idle, Pending, Stamped, Frozen}
use Rattle.kw_words.specs.declared.sizes.TheConstants.{MOST_CELLS, VERSION_END, STAMP_UNIT}
use Rattle.kw_words.specs.Pend.{IsPend, pend_word, pend_of}

-- the word 0 is an idle entry
pub pend_of-Idle : pend_of 0 ≡ Some Idle
unfolding pend_of
pend_of-Idle = refl

-- the word 3 is a frozen entry
pub pend_of-Frozen : pend_of 3 ≡ Some Frozen
unfolding pend_of
pend_of-Frozen = refl

-- the word for a pending entry is read back
pub pend_of-Pending : (cell : ℕ) → cell < MOST_CELLS → pend_of (1 + 4 * cell) ≡ Some (Pending cell)
unfolding pend_of
pend_of-Pending cell h = grind (arith, nat_tests)

-- the word for a stamped entry is read back
pub pend_of-Stamped : (cell version : ℕ) → cell < MOST_CELLS → 1 ≤ version → version < VERSION_END → pend_of (2 + 4 * cell + STAMP_UNIT * version) ≡ Some (Stamped cell version)
unfolding pend_of
pend_of-Stamped cell version h o e = grind (arith, nat_tests)

-- an entry in range is read back from its word
pub pend_of-pend_word : (entry : Pend) → IsPend entry → pend_of (pend_word entry) ≡ Some entry
pend_of-pend_word Idle h = pend_of-Idle
pend_of-pend_word (Pending cell) h = pend_of-Pending cell h
pend_of-pend_word (Stamped cell version) h = pend_of-Stamped cell version h.0 h.1 h.2
pend_of-pend_word Frozen h = pend_of-Frozen

-- what is read from a word has that word
pub pend_word_of : (word : ℕ) (entry : Pend) → pend_of word ≡ Some entry → pend_word entry ≡ word
unfolding pend_of
pend_word_of word Idle e = grind (arith, nat_tests)
pend_word_of word (Pending cell) e = grind (arith, nat_tests)
pend_word_of word (Stamped cell version) e = grind (arith, nat_tests)
pend_word_of word Frozen e = grind (arith, nat_tests)

-- what is read from a word is in range
pub IsPend-pend_of : (word : ℕ) (entry : Pend) → pend_of word ≡ Some entry → IsPend entry
unfolding pend_of
IsPend-pend_of word Idle e = tt
IsPend-pend_of word (Pending cell) e = grind (arith, nat_tests)
IsPend-pend_of word (Stamped cell version) e = (grind (arith, nat_tests), grind (arith, nat_tests), grind (arith, nat_tests))
IsPend-pend_of word Frozen e = tt

-- a word that nothing in range packs to stands for nothing
pub pend_of-None : (word : ℕ) → ((entry : Pend) → IsPend entry → pend_word entry ≢ word) → pend_of word ≡ None
pend_of-None word h = none_unless (pend_of word) (λ entry e. h entry (IsPend-pend_of word entry e) (pend_word_of word entry e))

-- entries in range of one word are one entry
pub pend_word-same : (p q : Pend) → IsPend p → IsPend q → pend_word p ≡ pend_word q → p ≡ q
pend_word-same p q h o e = let a = pend_of-pend_word p h in let b = pend_of-pend_word q o in let f = ap pend_of e in cc

-- different entries in range have different words
pub pend_word-other : (p q : Pend) → IsPend p → IsPend q → p ≢ q → pend_word p ≢ pend_word q
pend_word-other p q h o d = λ e. d (pend_word-same p q h o e)

-- the word of an entry in range fits
pub pend_word-fits : (entry : Pend) → IsPend entry → pend_word entry < 2 ^ 64
pend_word-fits Idle h = omega arith
pend_word-fits (Pending cell) h = omega arith
pend_word-fits (Stamped cell version) h = omega (arith, h.0, h.1, h.2)
pend_word-fits Frozen h = omega arith
