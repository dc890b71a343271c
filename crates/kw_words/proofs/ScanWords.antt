-- Scans and their words: each scan in range has one word, and is read back from it.
use Rattle.std.proofs.Common.{ℕ, ◌≡◌, ◌≢◌, ◌+◌, ◌*◌, ◌<◌, ◌≤◌, ◌^◌, Some, None, refl, ap, arith}
use Rattle.std.proofs.lemmas.Bool.Decides.{nat_tests}
use Rattle.kw_words.proofs.Refusals.{none_unless}
use Rattle.kw_words.specs.declared.scan.ScanWord.{ScanWord}
use Rattle.kw_words.specs.declared.scan.ScanWord.TheVariants.{Quiet, Waiting, Drawn}
use Rattle.kw_words.specs.declared.sizes.TheConstants.{VERSION_END}
use Rattle.kw_words.specs.Scan.{IsScan, scan_word, scan_of}

-- the word 0 is no scan
pub scan_of-Quiet : scan_of 0 ≡ Some Quiet
unfolding scan_of
scan_of-Quiet = refl

-- the word for a waiting scan is read back
pub scan_of-Waiting : (clock : ℕ) → 1 ≤ clock → clock < VERSION_END → scan_of (1 + 4 * clock) ≡ Some (Waiting clock)
unfolding scan_of
scan_of-Waiting clock h o = grind (arith, nat_tests)

-- the word for a scan with a version is read back
pub scan_of-Drawn : (version : ℕ) → 1 ≤ version → version < VERSION_END → scan_of (2 + 4 * version) ≡ Some (Drawn version)
unfolding scan_of
scan_of-Drawn version h o = grind (arith, nat_tests)

-- a scan in range is read back from its word
pub scan_of-scan_word : (scan : ScanWord) → IsScan scan → scan_of (scan_word scan) ≡ Some scan
scan_of-scan_word Quiet h = scan_of-Quiet
scan_of-scan_word (Waiting clock) h = scan_of-Waiting clock h.0 h.1
scan_of-scan_word (Drawn version) h = scan_of-Drawn version h.0 h.1

-- what is read from a word has that word
pub scan_word_of : (word : ℕ) (scan : ScanWord) → scan_of word ≡ Some scan → scan_word scan ≡ word
unfolding scan_of
scan_word_of word Quiet e = grind (arith, nat_tests)
scan_word_of word (Waiting clock) e = grind (arith, nat_tests)
scan_word_of word (Drawn version) e = grind (arith, nat_tests)

-- what is read from a word is in range
pub IsScan-scan_of : (word : ℕ) (scan : ScanWord) → scan_of word ≡ Some scan → IsScan scan
unfolding scan_of
IsScan-scan_of word Quiet e = tt
IsScan-scan_of word (Waiting clock) e = (grind (arith, nat_tests), grind (arith, nat_tests))
IsScan-scan_of word (Drawn version) e = (grind (arith, nat_tests), grind (arith, nat_tests))

-- a word that nothing in range packs to stands for nothing
pub scan_of-None : (word : ℕ) → ((scan : ScanWord) → IsScan scan → scan_word scan ≢ word) → scan_of word ≡ None
scan_of-None word h = none_unless (scan_of word) (λ scan e. h scan (IsScan-scan_of word scan e) (scan_word_of word scan e))

-- scans in range of one word are one scan
pub scan_word-same : (p q : ScanWord) → IsScan p → IsScan q → scan_word p ≡ scan_word q → p ≡ q
scan_word-same p q h o e = let a = scan_of-scan_word p h in let b = scan_of-scan_word q o in let f = ap scan_of e in cc

-- different scans in range have different words
pub scan_word-other : (p q : ScanWord) → IsScan p → IsScan q → p ≢ q → scan_word p ≢ scan_word q
scan_word-other p q h o d = λ e. d (scan_word-same p q h o e)

-- the word of a scan in range fits
pub scan_word-fits : (scan : ScanWord) → IsScan scan → scan_word scan < 2 ^ 64
scan_word-fits Quiet h = omega arith
scan_word-fits (Waiting clock) h = omega (arith, h.0, h.1)
scan_word-fits (Drawn version) h = omega (arith, h.0, h.1)
