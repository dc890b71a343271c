-- Links and their words: each link in range has one word and is read back from it, and what marking
-- does to it.
use Rattle.std.proofs.Common.{ℕ, ◌≡◌, ◌≢◌, ◌+◌, ◌<◌, ◌^◌, bit_or, Bool, true, false, Some, None, Option, refl, ap, ◌∙◌, sym, arith}
use Rattle.std.proofs.lemmas.Bool.Decides.{nat_tests}
use Rattle.kw_words.proofs.Refusals.{none_unless}
use Rattle.kw_words.specs.declared.link.Link.{Link}
use Rattle.kw_words.specs.declared.sizes.TheConstants.{MARK_BIT}
use Rattle.kw_words.specs.Link.{IsRow, IsLink, link_word, link_of}
use Rattle.kw_words.proofs.Bits.{or-below, or-above}

-- a link with its parts apart
abbrev link_to : Option ℕ → Bool → Link
link_to row marked = record { row = row; marked = marked }

-- a link in range is read back from its word, by its parts
link_of-parts : (row : Option ℕ) (marked : Bool) → IsRow row → link_of (link_word (link_to row marked)) ≡ Some (link_to row marked)
unfolding link_of
link_of-parts (Some row) true h = grind (arith, nat_tests)
link_of-parts (Some row) false h = grind (arith, nat_tests)
link_of-parts None true h = refl
link_of-parts None false h = refl

-- a link in range is read back from its word
pub link_of-link_word : (link : Link) → IsLink link → link_of (link_word link) ≡ Some link
link_of-link_word link h = link_of-parts link.row link.marked h

-- what is read from a word has that word, by the parts
link_word_of-parts : (word : ℕ) (row : Option ℕ) (marked : Bool) → link_of word ≡ Some (link_to row marked) → link_word (link_to row marked) ≡ word
unfolding link_of
link_word_of-parts word (Some row) true e = grind (arith, nat_tests)
link_word_of-parts word (Some row) false e = grind (arith, nat_tests)
link_word_of-parts word None true e = grind (arith, nat_tests)
link_word_of-parts word None false e = grind (arith, nat_tests)

-- what is read from a word has that word
pub link_word_of : (word : ℕ) (link : Link) → link_of word ≡ Some link → link_word link ≡ word
link_word_of word link e = link_word_of-parts word link.row link.marked e

-- what is read from a word is in range, by the parts
IsLink-parts : (word : ℕ) (row : Option ℕ) (marked : Bool) → link_of word ≡ Some (link_to row marked) → IsRow row
unfolding link_of
IsLink-parts word (Some row) marked e = grind (arith, nat_tests)
IsLink-parts word None marked e = tt

-- what is read from a word is in range
pub IsLink-link_of : (word : ℕ) (link : Link) → link_of word ≡ Some link → IsLink link
IsLink-link_of word link e = IsLink-parts word link.row link.marked e

-- a word that nothing in range packs to stands for nothing
pub link_of-None : (word : ℕ) → ((link : Link) → IsLink link → link_word link ≢ word) → link_of word ≡ None
link_of-None word h = none_unless (link_of word) (λ link e. h link (IsLink-link_of word link e) (link_word_of word link e))

-- links in range of one word are one link
pub link_word-same : (p q : Link) → IsLink p → IsLink q → link_word p ≡ link_word q → p ≡ q
link_word-same p q h o e = let a = link_of-link_word p h in let b = link_of-link_word q o in let f = ap link_of e in cc

-- different links in range have different words
pub link_word-other : (p q : Link) → IsLink p → IsLink q → p ≢ q → link_word p ≢ link_word q
link_word-other p q h o d = λ e. d (link_word-same p q h o e)

-- the word of a link in range fits, by its parts
link_word-parts_fit : (row : Option ℕ) (marked : Bool) → IsRow row → link_word (link_to row marked) < 2 ^ 64
link_word-parts_fit (Some row) true h = omega arith
link_word-parts_fit (Some row) false h = omega arith
link_word-parts_fit None true h = omega arith
link_word-parts_fit None false h = omega arith

-- the word of a link in range fits
pub link_word-fits : (link : Link) → IsLink link → link_word link < 2 ^ 64
link_word-fits link h = link_word-parts_fit link.row link.marked h

-- setting the mark in the word of a link in range gives the word of the marked link, by the parts
marked-parts : (row : Option ℕ) (marked : Bool) → IsRow row → bit_or (link_word (link_to row marked)) MARK_BIT ≡ link_word (link_to row true)
marked-parts (Some row) true h = or-above (row + 1 + MARK_BIT) (omega arith) (omega arith)
marked-parts (Some row) false h = or-below (row + 1) (omega arith)
marked-parts None true h = or-above MARK_BIT (omega arith) (omega arith)
marked-parts None false h = or-below 0 (omega arith)

-- setting the mark in the word of a link in range gives the word of the marked link
pub link_word-marked : (link : Link) → IsLink link → bit_or (link_word link) MARK_BIT ≡ link_word (record link { marked = true })
link_word-marked link h = marked-parts link.row link.marked h

-- setting the mark in a word marks its link, and leaves where it leads
pub link_of_marked : (word : ℕ) (link : Link) → link_of word ≡ Some link → link_of (bit_or word MARK_BIT) ≡ Some (record link { marked = true })
link_of_marked word link e =
    let h : IsLink link = IsLink-link_of word link e in
    ap (λ w. link_of (bit_or w MARK_BIT)) (sym (link_word_of word link e)) ∙ ap link_of (link_word-marked link h) ∙ link_of-link_word (record link { marked = true }) h
