-- States and their words: each state in range has one word, and is read back from it.
use Rattle.std.proofs.Common.{ℕ, ◌≡◌, ◌≢◌, ◌+◌, ◌*◌, ◌<◌, ◌≤◌, ◌^◌, Some, None, refl, ap, arith}
use Rattle.std.proofs.lemmas.Bool.Decides.{nat_tests}
use Rattle.kw_words.proofs.Refusals.{none_unless}
use Rattle.kw_words.specs.declared.state.State.{State}
use Rattle.kw_words.specs.declared.state.State.TheVariants.{Free, Infant, Normal, Leader, Follower, Retired}
use Rattle.kw_words.specs.declared.sizes.TheConstants.{MOST_SEATS, MOST_GROUP, MOST_ROWS, NUMBER_END}
use Rattle.kw_words.specs.State.{IsState, state_word, state_of}

-- the word 0 is a free row
pub state_of-Free : state_of 0 ≡ Some Free
unfolding state_of
state_of-Free = refl

-- the word 2 is a normal row
pub state_of-Normal : state_of 2 ≡ Some Normal
unfolding state_of
state_of-Normal = refl

-- the word for an infant is read back
pub state_of-Infant : (seat : ℕ) → seat < MOST_SEATS → state_of (1 + 8 * seat) ≡ Some (Infant seat)
unfolding state_of
state_of-Infant seat h = grind (arith, nat_tests)

-- the word for a leader is read back
pub state_of-Leader : (count : ℕ) → count ≤ MOST_GROUP → state_of (3 + 8 * count) ≡ Some (Leader count)
unfolding state_of
state_of-Leader count h = grind (arith, nat_tests)

-- the word for a follower is read back
pub state_of-Follower : (leader : ℕ) → leader < MOST_ROWS → state_of (4 + 8 * leader) ≡ Some (Follower leader)
unfolding state_of
state_of-Follower leader h = grind (arith, nat_tests)

-- the word for a retired row is read back
pub state_of-Retired : (number : ℕ) → 1 ≤ number → number < NUMBER_END → state_of (5 + 8 * number) ≡ Some (Retired number)
unfolding state_of
state_of-Retired number h o = grind (arith, nat_tests)

-- a state in range is read back from its word
pub state_of-state_word : (state : State) → IsState state → state_of (state_word state) ≡ Some state
state_of-state_word Free h = state_of-Free
state_of-state_word (Infant seat) h = state_of-Infant seat h
state_of-state_word Normal h = state_of-Normal
state_of-state_word (Leader count) h = state_of-Leader count h
state_of-state_word (Follower leader) h = state_of-Follower leader h
state_of-state_word (Retired number) h = state_of-Retired number h.0 h.1

-- what is read from a word has that word
pub state_word_of : (word : ℕ) (state : State) → state_of word ≡ Some state → state_word state ≡ word
unfolding state_of
state_word_of word Free e = grind (arith, nat_tests)
state_word_of word (Infant seat) e = grind (arith, nat_tests)
state_word_of word Normal e = grind (arith, nat_tests)
state_word_of word (Leader count) e = grind (arith, nat_tests)
state_word_of word (Follower leader) e = grind (arith, nat_tests)
state_word_of word (Retired number) e = grind (arith, nat_tests)

-- what is read from a word is in range
pub IsState-state_of : (word : ℕ) (state : State) → state_of word ≡ Some state → IsState state
unfolding state_of
IsState-state_of word Free e = tt
IsState-state_of word (Infant seat) e = grind (arith, nat_tests)
IsState-state_of word Normal e = tt
IsState-state_of word (Leader count) e = grind (arith, nat_tests)
IsState-state_of word (Follower leader) e = grind (arith, nat_tests)
IsState-state_of word (Retired number) e = (grind (arith, nat_tests), grind (arith, nat_tests))

-- a word that nothing in range packs to stands for nothing
pub state_of-None : (word : ℕ) → ((state : State) → IsState state → state_word state ≢ word) → state_of word ≡ None
state_of-None word h = none_unless (state_of word) (λ state e. h state (IsState-state_of word state e) (state_word_of word state e))

-- states in range of one word are one state
pub state_word-same : (p q : State) → IsState p → IsState q → state_word p ≡ state_word q → p ≡ q
state_word-same p q h o e = let a = state_of-state_word p h in let b = state_of-state_word q o in let f = ap state_of e in cc

-- different states in range have different words
pub state_word-other : (p q : State) → IsState p → IsState q → p ≢ q → state_word p ≢ state_word q
state_word-other p q h o d = λ e. d (state_word-same p q h o e)

-- the word of a state in range fits
pub state_word-fits : (state : State) → IsState state → state_word state < 2 ^ 64
state_word-fits Free h = omega arith
state_word-fits (Infant seat) h = omega arith
state_word-fits Normal h = omega arith
state_word-fits (Leader count) h = omega arith
state_word-fits (Follower leader) h = omega arith
state_word-fits (Retired number) h = omega (arith, h.0, h.1)
