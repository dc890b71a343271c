-- The words that a run begins with, by name.
use Rattle.std.proofs.Common.{ℕ, zero, suc, ◌≡◌, ◌≢◌, ◌<◌, length, List, slice_index, slice_set, replicate, arith, ◌∙◌, get_or-set_same, get_or-set_other}
use Rattle.std.proofs.lemmas.List.{get_or-replicate, length-replicate, length-set}
use Rattle.kw_words.specs.declared.layout.Name.{Name}
use Rattle.kw_words.specs.declared.layout.Name.TheVariants.{Clock, Epoch, Head, Turn, Pass, Scan, Pin, State, Count, Least, Next, First, Pend, Key, Value, Version, After}
use Rattle.kw_words.specs.declared.state.State.TheVariants.{Normal}
use Rattle.kw_words.specs.Layout.{IsSized, IsWithin, place_of, words_of}
use Rattle.kw_words.specs.Link.{link_word}
use Rattle.kw_words.specs.State.{state_word}
use Rattle.kw_words.proofs.Places.{same_name, place_below}
use Rattle.kw_world.specs.declared.opening.Opening.{Opening}
use Rattle.kw_world.specs.Sizes.{Sizes}
use Rattle.kw_world.specs.Opening.{opened, opening_word, link_to}
use Rattle.kw_world.specs.Step.{word}

-- a word that was set under another name
past : (z : Sizes) (rows : ℕ) (xs : List ℕ) (m n : Name) (v : ℕ) → IsWithin z.seats z.cells rows m → IsWithin z.seats z.cells rows n → n ≢ m → slice_index (slice_set xs (place_of z.seats z.cells m) v) (place_of z.seats z.cells n) ≡ slice_index xs (place_of z.seats z.cells n)
past z rows xs m n v i o d = get_or-set_other xs (place_of z.seats z.cells m) (place_of z.seats z.cells n) v 0 (λ e. d (same_name z.seats z.cells rows m n i o e))

-- a word that was set under this name
here : (z : Sizes) (xs : List ℕ) (m : Name) (v : ℕ) → place_of z.seats z.cells m < length xs → slice_index (slice_set xs (place_of z.seats z.cells m) v) (place_of z.seats z.cells m) ≡ v
here z xs m v h = get_or-set_same xs (place_of z.seats z.cells m) v 0 h

-- the words with none, one, two and three of those set that are not 0
zeros : Sizes → Opening → List ℕ
zeros z o = replicate (words_of z.seats z.cells o.rows) 0

with_clock : Sizes → Opening → List ℕ
with_clock z o = slice_set (zeros z o) (place_of z.seats z.cells Clock) o.clock

with_epoch : Sizes → Opening → List ℕ
with_epoch z o = slice_set (with_clock z o) (place_of z.seats z.cells Epoch) o.epoch

with_head : Sizes → Opening → List ℕ
with_head z o = slice_set (with_epoch z o) (place_of z.seats z.cells Head) (link_word (link_to 0))

-- all of them are as many
length-zeros : (z : Sizes) (o : Opening) → length (zeros z o) ≡ words_of z.seats z.cells o.rows
unfolding zeros
length-zeros z o = length-replicate {A = ℕ} (words_of z.seats z.cells o.rows) 0

length-with_clock : (z : Sizes) (o : Opening) → length (with_clock z o) ≡ words_of z.seats z.cells o.rows
unfolding with_clock
length-with_clock z o = length-set (zeros z o) (place_of z.seats z.cells Clock) o.clock ∙ length-zeros z o

length-with_epoch : (z : Sizes) (o : Opening) → length (with_epoch z o) ≡ words_of z.seats z.cells o.rows
unfolding with_epoch
length-with_epoch z o = length-set (with_clock z o) (place_of z.seats z.cells Epoch) o.epoch ∙ length-with_clock z o

length-with_head : (z : Sizes) (o : Opening) → length (with_head z o) ≡ words_of z.seats z.cells o.rows
unfolding with_head
length-with_head z o = length-set (with_epoch z o) (place_of z.seats z.cells Head) (link_word (link_to 0)) ∙ length-with_epoch z o

-- the table has as many words as it has at the opening
pub length-opened : (z : Sizes) (o : Opening) → length (opened z o).words ≡ words_of z.seats z.cells o.rows
unfolding with_head with_epoch with_clock zeros
length-opened z o = length-set (with_head z o) (place_of z.seats z.cells (State 0)) (state_word Normal) ∙ length-with_head z o

-- a word under a name of its own is 0
others : (z : Sizes) (o : Opening) (n : Name) → IsSized z.seats z.cells o.rows → IsWithin z.seats z.cells o.rows n → n ≢ Clock → n ≢ Epoch → n ≢ Head → n ≢ State 0 → word z (opened z o) n ≡ 0
unfolding word with_head with_epoch with_clock zeros
others z o n sized i c e h s =
    past z o.rows (with_head z o) (State 0) n (state_word Normal) sized.some_rows i s
    ∙ past z o.rows (with_epoch z o) Head n (link_word (link_to 0)) tt i h
    ∙ past z o.rows (with_clock z o) Epoch n o.epoch tt i e
    ∙ past z o.rows (zeros z o) Clock n o.clock tt i c
    ∙ get_or-replicate (words_of z.seats z.cells o.rows) (place_of z.seats z.cells n) 0 0 (place_below z.seats z.cells o.rows n sized.some_rows i)

-- the words by place are the words by name
pub opened-word : (z : Sizes) (o : Opening) (n : Name) → IsSized z.seats z.cells o.rows → IsWithin z.seats z.cells o.rows n → word z (opened z o) n ≡ opening_word o n
unfolding word with_head with_epoch with_clock zeros
opened-word z o Clock sized i =
    past z o.rows (with_head z o) (State 0) Clock (state_word Normal) sized.some_rows tt (λ d. cc)
    ∙ past z o.rows (with_epoch z o) Head Clock (link_word (link_to 0)) tt tt (λ d. cc)
    ∙ past z o.rows (with_clock z o) Epoch Clock o.epoch tt tt (λ d. cc)
    ∙ here z (zeros z o) Clock o.clock (omega (arith, length-zeros z o, place_below z.seats z.cells o.rows Clock sized.some_rows tt))
opened-word z o Epoch sized i =
    past z o.rows (with_head z o) (State 0) Epoch (state_word Normal) sized.some_rows tt (λ d. cc)
    ∙ past z o.rows (with_epoch z o) Head Epoch (link_word (link_to 0)) tt tt (λ d. cc)
    ∙ here z (with_clock z o) Epoch o.epoch (omega (arith, length-with_clock z o, place_below z.seats z.cells o.rows Epoch sized.some_rows tt))
opened-word z o Head sized i =
    past z o.rows (with_head z o) (State 0) Head (state_word Normal) sized.some_rows tt (λ d. cc)
    ∙ here z (with_epoch z o) Head (link_word (link_to 0)) (omega (arith, length-with_epoch z o, place_below z.seats z.cells o.rows Head sized.some_rows tt))
opened-word z o (State zero) sized i = here z (with_head z o) (State 0) (state_word Normal) (omega (arith, length-with_head z o, place_below z.seats z.cells o.rows (State 0) sized.some_rows sized.some_rows))
opened-word z o (State (suc r)) sized i = others z o (State (suc r)) sized i (λ d. cc) (λ d. cc) (λ d. cc) (λ d. cc)
opened-word z o Turn sized i = others z o Turn sized i (λ d. cc) (λ d. cc) (λ d. cc) (λ d. cc)
opened-word z o (Pass s) sized i = others z o (Pass s) sized i (λ d. cc) (λ d. cc) (λ d. cc) (λ d. cc)
opened-word z o (Scan s) sized i = others z o (Scan s) sized i (λ d. cc) (λ d. cc) (λ d. cc) (λ d. cc)
opened-word z o (Pin s) sized i = others z o (Pin s) sized i (λ d. cc) (λ d. cc) (λ d. cc) (λ d. cc)
opened-word z o (Count r) sized i = others z o (Count r) sized i (λ d. cc) (λ d. cc) (λ d. cc) (λ d. cc)
opened-word z o (Least r) sized i = others z o (Least r) sized i (λ d. cc) (λ d. cc) (λ d. cc) (λ d. cc)
opened-word z o (Next r) sized i = others z o (Next r) sized i (λ d. cc) (λ d. cc) (λ d. cc) (λ d. cc)
opened-word z o (First r) sized i = others z o (First r) sized i (λ d. cc) (λ d. cc) (λ d. cc) (λ d. cc)
opened-word z o (Pend r s) sized i = others z o (Pend r s) sized i (λ d. cc) (λ d. cc) (λ d. cc) (λ d. cc)
opened-word z o (Key r j) sized i = others z o (Key r j) sized i (λ d. cc) (λ d. cc) (λ d. cc) (λ d. cc)
opened-word z o (Value r j) sized i = others z o (Value r j) sized i (λ d. cc) (λ d. cc) (λ d. cc) (λ d. cc)
opened-word z o (Version r j) sized i = others z o (Version r j) sized i (λ d. cc) (λ d. cc) (λ d. cc) (λ d. cc)
opened-word z o (After r j) sized i = others z o (After r j) sized i (λ d. cc) (λ d. cc) (λ d. cc) (λ d. cc)
