-- Where words lie: each lies in the memory, no two of them at one slot, and those of no row a line
-- apart from all others. And the memory as it holds the words: one that is written at its slot is
-- written at its place.
use Rattle.std.proofs.Common.{◌≢◌, ◌⊎◌, inl, inr, ◌<◌, ◌≤◌, ◌≡◌, ℕ, Bool, true, false, ◌+◌, ◌-◌, ◌*◌, ◌/◌, ◌%◌, nat_lt, if◌then◌else◌, List, replicate, set, slice_index, refl, ap, sym, ◌∙◌, subst, arith, get_or-set_same, get_or-set_other}
use Rattle.std.proofs.lemmas.Bool.{cases_eq, cases_lt}
use Rattle.std.proofs.lemmas.Bool.Decides.{nat_tests}
use Rattle.std.proofs.lemmas.List.{get_or-replicate, length-replicate, length-set}
use mathlib.Core.Logic.{⊎_elim}
use Rattle.kw_words.specs.declared.layout.Name.{Name}
use Rattle.kw_words.specs.declared.layout.Name.TheVariants.{Clock, Epoch, Head, Turn, Pass, Scan, Pin, State, Count, Least, Next, First, Pend, Key, Value, Version, After}
use Rattle.kw_words.specs.declared.sizes.TheConstants.{SEATS, CELLS}
use Rattle.kw_words.specs.Layout.{IsWithin, row_start, place_of, words_of}
use Rattle.kw_words.proofs.Places.{same_name, place_below, different_places}
use Rattle.kw_table.specs.declared.shared.Shared.{Shared}
use Rattle.kw_table.specs.declared.slot.TheConstants.{WORDS_A_LINE, LEFT_OUT}
use Rattle.kw_table.specs.Slots.{is_rowless, rowless, line_slot, head_slots, row_slots, row_slot, slot, slots, IsLaid}

-- the place of the row's word that lies so many slots behind the row's start
place_in : ℕ → ℕ → ℕ
place_in row x = if nat_lt x head_slots then row_start SEATS CELLS row + x + 1 else row_start SEATS CELLS row + 5 + SEATS + (x - head_slots)

-- the place of the word that lies at a slot
place_at : ℕ → ℕ → ℕ
place_at rows s =
    if nat_lt s (row_slot 0) then (s - LEFT_OUT) / WORDS_A_LINE
    else if nat_lt s (row_slot rows) then place_in ((s - row_slot 0) / row_slots) ((s - row_slot 0) % row_slots)
    else row_start SEATS CELLS (s - row_slot rows)

-- of a word of no row
at_line : (rows line : ℕ) → line < rowless → place_at rows (line_slot line) ≡ line
unfolding place_at
at_line rows line h = grind (arith, nat_tests)

-- of a state
at_state : (rows row : ℕ) → row < rows → place_at rows (row_slot rows + row) ≡ row_start SEATS CELLS row
unfolding place_at
at_state rows row h = grind (arith, nat_tests)

-- of a word in the head of a row
at_head : (rows row x s p : ℕ) → row < rows → x < head_slots → s ≡ row_slot row + x → p ≡ row_start SEATS CELLS row + x + 1 → place_at rows s ≡ p
unfolding place_at place_in
at_head rows row x s p h k e f = grind (arith, nat_tests)

-- of a word in the cells of a row
at_cells : (rows row x s p : ℕ) → row < rows → x < 4 * CELLS → s ≡ row_slot row + head_slots + x → p ≡ row_start SEATS CELLS row + 5 + SEATS + x → place_at rows s ≡ p
unfolding place_at place_in
at_cells rows row x s p h k e f = grind (arith, nat_tests)

-- so the slot of a word tells its place
told_place : (rows : ℕ) (word : Name) → IsWithin SEATS CELLS rows word → place_at rows (slot rows word) ≡ place_of SEATS CELLS word
told_place rows Clock within = at_line rows (place_of SEATS CELLS Clock) (omega arith)
told_place rows Epoch within = at_line rows (place_of SEATS CELLS Epoch) (omega arith)
told_place rows Head within = at_line rows (place_of SEATS CELLS Head) (omega arith)
told_place rows Turn within = at_line rows (place_of SEATS CELLS Turn) (omega arith)
told_place rows (Pass seat) within = at_line rows (place_of SEATS CELLS (Pass seat)) (omega arith)
told_place rows (Scan seat) within = at_line rows (place_of SEATS CELLS (Scan seat)) (omega arith)
told_place rows (Pin seat) within = at_line rows (place_of SEATS CELLS (Pin seat)) (omega arith)
told_place rows (State row) within = at_state rows row within
told_place rows (Count row) within = at_head rows row 0 _ _ within (omega arith) (omega arith) (omega arith)
told_place rows (Least row) within = at_head rows row 1 _ _ within (omega arith) (omega arith) (omega arith)
told_place rows (Next row) within = at_head rows row 2 _ _ within (omega arith) (omega arith) (omega arith)
told_place rows (First row) within = at_head rows row 3 _ _ within (omega arith) (omega arith) (omega arith)
told_place rows (Pend row seat) within = at_head rows row (4 + seat) _ _ within.0 (omega (arith, within.1)) (omega arith) (omega arith)
told_place rows (Key row cell) within = at_cells rows row (4 * cell) _ _ within.0 (omega (arith, within.1)) (omega arith) (omega arith)
told_place rows (Value row cell) within = at_cells rows row (4 * cell + 1) _ _ within.0 (omega (arith, within.1)) (omega arith) (omega arith)
told_place rows (Version row cell) within = at_cells rows row (4 * cell + 2) _ _ within.0 (omega (arith, within.1)) (omega arith) (omega arith)
told_place rows (After row cell) within = at_cells rows row (4 * cell + 3) _ _ within.0 (omega (arith, within.1)) (omega arith) (omega arith)

-- words at one slot are one word
pub same_word : (rows : ℕ) (word other : Name) → IsWithin SEATS CELLS rows word → IsWithin SEATS CELLS rows other → slot rows other ≡ slot rows word → other ≡ word
same_word rows word other here there same =
    same_name SEATS CELLS rows word other here there (sym (told_place rows other there) ∙ (ap (place_at rows) same ∙ told_place rows word here))

-- a word of the table lies in its memory
pub slot_below : (rows : ℕ) (word : Name) → 1 ≤ rows → IsWithin SEATS CELLS rows word → slot rows word < slots rows
slot_below rows Clock some within = omega arith
slot_below rows Epoch some within = omega arith
slot_below rows Head some within = omega arith
slot_below rows Turn some within = omega arith
slot_below rows (Pass seat) some within = omega (arith, within)
slot_below rows (Scan seat) some within = omega (arith, within)
slot_below rows (Pin seat) some within = omega (arith, within)
slot_below rows (State row) some within = omega (arith, within)
slot_below rows (Count row) some within = omega (arith, within)
slot_below rows (Least row) some within = omega (arith, within)
slot_below rows (Next row) some within = omega (arith, within)
slot_below rows (First row) some within = omega (arith, within)
slot_below rows (Pend row seat) some within = omega (arith, within.0, within.1)
slot_below rows (Key row cell) some within = omega (arith, within.0, within.1)
slot_below rows (Value row cell) some within = omega (arith, within.0, within.1)
slot_below rows (Version row cell) some within = omega (arith, within.0, within.1)
slot_below rows (After row cell) some within = omega (arith, within.0, within.1)

-- a word of no row lies at the start of a line, before the rows
at_line_start : (rows : ℕ) (word : Name) → IsWithin SEATS CELLS rows word → is_rowless word ≡ true → (slot rows word ≡ line_slot (place_of SEATS CELLS word)) × (place_of SEATS CELLS word < rowless)
at_line_start rows Clock within is = (refl, omega arith)
at_line_start rows Epoch within is = (refl, omega arith)
at_line_start rows Head within is = (refl, omega arith)
at_line_start rows Turn within is = (refl, omega arith)
at_line_start rows (Pass seat) within is = (refl, omega arith)
at_line_start rows (Scan seat) within is = (refl, omega arith)
at_line_start rows (Pin seat) within is = (refl, omega arith)
at_line_start rows (State row) within is = absurd cc
at_line_start rows (Count row) within is = absurd cc
at_line_start rows (Least row) within is = absurd cc
at_line_start rows (Next row) within is = absurd cc
at_line_start rows (First row) within is = absurd cc
at_line_start rows (Pend row seat) within is = absurd cc
at_line_start rows (Key row cell) within is = absurd cc
at_line_start rows (Value row cell) within is = absurd cc
at_line_start rows (Version row cell) within is = absurd cc
at_line_start rows (After row cell) within is = absurd cc

-- a word of a row lies behind those of no row
behind_lines : (rows : ℕ) (word : Name) → is_rowless word ≡ false → row_slot 0 ≤ slot rows word
behind_lines rows Clock is = absurd cc
behind_lines rows Epoch is = absurd cc
behind_lines rows Head is = absurd cc
behind_lines rows Turn is = absurd cc
behind_lines rows (Pass seat) is = absurd cc
behind_lines rows (Scan seat) is = absurd cc
behind_lines rows (Pin seat) is = absurd cc
behind_lines rows (State row) is = omega arith
behind_lines rows (Count row) is = omega arith
behind_lines rows (Least row) is = omega arith
behind_lines rows (Next row) is = omega arith
behind_lines rows (First row) is = omega arith
behind_lines rows (Pend row seat) is = omega arith
behind_lines rows (Key row cell) is = omega arith
behind_lines rows (Value row cell) is = omega arith
behind_lines rows (Version row cell) is = omega arith
behind_lines rows (After row cell) is = omega arith

-- a word of no row lies a line or more from every other word
pub lies_alone : (rows : ℕ) (word other : Name) → IsWithin SEATS CELLS rows word → IsWithin SEATS CELLS rows other → is_rowless word ≡ true → other ≢ word
    → (slot rows word + WORDS_A_LINE ≤ slot rows other) ⊎ (slot rows other + WORDS_A_LINE ≤ slot rows word)
lies_alone rows word other here there is differ = which (is_rowless other) refl
  where
    at : (slot rows word ≡ line_slot (place_of SEATS CELLS word)) × (place_of SEATS CELLS word < rowless)
    at = at_line_start rows word here is

    which : (b : Bool) → is_rowless other ≡ b → (slot rows word + WORDS_A_LINE ≤ slot rows other) ⊎ (slot rows other + WORDS_A_LINE ≤ slot rows word)
    which true too =
        let p : ℕ = place_of SEATS CELLS word in
        let q : ℕ = place_of SEATS CELLS other in
        let beside = at_line_start rows other there too in
        let apart : q ≢ p = different_places SEATS CELLS rows other word there here differ in
        ⊎_elim
        (λ (o : p < q). inl (omega (arith, o, at.0, beside.0)))
        (λ (o : q ≤ p). inr (omega (arith, o, apart, at.0, beside.0)))
        (cases_lt p q)
    which false row = inl (omega (arith, at.0, at.1, behind_lines rows other row))

-- words that are all 0 lie in a memory that is all 0
pub zeros_laid : (rows : ℕ) → 1 ≤ rows → IsLaid rows (replicate (words_of SEATS CELLS rows) 0) (replicate (slots rows) 0)
zeros_laid rows some = record {
  words_len = length-replicate {A = ℕ} (words_of SEATS CELLS rows) 0;
  memory_len = length-replicate {A = ℕ} (slots rows) 0;
  each = λ name within. get_or-replicate (slots rows) (slot rows name) 0 0 (slot_below rows name some within) ∙ sym (get_or-replicate (words_of SEATS CELLS rows) (place_of SEATS CELLS name) 0 0 (place_below SEATS CELLS rows name some within));
}

-- a word that is written at its slot is written at its place
pub laid_written : (rows x : ℕ) (name : Name) (words memory : List ℕ) → 1 ≤ rows → IsWithin SEATS CELLS rows name → IsLaid rows words memory
    → IsLaid rows (set words (place_of SEATS CELLS name) x) (set memory (slot rows name) x)
laid_written rows x name words memory some within laid = record {
  words_len = length-set words p x ∙ laid.words_len;
  memory_len = length-set memory s x ∙ laid.memory_len;
  each = each;
}
  where
    p : ℕ
    p = place_of SEATS CELLS name

    s : ℕ
    s = slot rows name

    each : (other : Name) → IsWithin SEATS CELLS rows other → slice_index (set memory s x) (slot rows other) ≡ slice_index (set words p x) (place_of SEATS CELLS other)
    each other there = ⊎_elim
        (λ (same : slot rows other ≡ s). subst (λ (n : Name). slice_index (set memory s x) (slot rows n) ≡ slice_index (set words p x) (place_of SEATS CELLS n)) (sym (same_word rows name other within there same)) own)
        (λ (apart : slot rows other ≢ s). get_or-set_other memory s (slot rows other) x 0 apart ∙ (laid.each other there ∙ sym (get_or-set_other words p (place_of SEATS CELLS other) x 0 (λ at. apart (ap (slot rows) (same_name SEATS CELLS rows name other within there at))))))
        (cases_eq (slot rows other) s)
      where
        own : slice_index (set memory s x) s ≡ slice_index (set words p x) p
        own = get_or-set_same memory s x 0 (subst (λ n. s < n) (sym laid.memory_len) (slot_below rows name some within)) ∙ sym (get_or-set_same words p x 0 (subst (λ n. p < n) (sym laid.words_len) (place_below SEATS CELLS rows name some within)))

-- the same, where the slot and the number were found already
pub laid_found : (rows x at found : ℕ) (name : Name) (words memory : List ℕ) → 1 ≤ rows → IsWithin SEATS CELLS rows name → at ≡ slot rows name → found ≡ x → IsLaid rows words memory
    → IsLaid rows (set words (place_of SEATS CELLS name) x) (set memory at found)
laid_found rows x at found name words memory some within here is laid =
    subst (λ i. IsLaid rows (set words (place_of SEATS CELLS name) x) (set memory i found)) (sym here)
    (subst (λ n. IsLaid rows (set words (place_of SEATS CELLS name) x) (set memory (slot rows name) n)) (sym is) (laid_written rows x name words memory some within laid))

-- a table has some memory
pub some_slots : (s : Shared) → 0 < s.table.shared.table_id.words
some_slots s = let is = s.words_are in omega arith
