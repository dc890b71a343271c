-- Two names of one place are one name, and every place lies within the table.
use Rattle.std.proofs.Common.{ℕ, ◌≡◌, ◌≢◌, ◌+◌, ◌-◌, ◌*◌, ◌/◌, ◌%◌, ◌<◌, ◌≤◌, ◌==◌, nat_lt, if◌then◌else◌, refl, sym, ◌∙◌, ap, subst, arith}
use Rattle.std.proofs.lemmas.Bool.Decides.{nat_tests}
use Rattle.kw_words.specs.declared.layout.Name.{Name}
use Rattle.kw_words.specs.declared.layout.Name.TheVariants.{Clock, Epoch, Head, Turn, Pass, Scan, Pin, State, Count, Least, Next, First, Pend, Key, Value, Version, After}
use Rattle.kw_words.specs.Layout.{IsWithin, place_of, row_start, row_len}

-- a multiple of a smaller number, and one more, is no greater
pub times_apart : (n r q : ℕ) → r < q → r * n + n ≤ q * n
times_apart n r q h = grind arith

-- a row ends before every later one begins
pub rows_apart : (seats cells r q : ℕ) → r < q → row_start seats cells r + row_len seats cells ≤ row_start seats cells q
rows_apart seats cells r q h = omega (arith, times_apart seats r q h, times_apart cells r q h)

-- rows with a common place are one row
pub same_row : (seats cells r q x y : ℕ) → x < row_len seats cells → y < row_len seats cells → row_start seats cells r + x ≡ row_start seats cells q + y → r ≡ q
same_row seats cells r q x y p o e = grind (arith, rows_apart seats cells r q, rows_apart seats cells q r)

-- the name at a place of a row
row_name : ℕ → ℕ → ℕ → Name
row_name seats r x =
    if x == 0 then State r
    else if x == 1 then Count r
    else if x == 2 then Least r
    else if x == 3 then Next r
    else if x == 4 then First r
    else if nat_lt x (5 + seats) then Pend r (x - 5)
    else let y = x - (5 + seats) in
    if y % 4 == 0 then Key r (y / 4)
    else if y % 4 == 1 then Value r (y / 4)
    else if y % 4 == 2 then Version r (y / 4)
    else After r (y / 4)

-- an entry's name is found at its place of the row
row_name-Pend : (seats r i : ℕ) → i < seats → row_name seats r (5 + i) ≡ Pend r i
unfolding row_name
row_name-Pend seats r i h = grind (arith, nat_tests)

-- a key's name is found at its place of the row
row_name-Key : (seats r j : ℕ) → row_name seats r (5 + seats + 4 * j) ≡ Key r j
unfolding row_name
row_name-Key seats r j = grind (arith, nat_tests)

-- a value's name is found at its place of the row
row_name-Value : (seats r j : ℕ) → row_name seats r (5 + seats + 4 * j + 1) ≡ Value r j
unfolding row_name
row_name-Value seats r j = grind (arith, nat_tests)

-- a version's name is found at its place of the row
row_name-Version : (seats r j : ℕ) → row_name seats r (5 + seats + 4 * j + 2) ≡ Version r j
unfolding row_name
row_name-Version seats r j = grind (arith, nat_tests)

-- a cell link's name is found at its place of the row
row_name-After : (seats r j : ℕ) → row_name seats r (5 + seats + 4 * j + 3) ≡ After r j
unfolding row_name
row_name-After seats r j = grind (arith, nat_tests)

-- rows with a common place are one row, at one place of it
same_inside : (seats cells r q x y : ℕ) → x < row_len seats cells → y < row_len seats cells → row_start seats cells r + x ≡ row_start seats cells q + y → (r ≡ q) × (x ≡ y)
same_inside seats cells r q x y p o e =
    let s : r ≡ q = same_row seats cells r q x y p o e in
    (s, omega (arith, ap (row_start seats cells) s))

-- `named` at one name
at_name : (seats cells r q x y : ℕ) (b : Name) → y < row_len seats cells → x < row_len seats cells → row_start seats cells q + y ≡ row_start seats cells r + x → b ≡ row_name seats q y → b ≡ row_name seats r x
at_name seats cells r q x y b o p e n =
    let s = same_inside seats cells q r y x o p e in
    subst (λ z. b ≡ row_name seats z x) s.0 (subst (λ z. b ≡ row_name seats q z) s.1 n)

-- the name that lies at place x of row r
named : (seats cells rows r x : ℕ) (b : Name) → x < row_len seats cells → IsWithin seats cells rows b → place_of seats cells b ≡ row_start seats cells r + x → b ≡ row_name seats r x
unfolding row_name
named seats cells rows r x Clock p w e = absurd (omega arith)
named seats cells rows r x Epoch p w e = absurd (omega arith)
named seats cells rows r x Head p w e = absurd (omega arith)
named seats cells rows r x Turn p w e = absurd (omega arith)
named seats cells rows r x (Pass i) p w e = absurd (omega arith)
named seats cells rows r x (Scan i) p w e = absurd (omega arith)
named seats cells rows r x (Pin i) p w e = absurd (omega arith)
named seats cells rows r x (State q) p w e = at_name seats cells r q x 0 (State q) (omega arith) p (omega arith) refl
named seats cells rows r x (Count q) p w e = at_name seats cells r q x 1 (Count q) (omega arith) p (omega arith) refl
named seats cells rows r x (Least q) p w e = at_name seats cells r q x 2 (Least q) (omega arith) p (omega arith) refl
named seats cells rows r x (Next q) p w e = at_name seats cells r q x 3 (Next q) (omega arith) p (omega arith) refl
named seats cells rows r x (First q) p w e = at_name seats cells r q x 4 (First q) (omega arith) p (omega arith) refl
named seats cells rows r x (Pend q i) p w e = at_name seats cells r q x (5 + i) (Pend q i) (omega arith) p (omega arith) (sym (row_name-Pend seats q i w.1))
named seats cells rows r x (Key q j) p w e = at_name seats cells r q x (5 + seats + 4 * j) (Key q j) (omega arith) p (omega arith) (sym (row_name-Key seats q j))
named seats cells rows r x (Value q j) p w e = at_name seats cells r q x (5 + seats + 4 * j + 1) (Value q j) (omega arith) p (omega arith) (sym (row_name-Value seats q j))
named seats cells rows r x (Version q j) p w e = at_name seats cells r q x (5 + seats + 4 * j + 2) (Version q j) (omega arith) p (omega arith) (sym (row_name-Version seats q j))
named seats cells rows r x (After q j) p w e = at_name seats cells r q x (5 + seats + 4 * j + 3) (After q j) (omega arith) p (omega arith) (sym (row_name-After seats q j))

-- two names at one place of a row are one name
both_named : (seats cells rows r x : ℕ) (a b : Name) → x < row_len seats cells → IsWithin seats cells rows a → IsWithin seats cells rows b → place_of seats cells a ≡ row_start seats cells r + x → place_of seats cells b ≡ place_of seats cells a → b ≡ a
both_named seats cells rows r x a b p v w e f = named seats cells rows r x b p w (f ∙ e) ∙ sym (named seats cells rows r x a p v e)

-- the name at a place before the rows
first_name : ℕ → ℕ → Name
first_name seats p =
    if p == 0 then Clock
    else if p == 1 then Epoch
    else if p == 2 then Head
    else if p == 3 then Turn
    else if nat_lt p (4 + seats) then Pass (p - 4)
    else if nat_lt p (4 + 2 * seats) then Scan (p - (4 + seats))
    else Pin (p - (4 + 2 * seats))

-- an announced epoch's name is found at its place
first_name-Pass : (seats i : ℕ) → i < seats → first_name seats (4 + i) ≡ Pass i
unfolding first_name
first_name-Pass seats i h = grind (arith, nat_tests)

-- a scan's name is found at its place
first_name-Scan : (seats i : ℕ) → i < seats → first_name seats (4 + seats + i) ≡ Scan i
unfolding first_name
first_name-Scan seats i h = grind (arith, nat_tests)

-- a pin's name is found at its place
first_name-Pin : (seats i : ℕ) → i < seats → first_name seats (4 + 2 * seats + i) ≡ Pin i
unfolding first_name
first_name-Pin seats i h = grind (arith, nat_tests)

-- a name that lies before the rows is the name at its place
first_named : (seats cells rows : ℕ) (b : Name) → place_of seats cells b < 4 + 3 * seats → IsWithin seats cells rows b → b ≡ first_name seats (place_of seats cells b)
unfolding first_name
first_named seats cells rows Clock p w = refl
first_named seats cells rows Epoch p w = refl
first_named seats cells rows Head p w = refl
first_named seats cells rows Turn p w = refl
first_named seats cells rows (Pass i) p w = sym (first_name-Pass seats i w)
first_named seats cells rows (Scan i) p w = sym (first_name-Scan seats i w)
first_named seats cells rows (Pin i) p w = sym (first_name-Pin seats i w)
first_named seats cells rows (State q) p w = absurd (omega arith)
first_named seats cells rows (Count q) p w = absurd (omega arith)
first_named seats cells rows (Least q) p w = absurd (omega arith)
first_named seats cells rows (Next q) p w = absurd (omega arith)
first_named seats cells rows (First q) p w = absurd (omega arith)
first_named seats cells rows (Pend q j) p w = absurd (omega arith)
first_named seats cells rows (Key q j) p w = absurd (omega arith)
first_named seats cells rows (Value q j) p w = absurd (omega arith)
first_named seats cells rows (Version q j) p w = absurd (omega arith)
first_named seats cells rows (After q j) p w = absurd (omega arith)

-- two names at one place before the rows are one name
head_name : (seats cells rows : ℕ) (a b : Name) → place_of seats cells a < 4 + 3 * seats → IsWithin seats cells rows a → IsWithin seats cells rows b → place_of seats cells b ≡ place_of seats cells a → b ≡ a
head_name seats cells rows a b p v w e =
    first_named seats cells rows b (rw e p) w ∙ ap (first_name seats) e ∙ sym (first_named seats cells rows a p v)

-- two names of one place are one name
pub same_name : (seats cells rows : ℕ) (a b : Name) → IsWithin seats cells rows a → IsWithin seats cells rows b → place_of seats cells b ≡ place_of seats cells a → b ≡ a
same_name seats cells rows Clock b v w e = head_name seats cells rows Clock b (omega arith) v w e
same_name seats cells rows Epoch b v w e = head_name seats cells rows Epoch b (omega arith) v w e
same_name seats cells rows Head b v w e = head_name seats cells rows Head b (omega arith) v w e
same_name seats cells rows Turn b v w e = head_name seats cells rows Turn b (omega arith) v w e
same_name seats cells rows (Pass i) b v w e = head_name seats cells rows (Pass i) b (omega arith) v w e
same_name seats cells rows (Scan i) b v w e = head_name seats cells rows (Scan i) b (omega arith) v w e
same_name seats cells rows (Pin i) b v w e = head_name seats cells rows (Pin i) b (omega arith) v w e
same_name seats cells rows (State q) b v w e = both_named seats cells rows q 0 (State q) b (omega arith) v w (omega arith) e
same_name seats cells rows (Count q) b v w e = both_named seats cells rows q 1 (Count q) b (omega arith) v w (omega arith) e
same_name seats cells rows (Least q) b v w e = both_named seats cells rows q 2 (Least q) b (omega arith) v w (omega arith) e
same_name seats cells rows (Next q) b v w e = both_named seats cells rows q 3 (Next q) b (omega arith) v w (omega arith) e
same_name seats cells rows (First q) b v w e = both_named seats cells rows q 4 (First q) b (omega arith) v w (omega arith) e
same_name seats cells rows (Pend q i) b v w e = both_named seats cells rows q (5 + i) (Pend q i) b (omega arith) v w (omega arith) e
same_name seats cells rows (Key q j) b v w e = both_named seats cells rows q (5 + seats + 4 * j) (Key q j) b (omega arith) v w (omega arith) e
same_name seats cells rows (Value q j) b v w e = both_named seats cells rows q (5 + seats + 4 * j + 1) (Value q j) b (omega arith) v w (omega arith) e
same_name seats cells rows (Version q j) b v w e = both_named seats cells rows q (5 + seats + 4 * j + 2) (Version q j) b (omega arith) v w (omega arith) e
same_name seats cells rows (After q j) b v w e = both_named seats cells rows q (5 + seats + 4 * j + 3) (After q j) b (omega arith) v w (omega arith) e

-- a place lies within the table
pub place_below : (seats cells rows : ℕ) (n : Name) → 1 ≤ rows → IsWithin seats cells rows n → place_of seats cells n < row_start seats cells rows
place_below seats cells rows Clock o w = omega arith
place_below seats cells rows Epoch o w = omega arith
place_below seats cells rows Head o w = omega arith
place_below seats cells rows Turn o w = omega arith
place_below seats cells rows (Pass i) o w = omega arith
place_below seats cells rows (Scan i) o w = omega arith
place_below seats cells rows (Pin i) o w = omega arith
place_below seats cells rows (State q) o w = omega (arith, rows_apart seats cells q rows w)
place_below seats cells rows (Count q) o w = omega (arith, rows_apart seats cells q rows w)
place_below seats cells rows (Least q) o w = omega (arith, rows_apart seats cells q rows w)
place_below seats cells rows (Next q) o w = omega (arith, rows_apart seats cells q rows w)
place_below seats cells rows (First q) o w = omega (arith, rows_apart seats cells q rows w)
place_below seats cells rows (Pend q j) o w = omega (arith, rows_apart seats cells q rows w.0, w.1)
place_below seats cells rows (Key q j) o w = omega (arith, rows_apart seats cells q rows w.0, w.1)
place_below seats cells rows (Value q j) o w = omega (arith, rows_apart seats cells q rows w.0, w.1)
place_below seats cells rows (Version q j) o w = omega (arith, rows_apart seats cells q rows w.0, w.1)
place_below seats cells rows (After q j) o w = omega (arith, rows_apart seats cells q rows w.0, w.1)

-- different names have different places
pub different_places : (seats cells rows : ℕ) (a b : Name) → IsWithin seats cells rows a → IsWithin seats cells rows b → a ≢ b → place_of seats cells a ≢ place_of seats cells b
different_places seats cells rows a b v w d = λ e. d (same_name seats cells rows b a w v e)
