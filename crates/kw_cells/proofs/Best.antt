-- The best cell of a key: the function agrees with the relation, and the other way round where
-- cells can be told apart.
use Rattle.std.proofs.Common.{ℕ, zero, suc, Bool, true, false, ◌≡◌, ◌<◌, ◌≤◌, cond, Option, Some, None, List, [], ◌∷◌, ◌++◌, refl, sym, ap, subst, ◌∙◌, arith, All, Contains, MatchOption, IfSome, IsNone, is_some, ◌↔◌, length, get_or, drop, ◌+◌, add-one, drop-cons}
use Rattle.std.proofs.lemmas.List.{drop_all}
use Rattle.std.proofs.lemmas.Bool.Decides.{nat_tests}
use Rattle.std.proofs.lemmas.Bool.{false≢true}
use Rattle.kw_cells.specs.Cells.{is_later, IsBest, fits, later_of, best_of, AreApart, value_in, shown_at}
use Rattle.kw_cells.specs.declared.cell.Cell.{Cell}

-- of two that there may be, the later
abbrev pub pick : Option Cell → Option Cell → Option Cell
pick None o = o
pick (Some c) o = Some (later_of c o)

-- being later passes on
later_trans : (b c d : Cell) → is_later b c ≡ true → is_later c d ≡ true → is_later b d ≡ true
later_trans b c d e f = grind (arith, nat_tests)

-- not being later passes on
not_later_trans : (b c d : Cell) → is_later b c ≡ false → is_later c d ≡ false → is_later b d ≡ false
not_later_trans b c d e f = grind (arith, nat_tests)

-- a later one is not earlier
later_one_way : (b c : Cell) → is_later b c ≡ true → is_later c b ≡ false
later_one_way b c e = grind (arith, nat_tests)

-- none is later than itself
not_later_self : (c : Cell) → is_later c c ≡ false
not_later_self c = grind (arith, nat_tests)

-- the latest of three, in either grouping
pub pick_assoc : (o : Option Cell) (c : Cell) (p : Option Cell) → pick (pick o (Some c)) p ≡ pick o (pick (Some c) p)
pick_assoc None c p = refl
pick_assoc (Some b) c None = refl
pick_assoc (Some b) c (Some d) = go (is_later b c) (is_later c d) (is_later b d) refl refl refl
  where
    go : (bc cd bd : Bool) → is_later b c ≡ bc → is_later c d ≡ cd → is_later b d ≡ bd → Some (cond (is_later (cond bc b c) d) (cond bc b c) d) ≡ Some (cond (is_later b (cond cd c d)) b (cond cd c d))
    go true true true e f g = rw (g, e) refl
    go true true false e f g = absurd (false≢true (sym g ∙ later_trans b c d e f))
    go true false bd e f g = refl
    go false true bd e f g = rw (f, e) refl
    go false false false e f g = rw (f, g) refl
    go false false true e f g = absurd (false≢true (sym (not_later_trans b c d e f) ∙ g))

-- a cell that fits, before what others give
abbrev pub offered : ℕ → ℕ → Cell → Option Cell
offered key version c = cond (fits key version c) (Some c) None

-- the best of a cell and others
pub best_of-cons : (c : Cell) (cells : List Cell) (key version : ℕ) → best_of (c ∷ cells) key version ≡ pick (offered key version c) (best_of cells key version)
unfolding best_of
best_of-cons c cells key version = go (fits key version c)
  where
    go : (b : Bool) → cond b (Some (later_of c (best_of cells key version))) (best_of cells key version) ≡ pick (cond b (Some c) None) (best_of cells key version)
    go true = refl
    go false = refl

-- the best of two lists put together
pub best_of-append : (cells others : List Cell) (key version : ℕ) → best_of (cells ++ others) key version ≡ pick (best_of cells key version) (best_of others key version)
unfolding best_of
best_of-append [] others key version = refl
best_of-append (c ∷ cells) others key version =
    best_of-cons c (cells ++ others) key version ∙ ap (pick (offered key version c)) (best_of-append cells others key version) ∙ go (fits key version c) ∙ ap (λ o. pick o (best_of others key version)) (sym (best_of-cons c cells key version))
  where
    go : (b : Bool) → pick (cond b (Some c) None) (pick (best_of cells key version) (best_of others key version)) ≡ pick (pick (cond b (Some c) None) (best_of cells key version)) (best_of others key version)
    go false = refl
    go true = joined (best_of cells key version)
      where
        joined : (o : Option Cell) → pick (Some c) (pick o (best_of others key version)) ≡ pick (pick (Some c) o) (best_of others key version)
        joined None = refl
        joined (Some d) = sym (pick_assoc (Some c) d (best_of others key version))

-- where none fits there is no best cell
pub best_of-none : (cells : List Cell) (key version : ℕ) → All (λ c. c.key ≡ key → version < c.version) cells → best_of cells key version ≡ None
unfolding best_of
best_of-none [] key version h = refl
best_of-none (c ∷ cells) key version h =
    let i = best_of-none cells key version (λ k d l. h (suc k) d (omega arith)) in
    let first : c.key ≡ key → version < c.version = h 0 c (omega arith) in
    let misses : fits key version c ≡ false = grind (arith, nat_tests) in
    rw (misses, i) refl

-- where there is no best cell none fits
pub none_fits : (cells : List Cell) (key version : ℕ) → best_of cells key version ≡ None → All (λ c. c.key ≡ key → version < c.version) cells
unfolding best_of
none_fits [] key version e k d l = absurd (omega arith)
none_fits (c ∷ cells) key version e k d l = go (fits key version c) refl e (none_fits cells key version) k d l
  where
    go : (b : Bool) → fits key version c ≡ b → cond b (Some (later_of c (best_of cells key version))) (best_of cells key version) ≡ None → (best_of cells key version ≡ None → All (λ d. d.key ≡ key → version < d.version) cells) → All (λ d. d.key ≡ key → version < d.version) (c ∷ cells)
    go true f h rest k d l = cc
    go false f h rest zero d l = λ same. grind (arith, nat_tests)
    go false f h rest (suc k) d l = rest h k d (omega arith)

-- the best cell of the function is best in the relation
pub best_is : (cells : List Cell) (key version : ℕ) (b : Cell) → best_of cells key version ≡ Some b → IsBest cells key version b
unfolding best_of
best_is [] key version b e = cc
best_is (c ∷ cells) key version b e = go (fits key version c) (best_of cells key version) refl refl e (best_is cells key version)
  where
    behind : (x : Cell) → IsBest cells key version x → Contains (c ∷ cells) x
    behind x h = (suc h.among.0, omega arith, h.among.2)

    go : (f : Bool) (o : Option Cell) → fits key version c ≡ f → best_of cells key version ≡ o → cond f (Some (later_of c o)) o ≡ Some b → ((x : Cell) → best_of cells key version ≡ Some x → IsBest cells key version x) → IsBest (c ∷ cells) key version b
    go false o f r h rest =
        let i = rest b (r ∙ h) in
        record { among = behind b i; of_key = i.of_key; in_bound = i.in_bound; greatest = greatest i.greatest }
      where
        greatest : All (λ d. d.key ≡ key → d.version ≤ version → is_later d b ≡ false) cells → All (λ d. d.key ≡ key → d.version ≤ version → is_later d b ≡ false) (c ∷ cells)
        greatest g zero d l = λ same bound. absurd (false≢true (sym f ∙ grind (arith, nat_tests)))
        greatest g (suc k) d l = g k d (omega arith)
    go true None f r h rest =
        let same : c ≡ b = cc in
        let only : IsBest (c ∷ cells) key version c = record { among = (0, omega arith, refl); of_key = grind (arith, nat_tests); in_bound = grind (arith, nat_tests); greatest = greatest } in
        subst (λ (x : Cell). IsBest (c ∷ cells) key version x) same only
      where
        greatest : All (λ d. d.key ≡ key → d.version ≤ version → is_later d c ≡ false) (c ∷ cells)
        greatest zero d l = λ same bound. not_later_self c
        greatest (suc k) d l = λ same bound. absurd (let n = none_fits cells key version r k d (omega arith) same in omega arith)
    go true (Some x) f r h rest = choose (is_later c x) refl (rest x r)
      where
        choose : (t : Bool) → is_later c x ≡ t → IsBest cells key version x → IsBest (c ∷ cells) key version b
        choose true t i =
            let same : c ≡ b = let j : Some (cond (is_later c x) c x) ≡ Some b = h in let k : Some c ≡ Some b = rw t at j in cc in
            let only : IsBest (c ∷ cells) key version c = record { among = (0, omega arith, refl); of_key = grind (arith, nat_tests); in_bound = grind (arith, nat_tests); greatest = greatest } in
            subst (λ (x : Cell). IsBest (c ∷ cells) key version x) same only
          where
            greatest : All (λ d. d.key ≡ key → d.version ≤ version → is_later d c ≡ false) (c ∷ cells)
            greatest zero d l = λ same bound. not_later_self c
            greatest (suc k) d l = λ same bound. let g = i.greatest k d (omega arith) same bound in let o = later_one_way c x t in not_later_trans (get_or cells k d) x c g o
        choose false t i =
            let same : x ≡ b = let j : Some (cond (is_later c x) c x) ≡ Some b = h in let k : Some x ≡ Some b = rw t at j in cc in
            let found : IsBest (c ∷ cells) key version x = record { among = behind x i; of_key = i.of_key; in_bound = i.in_bound; greatest = greatest } in
            subst (λ (x : Cell). IsBest (c ∷ cells) key version x) same found
          where
            greatest : All (λ d. d.key ≡ key → d.version ≤ version → is_later d x ≡ false) (c ∷ cells)
            greatest zero d l = λ same bound. t
            greatest (suc k) d l = i.greatest k d (omega arith)

-- where cells can be told apart, at most one is best
pub best_one : (cells : List Cell) (key version : ℕ) (c d : Cell) → AreApart cells → IsBest cells key version c → IsBest cells key version d → c ≡ d
best_one cells key version c d apart i j =
    let a : is_later c d ≡ false = at c i.among i.of_key i.in_bound d j in
    let b : is_later d c ≡ false = at d j.among j.of_key j.in_bound c i in
    apart c d i.among j.among (i.of_key ∙ sym j.of_key) (grind (arith, nat_tests)) (grind (arith, nat_tests))
  where
    at : (x : Cell) → Contains cells x → x.key ≡ key → x.version ≤ version → (y : Cell) → IsBest cells key version y → is_later x y ≡ false
    at x (k, l, e) of_key bound y best =
        let g = best.greatest k x l (ap (λ (z : Cell). z.key) e ∙ of_key) (rw e bound) in
        rw e at g

-- where cells can be told apart, the function gives the best one
pub best_of-best : (cells : List Cell) (key version : ℕ) (c : Cell) → AreApart cells → IsBest cells key version c → best_of cells key version ≡ Some c
best_of-best cells key version c apart i = go (best_of cells key version) refl
  where
    go : (o : Option Cell) → best_of cells key version ≡ o → o ≡ Some c
    go (Some d) e = ap Some (best_one cells key version d c apart (best_is cells key version d e) i)
    go None e = absurd (missed i.among)
      where
        missed : Contains cells c → ⊥
        missed (k, l, f) =
            let n = none_fits cells key version e k c l (ap (λ (z : Cell). z.key) f ∙ i.of_key) in
            let v : (get_or cells k c).version ≡ c.version = ap (λ (z : Cell). z.version) f in
            let bound = i.in_bound in
            omega arith

-- a key that no cell has shows nothing
pub shown_at-absent : (cells : List Cell) (version key : ℕ) → All (λ c. c.key ≡ key → ⊥) cells → shown_at cells version key ≡ None
shown_at-absent cells version key h = ap value_in (best_of-none cells key version (λ k d l same. absurd (h k d l same)))

-- the best of the cells from a place on
from_place : (cells : List Cell) (i key version : ℕ) (d : Cell) → i < length cells → best_of (drop i cells) key version ≡ pick (offered key version (get_or cells i d)) (best_of (drop (i + 1) cells) key version)
from_place cells i key version d l =
    let e : drop i cells ≡ get_or cells i d ∷ drop (i + 1) cells = rw add-one (drop-cons cells i d l) in
    ap (λ (cs : List Cell). best_of cs key version) e ∙ best_of-cons (get_or cells i d) (drop (i + 1) cells) key version

-- going on past a cell that does not fit
pub passed : (cells : List Cell) (i key version : ℕ) (d : Cell) (found total : Option Cell) → i < length cells → fits key version (get_or cells i d) ≡ false → pick found (best_of (drop i cells) key version) ≡ total → pick found (best_of (drop (i + 1) cells) key version) ≡ total
passed cells i key version d found total l misses h =
    let none : offered key version (get_or cells i d) ≡ None = rw misses refl in
    let same : best_of (drop i cells) key version ≡ best_of (drop (i + 1) cells) key version = from_place cells i key version d l ∙ ap (λ o. pick o (best_of (drop (i + 1) cells) key version)) none in
    ap (pick found) (sym same) ∙ h

-- going on past a cell that fits, with the later of it and the one found so far
pub kept : (cells : List Cell) (i key version : ℕ) (d : Cell) (found total : Option Cell) (n : Cell) → i < length cells → fits key version (get_or cells i d) ≡ true → MatchOption found (n ≡ get_or cells i d) (λ b. n ≡ cond (is_later b (get_or cells i d)) b (get_or cells i d)) → pick found (best_of (drop i cells) key version) ≡ total → pick (Some n) (best_of (drop (i + 1) cells) key version) ≡ total
kept cells i key version d found total n l fit later h =
    let rest = best_of (drop (i + 1) cells) key version in
    let one : offered key version (get_or cells i d) ≡ Some (get_or cells i d) = rw fit refl in
    let split : best_of (drop i cells) key version ≡ pick (Some (get_or cells i d)) rest = from_place cells i key version d l ∙ ap (λ o. pick o rest) one in
    ap (λ o. pick o rest) (chosen found later) ∙ pick_assoc found (get_or cells i d) rest ∙ ap (pick found) (sym split) ∙ h
  where
    chosen : (o : Option Cell) → MatchOption o (n ≡ get_or cells i d) (λ b. n ≡ cond (is_later b (get_or cells i d)) b (get_or cells i d)) → Some n ≡ pick o (Some (get_or cells i d))
    chosen None e = ap Some e
    chosen (Some b) e = ap Some e

-- where no cell is left, the one found is the best of all
pub ended : (cells : List Cell) (i key version : ℕ) (found total : Option Cell) → length cells ≤ i → pick found (best_of (drop i cells) key version) ≡ total → found ≡ total
unfolding best_of
ended cells i key version found total l h =
    let none : drop i cells ≡ [] = drop_all i cells l in
    same found ∙ ap (λ (cs : List Cell). pick found (best_of cs key version)) (sym none) ∙ h
  where
    same : (o : Option Cell) → o ≡ pick o (best_of [] key version)
    same None = refl
    same (Some c) = refl

-- what a call that computes the function may say
pub best_of-tells : (cells : List Cell) (key version : ℕ) → IfSome (best_of cells key version) (IsBest cells key version)
best_of-tells cells key version = go (best_of cells key version) refl
  where
    go : (o : Option Cell) → best_of cells key version ≡ o → IfSome o (IsBest cells key version)
    go None e = tt
    go (Some c) e = best_is cells key version c e

-- there is none exactly where no cell fits
pub best_of-none_exactly : (cells : List Cell) (key version : ℕ) → IsNone (best_of cells key version) ↔ All (λ c. c.key ≡ key → version < c.version) cells
best_of-none_exactly cells key version = (go (best_of cells key version) refl, λ h. ap is_some (best_of-none cells key version h))
  where
    go : (o : Option Cell) → best_of cells key version ≡ o → IsNone o → All (λ c. c.key ≡ key → version < c.version) cells
    go None e h = none_fits cells key version e
    go (Some c) e h = absurd (false≢true (sym h))
