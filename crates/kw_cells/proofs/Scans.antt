-- What a scan of the plain list gives: the index leads it to the last entry of each key of the
-- range.
use Rattle.std.proofs.Common.{ℕ, suc, Bool, true, false, ◌≡◌, ◌<◌, ◌≤◌, cond, eqb, leb, ◌&&◌, nat_le, Option, Some, None, [], ◌∷◌, ◌++◌, refl, sym, ap, ◌∙◌, arith, length, get_or, append-nil}
use Rattle.std.proofs.lemmas.Bool.Decides.{nat_tests}
use Rattle.std.specs.BTreeMap.{insert_entry}
use Rattle.std.specs.Ordering.{nat_cmp}
use Rattle.kw_cells.specs.Pairs.{Pairs, RisesFrom, IsRising, value_of, ShowsRange, with_shown}
use Rattle.kw_cells.specs.Plain.{Entries, flat, shown_last, index_of, IsIndex}
use Rattle.kw_cells.proofs.Pairs.{lower, none_below, LieIn, all_lie}
use Rattle.kw_cells.proofs.Tree.{within, value-insert_entry}
use Rattle.kw_cells.proofs.Entries.{index_of-append, last_of-place, last_of-no_place}

-- the index after one more entry
pub index_put : (index after : Pairs) (es new : Entries) (k n : ℕ) (w : Option ℕ) → IsIndex index es → IsRising after → after ≡ insert_entry nat_cmp index k n → n ≡ length es → new ≡ es ++ (k, w) ∷ [] → IsIndex after new
index_put index after es new k n w i rising inserted long put = record { rising = rising; places = places }
  where
    places : (q : ℕ) → value_of q after ≡ index_of new q
    places q =
        let a : value_of q after ≡ cond (eqb q k) (Some n) (value_of q index) = ap (value_of q) inserted ∙ value-insert_entry q k n index in
        let b : index_of new q ≡ cond (eqb q k) (Some (length es)) (index_of es q) = ap (λ (l : Entries). index_of l q) put ∙ index_of-append es k w q in
        let d : value_of q index ≡ index_of es q = i.places q in
        let e : cond (eqb q k) (Some n) (value_of q index) ≡ cond (eqb q k) (Some (length es)) (index_of es q) = cc in
        a ∙ e ∙ sym b

-- the value of the entry at a place that there may be
abbrev pub at_place : Entries → Option ℕ → Option ℕ
at_place es None = None
at_place es (Some n) = (get_or es n (0, None)).1

-- the entry at a key's place shows what the key shows
pub at_place-last : (es : Entries) (k : ℕ) → at_place es (index_of es k) ≡ shown_last es k
at_place-last es k = go (index_of es k) refl
  where
    go : (o : Option ℕ) → index_of es k ≡ o → at_place es o ≡ shown_last es k
    go None e = sym (ap flat (last_of-no_place es k e))
    go (Some n) e = let r = last_of-place es k n (0, None) e in sym (ap flat r.1)

-- a place in the index is that of an entry
pub placed : (index : Pairs) (es : Entries) (k n : ℕ) → IsIndex index es → value_of k index ≡ Some n → n < length es
placed index es k n i e = let r = last_of-place es k n (0, None) (sym (i.places k) ∙ e) in r.0

-- the pairs that the entries at these places show
abbrev pub shown_by : Entries → Pairs → Pairs
shown_by es [] = []
shown_by es (p ∷ m) = with_shown p.0 (get_or es p.1 (0, None)).1 (shown_by es m)

-- each place is that of an entry
abbrev pub ArePlaces : Entries → Pairs → Type 0
ArePlaces es [] = Unit {0}
ArePlaces es (p ∷ m) = (p.1 < length es) × ArePlaces es m

-- what is shown rises
rises-shown_by : (es : Entries) (low : ℕ) (m : Pairs) → RisesFrom low m → RisesFrom low (shown_by es m)
rises-shown_by es low [] r = tt
rises-shown_by es low (p ∷ m) r = go (get_or es p.1 (0, None)).1 (rises-shown_by es (suc p.0) m r.1)
  where
    go : (o : Option ℕ) → RisesFrom (suc p.0) (shown_by es m) → RisesFrom low (with_shown p.0 o (shown_by es m))
    go None i = lower low (suc p.0) (shown_by es m) (let l = r.0 in omega arith) i
    go (Some v) i = (r.0, i)

-- what is shown lies where the keys lie
lie-shown_by : (es : Entries) (low high : ℕ) (m : Pairs) → LieIn low high m → LieIn low high (shown_by es m)
lie-shown_by es low high [] l = tt
lie-shown_by es low high (p ∷ m) l = go (get_or es p.1 (0, None)).1 (lie-shown_by es low high m l.1)
  where
    go : (o : Option ℕ) → LieIn low high (shown_by es m) → LieIn low high (with_shown p.0 o (shown_by es m))
    go None i = i
    go (Some v) i = (l.0, i)

-- each key shows what the entry at its place has
value-shown_by : (es : Entries) (low : ℕ) (m : Pairs) (k : ℕ) → RisesFrom low m → value_of k (shown_by es m) ≡ at_place es (value_of k m)
value-shown_by es low [] k r = refl
value-shown_by es low (p ∷ m) k r = go (eqb k p.0) refl (get_or es p.1 (0, None)).1 refl (value-shown_by es (suc p.0) m k r.1)
  where
    go : (b : Bool) → eqb k p.0 ≡ b → (o : Option ℕ) → (get_or es p.1 (0, None)).1 ≡ o → value_of k (shown_by es m) ≡ at_place es (value_of k m) → value_of k (with_shown p.0 o (shown_by es m)) ≡ at_place es (cond b (Some p.1) (value_of k m))
    go true e None h i = none_below k (suc p.0) (shown_by es m) (grind (arith, nat_tests)) (rises-shown_by es (suc p.0) m r.1) ∙ sym h
    go true e (Some v) h i = rw e (sym h)
    go false e None h i = i
    go false e (Some v) h i = rw e i

-- a range has the values of its keys
value-within : (q a b : ℕ) (m : Pairs) → value_of q (within a b m) ≡ cond (leb a q && leb q b) (value_of q m) None
value-within q a b [] = grind (arith, nat_tests)
value-within q a b (p ∷ m) = let i = value-within q a b m in grind (arith, nat_tests)

-- a range rises
rises-within : (low a b : ℕ) (m : Pairs) → RisesFrom low m → RisesFrom low (within a b m)
rises-within low a b [] r = tt
rises-within low a b (p ∷ m) r = go (nat_le a p.0 && nat_le p.0 b) (rises-within (suc p.0) a b m r.1)
  where
    go : (t : Bool) → RisesFrom (suc p.0) (within a b m) → RisesFrom low (cond t (p ∷ within a b m) (within a b m))
    go true i = (r.0, i)
    go false i = lower low (suc p.0) (within a b m) (let l = r.0 in omega arith) i

-- a range lies in its bounds
lie-within : (a b : ℕ) (m : Pairs) → LieIn a (suc b) (within a b m)
lie-within a b [] = tt
lie-within a b (p ∷ m) = go (nat_le a p.0 && nat_le p.0 b) refl (lie-within a b m)
  where
    go : (t : Bool) → (nat_le a p.0 && nat_le p.0 b) ≡ t → LieIn a (suc b) (within a b m) → LieIn a (suc b) (cond t (p ∷ within a b m) (within a b m))
    go true e i = ((grind (arith, nat_tests), grind (arith, nat_tests)), i)
    go false e i = i

-- the places of a range are those of entries
pub places_within : (index : Pairs) (es : Entries) (a b : ℕ) → IsIndex index es → ArePlaces es (within a b index)
places_within index es a b i = all 0 index i.rising (λ k n e. placed index es k n i e)
  where
    all : (low : ℕ) (m : Pairs) → RisesFrom low m → ((k n : ℕ) → value_of k m ≡ Some n → n < length es) → ArePlaces es (within a b m)
    all low [] r h = tt
    all low (p ∷ m) r h = go (nat_le a p.0 && nat_le p.0 b) (all (suc p.0) m r.1 rest)
      where
        rest : (k n : ℕ) → value_of k m ≡ Some n → n < length es
        rest k n e =
            let below : k < suc p.0 → value_of k m ≡ None = λ l. none_below k (suc p.0) m l r.1 in
            let whole : value_of k (p ∷ m) ≡ Some n = grind (arith, nat_tests) in
            h k n whole

        go : (t : Bool) → ArePlaces es (within a b m) → ArePlaces es (cond t (p ∷ within a b m) (within a b m))
        go true s = (h p.0 p.1 (grind (arith, nat_tests)), s)
        go false s = s

-- the entries at the places of a range show what the range shows
pub range_shows : (index : Pairs) (es : Entries) (a b : ℕ) → IsIndex index es → ShowsRange (shown_last es) a b (shown_by es (within a b index))
range_shows index es a b i = record {
  rising = rises-shown_by es 0 (within a b index) rises;
  inside = all_lie a b (suc b) (shown_by es (within a b index)) (omega arith) (lie-shown_by es a (suc b) (within a b index) (lie-within a b index));
  each = each;
}
  where
    rises : RisesFrom 0 (within a b index)
    rises = rises-within 0 a b index i.rising

    each : (k : ℕ) → a ≤ k → k ≤ b → value_of k (shown_by es (within a b index)) ≡ shown_last es k
    each k l h =
        let within_it : (leb a k && leb k b) ≡ true = grind (arith, nat_tests) in
        let found : value_of k (within a b index) ≡ index_of es k = value-within k a b index ∙ ap (λ t. cond t (value_of k index) None) within_it ∙ i.places k in
        value-shown_by es 0 (within a b index) k rises ∙ ap (at_place es) found ∙ at_place-last es k

-- an empty range shows nothing
pub nothing_shown : (shown : ℕ → Option ℕ) (a b : ℕ) → b < a → ShowsRange shown a b []
nothing_shown shown a b l = record { rising = tt; inside = λ k d i. absurd (omega arith); each = λ k g h. absurd (omega arith) }

-- where no place is left, all was pushed
pub shown_whole : (es : Entries) (pairs left total : Pairs) → left ≡ [] → pairs ++ shown_by es left ≡ total → pairs ≡ total
shown_whole es pairs left total step h = sym (append-nil pairs) ∙ ap (λ (m : Pairs). pairs ++ shown_by es m) (sym step) ∙ h
