-- The last entry of a key: what one more entry changes, and the place where it stands.
use Rattle.std.proofs.Common.{ℕ, suc, Bool, true, false, ◌≡◌, ◌<◌, cond, eqb, Option, Some, None, [], ◌∷◌, ◌++◌, refl, sym, ap, ◌∙◌, arith, length, get_or, IsNone, ◌↔◌, ◌⊎◌, inl, inr}
use Rattle.std.proofs.lemmas.Bool.{false≢true}
use Rattle.kw_cells.specs.Plain.{Entries, or_else, last_of, flat, shown_last, raised, index_of}

-- one more entry is the last of its key, and every other key has the last that it had
pub last_of-append : (es : Entries) (q : ℕ) (w : Option ℕ) (k : ℕ) → last_of (es ++ (q, w) ∷ []) k ≡ cond (eqb k q) (Some w) (last_of es k)
last_of-append [] q w k = refl
last_of-append (e ∷ es) q w k = ap (λ o. or_else o (cond (eqb k e.0) (Some e.1) None)) (last_of-append es q w k) ∙ go (eqb k q)
  where
    go : (b : Bool) → or_else (cond b (Some w) (last_of es k)) (cond (eqb k e.0) (Some e.1) None) ≡ cond b (Some w) (or_else (last_of es k) (cond (eqb k e.0) (Some e.1) None))
    go true = refl
    go false = refl

-- one more entry has its place at the end, and every other key the place that it had
pub index_of-append : (es : Entries) (q : ℕ) (w : Option ℕ) (k : ℕ) → index_of (es ++ (q, w) ∷ []) k ≡ cond (eqb k q) (Some (length es)) (index_of es k)
index_of-append [] q w k = refl
index_of-append (e ∷ es) q w k = ap (λ o. or_else (raised o) (cond (eqb k e.0) (Some 0) None)) (index_of-append es q w k) ∙ go (eqb k q)
  where
    go : (b : Bool) → or_else (raised (cond b (Some (length es)) (index_of es k))) (cond (eqb k e.0) (Some 0) None) ≡ cond b (Some (suc (length es))) (or_else (raised (index_of es k)) (cond (eqb k e.0) (Some 0) None))
    go true = refl
    go false = refl

-- a key with no place has no entry
pub last_of-no_place : (es : Entries) (k : ℕ) → index_of es k ≡ None → last_of es k ≡ None
last_of-no_place [] k h = refl
last_of-no_place (e ∷ es) k h = go (index_of es k) (eqb k e.0) (last_of-no_place es k) h
  where
    go : (o : Option ℕ) (b : Bool) → (o ≡ None → last_of es k ≡ None) → or_else (raised o) (cond b (Some 0) None) ≡ None → or_else (last_of es k) (cond b (Some e.1) None) ≡ None
    go None false rest h = rw (rest refl) refl
    go None true rest h = cc
    go (Some n) b rest h = cc

-- the entry at a key's place is its last
pub last_of-place : (es : Entries) (k n : ℕ) (d : ℕ × Option ℕ) → index_of es k ≡ Some n → (n < length es) × (last_of es k ≡ Some (get_or es n d).1)
last_of-place [] k n d h = cc
last_of-place (e ∷ es) k n d h = go (index_of es k) (eqb k e.0) refl (λ m p. last_of-place es k m d p) h
  where
    go : (o : Option ℕ) (b : Bool) → index_of es k ≡ o → ((m : ℕ) → index_of es k ≡ Some m → (m < length es) × (last_of es k ≡ Some (get_or es m d).1)) → or_else (raised o) (cond b (Some 0) None) ≡ Some n → (n < suc (length es)) × (or_else (last_of es k) (cond b (Some e.1) None) ≡ Some (get_or (e ∷ es) n d).1)
    go None false p rest h = cc
    go None true p rest h = let z : n ≡ 0 = cc in let l = last_of-no_place es k p in (omega arith, rw (l, z) refl)
    go (Some m) b p rest h = let z : n ≡ suc m = cc in let r = rest m p in (omega arith, rw (r.1, z) refl)

-- a key shows nothing exactly where its last entry is a delete or it has none
pub shows_none : (es : Entries) (k : ℕ) → IsNone (shown_last es k) ↔ ((last_of es k ≡ None) ⊎ (last_of es k ≡ Some None))
shows_none es k = go (last_of es k)
  where
    go : (o : Option (Option ℕ)) → IsNone (flat o) ↔ ((o ≡ None) ⊎ (o ≡ Some None))
    go None = (λ _. inl refl, λ _. refl)
    go (Some None) = (λ _. inr refl, λ _. refl)
    go (Some (Some v)) = (λ h. absurd (false≢true (sym h)), λ h. which h)
      where
        which : (Some (Some v) ≡ None) ⊎ (Some (Some v) ≡ Some None) → IsNone (flat (Some (Some v)))
        which (inl e) = cc
        which (inr e) = cc
