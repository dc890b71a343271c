-- The last update of a key, in two orders of the same lines.
use Rattle.std.proofs.Common.{ℕ, zero, suc, Bool, true, false, ◌≡◌, ◌<◌, ◌≤◌, ◌⊎◌, inl, inr, cond, List, [], ◌∷◌, map, Option, Some, refl, sym, ap, ◌∙◌, arith}
use Rattle.std.specs.List.{slice_get}
use Rattle.std.proofs.lemmas.Bool.{false≢true, cases_order}
use Rattle.std.proofs.lemmas.Option.{same_Some}
use Rattle.kw_model.specs.Legal.{is_update, shown, last_shown}
use Rattle.kw_model.specs.declared.call.Call.{Call}
use Rattle.kw_model.specs.declared.call.Reply.{Reply}

module _ (call : ℕ → Call) (reply : ℕ → Reply) (k : ℕ) where
  -- whether a line updates the key
  abbrev pub test : ℕ → Bool
  test u = is_update k (call u) (reply u)

  -- what the last of these lines that updates the key shows
  abbrev pub shown_in : List ℕ → Option ℕ → Option ℕ
  shown_in zs before = last_shown k (map call zs) (map reply zs) before

  -- no line updates the key
  abbrev HasNone : List ℕ → Type 0
  HasNone zs = (p u : ℕ) → slice_get zs p ≡ Some u → test u ≡ true → ⊥

  -- u, at place p, is the last line that does
  record IsLastAt (zs : List ℕ) (p u : ℕ) : Type 0 where
    here : slice_get zs p ≡ Some u
    updates : test u ≡ true
    last : (q v : ℕ) → slice_get zs q ≡ Some v → test v ≡ true → q ≤ p

  -- the one or the other, and what is shown then
  abbrev Last : List ℕ → Option ℕ → Type 0
  Last zs before = (HasNone zs × (shown_in zs before ≡ before)) ⊎ ((p : ℕ) × (u : ℕ) × IsLastAt zs p u × (shown_in zs before ≡ shown (call u)))

  -- each list has a last update, or none
  last_in : (zs : List ℕ) (before : Option ℕ) → Last zs before
  last_in [] before = inl ((λ p u e t. absurd (cc)), refl)
  last_in (z ∷ zs) before = go (λ b. last_in zs b) (test z) refl
    where
      step : (b : Bool) → test z ≡ b → shown_in (z ∷ zs) before ≡ shown_in zs (cond b (shown (call z)) before)
      step b e = ap (λ c. shown_in zs (cond c (shown (call z)) before)) e

      later : (o : Option ℕ) (p u : ℕ) → IsLastAt zs p u → IsLastAt (z ∷ zs) (suc p) u
      later o p u l = record { here = l.here; updates = l.updates; last = last }
        where
          last : (q v : ℕ) → slice_get (z ∷ zs) q ≡ Some v → test v ≡ true → q ≤ suc p
          last zero v e t = omega arith
          last (suc q) v e t = let w = l.last q v e t in omega arith

      first : HasNone zs → test z ≡ true → IsLastAt (z ∷ zs) 0 z
      first n t = record { here = refl; updates = t; last = last }
        where
          last : (q v : ℕ) → slice_get (z ∷ zs) q ≡ Some v → test v ≡ true → q ≤ 0
          last zero v e t = omega arith
          last (suc q) v e t = absurd (n q v e t)

      none : HasNone zs → test z ≡ false → HasNone (z ∷ zs)
      none n f zero u e t = let w = same_Some z u e in let g : test z ≡ true = rw w t in false≢true (sym f ∙ g)
      none n f (suc p) u e t = n p u e t

      go : ((b : Option ℕ) → Last zs b) → (b : Bool) → test z ≡ b → Last (z ∷ zs) before
      go rest true t = which (rest (shown (call z)))
        where
          which : Last zs (shown (call z)) → Last (z ∷ zs) before
          which (inl n) = inr (0, z, first n.0 t, step true t ∙ n.1)
          which (inr l) = inr (suc l.0, l.1, later before l.0 l.1 l.2, step true t ∙ l.3)
      go rest false f = which (rest before)
        where
          which : Last zs before → Last (z ∷ zs) before
          which (inl n) = inl (none n.0 f, step false f ∙ n.1)
          which (inr l) = inr (suc l.0, l.1, later before l.0 l.1 l.2, step false f ∙ l.3)

  -- two lists have the same updates, and of two updates the one that stands first in `ws` stands
  -- first in `zs`
  pub record AreAlike (zs ws : List ℕ) : Type 0 where
    pub there : (p u : ℕ) → slice_get zs p ≡ Some u → test u ≡ true → (a : ℕ) × (slice_get ws a ≡ Some u)
    pub back : (a u : ℕ) → slice_get ws a ≡ Some u → test u ≡ true → (p : ℕ) × (slice_get zs p ≡ Some u)
    pub order : (a b p q u v : ℕ) → slice_get ws a ≡ Some u → slice_get ws b ≡ Some v → slice_get zs p ≡ Some u → slice_get zs q ≡ Some v → test u ≡ true → test v ≡ true → a < b → p < q

  -- then both show the same
  pub same_shown : (zs ws : List ℕ) (before : Option ℕ) → AreAlike zs ws → shown_in zs before ≡ shown_in ws before
  same_shown zs ws before s = which (last_in zs before) (last_in ws before)
    where
      same : (p u b v : ℕ) → IsLastAt zs p u → IsLastAt ws b v → u ≡ v
      same p u b v l m = go (cases_order a.0 b)
        where
          a : (a : ℕ) × (slice_get ws a ≡ Some u)
          a = s.there p u l.here l.updates

          q : (q : ℕ) × (slice_get zs q ≡ Some v)
          q = s.back b v m.here m.updates

          go : (a.0 ≡ b) ⊎ ((a.0 < b) ⊎ (b < a.0)) → u ≡ v
          go (inr (inl h)) = let x = s.order a.0 b p q.0 u v a.1 m.here l.here q.1 l.updates m.updates h in let y = l.last q.0 v q.1 m.updates in absurd (omega arith)
          go (inl e) = same_Some u v (sym a.1 ∙ ap (slice_get ws) e ∙ m.here)
          go (inr (inr h)) = let y = m.last a.0 u a.1 l.updates in absurd (omega arith)

      which : Last zs before → Last ws before → shown_in zs before ≡ shown_in ws before
      which (inl n) (inl m) = n.1 ∙ sym m.1
      which (inl n) (inr m) = let q = s.back m.0 m.1 m.2.here m.2.updates in absurd (n.0 q.0 m.1 q.1 m.2.updates)
      which (inr l) (inl m) = let a = s.there l.0 l.1 l.2.here l.2.updates in absurd (m.0 a.0 l.1 a.1 l.2.updates)
      which (inr l) (inr m) = l.3 ∙ ap (λ u. shown (call u)) (same l.0 l.1 m.0 m.1 l.2 m.2) ∙ sym m.3
