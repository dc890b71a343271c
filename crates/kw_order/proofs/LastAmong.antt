-- The last call of which a test is true, as a list in order is gone through.
use Rattle.std.proofs.Common.{◌≡◌, ◌⊎◌, inl, inr, Bool, true, false, List, ◌∷◌, Option, Some, None, refl, sym, ap, subst, Contains}
use Rattle.kw_order.specs.LastOf.{IsLast}
use Rattle.kw_order.proofs.Among.{Among, InOrder}

module _ {X : Type 0} (Before : X → X → Type 0) (asym : (p q : X) → Before p q → Before q p → ⊥) (trans : (p q r : X) → Before p q → Before q r → Before p r) (xs : List X) (test : X → Bool) where
  -- o is the last of which it is true among those of xs that are not left in ys, or there is none
  abbrev pub IsLastAmong : List X → Option X → Type 0
  IsLastAmong ys None = (q : X) → Contains xs q → test q ≡ true → Among q ys
  IsLastAmong ys (Some p) = Contains xs p × (test p ≡ true) × ((y : X) → Among y ys → Before p y) × ((q : X) → Contains xs q → test q ≡ true → Among q ys ⊎ ((q ≡ p) ⊎ Before q p))

  -- none that is left stands before the first that is left
  none_left : (x : X) (ys : List X) (q : X) → InOrder Before (x ∷ ys) → Among q (x ∷ ys) → Before q x → ⊥
  none_left x ys q o (inl e) b = let c : Before x x = subst (λ z. Before z x) e b in asym x x c c
  none_left x ys q o (inr h) b = asym x q (o.0 q h) b

  -- there is one last before x, or none
  pub last_unique : (x : X) (o u : Option X) → IsLast Before xs test x o → IsLast Before xs test x u → o ≡ u
  last_unique x None None k l = refl
  last_unique x None (Some u) k l = absurd (k u l.0 l.1 l.2)
  last_unique x (Some o) None k l = absurd (l o k.0 k.1 k.2)
  last_unique x (Some o) (Some u) k l = which (k.3 u l.0 l.1 l.2) (l.3 o k.0 k.1 k.2)
    where
      which : (u ≡ o) ⊎ Before u o → (o ≡ u) ⊎ Before o u → Some o ≡ Some u
      which (inl e) r = ap Some (sym e)
      which (inr b) (inl e) = ap Some e
      which (inr b) (inr c) = absurd (asym u o b c)

  -- the last so far is the last before the first that is left
  pub last_from_among : (x : X) (ys : List X) (o : Option X) → InOrder Before (x ∷ ys) → IsLastAmong (x ∷ ys) o → IsLast Before xs test x o
  last_from_among x ys None i p = λ q c t b. none_left x ys q i (p q c t) b
  last_from_among x ys (Some o) i p = (p.0, p.1, p.2 x (inl refl), λ q c t b. which q b (p.3 q c t))
    where
      which : (q : X) → Before q x → Among q (x ∷ ys) ⊎ ((q ≡ o) ⊎ Before q o) → (q ≡ o) ⊎ Before q o
      which q b (inl h) = absurd (none_left x ys q i h b)
      which q b (inr r) = r

  -- the first that is left is the last now, where the test is true of it
  pub moves_on : (x : X) (ys : List X) (o : Option X) → Contains xs x → InOrder Before (x ∷ ys) → test x ≡ true → IsLastAmong (x ∷ ys) o → IsLastAmong ys (Some x)
  moves_on x ys None i s t p = (i, t, s.0, λ q j v. which q (p q j v))
    where
      which : (q : X) → Among q (x ∷ ys) → Among q ys ⊎ ((q ≡ x) ⊎ Before q x)
      which q (inl e) = inr (inl e)
      which q (inr h) = inl h
  moves_on x ys (Some o) i s t p = (i, t, s.0, λ q j v. which q (p.3 q j v))
    where
      before : Before o x
      before = p.2 x (inl refl)

      which : (q : X) → Among q (x ∷ ys) ⊎ ((q ≡ o) ⊎ Before q o) → Among q ys ⊎ ((q ≡ x) ⊎ Before q x)
      which q (inl (inl e)) = inr (inl e)
      which q (inl (inr h)) = inl h
      which q (inr (inl e)) = inr (inr (subst (λ z. Before z x) (sym e) before))
      which q (inr (inr b)) = inr (inr (trans q o x b before))

  -- and the last stays, where it is not
  pub stays : (x : X) (ys : List X) (o : Option X) → test x ≡ false → IsLastAmong (x ∷ ys) o → IsLastAmong ys o
  stays x ys None t p = λ q j v. which q v (p q j v)
    where
      which : (q : X) → test q ≡ true → Among q (x ∷ ys) → Among q ys
      which q v (inl e) = let f : test q ≡ false = rw e t in cc
      which q v (inr h) = h
  stays x ys (Some o) t p = (p.0, p.1, λ y h. p.2 y (inr h), λ q j v. which q v (p.3 q j v))
    where
      which : (q : X) → test q ≡ true → Among q (x ∷ ys) ⊎ ((q ≡ o) ⊎ Before q o) → Among q ys ⊎ ((q ≡ o) ⊎ Before q o)
      which q v (inl (inl e)) = let f : test q ≡ false = rw e t in cc
      which q v (inl (inr h)) = inl h
      which q v (inr h) = inr h
