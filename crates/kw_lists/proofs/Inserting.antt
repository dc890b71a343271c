-- A cell that is linked in keeps the order, and is the one cell more.
use Rattle.std.proofs.Common.{ℕ, ◌≡◌, ◌⊎◌, inl, inr, ◌<◌, true, false, Option, Some, None, arith, refl, sym, ◌∙◌, ap, subst}
use Rattle.std.proofs.lemmas.Option.{same_Some}
use Rattle.kw_lists.specs.Rows.{Row, Stands, IsBehind, IsOn, IsNext, Leads, IsList, IsSound}
use Rattle.kw_lists.specs.Changes.{is_same, inserted, IsAhead, MayInsert}
use Rattle.kw_lists.proofs.Orders.{stands_trans, stands_apart, stands_self, stands_or, behind_trans}
use Rattle.kw_lists.proofs.Places.{same_or, link_here, link_else, cell_here, cell_old, cell_or}

true_false : true ≡ false → ⊥
true_false e = cc

-- two links of a list: the cell of the one stands behind the other
sides : (r : Row) (at x : Option ℕ) → IsOn r at → IsOn r x → is_same x at ≡ false →
    ((b : ℕ) × (at ≡ Some b) × (r.listed b ≡ true) × IsBehind r x b) ⊎ ((a : ℕ) × (x ≡ Some a) × (r.listed a ≡ true) × IsBehind r at a)
sides r None None o p e = absurd (true_false e)
sides r None (Some a) o p e = inr (a, refl, p, tt)
sides r (Some b) None o p e = inl (b, refl, o, tt)
sides r (Some b) (Some a) o p e = which (stands_or r a b)
  where
    which : (a ≡ b) ⊎ Stands r a b ⊎ Stands r b a → ((c : ℕ) × (Some b ≡ Some c) × (r.listed c ≡ true) × Stands r a c) ⊎ ((c : ℕ) × (Some a ≡ Some c) × (r.listed c ≡ true) × Stands r b c)
    which (inl q) = absurd (grind arith)
    which (inr (inl q)) = inl (b, refl, o, q)
    which (inr (inr q)) = inr (a, refl, p, q)

-- what a link leads to, by what it holds
pub at_next : (r : Row) (at to : Option ℕ) (c : ℕ) → Leads r at to → to ≡ Some c → IsNext r at c
at_next r at to c l e = subst (Leads r at) e l

-- a listed cell behind a link is what the link holds, or stands behind that
pub reached : (r : Row) (at to : Option ℕ) → Leads r at to → (d : ℕ) → r.listed d ≡ true → IsBehind r at d → (c : ℕ) × (to ≡ Some c) × ((d ≡ c) ⊎ Stands r c d)
reached r at None l d e b = absurd (l.none d e b)
reached r at (Some c) l d e b = (c, refl, l.first d e b)

-- a cell that stands before what a link holds stands before each listed cell behind the link
ahead_all : (r : Row) (at to : Option ℕ) (c : ℕ) → Leads r at to → IsAhead r c to → (d : ℕ) → r.listed d ≡ true → IsBehind r at d → Stands r c d
ahead_all r at None c l a d e b = absurd (l.none d e b)
ahead_all r at (Some x) c l a d e b = which (l.first d e b)
  where
    which : (d ≡ x) ⊎ Stands r x d → Stands r c d
    which (inl q) = subst (Stands r c) (sym q) a
    which (inr q) = stands_trans r c x d a q

-- the new cell, seen from another link behind which it stands: what this link holds stands before
-- it
before_new : (r : Row) → IsList r → (at : Option ℕ) (c : ℕ) → MayInsert r at c → (x : Option ℕ) → IsOn r x → is_same x at ≡ false → IsBehind r x c → (e : ℕ) × (r.link x ≡ Some e) × Stands r e c
before_new r l at c m x o e b = which (sides r at x m.on o e)
  where
    which : ((b : ℕ) × (at ≡ Some b) × (r.listed b ≡ true) × IsBehind r x b) ⊎ ((a : ℕ) × (x ≡ Some a) × (r.listed a ≡ true) × IsBehind r at a) → (e : ℕ) × (r.link x ≡ Some e) × Stands r e c
    which (inl (d, q, u, w)) = got (reached r x (r.link x) (l x o) d u w)
      where
        dc : Stands r d c
        dc = subst (λ y. IsBehind r y c) q m.behind

        got : (e : ℕ) × (r.link x ≡ Some e) × ((d ≡ e) ⊎ Stands r e d) → (e : ℕ) × (r.link x ≡ Some e) × Stands r e c
        got (e, f, inl y) = (e, f, subst (λ z. Stands r z c) y dc)
        got (e, f, inr y) = (e, f, stands_trans r e d c y dc)
    which (inr (a, q, u, w)) = absurd (stands_apart r c a (ahead_all r at (r.link at) c (l at m.on) m.ahead a u w) (subst (λ y. IsBehind r y c) q b))

-- The row with the cell linked in.

module _ (r : Row) (l : IsList r) (at : Option ℕ) (c : ℕ) (m : MayInsert r at c) where
  -- keys and versions are what they were, and so is the order
  pub behind_on : (x : Option ℕ) (d : ℕ) → IsBehind r x d → IsBehind (inserted r at c) x d
  behind_on None d b = b
  behind_on (Some a) d b = b

  pub behind_back : (x : Option ℕ) (d : ℕ) → IsBehind (inserted r at c) x d → IsBehind r x d
  behind_back None d b = b
  behind_back (Some a) d b = b

  -- the link at which it was linked in
  new_here : Leads (inserted r at c) at (Some c)
  new_here = record {
    listed = cell_here r.listed c;
    behind = behind_on at c m.behind;
    first = λ d e b. which d (cell_or r.listed c d e) (behind_back at d b);
  }
    where
      which : (d : ℕ) → (d ≡ c) ⊎ (r.listed d ≡ true) → IsBehind r at d → (d ≡ c) ⊎ Stands r c d
      which d (inl q) b = inl q
      which d (inr q) b = inr (ahead_all r at (r.link at) c (l at m.on) m.ahead d q b)

  -- the new cell's own link holds what that link held
  new_own : (to : Option ℕ) → Leads r at to → IsAhead r c to → Leads (inserted r at c) (Some c) to
  new_own None n a = record { none = λ d e b. which d (cell_or r.listed c d e) b }
    where
      which : (d : ℕ) → (d ≡ c) ⊎ (r.listed d ≡ true) → Stands r c d → ⊥
      which d (inl q) b = stands_self r c (subst (Stands r c) q b)
      which d (inr q) b = n.none d q (behind_trans r at c d m.behind b)
  new_own (Some x) n a = record { listed = cell_old r.listed c x n.listed; behind = a; first = λ d e b. which d (cell_or r.listed c d e) b }
    where
      which : (d : ℕ) → (d ≡ c) ⊎ (r.listed d ≡ true) → Stands r c d → (d ≡ x) ⊎ Stands r x d
      which d (inl q) b = absurd (stands_self r c (subst (Stands r c) q b))
      which d (inr q) b = n.first d q (behind_trans r at c d m.behind b)

  -- every other link holds what it held
  new_else : (x to : Option ℕ) → IsOn r x → is_same x at ≡ false → to ≡ r.link x → Leads r x to → Leads (inserted r at c) x to
  new_else x None o e f n = record { none = λ d u b. which d (cell_or r.listed c d u) (behind_back x d b) }
    where
      which : (d : ℕ) → (d ≡ c) ⊎ (r.listed d ≡ true) → IsBehind r x d → ⊥
      which d (inl q) b = let (y, w, s) = before_new r l at c m x o e (subst (IsBehind r x) q b) in let k : None ≡ Some y = f ∙ w in cc
      which d (inr q) b = n.none d q b
  new_else x (Some y) o e f n = record { listed = cell_old r.listed c y n.listed; behind = behind_on x y n.behind; first = λ d u b. which d (cell_or r.listed c d u) (behind_back x d b) }
    where
      which : (d : ℕ) → (d ≡ c) ⊎ (r.listed d ≡ true) → IsBehind r x d → (d ≡ y) ⊎ Stands r y d
      which d (inl q) b = inr (got (before_new r l at c m x o e (subst (IsBehind r x) q b)))
        where
          got : (z : ℕ) × (r.link x ≡ Some z) × Stands r z c → Stands r y d
          got (z, w, s) = let k : Some z ≡ Some y = sym (f ∙ w) in subst (λ i. Stands r i d) (same_Some z y k) (subst (Stands r z) (sym q) s)
      which d (inr q) b = n.first d q b

  -- a cell that is linked in keeps the order
  pub inserted_list : IsList (inserted r at c)
  inserted_list x o = by_link (same_or x at)
    where
      own : (a : ℕ) → x ≡ Some a → is_same x at ≡ false → (a ≡ c) ⊎ (r.listed a ≡ true) → Leads (inserted r at c) x (r.link x)
      own a q e (inl w) =
          let k : x ≡ Some c = q ∙ ap Some w in
          subst (λ y. Leads (inserted r at c) y (r.link y)) (sym k) (subst (Leads (inserted r at c) (Some c)) (sym m.after) (new_own (r.link at) (l at m.on) m.ahead))
      own a q e (inr w) = let k : IsOn r x = subst (IsOn r) (sym q) w in new_else x (r.link x) k e refl (l x k)

      by_case : (y : Option ℕ) → x ≡ y → IsOn (inserted r at c) y → is_same x at ≡ false → Leads (inserted r at c) x (r.link x)
      by_case None q p e = let k : IsOn r x = subst (IsOn r) (sym q) tt in new_else x (r.link x) k e refl (l x k)
      by_case (Some a) q p e = own a q e (cell_or r.listed c a p)

      by_link : (x ≡ at) ⊎ (is_same x at ≡ false) → Leads (inserted r at c) x ((inserted r at c).link x)
      by_link (inl q) = subst (λ y. Leads (inserted r at c) y ((inserted r at c).link y)) (sym q) (subst (Leads (inserted r at c) at) (sym (link_here r.link at (Some c))) new_here)
      by_link (inr q) = subst (Leads (inserted r at c) x) (sym (link_else r.link at (Some c) x q)) (by_case x refl o q)

  -- and the cells are below the same bound
  pub inserted_sound : (n : ℕ) → c < n → IsSound n r → IsSound n (inserted r at c)
  inserted_sound n u s = record { list = inserted_list; below = λ d e. which d (cell_or r.listed c d e) }
    where
      which : (d : ℕ) → (d ≡ c) ⊎ (r.listed d ≡ true) → d < n
      which d (inl q) = omega arith
      which d (inr q) = s.below d q
