-- The list of rows as it stands: which link leads where, and where a live row stands that is not of
-- a given part of the list.
use Rattle.std.proofs.Common.{ℕ, ◌≡◌, ◌⊎◌, inl, inr, ◌<◌, ◌≤◌, Option, Some, None, List, [], ◌∷◌, arith, refl, sym, ◌∙◌, ap, subst}
use Rattle.std.proofs.lemmas.Option.{same_Some}
use Rattle.kw_rows.specs.Ledger.{Ledger, IsLive}
use Rattle.kw_rows.specs.Rows.{Rows, Chain, IsBefore, leads}
use Rattle.kw_rows.specs.Events.{IsIn, Links, Rises}
use Rattle.kw_rows.proofs.Lists.{first_rises}

-- the link is the head's or a live row's
abbrev pub IsLink : Ledger → Option ℕ → Type 0
IsLink ledger None = Unit {0}
IsLink ledger (Some x) = IsLive ledger x

-- rows that rise stand one before the other
pub rise_apart : (w : Rows) (x : ℕ) (xs : List ℕ) (after : Option ℕ) → Links w.next x xs after → Rises w.least x xs → (y v : ℕ) → IsIn (x ∷ xs) y → IsIn (x ∷ xs) v → (y ≡ v) ⊎ IsBefore w y v ⊎ IsBefore w v y
rise_apart w x xs after l h y v (inl e) (inl f) = inl (e ∙ sym f)
rise_apart w x [] after l h y v (inl e) (inr i) = absurd i
rise_apart w x (m ∷ ms) after l h y v (inl e) (inr i) = inr (inl (record { next = m; follows = ap w.next e ∙ l.0; above = first_rises w.least m ms h.1 v i }))
rise_apart w x [] after l h y v (inr i) (inl e) = absurd i
rise_apart w x (m ∷ ms) after l h y v (inr i) (inl e) = inr (inr (record { next = m; follows = ap w.next e ∙ l.0; above = first_rises w.least m ms h.1 y i }))
rise_apart w x [] after l h y v (inr i) (inr j) = absurd i
rise_apart w x (m ∷ ms) after l h y v (inr i) (inr j) = rise_apart w m ms after l.1 h.1 y v i j

module _ (w : Rows) (ledger : Ledger) (c : Chain w ledger) where
  -- one link leads to a row of the list
  pub one_link : (p q : Option ℕ) (y : ℕ) → IsLink ledger p → IsLink ledger q → leads w p ≡ Some y → leads w q ≡ Some y → p ≡ q
  one_link None None y a b e f = refl
  one_link None (Some q) y a b e f =
      let x : c.first ≡ y = same_Some c.first y (sym c.leads ∙ e) in
      absurd (omega (arith, c.rises q y b f, ap w.least x, c.first_least))
  one_link (Some p) None y a b e f =
      let x : c.first ≡ y = same_Some c.first y (sym c.leads ∙ f) in
      absurd (omega (arith, c.rises p y a e, ap w.least x, c.first_least))
  one_link (Some p) (Some q) y a b e f = ap Some (which (c.apart p q a b))
    where
      which : (p ≡ q) ⊎ IsBefore w p q ⊎ IsBefore w q p → p ≡ q
      which (inl x) = x
      which (inr (inl x)) = let m : x.next ≡ y = same_Some x.next y (sym x.follows ∙ e) in absurd (omega (arith, x.above, ap w.least m, c.rises q y b f))
      which (inr (inr x)) = let m : x.next ≡ y = same_Some x.next y (sym x.follows ∙ f) in absurd (omega (arith, x.above, ap w.least m, c.rises p y a e))

  -- what a link leads to is live
  pub leads_live : (p : Option ℕ) (y : ℕ) → IsLink ledger p → leads w p ≡ Some y → IsLive ledger y
  leads_live None y a e = subst (IsLive ledger) (same_Some c.first y (sym c.leads ∙ e)) c.first_live
  leads_live (Some p) y a e = c.linked p y a e

  -- the rows of a list that begins with a live row are live, and their least keys are at least its
  pub links_live : (x : ℕ) (xs : List ℕ) (after : Option ℕ) → Links w.next x xs after → IsLive ledger x → (y : ℕ) → IsIn (x ∷ xs) y → IsLive ledger y × (w.least x ≤ w.least y)
  links_live x [] after l a y (inl e) = (subst (IsLive ledger) (sym e) a, omega (arith, ap w.least e))
  links_live x [] after l a y (inr i) = absurd i
  links_live x (m ∷ ms) after l a y (inl e) = (subst (IsLive ledger) (sym e) a, omega (arith, ap w.least e))
  links_live x (m ∷ ms) after l a y (inr i) =
      let t = links_live m ms after l.1 (c.linked x m a l.0) y i in
      (t.0, omega (arith, t.1, c.rises x m a l.0))

  -- and what stands after them is live and has a greater least key than each
  pub after_live : (x : ℕ) (xs : List ℕ) (after : Option ℕ) → Links w.next x xs after → IsLive ledger x → (b : ℕ) → after ≡ Some b → IsLive ledger b × ((y : ℕ) → IsIn (x ∷ xs) y → w.least y < w.least b)
  after_live x [] after l a b e = (c.linked x b a (l ∙ e), only)
    where
      only : (y : ℕ) → IsIn (x ∷ []) y → w.least y < w.least b
      only y (inl f) = omega (arith, ap w.least f, c.rises x b a (l ∙ e))
      only y (inr i) = absurd i
  after_live x (m ∷ ms) after l a b e = whole (after_live m ms after l.1 (c.linked x m a l.0) b e)
    where
      each : ((y : ℕ) → IsIn (m ∷ ms) y → w.least y < w.least b) → (y : ℕ) → IsIn (x ∷ m ∷ ms) y → w.least y < w.least b
      each k y (inl f) = omega (arith, ap w.least f, c.rises x m a l.0, k m (inl refl))
      each k y (inr i) = k y i

      whole : IsLive ledger b × ((y : ℕ) → IsIn (m ∷ ms) y → w.least y < w.least b) → IsLive ledger b × ((y : ℕ) → IsIn (x ∷ m ∷ ms) y → w.least y < w.least b)
      whole k = (k.0, each k.1)

  -- a live row that is none of them and after the first is at or after what stands after them
  pub beyond : (x : ℕ) (xs : List ℕ) (after : Option ℕ) → Links w.next x xs after → IsLive ledger x → (y : ℕ) → IsLive ledger y → (IsIn (x ∷ xs) y → ⊥) → IsBefore w x y → (b : ℕ) × (after ≡ Some b) × (w.least b ≤ w.least y)
  beyond x [] after l a y v d o = (o.next, sym l ∙ o.follows, o.above)
  beyond x (m ∷ ms) after l a y v d o = beyond m ms after l.1 (c.linked x m a l.0) y v (λ i. d (inr i)) (which (c.apart m y (c.linked x m a l.0) v))
    where
      low : w.least m ≤ w.least y
      low = omega (arith, o.above, ap w.least (same_Some m o.next (sym l.0 ∙ o.follows)))

      which : (m ≡ y) ⊎ IsBefore w m y ⊎ IsBefore w y m → IsBefore w m y
      which (inl e) = absurd (d (inr (inl (sym e))))
      which (inr (inl k)) = k
      which (inr (inr k)) = absurd (omega (arith, low, k.above, c.rises y k.next v k.follows))
