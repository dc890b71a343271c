-- What a row shows of the puts that were stamped before a position, at that position and ever
-- after.
use Rattle.std.proofs.Common.{ℕ, ◌⊎◌, inl, inr, ◌<◌, ◌≤◌, arith, sym, subst}
use Rattle.kw_kept.specs.Puts.{Put, Puts, Shows}
use Rattle.kw_kept.specs.Readers.{Before, Front, GoesOn}
use Rattle.kw_kept.proofs.GreatestPut.{greatest_of_same}
use Rattle.kw_kept.proofs.Shown.{shows_still}

-- sets with the same puts of the key show the same
pub shows_of_same : (puts : Puts) (P P' Q Q' : ℕ → Type 0) (k u : ℕ) → ((p : ℕ) → P' p → P p) → ((p : ℕ) → P p → P' p) → ((p : ℕ) → Q' p → Q p) → ((p : ℕ) → Q p → Q' p) → Shows puts P Q k u → Shows puts P' Q' k u
shows_of_same puts P P' Q Q' k u a b c d h o t x y = h o t (greatest_of_same puts P' P k u u o (λ p e i l. (a p i, l)) (λ p e i l. (b p i, l)) x) (greatest_of_same puts Q' Q k u u t (λ p e i l. (c p i, l)) (λ p e i l. (d p i, l)) y)

-- where a row shows what all show, it does so of what is stamped by now
pub front_starts : (puts : Puts) (in_row stamped : ℕ → Type 0) (a k u : ℕ) → ((p : ℕ) → stamped p → (puts p).at < a) → ((p : ℕ) → in_row p → stamped p) → Shows puts in_row stamped k u → Front puts in_row stamped a k u
front_starts puts in_row stamped a k u f g = shows_of_same puts in_row (λ p. in_row p × Before puts stamped a p) stamped (Before puts stamped a) k u (λ p i. i.0) (λ p i. (i, (g p i, f p (g p i)))) (λ p i. i.0) (λ p i. (i, f p i))

-- what is stamped later does not change what was shown of the puts stamped before
pub front_stays : (puts puts' : Puts) (in_row in_row' stamped stamped' : ℕ → Type 0) (a k u : ℕ) → GoesOn puts puts' in_row in_row' stamped stamped' a → Front puts in_row stamped a k u → Front puts' in_row' stamped' a k u
front_stays puts puts' in_row in_row' stamped stamped' a k u g h =
    shows_of_same puts' (λ p. in_row p × Before puts stamped a p) (λ p. in_row' p × Before puts' stamped' a p) (Before puts stamped a) (Before puts' stamped' a) k u
    (λ p i. let b = was p i.1 in (g.row_was p i.0 b.0, b))
    (λ p i. (g.row_old p i.0 i.1.0, still p i.1))
    was
    still
    (shows_still puts puts' stamped g.unchanged (λ p. in_row p × Before puts stamped a p) (Before puts stamped a) k u (λ p i. i.1.0) (λ p i. i.0) h)
  where
    was : (p : ℕ) → Before puts' stamped' a p → Before puts stamped a p
    was p i = which (g.was p i.0)
      where
        which : stamped p ⊎ (a ≤ (puts' p).at) → Before puts stamped a p
        which (inl s) = (s, subst (λ (x : Put). x.at < a) (g.unchanged p s) i.1)
        which (inr l) = absurd (omega (arith, l, i.1))

    still : (p : ℕ) → Before puts stamped a p → Before puts' stamped' a p
    still p i = (g.old p i.0, subst (λ (x : Put). x.at < a) (sym (g.unchanged p i.0)) i.1)
