-- What a seat that may name a row knows of it: it may name the row after it, where the range of the
-- row ends. And which rows are one.
use Rattle.std.proofs.Common.{ℕ, ◌≡◌, ◌⊎◌, inl, inr, ◌<◌, ◌≤◌, Option, Some, None, arith, refl, sym, ◌∙◌, ap}
use Rattle.std.proofs.lemmas.Option.{same_Some}
use Rattle.kw_rows.specs.Ledger.{Ledger, Status, Free, Infant, Live, Dead, IsLive, IsFresh, IsHeld, WasHeld}
use Rattle.kw_rows.specs.RowState as row
use Rattle.kw_rows.specs.RowState.{Normal}
use Rattle.kw_rows.specs.Rows.{Rows, Chain, Closed, HoldsKey, IsBefore, bound}
use Rattle.kw_rows.specs.States.{States, HasState}

-- a row that a seat may name is held
pub held_by : (g : Ledger) (t x : ℕ) → IsFresh g t x → IsHeld g x
held_by g t x (inl a) = inl a
held_by g t x (inr h) = inr (t, h)

-- a row of normal state is live
pub normal_live : (w : Rows) (g : Ledger) (x : ℕ) → States w g → w.state x ≡ Normal → IsLive g x
normal_live w g x states e = by_status (g.fates x).status (states x)
  where
    by_status : (s : Status) → HasState w g x s → s ≡ Live
    by_status Free h = let f : row.Free ≡ Normal = sym h ∙ e in absurd (cc)
    by_status Infant h = let f : row.Infant (g.fates x).owner ≡ Normal = sym h ∙ e in absurd (cc)
    by_status Live h = refl
    by_status Dead h = absurd (rw e at h)

module _ (w : Rows) (g : Ledger) (c : Closed w g) where
  -- the row after one that a seat may name is such a row
  pub fresh_next : (t x y : ℕ) → IsFresh g t x → w.next x ≡ Some y → IsFresh g t y
  fresh_next t x y f e = which (c.linked x y (held_by g t x f) e)
    where
      held : IsFresh g t x → (g.fates y).status ≡ Dead → ((g.fates x).status ≡ Dead) × ((g.fates x).gone ≤ (g.fates y).gone) → WasHeld g t y
      held (inl a) d o = let k : Live ≡ Dead = sym a ∙ o.0 in absurd (cc)
      held (inr h) d o = record { since = h.since; dead = d; visits = h.visits; before = omega (arith, h.before, o.1) }

      which : IsHeld g y → IsFresh g t y
      which (inl a) = inl a
      which (inr h) = inr (held f h.1.dead (c.later x y (held_by g t x f) e h.1.dead))

  -- its range ends where the row after it begins
  pub ends_at : (x y : ℕ) → IsHeld g x → w.next x ≡ Some y → (g.fates x).upper ≡ Some (w.least y)
  ends_at x y h e = c.upper x h ∙ ap (bound w) e

  -- and has no end if there is none
  pub ends_nowhere : (x : ℕ) → IsHeld g x → w.next x ≡ None → (g.fates x).upper ≡ None
  ends_nowhere x h e = c.upper x h ∙ ap (bound w) e

  -- one whose range ends is followed by a row that begins there
  pub row_after : (x u : ℕ) → IsHeld g x → (g.fates x).upper ≡ Some u → (y : ℕ) × (w.next x ≡ Some y) × (w.least y ≡ u)
  row_after x u h e = which (w.next x) (sym e ∙ c.upper x h)
    where
      which : (n : Option ℕ) → Some u ≡ bound w n → (y : ℕ) × (n ≡ Some y) × (w.least y ≡ u)
      which None f = let k : Some u ≡ None = f in absurd (cc)
      which (Some y) f = (y, refl, sym (same_Some u (w.least y) f))

  -- the end of a range is above its beginning
  pub above_least : (x u : ℕ) → IsHeld g x → (g.fates x).upper ≡ Some u → w.least x < u
  above_least x u h e = let n = row_after x u h e in omega (arith, n.2, c.rises x n.0 h n.1)

  -- two live rows of which each may hold the key are one
  pub one_row : (x y key : ℕ) → Chain w g → IsLive g x → IsLive g y → HoldsKey w g x key → HoldsKey w g y key → x ≡ y
  one_row x y key chain a b p q = which (chain.apart x y a b)
    where
      which : (x ≡ y) ⊎ IsBefore w x y ⊎ IsBefore w y x → x ≡ y
      which (inl e) = e
      which (inr (inl e)) = absurd (omega (arith, p.below (w.least e.next) (ends_at x e.next (inl a) e.follows), e.above, q.from))
      which (inr (inr e)) = absurd (omega (arith, q.below (w.least e.next) (ends_at y e.next (inl b) e.follows), e.above, p.from))

-- two live rows that begin at one key are one
pub one_beginning : (w : Rows) (g : Ledger) (x y : ℕ) → Chain w g → IsLive g x → IsLive g y → w.least x ≡ w.least y → x ≡ y
one_beginning w g x y c a b e = which (c.apart x y a b)
  where
    which : (x ≡ y) ⊎ IsBefore w x y ⊎ IsBefore w y x → x ≡ y
    which (inl f) = f
    which (inr (inl f)) = absurd (omega (arith, f.above, c.rises x f.next a f.follows, e))
    which (inr (inr f)) = absurd (omega (arith, f.above, c.rises y f.next b f.follows, e))
