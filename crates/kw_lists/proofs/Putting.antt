-- A put links its cell in, and loses fewer exchanges than there are cells.
use Rattle.std.proofs.Common.{ℕ, ◌≡◌, ◌≢◌, ◌⊎◌, inl, inr, ◌+◌, ◌<◌, ◌≤◌, true, false, Option, Some, None, arith, refl, sym, ◌∙◌, subst}
use Rattle.kw_lists.specs.Counts.{count_below}
use Rattle.kw_lists.specs.Rows.{Row, Stands, IsOn, IsList, Leads}
use Rattle.kw_lists.specs.Changes.{IsAhead, MayInsert, Leaves}
use Rattle.kw_lists.specs.Puts.{IsFrom, IsAt, IsSet, LeavesCell, LeavesOwn}
use Rattle.kw_lists.proofs.Orders.{stands_or}
use Rattle.kw_lists.proofs.Counting.{count_less}
use Rattle.kw_lists.proofs.Same.{behind_same, ahead_same}
use Rattle.kw_lists.proofs.Leaving.{on_left, count_left}

-- What the put does.

-- it begins at the row's first link
pub put_begins : (n : ℕ) (r : Row) (own : ℕ) → r.listed own ≡ false → IsFrom n r own 0 None
put_begins n r own u = record { unlisted = u; on = tt; behind = tt; fewer = omega arith }

-- what a link of a list holds is none or listed
pub held_on : (r : Row) (at to : Option ℕ) → Leads r at to → IsOn r to
held_on r at None l = tt
held_on r at (Some c) l = l.listed

-- it loads its link
pub put_loads : (n : ℕ) (r : Row) (own lost : ℕ) (at : Option ℕ) → IsList r → IsFrom n r own lost at → IsAt n r own lost at (r.link at)
put_loads n r own lost at l k = record { from = k; known = held_on r at (r.link at) (l at k.on); grown = inl refl }

-- it goes on to the link of a cell that stands before its own
pub put_goes_by : (n : ℕ) (r : Row) (own lost : ℕ) (at : Option ℕ) (c : ℕ) → IsAt n r own lost at (Some c) → Stands r c own → IsFrom n r own lost (Some c)
put_goes_by n r own lost at c k s = record { unlisted = k.from.unlisted; on = k.known; behind = s; fewer = k.from.fewer }

-- before any other cell stands its own
pub put_stops : (n : ℕ) (r : Row) (own lost : ℕ) (at : Option ℕ) (c : ℕ) → IsAt n r own lost at (Some c) → (Stands r c own → ⊥) → IsAhead r own (Some c)
put_stops n r own lost at c k s = which (stands_or r c own)
  where
    which : (c ≡ own) ⊎ Stands r c own ⊎ Stands r own c → Stands r own c
    which (inl q) = let u : r.listed own ≡ true = subst (λ x. r.listed x ≡ true) q k.known in absurd (cc (u, k.from.unlisted))
    which (inr (inl x)) = absurd (s x)
    which (inr (inr x)) = x

-- what the exchange needs to link the cell in is just what the put knows there, where the link is
-- as it was: so what each put does to the others is what they may count on
pub put_inserts : (n : ℕ) (r : Row) (own lost : ℕ) (at held : Option ℕ) → IsSet n r own lost at held → r.link at ≡ held → MayInsert r at own
put_inserts n r own lost at held k e = record {
  unlisted = k.saw.from.unlisted;
  on = k.saw.from.on;
  behind = k.saw.from.behind;
  ahead = subst (IsAhead r own) (sym e) k.ahead;
  after = k.after ∙ sym e;
}

-- where the link has changed the exchange is lost
pub put_loses : (n : ℕ) (r : Row) (own lost : ℕ) (at held : Option ℕ) → IsAt n r own lost at held → r.link at ≢ held → IsFrom n r own (lost + 1) None
put_loses n r own lost at held k d = record { unlisted = k.from.unlisted; on = tt; behind = tt; fewer = which k.grown }
  where
    which : (r.link at ≡ held) ⊎ (lost < count_below n r.listed) → lost + 1 ≤ count_below n r.listed
    which (inl e) = absurd (d e)
    which (inr g) = omega arith

-- fewer are lost than there are cells, since the put's own is not listed
pub put_lost : (n : ℕ) (r : Row) (own lost : ℕ) (at : Option ℕ) → own < n → IsFrom n r own lost at → lost < n
put_lost n r own lost at u k = omega (arith, k.fewer, count_less n r.listed own u k.unlisted)

-- What other seats leave.

module _ (n : ℕ) (r r' : Row) (own : ℕ) (w : Leaves n r r') where
  -- the put may load its link still
  pub from_stays : LeavesCell r r' own → (lost : ℕ) (at : Option ℕ) → IsFrom n r own lost at → IsFrom n r' own lost at
  from_stays o lost at k = record {
    unlisted = o.unlisted;
    on = on_left n r r' at w k.on;
    behind = behind_same r r' w.cell at own k.on o.cell k.behind;
    fewer = omega (arith, k.fewer, count_left n r r' w);
  }

  -- what it knows of the link that it loaded it still knows
  pub at_stays : LeavesCell r r' own → (lost : ℕ) (at held : Option ℕ) → IsAt n r own lost at held → IsAt n r' own lost at held
  at_stays o lost at held k = record { from = from_stays o lost at k.from; known = on_left n r r' held w k.known; grown = which (w.link at k.from.on) k.grown }
    where
      which : (r'.link at ≡ r.link at) ⊎ (count_below n r.listed < count_below n r'.listed) → (r.link at ≡ held) ⊎ (lost < count_below n r.listed) → (r'.link at ≡ held) ⊎ (lost < count_below n r'.listed)
      which (inl x) (inl y) = inl (x ∙ y)
      which (inr x) y = inr (omega (arith, x, k.from.fewer))
      which (inl x) (inr y) = inr (omega (arith, y, count_left n r r' w))

  -- its cell stands before what the link held still
  pub ahead_stays : LeavesCell r r' own → (held : Option ℕ) → IsOn r held → IsAhead r own held → IsAhead r' own held
  ahead_stays o held h a = ahead_same r r' w.cell own held o.cell h a

  -- and it may make its exchange still
  pub set_stays : LeavesOwn r r' own → (lost : ℕ) (at held : Option ℕ) → IsSet n r own lost at held → IsSet n r' own lost at held
  set_stays o lost at held k = record { saw = at_stays o.cell lost at held k.saw; ahead = ahead_stays o.cell held k.saw.known k.ahead; after = o.after ∙ k.after }
