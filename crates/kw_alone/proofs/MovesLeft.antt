-- The rows to which a seat may yet move become no more until it has replaced one, and a move makes
-- them fewer.
use Rattle.std.proofs.Common.{ℕ, ◌≡◌, ◌⊎◌, inl, inr, ◌<◌, ◌≤◌, true, false, arith, refl, length}
use Rattle.std.proofs.lemmas.Bool.{false_from_ne_true}
use Rattle.kw_lists.specs.Counts.{count_below}
use Rattle.kw_lists.proofs.Counting.{count_gains, count_grows, count_most}
use Rattle.kw_rows.specs.Ledger.{Ledger, IsLive}
use Rattle.kw_world.specs.declared.activity.Activity.{Activity}
use Rattle.kw_world.specs.declared.activity.rebalance.Rebalance.TheVariants as Rebalance
use Rattle.kw_world.specs.declared.activity.rebalance.replace.Replace.TheVariants as Replace
use Rattle.kw_world.specs.declared.event.Choice.{Choice}
use Rattle.kw_world.specs.declared.local.Local.{Local}
use Rattle.kw_world.specs.Sizes.{Sizes}
use Rattle.kw_world.specs.Step.{word}
use Rattle.kw_core.specs.Run.{Run}
use Rattle.kw_core.specs.Stages.{IsBalancing, IsStaying}
use Rattle.kw_core.specs.Words.{Words, least_in}
use Rattle.kw_shape.proofs.LinkedRows.{ComesNow, linked_least, was_below}
use Rattle.kw_alone.specs.Wins.{begins, is_left_of, moves_left}
use Rattle.kw_alone.proofs.Going.{left_by, left_test}
use Rattle.kw_alone.proofs.GoingStays.{StaysLive, live_was}
use Rattle.kw_alone.proofs.Steps.{Steps}

-- By activity.

-- never more than there are rows
pub moves_most : (rows : ℕ) (v : Words) (g : Ledger) (a : Activity) (l : Local) → moves_left rows v g a l ≤ rows
moves_most rows v g (Activity.Leave answer) l = omega arith
moves_most rows v g (Activity.Rebalance (Rebalance.Replace Replace.Normalise)) l = omega arith
moves_most rows v g (Activity.Rebalance (Rebalance.Replace Replace.Number)) l = omega arith
moves_most rows v g (Activity.Rebalance (Rebalance.Replace Replace.Retire)) l = omega arith
moves_most rows v g (Activity.Rebalance _) l = count_most rows (is_left_of v g l.lower)
moves_most rows v g _ l = omega arith

-- in a rebalance those left of the full row
pub moves_there : (rows : ℕ) (v : Words) (g : Ledger) (a : Activity) (l : Local) → IsBalancing a → begins a ≡ false → moves_left rows v g a l ≡ count_below rows (is_left_of v g l.lower)
moves_there rows v g (Activity.Rebalance (Rebalance.Replace Replace.Normalise)) l b e = absurd (cc)
moves_there rows v g (Activity.Rebalance (Rebalance.Replace Replace.Number)) l b e = absurd (cc)
moves_there rows v g (Activity.Rebalance (Rebalance.Replace Replace.Retire)) l b e = absurd (cc)
moves_there rows v g (Activity.Rebalance _) l b e = refl
moves_there rows v g _ l b e = absurd b

-- and as many as there are elsewhere, but at the end
pub moves_else : (rows : ℕ) (v : Words) (g : Ledger) (a : Activity) (l : Local) → IsStaying a → (IsBalancing a → ⊥) ⊎ (begins a ≡ true) → moves_left rows v g a l ≡ rows
moves_else rows v g (Activity.Leave answer) l st n = absurd st
moves_else rows v g (Activity.Rebalance (Rebalance.Replace Replace.Normalise)) l st n = refl
moves_else rows v g (Activity.Rebalance (Rebalance.Replace Replace.Number)) l st n = refl
moves_else rows v g (Activity.Rebalance (Rebalance.Replace Replace.Retire)) l st n = refl
moves_else rows v g (Activity.Rebalance _) l st (inl n) = absurd (n tt)
moves_else rows v g (Activity.Rebalance _) l st (inr e) = absurd (cc)
moves_else rows v g _ l st n = refl

pub balancing_or_not : (a : Activity) → IsBalancing a ⊎ (IsBalancing a → ⊥)
balancing_or_not (Activity.Rebalance _) = inl tt
balancing_or_not _ = inr (λ b. b)

-- By rows.

module _ {z : Sizes} {r r' : Run} {s : ℕ} {choice : Choice} {l l' : Local} {a : Activity} (x : Steps z r r' s choice l l' a) (none : (q : ℕ) → ComesNow (word z r.world) r.ledger.rows r'.ledger.rows s (length r.history.log) l a q → ⊥) where
  abbrev v : Words
  v = word z r.world

  abbrev v' : Words
  v' = word z r'.world

  -- a row that is in the list was so
  pub was_live : (q : ℕ) → IsLive r'.ledger.rows q → IsLive r.ledger.rows q
  was_live q k = which (live_was a x.happens x.inv.shape q k)
    where
      which : StaysLive r.ledger.rows r'.ledger.rows q ⊎ ComesNow (word z r.world) r.ledger.rows r'.ledger.rows s (length r.history.log) l a q → IsLive r.ledger.rows q
      which (inl t) = t.live
      which (inr t) = absurd (none q t)

  -- one that is left of a lesser key was left of this one
  was_left : (low high : ℕ) → low ≤ high → (q : ℕ) → is_left_of v' r'.ledger.rows low q ≡ true → is_left_of v r.ledger.rows high q ≡ true
  was_left low high o q e =
      let t = left_by v' r'.ledger.rows low q e in
      let k = was_live q t.0 in
      left_test v r.ledger.rows high q k (omega (arith, t.1, o, linked_least a x.happens x.inv.shape q (inl k)))

  -- the seat goes on with its row
  pub moves_stay : l'.lower ≡ l.lower → count_below r.world.rows (is_left_of v' r'.ledger.rows l'.lower) ≤ count_below r.world.rows (is_left_of v r.ledger.rows l.lower)
  moves_stay e = count_grows r.world.rows (is_left_of v' r'.ledger.rows l'.lower) (is_left_of v r.ledger.rows l.lower) (was_left l'.lower l.lower (omega (arith, e)))

  -- it moves
  pub moves_fall : IsLive r'.ledger.rows l'.row → l'.lower ≡ least_in v' l'.row → l'.lower < l.lower → count_below r.world.rows (is_left_of v' r'.ledger.rows l'.lower) < count_below r.world.rows (is_left_of v r.ledger.rows l.lower)
  moves_fall k m o =
      let was = was_live l'.row k in
      count_gains r.world.rows (is_left_of v' r'.ledger.rows l'.lower) (is_left_of v r.ledger.rows l.lower) l'.row (was_below z r x.inv.shape l'.row (inl was))
      (false_from_ne_true _ (λ e. omega (arith, (left_by v' r'.ledger.rows l'.lower l'.row e).1, m)))
      (left_test v r.ledger.rows l.lower l'.row was (omega (arith, o, m, linked_least a x.happens x.inv.shape l'.row (inl was))))
      (was_left l'.lower l.lower (omega (arith, o)))
