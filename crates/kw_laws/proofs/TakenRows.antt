-- Of a group that was gathered, each attempt that was announced is lost, or stamped and gathered.
use Rattle.std.proofs.Common.{ℕ, suc, ◌≡◌, ◌⊎◌, inl, inr, ◌<◌, Bool, true, false, Option, Some, List, [], ◌∷◌, arith, refl, sym, ◌∙◌, subst, slice_get}
use Rattle.std.specs.Prelude.{Contains}
use Rattle.std.proofs.lemmas.Bool.{cases_eq}
use Rattle.std.proofs.lemmas.List.Elements.{All-contains}
use Rattle.std.proofs.lemmas.Option.{same_Some}
use Rattle.kw_cells.specs.declared.cell.Cell.{Cell}
use Rattle.kw_world.specs.declared.activity.Activity.{Activity}
use Rattle.kw_world.specs.declared.activity.rebalance.Rebalance.TheVariants as Rebalance
use Rattle.kw_world.specs.declared.activity.rebalance.replace.Replace.TheVariants as Replace
use Rattle.kw_world.specs.declared.local.Local.{Local}
use Rattle.kw_world.specs.GroupPlaces.{cell_at, places, row_at, source}
use Rattle.kw_world.specs.Sizes.{Sizes}
use Rattle.kw_world.specs.Step.{word}
use Rattle.kw_core.specs.History.{History, attempt}
use Rattle.kw_core.specs.Run.{Run}
use Rattle.kw_core.proofs.Happens.{not_chosen}
use Rattle.kw_shape.specs.Infants.{nursing_of}
use Rattle.kw_shape.proofs.Hands.{HasGroup}
use Rattle.kw_puts.specs.Builds.{HasPlanned, IsCellOf, IsGathered, has_place}
use Rattle.kw_puts.specs.Freezes.{HasPassed, IsOfGroup, IsSettled}
use Rattle.kw_puts.specs.Puts.{HasCell, IsCopyAt}
use Rattle.kw_puts.proofs.FrozenRows.{announced_pending, not_pending}
use Rattle.kw_puts.proofs.GroupCells.{row_of_group}
use Rattle.kw_puts.proofs.GroupRows.{group_linked}
use Rattle.kw_reads.specs.Inv.{Inv, lower}
use Rattle.kw_laws.specs.Laws.{IsTaken}

-- a seat that has its plan knows its group, and has gone by each entry of its rows
record HasGoneByAll (a : Activity) (l : Local) : Type 0 where
  known : HasGroup a
  passed : (q j : ℕ) → IsOfGroup l q → HasPassed a l q j

planned : (a : Activity) (l : Local) → HasPlanned (nursing_of a) → HasGoneByAll a l
planned (Activity.Rebalance (Rebalance.Seek _)) l p = record { known = tt; passed = λ q j y. (tt, y) }
planned (Activity.Rebalance (Rebalance.Write _)) l p = record { known = tt; passed = λ q j y. (tt, y) }
planned (Activity.Rebalance (Rebalance.Replace Replace.Start)) l p = record { known = tt; passed = λ q j y. (tt, y) }
planned (Activity.Rebalance (Rebalance.Replace Replace.GuessedLeast)) l p = record { known = tt; passed = λ q j y. (tt, y) }
planned (Activity.Rebalance (Rebalance.Replace Replace.First)) l p = record { known = tt; passed = λ q j y. (tt, y) }
planned (Activity.Rebalance (Rebalance.Replace Replace.Next)) l p = record { known = tt; passed = λ q j y. (tt, y) }
planned (Activity.Rebalance (Rebalance.Replace Replace.NextLeast)) l p = record { known = tt; passed = λ q j y. (tt, y) }
planned (Activity.Rebalance (Rebalance.Replace Replace.Exchange)) l p = record { known = tt; passed = λ q j y. (tt, y) }
planned _ l p = absurd p

-- a place at which a cell was gathered is that of one of the cells
place_has : (cells : List Cell) (n : ℕ) → has_place n cells ≡ true → (c : Cell) × Contains cells c × (c.place ≡ n)
place_has [] n e = let x : false ≡ true = e in absurd (cc)
place_has (d ∷ cells) n e = which (cases_eq d.place n) (place_has cells n)
  where
    which : (d.place ≡ n) ⊎ (d.place ≡ n → ⊥) → (has_place n cells ≡ true → (c : Cell) × Contains cells c × (c.place ≡ n)) → (c : Cell) × Contains (d ∷ cells) c × (c.place ≡ n)
    which (inl f) g = (d, (0, omega arith, refl), f)
    which (inr f) g = let x = g (sym (not_chosen d.place n true (has_place n cells) f) ∙ e) in (x.0, (suc x.1.0, omega (arith, x.1.1), x.1.2), x.2)

-- a gathered cell is that of the attempt for which its place stands
place_is : (h : History) (places : ℕ → Option ℕ) (c : Cell) (p : ℕ) → IsGathered h places c → places c.place ≡ Some p → IsCellOf h c p
place_is h places c p g e = subst (IsCellOf h c) (same_Some g.put p (sym g.origin ∙ e)) g.is

module _ (z : Sizes) (r : Run) (i : Inv z r) (t : ℕ) (l : Local) (knows : slice_get r.world.locals t ≡ Some l) (plan : HasPlanned (nursing_of l.activity)) where
  gone_by : HasGoneByAll l.activity l
  gone_by = planned l.activity l plan

  -- what was announced in a row of the group and is not lost is stamped: its entry is not pending
  -- any more
  stamped : (q c p : ℕ) → IsOfGroup l q → r.origin q c ≡ Some p → (attempt r.history p).is_announced ≡ true → (attempt r.history p).is_lost ≡ false → (attempt r.history p).is_stamped ≡ true
  stamped q c p y o a k = which (i.puts.places.owner q c p (group_linked z r i.shape t l knows q gone_by.known y) (i.readers.within q c p o) o) (attempt r.history p).is_stamped refl
    where
      which : HasCell r.ledger.rows r.history q c p ⊎ IsCopyAt (word z r.world) r.ledger.rows r.history q c p → (b : Bool) → (attempt r.history p).is_stamped ≡ b → (attempt r.history p).is_stamped ≡ true
      which x true e = e
      which (inr x) false e = x.stamped
      which (inl x) false e =
          let seat = (i.puts.placed p x.within).seat in
          let pending = announced_pending z r (lower i) p x.within a e k in
          let settled : IsSettled (word z r.world) (slice_get r.world.locals) q (attempt r.history p).seat = (i.puts.freezes t l knows).settled q (attempt r.history p).seat (gone_by.passed q (attempt r.history p).seat y) seat in
          absurd (not_pending (word z r.world) (slice_get r.world.locals) (attempt r.history p).row (attempt r.history p).seat (attempt r.history p).cell (subst (λ x. IsSettled (word z r.world) (slice_get r.world.locals) x (attempt r.history p).seat) (sym x.row) settled) pending)

  pub is_taken : (place p : ℕ) → place < places z l.rebalance.second → source z r.origin l place ≡ Some p → (attempt r.history p).is_announced ≡ true → (attempt r.history p).is_lost ≡ false → IsTaken r l place p
  is_taken place p w o a k =
      let g = place_has l.rebalance.gathered place ((i.puts.builds t l knows).holds plan place p w o (stamped (row_at z l place) (cell_at z place) p (row_of_group z l place w) o a k)) in
      record {
        cell = g.0;
        among = g.1;
        place = g.2;
        is = place_is r.history (source z r.origin l) g.0 p (All-contains (IsGathered r.history (source z r.origin l)) l.rebalance.gathered g.0 ((i.puts.builds t l knows).collected plan) g.1) (subst (λ n. source z r.origin l n ≡ Some p) (sym g.2) o);
      }
