-- The new rows of a plan: their least keys rise, and each cell of a new row has a key from the
-- row's least one on, and below that of the next.
--
-- Nothing here reads a world: a plan is one of the cells that are kept, and of where the new rows
-- start among them.
use Rattle.std.proofs.Common.{◌*◌, ℕ, zero, suc, ◌≡◌, ◌⊎◌, inl, inr, ◌+◌, ◌-◌, ◌<◌, ◌≤◌, ◌==◌, All, false, List, [], ◌∷◌, arith, refl, sym, ◌∙◌, ap, subst, drop, get_or, length}
use Rattle.std.proofs.lemmas.Bool.{cases_lt}
use Rattle.std.proofs.lemmas.Bool.Decides.{nat_tests}
use Rattle.std.proofs.lemmas.List.{get_or-drop, get_or-take, get_or_default, get_or_past, length-drop, length-take}
use Rattle.kw_cells.specs.declared.cell.Cell.{Cell}
use Rattle.kw_cells.specs.Cuts.{AreCuts, end_of}
use Rattle.kw_cells.specs.Kept.{AreRising, HasFew, kept_of}
use Rattle.kw_cells.proofs.Even.{are_cuts}
use Rattle.kw_cells.proofs.Few.{few_of_kept, few_within}
use Rattle.kw_cells.proofs.KeptOf.{kept_of-rising}
use Rattle.kw_cells.proofs.Rising.{any_cell, keys_rise}
use Rattle.kw_world.specs.declared.activity.Activity.{Activity}
use Rattle.kw_world.specs.declared.local.Local.{Local}
use Rattle.kw_world.specs.SeekTransitions.{at_infant}
use Rattle.kw_world.specs.Sizes.{Sizes}
use Rattle.kw_world.specs.WriteTransitions.{first_cell_key, infant_cells, infant_least}
use Rattle.kw_shape.specs.Infants.{nursing_of}
use Rattle.kw_shape.specs.Keyed.{IsPlanned}
use Rattle.kw_shape.specs.Plans.{Plans}

-- the kept cells rise, and are cut into the new rows
pub record IsPlan (built : ℕ) (l : Local) : Type 0 where
  pub rising : AreRising l.rebalance.kept
  pub starts : AreCuts built l.rebalance.kept l.rebalance.starts

-- a seat has such a plan where a new row has room for the cells of one key
pub plan_of : (z : Sizes) (a : Activity) (l : Local) → Plans z a l → IsPlanned (nursing_of a) → 2 * z.seats < z.built → length l.rebalance.needed ≤ 2 * z.seats → IsPlan z.built l
plan_of z a l p x b n = record { rising = rising; starts = subst (AreCuts z.built l.rebalance.kept) (sym (p.starts x)) (are_cuts z.built l.rebalance.kept rising few) }
  where
    rising : AreRising l.rebalance.kept
    rising = subst AreRising (sym (p.kept x)) (kept_of-rising l.rebalance.gathered l.rebalance.needed)

    few : HasFew z.built l.rebalance.kept
    few = subst (HasFew z.built) (sym (p.kept x)) (few_within (length l.rebalance.needed + 1) z.built (kept_of l.rebalance.gathered l.rebalance.needed) (omega (arith, b, n)) (few_of_kept l.rebalance.gathered l.rebalance.needed))

-- the key of the first cell, where there is one
first_key_is : (cells : List Cell) (d : Cell) → 0 < length cells → first_cell_key cells ≡ (get_or cells 0 d).key
first_key_is [] d o = absurd (omega (arith, o))
first_key_is (c ∷ cells) d o = refl

module _ (built : ℕ) (l : Local) (plan : IsPlan built l) where
  -- where a row starts
  abbrev start : ℕ → ℕ
  start i = get_or l.rebalance.starts i 0

  -- where a row ends that another one follows
  ends_before : (i : ℕ) → i + 1 < length l.rebalance.starts → end_of l.rebalance.kept l.rebalance.starts i ≡ start (i + 1)
  ends_before i o = get_or_default l.rebalance.starts (i + 1) (length l.rebalance.kept) 0 o

  -- a cell of a new row is a kept one, before the row's end
  cell_within : (i j : ℕ) → j < length (infant_cells (at_infant i l)) → (start i + j < end_of l.rebalance.kept l.rebalance.starts i) × (start i + j < length l.rebalance.kept)
  cell_within i j o =
      let n : length (infant_cells (at_infant i l)) ≤ end_of l.rebalance.kept l.rebalance.starts i - start i = omega (arith, length-take (end_of l.rebalance.kept l.rebalance.starts i - start i) (drop (start i) l.rebalance.kept)) in
      let m : length (infant_cells (at_infant i l)) ≤ length l.rebalance.kept - start i = omega (arith, length-take (end_of l.rebalance.kept l.rebalance.starts i - start i) (drop (start i) l.rebalance.kept), length-drop (start i) l.rebalance.kept) in
      (omega (arith, n, o), omega (arith, m, o))

  -- the one so many places behind the row's start
  cell_is : (i j : ℕ) (d : Cell) → j < length (infant_cells (at_infant i l)) → get_or (infant_cells (at_infant i l)) j d ≡ get_or l.rebalance.kept (start i + j) d
  cell_is i j d o =
      let w = (cell_within i j o).0 in
      get_or-take (end_of l.rebalance.kept l.rebalance.starts i - start i) (drop (start i) l.rebalance.kept) j d (omega (arith, w)) ∙ get_or-drop (start i) l.rebalance.kept j d

  -- what holds of all kept cells holds of those of a new row
  pub cells_have : (P : Cell → Type 0) → All P l.rebalance.kept → (i : ℕ) → All P (infant_cells (at_infant i l))
  cells_have P all i j d o = subst P (sym (cell_is i j d o)) (all (start i + j) d (cell_within i j o).1)

  -- each new row but the first has a cell
  has_cell : (i : ℕ) → i + 1 < length l.rebalance.starts → (0 < length (infant_cells (at_infant (i + 1) l))) × (start (i + 1) < length l.rebalance.kept)
  has_cell i o = (
    omega (arith, w, within, length-take (end_of l.rebalance.kept l.rebalance.starts (i + 1) - start (i + 1)) (drop (start (i + 1)) l.rebalance.kept), length-drop (start (i + 1)) l.rebalance.kept),
    within,
  )
    where
      within : start (i + 1) < length l.rebalance.kept
      within = plan.starts.within i o

      w : start (i + 1) < end_of l.rebalance.kept l.rebalance.starts (i + 1)
      w = which (cases_lt (i + 2) (length l.rebalance.starts))
        where
          which : ((i + 2 < length l.rebalance.starts) ⊎ (length l.rebalance.starts ≤ i + 2)) → start (i + 1) < end_of l.rebalance.kept l.rebalance.starts (i + 1)
          which (inl p) = let a = plan.starts.later (i + 1) (omega (arith, p)) in let e = ends_before (i + 1) (omega (arith, p)) in omega (arith, a, e)
          which (inr p) = let e : end_of l.rebalance.kept l.rebalance.starts (i + 1) ≡ length l.rebalance.kept = get_or_past l.rebalance.starts (i + 1 + 1) (length l.rebalance.kept) (omega (arith, p)) in omega (arith, e, within)

  -- its least key is that of the kept cell at which it starts
  least_is : (i : ℕ) (d : Cell) → i + 1 < length l.rebalance.starts → infant_least (at_infant (i + 1) l) ≡ (get_or l.rebalance.kept (start (i + 1)) d).key
  least_is i d o =
      let h = has_cell i o in
      let e = cell_is (i + 1) 0 d h.0 in
      let n : start (i + 1) + 0 ≡ start (i + 1) = omega arith in
      let t : (i + 1 == 0) ≡ false = grind (arith, nat_tests) in
      let f : infant_least (at_infant (i + 1) l) ≡ first_cell_key (infant_cells (at_infant (i + 1) l)) = rw t refl in
      f ∙ first_key_is (infant_cells (at_infant (i + 1) l)) d h.0 ∙ ap (λ (c : Cell). c.key) e ∙ ap (λ x. (get_or l.rebalance.kept x d).key) n

  -- the keys of a row are below the least one of the next
  pub cells_below : (i : ℕ) → i + 1 < length l.rebalance.starts → All (λ c. c.key < infant_least (at_infant (i + 1) l)) (infant_cells (at_infant i l))
  cells_below i o j d p =
      let w = (cell_within i j p).0 in
      let e = ends_before i o in
      let b = plan.starts.between (i + 1) (start i + j) (start (i + 1)) d o (omega (arith, w, e)) (omega arith) (has_cell i o).1 in
      let x : (get_or (infant_cells (at_infant i l)) j d).key ≡ (get_or l.rebalance.kept (start i + j) d).key = ap (λ (c : Cell). c.key) (cell_is i j d p) in
      omega (arith, b, x, least_is i d o)

  -- where all kept keys are from that of the full row on
  module _ (from : All (λ c. l.lower ≤ c.key) l.rebalance.kept) where
    -- those of a row are from its least one on
    pub cells_from : (i : ℕ) → i < length l.rebalance.starts → All (λ c. infant_least (at_infant i l) ≤ c.key) (infant_cells (at_infant i l))
    cells_from zero o j d p = cells_have (λ c. l.lower ≤ c.key) from 0 j d p
    cells_from (suc i) o j d p = subst (λ x. All (λ c. infant_least (at_infant x l) ≤ c.key) (infant_cells (at_infant x l))) m at j d p
      where
        m : i + 1 ≡ suc i
        m = omega arith

        at : All (λ c. infant_least (at_infant (i + 1) l) ≤ c.key) (infant_cells (at_infant (i + 1) l))
        at k e q =
            let w = (cell_within (i + 1) k q).1 in
            let b = keys_rise l.rebalance.kept plan.rising (start (i + 1)) (start (i + 1) + k) e (omega arith) w in
            let x : (get_or (infant_cells (at_infant (i + 1) l)) k e).key ≡ (get_or l.rebalance.kept (start (i + 1) + k) e).key = ap (λ (c : Cell). c.key) (cell_is (i + 1) k e q) in
            omega (arith, b, x, least_is i e (omega (arith, o)))

    -- the least keys of the rows rise
    pub leasts_rise : (i : ℕ) → i + 1 < length l.rebalance.starts → infant_least (at_infant i l) < infant_least (at_infant (i + 1) l)
    leasts_rise zero o =
        let s = plan.starts.later 0 o in
        let f = plan.starts.first in
        let a = plan.starts.between 1 0 (start 1) any_cell o (omega (arith, s, f)) (omega arith) (has_cell 0 o).1 in
        let b = from 0 any_cell (omega (arith, (has_cell 0 o).1)) in
        let c : infant_least (at_infant 0 l) ≡ l.lower = refl in
        omega (arith, a, b, c, least_is 0 any_cell o)
    leasts_rise (suc i) o =
        let m : i + 1 ≡ suc i = omega arith in
        let e : infant_least (at_infant (suc i) l) ≡ (get_or l.rebalance.kept (start (suc i)) any_cell).key = subst (λ x. infant_least (at_infant x l) ≡ (get_or l.rebalance.kept (start x) any_cell).key) m (least_is i any_cell (omega (arith, o))) in
        let b = plan.starts.between (suc i + 1) (start (suc i)) (start (suc i + 1)) any_cell o (plan.starts.later (suc i) o) (omega arith) (has_cell (suc i) o).1 in
        omega (arith, b, e, least_is (suc i) any_cell o)

  -- the least key of each row is below a number that is above all kept keys and that of the full
  -- row
  pub leasts_below : (u : ℕ) → l.lower < u → All (λ c. c.key < u) l.rebalance.kept → (i : ℕ) → i < length l.rebalance.starts → infant_least (at_infant i l) < u
  leasts_below u o all zero p = o
  leasts_below u o all (suc i) p =
      let m : i + 1 ≡ suc i = omega arith in
      let e : infant_least (at_infant (suc i) l) ≡ (get_or l.rebalance.kept (start (suc i)) any_cell).key = subst (λ x. infant_least (at_infant x l) ≡ (get_or l.rebalance.kept (start x) any_cell).key) m (least_is i any_cell (omega (arith, p))) in
      let w : start (suc i) < length l.rebalance.kept = subst (λ x. start x < length l.rebalance.kept) m (has_cell i (omega (arith, p))).1 in
      omega (arith, e, all (start (suc i)) any_cell w)
