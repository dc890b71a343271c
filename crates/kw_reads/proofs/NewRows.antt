-- The keys of new rows: each key of a new row is one that a row of the group holds, and all kept
-- cells of the key are in that new row.
use Rattle.std.proofs.Common.{ℕ, zero, suc, ◌≡◌, ◌⊎◌, inl, inr, ◌+◌, ◌-◌, ◌<◌, ◌≤◌, All, Contains, List, [], ◌∷◌, Option, Some, None, arith, refl, sym, ◌∙◌, ap, subst, drop, get_or, length, slice_get, slice_index, take}
use Rattle.std.proofs.lemmas.Bool.{cases_lt, cases_order}
use Rattle.std.proofs.lemmas.List.{get_or-drop, get_or-take, get_or_default, get_or_past, length-drop, length-take}
use Rattle.std.proofs.lemmas.List.Elements.{All-contains}
use Rattle.std.proofs.lemmas.Option.{same_Some, slice_get-get_or}
use Rattle.kw_words.specs.Link.{link_of}
use Rattle.kw_words.specs.Plain.{key_of_word}
use Rattle.kw_words.proofs.LinkWords.{link_of-link_word}
use Rattle.kw_cells.specs.declared.cell.Cell.{Cell}
use Rattle.kw_cells.specs.Cuts.{end_of}
use Rattle.kw_rows.specs.Events.{Holds, IsIn}
use Rattle.kw_rows.specs.Ledger.{Fate, IsHeld}
use Rattle.kw_rows.specs.Rows.{bound}
use Rattle.kw_rows.proofs.Named.{ends_at}
use Rattle.kw_world.specs.declared.activity.Activity.TheVariants as Activity
use Rattle.kw_world.specs.declared.activity.rebalance.Rebalance.TheVariants as Rebalance
use Rattle.kw_world.specs.declared.activity.rebalance.replace.Replace.TheVariants as Replace
use Rattle.kw_world.specs.declared.event.Choice.{Choice}
use Rattle.kw_world.specs.declared.local.Local.{Local}
use Rattle.kw_world.specs.SeekTransitions.{at_infant}
use Rattle.kw_world.specs.Sizes.{Sizes}
use Rattle.kw_world.specs.Step.{word}
use Rattle.kw_world.specs.Transition.{row_linked}
use Rattle.kw_world.specs.WriteTransitions.{infant_cells, infant_least, infant_link, row_or}
use Rattle.kw_core.specs.Ledger.{fate_live, least_of}
use Rattle.kw_core.specs.Run.{Run}
use Rattle.kw_core.specs.Words.{least_in, next_in}
use Rattle.kw_core.proofs.Happens.{Happens}
use Rattle.kw_shape.proofs.BuildEvents.{least_word}
use Rattle.kw_shape.specs.Hands.{IsOfGroup}
use Rattle.kw_shape.specs.RowsIn.{rows_in}
use Rattle.kw_shape.specs.Shape.{HoldsKey, Shape}
use Rattle.kw_shape.proofs.Planned.{IsPlan, cells_below, cells_from, leasts_rise}
use Rattle.kw_shape.proofs.MayReplace.{has_start, held_row, is_plan, kept_from, least_of_new, may_replace}
use Rattle.kw_shape.proofs.LinkedRows.{infants_at}

-- Each kept cell is in one of the rows.

-- the row of this number starts at or before the place, and ends behind it
record IsPart (built : ℕ) (l : Local) (m n : ℕ) : Type 0 where
  number : n < length l.rebalance.starts
  from : slice_index l.rebalance.starts n ≤ m
  upto : m < end_of l.rebalance.kept l.rebalance.starts n

-- an element of a list is one of the part in which its place is
cut_has : (xs : List Cell) (a b m : ℕ) (c : Cell) → a ≤ m → m < b → m < length xs → get_or xs m c ≡ c → Contains (take (b - a) (drop a xs)) c
cut_has xs a b m c o u w e = (m - a, omega (arith, o, u, w, length-take (b - a) (drop a xs), length-drop a xs), get_or-take (b - a) (drop a xs) (m - a) c (omega (arith, o, u)) ∙ get_or-drop a xs (m - a) c ∙ ap (λ j. get_or xs j c) at ∙ e)
  where
    at : a + (m - a) ≡ m
    at = omega (arith, o)

module _ (built : ℕ) (l : Local) (plan : IsPlan built l) where
  -- a place before the end of a row is one of that row or of one before it
  part_below : (m j : ℕ) → j < length l.rebalance.starts → m < end_of l.rebalance.kept l.rebalance.starts j → (n : ℕ) × IsPart built l m n
  part_below m zero o u = (0, record { number = o; from = omega (arith, plan.starts.first); upto = u })
  part_below m (suc j) o u = which (cases_lt m (slice_index l.rebalance.starts (suc j))) (part_below m j (omega (arith, o)))
    where
      ends : end_of l.rebalance.kept l.rebalance.starts j ≡ slice_index l.rebalance.starts (suc j)
      ends =
          let e : j + 1 ≡ suc j = omega arith in
          ap (λ x. get_or l.rebalance.starts x (length l.rebalance.kept)) e ∙ get_or_default l.rebalance.starts (suc j) (length l.rebalance.kept) 0 o

      which : (m < slice_index l.rebalance.starts (suc j)) ⊎ (slice_index l.rebalance.starts (suc j) ≤ m) → (m < end_of l.rebalance.kept l.rebalance.starts j → (n : ℕ) × IsPart built l m n) → (n : ℕ) × IsPart built l m n
      which (inl w) f = f (omega (arith, w, ends))
      which (inr w) f = (suc j, record { number = o; from = w; upto = u })

  -- each place of the kept cells is one of a row
  part_of : (m : ℕ) → m < length l.rebalance.kept → (n : ℕ) × IsPart built l m n
  part_of m o =
      let e : end_of l.rebalance.kept l.rebalance.starts (length l.rebalance.starts - 1) ≡ length l.rebalance.kept = get_or_past l.rebalance.starts (length l.rebalance.starts - 1 + 1) (length l.rebalance.kept) (omega (arith, plan.starts.some)) in
      part_below m (length l.rebalance.starts - 1) (omega (arith, plan.starts.some)) (omega (arith, o, e))

  -- the cell of the place is one of the row's
  part_has : (m n : ℕ) (c : Cell) → m < length l.rebalance.kept → IsPart built l m n → get_or l.rebalance.kept m c ≡ c → Contains (infant_cells (at_infant n l)) c
  part_has m n c o x e = cut_has l.rebalance.kept (slice_index l.rebalance.starts n) (end_of l.rebalance.kept l.rebalance.starts n) m c x.from x.upto o e

  module _ (from : All (λ c. l.lower ≤ c.key) l.rebalance.kept) where
    -- the rows begin at or above the least key of the full row
    pub least_from : (n : ℕ) → n < length l.rebalance.starts → l.lower ≤ infant_least (at_infant n l)
    least_from zero o = omega arith
    least_from (suc n) o =
        let e : n + 1 ≡ suc n = omega arith in
        let x = leasts_rise built l plan from n (omega (arith, o)) in
        let y = subst (λ j. infant_least (at_infant n l) < infant_least (at_infant j l)) e x in
        omega (arith, y, least_from n (omega (arith, o)))

    -- one row's least key is at most that of each later one
    least_later : (n d : ℕ) → n + d < length l.rebalance.starts → infant_least (at_infant n l) ≤ infant_least (at_infant (n + d) l)
    least_later n zero o = let e : n + 0 ≡ n = omega arith in subst (λ j. infant_least (at_infant n l) ≤ infant_least (at_infant j l)) (sym e) (omega arith)
    least_later n (suc d) o =
        let e : n + d + 1 ≡ n + suc d = omega arith in
        let x = leasts_rise built l plan from (n + d) (omega (arith, o)) in
        let y = subst (λ j. infant_least (at_infant (n + d) l) < infant_least (at_infant j l)) e x in
        omega (arith, y, least_later n d (omega (arith, o)))

    -- a kept cell whose key is from the least one of a row on, and below that of the next, is in
    -- the row
    pub cell_in_row : (n : ℕ) (c : Cell) → n < length l.rebalance.starts → Contains l.rebalance.kept c → infant_least (at_infant n l) ≤ c.key → (n + 1 < length l.rebalance.starts → c.key < infant_least (at_infant (n + 1) l)) → Contains (infant_cells (at_infant n l)) c
    cell_in_row n c o (m, u, e) low high = which (cases_order x.0 n)
      where
        x : (j : ℕ) × IsPart built l m j
        x = part_of m u

        has : Contains (infant_cells (at_infant x.0 l)) c
        has = part_has m x.0 c u x.1 e

        which : (x.0 ≡ n) ⊎ ((x.0 < n) ⊎ (n < x.0)) → Contains (infant_cells (at_infant n l)) c
        which (inl f) = subst (λ j. Contains (infant_cells (at_infant j l)) c) f has
        which (inr (inl w)) =
            let d : x.0 + 1 + (n - (x.0 + 1)) ≡ n = omega (arith, w) in
            let a = All-contains (λ b. b.key < infant_least (at_infant (x.0 + 1) l)) (infant_cells (at_infant x.0 l)) c (cells_below built l plan x.0 (omega (arith, w, o))) has in
            let b = subst (λ j. infant_least (at_infant (x.0 + 1) l) ≤ infant_least (at_infant j l)) d (least_later (x.0 + 1) (n - (x.0 + 1)) (omega (arith, d, o))) in
            absurd (omega (arith, a, b, low))
        which (inr (inr w)) =
            let d : n + 1 + (x.0 - (n + 1)) ≡ x.0 = omega (arith, w) in
            let a = All-contains (λ b. infant_least (at_infant x.0 l) ≤ b.key) (infant_cells (at_infant x.0 l)) c (cells_from built l plan from x.0 x.1.number) has in
            let b = subst (λ j. infant_least (at_infant (n + 1) l) ≤ infant_least (at_infant j l)) d (least_later (n + 1) (x.0 - (n + 1)) (omega (arith, d, x.1.number))) in
            absurd (omega (arith, a, b, high (omega (arith, w, x.1.number))))

-- The row that is linked now.

-- what stands at a place of a list is in it
row_of_index : (xs : List ℕ) (n q : ℕ) → slice_get xs n ≡ Some q → IsIn xs q
row_of_index [] n q e = let x : None ≡ Some q = e in absurd (cc)
row_of_index (x ∷ xs) zero q e = inl (sym (same_Some x q e))
row_of_index (x ∷ xs) (suc n) q e = inr (row_of_index xs n q e)

module _ {z : Sizes} {r r' : Run} {s : ℕ} {choice : Choice} {l l' : Local} (h : Happens z r r' s choice l l' (Activity.Rebalance (Rebalance.Replace Replace.Exchange))) (i : Shape z r) (n q : ℕ) (e : slice_get l.rebalance.taken n ≡ Some q) where
  -- its link leads to the next of the new rows, or to the row after the group
  next_is : next_in (word z r.world) q ≡ row_or (slice_get l.rebalance.taken (n + 1)) l.rebalance.after
  next_is = let m = may_replace h i in ap (λ w. row_linked (link_of w)) ((m.whole n q e).next tt) ∙ ap row_linked (link_of-link_word (infant_link (at_infant n l)) (m.links n))

  module _ (k : ℕ) (fate : r'.ledger.rows.fates q ≡ fate_live (word z r.world) (length r.history.log) q (r.ledger.rows.fates q)) (x : HoldsKey (word z r'.world) r'.ledger.rows q k) where
    -- the key is from its least one on
    key_from : infant_least (at_infant n l) ≤ k
    key_from = omega (arith, x.from, ap key_of_word (least_word (Activity.Rebalance (Rebalance.Replace Replace.Exchange)) h i.sane q (λ c. c)), least_of_new h i n q e)

    -- and below what its link leads to
    key_below : (b : Option ℕ) → row_or (slice_get l.rebalance.taken (n + 1)) l.rebalance.after ≡ b → (p : ℕ) → b ≡ Some p → k < least_in (word z r.world) p
    key_below b f p g = x.below (least_in (word z r.world) p) (ap (λ (y : Fate). y.upper) fate ∙ ap (least_of (word z r.world)) (next_is ∙ f ∙ g))

    -- so it is below where the group ends
    key_under : (u : ℕ) → bound (rows_in (word z r.world)) l.rebalance.after ≡ Some u → k < u
    key_under u g = under l.rebalance.after refl u g (slice_get l.rebalance.taken (n + 1)) refl
      where
        under : (b : Option ℕ) → l.rebalance.after ≡ b → (u : ℕ) → bound (rows_in (word z r.world)) l.rebalance.after ≡ Some u → (o : Option ℕ) → slice_get l.rebalance.taken (n + 1) ≡ o → k < u
        under None f u g o y = let t : None ≡ Some u = sym (ap (bound (rows_in (word z r.world))) f) ∙ g in absurd (cc)
        under (Some b) f u g None y =
            let t = same_Some (least_in (word z r.world) b) u (sym (ap (bound (rows_in (word z r.world))) f) ∙ g) in
            omega (arith, t, key_below (Some b) (ap (λ a. row_or a l.rebalance.after) y ∙ f) b refl)
        under (Some b) f u g (Some p) y =
            let t = same_Some (least_in (word z r.world) b) u (sym (ap (bound (rows_in (word z r.world))) f) ∙ g) in
            omega (arith, t, key_below (Some p) (ap (λ a. row_or a l.rebalance.after) y) p refl, (may_replace h i).below p b (row_of_index l.rebalance.taken (n + 1) p y) f)

    -- so one of the rows of the group holds it
    pub held_by_group : (g : ℕ) × IsOfGroup l g × HoldsKey (word z r.world) r.ledger.rows g k
    held_by_group = which l.rebalance.second refl (may_replace h i).group
      where
        held : IsHeld r.ledger.rows l.row
        held = held_row h i l.row (inl refl)

        low : least_in (word z r.world) l.row ≤ k
        low = omega (arith, (may_replace h i).lower, least_from z.built l (is_plan h i) (kept_from h i) n (has_start h i n q e), key_from)

        last : (g : ℕ) → IsHeld r.ledger.rows g → next_in (word z r.world) g ≡ l.rebalance.after → least_in (word z r.world) g ≤ k → HoldsKey (word z r.world) r.ledger.rows g k
        last g m f o = record { from = o; below = λ u t. key_under u (ap (bound (rows_in (word z r.world))) (sym f) ∙ sym (i.rows.closed.upper g m) ∙ t) }

        which : (b : Option ℕ) → l.rebalance.second ≡ b → Holds (rows_in (word z r.world)) r.ledger.rows l.row b l.rebalance.after → (g : ℕ) × IsOfGroup l g × HoldsKey (word z r.world) r.ledger.rows g k
        which None f m = (l.row, inl refl, last l.row held m.0.next low)
        which (Some c) f m = at (cases_lt k (least_in (word z r.world) c))
          where
            at : (k < least_in (word z r.world) c) ⊎ (least_in (word z r.world) c ≤ k) → (g : ℕ) × IsOfGroup l g × HoldsKey (word z r.world) r.ledger.rows g k
            at (inl o) = (l.row, inl refl, record { from = low; below = λ u t. let x = same_Some (least_in (word z r.world) c) u (sym (ends_at (rows_in (word z r.world)) r.ledger.rows i.rows.closed l.row c held m.0.next) ∙ t) in omega (arith, o, x) })
            at (inr o) = (c, inr f, last c (i.rows.closed.linked l.row c held m.0.next) m.1.next o)

    -- and all kept cells of the key are in the row
    pub cell_in_new : (c : Cell) → Contains l.rebalance.kept c → c.key ≡ k → Contains (infant_cells (at_infant n l)) c
    cell_in_new c a f = cell_in_row z.built l (is_plan h i) (kept_from h i) n c (has_start h i n q e) a (omega (arith, key_from, f)) (λ o. next o)
      where
        next : n + 1 < length l.rebalance.starts → c.key < infant_least (at_infant (n + 1) l)
        next o =
            let g = slice_get-get_or l.rebalance.taken (n + 1) 0 (omega (arith, o, ((infants_at (Activity.Rebalance (Rebalance.Replace Replace.Exchange)) h i).enough tt).1)) in
            omega (arith, f, key_below (Some (get_or l.rebalance.taken (n + 1) 0)) (ap (λ a. row_or a l.rebalance.after) g) (get_or l.rebalance.taken (n + 1) 0) refl, least_of_new h i (n + 1) (get_or l.rebalance.taken (n + 1) 0) g)
