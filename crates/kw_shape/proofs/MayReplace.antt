-- A seat that exchanges the link to its full row knows all that its event must, by the shape of the
-- world before it.
use Rattle.std.proofs.Common.{ℕ, suc, ◌≡◌, inl, inr, ◌+◌, ◌<◌, ◌≤◌, All, List, [], ◌∷◌, Some, arith, refl, sym, ap, subst, length, slice_get}
use Rattle.std.proofs.lemmas.Option.{slice_get-get_or, slice_get_within}
use Rattle.kw_words.specs.declared.sizes.TheConstants.{KEY_END}
use Rattle.kw_cells.proofs.KeptOf.{kept_of-all}
use Rattle.kw_rows.specs.Events.{IsIn, Rises}
use Rattle.kw_rows.specs.Group.{Group}
use Rattle.kw_rows.specs.Ledger.{IsHeld}
use Rattle.kw_rows.proofs.Named.{held_by}
use Rattle.kw_world.specs.declared.activity.Activity.TheVariants as Activity
use Rattle.kw_world.specs.declared.activity.rebalance.Rebalance.TheVariants as Rebalance
use Rattle.kw_world.specs.declared.activity.rebalance.replace.Replace.TheVariants as Replace
use Rattle.kw_world.specs.declared.event.Choice.{Choice}
use Rattle.kw_world.specs.declared.local.Local.{Local}
use Rattle.kw_world.specs.ReplaceTransitions.{first_infant}
use Rattle.kw_world.specs.Sane.{IsKnown, needed_by}
use Rattle.kw_world.specs.SeekTransitions.{at_infant}
use Rattle.kw_world.specs.Sizes.{Sizes}
use Rattle.kw_world.specs.Step.{word}
use Rattle.kw_world.specs.WriteTransitions.{infant_least}
use Rattle.kw_core.specs.Run.{Run}
use Rattle.kw_core.specs.Words.{least_in}
use Rattle.kw_core.proofs.Happens.{Happens}
use Rattle.kw_shape.specs.Balances.{led}
use Rattle.kw_shape.specs.Hands.{IsOfGroup}
use Rattle.kw_shape.specs.Keyed.{HoldsGathered, Keys}
use Rattle.kw_shape.specs.Plans.{Plans}
use Rattle.kw_shape.specs.RowsIn.{rows_in}
use Rattle.kw_shape.specs.Shape.{Shape}
use Rattle.kw_shape.proofs.Hands.{EndsBy, group_ends, holds_led, row_of_group, second_next}
use Rattle.kw_shape.proofs.InfantsStay.{infant_counts, infant_links, taken_below}
use Rattle.kw_shape.proofs.InfantsRely.{index_of_row}
use Rattle.kw_shape.proofs.LinkedRows.{balance_at, fresh_linked, infants_at, named_of_group, search_at}
use Rattle.kw_shape.proofs.Planned.{IsPlan, leasts_below, leasts_rise, plan_of}
use Rattle.kw_shape.proofs.ReplaceEvent.{MayReplace, whole_least}

-- where each row of a list is below the next, they rise
rises_by : (least : ℕ → ℕ) (x : ℕ) (xs : List ℕ) → ((i p q : ℕ) → slice_get (x ∷ xs) i ≡ Some p → slice_get (x ∷ xs) (i + 1) ≡ Some q → least p < least q) → Rises least x xs
rises_by least x [] f = tt
rises_by least x (y ∷ ys) f = (
  f 0 x y refl refl,
  rises_by least y ys (λ i p q e d. let n : suc (i + 1) ≡ suc i + 1 = omega arith in f (suc i) p q e (subst (λ k. slice_get (x ∷ y ∷ ys) k ≡ Some q) n d)),
)

module _ {z : Sizes} {r r' : Run} {s : ℕ} {choice : Choice} {l l' : Local} (h : Happens z r r' s choice l l' (Activity.Rebalance (Rebalance.Replace Replace.Exchange))) (i : Shape z r) where
  -- what the seat knows is in range
  known : IsKnown z r.world.rows l
  known = i.sane.locals s l h.knows

  -- what it knows there of its keys, and of the plan
  keys_there : Keys z (word z r.world) r.ledger.rows (Activity.Rebalance (Rebalance.Replace Replace.Exchange)) l
  keys_there = subst (λ a. Keys z (word z r.world) r.ledger.rows a l) h.activity (i.keys s l h.knows)

  plans_there : Plans z (Activity.Rebalance (Rebalance.Replace Replace.Exchange)) l
  plans_there = subst (λ a. Plans z a l) h.activity (i.plans s l h.knows)

  -- its plan is one
  pub is_plan : IsPlan z.built l
  is_plan = plan_of z (Activity.Rebalance (Rebalance.Replace Replace.Exchange)) l plans_there tt i.built (subst (λ a. length l.rebalance.needed ≤ needed_by z a) h.activity known.room.rebalance.needed)

  -- each row that it took has a start
  pub has_start : (k q : ℕ) → slice_get l.rebalance.taken k ≡ Some q → k < length l.rebalance.starts
  has_start k q e = omega (arith, slice_get_within l.rebalance.taken k q e, plans_there.few tt)

  -- the kept cells have places of the group, and keys such as the rows there may hold
  pub kept_held : All (HoldsGathered z (word z r.world) r.ledger.rows l) l.rebalance.kept
  kept_held = subst (All (HoldsGathered z (word z r.world) r.ledger.rows l)) (sym (plans_there.kept tt)) (kept_of-all (HoldsGathered z (word z r.world) r.ledger.rows l) l.rebalance.gathered l.rebalance.needed (keys_there.gathered tt))

  -- some seat may name each row of the group: this one
  pub held_row : (q : ℕ) → IsOfGroup l q → IsHeld r.ledger.rows q
  held_row q o = held_by r.ledger.rows s q (named_of_group (Activity.Rebalance (Rebalance.Replace Replace.Exchange)) tt h i q o)

  -- what it knows of them
  group_known : Group (rows_in (word z r.world)) r.ledger.rows (led l.row l.rebalance.second l.rebalance.after)
  group_known = (balance_at (Activity.Rebalance (Rebalance.Replace Replace.Exchange)) h i).group

  -- they begin at or above the least key of the full one
  row_from : (q : ℕ) → IsOfGroup l q → l.lower ≤ least_in (word z r.world) q
  row_from q (inl e) = omega (arith, (balance_at (Activity.Rebalance (Rebalance.Replace Replace.Exchange)) h i).lower tt, ap (least_in (word z r.world)) e)
  row_from q (inr e) = omega (arith, (balance_at (Activity.Rebalance (Rebalance.Replace Replace.Exchange)) h i).lower tt, i.rows.closed.rises l.row q (held_row l.row (inl refl)) (second_next (rows_in (word z r.world)) r.ledger.rows l.row q l.rebalance.second l.rebalance.after e group_known))

  -- so the kept keys are from that one on
  pub kept_from : All (λ c. l.lower ≤ c.key) l.rebalance.kept
  kept_from k d o = let y = kept_held k d o in omega (arith, row_from _ (row_of_group z l _ y.0), y.1.from)

  -- they end at or before the least key of the row after the group, and begin below it
  row_ends : (b : ℕ) → l.rebalance.after ≡ Some b → (q : ℕ) → IsOfGroup l q → EndsBy (rows_in (word z r.world)) r.ledger.rows q (least_in (word z r.world) b)
  row_ends b e q o = group_ends (rows_in (word z r.world)) r.ledger.rows i.rows.closed l (held_row l.row (inl refl)) group_known b e q o

  -- so the kept keys are below it
  pub kept_below : (b : ℕ) → l.rebalance.after ≡ Some b → All (λ c. c.key < least_in (word z r.world) b) l.rebalance.kept
  kept_below b e k d o =
      let y = kept_held k d o in
      let u = row_ends b e _ (row_of_group z l _ y.0) in
      omega (arith, y.1.below u.end u.upper, u.most)

  -- and so is the least key of the full row
  lower_below : (b : ℕ) → l.rebalance.after ≡ Some b → l.lower < least_in (word z r.world) b
  lower_below b e = let u = row_ends b e l.row (inl refl) in omega (arith, u.above, u.most, (balance_at (Activity.Rebalance (Rebalance.Replace Replace.Exchange)) h i).lower tt)

  -- the least key of each new row fits its word
  pub least_fits : (k q : ℕ) → slice_get l.rebalance.taken k ≡ Some q → infant_least (at_infant k l) < KEY_END
  least_fits k q e = leasts_below z.built l is_plan KEY_END known.ranges.lower (λ j d o. (known.ranges.rebalance.kept j d o).0) k (has_start k q e)

  -- and stands there
  pub least_of_new : (k q : ℕ) → slice_get l.rebalance.taken k ≡ Some q → least_in (word z r.world) q ≡ infant_least (at_infant k l)
  least_of_new k q e = whole_least z (word z r.world) (at_infant k l) q (least_fits k q e) ((infants_at (Activity.Rebalance (Rebalance.Replace Replace.Exchange)) h i).whole k q tt e)

  -- all that its event must know
  pub may_replace : MayReplace z (word z r.world) r.ledger.rows s l
  may_replace = record {
    own = record { owned = λ k q e. (infants_at (Activity.Rebalance (Rebalance.Replace Replace.Exchange)) h i).owned k q tt e; apart = λ j k q e d. (infants_at (Activity.Rebalance (Rebalance.Replace Replace.Exchange)) h i).apart j k q tt tt e d };
    some = ((infants_at (Activity.Rebalance (Rebalance.Replace Replace.Exchange)) h i).enough tt).0;
    whole = λ k q e. (infants_at (Activity.Rebalance (Rebalance.Replace Replace.Exchange)) h i).whole k q tt e;
    links = infant_links z r.world s l i.sane h.knows;
    counts = infant_counts z r.world s l i.sane h.knows;
    fits = known.ranges.lower;
    first = omega (arith, taken_below z r.world s l i.sane h.knows 0 (first_infant l) (slice_get-get_or l.rebalance.taken 0 0 ((infants_at (Activity.Rebalance (Rebalance.Replace Replace.Exchange)) h i).enough tt).0), i.sane.sized.few_rows);
    linked = λ q o. fresh_linked r.ledger.rows s q (named_of_group (Activity.Rebalance (Rebalance.Replace Replace.Exchange)) tt h i q o);
    group = holds_led (rows_in (word z r.world)) r.ledger.rows l.row l.rebalance.second l.rebalance.after (balance_at (Activity.Rebalance (Rebalance.Replace Replace.Exchange)) h i).group;
    full = λ q o. (balance_at (Activity.Rebalance (Rebalance.Replace Replace.Exchange)) h i).frozen q (tt, o);
    lower = (balance_at (Activity.Rebalance (Rebalance.Replace Replace.Exchange)) h i).lower tt;
    held = λ p e. held_by r.ledger.rows s p ((search_at (Activity.Rebalance (Rebalance.Replace Replace.Exchange)) h i).fresh p tt e);
    rises = rises;
    below = below;
  }
    where
      rises : (n : ℕ) (more : List ℕ) → l.rebalance.taken ≡ n ∷ more → Rises (least_in (word z r.world)) n more
      rises n more t = rises_by (least_in (word z r.world)) n more (λ k p q e d.
          let a : slice_get l.rebalance.taken k ≡ Some p = subst (λ xs. slice_get xs k ≡ Some p) (sym t) e in
          let b : slice_get l.rebalance.taken (k + 1) ≡ Some q = subst (λ xs. slice_get xs (k + 1) ≡ Some q) (sym t) d in
          omega (arith, least_of_new k p a, least_of_new (k + 1) q b, leasts_rise z.built l is_plan kept_from k (has_start (k + 1) q b)))

      below : (x b : ℕ) → IsIn l.rebalance.taken x → l.rebalance.after ≡ Some b → least_in (word z r.world) x < least_in (word z r.world) b
      below x b o e =
          let p = index_of_row l.rebalance.taken x o in
          omega (arith, least_of_new p.0 x p.1, leasts_below z.built l is_plan (least_in (word z r.world) b) (lower_below b e) (kept_below b e) p.0 (has_start p.0 x p.1))
