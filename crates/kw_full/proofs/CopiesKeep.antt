-- Every event keeps where copies stand: a new row is written with no more cells than a row is built
-- with, and a copy of any other row was one before.
use Rattle.std.proofs.Common.{ℕ, ◌≡◌, ◌⊎◌, inl, inr, ◌-◌, ◌*◌, ◌<◌, ◌≤◌, None, Some, arith, refl, sym, ◌∙◌, ap, drop, length, slice_get, slice_index, subst}
use Rattle.std.proofs.lemmas.Bool.{cases_lt}
use Rattle.std.proofs.lemmas.List.{length-take}
use Rattle.std.proofs.lemmas.Option.{slice_get_within}
use Rattle.kw_words.specs.declared.layout.Name.TheVariants as name
use Rattle.kw_words.specs.Count.{count_of, count_word}
use Rattle.kw_words.proofs.CountWords.{count_of-count_word}
use Rattle.kw_cells.specs.Cuts.{end_of}
use Rattle.kw_world.specs.declared.activity.Activity.{Activity}
use Rattle.kw_world.specs.declared.activity.rebalance.Rebalance.TheVariants as Rebalance
use Rattle.kw_world.specs.declared.activity.rebalance.replace.Replace.TheVariants as Replace
use Rattle.kw_world.specs.declared.event.Choice.{Choice}
use Rattle.kw_world.specs.declared.local.Local.{Local}
use Rattle.kw_world.specs.declared.opening.Opening.{Opening}
use Rattle.kw_world.specs.PutTransitions.{given_of}
use Rattle.kw_world.specs.Sane.{IsKnown}
use Rattle.kw_world.specs.SeekTransitions.{at_infant}
use Rattle.kw_world.specs.Sizes.{Sizes}
use Rattle.kw_world.specs.Step.{word}
use Rattle.kw_world.specs.WriteTransitions.{infant_cells, infant_count}
use Rattle.kw_core.specs.History.{attempt}
use Rattle.kw_core.specs.Run.{Run, start}
use Rattle.kw_core.specs.Step.{Step}
use Rattle.kw_core.specs.Words.{given_in}
use Rattle.kw_core.proofs.Happens.{Happens, log_entry}
use Rattle.kw_core.proofs.InfantFrames.{row_stays}
use Rattle.kw_rows.specs.Rows.{WasLinked}
use Rattle.kw_shape.specs.Plans.{Plans}
use Rattle.kw_shape.specs.Shape.{Shape}
use Rattle.kw_shape.proofs.InfantsRely.{index_of_row, linked_not_infant}
use Rattle.kw_shape.proofs.InfantsStay.{infant_counts, taken_below}
use Rattle.kw_shape.proofs.LinkedRows.{ComesNow, fresh_linked, infants_at, linked_before, search_at}
use Rattle.kw_shape.proofs.Planned.{IsPlan, plan_of}
use Rattle.kw_puts.specs.Below.{Below}
use Rattle.kw_puts.proofs.AttemptCells.{copy_was}
use Rattle.kw_puts.proofs.Owners.{was_or_not}
use Rattle.kw_puts.proofs.Relinked.{new_places}
use Rattle.kw_full.specs.Copies.{KeepsCopies}

-- A row that is linked now.

module _ {z : Sizes} {r r' : Run} {s : ℕ} {choice : Choice} {l l' : Local} (h : Happens z r r' s choice l l' (Activity.Rebalance (Rebalance.Replace Replace.Exchange))) (i : Shape z r) (q : ℕ) (y : ComesNow (word z r.world) r.ledger.rows r'.ledger.rows s (length r.history.log) l (Activity.Rebalance (Rebalance.Replace Replace.Exchange)) q) where
  -- its place among the taken ones
  place : (n : ℕ) × (slice_get l.rebalance.taken n ≡ Some q)
  place = index_of_row l.rebalance.taken q y.taken

  known : IsKnown z r.world.rows l
  known = i.sane.locals s l h.knows

  plans : Plans z (Activity.Rebalance (Rebalance.Replace Replace.Exchange)) l
  plans = subst (λ b. Plans z b l) h.activity (i.plans s l h.knows)

  plan : IsPlan z.built l
  plan = plan_of z (Activity.Rebalance (Rebalance.Replace Replace.Exchange)) l plans tt i.built needed
    where
      needed : length l.rebalance.needed ≤ 2 * z.seats
      needed = omega (arith, rw h.activity at known.room.rebalance.needed)

  -- it is one of those that are planned, so it has no more cells than a row is built with
  short : length (infant_cells (at_infant place.0 l)) ≤ z.built
  short =
      let within : place.0 < length l.rebalance.starts = omega (arith, slice_get_within l.rebalance.taken place.0 q place.1, plans.few tt) in
      omega (arith, plan.starts.most place.0 within, length-take (end_of l.rebalance.kept l.rebalance.starts place.0 - slice_index l.rebalance.starts place.0) (drop (slice_index l.rebalance.starts place.0) l.rebalance.kept))

  -- the word of its count says how many it has
  count : word z r'.world (name.Count q) ≡ count_word (infant_count (at_infant place.0 l))
  count = row_stays (Activity.Rebalance (Rebalance.Replace Replace.Exchange)) h (name.Count q) q refl (taken_below z r.world s l i.sane h.knows place.0 q place.1) not_before ∙ ((infants_at (Activity.Rebalance (Rebalance.Replace Replace.Exchange)) h i).whole place.0 q tt place.1).count tt
    where
      not_before : l.rebalance.before ≡ Some q → ⊥
      not_before f = linked_not_infant r.ledger.rows s q (fresh_linked r.ledger.rows s q ((search_at (Activity.Rebalance (Rebalance.Replace Replace.Exchange)) h i).fresh q tt f)) y.infant

  new_given : given_in (word z r'.world) q ≤ z.built
  new_given =
      let given : given_in (word z r'.world) q ≡ length (infant_cells (at_infant place.0 l)) = ap (λ x. given_of (count_of x)) count ∙ ap given_of (count_of-count_word (infant_count (at_infant place.0 l)) (infant_counts z r.world s l i.sane h.knows place.0)) in
      omega (arith, given, short)

-- One event.

module _ (z : Sizes) (r r' : Run) (s : ℕ) (choice : Choice) (l l' : Local) (a : Activity) (h : Happens z r r' s choice l l' a) (i : Below z r) (st : Step r.history r'.history (log_entry z r a s choice l)) (x : KeepsCopies z r) where
  -- the cells of a row that is linked now are those that it has given
  new_low : (q c p : ℕ) → (WasLinked r.ledger.rows q → ⊥) → WasLinked r'.ledger.rows q → c < z.cells → r'.origin q c ≡ Some p → c < z.built
  new_low q c p n k o e = which (linked_before a h i.shape q k)
    where
      given : (b : Activity) → Happens z r r' s choice l l' b → b ≡ Activity.Rebalance (Rebalance.Replace Replace.Exchange) → ComesNow (word z r.world) r.ledger.rows r'.ledger.rows s (length r.history.log) l b q → given_in (word z r'.world) q ≤ z.built
      given b g u y = new_given (subst (λ f. Happens z r r' s choice l l' f) u g) i.shape q (subst (λ f. ComesNow (word z r.world) r.ledger.rows r'.ledger.rows s (length r.history.log) l f q) u y)

      low : given_in (word z r'.world) q ≤ z.built → (c < given_in (word z r'.world) q) ⊎ (given_in (word z r'.world) q ≤ c) → c < z.built
      low g (inl u) = omega (arith, g, u)
      low g (inr u) = let y : None ≡ Some p = sym ((new_places z r r' s choice l a l' h i st q k n).nobody c o u) ∙ e in absurd (cc)

      which : WasLinked r.ledger.rows q ⊎ ComesNow (word z r.world) r.ledger.rows r'.ledger.rows s (length r.history.log) l a q → c < z.built
      which (inl w) = absurd (n w)
      which (inr y) = low (given a h y.replaces y) (cases_lt c (given_in (word z r'.world) q))

  pub copies_keep : KeepsCopies z r'
  copies_keep = record { low = λ q c p k o e d. which q c p k o e d (was_or_not r.ledger.rows q) }
    where
      which : (q c p : ℕ) → WasLinked r'.ledger.rows q → c < z.cells → r'.origin q c ≡ Some p → (attempt r'.history p).add < (r'.ledger.rows.fates q).born → WasLinked r.ledger.rows q ⊎ (WasLinked r.ledger.rows q → ⊥) → c < z.built
      which q c p k o e d (inl w) = let was = copy_was z r r' s choice l a l' h i st q w c p o e d in x.low q c p w o was.0 was.2
      which q c p k o e d (inr n) = new_low q c p n k o e

-- Where a run begins no cell stands for an attempt.
pub copies_start : (z : Sizes) (o : Opening) → KeepsCopies z (start z o)
copies_start z o = record { low = λ q c p k u e d. let y : None ≡ Some p = e in absurd (cc) }
