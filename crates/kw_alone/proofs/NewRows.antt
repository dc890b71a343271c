-- A new row that is linked in place of a group is not to go: it is an infant, and has given fewer
-- cells than it has.
use Rattle.std.proofs.Common.{ℕ, ◌≡◌, ◌⊎◌, inl, inr, ◌<◌, ◌≤◌, ◌-◌, true, false, Some, drop, arith, sym, ◌∙◌, ap, subst, length, slice_get, slice_index, length-take}
use Rattle.kw_words.specs.declared.layout.Name.TheVariants as name
use Rattle.kw_words.specs.Count.{count_of}
use Rattle.kw_words.proofs.CountWords.{count_of-count_word}
use Rattle.kw_cells.specs.Cuts.{end_of}
use Rattle.kw_rows.specs.Ledger as fate
use Rattle.kw_rows.specs.RowState as row
use Rattle.kw_rows.specs.States.{HasState}
use Rattle.kw_world.specs.declared.activity.Activity.{Activity}
use Rattle.kw_world.specs.declared.activity.rebalance.Rebalance.TheVariants as Rebalance
use Rattle.kw_world.specs.declared.activity.rebalance.replace.Replace.TheVariants as Replace
use Rattle.kw_world.specs.declared.event.Choice.{Choice}
use Rattle.kw_world.specs.declared.local.Local.{Local}
use Rattle.kw_world.specs.Calls.{first_key}
use Rattle.kw_world.specs.PutTransitions.{given_of}
use Rattle.kw_world.specs.SeekTransitions.{at_infant}
use Rattle.kw_world.specs.Sizes.{Sizes}
use Rattle.kw_world.specs.Step.{word}
use Rattle.kw_world.specs.WriteTransitions.{infant_cells, infant_count}
use Rattle.kw_core.specs.Run.{Run}
use Rattle.kw_core.specs.Words.{given_in}
use Rattle.kw_core.proofs.Happens.{Happens}
use Rattle.kw_core.proofs.InfantFrames.{count_stays, state_stays}
use Rattle.kw_shape.specs.RowsIn.{rows_in, state_seen}
use Rattle.kw_shape.specs.Shape.{Shape}
use Rattle.kw_shape.proofs.InfantsRely.{index_of_row}
use Rattle.kw_shape.proofs.InfantsStay.{infant_counts, taken_below}
use Rattle.kw_shape.proofs.LinkedRows.{ComesNow, infants_at}
use Rattle.kw_shape.proofs.MayReplace.{has_start, is_plan}
use Rattle.kw_words.specs.State.{state_of}
use Rattle.kw_alone.specs.Wins.{asks, is_leading}
use Rattle.kw_alone.proofs.Going.{IsToEngage, IsToGo}

-- the state of a row that was taken
infant_state : (s : row.State) (owner : ℕ) → s ≡ row.Infant owner → is_leading s ≡ true → ⊥
infant_state s owner e t = let x : true ≡ false = sym t ∙ ap is_leading e in absurd (cc)

module _ {z : Sizes} {r r' : Run} {s : ℕ} {choice : Choice} {l l' : Local} (h : Happens z r r' s choice l l' (Activity.Rebalance (Rebalance.Replace Replace.Exchange))) (i : Shape z r) where
  -- a new row has no more cells than such a row may have
  cells_few : (n q : ℕ) → slice_get l.rebalance.taken n ≡ Some q → length (infant_cells (at_infant n l)) ≤ z.built
  cells_few n q e = omega (arith, length-take (end_of l.rebalance.kept l.rebalance.starts n - slice_index l.rebalance.starts n) (drop (slice_index l.rebalance.starts n) l.rebalance.kept), (is_plan h i).starts.most n (has_start h i n q e))

  -- which is the count of it
  given_few : (n q : ℕ) → slice_get l.rebalance.taken n ≡ Some q → given_in (word z r'.world) q ≤ z.built
  given_few n q e =
      let below : q < r.world.rows = taken_below z r.world s l i.sane h.knows n q e in
      let same : word z r'.world (name.Count q) ≡ word z r.world (name.Count q) = count_stays (Activity.Rebalance (Rebalance.Replace Replace.Exchange)) h q below (λ c. c) in
      let written = ((infants_at (Activity.Rebalance (Rebalance.Replace Replace.Exchange)) h i).whole n q tt e).count tt in
      let is : given_in (word z r'.world) q ≡ length (infant_cells (at_infant n l)) = ap (λ x. given_of (count_of x)) (same ∙ written) ∙ ap given_of (count_of-count_word (infant_count (at_infant n l)) (infant_counts z r.world s l i.sane h.knows n)) in
      omega (arith, is, cells_few n q e)

  -- and it is still the infant of its seat
  none_leading : (n q : ℕ) → slice_get l.rebalance.taken n ≡ Some q → (r.ledger.rows.fates q).status ≡ fate.Infant → is_leading ((rows_in (word z r'.world)).state q) ≡ true → ⊥
  none_leading n q e f t =
      let below : q < r.world.rows = taken_below z r.world s l i.sane h.knows n q e in
      let same : (rows_in (word z r'.world)).state q ≡ (rows_in (word z r.world)).state q = ap (λ w. state_seen (state_of w)) (state_stays (Activity.Rebalance (Rebalance.Replace Replace.Exchange)) h q below (λ c. c)) in
      infant_state ((rows_in (word z r'.world)).state q) (r.ledger.rows.fates q).owner (same ∙ subst (HasState (rows_in (word z r.world)) r.ledger.rows q) f (i.rows.states q)) t

  -- so it is not to go
  pub new_stays : (a : Activity) (q : ℕ) → z.built < z.cells → ComesNow (word z r.world) r.ledger.rows r'.ledger.rows s (length r.history.log) l (Activity.Rebalance (Rebalance.Replace Replace.Exchange)) q → IsToGo z (word z r'.world) r'.ledger.rows a l' q → ⊥
  new_stays a q room c t = which t.1
    where
      place : (n : ℕ) × (slice_get l.rebalance.taken n ≡ Some q)
      place = index_of_row l.rebalance.taken q c.taken

      which : (is_leading ((rows_in (word z r'.world)).state q) ≡ true) ⊎ (asks a l' ≡ true) × IsToEngage z (word z r'.world) r'.ledger.rows (first_key l'.call) q → ⊥
      which (inl e) = none_leading place.0 q place.1 c.infant.status e
      which (inr (e, u)) = omega (arith, u.full, given_few place.0 q place.1, room)
