-- No row of the list has more stamped cells of its own than are counted in it, by induction over
-- the events: where an attempt is stamped one cell more is, and one more is counted in its row. A
-- row that is linked now has none.
use Rattle.std.proofs.Common.{ℕ, ◌≡◌, ◌⊎◌, inl, inr, ◌+◌, ◌<◌, ◌≤◌, Bool, true, false, nat_le, if◌then◌else◌, Option, None, Some, arith, refl, sym, ◌∙◌, ap, subst, length, length-append}
use Rattle.std.proofs.lemmas.Bool.{and_from, and_parts, cases_eq, le-leb, leb-true}
use Rattle.std.proofs.lemmas.Option.{same_Some}
use Rattle.kw_lists.specs.Counts.{count_below}
use Rattle.kw_rows.specs.Ledger.{Fate, IsLive}
use Rattle.kw_windows.proofs.Counting.{count_upto}
use Rattle.kw_world.specs.declared.activity.Activity.{Activity}
use Rattle.kw_world.specs.declared.activity.rebalance.Rebalance.TheVariants as Rebalance
use Rattle.kw_world.specs.declared.activity.rebalance.replace.Replace.TheVariants as Replace
use Rattle.kw_world.specs.declared.event.Choice.{Choice}
use Rattle.kw_world.specs.declared.local.Local.{Local}
use Rattle.kw_world.specs.declared.opening.Opening.{Opening}
use Rattle.kw_world.specs.ReplaceTransitions.{replaced_link}
use Rattle.kw_world.specs.Sizes.{Sizes}
use Rattle.kw_world.specs.Step.{word}
use Rattle.kw_core.specs.declared.history.Logged.{Logged}
use Rattle.kw_core.specs.History.{History, attempt}
use Rattle.kw_core.specs.HistoryLaws.{IsPut}
use Rattle.kw_core.specs.Ledger.{Ledger, group_of, is_among}
use Rattle.kw_core.specs.Run.{Run, start}
use Rattle.kw_core.specs.Words.{given_in}
use Rattle.kw_core.proofs.Attempts.{in_range}
use Rattle.kw_core.proofs.Happens.{Happens, found_at}
use Rattle.kw_full.specs.Shares.{is_own_stamped, is_stamped_since}
use Rattle.kw_shape.proofs.LinkedRows.{ComesNow}
use Rattle.kw_puts.specs.Puts.{HasCell, IsCopyAt}
use Rattle.kw_puts.proofs.NewAttempts.{IsGiving, origin_was}
use Rattle.kw_puts.proofs.RelyProof.{goes_on_by}
use Rattle.kw_reads.specs.Inv.{Inv, lower}
use Rattle.kw_reads.proofs.HistoryKeeps.{history_step}
use Rattle.kw_counts.specs.Counts.{Stamps, has_replaced, no_counts, one_more_at, stamps_after}
use Rattle.kw_counts.proofs.CountsWithin.{count_one_within, none_counted}
use Rattle.kw_counts.proofs.Leaders.{live_was}
use Rattle.kw_counts.proofs.LiveRows.{live_not_dead}
use Rattle.kw_counts.proofs.StampSteps.{IsOneStamped, StampsNow, none_now, one_now, stamps_now}
use Rattle.kw_counts.proofs.Updates.{at_left, at_set}

-- of each row of the list
abbrev pub AreCounted : Sizes → Run → Stamps → Type 0
AreCounted z r c = (q : ℕ) → IsLive r.ledger.rows q → count_below z.cells (is_own_stamped r q) ≤ c.here q

-- A stamped cell of a row's own.

record IsOwnStamped (r : Run) (q c : ℕ) : Type 0 where
  put : ℕ
  origin : r.origin q c ≡ Some put
  born : (r.ledger.rows.fates q).born ≤ (attempt r.history put).add
  stamped : IsPut r.history put

own_parts : (r : Run) (q c : ℕ) → is_own_stamped r q c ≡ true → IsOwnStamped r q c
own_parts r q c e = by (r.origin q c) refl e
  where
    by : (o : Option ℕ) → r.origin q c ≡ o → is_stamped_since r.history (r.ledger.rows.fates q).born o ≡ true → IsOwnStamped r q c
    by (Some p) f x = let t = and_parts (nat_le (r.ledger.rows.fates q).born (attempt r.history p).add) (attempt r.history p).is_stamped x in record { put = p; origin = f; born = leb-true (r.ledger.rows.fates q).born (attempt r.history p).add t.0; stamped = t.1 }
    by None f x = let y : false ≡ true = x in absurd (cc)

own_from : (r : Run) (q c p : ℕ) → r.origin q c ≡ Some p → (r.ledger.rows.fates q).born ≤ (attempt r.history p).add → IsPut r.history p → is_own_stamped r q c ≡ true
own_from r q c p e b x = rw e (and_from (nat_le (r.ledger.rows.fates q).born (attempt r.history p).add) (attempt r.history p).is_stamped (le-leb (r.ledger.rows.fates q).born (attempt r.history p).add b) x)

-- One event.

module _ (z : Sizes) (r r' : Run) (s : ℕ) (choice : Choice) (l l' : Local) (a : Activity) (h : Happens z r r' s choice l l' a) (v : Inv z r) (v' : Inv z r') (c : Stamps) (x : AreCounted z r c) where
  -- an attempt that was there was given its cell where it is said to
  same_add : (p : ℕ) → p < length r.history.attempts → (attempt r'.history p).add ≡ (attempt r.history p).add
  same_add p w = ((goes_on_by z r r' s choice l a l' h (lower v) (history_step z r r' s choice l a l' h v)).attempts p w).add

  -- a stamped cell of a row that stays in the list, of an attempt that was stamped before
  own_was : (q d : ℕ) → IsLive r.ledger.rows q → r'.ledger.rows.fates q ≡ r.ledger.rows.fates q → (o : IsOwnStamped r' q d) → IsPut r.history o.put → is_own_stamped r q d ≡ true
  own_was q d live f o p = which (origin_was a h v.shape q d (inl live))
    where
      within : o.put < length r.history.attempts
      within = in_range r.history o.put p

      born : (r.ledger.rows.fates q).born ≤ (attempt r.history o.put).add
      born = omega (arith, o.born, ap (λ (y : Fate). y.born) f, same_add o.put within)

      which : (r'.origin q d ≡ r.origin q d) ⊎ IsGiving z r l a × (q ≡ l.row) × (d ≡ given_in (word z r.world) l.row) × (r'.origin q d ≡ Some (length r.history.attempts)) → is_own_stamped r q d ≡ true
      which (inl e) = own_from r q d o.put (sym e ∙ o.origin) born p
      which (inr n) = absurd (omega (arith, within, same_Some o.put (length r.history.attempts) (sym o.origin ∙ n.3)))

  -- where none is stamped there are no more
  no_more : (q : ℕ) → IsLive r.ledger.rows q → r'.ledger.rows.fates q ≡ r.ledger.rows.fates q → ((p : ℕ) → IsPut r'.history p → IsPut r.history p) → count_below z.cells (is_own_stamped r' q) ≤ count_below z.cells (is_own_stamped r q)
  no_more q live f was = count_upto z.cells (is_own_stamped r q) (is_own_stamped r' q) (λ d w e. let o = own_parts r' q d e in own_was q d live f o (was o.put o.stamped))

  -- where one is it is this cell of its row
  one_more : (q o : ℕ) → IsLive r.ledger.rows q → r'.ledger.rows.fates q ≡ r.ledger.rows.fates q → IsOneStamped z r r' l o → (d : ℕ) → d < z.cells → is_own_stamped r' q d ≡ true → ((d ≡ (attempt r.history o).cell) × (q ≡ l.row)) ⊎ (is_own_stamped r q d ≡ true)
  one_more q o live f y d w e = which (y.was k.put k.stamped)
    where
      k : IsOwnStamped r' q d
      k = own_parts r' q d e

      origin : k.put ≡ o → r.origin q d ≡ Some o
      origin u = sym (y.origin q d) ∙ k.origin ∙ ap Some u

      owns : k.put ≡ o → HasCell r.ledger.rows r.history q d o ⊎ IsCopyAt (word z r.world) r.ledger.rows r.history q d o → ((d ≡ (attempt r.history o).cell) × (q ≡ l.row)) ⊎ (is_own_stamped r q d ≡ true)
      owns u (inl i) = inl (sym i.cell, sym i.row ∙ y.row)
      owns u (inr i) = absurd (omega (arith, i.earlier, k.born, ap (λ (g : Fate). g.born) f, same_add o y.within, ap (λ p. (attempt r'.history p).add) u))

      which : (k.put ≡ o) ⊎ IsPut r.history k.put → ((d ≡ (attempt r.history o).cell) × (q ≡ l.row)) ⊎ (is_own_stamped r q d ≡ true)
      which (inl u) = owns u (v.puts.places.owner q d o (inl live) w (origin u))
      which (inr p) = inr (own_was q d live f k p)

  -- a row that is linked now has none
  none_new : (q : ℕ) → ComesNow (word z r.world) r.ledger.rows r'.ledger.rows s (length r.history.log) l a q → count_below z.cells (is_own_stamped r' q) ≡ 0
  none_new q n = none_counted z.cells (is_own_stamped r' q) (λ d w e. early (own_parts r' q d e))
    where
      early : {d : ℕ} → IsOwnStamped r' q d → ⊥
      early o = omega (arith, o.born, ap (λ (f : Fate). f.born) n.fate, v'.history.past.add o.put (in_range r'.history o.put o.stamped), ap (λ (k : History). length k.log) h.history, length-append {A = Logged})

  -- in a row that stays what is counted is as it was, where nothing is stamped
  here_stays : (q : ℕ) → a ≡ Activity.Rebalance (Rebalance.Replace Replace.Exchange) → IsLive r'.ledger.rows q → (stamps_after a l (found_at z (word z r.world) a s choice l) c).here q ≡ c.here q
  here_stays q e live = subst (λ b. (stamps_after b l (found_at z (word z r.world) b s choice l) c).here q ≡ c.here q) (sym e) (saw (subst (Happens z r r' s choice l l') e h) (has_replaced l (word z r.world (replaced_link l.rebalance.before))) refl)
    where
      saw : Happens z r r' s choice l l' (Activity.Rebalance (Rebalance.Replace Replace.Exchange)) → (b : Bool) → has_replaced l (word z r.world (replaced_link l.rebalance.before)) ≡ b → (stamps_after (Activity.Rebalance (Rebalance.Replace Replace.Exchange)) l (word z r.world (replaced_link l.rebalance.before)) c).here q ≡ c.here q
      saw g false f = rw f refl
      saw g true f = rw f (here (is_among (group_of l) q) refl)
        where
          here : (b : Bool) → is_among (group_of l) q ≡ b → (let m : ℕ = if b then 0 else c.here q in m) ≡ c.here q
          here false i = refl
          here true i = live_not_dead _ live (ap (λ (y : Ledger). (y.rows.fates q).status) g.ledger ∙ rw (f, i) refl)

  pub own_keeps : AreCounted z r' (stamps_after a l (found_at z (word z r.world) a s choice l) c)
  own_keeps q live = which (live_was a h v.shape q live) (stamps_now z r r' s choice l l' v a h c)
    where
      after : Stamps
      after = stamps_after a l (found_at z (word z r.world) a s choice l) c

      at : (o : ℕ) → IsLive r.ledger.rows q → r'.ledger.rows.fates q ≡ r.ledger.rows.fates q → IsOneStamped z r r' l o → after ≡ record c { here = one_more_at c.here l.row } → (q ≡ l.row) ⊎ (q ≡ l.row → ⊥) → count_below z.cells (is_own_stamped r' q) ≤ after.here q
      at o was f y e (inl i) = omega (arith, x q was, ap (λ (d : Stamps). d.here q) e, at_set c.here l.row (c.here l.row + 1) q i, ap c.here i, count_one_within z.cells (attempt r.history o).cell (is_own_stamped r q) (is_own_stamped r' q) (λ d w g. first (one_more q o was f y d w g)))
        where
          first : {d : ℕ} → ((d ≡ (attempt r.history o).cell) × (q ≡ l.row)) ⊎ (is_own_stamped r q d ≡ true) → (d ≡ (attempt r.history o).cell) ⊎ (is_own_stamped r q d ≡ true)
          first (inl t) = inl t.0
          first (inr t) = inr t
      at o was f y e (inr i) = omega (arith, x q was, ap (λ (d : Stamps). d.here q) e, at_left c.here l.row (c.here l.row + 1) q i, count_upto z.cells (is_own_stamped r q) (is_own_stamped r' q) (λ d w g. second (one_more q o was f y d w g)))
        where
          second : {d : ℕ} → ((d ≡ (attempt r.history o).cell) × (q ≡ l.row)) ⊎ (is_own_stamped r q d ≡ true) → is_own_stamped r q d ≡ true
          second (inl t) = absurd (i t.1)
          second (inr t) = t

      stays : IsLive r.ledger.rows q → r'.ledger.rows.fates q ≡ r.ledger.rows.fates q → StampsNow z r r' l a c after → count_below z.cells (is_own_stamped r' q) ≤ after.here q
      stays was f (one_now o y e) = at o was f y e (cases_eq q l.row)
      stays was f (none_now y (inl e)) = omega (arith, x q was, no_more q was f y.was, ap (λ (d : Stamps). d.here q) e)
      stays was f (none_now y (inr e)) = omega (arith, x q was, no_more q was f y.was, here_stays q e live)

      which : (IsLive r.ledger.rows q × (r'.ledger.rows.fates q ≡ r.ledger.rows.fates q)) ⊎ ComesNow (word z r.world) r.ledger.rows r'.ledger.rows s (length r.history.log) l a q → StampsNow z r r' l a c after → count_below z.cells (is_own_stamped r' q) ≤ after.here q
      which (inl t) y = stays t.0 t.1 y
      which (inr n) y = omega (arith, none_new q n)

-- Where a run begins there are none.
pub own_start : (z : Sizes) (o : Opening) → AreCounted z (start z o) no_counts.stamps
own_start z o q live = omega (arith, none_counted z.cells (is_own_stamped (start z o) q) (λ d w e. let y : false ≡ true = e in absurd (cc)))
