-- Whether the row of an attempt was used again, over an event: an attempt whose row was not is none
-- whose row was; a row that is freed leaves its attempts behind for ever; and the row of an attempt
-- at which a seat is at work is not freed, for the seat is in its visit.
use Rattle.std.proofs.Common.{ℕ, ◌≡◌, ◌⊎◌, inl, inr, ◌<◌, ◌≤◌, true, Some, arith, refl, sym, ◌∙◌, ap, subst, length, slice_get}
use Rattle.kw_rows.specs.Ledger.{Fate, IsFresh}
use Rattle.kw_rows.specs.Rows.{WasLinked}
use Rattle.kw_rows.proofs.Named.{held_by}
use Rattle.kw_words.specs.declared.layout.Name.TheVariants as name
use Rattle.kw_words.specs.Count.{count_of}
use Rattle.kw_world.specs.declared.activity.Activity.{Activity}
use Rattle.kw_world.specs.declared.activity.put.Put.TheVariants as Put
use Rattle.kw_world.specs.declared.activity.rebalance.Rebalance.TheVariants as Rebalance
use Rattle.kw_world.specs.declared.event.Choice.{Choice}
use Rattle.kw_world.specs.declared.local.Local.{Local}
use Rattle.kw_world.specs.PutTransitions.{has_room}
use Rattle.kw_world.specs.Sizes.{Sizes}
use Rattle.kw_world.specs.Step.{word}
use Rattle.kw_core.specs.History.{attempt}
use Rattle.kw_core.specs.Run.{Run}
use Rattle.kw_core.specs.declared.history.Attempt.{Attempt}
use Rattle.kw_core.specs.declared.seat_log.SeatLog.{SeatLog}
use Rattle.kw_core.specs.Stages.{IsAtRow, IsPutting}
use Rattle.kw_core.specs.Step.{Step}
use Rattle.kw_core.proofs.Arrows.{builds, Arrow, decides, marks_led, asks_of_pin}
use Rattle.kw_core.proofs.Arrows.{sees_stamped, sees_neither, is_gone_by, helps, finds_stamped, finds_other, list_ends, key_above, left_over_gone_by, gathers_left_over, takes_cell, stores_key, stores_value, announces, loads_clock, stamps, is_stamped, stores_version, reaches_cell, sees_none, key_before, key_same, key_after, version_before, version_after, stores_after, inserts, loses, first_ends, first_reaches, first_sees_none, inserts_at_first, inserts_behind}
use Rattle.kw_core.proofs.BuiltNext.{built_next}
use Rattle.kw_core.proofs.Fates.{fate_stays}
use Rattle.kw_core.proofs.Happens.{Happens, log_entry}
use Rattle.kw_shape.proofs.LinkedRows.{ComesNow, FreesNow, linked_before, linked_keeps}
use Rattle.kw_puts.specs.Below.{Below}
use Rattle.kw_puts.specs.Puts.{IsHere}
use Rattle.kw_puts.proofs.NewAttempts.{IsNew, one_more_is}
use Rattle.kw_puts.proofs.OwnAttempts.{built_puts, cell_puts, look_puts}
use Rattle.kw_puts.proofs.BuiltStages.{balancing_puts, counted_not, freezing_goes, gathering_goes, of_pin_is}
use Rattle.kw_puts.proofs.Owners.{puts_at_row, row_linked}
use Rattle.kw_puts.proofs.Rely.{SameAttempt}
use Rattle.kw_puts.proofs.RelyProof.{goes_on_by}

-- a seat that puts after an event put before, and its attempt is the same, or it was given its cell
-- now
pub data PutsFrom (z : Sizes) (r r' : Run) (s : ℕ) (l : Local) (a : Activity) : Type 0 where
  puts_on : IsPutting a → (r'.seats s).own ≡ (r.seats s).own → PutsFrom z r r' s l a
  takes_now : a ≡ Activity.Put Put.Add → has_room z (count_of (word z r.world (name.Count l.row))) ≡ true → PutsFrom z r r' s l a

-- by what it does
puts_from : (z : Sizes) (r r' : Run) (s : ℕ) (choice : Choice) (l : Local) (a : Activity) (l' : Local) → Arrow z (word z r.world) s choice l a l' → Happens z r r' s choice l l' a → IsPutting l'.activity → PutsFrom z r r' s l a
puts_from z r r' s choice l a l' (builds b next y t) h p = built_puts next.activity (built_next z (word z r.world) choice l b next t) p
puts_from z r r' s choice l a l' (asks_of_pin next o n) h p = absurd (of_pin_is (λ b. IsPutting b → ⊥) (λ y. y) (λ y. y) (λ y. y) (λ y. y) (λ y. y) (λ y. y) n p)
puts_from z r r' s choice l a l' (takes_cell m) h p = takes_now refl m
puts_from z r r' s choice l a l' stores_key h p = puts_on tt (ap (λ (g : SeatLog). g.own) h.log)
puts_from z r r' s choice l a l' stores_value h p = puts_on tt (ap (λ (g : SeatLog). g.own) h.log)
puts_from z r r' s choice l a l' (announces e) h p = puts_on tt (ap (λ (g : SeatLog). g.own) h.log)
puts_from z r r' s choice l a l' loads_clock h p = puts_on tt (ap (λ (g : SeatLog). g.own) h.log)
puts_from z r r' s choice l a l' (stamps e) h p = puts_on tt (ap (λ (g : SeatLog). g.own) h.log)
puts_from z r r' s choice l a l' (is_stamped version e) h p = puts_on tt (ap (λ (g : SeatLog). g.own) h.log)
puts_from z r r' s choice l a l' stores_version h p = puts_on tt (ap (λ (g : SeatLog). g.own) h.log)
puts_from z r r' s choice l a l' (first_reaches c y) h p = puts_on tt (ap (λ (g : SeatLog). g.own) h.log)
puts_from z r r' s choice l a l' (reaches_cell c y) h p = puts_on tt (ap (λ (g : SeatLog). g.own) h.log)
puts_from z r r' s choice l a l' (first_sees_none y) h p = puts_on tt (ap (λ (g : SeatLog). g.own) h.log)
puts_from z r r' s choice l a l' (sees_none y) h p = puts_on tt (ap (λ (g : SeatLog). g.own) h.log)
puts_from z r r' s choice l a l' (inserts_behind guess inside y) h p = puts_on tt (ap (λ (g : SeatLog). g.own) h.log)
puts_from z r r' s choice l a l' (inserts_at_first guess y) h p = puts_on tt (ap (λ (g : SeatLog). g.own) h.log)
puts_from z r r' s choice l a l' (key_before y) h p = puts_on tt (ap (λ (g : SeatLog). g.own) h.log)
puts_from z r r' s choice l a l' (key_same y) h p = puts_on tt (ap (λ (g : SeatLog). g.own) h.log)
puts_from z r r' s choice l a l' (key_after y) h p = puts_on tt (ap (λ (g : SeatLog). g.own) h.log)
puts_from z r r' s choice l a l' (version_before y) h p = puts_on tt (ap (λ (g : SeatLog). g.own) h.log)
puts_from z r r' s choice l a l' (version_after y) h p = puts_on tt (ap (λ (g : SeatLog). g.own) h.log)
puts_from z r r' s choice l a l' stores_after h p = puts_on tt (ap (λ (g : SeatLog). g.own) h.log)
puts_from z r r' s choice l a l' (inserts y) h p = puts_on tt (ap (λ (g : SeatLog). g.own) h.log)
puts_from z r r' s choice l a l' (loses y) h p = puts_on tt (ap (λ (g : SeatLog). g.own) h.log)
puts_from z r r' s choice l a l' (sees_stamped j c version next e n) h p = look_puts z _ next n p
puts_from z r r' s choice l a l' (sees_neither j next e n) h p = look_puts z _ next n p
puts_from z r r' s choice l a l' (is_gone_by next e n) h p = look_puts z _ next n p
puts_from z r r' s choice l a l' (helps next e n) h p = look_puts z _ next n p
puts_from z r r' s choice l a l' (finds_stamped c version next e n) h p = look_puts z _ next n p
puts_from z r r' s choice l a l' (finds_other next e n) h p = look_puts z _ next n p
puts_from z r r' s choice l a l' (first_ends next e n) h p = cell_puts _ next n p
puts_from z r r' s choice l a l' (list_ends next e n) h p = cell_puts _ next n p
puts_from z r r' s choice l a l' (key_above next e n) h p = cell_puts _ next n p
puts_from z r r' s choice l a l' (left_over_gone_by next e n) h p = cell_puts _ next n p
puts_from z r r' s choice l a l' (gathers_left_over next n) h p = cell_puts _ next n p
puts_from z r r' s choice l (Activity.Rebalance (Rebalance.Freeze f)) l' x h p = balancing_puts l'.activity (freezing_goes z _ s choice l f l' x) p
puts_from z r r' s choice l (Activity.Rebalance (Rebalance.Gather g)) l' x h p = balancing_puts l'.activity (gathering_goes z _ s choice l g l' x) p
puts_from z r r' s choice l a l' (marks_led count next d n) h p = absurd (counted_not IsPutting (λ x. x) (λ x. x) n p)
puts_from z r r' s choice l a l' (decides count m next e n) h p = absurd (counted_not IsPutting (λ x. x) (λ x. x) n p)
puts_from z r r' s choice l a l' _ h p = absurd p

module _ {z : Sizes} {r r' : Run} {s : ℕ} {choice : Choice} {l l' : Local} where
  -- an attempt that was there and whose row was not used again is one whose row was not before: a
  -- row that is linked now was linked later than all that was added
  pub here_was : (a : Activity) → Happens z r r' s choice l l' a → Below z r → Step r.history r'.history (log_entry z r a s choice l) → (p : ℕ) → p < length r.history.attempts → IsHere r'.ledger.rows r'.history p → IsHere r.ledger.rows r.history p
  here_was a h i st p w x = which (linked_before a h i.shape (attempt r.history p).row (subst (WasLinked r'.ledger.rows) same.row x.linked))
    where
      same : SameAttempt r.history r'.history p
      same = (goes_on_by z r r' s choice l a l' h i st).attempts p w

      born : (r'.ledger.rows.fates (attempt r.history p).row).born ≤ (attempt r'.history p).add
      born = subst (λ q. (r'.ledger.rows.fates q).born ≤ (attempt r'.history p).add) same.row x.born

      which : WasLinked r.ledger.rows (attempt r.history p).row ⊎ ComesNow (word z r.world) r.ledger.rows r'.ledger.rows s (length r.history.log) l a (attempt r.history p).row → IsHere r.ledger.rows r.history p
      which (inl k) = record { linked = k; born = omega (arith, born, same.add, (linked_keeps a h i.shape (attempt r.history p).row k).born) }
      which (inr y) = absurd (omega (arith, born, same.add, ap (λ (f : Fate). f.born) y.fate, i.history.past.add p w))

  -- it stays so, unless the row is freed now
  pub here_stays : (a : Activity) → Happens z r r' s choice l l' a → Below z r → Step r.history r'.history (log_entry z r a s choice l) → (p : ℕ) → p < length r.history.attempts → IsHere r.ledger.rows r.history p → IsHere r'.ledger.rows r'.history p ⊎ FreesNow r.ledger.rows r'.ledger.rows (attempt r.history p).row
  here_stays a h i st p w x = which (linked_keeps a h i.shape (attempt r.history p).row x.linked).linked
    where
      same : SameAttempt r.history r'.history p
      same = (goes_on_by z r r' s choice l a l' h i st).attempts p w

      which : WasLinked r'.ledger.rows (attempt r.history p).row ⊎ FreesNow r.ledger.rows r'.ledger.rows (attempt r.history p).row → IsHere r'.ledger.rows r'.history p ⊎ FreesNow r.ledger.rows r'.ledger.rows (attempt r.history p).row
      which (inl k) = inl (record {
        linked = subst (WasLinked r'.ledger.rows) (sym same.row) k;
        born = subst (λ q. (r'.ledger.rows.fates q).born ≤ (attempt r'.history p).add) (sym same.row) (omega (arith, x.born, same.add, (linked_keeps a h i.shape (attempt r.history p).row x.linked).born));
      })
      which (inr f) = inr f

  -- and so it does where the row is one that some seat may name
  pub held_here : (a : Activity) → Happens z r r' s choice l l' a → Below z r → Step r.history r'.history (log_entry z r a s choice l) → (t p : ℕ) → p < length r.history.attempts → IsFresh r.ledger.rows t (attempt r.history p).row → IsHere r.ledger.rows r.history p → IsHere r'.ledger.rows r'.history p
  held_here a h i st t p w f x = which (here_stays a h i st p w x)
    where
      which : IsHere r'.ledger.rows r'.history p ⊎ FreesNow r.ledger.rows r'.ledger.rows (attempt r.history p).row → IsHere r'.ledger.rows r'.history p
      which (inl y) = y
      which (inr n) = absurd (n.unheld (held_by r.ledger.rows t (attempt r.history p).row f))

  -- an attempt that is added now is one: its row was linked before now
  pub new_here : (a : Activity) → Happens z r r' s choice l l' a → Below z r → (p : ℕ) → IsNew z r r' s l a p → IsHere r'.ledger.rows r'.history p
  new_here a h i p n = record {
    linked = subst (WasLinked r'.ledger.rows) (sym row) (still linked);
    born = subst (λ q. (r'.ledger.rows.fates q).born ≤ (attempt r'.history p).add) (sym row) (omega (arith, ap (λ (f : Fate). f.born) fate, ap (λ (x : Attempt). x.add) n.is, i.puts.born l.row linked));
  }
    where
      taking : Happens z r r' s choice l l' (Activity.Put Put.Add)
      taking = subst (λ x. Happens z r r' s choice l l' x) n.gives.takes h

      linked : WasLinked r.ledger.rows l.row
      linked = row_linked z r i.shape s l h.knows (subst IsAtRow (sym taking.activity) tt)

      row : (attempt r'.history p).row ≡ l.row
      row = ap (λ (x : Attempt). x.row) n.is

      fate : r'.ledger.rows.fates l.row ≡ r.ledger.rows.fates l.row
      fate = fate_stays (Activity.Put Put.Add) taking l.row (λ x. x)

      still : WasLinked r.ledger.rows l.row → WasLinked r'.ledger.rows l.row
      still (inl e) = inl (ap (λ (f : Fate). f.status) fate ∙ e)
      still (inr e) = inr (ap (λ (f : Fate). f.status) fate ∙ e)

  -- The attempts of seats that put.

  -- the row of the attempt of the acting seat was not used again
  pub present_own : (a : Activity) → Happens z r r' s choice l l' a → Below z r → Step r.history r'.history (log_entry z r a s choice l) → IsPutting l'.activity → IsHere r'.ledger.rows r'.history (r'.seats s).own
  present_own a h i st p = which (puts_from z r r' s choice l a l' h.arrow h p)
    where
      kept : IsPutting l.activity → (r'.seats s).own ≡ (r.seats s).own → IsHere r'.ledger.rows r'.history (r'.seats s).own
      kept m e =
          let own = i.puts.owns s l h.knows m in
          let fresh : IsFresh r.ledger.rows s (attempt r.history (r.seats s).own).row = subst (IsFresh r.ledger.rows s) (sym own.row) ((i.shape.walks s l h.knows).at (puts_at_row l.activity m)).fresh in
          subst (IsHere r'.ledger.rows r'.history) (sym e) (held_here a h i st s (r.seats s).own own.within fresh (i.puts.present s l h.knows m))

      given : a ≡ Activity.Put Put.Add → has_room z (count_of (word z r.world (name.Count l.row))) ≡ true → IsHere r'.ledger.rows r'.history (r'.seats s).own
      given e m =
          let taking = subst (λ x. Happens z r r' s choice l l' x) e h in
          let own : (r'.seats s).own ≡ length r.history.attempts = ap (λ (x : SeatLog). x.own) (rw m at taking.log) in
          subst (IsHere r'.ledger.rows r'.history) (sym own) (new_here a h i (length r.history.attempts) (record { gives = record { takes = e; room = m }; place = refl; is = one_more_is taking m }))

      which : PutsFrom z r r' s l a → IsHere r'.ledger.rows r'.history (r'.seats s).own
      which (puts_on m e) = kept (subst IsPutting (sym h.activity) m) e
      which (takes_now e m) = given e m

  -- nor was that of the attempt of any other
  pub present_other : (a : Activity) → Happens z r r' s choice l l' a → Below z r → Step r.history r'.history (log_entry z r a s choice l) → (t : ℕ) (k : Local) → r'.seats t ≡ r.seats t → slice_get r.world.locals t ≡ Some k → IsPutting k.activity → IsHere r'.ledger.rows r'.history (r'.seats t).own
  present_other a h i st t k e g p =
      let own = i.puts.owns t k g p in
      let fresh : IsFresh r.ledger.rows t (attempt r.history (r.seats t).own).row = subst (IsFresh r.ledger.rows t) (sym own.row) ((i.shape.walks t k g).at (puts_at_row k.activity p)).fresh in
      subst (λ (x : SeatLog). IsHere r'.ledger.rows r'.history x.own) (sym e) (held_here a h i st t (r.seats t).own own.within fresh (i.puts.present t k g p))
