-- Where a seat goes along the rows, by the arrow that it takes: from a row that it may name to the
-- one after it, until it is at the row of its wanted key. The words and the ledger are those before
-- the event.
use Rattle.std.proofs.Common.{ℕ, ◌≡◌, ◌⊎◌, inl, inr, ◌<◌, ◌≤◌, true, Some, None, arith, refl, sym, ◌∙◌, ap, subst}
use Rattle.std.proofs.lemmas.Option.{same_Some}
use Rattle.kw_words.specs.declared.layout.Name.TheVariants as name
use Rattle.kw_words.specs.Link.{link_of}
use Rattle.kw_world.specs.declared.activity.Activity.{Activity}
use Rattle.kw_world.specs.declared.activity.insert.Insert.TheVariants as Insert
use Rattle.kw_world.specs.declared.activity.look.Look.TheVariants as Look
use Rattle.kw_world.specs.declared.activity.put.Put.TheVariants as Put
use Rattle.kw_world.specs.declared.activity.read.Read.TheVariants as Read
use Rattle.kw_world.specs.declared.activity.walk.Walk.TheVariants as Walk
use Rattle.kw_world.specs.declared.local.Local.{Local}
use Rattle.kw_world.specs.declared.event.Choice.{Choice}
use Rattle.kw_world.specs.Sizes.{Sizes}
use Rattle.kw_world.specs.Calls.{first_key, is_scan}
use Rattle.kw_world.specs.Transition.{row_linked, row_or_first}
use Rattle.kw_core.specs.Stages.{IsBalancing, IsStarting, IsAtRow, IsPastStart}
use Rattle.kw_core.specs.Words.{Words, next_in, least_in, built_in}
use Rattle.kw_rows.specs.Ledger.{Ledger, IsFresh, IsLive}
use Rattle.kw_rows.specs.Structure.{Structure}
use Rattle.kw_rows.proofs.Named.{above_least, ends_at, ends_nowhere, fresh_next, held_by, normal_live}
use Rattle.kw_shape.specs.RowsIn.{rows_in, state_seen}
use Rattle.kw_shape.specs.Shape.{IsAtItsRow, IsOnWalk, Walks}
use Rattle.kw_core.proofs.Arrows.{Arrow, enters, settles, starts_at_head, guesses, guess_fails, takes_head, guess_serves, guess_is_above, puts_in_last, reads_last, reaches_next, walks_on, puts_before, reads_before, sees_pending, sees_stamped, sees_neither, is_wanted, is_gone_by, loads_to_help, helps, finds_stamped, finds_other, list_leads, list_ends, key_below, key_within, key_above, loads_version, gathers_listed, left_over_wanted, left_over_gone_by, gathers_left_over, finds_room, takes_cell, stores_key, stores_value, announces, loads_clock, stamps, is_stamped, stores_version, reaches_cell, sees_none, key_before, key_same, key_after, version_before, version_after, stores_after, inserts, loses, NextLook, looks, lists, NextLeftOver, goes_to_left_over, answers, ends_scan, scans_on, builds, begins_at_first, begins_behind, first_ends, first_leads, first_reaches, first_sees_none, inserts_at_first, inserts_behind, remembers_last, sees_frozen_last, freezes_last, takes_no_more, keeps_no_more, decides, marks_led, asks_of_pin, looks_at_pin}
use Rattle.kw_core.proofs.Grouping.{counted_goes, frozen_goes, gathered_goes}
use Rattle.kw_core.proofs.BuiltNext.{built_next}
use Rattle.kw_shape.proofs.AfterBuilding.{after_walks, look_goes}
use Rattle.kw_core.proofs.Pinning.{NextOfPin, reads_at_pin}

-- At a row.

-- a seat that is at its row is past the start of its walk
pub past : (a : Activity) → IsAtRow a → IsPastStart a
past (Activity.Walk Walk.Next) x = tt
past (Activity.Walk Walk.NextLeast) x = tt
past _ x = x

not_starting : (a : Activity) → IsAtRow a → IsStarting a → ⊥
not_starting (Activity.Walk Walk.Start) x y = x
not_starting (Activity.Walk Walk.First) x y = x
not_starting (Activity.Walk Walk.GuessedLeast) x y = x
not_starting _ x y = y

on_row : (a : Activity) (v : Words) (g : Ledger) (t : ℕ) (l : Local) → IsAtRow a → IsOnWalk a v g t l
on_row (Activity.Walk Walk.GuessedLeast) v g t l x = absurd x
on_row (Activity.Walk Walk.Next) v g t l x = absurd x
on_row (Activity.Walk Walk.NextLeast) v g t l x = absurd x
on_row _ v g t l x = tt

-- a seat that stays at its row with its call wants what it wanted
wants_on : (v : Words) (l k : Local) → k.row ≡ l.row → k.want ≡ l.want → k.call ≡ l.call → (l.want ≡ first_key l.call) ⊎ (is_scan l.call ≡ true) × (least_in v l.row ≡ l.want) → (k.want ≡ first_key k.call) ⊎ (is_scan k.call ≡ true) × (least_in v k.row ≡ k.want)
wants_on v l k row want call (inl e) = inl (want ∙ e ∙ ap first_key (sym call))
wants_on v l k row want call (inr e) = inr (ap is_scan call ∙ e.0, ap (least_in v) row ∙ e.1 ∙ sym want)

module _ (v : Words) (g : Ledger) (t : ℕ) where
  -- a seat that stays at its row
  stays : (a : Activity) (l : Local) (b : Activity) (k : Local) → IsAtRow a → IsAtRow b → k.row ≡ l.row → k.lower ≡ l.lower → k.built ≡ l.built → k.want ≡ l.want → k.next ≡ l.next → k.upper ≡ l.upper → k.call ≡ l.call → Walks v g t a l → Walks v g t b k
  stays a l b k x y row lower built want next upper call w = record {
    on = on_row b v g t k y;
    lower = λ q. lower ∙ w.lower (past a x) ∙ ap (least_in v) (sym row);
    built = λ q. omega (arith, built, w.built (past a x), ap (built_in v) row);
    at = λ q. record {
      fresh = subst (IsFresh g t) (sym row) at.fresh;
      from = omega (arith, at.from, ap (least_in v) row);
      last = λ e. ap (λ q. (g.fates q).upper) row ∙ at.last (sym next ∙ e);
      next = λ n e.
          let u = at.next n (sym next ∙ e) in
          record { fresh = u.fresh; least = upper ∙ u.least; ends = ap (λ q. (g.fates q).upper) row ∙ u.ends ∙ ap Some (sym upper); below = omega (arith, u.below) };
    };
    begins = λ q. absurd (not_starting b y q);
    wants = λ q. wants_on v l k row want call (w.wants (past a x));
  }
    where
      at : IsAtItsRow v g t l
      at = w.at x

  -- a seat that is nowhere along the rows
  nowhere : (a : Activity) (l : Local) → (IsAtRow a → ⊥) → (IsStarting a → ⊥) → (IsPastStart a → ⊥) → IsOnWalk a v g t l → Walks v g t a l
  nowhere a l x y q on = record { on = on; lower = λ u. absurd (q u); built = λ u. absurd (q u); at = λ u. absurd (x u); begins = λ u. absurd (y u); wants = λ u. absurd (q u) }

  -- so is one that rebalances
  rebalances : (a : Activity) (l : Local) → IsBalancing a → Walks v g t a l
  rebalances (Activity.Rebalance b) l x = nowhere (Activity.Rebalance b) l (λ u. u) (λ u. u) (λ u. u) tt
  rebalances _ l x = absurd x

  -- the next look of a reader
  look_stays : (z : Sizes) (j : ℕ) (a : Activity) (l : Local) (next : Activity) (k : Local) → NextLook z j next → IsAtRow a → k.row ≡ l.row → k.lower ≡ l.lower → k.built ≡ l.built → k.want ≡ l.want → k.next ≡ l.next → k.upper ≡ l.upper → k.call ≡ l.call → Walks v g t a l → Walks v g t next k
  look_stays z j a l next k (looks o) x row lower built want after upper call w = stays a l (Activity.Look (Look.Entry j)) k x tt row lower built want after upper call w
  look_stays z j a l next k (lists o) x row lower built want after upper call w = stays a l (Activity.Read Read.Start) k x tt row lower built want after upper call w

  -- the next cell of a reader, or the next row of a scan
  cell_goes : (a : Activity) (l : Local) (k next : Local) → NextLeftOver k next → IsAtRow a → k.row ≡ l.row → k.lower ≡ l.lower → k.built ≡ l.built → k.want ≡ l.want → k.next ≡ l.next → k.upper ≡ l.upper → k.call ≡ l.call → Walks v g t a l → Walks v g t next.activity next
  cell_goes a l k next (goes_to_left_over m o) x row lower built want after upper call w = stays a l (Activity.Read Read.LeftOverKey) next x tt row lower built want after upper call w
  cell_goes a l k next (answers o n) x row lower built want after upper call w = nowhere _ next (λ u. u) (λ u. u) (λ u. u) tt
  cell_goes a l k next (ends_scan o y n) x row lower built want after upper call w = nowhere _ next (λ u. u) (λ u. u) (λ u. u) tt
  cell_goes a l k next (scans_on q o y n u) x row lower built want after upper call w =
      let m = (w.at x).next q (sym after ∙ n) in
      let f : k.upper ≡ least_in v q = upper ∙ m.least in
      record {
        on = (m.fresh, omega (arith, f));
        lower = λ s. f;
        built = λ s. omega arith;
        at = λ s. absurd s;
        begins = λ s. absurd s;
        wants = λ s. inr (y, sym f);
      }

  -- at the row before the candidate
  arrives_before : (b : Activity) (l k : Local) → IsAtRow b → l.want < least_in v l.candidate → k.row ≡ l.row → k.lower ≡ l.lower → k.built ≡ l.built → k.want ≡ l.want → k.next ≡ Some l.candidate → k.upper ≡ least_in v l.candidate → k.call ≡ l.call → Walks v g t (Activity.Walk Walk.NextLeast) l → Walks v g t b k
  arrives_before b l k y o row lower built want next upper call w = record {
    on = on_row b v g t k y;
    lower = λ q. lower ∙ w.lower tt ∙ ap (least_in v) (sym row);
    built = λ q. omega (arith, built, w.built tt, ap (built_in v) row);
    at = λ q. record {
      fresh = subst (IsFresh g t) (sym row) w.on.0;
      from = omega (arith, w.on.1, ap (least_in v) row);
      last = λ f. let x : Some l.candidate ≡ None = sym next ∙ f in absurd (cc);
      next = λ n f.
          let e : l.candidate ≡ n = same_Some l.candidate n (sym next ∙ f) in
          record { fresh = subst (IsFresh g t) e w.on.2; least = upper ∙ ap (least_in v) e; ends = ap (λ q. (g.fates q).upper) row ∙ w.on.3 ∙ ap Some (sym upper); below = omega (arith, o) };
    };
    begins = λ q. absurd (not_starting b y q);
    wants = λ q. wants_on v l k row want call (w.wants tt);
  }

module _ (v : Words) (g : Ledger) (t : ℕ) {now : ℕ} (rows : Structure (rows_in v) g now) where
  -- at the row after which the walk ends
  arrives_last : (b : Activity) (l k : Local) → IsAtRow b → next_in v l.row ≡ None → k.row ≡ l.row → k.lower ≡ l.lower → k.built ≡ l.built → k.want ≡ l.want → k.next ≡ None → k.call ≡ l.call → Walks v g t (Activity.Walk Walk.Next) l → Walks v g t b k
  arrives_last b l k y e row lower built want next call w = record {
    on = on_row b v g t k y;
    lower = λ q. lower ∙ w.lower tt ∙ ap (least_in v) (sym row);
    built = λ q. omega (arith, built, w.built tt, ap (built_in v) row);
    at = λ q. record {
      fresh = subst (IsFresh g t) (sym row) w.on.0;
      from = omega (arith, w.on.1, ap (least_in v) row);
      last = λ f. ap (λ q. (g.fates q).upper) row ∙ ends_nowhere (rows_in v) g rows.closed l.row (held_by g t l.row w.on.0) e;
      next = λ n f. let x : None ≡ Some n = sym next ∙ f in absurd (cc);
    };
    begins = λ q. absurd (not_starting b y q);
    wants = λ q. wants_on v l k row want call (w.wants tt);
  }

  -- at the first row
  at_first : (k : Local) → k.row ≡ row_or_first (row_linked (link_of (v name.Head))) → k.lower ≡ 0 → k.built ≡ 0 → k.want ≡ first_key k.call → Walks v g t (Activity.Walk Walk.Next) k
  at_first k row lower built want =
      let c = rows.chain in
      let e : k.row ≡ c.first = row ∙ ap row_or_first c.leads in
      record {
        on = (inl (subst (IsLive g) (sym e) c.first_live), omega (arith, ap (least_in v) e, c.first_least));
        lower = λ q. omega (arith, lower, ap (least_in v) e, c.first_least);
        built = λ q. omega (arith, built);
        at = λ q. absurd q;
        begins = λ q. absurd q;
        wants = λ q. inl want;
      }

  -- at the row after one, which begins where the range of that one ends
  reaches : (l : Local) (q : ℕ) → next_in v l.row ≡ Some q → Walks v g t (Activity.Walk Walk.Next) l → Walks v g t (Activity.Walk Walk.NextLeast) (record l { candidate = q; activity = Activity.Walk Walk.NextLeast })
  reaches l q n w = record {
    on = (w.on.0, w.on.1, fresh_next (rows_in v) g rows.closed t l.row q w.on.0 n, ends_at (rows_in v) g rows.closed l.row q (held_by g t l.row w.on.0) n);
    lower = λ u. w.lower tt;
    built = λ u. w.built tt;
    at = λ u. absurd u;
    begins = λ u. absurd u;
    wants = λ u. w.wants tt;
  }

  -- a scan that wants the least key of its row does not walk on from there
  goes_beyond : (l : Local) → Walks v g t (Activity.Walk Walk.NextLeast) l → least_in v l.candidate ≤ l.want → l.want ≡ first_key l.call
  goes_beyond l w o = which (w.wants tt)
    where
      which : (l.want ≡ first_key l.call) ⊎ (is_scan l.call ≡ true) × (least_in v l.row ≡ l.want) → l.want ≡ first_key l.call
      which (inl e) = e
      which (inr e) = absurd (omega (arith, e.1, above_least (rows_in v) g rows.closed l.row (least_in v l.candidate) (held_by g t l.row w.on.0) w.on.3, o))

-- a call that asks of a pin begins a walk, or is nowhere along the rows
of_pin_walks : (v : Words) (g : Ledger) (s : ℕ) (l k : Local) → NextOfPin l k → Walks v g s k.activity k
of_pin_walks v g s l k (reads_at_pin from upto version e f o) = record { on = tt; lower = λ q. absurd q; built = λ q. absurd q; at = λ q. absurd q; begins = λ q. refl; wants = λ q. absurd q }
of_pin_walks v g s l k _ = nowhere v g s _ _ (λ u. u) (λ u. u) (λ u. u) tt

-- by the arrow that the seat takes
pub walks_by : (z : Sizes) (v : Words) (g : Ledger) {now : ℕ} (s : ℕ) (choice : Choice) (l : Local) (a : Activity) (l' : Local) → Arrow z v s choice l a l' → Structure (rows_in v) g now → Walks v g s a l → Walks v g s l'.activity l'
walks_by z v g s choice l a l' (builds b next y t) c w = after_walks v g s next.activity next (built_next z v choice l b next t)
walks_by z v g s choice l a l' (enters y) c w = record { on = tt; lower = λ q. absurd q; built = λ q. absurd q; at = λ q. absurd q; begins = λ q. refl; wants = λ q. absurd q }
walks_by z v g s choice l a l' (settles y) c w = record { on = tt; lower = λ q. absurd q; built = λ q. absurd q; at = λ q. absurd q; begins = λ q. refl; wants = λ q. absurd q }
walks_by z v g s choice l a l' starts_at_head c w = at_first v g s c _ refl refl refl (w.begins tt)
walks_by z v g s choice l a l' (guesses q y n) c w = record { on = inl (normal_live (rows_in v) g q c.states (ap state_seen n)); lower = λ u. absurd u; built = λ u. absurd u; at = λ u. absurd u; begins = λ u. w.begins tt; wants = λ u. absurd u }
walks_by z v g s choice l a l' guess_fails c w = record { on = tt; lower = λ q. absurd q; built = λ q. absurd q; at = λ u. absurd u; begins = λ u. w.begins tt; wants = λ u. absurd u }
walks_by z v g s choice l a l' takes_head c w = at_first v g s c _ refl refl refl (w.begins tt)
walks_by z v g s choice l a l' (guess_serves o) c w = record { on = (w.on, o); lower = λ u. refl; built = λ u. omega arith; at = λ u. absurd u; begins = λ u. absurd u; wants = λ u. inl (w.begins tt) }
walks_by z v g s choice l a l' (guess_is_above o) c w = record { on = tt; lower = λ q. absurd q; built = λ q. absurd q; at = λ u. absurd u; begins = λ u. w.begins tt; wants = λ u. absurd u }
walks_by z v g s choice l a l' (puts_in_last y n) c w = arrives_last v g s c (Activity.Put Put.Count) l _ tt n refl refl refl refl refl refl w
walks_by z v g s choice l a l' (reads_last y n) c w = arrives_last v g s c (Activity.Look (Look.Entry 0)) l _ tt n refl refl refl refl refl refl w
walks_by z v g s choice l a l' (reaches_next q n) c w = reaches v g s c l q n w
walks_by z v g s choice l a l' (walks_on o) c w = record { on = (w.on.2, o); lower = λ u. refl; built = λ u. omega arith; at = λ u. absurd u; begins = λ u. absurd u; wants = λ u. inl (goes_beyond v g s c l w o) }
walks_by z v g s choice l a l' (puts_before y o) c w = arrives_before v g s (Activity.Put Put.Count) l _ tt o refl refl refl refl refl refl refl w
walks_by z v g s choice l a l' (reads_before y o) c w = arrives_before v g s (Activity.Look (Look.Entry 0)) l _ tt o refl refl refl refl refl refl refl w
walks_by z v g s choice l a l' (sees_pending k x y) c w = stays v g s (Activity.Look (Look.Entry k)) l (Activity.Look Look.Key) _ tt tt refl refl refl refl refl refl refl w
walks_by z v g s choice l a l' (sees_stamped k x version next y n) c w = look_stays v g s z _ (Activity.Look (Look.Entry k)) l next _ n tt refl refl refl refl refl refl refl w
walks_by z v g s choice l a l' (sees_neither k next y n) c w = look_stays v g s z _ (Activity.Look (Look.Entry k)) l next _ n tt refl refl refl refl refl refl refl w
walks_by z v g s choice l a l' (is_wanted y) c w = stays v g s (Activity.Look Look.Key) l (Activity.Look Look.Clock) _ tt tt refl refl refl refl refl refl refl w
walks_by z v g s choice l a l' (is_gone_by next y n) c w = look_stays v g s z _ (Activity.Look Look.Key) l next _ n tt refl refl refl refl refl refl refl w
walks_by z v g s choice l a l' loads_to_help c w = stays v g s (Activity.Look Look.Clock) l (Activity.Look Look.Help) _ tt tt refl refl refl refl refl refl refl w
walks_by z v g s choice l a l' (helps next y n) c w = look_stays v g s z _ (Activity.Look Look.Help) l next _ n tt refl refl refl refl refl refl refl w
walks_by z v g s choice l a l' (finds_stamped x version next y n) c w = look_stays v g s z _ (Activity.Look Look.Help) l next _ n tt refl refl refl refl refl refl refl w
walks_by z v g s choice l a l' (finds_other next y n) c w = look_stays v g s z _ (Activity.Look Look.Help) l next _ n tt refl refl refl refl refl refl refl w
walks_by z v g s choice l a l' (first_ends next e n) c w = cell_goes v g s (Activity.Read Read.Start) l _ next n tt refl refl refl refl refl refl refl w
walks_by z v g s choice l a l' (list_ends next e n) c w = cell_goes v g s (Activity.Read Read.Link) l _ next n tt refl refl refl refl refl refl refl w
walks_by z v g s choice l a l' (first_leads x y) c w = stays v g s (Activity.Read Read.Start) l (Activity.Read Read.Key) _ tt tt refl refl refl refl refl refl refl w
walks_by z v g s choice l a l' (list_leads x y) c w = stays v g s (Activity.Read Read.Link) l (Activity.Read Read.Key) _ tt tt refl refl refl refl refl refl refl w
walks_by z v g s choice l a l' (begins_behind guess inside y) c w = stays v g s (Activity.Read Read.Start) l (Activity.Read Read.Link) _ tt tt refl refl refl refl refl refl refl w
walks_by z v g s choice l a l' (begins_at_first guess y) c w = stays v g s (Activity.Read Read.Start) l (Activity.Read Read.Link) _ tt tt refl refl refl refl refl refl refl w
walks_by z v g s choice l a l' (key_below y) c w = stays v g s (Activity.Read Read.Key) l (Activity.Read Read.Link) _ tt tt refl refl refl refl refl refl refl w
walks_by z v g s choice l a l' (key_within y u) c w = stays v g s (Activity.Read Read.Key) l (Activity.Read Read.Version) _ tt tt refl refl refl refl refl refl refl w
walks_by z v g s choice l a l' loads_version c w = stays v g s (Activity.Read Read.Version) l (Activity.Read Read.Value) _ tt tt refl refl refl refl refl refl refl w
walks_by z v g s choice l a l' gathers_listed c w = stays v g s (Activity.Read Read.Value) l (Activity.Read Read.Link) _ tt tt refl refl refl refl refl refl refl w
walks_by z v g s choice l a l' (left_over_wanted y) c w = stays v g s (Activity.Read Read.LeftOverKey) l (Activity.Read Read.LeftOverValue) _ tt tt refl refl refl refl refl refl refl w
walks_by z v g s choice l a l' (key_above next y n) c w = cell_goes v g s (Activity.Read Read.Key) l _ next n tt refl refl refl refl refl refl refl w
walks_by z v g s choice l a l' (left_over_gone_by next y n) c w = cell_goes v g s (Activity.Read Read.LeftOverKey) l _ next n tt refl refl refl refl refl refl refl w
walks_by z v g s choice l a l' (gathers_left_over next n) c w = cell_goes v g s (Activity.Read Read.LeftOverValue) l _ next n tt refl refl refl refl refl refl refl w
walks_by z v g s choice l a l' (finds_room y) c w = stays v g s (Activity.Put Put.Count) l (Activity.Put Put.Add) _ tt tt refl refl refl refl refl refl refl w
walks_by z v g s choice l a l' (takes_cell y) c w = stays v g s (Activity.Put Put.Add) l (Activity.Put Put.Key) _ tt tt refl refl refl refl refl refl refl w
walks_by z v g s choice l a l' stores_key c w = stays v g s (Activity.Put Put.Key) l (Activity.Put Put.Value) _ tt tt refl refl refl refl refl refl refl w
walks_by z v g s choice l a l' stores_value c w = stays v g s (Activity.Put Put.Value) l (Activity.Put Put.Announce) _ tt tt refl refl refl refl refl refl refl w
walks_by z v g s choice l a l' (announces y) c w = stays v g s (Activity.Put Put.Announce) l (Activity.Put Put.Clock) _ tt tt refl refl refl refl refl refl refl w
walks_by z v g s choice l a l' loads_clock c w = stays v g s (Activity.Put Put.Clock) l (Activity.Put Put.Stamp) _ tt tt refl refl refl refl refl refl refl w
walks_by z v g s choice l a l' (stamps y) c w = stays v g s (Activity.Put Put.Stamp) l (Activity.Put Put.Version) _ tt tt refl refl refl refl refl refl refl w
walks_by z v g s choice l a l' (is_stamped version y) c w = stays v g s (Activity.Put Put.Stamp) l (Activity.Put Put.Version) _ tt tt refl refl refl refl refl refl refl w
walks_by z v g s choice l a l' stores_version c w = stays v g s (Activity.Put Put.Version) l (Activity.Insert Insert.Start) _ tt tt refl refl refl refl refl refl refl w
walks_by z v g s choice l a l' (first_reaches x y) c w = stays v g s (Activity.Insert Insert.Start) l (Activity.Insert Insert.Key) _ tt tt refl refl refl refl refl refl refl w
walks_by z v g s choice l a l' (reaches_cell x y) c w = stays v g s (Activity.Insert Insert.Link) l (Activity.Insert Insert.Key) _ tt tt refl refl refl refl refl refl refl w
walks_by z v g s choice l a l' (first_sees_none y) c w = stays v g s (Activity.Insert Insert.Start) l (Activity.Insert Insert.Set) _ tt tt refl refl refl refl refl refl refl w
walks_by z v g s choice l a l' (sees_none y) c w = stays v g s (Activity.Insert Insert.Link) l (Activity.Insert Insert.Set) _ tt tt refl refl refl refl refl refl refl w
walks_by z v g s choice l a l' (inserts_behind guess inside y) c w = stays v g s (Activity.Insert Insert.Start) l (Activity.Insert Insert.Link) _ tt tt refl refl refl refl refl refl refl w
walks_by z v g s choice l a l' (inserts_at_first guess y) c w = stays v g s (Activity.Insert Insert.Start) l (Activity.Insert Insert.Link) _ tt tt refl refl refl refl refl refl refl w
walks_by z v g s choice l a l' (key_before y) c w = stays v g s (Activity.Insert Insert.Key) l (Activity.Insert Insert.Link) _ tt tt refl refl refl refl refl refl refl w
walks_by z v g s choice l a l' (key_same y) c w = stays v g s (Activity.Insert Insert.Key) l (Activity.Insert Insert.Version) _ tt tt refl refl refl refl refl refl refl w
walks_by z v g s choice l a l' (key_after y) c w = stays v g s (Activity.Insert Insert.Key) l (Activity.Insert Insert.Set) _ tt tt refl refl refl refl refl refl refl w
walks_by z v g s choice l a l' (version_before y) c w = stays v g s (Activity.Insert Insert.Version) l (Activity.Insert Insert.Link) _ tt tt refl refl refl refl refl refl refl w
walks_by z v g s choice l a l' (version_after y) c w = stays v g s (Activity.Insert Insert.Version) l (Activity.Insert Insert.Set) _ tt tt refl refl refl refl refl refl refl w
walks_by z v g s choice l a l' stores_after c w = stays v g s (Activity.Insert Insert.Set) l (Activity.Insert Insert.Exchange) _ tt tt refl refl refl refl refl refl refl w
walks_by z v g s choice l a l' (inserts y) c w = stays v g s (Activity.Insert Insert.Exchange) l (Activity.Put Put.Clear) _ tt tt refl refl refl refl refl refl refl w
walks_by z v g s choice l a l' (loses y) c w = stays v g s (Activity.Insert Insert.Exchange) l (Activity.Insert Insert.Start) _ tt tt refl refl refl refl refl refl refl w
walks_by z v g s choice l a l' (remembers_last j x version next e o m) c w = rebalances v g s next.activity next (frozen_goes _ next m).next
walks_by z v g s choice l a l' (sees_frozen_last j next e o m) c w = rebalances v g s next.activity next (frozen_goes _ next m).next
walks_by z v g s choice l a l' (freezes_last j next e o m) c w = rebalances v g s next.activity next (frozen_goes _ next m).next
walks_by z v g s choice l a l' (takes_no_more next e f m) c w = rebalances v g s next.activity next (gathered_goes z _ next m).next
walks_by z v g s choice l a l' (keeps_no_more next f m) c w = rebalances v g s next.activity next (gathered_goes z _ next m).next
walks_by z v g s choice l a l' (marks_led count next d m) c w = rebalances v g s next.activity next (counted_goes _ _ next m).next
walks_by z v g s choice l a l' (decides count n next e m) c w = rebalances v g s next.activity next (counted_goes _ _ next m).next
walks_by z v g s choice l a l' (asks_of_pin next x n) c w = of_pin_walks v g s l next n
walks_by z v g s choice l a l' (looks_at_pin j next n) c w = rebalances v g s next.activity next (look_goes z _ _ _ next n).next
walks_by z v g s choice l a l' _ c w = nowhere v g s _ _ (λ u. u) (λ u. u) (λ u. u) tt
