-- A row that is not free was in use at the opening, or was taken since, by induction over the
-- events: only a seat that takes a row makes one that was free anything else.
use Rattle.std.proofs.Common.{ℕ, zero, suc, ◌≡◌, ◌≢◌, ◌⊎◌, inl, inr, ◌==◌, Bool, true, false, Option, None, Some, refl, sym, ◌∙◌, ap, subst, if◌then◌else◌, length}
use Rattle.kw_words.specs.declared.layout.Name.TheVariants as name
use Rattle.kw_words.specs.declared.state.State.{State}
use Rattle.kw_words.specs.declared.state.State.TheVariants as state
use Rattle.kw_words.specs.Link.{link_word}
use Rattle.kw_words.specs.State.{state_of, state_word}
use Rattle.kw_rows.specs.Ledger as fate
use Rattle.kw_rows.specs.Ledger.{Fate, Status}
use Rattle.kw_rows.specs.RowState as row
use Rattle.kw_rows.specs.Rows.{WasLinked}
use Rattle.kw_rows.specs.States.{HasState}
use Rattle.kw_world.specs.declared.activity.Activity.{Activity}
use Rattle.kw_world.specs.declared.activity.draw.Draw.TheVariants as Draw
use Rattle.kw_world.specs.declared.activity.enter.Enter.TheVariants as Enter
use Rattle.kw_world.specs.declared.activity.rebalance.Rebalance.TheVariants as Rebalance
use Rattle.kw_world.specs.declared.activity.rebalance.replace.Replace.TheVariants as Replace
use Rattle.kw_world.specs.declared.activity.rebalance.seek.Seek.TheVariants as Seek
use Rattle.kw_world.specs.declared.event.Choice.{Choice}
use Rattle.kw_world.specs.declared.local.Local.{Local}
use Rattle.kw_world.specs.declared.opening.Opening.{Opening}
use Rattle.kw_world.specs.Sane.{IsRowState}
use Rattle.kw_world.specs.SeekTransitions.{infant}
use Rattle.kw_world.specs.Sizes.{Sizes}
use Rattle.kw_world.specs.Step.{word}
use Rattle.kw_world.specs.WriteTransitions.{unmarked_link}
use Rattle.kw_core.specs.Ledger.{Ledger, fate_dead, fate_free, fate_live, fate_taken, group_of, is_among, ledger_after, with_fate, with_replaced}
use Rattle.kw_core.specs.Run.{Run, start}
use Rattle.kw_core.specs.Words.{Words}
use Rattle.kw_core.proofs.Happens.{Happens, found_at}
use Rattle.kw_shape.specs.RowsIn.{rows_in, state_seen}
use Rattle.kw_shape.specs.Shape.{Shape}
use Rattle.kw_shape.proofs.LinkedRows.{ComesNow, linked_before, linked_not_free}
use Rattle.kw_counts.specs.Counts.{Counts, ever_after, no_counts, with_at}
use Rattle.kw_counts.specs.Ever.{KeepsEver}

-- What is kept.

-- the row is not free
abbrev pub IsInUse : Run → ℕ → Type 0
IsInUse r q = (r.ledger.rows.fates q).status ≢ fate.Free

abbrev pub WereInUse : Run → Counts → Type 0
WereInUse r c = (q : ℕ) → IsInUse r q → c.ever q ≡ true

-- Statuses.

free_not_infant : {A : Type 0} (s : Status) → s ≡ fate.Free → s ≡ fate.Infant → A
free_not_infant s a b = let x : fate.Free ≡ fate.Infant = sym a ∙ b in absurd (cc)

is_free : (s : Status) → (s ≡ fate.Free) ⊎ (s ≢ fate.Free)
is_free fate.Free = inl refl
is_free fate.Infant = inr (λ e. let x : fate.Infant ≡ fate.Free = e in cc)
is_free fate.Live = inr (λ e. let x : fate.Live ≡ fate.Free = e in cc)
is_free fate.Dead = inr (λ e. let x : fate.Dead ≡ fate.Free = e in cc)

-- a fate that is set to one that is no infant's is none
set_not_infant : {A : Type 0} (f : ℕ → Fate) (x q : ℕ) (y : Fate) → (f q).status ≡ fate.Free → (y.status ≡ fate.Infant → A) → (if q == x then y else f q).status ≡ fate.Infant → A
set_not_infant {A = A} f x q y a n = saw (q == x)
  where
    saw : (b : Bool) → (let z : Fate = if b then y else f q in z).status ≡ fate.Infant → A
    saw true d = n d
    saw false d = free_not_infant _ a d

-- nor is any where a group is replaced
replaced_not_infant : {A : Type 0} (g : fate.Ledger) (v : Words) (s now q : ℕ) (l : Local) → (g.fates q).status ≡ fate.Free → ((with_replaced v s now l g).fates q).status ≡ fate.Infant → A
replaced_not_infant {A = A} g v s now q l a = saw (is_among (group_of l) q) (is_among l.rebalance.taken q)
  where
    saw : (b c : Bool) → (let x : Fate = if b then fate_dead s now (g.fates q) else if c then fate_live v now q (g.fates q) else g.fates q in x).status ≡ fate.Infant → A
    saw true c d = let x : fate.Dead ≡ fate.Infant = d in absurd (cc)
    saw false true d = let x : fate.Live ≡ fate.Infant = d in absurd (cc)
    saw false false d = free_not_infant _ a d

-- One event.

-- rows that were ever in use were so
pub ever_lasts : (a : Activity) (l : Local) (found : ℕ) (f : ℕ → Bool) (q : ℕ) → f q ≡ true → ever_after a l found f q ≡ true
ever_lasts (Activity.Rebalance (Rebalance.Seek Seek.Take)) l found f q e = saw (found == state_word state.Free)
  where
    here : (b : Bool) → (let t : Bool = if b then true else f q in t) ≡ true
    here true = refl
    here false = e

    saw : (b : Bool) → (let h : ℕ → Bool = if b then with_at f l.rebalance.sought true else f in h) q ≡ true
    saw true = here (q == l.rebalance.sought)
    saw false = e
ever_lasts _ l found f q e = e

-- a free row that becomes an infant is taken
infant_now : (z : Sizes) (a : Activity) (s : ℕ) (l : Local) (found : ℕ) (v : Words) (now : ℕ) (g : Ledger) (f : ℕ → Bool) (q : ℕ) → (g.rows.fates q).status ≡ fate.Free → ((ledger_after z a s l found v now g).rows.fates q).status ≡ fate.Infant → ever_after a l found f q ≡ true
infant_now z (Activity.Rebalance (Rebalance.Seek Seek.Take)) s l found v now g f q a d = saw (found == state_word state.Free) d
  where
    here : (b : Bool) → (let x : Fate = if b then fate_taken s now (g.rows.fates l.rebalance.sought) else g.rows.fates q in x).status ≡ fate.Infant → (let t : Bool = if b then true else f q in t) ≡ true
    here true e = refl
    here false e = free_not_infant _ a e

    saw : (b : Bool) → ((let x : Ledger = if b then record g { rows = with_fate g.rows l.rebalance.sought (fate_taken s now (g.rows.fates l.rebalance.sought)) } else g in x).rows.fates q).status ≡ fate.Infant → (let h : ℕ → Bool = if b then with_at f l.rebalance.sought true else f in h) q ≡ true
    saw true e = here (q == l.rebalance.sought) e
    saw false e = free_not_infant _ a e
infant_now z (Activity.Rebalance (Rebalance.Seek Seek.Reclaim)) s l found v now g f q a d = saw (found == state_word (state.Retired l.rebalance.number)) d
  where
    saw : (b : Bool) → ((let x : Ledger = if b then record g { rows = with_fate g.rows l.rebalance.sought (fate_free (g.rows.fates l.rebalance.sought)) } else g in x).rows.fates q).status ≡ fate.Infant → f q ≡ true
    saw true e = set_not_infant g.rows.fates l.rebalance.sought q (fate_free (g.rows.fates l.rebalance.sought)) a (λ x. let y : fate.Free ≡ fate.Infant = x in absurd (cc)) e
    saw false e = free_not_infant _ a e
infant_now z (Activity.Rebalance (Rebalance.Seek Seek.GiveBack)) s l found v now g f q a d = set_not_infant g.rows.fates (infant l) q (fate_free (g.rows.fates (infant l))) a (λ x. let y : fate.Free ≡ fate.Infant = x in absurd (cc)) d
infant_now z (Activity.Rebalance (Rebalance.Replace Replace.Exchange)) s l found v now g f q a d = saw (found == link_word (unmarked_link (Some l.row))) d
  where
    saw : (b : Bool) → ((let x : Ledger = if b then record g { rows = with_replaced v s now l g.rows } else g in x).rows.fates q).status ≡ fate.Infant → f q ≡ true
    saw true e = replaced_not_infant g.rows v s now q l a e
    saw false e = free_not_infant _ a e
infant_now z (Activity.Rebalance (Rebalance.Replace Replace.Number)) s l found v now g f q a d = free_not_infant _ a d
infant_now z (Activity.Enter Enter.Announce) s l found v now g f q a d = free_not_infant _ a d
infant_now z (Activity.Draw Draw.Wait) s l found v now g f q a d = free_not_infant _ a d
infant_now z _ s l found v now g f q a d = free_not_infant _ a d

module _ (z : Sizes) (r r' : Run) (s : ℕ) (choice : Choice) (l l' : Local) (a : Activity) (h : Happens z r r' s choice l l' a) (i : Shape z r) (f : ℕ → Bool) (x : (q : ℕ) → IsInUse r q → f q ≡ true) where
  pub ever_keeps : (q : ℕ) → IsInUse r' q → ever_after a l (found_at z (word z r.world) a s choice l) f q ≡ true
  ever_keeps q used = which (is_free (r.ledger.rows.fates q).status)
    where
      -- a free row is none that is linked now
      linked_not : {A : Type 0} → (r.ledger.rows.fates q).status ≡ fate.Free → ((r'.ledger.rows.fates q).status ≡ fate.Live) ⊎ ((r'.ledger.rows.fates q).status ≡ fate.Dead) → A
      linked_not {A = A} e w = was (linked_before a h i q w)
        where
          was : WasLinked r.ledger.rows q ⊎ ComesNow (word z r.world) r.ledger.rows r'.ledger.rows s (length r.history.log) l a q → A
          was (inl u) = linked_not_free r.ledger.rows q u e
          was (inr y) = free_not_infant _ e y.infant.status

      now : (r.ledger.rows.fates q).status ≡ fate.Free → (t : Status) → (r'.ledger.rows.fates q).status ≡ t → ever_after a l (found_at z (word z r.world) a s choice l) f q ≡ true
      now e fate.Free d = absurd (used d)
      now e fate.Infant d = infant_now z a s l (found_at z (word z r.world) a s choice l) (word z r.world) (length r.history.log) r.ledger f q e (ap (λ (y : Ledger). (y.rows.fates q).status) (sym h.ledger) ∙ d)
      now e fate.Live d = linked_not e (inl d)
      now e fate.Dead d = linked_not e (inr d)

      which : ((r.ledger.rows.fates q).status ≡ fate.Free) ⊎ ((r.ledger.rows.fates q).status ≢ fate.Free) → ever_after a l (found_at z (word z r.world) a s choice l) f q ≡ true
      which (inl e) = now e _ refl
      which (inr n) = ever_lasts a l (found_at z (word z r.world) a s choice l) f q (x q n)

-- Where a run begins row 0 alone is in use.
pub ever_start : (z : Sizes) (o : Opening) → WereInUse (start z o) no_counts
ever_start z o zero used = refl
ever_start z o (suc q) used = absurd (used refl)

-- The words.

free_known : (z : Sizes) (x : Option State) → IsRowState z x → state_seen x ≡ row.Free → x ≡ Some state.Free
free_known z (Some state.Free) k e = refl
free_known z (Some (state.Infant seat)) k e = let y : row.Infant seat ≡ row.Free = e in absurd (cc)
free_known z (Some state.Normal) k e = let y : row.Normal ≡ row.Free = e in absurd (cc)
free_known z (Some (state.Leader count)) k e = let y : row.Leader count ≡ row.Free = e in absurd (cc)
free_known z (Some (state.Follower leader)) k e = let y : row.Follower leader ≡ row.Free = e in absurd (cc)
free_known z (Some (state.Retired number)) k e = let y : row.Retired number ≡ row.Free = e in absurd (cc)
free_known z None k e = absurd k

-- a row whose state is none of a free one is in use
pub ever_kept : (z : Sizes) (r : Run) (c : Counts) → Shape z r → WereInUse r c → KeepsEver z r.world c
ever_kept z r c i x = record { rows = λ q w n. x q (λ e. n (free_known z (state_of (word z r.world (name.State q))) (i.sane.each (name.State q) w) (free_state q e))) }
  where
    free_state : (q : ℕ) → (r.ledger.rows.fates q).status ≡ fate.Free → (rows_in (word z r.world)).state q ≡ row.Free
    free_state q e = subst (HasState (rows_in (word z r.world)) r.ledger.rows q) e (i.rows.states q)
