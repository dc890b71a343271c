-- The row at which a seat has arrived was reached from Head along links at some position since it
-- began its visit, or drew: it is so now, or was so where the row went out of the list, which was
-- no sooner.
use Rattle.std.proofs.Common.{ℕ, zero, suc, ◌≡◌, ◌≢◌, ◌⊎◌, inl, inr, ◌<◌, ◌≤◌, true, false, Option, Some, None, List, [], ◌∷◌, ◌++◌, arith, refl, sym, ◌∙◌, ap, subst, length, slice_get, length-append}
use Rattle.std.specs.Prelude.{take}
use Rattle.std.proofs.lemmas.List.{take-append-le, take_all}
use Rattle.std.proofs.lemmas.Option.{same_Some}
use Rattle.kw_words.specs.declared.layout.Name.TheVariants as name
use Rattle.kw_words.specs.declared.scan.ScanWord.TheVariants.{Drawn, Waiting}
use Rattle.kw_words.specs.Scan.{scan_word}
use Rattle.kw_model.specs.declared.call.Call.{Call}
use Rattle.kw_model.specs.declared.call.Call.TheVariants.{Del, Get, Put, Scan, Pin, ScanAt, Unpin}
use Rattle.kw_world.specs.declared.activity.Activity.{Activity}
use Rattle.kw_world.specs.declared.activity.insert.Insert.TheVariants as Insert
use Rattle.kw_world.specs.declared.activity.put.Put.TheVariants as Put
use Rattle.kw_world.specs.declared.event.Choice.{Choice}
use Rattle.kw_world.specs.declared.event.Event.{Event}
use Rattle.kw_world.specs.declared.local.Local.{Local}
use Rattle.kw_world.specs.declared.opening.Opening.{Opening}
use Rattle.kw_world.specs.Calls.{is_scan}
use Rattle.kw_world.specs.Opening.{IsOpening}
use Rattle.kw_world.specs.Sizes.{Sizes}
use Rattle.kw_world.specs.Step.{step, word}
use Rattle.kw_world.specs.Table.{transition}
use Rattle.kw_world.specs.WalkTransitions.{offered}
use Rattle.kw_world.specs.WorldView.{WorldView}
use Rattle.kw_core.specs.Events.{event, is_valid, may_step, world}
use Rattle.kw_core.specs.History.{History}
use Rattle.kw_core.specs.Run.{Run, goes_on, history, logged, noted_by, start}
use Rattle.kw_core.specs.Stages.{HasDrawn, IsAtRow}
use Rattle.kw_core.proofs.Events.{may_come, world-nil, world-snoc}
use Rattle.kw_core.proofs.Happens.{Happens, each_seat, happens, knows_next, knows_other}
use Rattle.kw_core.proofs.Runs.{goes_on-moved, goes_on-world}
use Rattle.kw_rows.specs.Ledger.{Dead, Fate, Free, IsDead, Live}
use Rattle.kw_shape.proofs.LinkedRows.{live_reached, GoesNow, dead_before}
use Rattle.kw_shape.specs.ReachedRows.{IsReached}
use Rattle.kw_shape.specs.Shape.{IsKind, IsPutCall, Walks}
use Rattle.kw_reads.specs.Contents.{IsLater, IsSince}
use Rattle.kw_reads.specs.Inv.{Inv}
use Rattle.kw_reads.proofs.Keeps.{inv_goes_on}
use Rattle.kw_reads.proofs.Opens.{inv_start}
use Rattle.kw_laws.specs.Live.{AreLive, WasReached}
use Rattle.kw_laws.specs.Mirror.{Occurs}
use Rattle.kw_laws.specs.MirrorReads.{HasSettled, WasHelped}
use Rattle.kw_laws.proofs.Along.{holds_along}
use Rattle.kw_reads.proofs.Later.{at_row_has, later_by}
use Rattle.kw_reads.proofs.Floors.{IsOnWay, row_from}
use Rattle.kw_reads.proofs.LaterKeeps.{later_if, later_lasts, named_linked}
use Rattle.kw_laws.proofs.MirrorKeeps.{scans_settled}
use Rattle.kw_laws.proofs.Occurs.{occurs_now, occurs_was, occurs_within}

-- a row that went at this position of the list was reached where it went
record DiedReached (z : Sizes) (o : Opening) (es : List Event) (q gone : ℕ) : Type 0 where
  within : gone ≤ length es
  saw : IsReached (word z (world z o (take gone es))) q

-- at position u the seat makes an event, and is not on its way
record IsOff (z : Sizes) (o : Opening) (es : List Event) (u t : ℕ) : Type 0 where
  before : WorldView
  choice : Choice
  local : Local
  occurs : Occurs z o es u before (event t choice)
  knows : slice_get before.locals t ≡ Some local
  off : IsOnWay local.activity → ⊥

-- what is kept along a list: dead rows were reached where they went, and none of the rows that a
-- walk names went before the walk began
record Follows (z : Sizes) (o : Opening) (es : List Event) (r : Run) : Type 0 where
  inv : Inv z r
  world : world z o es ≡ r.world
  now : length r.history.log ≡ length es
  died : (q : ℕ) → IsDead r.ledger.rows q → DiedReached z o es q (r.ledger.rows.fates q).gone
  later : (t u : ℕ) (l : Local) → slice_get r.world.locals t ≡ Some l → IsOff z o es u t → IsLater r.ledger.rows u l.activity l

-- One more event.

module _ (z : Sizes) (o : Opening) (es : List Event) (e : Event) where
  -- what was reached at a position of the shorter list
  reach_lasts : (q gone : ℕ) → DiedReached z o es q gone → DiedReached z o (es ++ e ∷ []) q gone
  reach_lasts q gone d = record {
    within = omega (arith, d.within, length-append es (e ∷ []));
    saw = subst (λ xs. IsReached (word z (world z o xs)) q) (sym (take-append-le gone es (e ∷ []) d.within)) d.saw;
  }

module _ (z : Sizes) (o : Opening) (es : List Event) (e : Event) (r r' : Run) (l l' : Local) (a : Activity) (h : Happens z r r' e.seat (offered r.world.rows e.choice) l l' a) (k : Follows z o es r) where
  -- a row that goes now is reached now
  reached_now : (q gone : ℕ) → gone ≡ length r.history.log → IsReached (word z r.world) q → DiedReached z o (es ++ e ∷ []) q gone
  reached_now q gone n m =
      let f : gone ≡ length es = n ∙ k.now in
      record {
        within = omega (arith, f, length-append es (e ∷ []));
        saw = subst (λ w. IsReached (word z w) q) (sym (ap (λ x. world z o (take x (es ++ e ∷ []))) f ∙ (occurs_now z o es e).before ∙ k.world)) m;
      }

  -- a dead row was so before, or goes now
  died_keeps : (q : ℕ) → IsDead r'.ledger.rows q → DiedReached z o (es ++ e ∷ []) q (r'.ledger.rows.fates q).gone
  died_keeps q d = which (dead_before a h k.inv.shape q d)
    where
      which : IsDead r.ledger.rows q × (r'.ledger.rows.fates q ≡ r.ledger.rows.fates q) ⊎ GoesNow r.ledger.rows r'.ledger.rows e.seat (length r.history.log) q → DiedReached z o (es ++ e ∷ []) q (r'.ledger.rows.fates q).gone
      which (inl f) = subst (λ (x : Fate). DiedReached z o (es ++ e ∷ []) q x.gone) (sym f.1) (reach_lasts z o es e q (r.ledger.rows.fates q).gone (k.died q f.0))
      which (inr n) = reached_now q (r'.ledger.rows.fates q).gone (ap (λ (x : Fate). x.gone) n.fate) (live_reached (word z r.world) r.ledger.rows k.inv.shape.rows.chain q n.live)

  -- the rows that the walk of a seat names after it
  later_on : Inv z r' → (t u : ℕ) (m : Local) → slice_get r'.world.locals t ≡ Some m → IsOff z o (es ++ e ∷ []) u t → IsLater r'.ledger.rows u m.activity m
  later_on i' t u m g w = each_seat h (λ v n. IsOff z o (es ++ e ∷ []) u v → IsLater r'.ledger.rows u n.activity n) own others t m g w
    where
      -- a seat was not on its way before the event, or it is the one that acts, and is not so now
      was : (v : ℕ) → IsOff z o (es ++ e ∷ []) u v → IsOff z o es u v ⊎ ((e.seat ≡ v) × (v ≡ e.seat → IsOnWay a → ⊥))
      was v x = which (occurs_was z o es e u x.before (event v x.choice) x.occurs)
        where
          which : Occurs z o es u x.before (event v x.choice) ⊎ ((u ≡ length es) × (e ≡ event v x.choice) × (world z o es ≡ x.before)) → IsOff z o es u v ⊎ ((e.seat ≡ v) × (v ≡ e.seat → IsOnWay a → ⊥))
          which (inl y) = inl (record { before = x.before; choice = x.choice; local = x.local; occurs = y; knows = x.knows; off = x.off })
          which (inr y) = inr (
            ap (λ (d : Event). d.seat) y.1,
            λ f b.
                let n : slice_get r.world.locals e.seat ≡ Some x.local = subst (λ (d : WorldView). slice_get d.locals e.seat ≡ Some x.local) (sym y.2 ∙ k.world) (subst (λ d. slice_get x.before.locals d ≡ Some x.local) f x.knows) in
                x.off (subst IsOnWay (sym (ap (λ (d : Local). d.activity) (same_Some x.local l (sym n ∙ h.knows)) ∙ h.activity)) b),
          )

      old : (v : ℕ) → IsOff z o es u v → u < length r.history.log
      old v x = omega (arith, k.now, occurs_within z o es u x.before (event v x.choice) x.occurs)

      walks : Walks (word z r.world) r.ledger.rows e.seat a l
      walks = subst (λ b. Walks (word z r.world) r.ledger.rows e.seat b l) h.activity (k.inv.shape.walks e.seat l h.knows)

      own : IsOff z o (es ++ e ∷ []) u e.seat → IsLater r'.ledger.rows u l'.activity l'
      own x = which (was e.seat x)
        where
          which : IsOff z o es u e.seat ⊎ ((e.seat ≡ e.seat) × (e.seat ≡ e.seat → IsOnWay a → ⊥)) → IsLater r'.ledger.rows u l'.activity l'
          which (inl y) = later_lasts a h k.inv u l'.activity l' (old e.seat y) (named_linked (word z r'.world) r'.ledger.rows e.seat l'.activity l' (i'.shape.walks e.seat l' (knows_next h))) (later_by z (word z r.world) r.ledger.rows e.seat (offered r.world.rows e.choice) l a l' u h.arrow k.inv.shape.rows walks (subst (λ c. IsLater r.ledger.rows u c l) h.activity (k.later e.seat u l h.knows y)))
          which (inr y) = later_if z r' u l'.activity l' (λ b. absurd (y.1 refl (row_from z (word z r.world) e.seat (offered r.world.rows e.choice) l a l' h.arrow b).0))

      others : (v : ℕ) (n : Local) → v ≢ e.seat → slice_get r.world.locals v ≡ Some n → IsOff z o (es ++ e ∷ []) u v → IsLater r'.ledger.rows u n.activity n
      others v n d f x = which (was v x)
        where
          which : IsOff z o es u v ⊎ ((e.seat ≡ v) × (v ≡ e.seat → IsOnWay a → ⊥)) → IsLater r'.ledger.rows u n.activity n
          which (inl y) = later_lasts a h k.inv u n.activity n (old v y) (named_linked (word z r'.world) r'.ledger.rows v n.activity n (i'.shape.walks v n (knows_other h v d ∙ f))) (k.later v u n f y)
          which (inr y) = absurd (d (sym y.0))

  -- all of it after the event
  follows : Inv z r' → world z o (es ++ e ∷ []) ≡ r'.world → Follows z o (es ++ e ∷ []) r'
  follows i w = record {
    inv = i;
    world = w;
    now = let x = ap (λ (y : History). length y.log) h.history in omega (arith, x, length-append r.history.log (logged e.seat (transition z a e.seat (offered r.world.rows e.choice) l).operation.kind (word z r.world name.Clock) ∷ []), length-append es (e ∷ []), k.now);
    died = died_keeps;
    later = later_on i;
  }

-- one event that may come
follows_on : (z : Sizes) (o : Opening) (es : List Event) (e : Event) (r : Run) → may_step o r.world e ≡ true → Follows z o es r → Follows z o (es ++ e ∷ []) (goes_on z r e)
follows_on z o es e r may k =
    let c = may_come o r.world e may in
    let noted : goes_on z r e ≡ noted_by z r e c.local = goes_on-moved z r e c.local c.knows c.moves in
    let w : world z o (es ++ e ∷ []) ≡ (goes_on z r e).world = world-snoc z o es e ∙ ap (λ (x : WorldView). (step z x e).world) k.world ∙ sym (goes_on-world z r e) in
    let h = happens z r e c.local k.inv.shape.sane c.begins c.knows c.moves in
    subst (Follows z o (es ++ e ∷ [])) (sym noted) (follows z o es e r (noted_by z r e c.local) c.local _ c.local.activity h k (subst (Inv z) noted (inv_goes_on z o r e may k.inv)) (w ∙ ap (λ (x : Run). x.world) noted))

-- no event
follows_start : (z : Sizes) (o : Opening) → IsOpening z o → Follows z o [] (start z o)
follows_start z o opening = record {
  inv = inv_start z o opening;
  world = world-nil z o;
  now = refl;
  died = none_dead;
  later = λ t u l g x. absurd (nothing _ x.occurs.stands);
}
  where
    nothing : (e : Event) → None ≡ Some e → ⊥
    nothing e g = cc

    none_dead : (q : ℕ) → IsDead (start z o).ledger.rows q → DiedReached z o [] q ((start z o).ledger.rows.fates q).gone
    none_dead zero d = let x : Live ≡ Dead = d in absurd (cc)
    none_dead (suc q) d = let x : Free ≡ Dead = d in absurd (cc)

-- a put or a delete is no scan
no_scan : {A : Type 0} (call : Option Call) → IsPutCall call → is_scan call ≡ true → A
no_scan (Some (Put key value)) p e = let x : false ≡ true = e in absurd (cc)
no_scan (Some (Del key)) p e = let x : false ≡ true = e in absurd (cc)
no_scan (Some (Get key)) p e = absurd p
no_scan (Some (Scan from upto)) p e = absurd p
no_scan (Some Pin) p e = absurd p
no_scan (Some (ScanAt from upto)) p e = absurd p
no_scan (Some Unpin) p e = absurd p
no_scan None p e = absurd p

-- a scan that is at its row has its version
row_drawn : (a : Activity) (l : Local) → IsKind a l → IsAtRow a → is_scan l.call ≡ true → HasDrawn a
row_drawn (Activity.Look _) l k x e = tt
row_drawn (Activity.Read _) l k x e = tt
row_drawn (Activity.Put Put.Count) l k x e = no_scan l.call k e
row_drawn (Activity.Put _) l k x e = no_scan l.call k e
row_drawn (Activity.Insert Insert.Link) l k x e = no_scan l.call k e
row_drawn (Activity.Insert _) l k x e = no_scan l.call k e
row_drawn _ l k x e = absurd x

-- the row of each seat that has arrived
pub lives : (z : Sizes) (o : Opening) → IsOpening z o → (es : List Event) → is_valid z o es ≡ true → AreLive z o es
lives z o i es v t l g a = record {
  visited = λ c u p. saw u (known u (record { before = p.acts.before; choice = p.acts.choice; local = p.acts.local; occurs = p.acts.occurs; knows = p.acts.knows; off = λ y. subst IsOnWay p.acts.activity y })) (occurs_within z o es u p.acts.before (event t p.acts.choice) p.acts.occurs);
  settled = λ c. (((history z o es).seats t).drawn, (scans_settled z o i es v).settled t l knows c (row_drawn l.activity l (k.inv.shape.kinds t l knows).kind a c));
  drew = λ c x u d.
      let s = d.settles in
      let w = saw d.settle (known d.settle (record { before = s.before; choice = s.choice; local = s.local; occurs = s.occurs; knows = s.knows; off = λ y. subst IsOnWay s.activity y })) (occurs_within z o es d.settle s.before (event t s.choice) s.occurs) in
      record { at = w.at; not_before = omega (arith, w.not_before, drawn_before t x u d); within = w.within; saw = w.saw };
  drew_itself = λ c u d. saw u (known u (record { before = d.acts.before; choice = d.acts.choice; local = d.acts.local; occurs = d.acts.occurs; knows = d.acts.knows; off = λ y. subst IsOnWay d.acts.activity y })) (occurs_within z o es u d.acts.before (event t d.acts.choice) d.acts.occurs);
}
  where
    k : Follows z o es (history z o es)
    k = holds_along z o (Follows z o) (follows_on z o) (follows_start z o i) es v

    knows : slice_get (history z o es).world.locals t ≡ Some l
    knows = subst (λ (w : WorldView). slice_get w.locals t ≡ Some l) k.world g

    known : (u : ℕ) → IsOff z o es u t → IsSince (history z o es).ledger.rows u l.row
    known u x = (k.later t u l knows x).row (at_row_has l.activity a)

    -- what a scan settled for was drawn before it settled
    drawn_before : (s at version : ℕ) (d : HasSettled z o es s at version) → at < d.settle
    drawn_before s at version d = which d.entry
      where
        which : (d.draw ≡ at) × (d.drew ≡ version) × (d.found ≡ scan_word (Waiting d.clock)) ⊎ (d.found ≡ scan_word (Drawn version)) × WasHelped z o es s d.clock at version d.settle → at < d.settle
        which (inl y) = omega (arith, y.0, d.after)
        which (inr y) = omega (arith, y.1.after, y.1.before)

    saw : (u : ℕ) → IsSince (history z o es).ledger.rows u l.row → u < length es → WasReached z o es l.row u
    saw u (inl y) w =
        let n : length es ≤ length es = omega arith in
        record {
          at = length es;
          not_before = omega (arith, w);
          within = n;
          saw = subst (λ x. IsReached (word z x) l.row) (sym (ap (world z o) (take_all (length es) es n) ∙ k.world)) (live_reached (word z (history z o es).world) (history z o es).ledger.rows k.inv.shape.rows.chain l.row y);
        }
    saw u (inr y) w = let d = k.died l.row y.0 in record { at = ((history z o es).ledger.rows.fates l.row).gone; not_before = omega (arith, y.1); within = d.within; saw = d.saw }
