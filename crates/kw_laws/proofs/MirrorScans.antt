-- Where each scan drew and settled, in the words of the events, kept along a list: of a scan that
-- is to settle its own draw, of one that waits whether it was helped, of one that has its version
-- all of it; and of a seat that is to settle another one's scan its draw.
use Rattle.std.proofs.Common.{ℕ, ◌≡◌, ◌≢◌, ◌⊎◌, inl, inr, ◌<◌, true, Option, Some, None, List, [], ◌∷◌, ◌++◌, arith, refl, sym, ◌∙◌, ap, subst, length, length-append, slice_get, eq-eqb}
use Rattle.std.proofs.lemmas.Bool.{cases_eq}
use Rattle.std.proofs.lemmas.Option.{slice_get_within}
use Rattle.kw_words.specs.declared.kind.Kind.TheVariants as kind
use Rattle.kw_words.specs.declared.layout.Name.TheVariants as name
use Rattle.kw_words.specs.declared.scan.ScanWord.TheVariants.{Waiting, Drawn}
use Rattle.kw_words.specs.Scan.{scan_of, scan_word}
use Rattle.kw_words.proofs.ScanWords.{scan_of-Waiting, scan_of-scan_word}
use Rattle.kw_world.specs.declared.activity.Activity.{Activity}
use Rattle.kw_world.specs.declared.activity.draw.Draw.TheVariants as Draw
use Rattle.kw_world.specs.declared.activity.rebalance.freeze.Freeze.TheVariants as Freeze
use Rattle.kw_world.specs.declared.activity.rebalance.Rebalance.TheVariants as Rebalance
use Rattle.kw_world.specs.declared.event.Choice.{Choice}
use Rattle.kw_world.specs.declared.event.Event.{Event}
use Rattle.kw_world.specs.declared.local.Local.{Local}
use Rattle.kw_world.specs.declared.opening.Opening.{Opening}
use Rattle.kw_world.specs.declared.operation.Action.TheVariants.{Add}
use Rattle.kw_world.specs.Calls.{is_scan}
use Rattle.kw_world.specs.Sane.{IsVersion}
use Rattle.kw_world.specs.ScanTransitions.{version_settled}
use Rattle.kw_world.specs.Sizes.{Sizes}
use Rattle.kw_world.specs.Step.{word}
use Rattle.kw_world.specs.WalkTransitions.{offered}
use Rattle.kw_core.specs.declared.seat_log.SeatLog.{SeatLog}
use Rattle.kw_core.specs.declared.change.Settled.{Settled}
use Rattle.kw_core.specs.Run.{Run, start, with_settled}
use Rattle.kw_core.specs.Stages.{IsUnderway, IsSettling, IsWaiting, HasDrawn}
use Rattle.kw_core.specs.Step.{Step}
use Rattle.kw_core.specs.Words.{Words}
use Rattle.kw_core.proofs.Arrows.{builds, Arrow, NextLook, looks, lists, NextLeftOver, goes_to_left_over, answers, ends_scan, scans_on, sees_stamped, sees_neither, is_gone_by, helps, finds_stamped, finds_other, list_ends, key_above, left_over_gone_by, gathers_left_over, settles_empty, settles, draws_for, first_ends, asks_of_pin, looks_at_pin, settles_pin}
use Rattle.kw_core.proofs.Arrows.{freezes_last, keeps_no_more, remembers_last, sees_frozen_last, takes_no_more, marks_led, decides}
use Rattle.kw_core.proofs.Building.{IsBuilding}
use Rattle.kw_core.proofs.BuiltNext.{IsAfterBuilding, built_next}
use Rattle.kw_core.proofs.Frame.{unwritten}
use Rattle.kw_core.proofs.FreezeFrame.{scan_stays}
use Rattle.kw_core.proofs.Happens.{Happens, each_seat, log_entry, chosen, not_chosen, exchanged, not_exchanged}
use Rattle.kw_core.proofs.SeatLogs.{settle_kept, settle_lost}
use Rattle.kw_shape.proofs.ShapeOpens.{all_resting}
use Rattle.kw_shape.proofs.AfterBuilding.{kind_at}
use Rattle.kw_puts.proofs.OwnScans.{drawn_from, not_idle_drawn, draws_no_more, drawn_underway, settling_waits, was_scan, waits_from, drawn_kept, has_drawn}
use Rattle.kw_puts.proofs.RelyProof.{draw_stays}
use Rattle.kw_puts.proofs.BuiltStages.{of_pin_is, pin_look_is}
use Rattle.kw_reads.specs.Inv.{Inv, lower}
use Rattle.kw_reads.proofs.HistoryKeeps.{history_step}
use Rattle.kw_laws.specs.Mirror.{Acts, operation}
use Rattle.kw_laws.specs.MirrorReads.{WasHelped, HasSettled, settling, helping}
use Rattle.kw_laws.proofs.Mirroring.{Kept, acts_here}
use Rattle.kw_laws.proofs.Occurs.{occurs_within, acts_lasts}
use Rattle.kw_core.proofs.Grouping.{counted_leads, frozen_leads, gathered_leads}

-- another seat has settled the scan of seat t, which waited with this clock: its word has the
-- version that was drawn at this position
pub record IsHelpedScan (z : Sizes) (o : Opening) (es : List Event) (v : Words) (t clock at : ℕ) : Type 0 where
  pub version : ℕ
  pub range : IsVersion version
  pub word : v (name.Scan t) ≡ scan_word (Drawn version)
  pub helped : WasHelped z o es t clock at version (length es)

-- the word of a scan that waits says so, or the scan was helped
abbrev pub WaitsOrHelped : Sizes → Opening → List Event → Words → ℕ → ℕ → ℕ → Type 0
WaitsOrHelped z o es v t clock at = (v (name.Scan t) ≡ scan_word (Waiting clock)) ⊎ IsHelpedScan z o es v t clock at

-- the draws and the settles of the scans
pub record KeptScans (z : Sizes) (o : Opening) (es : List Event) (r : Run) : Type 0 where
  pub drawing : (t : ℕ) (l : Local) → slice_get r.world.locals t ≡ Some l → IsSettling l.activity → Acts z o es (r.seats t).drawn t (Activity.Draw Draw.Version) (operation kind.Draw name.Clock (Add 1)) l.drawn
  pub helping : (t : ℕ) (l : Local) → slice_get r.world.locals t ≡ Some l → (j : ℕ) → l.activity ≡ Activity.Rebalance (Rebalance.Freeze (Freeze.Settle j)) → Acts z o es (r.seats t).drawn t (Activity.Rebalance (Rebalance.Freeze (Freeze.Draw j))) (operation kind.HelpDraw name.Clock (Add 1)) l.rebalance.drawn
  pub waits : (t : ℕ) (l : Local) → slice_get r.world.locals t ≡ Some l → IsWaiting l.activity → WaitsOrHelped z o es (word z r.world) t l.waiting (r.settled t)
  pub settled : (t : ℕ) (l : Local) → slice_get r.world.locals t ≡ Some l → is_scan l.call ≡ true → HasDrawn l.activity → HasSettled z o es t (r.seats t).drawn l.version

-- What lasts.

helped_lasts : (z : Sizes) (o : Opening) (es : List Event) (e : Event) (s clock at version till last : ℕ) → till ≡ last → WasHelped z o es s clock at version till → WasHelped z o (es ++ e ∷ []) s clock at version last
helped_lasts z o es e s clock at version till last w t = record {
  helper = t.helper;
  draws = acts_lasts z o es e at t.helper _ _ _ t.draws;
  settle = t.settle;
  after = t.after;
  before = omega (arith, t.before, w);
  settles = acts_lasts z o es e t.settle t.helper _ _ _ t.settles;
}

-- how the entry was settled
entry_lasts : (z : Sizes) (o : Opening) (es : List Event) (e : Event) (s at version draw drew clock found settle : ℕ) →
    (draw ≡ at) × (drew ≡ version) × (found ≡ scan_word (Waiting clock)) ⊎ (found ≡ scan_word (Drawn version)) × WasHelped z o es s clock at version settle →
    (draw ≡ at) × (drew ≡ version) × (found ≡ scan_word (Waiting clock)) ⊎ (found ≡ scan_word (Drawn version)) × WasHelped z o (es ++ e ∷ []) s clock at version settle
entry_lasts z o es e s at version draw drew clock found settle (inl x) = inl x
entry_lasts z o es e s at version draw drew clock found settle (inr x) = inr (x.0, helped_lasts z o es e s clock at version settle settle refl x.1)

pub settled_lasts : (z : Sizes) (o : Opening) (es : List Event) (e : Event) (s at version : ℕ) → HasSettled z o es s at version → HasSettled z o (es ++ e ∷ []) s at version
settled_lasts z o es e s at version t = record {
  draw = t.draw;
  drew = t.drew;
  draws = acts_lasts z o es e t.draw s _ _ _ t.draws;
  settle = t.settle;
  after = t.after;
  clock = t.clock;
  found = t.found;
  settles = acts_lasts z o es e t.settle s _ _ _ t.settles;
  entry = entry_lasts z o es e s at version t.draw t.drew t.clock t.found t.settle t.entry;
}

-- a scan whose word an event leaves waits on, or stays helped
waits_lasts : (z : Sizes) (o : Opening) (es : List Event) (e : Event) (v v' : Words) (t clock at at' : ℕ) → v' (name.Scan t) ≡ v (name.Scan t) → at' ≡ at → WaitsOrHelped z o es v t clock at → WaitsOrHelped z o (es ++ e ∷ []) v' t clock at'
waits_lasts z o es e v v' t clock at at' f g (inl x) = inl (f ∙ x)
waits_lasts z o es e v v' t clock at at' f g (inr x) =
    let longer : WasHelped z o (es ++ e ∷ []) t clock at x.version (length es) = helped_lasts z o es e t clock at x.version (length es) (length es) refl x.helped in
    inr (record {
      version = x.version;
      range = x.range;
      word = f ∙ x.word;
      helped = rw g (record { helper = longer.helper; draws = longer.draws; settle = longer.settle; after = longer.after; before = omega (arith, longer.before, length-append es (e ∷ [])); settles = longer.settles });
    })

-- The lines.

-- a seat that is to settle another one's scan has just drawn for it
abbrev DrewFor : Words → Activity → Local → Activity → Type 0
DrewFor v a k (Activity.Rebalance (Rebalance.Freeze (Freeze.Settle j))) = (a ≡ Activity.Rebalance (Rebalance.Freeze (Freeze.Draw j))) × (k.rebalance.drawn ≡ v name.Clock)
DrewFor v a k _ = Unit {0}

look_helps_none : (v : Words) (a : Activity) (k : Local) (z : Sizes) (j : ℕ) (next : Activity) → NextLook z j next → DrewFor v a k next
look_helps_none v a k z j next (looks w) = tt
look_helps_none v a k z j next (lists w) = tt

left_over_helps_none : (v : Words) (a : Activity) (l k : Local) → NextLeftOver l k → DrewFor v a k k.activity
left_over_helps_none v a l k (goes_to_left_over m w) = tt
left_over_helps_none v a l k (answers w e) = tt
left_over_helps_none v a l k (ends_scan w e f) = tt
left_over_helps_none v a l k (scans_on q w e f g) = tt

-- what follows the building of rows settles no scan
after_helps_none : (v : Words) (a : Activity) (k : Local) (b : Activity) → IsAfterBuilding b → DrewFor v a k b
after_helps_none v a k (Activity.Rebalance (Rebalance.Freeze (Freeze.Settle j))) x = absurd x
after_helps_none v a k _ x = tt

helper_drew : (z : Sizes) (v : Words) (s : ℕ) (choice : Choice) (l : Local) (a : Activity) (k : Local) → Arrow z v s choice l a k → DrewFor v a k k.activity
helper_drew z v s choice l a k (builds b next y t) = after_helps_none v a k k.activity (built_next z v choice l b k t)
helper_drew z v s choice l a k (draws_for j) = (refl, refl)
helper_drew z v s choice l a k (sees_stamped i c version next e n) = look_helps_none v a k z _ next n
helper_drew z v s choice l a k (sees_neither i next e n) = look_helps_none v a k z _ next n
helper_drew z v s choice l a k (is_gone_by next e n) = look_helps_none v a k z _ next n
helper_drew z v s choice l a k (helps next e n) = look_helps_none v a k z _ next n
helper_drew z v s choice l a k (finds_stamped c version next e n) = look_helps_none v a k z _ next n
helper_drew z v s choice l a k (finds_other next e n) = look_helps_none v a k z _ next n
helper_drew z v s choice l a k (first_ends next e n) = left_over_helps_none v a _ _ n
helper_drew z v s choice l a k (list_ends next e n) = left_over_helps_none v a _ _ n
helper_drew z v s choice l a k (key_above next e n) = left_over_helps_none v a _ _ n
helper_drew z v s choice l a k (left_over_gone_by next e n) = left_over_helps_none v a _ _ n
helper_drew z v s choice l a k (gathers_left_over next n) = left_over_helps_none v a _ _ n
helper_drew z v s choice l a k (remembers_last i c version next e o n) = frozen_leads (DrewFor v a k) tt tt _ next n
helper_drew z v s choice l a k (sees_frozen_last i next e o n) = frozen_leads (DrewFor v a k) tt tt _ next n
helper_drew z v s choice l a k (freezes_last i next e o n) = frozen_leads (DrewFor v a k) tt tt _ next n
helper_drew z v s choice l a k (takes_no_more next e none n) = gathered_leads (DrewFor v a k) tt tt z _ next n
helper_drew z v s choice l a k (keeps_no_more next none n) = gathered_leads (DrewFor v a k) tt tt z _ next n
helper_drew z v s choice l a k (marks_led count next d n) = counted_leads (DrewFor v a k) tt tt _ _ next n
helper_drew z v s choice l a k (decides count m next e n) = counted_leads (DrewFor v a k) tt tt _ _ next n
helper_drew z v s choice l a k (asks_of_pin next o n) = of_pin_is (DrewFor v a next) tt tt tt tt tt tt n
helper_drew z v s choice l a k (looks_at_pin i next n) = pin_look_is (DrewFor v a next) (λ j. tt) tt n
helper_drew z v s choice l a k _ = tt

-- the activity of a scan that settles
settling_is : (a : Activity) → IsSettling a → a ≡ Activity.Draw Draw.Settle
settling_is (Activity.Draw Draw.Settle) x = refl
settling_is _ x = absurd x

-- it builds no rows
settling_builds : {A : Type 0} (a : Activity) → IsBuilding a → IsSettling a → A
settling_builds (Activity.Draw Draw.Settle) y x = absurd y
settling_builds _ y x = absurd x

-- it takes the version that its word has, or its own
settled_version : (z : Sizes) (v : Words) (s : ℕ) (choice : Choice) (l : Local) (a : Activity) (k : Local) → Arrow z v s choice l a k → IsSettling a → k.version ≡ version_settled (scan_of (v (name.Scan s))) l.drawn
settled_version z v s choice l a k (builds b next y t) x = settling_builds b y x
settled_version z v s choice l a k (settles_empty e) x = refl
settled_version z v s choice l a k (settles e) x = refl
settled_version z v s choice l a k (settles_pin e) x = refl
settled_version z v s choice l a k _ x = absurd x

-- One more event.

module _ (z : Sizes) (o : Opening) (es : List Event) (e : Event) (r r' : Run) (l l' : Local) (a : Activity) (h : Happens z r r' e.seat (offered r.world.rows e.choice) l l' a) (i : Inv z r) (k : Kept z o es r) (n : KeptScans z o es r) where
  step : Step r.history r'.history (log_entry z r a e.seat (offered r.world.rows e.choice) l)
  step = history_step z r r' e.seat (offered r.world.rows e.choice) l a l' h i

  -- The draws.

  drawing_own : IsSettling l'.activity → Acts z o (es ++ e ∷ []) (r'.seats e.seat).drawn e.seat (Activity.Draw Draw.Version) (operation kind.Draw name.Clock (Add 1)) l'.drawn
  drawing_own x =
      let d = has_drawn z r r' e.seat (offered r.world.rows e.choice) l a l' h.arrow h (lower i) step x in
      rw (d.2, d.1) (acts_here z o es e r r' l l' a h k (Activity.Draw Draw.Version) (operation kind.Draw name.Clock (Add 1)) (word z r.world name.Clock) d.0 refl refl)

  helping_own : (j : ℕ) → l'.activity ≡ Activity.Rebalance (Rebalance.Freeze (Freeze.Settle j)) → Acts z o (es ++ e ∷ []) (r'.seats e.seat).drawn e.seat (Activity.Rebalance (Rebalance.Freeze (Freeze.Draw j))) (operation kind.HelpDraw name.Clock (Add 1)) l'.rebalance.drawn
  helping_own j x =
      let d : (a ≡ Activity.Rebalance (Rebalance.Freeze (Freeze.Draw j))) × (l'.rebalance.drawn ≡ word z r.world name.Clock) = subst (DrewFor (word z r.world) a l') x (helper_drew z (word z r.world) e.seat (offered r.world.rows e.choice) l a l' h.arrow) in
      let now : (r'.seats e.seat).drawn ≡ length r.history.log = ap (λ (q : SeatLog). q.drawn) (subst (Happens z r r' e.seat (offered r.world.rows e.choice) l l') d.0 h).log in
      rw (now, d.1) (acts_here z o es e r r' l l' a h k (Activity.Rebalance (Rebalance.Freeze (Freeze.Draw j))) (operation kind.HelpDraw name.Clock (Add 1)) (word z r.world name.Clock) d.0 refl refl)

  -- The word of a scan that waits.

  -- that of the acting seat
  waits_own : IsWaiting l'.activity → WaitsOrHelped z o (es ++ e ∷ []) (word z r'.world) e.seat l'.waiting (r'.settled e.seat)
  waits_own x = which (waits_from z (word z r.world) e.seat (offered r.world.rows e.choice) l a l' h.arrow x)
    where
      which : ((a ≡ Activity.Draw Draw.Wait) × (l' ≡ record l { activity = Activity.Draw Draw.Version })) ⊎ ((a ≡ Activity.Draw Draw.Version) × (l' ≡ record l { drawn = word z r.world name.Clock; activity = Activity.Draw Draw.Settle })) → WaitsOrHelped z o (es ++ e ∷ []) (word z r'.world) e.seat l'.waiting (r'.settled e.seat)
      which (inl y) = inl ((subst (Happens z r r' e.seat (offered r.world.rows e.choice) l l') y.0 h).changed.same ∙ ap (λ (m : Local). scan_word (Waiting m.waiting)) (sym y.1))
      which (inr y) =
          let g = subst (Happens z r r' e.seat (offered r.world.rows e.choice) l l') y.0 h in
          let same : word z r'.world (name.Scan e.seat) ≡ word z r.world (name.Scan e.seat) = unwritten (Activity.Draw Draw.Version) g (name.Scan e.seat) h.seat (λ f. cc) in
          let kept : r'.settled e.seat ≡ r.settled e.seat = ap (λ (q : ℕ → ℕ). q e.seat) g.settled in
          subst (λ c. WaitsOrHelped z o (es ++ e ∷ []) (word z r'.world) e.seat c (r'.settled e.seat)) (sym (ap (λ (m : Local). m.waiting) y.1))
          (waits_lasts z o es e (word z r.world) (word z r'.world) e.seat l.waiting (r.settled e.seat) (r'.settled e.seat) same kept (n.waits e.seat l h.knows (subst IsWaiting (sym (h.activity ∙ y.0)) tt)))

  -- that of a scan which the event may settle: it is helped where it waits with the clock that the
  -- helper saw
  waits_helped : (t clock : ℕ) → a ≡ Activity.Rebalance (Rebalance.Freeze (Freeze.Settle t)) → Happens z r r' e.seat (offered r.world.rows e.choice) l l' (Activity.Rebalance (Rebalance.Freeze (Freeze.Settle t))) → WaitsOrHelped z o es (word z r.world) t clock (r.settled t) → WaitsOrHelped z o (es ++ e ∷ []) (word z r'.world) t clock (r'.settled t)
  waits_helped t clock is g w = which (cases_eq (word z r.world (name.Scan t)) (scan_word (Waiting l.rebalance.waiting)))
    where
      drew : Acts z o es (r.seats e.seat).drawn e.seat (Activity.Rebalance (Rebalance.Freeze (Freeze.Draw t))) (operation kind.HelpDraw name.Clock (Add 1)) l.rebalance.drawn
      drew = n.helping e.seat l h.knows t (h.activity ∙ is)

      helped : word z r.world (name.Scan t) ≡ scan_word (Waiting l.rebalance.waiting) → WasHelped z o (es ++ e ∷ []) t l.rebalance.waiting (r.seats e.seat).drawn l.rebalance.drawn (length (es ++ e ∷ []))
      helped f = record {
        helper = e.seat;
        draws = acts_lasts z o es e (r.seats e.seat).drawn e.seat _ _ _ drew;
        settle = length r.history.log;
        after = omega (arith, occurs_within z o es (r.seats e.seat).drawn drew.before _ drew.occurs, k.mirrors.events);
        before = omega (arith, k.mirrors.events, length-append es (e ∷ []));
        settles = acts_here z o es e r r' l l' a h k (Activity.Rebalance (Rebalance.Freeze (Freeze.Settle t))) (helping t l.rebalance.waiting l.rebalance.drawn) (scan_word (Waiting l.rebalance.waiting)) is refl f;
      }

      clock_is : word z r.world (name.Scan t) ≡ scan_word (Waiting l.rebalance.waiting) → WaitsOrHelped z o es (word z r.world) t clock (r.settled t) → l.rebalance.waiting ≡ clock
      clock_is f (inl x) = let y : scan_word (Waiting l.rebalance.waiting) ≡ scan_word (Waiting clock) = sym f ∙ x in omega (arith, y)
      clock_is f (inr x) = let y : scan_word (Waiting l.rebalance.waiting) ≡ scan_word (Drawn x.version) = sym f ∙ x.word in absurd (omega (arith, y))

      which : (word z r.world (name.Scan t) ≡ scan_word (Waiting l.rebalance.waiting)) ⊎ (word z r.world (name.Scan t) ≡ scan_word (Waiting l.rebalance.waiting) → ⊥) → WaitsOrHelped z o (es ++ e ∷ []) (word z r'.world) t clock (r'.settled t)
      which (inl f) =
          let at : r'.settled t ≡ (r.seats e.seat).drawn = ap (λ (q : ℕ → ℕ). q t) g.settled ∙ ap (λ (q : Option Settled). with_settled q r.settled t) (chosen (word z r.world (name.Scan t)) (scan_word (Waiting l.rebalance.waiting)) (Some (record { seat = t; at = (r.seats e.seat).drawn })) None f) ∙ rw (eq-eqb t t refl) refl in
          inr (record {
            version = l.rebalance.drawn;
            range = (i.shape.sane.locals e.seat l h.knows).ranges.rebalance.drawn;
            word = exchanged _ _ _ _ g.changed.same f;
            helped = rw at (subst (λ c. WasHelped z o (es ++ e ∷ []) t c (r.seats e.seat).drawn l.rebalance.drawn (length (es ++ e ∷ []))) (clock_is f w) (helped f));
          })
      which (inr d) =
          let at : r'.settled t ≡ r.settled t = ap (λ (q : ℕ → ℕ). q t) g.settled ∙ ap (λ (q : Option Settled). with_settled q r.settled t) (not_chosen (word z r.world (name.Scan t)) (scan_word (Waiting l.rebalance.waiting)) (Some (record { seat = t; at = (r.seats e.seat).drawn })) None d) in
          waits_lasts z o es e (word z r.world) (word z r'.world) t clock (r.settled t) (r'.settled t) (not_exchanged _ _ _ _ g.changed.same d) at w

  -- that of another seat
  waits_other : (b : Activity) → a ≡ b → Happens z r r' e.seat (offered r.world.rows e.choice) l l' b → (t clock : ℕ) → t < z.seats → t ≢ e.seat → WaitsOrHelped z o es (word z r.world) t clock (r.settled t) → WaitsOrHelped z o (es ++ e ∷ []) (word z r'.world) t clock (r'.settled t)
  waits_other (Activity.Rebalance (Rebalance.Freeze (Freeze.Settle j))) is g t clock u d w = which (cases_eq t j)
    where
      which : (t ≡ j) ⊎ (t ≡ j → ⊥) → WaitsOrHelped z o (es ++ e ∷ []) (word z r'.world) t clock (r'.settled t)
      which (inl f) = waits_helped t clock (is ∙ ap (λ q. Activity.Rebalance (Rebalance.Freeze (Freeze.Settle q))) (sym f)) (subst (λ q. Happens z r r' e.seat (offered r.world.rows e.choice) l l' (Activity.Rebalance (Rebalance.Freeze (Freeze.Settle q)))) (sym f) g) w
      which (inr f) = waits_lasts z o es e (word z r.world) (word z r'.world) t clock (r.settled t) (r'.settled t) (scan_stays (Activity.Rebalance (Rebalance.Freeze (Freeze.Settle j))) g t u d f) (draw_stays z r r' e.seat (offered r.world.rows e.choice) l (Activity.Rebalance (Rebalance.Freeze (Freeze.Settle j))) l' g t d f) w
  waits_other b is g t clock u d w = waits_lasts z o es e (word z r.world) (word z r'.world) t clock (r.settled t) (r'.settled t) (scan_stays b g t u d (λ x. x)) (draw_stays z r r' e.seat (offered r.world.rows e.choice) l b l' g t d (λ x. x)) w

  -- The settle.

  settled_own : is_scan l'.call ≡ true → HasDrawn l'.activity → HasSettled z o (es ++ e ∷ []) e.seat (r'.seats e.seat).drawn l'.version
  settled_own f x = which (drawn_from z (word z r.world) e.seat (offered r.world.rows e.choice) l a l' h.arrow (kind_at a h i.shape) f x)
    where
      u : IsUnderway a
      u = drawn_underway z (word z r.world) e.seat (offered r.world.rows e.choice) l a l' h.arrow x

      was : is_scan l.call ≡ true
      was = was_scan z r r' e.seat (offered r.world.rows e.choice) l a l' h.arrow h (lower i) step u f

      -- with its own exchange, or for what another seat drew
      settles_so : IsSettling a → WaitsOrHelped z o es (word z r.world) e.seat l.waiting (r.settled e.seat) → HasSettled z o (es ++ e ∷ []) e.seat (r'.seats e.seat).drawn l'.version
      settles_so y (inl w) =
          let range = (i.shape.sane.locals e.seat l h.knows).ranges.waiting in
          let g = subst (Happens z r r' e.seat (offered r.world.rows e.choice) l l') (settling_is a y) h in
          let drew = n.drawing e.seat l h.knows (subst IsSettling (sym h.activity) y) in
          let at : (r'.seats e.seat).drawn ≡ (r.seats e.seat).drawn = ap (λ (q : SeatLog). q.drawn) (g.log ∙ settle_kept z (offered r.world.rows e.choice) l _ l'.activity (r.seats e.seat) r.origin r.history (r.settled e.seat) w) in
          let version : l'.version ≡ l.drawn =
          settled_version z (word z r.world) e.seat (offered r.world.rows e.choice) l a l' h.arrow y ∙ ap (λ q. version_settled (scan_of q) l.drawn) w ∙ ap (λ q. version_settled q l.drawn) (scan_of-Waiting l.waiting range.0 range.1) in
          rw (at, version) (record {
            draw = (r.seats e.seat).drawn;
            drew = l.drawn;
            draws = acts_lasts z o es e (r.seats e.seat).drawn e.seat _ _ _ drew;
            settle = length r.history.log;
            after = omega (arith, occurs_within z o es (r.seats e.seat).drawn drew.before _ drew.occurs, k.mirrors.events);
            clock = l.waiting;
            found = scan_word (Waiting l.waiting);
            settles = acts_here z o es e r r' l l' a h k (Activity.Draw Draw.Settle) (settling e.seat l.waiting l.drawn) (scan_word (Waiting l.waiting)) (settling_is a y) refl w;
            entry = inl (refl, refl, refl);
          })
      settles_so y (inr w) =
          let g = subst (Happens z r r' e.seat (offered r.world.rows e.choice) l l') (settling_is a y) h in
          let drew = n.drawing e.seat l h.knows (subst IsSettling (sym h.activity) y) in
          let other : word z r.world (name.Scan e.seat) ≢ scan_word (Waiting l.waiting) = λ p. let q : scan_word (Waiting l.waiting) ≡ scan_word (Drawn w.version) = sym p ∙ w.word in omega (arith, q) in
          let at : (r'.seats e.seat).drawn ≡ r.settled e.seat = ap (λ (q : SeatLog). q.drawn) (g.log ∙ settle_lost z (offered r.world.rows e.choice) l _ l'.activity (r.seats e.seat) r.origin r.history (r.settled e.seat) other) in
          let version : l'.version ≡ w.version =
          settled_version z (word z r.world) e.seat (offered r.world.rows e.choice) l a l' h.arrow y ∙ ap (λ q. version_settled (scan_of q) l.drawn) w.word ∙ ap (λ q. version_settled q l.drawn) (scan_of-scan_word (Drawn w.version) w.range) in
          rw (at, version) (record {
            draw = (r.seats e.seat).drawn;
            drew = l.drawn;
            draws = acts_lasts z o es e (r.seats e.seat).drawn e.seat _ _ _ drew;
            settle = length r.history.log;
            after = omega (arith, occurs_within z o es (r.seats e.seat).drawn drew.before _ drew.occurs, k.mirrors.events);
            clock = l.waiting;
            found = scan_word (Drawn w.version);
            settles = acts_here z o es e r r' l l' a h k (Activity.Draw Draw.Settle) (settling e.seat l.waiting l.drawn) (scan_word (Drawn w.version)) (settling_is a y) refl w.word;
            entry = inr (refl, helped_lasts z o es e e.seat l.waiting (r.settled e.seat) w.version (length es) (length r.history.log) (sym k.mirrors.events) w.helped);
          })

      which : HasDrawn a ⊎ IsSettling a → HasSettled z o (es ++ e ∷ []) e.seat (r'.seats e.seat).drawn l'.version
      which (inl y) =
          rw (drawn_kept z r r' e.seat (offered r.world.rows e.choice) l a l' h.arrow h (lower i) step (draws_no_more a y), not_idle_drawn z (word z r.world) e.seat (offered r.world.rows e.choice) l a l' h.arrow y x)
          (settled_lasts z o es e e.seat _ _ (n.settled e.seat l h.knows was (subst HasDrawn (sym h.activity) y)))
      which (inr y) = settles_so y (n.waits e.seat l h.knows (subst IsWaiting (sym h.activity) (settling_waits a y)))

  -- All of it.

  inside : (t : ℕ) (m : Local) → slice_get r.world.locals t ≡ Some m → t < z.seats
  inside t m g = omega (arith, slice_get_within r.world.locals t m g, i.shape.sane.seats)

  pub scans_keep : KeptScans z o (es ++ e ∷ []) r'
  scans_keep = record {
    drawing = each_seat h (λ t m. IsSettling m.activity → Acts z o (es ++ e ∷ []) (r'.seats t).drawn t (Activity.Draw Draw.Version) (operation kind.Draw name.Clock (Add 1)) m.drawn) drawing_own
        (λ t m d g x. rw (h.logs t d) (acts_lasts z o es e (r.seats t).drawn t _ _ _ (n.drawing t m g x)));
    helping = each_seat h (λ t m. (j : ℕ) → m.activity ≡ Activity.Rebalance (Rebalance.Freeze (Freeze.Settle j)) → Acts z o (es ++ e ∷ []) (r'.seats t).drawn t (Activity.Rebalance (Rebalance.Freeze (Freeze.Draw j))) (operation kind.HelpDraw name.Clock (Add 1)) m.rebalance.drawn) helping_own
        (λ t m d g j x. rw (h.logs t d) (acts_lasts z o es e (r.seats t).drawn t _ _ _ (n.helping t m g j x)));
    waits = each_seat h (λ t m. IsWaiting m.activity → WaitsOrHelped z o (es ++ e ∷ []) (word z r'.world) t m.waiting (r'.settled t)) waits_own
        (λ t m d g x. waits_other a refl h t m.waiting (inside t m g) d (n.waits t m g x));
    settled = each_seat h (λ t m. is_scan m.call ≡ true → HasDrawn m.activity → HasSettled z o (es ++ e ∷ []) t (r'.seats t).drawn m.version) settled_own
        (λ t m d g f x. rw (h.logs t d) (settled_lasts z o es e t _ _ (n.settled t m g f x)));
  }

-- no event
pub scans_start : (z : Sizes) (o : Opening) → KeptScans z o [] (start z o)
scans_start z o = record {
  drawing = λ t l g u. absurd (subst (λ (m : Local). IsSettling m.activity) (all_resting o.seats t l g) u);
  helping = λ t l g j u. let x = ap (λ (m : Local). m.activity) (all_resting o.seats t l g) in let y = sym x ∙ u in absurd (cc);
  waits = λ t l g u. absurd (subst (λ (m : Local). IsWaiting m.activity) (all_resting o.seats t l g) u);
  settled = λ t l g f u. absurd (subst (λ (m : Local). HasDrawn m.activity) (all_resting o.seats t l g) u);
}
