-- Each call that was refused has its cause, by induction over the events from the front: the events
-- of a call say why its seat is about to be refused, and so why the call was.
use Rattle.std.proofs.Common.{ℕ, ◌≡◌, ◌≢◌, ◌⊎◌, inl, inr, ◌<◌, ◌≤◌, true, false, Some, None, List, [], ◌∷◌, ◌++◌, arith, refl, sym, ◌∙◌, ap, subst, length, slice_get, length-append}
use Rattle.std.proofs.lemmas.Option.{same_Some}
use Rattle.kw_model.specs.declared.call.Call.{Call}
use Rattle.kw_model.specs.declared.call.Reply.{Reply}
use Rattle.kw_model.specs.declared.call.Reply.TheVariants as reply
use Rattle.kw_world.specs.declared.activity.Activity.{Activity}
use Rattle.kw_world.specs.declared.answer.Answer.{Answer}
use Rattle.kw_world.specs.declared.answer.Answer.TheVariants.{Done, Value, Absent, Pairs, NoRows, Spent, Stopped, Held, NotPinned}
use Rattle.kw_world.specs.declared.event.Choice.{Choice}
use Rattle.kw_world.specs.declared.event.Choice.TheVariants.{Begin}
use Rattle.kw_world.specs.declared.event.Event.{Event}
use Rattle.kw_world.specs.declared.event.StepDone.TheVariants.{Ended}
use Rattle.kw_world.specs.declared.local.Local.{Local}
use Rattle.kw_world.specs.declared.opening.Opening.{Opening}
use Rattle.kw_world.specs.declared.operation.Operation.{Operation}
use Rattle.kw_world.specs.Answers.{reply_of}
use Rattle.kw_world.specs.Opening.{IsOpening}
use Rattle.kw_world.specs.Operation.{told_by}
use Rattle.kw_world.specs.Sizes.{Sizes}
use Rattle.kw_world.specs.Step.{word, step, Stepped, is_skipped, followed}
use Rattle.kw_world.specs.Table.{transition}
use Rattle.kw_world.specs.Transition.{Transition}
use Rattle.kw_world.specs.WalkTransitions.{offered}
use Rattle.kw_world.specs.WorldView.{WorldView}
use Rattle.kw_world.proofs.GoingOn.{ends_leaving}
use Rattle.kw_world.proofs.Steps.{step-moved, transition_of-transition}
use Rattle.kw_core.specs.Events.{world, may_step, is_valid, event}
use Rattle.kw_core.specs.History.{called}
use Rattle.kw_core.specs.declared.history.End.{End}
use Rattle.kw_core.specs.Run.{Run, goes_on, noted_by, start, history}
use Rattle.kw_core.specs.Stages.{IsBusy, IsUnderway}
use Rattle.kw_core.specs.Words.{Words}
use Rattle.kw_core.proofs.Arrows.{Arrow, NextLook, looks, lists, NextLeftOver, goes_to_left_over, answers, ends_scan, scans_on, begins, sees_stamped, sees_neither, is_gone_by, helps, finds_stamped, finds_other, list_ends, key_above, left_over_gone_by, gathers_left_over, leaves, builds, first_ends, asks_of_pin, looks_at_pin}
use Rattle.kw_core.proofs.Arrows.{freezes_last, keeps_no_more, remembers_last, sees_frozen_last, takes_no_more, marks_led, decides}
use Rattle.kw_core.proofs.BuiltNext.{IsAfterBuilding, built_next}
use Rattle.kw_core.proofs.Events.{may_come, valid-nil, valid-snoc}
use Rattle.kw_core.proofs.Happens.{Happens, each_seat, found_at, happens, knows_next}
use Rattle.kw_core.proofs.Runs.{goes_on-moved, history-nil, history-snoc, history-world}
use Rattle.kw_reads.specs.Inv.{Inv}
use Rattle.kw_reads.proofs.Keeps.{inv_holds}
use Rattle.kw_shape.proofs.NextCalls.{arrow_call}
use Rattle.kw_laws.specs.Causes.{IsSpentBy, AskedAll, HaveCauses, AsksWhereItStands}
use Rattle.kw_laws.specs.Mirror.{Occurs, Acts, BeginsCall, EndsCall, NoEnd}
use Rattle.kw_laws.proofs.Along.{holds_along}
use Rattle.kw_laws.proofs.CausesArrows.{Since, since_lasts, since_own}
use Rattle.kw_laws.proofs.CausesLast.{IsSearching, asked_lasts, spent_lasts}
use Rattle.kw_laws.proofs.MirrorKeeps.{mirrors_hold}
use Rattle.kw_laws.proofs.Occurs.{ends_lasts, ends_was, occurs_now, occurs_was, occurs_within}
use Rattle.kw_core.proofs.Grouping.{counted_leads, frozen_leads, gathered_leads}
use Rattle.kw_shape.proofs.Worlds.{world-rows}
use Rattle.kw_puts.proofs.BuiltStages.{of_pin_is, pin_look_is}

-- What is kept.

-- the seat that began this call here makes it, and its events say this of it
pub record MakesCall (z : Sizes) (o : Opening) (es : List Event) (t first : ℕ) (call : Call) (l : Local) : Type 0 where
  pub busy : IsBusy l.activity
  pub asked : l.call ≡ Some call
  pub since : Since l.activity z o es t first call l

-- so it is with each call that was begun and has not ended
abbrev pub AllMake : Sizes → Opening → List Event → Type 0
AllMake z o es = (x t : ℕ) (call : Call) (l : Local) → BeginsCall z o es x t call → NoEnd z o es t x (length es) → slice_get (world z o es).locals t ≡ Some l → MakesCall z o es t x call l

-- the cause of a call that ended with this reply
abbrev pub CauseOf : Reply → Sizes → Opening → List Event → Call → ℕ → ℕ → ℕ → Type 0
CauseOf reply.Spent z o es call t first last = IsSpentBy z o es call t first last
CauseOf reply.NoRows z o es call t first last = AskedAll z o es t o.rows first last
CauseOf _ z o es call t first last = Unit {0}

-- each call that has ended has it
abbrev pub AllCaused : Sizes → Opening → List Event → Type 0
AllCaused z o es = (x y t : ℕ) (call : Call) (reply : Reply) → x < y → BeginsCall z o es x t call → NoEnd z o es t x y → EndsCall z o es y t reply → CauseOf reply z o es call t x y

-- all of it
pub record Causes (z : Sizes) (o : Opening) (es : List Event) (r : Run) : Type 0 where
  pub valid : is_valid z o es ≡ true
  pub led : history z o es ≡ r
  pub make : AllMake z o es
  pub caused : AllCaused z o es

-- A seat in a call stays in it.

next_look_busy : (z : Sizes) (j : ℕ) (next : Activity) → NextLook z j next → IsBusy next
next_look_busy z j next (looks w) = tt
next_look_busy z j next (lists w) = tt

next_left_over_busy : (l k : Local) → NextLeftOver l k → IsBusy k.activity
next_left_over_busy l k (goes_to_left_over m w) = tt
next_left_over_busy l k (answers w e) = tt
next_left_over_busy l k (ends_scan w e f) = tt
next_left_over_busy l k (scans_on q w e f g) = tt

after_busy : (b : Activity) → IsAfterBuilding b → IsBusy b
after_busy Activity.Idle x = absurd x
after_busy _ x = tt

arrow_busy : (z : Sizes) (v : Words) (s : ℕ) (choice : Choice) (l : Local) (a : Activity) (k : Local) → Arrow z v s choice l a k → IsUnderway a → IsBusy k.activity
arrow_busy z v s choice l a k (builds b next y t) u = after_busy k.activity (built_next z v choice l a k t)
arrow_busy z v s choice l a k (begins call e b) u = absurd u
arrow_busy z v s choice l a k (leaves answer) u = absurd u
arrow_busy z v s choice l a k (sees_stamped j c version next f n) u = next_look_busy z _ next n
arrow_busy z v s choice l a k (sees_neither j next f n) u = next_look_busy z _ next n
arrow_busy z v s choice l a k (is_gone_by next f n) u = next_look_busy z _ next n
arrow_busy z v s choice l a k (helps next f n) u = next_look_busy z _ next n
arrow_busy z v s choice l a k (finds_stamped c version next f n) u = next_look_busy z _ next n
arrow_busy z v s choice l a k (finds_other next f n) u = next_look_busy z _ next n
arrow_busy z v s choice l a k (first_ends next f n) u = next_left_over_busy _ k n
arrow_busy z v s choice l a k (list_ends next f n) u = next_left_over_busy _ k n
arrow_busy z v s choice l a k (key_above next f n) u = next_left_over_busy _ k n
arrow_busy z v s choice l a k (left_over_gone_by next f n) u = next_left_over_busy _ k n
arrow_busy z v s choice l a k (gathers_left_over next n) u = next_left_over_busy _ k n
arrow_busy z v s choice l a k (remembers_last i c version next e o n) u = frozen_leads IsBusy tt tt _ next n
arrow_busy z v s choice l a k (sees_frozen_last i next e o n) u = frozen_leads IsBusy tt tt _ next n
arrow_busy z v s choice l a k (freezes_last i next e o n) u = frozen_leads IsBusy tt tt _ next n
arrow_busy z v s choice l a k (takes_no_more next e none n) u = gathered_leads IsBusy tt tt z _ next n
arrow_busy z v s choice l a k (keeps_no_more next none n) u = gathered_leads IsBusy tt tt z _ next n
arrow_busy z v s choice l a k (marks_led count next d n) u = counted_leads IsBusy tt tt _ _ next n
arrow_busy z v s choice l a k (decides count m next e n) u = counted_leads IsBusy tt tt _ _ next n
arrow_busy z v s choice l a k (asks_of_pin next o n) u = of_pin_is IsBusy tt tt tt tt tt tt n
arrow_busy z v s choice l a k (looks_at_pin i next n) u = pin_look_is IsBusy (λ j. tt) tt n
arrow_busy z v s choice l a k _ u = tt

-- One more event.

module _ (z : Sizes) (o : Opening) (es : List Event) (e : Event) (r r' : Run) (l l' : Local) (a : Activity) (h : Happens z r r' e.seat (offered r.world.rows e.choice) l l' a) (moves : is_skipped l.activity e.choice ≡ false) (i : Inv z r) (led : world z o es ≡ r.world) (led' : world z o (es ++ e ∷ []) ≡ r'.world) (make : AllMake z o es) (caused : AllCaused z o es) where
  longer : length es < length (es ++ e ∷ [])
  longer = omega (arith, length-append es (e ∷ []))

  rows : r.world.rows ≡ o.rows
  rows = ap (λ (w : WorldView). w.rows) (sym led) ∙ world-rows z o es

  -- what the event answers is what its line says
  done_here : (step z r.world e).done ≡ (followed r.world.rows (transition z a e.seat (offered r.world.rows e.choice) l) (found_at z (word z r.world) a e.seat (offered r.world.rows e.choice) l)).done
  done_here = ap (λ (x : Stepped). x.done) (step-moved z r.world e l h.knows moves) ∙ ap (λ (x : Transition). (followed r.world.rows x (word z r.world x.operation.name)).done) (transition_of-transition z e.seat (offered r.world.rows e.choice) l ∙ ap (λ b. transition z b e.seat (offered r.world.rows e.choice) l) h.activity)

  -- a seat that leaves ends its call
  leaving_ends : (answer : Answer) → a ≡ Activity.Leave answer → EndsCall z o (es ++ e ∷ []) (length es) e.seat (reply_of answer l.pairs)
  leaving_ends answer is = record {
    before = world z o es;
    choice = e.choice;
    occurs = occurs_now z o es e;
    ends = ap (λ (w : WorldView). (step z w e).done) led ∙ done_here ∙ ap (λ b. (followed r.world.rows (transition z b e.seat (offered r.world.rows e.choice) l) (found_at z (word z r.world) b e.seat (offered r.world.rows e.choice) l)).done) is;
  }

  -- a call that has not ended in the longer list has not in the shorter one
  not_ended : (t x y : ℕ) → NoEnd z o (es ++ e ∷ []) t x y → (y' : ℕ) → y' ≤ y → NoEnd z o es t x y'
  not_ended t x y n y' w u answer f g d = n u answer f (omega (arith, g, w)) (ends_lasts z o es e u t answer d)

  -- its seat is not about to leave
  underway : (x : ℕ) → x < length es → NoEnd z o (es ++ e ∷ []) e.seat x (length (es ++ e ∷ [])) → (b : Activity) → a ≡ b → IsBusy b → IsUnderway b
  underway x w n Activity.Idle is u = absurd u
  underway x w n (Activity.Leave answer) is u = absurd (n (length es) (reply_of answer l.pairs) (omega (arith, w)) longer (leaving_ends answer is))
  underway x w n _ is u = tt

  begun_was : (x t : ℕ) (call : Call) → BeginsCall z o (es ++ e ∷ []) x t call → BeginsCall z o es x t call ⊎ ((x ≡ length es) × (e ≡ event t (Begin call)) × (a ≡ Activity.Idle))
  begun_was x t call b = which (occurs_was z o es e x b.before (event t (Begin call)) b.occurs)
    where
      which : Occurs z o es x b.before (event t (Begin call)) ⊎ ((x ≡ length es) × (e ≡ event t (Begin call)) × (world z o es ≡ b.before)) → BeginsCall z o es x t call ⊎ ((x ≡ length es) × (e ≡ event t (Begin call)) × (a ≡ Activity.Idle))
      which (inl f) = inl (record { before = b.before; local = b.local; occurs = f; knows = b.knows; idle = b.idle })
      which (inr f) =
          let k : slice_get r.world.locals t ≡ Some b.local = subst (λ (q : WorldView). slice_get q.locals t ≡ Some b.local) (sym f.2 ∙ led) b.knows in
          let g : slice_get r.world.locals t ≡ Some l = subst (λ (q : Event). slice_get r.world.locals q.seat ≡ Some l) f.1 h.knows in
          inr (f.0, f.1, sym h.activity ∙ ap (λ (m : Local). m.activity) (same_Some l b.local (sym g ∙ k)) ∙ b.idle)

  begun_within : (x t : ℕ) (call : Call) → BeginsCall z o es x t call → x < length es
  begun_within x t call b = occurs_within z o es x b.before (event t (Begin call)) b.occurs

  -- a call that was begun before
  abbrev GoesOn : ℕ → Local → Type 0
  GoesOn t m = (x : ℕ) (call : Call) → BeginsCall z o es x t call → NoEnd z o (es ++ e ∷ []) t x (length (es ++ e ∷ [])) → MakesCall z o (es ++ e ∷ []) t x call m

  makes_own : GoesOn e.seat l'
  makes_own x call b n =
      let inside = begun_within x e.seat call b in
      let w : length es ≤ length (es ++ e ∷ []) = omega (arith, longer) in
      let k = make x e.seat call l b (not_ended e.seat x (length (es ++ e ∷ [])) n (length es) w) (ap (λ (q : WorldView). slice_get q.locals e.seat) led ∙ h.knows) in
      let u = underway x inside n a refl (subst IsBusy h.activity k.busy) in
      record {
        busy = arrow_busy z (word z r.world) e.seat (offered r.world.rows e.choice) l a l' h.arrow u;
        asked = (arrow_call z (word z r.world) e.seat (offered r.world.rows e.choice) l a l' h.arrow u).0 ∙ k.asked;
        since = since_own z o es e r r' l l' a h i led rows x call k.asked inside (subst (λ c. Since c z o es e.seat x call l) h.activity k.since);
      }

  makes_other : (t : ℕ) (m : Local) → t ≢ e.seat → slice_get r.world.locals t ≡ Some m → GoesOn t m
  makes_other t m d g x call b n =
      let w : length es ≤ length (es ++ e ∷ []) = omega (arith, longer) in
      let k = make x t call m b (not_ended t x (length (es ++ e ∷ [])) n (length es) w) (ap (λ (q : WorldView). slice_get q.locals t) led ∙ g) in
      record { busy = k.busy; asked = k.asked; since = since_lasts z o es e t x call m m.activity w idle k.since }
    where
      idle : (u found : ℕ) (a : Activity) (op : Operation) → IsSearching a → length es ≤ u → u < length (es ++ e ∷ []) → Acts z o (es ++ e ∷ []) u t a op found → ⊥
      idle u found a op i f y c = which (occurs_was z o es e u c.before (event t c.choice) c.occurs)
        where
          which : Occurs z o es u c.before (event t c.choice) ⊎ ((u ≡ length es) × (e ≡ event t c.choice) × (world z o es ≡ c.before)) → ⊥
          which (inl k) = omega (arith, f, occurs_within z o es u c.before (event t c.choice) k)
          which (inr k) = d (sym (ap (λ (q : Event). q.seat) k.1))

  -- a call that begins now
  makes_new : (t : ℕ) (call : Call) → e ≡ event t (Begin call) → a ≡ Activity.Idle → MakesCall z o (es ++ e ∷ []) t (length es) call l'
  makes_new t call f is = subst (MakesCall z o (es ++ e ∷ []) t (length es) call) (sym next) (record { busy = tt; asked = refl; since = tt })
    where
      next : l' ≡ (followed r.world.rows (transition z Activity.Idle e.seat (Begin call) l) (found_at z (word z r.world) Activity.Idle e.seat (Begin call) l)).local
      next = h.next ∙ ap (λ b. (followed r.world.rows (transition z b e.seat (offered r.world.rows e.choice) l) (found_at z (word z r.world) b e.seat (offered r.world.rows e.choice) l)).local) is
          ∙ ap (λ (q : Event). (followed r.world.rows (transition z Activity.Idle e.seat (offered r.world.rows q.choice) l) (found_at z (word z r.world) Activity.Idle e.seat (offered r.world.rows q.choice) l)).local) f

  makes_on : AllMake z o (es ++ e ∷ [])
  makes_on x t call m b n g = which (begun_was x t call b)
    where
      knows : slice_get r'.world.locals t ≡ Some m
      knows = ap (λ (q : WorldView). slice_get q.locals t) (sym led') ∙ g

      which : BeginsCall z o es x t call ⊎ ((x ≡ length es) × (e ≡ event t (Begin call)) × (a ≡ Activity.Idle)) → MakesCall z o (es ++ e ∷ []) t x call m
      which (inl c) = each_seat h GoesOn makes_own makes_other t m knows x call c n
      which (inr c) =
          let same : l' ≡ m = same_Some l' m (sym (knows_next h) ∙ ap (λ (q : Event). slice_get r'.world.locals q.seat) c.1 ∙ knows) in
          subst (λ y. MakesCall z o (es ++ e ∷ []) t y call m) (sym c.0) (subst (MakesCall z o (es ++ e ∷ []) t (length es) call) same (makes_new t call c.1 c.2))

  -- Calls that have ended.

  cause_lasts : (x y t : ℕ) (call : Call) (answer : Reply) → y ≤ length es → CauseOf answer z o es call t x y → CauseOf answer z o (es ++ e ∷ []) call t x y
  cause_lasts x y t call reply.Spent w c = let same : y ≤ y = omega arith in spent_lasts z o es e t y y same call x c
  cause_lasts x y t call reply.NoRows w c = let same : y ≤ y = omega arith in asked_lasts z o es e t y y same w (λ u found a op i f g d. omega (arith, f, g)) o.rows x c
  cause_lasts x y t call _ w c = tt

  cause_now : (x : ℕ) (call : Call) (answer : Answer) (pairs : List (ℕ × ℕ)) → Since (Activity.Leave answer) z o es e.seat x call l → CauseOf (reply_of answer pairs) z o es call e.seat x (length es)
  cause_now x call Spent pairs c = c
  cause_now x call NoRows pairs c = c
  cause_now x call Done pairs c = tt
  cause_now x call (Value value) pairs c = tt
  cause_now x call Absent pairs c = tt
  cause_now x call Pairs pairs c = tt
  cause_now x call Stopped pairs c = tt
  cause_now x call Held pairs c = tt
  cause_now x call NotPinned pairs c = tt

  caused_on : AllCaused z o (es ++ e ∷ [])
  caused_on x y t call answer w b n d = which (ends_was z o es e y t answer d) (begun_was x t call b)
    where
      which : EndsCall z o es y t answer ⊎ ((y ≡ length es) × (e.seat ≡ t) × ((step z (world z o es) e).done ≡ Ended answer)) → BeginsCall z o es x t call ⊎ ((x ≡ length es) × (e ≡ event t (Begin call)) × (a ≡ Activity.Idle)) → CauseOf answer z o (es ++ e ∷ []) call t x y
      which (inl c) (inl k) =
          let inside = occurs_within z o es y c.before (event t c.choice) c.occurs in
          let same : y ≤ y = omega arith in
          cause_lasts x y t call answer (omega (arith, inside)) (caused x y t call answer w k (not_ended t x y n y same) c)
      which (inl c) (inr k) = absurd (omega (arith, k.0, w, occurs_within z o es y c.before (event t c.choice) c.occurs))
      which (inr c) (inr k) = absurd (omega (arith, k.0, w, c.0))
      which (inr c) (inl k) = subst (λ q. CauseOf answer z o (es ++ e ∷ []) call t x q) (sym c.0) (subst (λ q. CauseOf answer z o (es ++ e ∷ []) call q x (length es)) c.1 (now (subst (λ q. BeginsCall z o es x q call) (sym c.1) k) (subst (λ q. NoEnd z o (es ++ e ∷ []) q x y) (sym c.1) n) c.0 c.2))
        where
          now : BeginsCall z o es x e.seat call → NoEnd z o (es ++ e ∷ []) e.seat x y → y ≡ length es → (step z (world z o es) e).done ≡ Ended answer → CauseOf answer z o (es ++ e ∷ []) call e.seat x (length es)
          now began runs at done =
              let all : length es ≤ y = omega (arith, at) in
              let inside : length es ≤ length es = omega arith in
              let k = make x e.seat call l began (not_ended e.seat x y runs (length es) all) (ap (λ (q : WorldView). slice_get q.locals e.seat) led ∙ h.knows) in
              let left = ends_leaving z a e.seat (offered r.world.rows e.choice) l r.world.rows (told_by (transition z a e.seat (offered r.world.rows e.choice) l).operation.action (found_at z (word z r.world) a e.seat (offered r.world.rows e.choice) l)) answer h.moves (sym done_here ∙ ap (λ (q : WorldView). (step z q e).done) (sym led) ∙ done) in
              subst (λ q. CauseOf q z o (es ++ e ∷ []) call e.seat x (length es)) (sym left.2)
              (cause_lasts x (length es) e.seat call (reply_of left.0 l.pairs) inside (cause_now x call left.0 l.pairs (subst (λ q. Since q z o es e.seat x call l) (h.activity ∙ left.1) k.since)))

-- one event that may come
causes_on : (z : Sizes) (o : Opening) → IsOpening z o → (es : List Event) (e : Event) (r : Run) → may_step o r.world e ≡ true → Causes z o es r → Causes z o (es ++ e ∷ []) (goes_on z r e)
causes_on z o opening es e r may k =
    let led : world z o es ≡ r.world = sym (history-world z o es) ∙ ap (λ (x : Run). x.world) k.led in
    let c = may_come o r.world e may in
    let i : Inv z r = subst (Inv z) k.led (inv_holds z o opening es k.valid) in
    let noted : goes_on z r e ≡ noted_by z r e c.local = goes_on-moved z r e c.local c.knows c.moves in
    let next : history z o (es ++ e ∷ []) ≡ goes_on z r e = history-snoc z o es e ∙ ap (λ x. goes_on z x e) k.led in
    let led' : world z o (es ++ e ∷ []) ≡ (noted_by z r e c.local).world = sym (history-world z o (es ++ e ∷ [])) ∙ ap (λ (x : Run). x.world) (next ∙ noted) in
    let h = happens z r e c.local i.shape.sane c.begins c.knows c.moves in
    record {
      valid = valid-snoc z o es e k.valid (subst (λ w. may_step o w e ≡ true) (sym led) may);
      led = next;
      make = makes_on z o es e r (noted_by z r e c.local) c.local _ c.local.activity h c.moves i led led' k.make k.caused;
      caused = caused_on z o es e r (noted_by z r e c.local) c.local _ c.local.activity h c.moves i led led' k.make k.caused;
    }

-- no event
causes_start : (z : Sizes) (o : Opening) → Causes z o [] (start z o)
causes_start z o = record {
  valid = valid-nil z o;
  led = history-nil z o;
  make = λ x t call l b. absurd (nothing _ b.occurs.stands);
  caused = λ x y t call answer w b. absurd (nothing _ b.occurs.stands);
}
  where
    nothing : (d : Event) → None ≡ Some d → ⊥
    nothing d g = cc

-- every valid list
causes_along : (z : Sizes) (o : Opening) → IsOpening z o → (es : List Event) → is_valid z o es ≡ true → Causes z o es (history z o es)
causes_along z o opening = holds_along z o (Causes z o) (causes_on z o opening) (causes_start z o)

-- The record.

-- each call of the record that was refused has its cause
pub causes_hold : (z : Sizes) (o : Opening) → IsOpening z o → (es : List Event) → is_valid z o es ≡ true → HaveCauses z o es (history z o es).history
causes_hold z o opening es v = record {
  spent = λ x e w f g. cause x e w f reply.Spent g;
  no_rows = λ x e w f g. cause x e w f reply.NoRows g;
}
  where
    cause : (x : ℕ) (e : End) → x < length (history z o es).history.calls → (called (history z o es).history x).end ≡ Some e → (answer : Reply) → e.reply ≡ answer →
        CauseOf answer z o es (called (history z o es).history x).call (called (history z o es).history x).seat (called (history z o es).history x).first e.at
    cause x e w f answer g =
        let m = (mirrors_hold z o opening es v).calls x w in
        let first = ((inv_holds z o opening es v).history.laws.ends x e f).0 in
        (causes_along z o opening es v).caused _ _ _ _ answer first m.begins (m.ends_first e f) (subst (λ q. EndsCall z o es e.at (called (history z o es).history x).seat q) g (m.ends e f))

-- a seat that is about to leave for want of rows has its cause already
pub standing_holds : (z : Sizes) (o : Opening) → IsOpening z o → (es : List Event) → is_valid z o es ≡ true → AsksWhereItStands z o es
standing_holds z o opening es v t l g is =
    let r : Run = history z o es in
    let k : slice_get r.world.locals t ≡ Some l = subst (λ (w : WorldView). slice_get w.locals t ≡ Some l) (sym (history-world z o es)) g in
    let c = (inv_holds z o opening es v).positions.calling t l k (subst IsBusy (sym is) tt) in
    let m = (mirrors_hold z o opening es v).calls (r.seats t).call c.within in
    let first : ℕ = (called r.history (r.seats t).call).first in
    let call : Call = (called r.history (r.seats t).call).call in
    let began : BeginsCall z o es first t call = subst (λ q. BeginsCall z o es first q call) c.seat m.begins in
    let runs : NoEnd z o es t first (length es) = subst (λ q. NoEnd z o es q first (length es)) c.seat (m.runs c.runs) in
    let made : MakesCall z o es t first call l = (causes_along z o opening es v).make first t call l began runs g in
    (first, subst (λ b. Since b z o es t first call l) is made.since)
