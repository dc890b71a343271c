-- A get or a scan has no mark but its end: so a seat that makes all events ends it.
use Rattle.std.proofs.Common.{ℕ, ◌≡◌, ◌⊎◌, inl, inr, ◌+◌, ◌<◌, ◌≤◌, ◌++◌, ◌∷◌, [], true, List, Option, Some, None, take, drop, arith, refl, sym, ◌∙◌, ap, subst, length, slice_get, append_assoc, take-append-drop}
use Rattle.kw_model.specs.declared.call.Call.{Call}
use Rattle.kw_model.specs.declared.call.Call.TheVariants.{Put, Del, Get, Scan, Pin, ScanAt, Unpin}
use Rattle.kw_world.specs.declared.activity.Activity.{Activity}
use Rattle.kw_world.specs.declared.activity.rebalance.Rebalance.TheVariants as Rebalance
use Rattle.kw_world.specs.declared.activity.rebalance.freeze.Freeze.TheVariants as Freeze
use Rattle.kw_world.specs.declared.activity.rebalance.engage.Engage.TheVariants as Engage
use Rattle.kw_world.specs.declared.event.Choice.{Choice}
use Rattle.kw_world.specs.declared.event.Event.{Event}
use Rattle.kw_world.specs.declared.local.Local.{Local}
use Rattle.kw_world.specs.declared.opening.Opening.{Opening}
use Rattle.kw_world.specs.Opening.{IsOpening}
use Rattle.kw_world.specs.Sizes.{Sizes}
use Rattle.kw_world.specs.WorldView.{WorldView}
use Rattle.kw_core.specs.Events.{is_valid, local_of, world}
use Rattle.kw_core.specs.Stages.{IsBalancing, IsBusy, IsUnderway}
use Rattle.kw_core.specs.Words.{Words}
use Rattle.kw_core.proofs.Arrows.{Arrow, NextLook, looks, lists, NextLeftOver, goes_to_left_over, answers, ends_scan, scans_on, builds, leaves, sees_stamped, sees_neither, is_gone_by, helps, finds_stamped, finds_other, first_ends, list_ends, key_above, left_over_gone_by, gathers_left_over, marks_led, decides, remembers_last, sees_frozen_last, freezes_last, takes_no_more, keeps_no_more, asks_of_pin, looks_at_pin}
use Rattle.kw_core.proofs.Building.{IsBuilding}
use Rattle.kw_core.proofs.BuiltNext.{IsAfterBuilding, built_next}
use Rattle.kw_core.proofs.Events.{valid_front}
use Rattle.kw_core.proofs.Grouping.{counted_leads, frozen_leads, gathered_leads}
use Rattle.kw_core.proofs.Runs.{history-world}
use Rattle.kw_shape.specs.Shape.{IsKind, IsPutCall, IsReadCall}
use Rattle.kw_shape.proofs.NextCalls.{arrow_call}
use Rattle.kw_shape.proofs.Worlds.{shape_holds, world-local}
use Rattle.kw_alone.specs.Alone.{EndsAt, IsEnd, IsReadBy, activity_after}
use Rattle.kw_alone.specs.Falls.{events_to_mark}
use Rattle.kw_alone.specs.Marks.{AreOf, IsMark, ends, wins, moves}
use Rattle.kw_alone.proofs.Marking.{Keeps, Marked, marked}
use Rattle.kw_alone.proofs.Turning.{Made, made, seat_inside}
use Rattle.kw_puts.proofs.BuiltStages.{of_pin_is, pin_look_is}

-- A call goes on until its seat leaves.

look_busy : (z : Sizes) (j : ℕ) (nx : Activity) → NextLook z j nx → IsBusy nx
look_busy z j nx (looks h) = tt
look_busy z j nx (lists h) = tt

left_over_busy : (m k : Local) → NextLeftOver m k → IsBusy k.activity
left_over_busy m k (goes_to_left_over n e) = tt
left_over_busy m k (answers e c) = tt
left_over_busy m k (ends_scan e c d) = tt
left_over_busy m k (scans_on r e c n d) = tt

after_busy : (a : Activity) → IsAfterBuilding a → IsBusy a
after_busy Activity.Idle n = n
after_busy _ n = tt

stays_busy : (z : Sizes) (v : Words) (s : ℕ) (choice : Choice) (l : Local) (a : Activity) (k : Local) → Arrow z v s choice l a k → IsUnderway a → IsBusy k.activity
stays_busy z v s choice l a k (builds b next y t) u = after_busy next.activity (built_next z v choice l b next t)
stays_busy z v s choice l a k (leaves answer) u = absurd u
stays_busy z v s choice l a k (sees_stamped j c version next e n) u = look_busy z _ next n
stays_busy z v s choice l a k (sees_neither j next e n) u = look_busy z _ next n
stays_busy z v s choice l a k (is_gone_by next e n) u = look_busy z _ next n
stays_busy z v s choice l a k (helps next e n) u = look_busy z _ next n
stays_busy z v s choice l a k (finds_stamped c version next e n) u = look_busy z _ next n
stays_busy z v s choice l a k (finds_other next e n) u = look_busy z _ next n
stays_busy z v s choice l a k (first_ends next e n) u = left_over_busy _ next n
stays_busy z v s choice l a k (list_ends next e n) u = left_over_busy _ next n
stays_busy z v s choice l a k (key_above next e n) u = left_over_busy _ next n
stays_busy z v s choice l a k (left_over_gone_by next e n) u = left_over_busy _ next n
stays_busy z v s choice l a k (gathers_left_over next n) u = left_over_busy _ next n
stays_busy z v s choice l a k (marks_led count next d n) u = counted_leads IsBusy tt tt _ _ next n
stays_busy z v s choice l a k (decides count m next e n) u = counted_leads IsBusy tt tt _ _ next n
stays_busy z v s choice l a k (remembers_last j c version next e o n) u = frozen_leads IsBusy tt tt _ next n
stays_busy z v s choice l a k (sees_frozen_last j next e o n) u = frozen_leads IsBusy tt tt _ next n
stays_busy z v s choice l a k (freezes_last j next e o n) u = frozen_leads IsBusy tt tt _ next n
stays_busy z v s choice l a k (takes_no_more next e m n) u = gathered_leads IsBusy tt tt z _ next n
stays_busy z v s choice l a k (keeps_no_more next m n) u = gathered_leads IsBusy tt tt z _ next n
stays_busy z v s choice l a k (asks_of_pin next o n) u = of_pin_is IsBusy tt tt tt tt tt tt n
stays_busy z v s choice l a k (looks_at_pin j next n) u = pin_look_is IsBusy (λ i. tt) tt n
stays_busy z v s choice l a k _ u = tt

-- the seat is about to leave
abbrev IsLeaving : Activity → Type 0
IsLeaving (Activity.Leave answer) = Unit {0}
IsLeaving _ = ⊥

no_leaving : (a : Activity) → IsBuilding a → IsLeaving a → ⊥
no_leaving (Activity.Rebalance _) b x = x
no_leaving _ b x = b

leaving_ends : (z : Sizes) (v : Words) (s : ℕ) (choice : Choice) (l : Local) (a : Activity) (k : Local) → Arrow z v s choice l a k → IsLeaving a → IsMark a k.activity
leaving_ends z v s choice l a k (builds b next y t) x = absurd (no_leaving b y x)
leaving_ends z v s choice l a k (leaves answer) x = ends answer
leaving_ends z v s choice l a k _ x = absurd x

leaving_or : (a : Activity) → IsBusy a → IsLeaving a ⊎ IsUnderway a
leaving_or Activity.Idle b = absurd b
leaving_or (Activity.Leave answer) b = inl tt
leaving_or _ b = inr tt

-- an event ends the get or the scan, or leaves the seat in it
read_goes : (z : Sizes) (v : Words) (s : ℕ) (choice : Choice) (l : Local) (a : Activity) (k : Local) → Arrow z v s choice l a k → IsReadCall l.call → IsBusy a → IsMark a k.activity ⊎ (IsReadCall k.call × IsBusy k.activity)
read_goes z v s choice l a k y c b = which (leaving_or a b)
  where
    which : IsLeaving a ⊎ IsUnderway a → IsMark a k.activity ⊎ (IsReadCall k.call × IsBusy k.activity)
    which (inl x) = inl (leaving_ends z v s choice l a k y x)
    which (inr u) = inr (subst IsReadCall (sym (arrow_call z v s choice l a k y u).0) c, stays_busy z v s choice l a k y u)

-- Its only mark is its end.

balancing_puts : (a : Activity) (l : Local) → IsKind a l → IsBalancing a → IsPutCall l.call
balancing_puts (Activity.Rebalance (Rebalance.Engage (Engage.Decide count))) l k b = k.0
balancing_puts (Activity.Rebalance (Rebalance.Freeze (Freeze.Pin i))) l k b = absurd k
balancing_puts (Activity.Rebalance _) l k b = k
balancing_puts _ l k b = absurd b

no_read : (call : Option Call) → IsPutCall call → IsReadCall call → ⊥
no_read (Some (Put key value)) p c = c
no_read (Some (Del key)) p c = c
no_read (Some (Get key)) p c = p
no_read (Some (Scan from upto)) p c = p
no_read (Some Pin) p c = p
no_read (Some (ScanAt from upto)) p c = p
no_read (Some Unpin) p c = p
no_read None p c = p

mark_ends : (a b : Activity) (l : Local) → IsKind a l → IsReadCall l.call → IsMark a b → IsEnd a b
mark_ends a b l k c (ends answer) = (answer, refl)
mark_ends a b l k c wins = absurd (no_read l.call k c)
mark_ends a b l k c (moves d at) = absurd (no_read l.call (balancing_puts d l k at) c)

-- Lists.

module _ (z : Sizes) (o : Opening) (s : ℕ) (opening : IsOpening z o) where
  read_over : (es : List Event) (e : Event) → (m : Made z o es e) → IsReadCall (local_of (world z o es) e.seat).call × IsBusy (activity_after z o e.seat es) → IsMark (activity_after z o e.seat es) (activity_after z o e.seat (es ++ e ∷ [])) ⊎ IsReadBy z o e.seat (es ++ e ∷ [])
  read_over es e m k =
      let n = subst (λ (x : Local). IsReadCall x.call × IsBusy x.activity) m.was k in
      let t = read_goes z _ e.seat _ m.local m.local.activity m.next m.happens.arrow n.0 n.1 in
      let u = subst (λ (x : Local). IsMark x.activity m.next.activity ⊎ (IsReadCall m.next.call × IsBusy m.next.activity)) (sym m.was) t in
      subst (λ (x : Local). IsMark (activity_after z o e.seat es) x.activity ⊎ (IsReadCall x.call × IsBusy x.activity)) (sym m.is) u

  read_keeps : Keeps z o s (IsReadBy z o s)
  read_keeps xs e ok own k =
      subst (λ n. IsMark (activity_after z o n xs) (activity_after z o n (xs ++ e ∷ [])) ⊎ IsReadBy z o n (xs ++ e ∷ [])) own
      (read_over xs e (made z o xs e opening ok) (subst (λ n. IsReadBy z o n xs) (sym own) k))

  -- the front of a valid list is valid
  valid_to : (xs ys : List Event) (n : ℕ) → is_valid z o (xs ++ ys) ≡ true → is_valid z o (xs ++ take n ys) ≡ true
  valid_to xs ys n ok = valid_front z o (xs ++ take n ys) (drop n ys) (subst (λ x. is_valid z o x ≡ true) (ap (λ t. xs ++ t) (sym (take-append-drop n ys)) ∙ sym (append_assoc xs (take n ys) (drop n ys))) ok)

  -- the activity is one of the call
  kind_after : (es : List Event) → is_valid z o es ≡ true → s < o.seats → IsKind (activity_after z o s es) (local_of (world z o es) s)
  kind_after es v inside = ((shape_holds z o es opening v).kinds s (local_of (world z o es) s) (subst (λ (x : WorldView). slice_get x.locals s ≡ Some (local_of (world z o es) s)) (sym (history-world z o es)) (world-local z o es s inside))).kind

  marked_ends : (xs ys : List Event) → is_valid z o (xs ++ ys) ≡ true → s < o.seats → Marked z o s (IsReadBy z o s) xs ys → (i : ℕ) × EndsAt z o s xs ys i
  marked_ends xs ys ok inside t =
      let kind = kind_after (xs ++ take t.at ys) (valid_to xs ys t.at ok) inside in
      (t.at, (t.marks.0, mark_ends (activity_after z o s (xs ++ take t.at ys)) (activity_after z o s (xs ++ take (t.at + 1) ys)) (local_of (world z o (xs ++ take t.at ys)) s) kind t.kept.0 t.marks.1))

  pub read_ends : (xs ys : List Event) → is_valid z o (xs ++ ys) ≡ true → AreOf s ys → IsReadBy z o s xs → events_to_mark z o.rows ≤ length ys → (i : ℕ) × EndsAt z o s xs ys i
  read_ends xs [] ok of k less = absurd (omega (arith, less))
  read_ends xs (e ∷ ys) ok of k less = marked_ends xs (e ∷ ys) ok (seat_inside z o s opening xs e ys ok (of 0 e (omega arith))) (marked z o s opening (IsReadBy z o s) read_keeps xs (e ∷ ys) ok of k less)
