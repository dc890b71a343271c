-- Where an event leads, by what scans do to the clock: to no activity before a scan's load of the
-- clock but from one, to help for a scan that waits, and to a refusal of a scan from that load.
use Rattle.std.proofs.Common.{ℕ, ◌≡◌, ◌⊎◌, inl, inr, ◌≤◌, true, Option, Some, None, refl, sym, subst}
use Rattle.kw_words.specs.declared.layout.Name.TheVariants as name
use Rattle.kw_words.specs.declared.scan.ScanWord.TheVariants.{Waiting}
use Rattle.kw_words.specs.declared.sizes.TheConstants.{SPENT}
use Rattle.kw_words.specs.Scan.{scan_of}
use Rattle.kw_model.specs.declared.call.Call.{Call}
use Rattle.kw_model.specs.declared.call.Call.TheVariants.{Put, Del, Get, Scan, Pin, ScanAt, Unpin}
use Rattle.kw_world.specs.declared.activity.Activity.{Activity}
use Rattle.kw_world.specs.declared.activity.draw.Draw.TheVariants as Draw
use Rattle.kw_world.specs.declared.answer.Answer.{Answer}
use Rattle.kw_world.specs.declared.answer.Answer.TheVariants.{Done, Value, Absent, Pairs, NoRows, Spent, Stopped, Held, NotPinned}
use Rattle.kw_world.specs.declared.event.Choice.{Choice}
use Rattle.kw_world.specs.declared.event.Choice.TheVariants.{Begin, Go, Guess, Stop}
use Rattle.kw_world.specs.declared.local.Local.{Local}
use Rattle.kw_world.specs.Calls.{is_scan}
use Rattle.kw_world.specs.ScanTransitions.{answer_or_stopped}
use Rattle.kw_world.specs.Sizes.{Sizes}
use Rattle.kw_core.specs.Stages.{IsUnderway}
use Rattle.kw_core.specs.Words.{Words}
use Rattle.kw_core.proofs.Arrows.{Arrow, NextLook, looks, lists, NextLeftOver, goes_to_left_over, answers, ends_scan, scans_on, begins, enters_scan, is_spent, sees_stamped, sees_neither, is_gone_by, helps, finds_stamped, finds_other, first_ends, list_ends, key_above, left_over_gone_by, gathers_left_over, clears_scan, leaves, retries, enters_again, clock_is_spent, epoch_is_spent, helps_scan, draws_for, builds, asks_of_pin, looks_at_pin}
use Rattle.kw_core.proofs.Arrows.{freezes_last, keeps_no_more, remembers_last, sees_frozen_last, takes_no_more, marks_led, decides}
use Rattle.kw_core.proofs.BuiltNext.{IsAfterBuilding, built_next}
use Rattle.kw_shape.specs.Shape.{IsKind, IsPairs, IsPutCall, IsScanCall}
use Rattle.kw_puts.specs.Positions.{HelpsScan}
use Rattle.kw_puts.proofs.BuiltStages.{after_helps, of_pin_is, pin_look_is}
use Rattle.kw_puts.proofs.Owners.{true_false}
use Rattle.kw_core.proofs.Grouping.{counted_leads, frozen_leads, gathered_leads}

-- Calls.

-- a put or a delete is no scan
put_scans_not : {A : Type 0} (c : Option Call) → IsPutCall c → is_scan c ≡ true → A
put_scans_not (Some (Put key value)) k e = true_false e refl
put_scans_not (Some (Del key)) k e = true_false e refl
put_scans_not (Some (Get key)) k e = absurd k
put_scans_not (Some (Scan from upto)) k e = absurd k
put_scans_not (Some Pin) k e = absurd k
put_scans_not (Some (ScanAt from upto)) k e = absurd k
put_scans_not (Some Unpin) k e = absurd k
put_scans_not None k e = absurd k

-- the call of a scan
pub scans : (c : Option Call) → IsScanCall c → is_scan c ≡ true
scans (Some (Scan from upto)) x = refl
scans (Some (Put key value)) x = absurd x
scans (Some (Del key)) x = absurd x
scans (Some (Get key)) x = absurd x
scans (Some Pin) x = absurd x
scans (Some (ScanAt from upto)) x = absurd x
scans (Some Unpin) x = absurd x
scans None x = absurd x

-- Before the load.

-- the seat makes no call, or has not come by the load of the clock with which a scan begins
abbrev pub IsBeforeLoad : Activity → Type 0
IsBeforeLoad Activity.Idle = Unit {0}
IsBeforeLoad (Activity.Enter _) = Unit {0}
IsBeforeLoad (Activity.Draw Draw.Clock) = Unit {0}
IsBeforeLoad _ = ⊥

-- the call is over, or begins anew
abbrev pub IsTurning : Activity → Type 0
IsTurning (Activity.Leave answer) = Unit {0}
IsTurning Activity.Retry = Unit {0}
IsTurning _ = ⊥

look_is_past : (z : Sizes) (j : ℕ) (next : Activity) → NextLook z j next → IsBeforeLoad next → ⊥
look_is_past z j next (looks w) x = x
look_is_past z j next (lists w) x = x

left_over_is_past : (l k : Local) → NextLeftOver l k → IsBeforeLoad k.activity → ⊥
left_over_is_past l k (goes_to_left_over m w) x = x
left_over_is_past l k (answers w e) x = x
left_over_is_past l k (ends_scan w e f) x = x
left_over_is_past l k (scans_on r w e f o) x = x

after_is_past : (b : Activity) → IsAfterBuilding b → IsBeforeLoad b → ⊥
after_is_past Activity.Idle n x = n
after_is_past (Activity.Enter _) n x = n
after_is_past (Activity.Draw Draw.Clock) n x = n
after_is_past _ n x = x

-- an event leads there from such an activity, or where a call is over or begins anew
pub before_from : (z : Sizes) (v : Words) (s : ℕ) (choice : Choice) (l : Local) (a : Activity) (k : Local) → Arrow z v s choice l a k → IsBeforeLoad k.activity → IsBeforeLoad a ⊎ IsTurning a
before_from z v s choice l a k (builds b next y t) x = absurd (after_is_past next.activity (built_next z v choice l b next t) x)
before_from z v s choice l a k (begins call e b) x = inl tt
before_from z v s choice l a k (enters_scan e) x = inl tt
before_from z v s choice l a k enters_again x = inl tt
before_from z v s choice l a k retries x = inr tt
before_from z v s choice l a k (leaves answer) x = inr tt
before_from z v s choice l a k (sees_stamped j c version next e n) x = absurd (look_is_past z _ next n x)
before_from z v s choice l a k (sees_neither j next e n) x = absurd (look_is_past z _ next n x)
before_from z v s choice l a k (is_gone_by next e n) x = absurd (look_is_past z _ next n x)
before_from z v s choice l a k (helps next e n) x = absurd (look_is_past z _ next n x)
before_from z v s choice l a k (finds_stamped c version next e n) x = absurd (look_is_past z _ next n x)
before_from z v s choice l a k (finds_other next e n) x = absurd (look_is_past z _ next n x)
before_from z v s choice l a k (first_ends next e n) x = absurd (left_over_is_past _ next n x)
before_from z v s choice l a k (list_ends next e n) x = absurd (left_over_is_past _ next n x)
before_from z v s choice l a k (key_above next e n) x = absurd (left_over_is_past _ next n x)
before_from z v s choice l a k (left_over_gone_by next e n) x = absurd (left_over_is_past _ next n x)
before_from z v s choice l a k (gathers_left_over next n) x = absurd (left_over_is_past _ next n x)
before_from z v s choice l a k (remembers_last i c version next e o n) x = absurd (frozen_leads (λ b. IsBeforeLoad b → ⊥) (λ y. y) (λ y. y) _ next n x)
before_from z v s choice l a k (sees_frozen_last i next e o n) x = absurd (frozen_leads (λ b. IsBeforeLoad b → ⊥) (λ y. y) (λ y. y) _ next n x)
before_from z v s choice l a k (freezes_last i next e o n) x = absurd (frozen_leads (λ b. IsBeforeLoad b → ⊥) (λ y. y) (λ y. y) _ next n x)
before_from z v s choice l a k (takes_no_more next e none n) x = absurd (gathered_leads (λ b. IsBeforeLoad b → ⊥) (λ y. y) (λ y. y) z _ next n x)
before_from z v s choice l a k (keeps_no_more next none n) x = absurd (gathered_leads (λ b. IsBeforeLoad b → ⊥) (λ y. y) (λ y. y) z _ next n x)
before_from z v s choice l a k (marks_led count next d n) x = absurd (counted_leads (λ b. IsBeforeLoad b → ⊥) (λ y. y) (λ y. y) _ _ next n x)
before_from z v s choice l a k (decides count m next e n) x = absurd (counted_leads (λ b. IsBeforeLoad b → ⊥) (λ y. y) (λ y. y) _ _ next n x)
before_from z v s choice l a k (asks_of_pin next o n) x = inl tt
before_from z v s choice l a k (looks_at_pin i next n) x = absurd (pin_look_is (λ b. IsBeforeLoad b → ⊥) (λ j y. y) (λ y. y) n x)
before_from z v s choice l a k _ x = absurd x

-- a scan that goes on does not begin anew
pub scan_turns_not : (a : Activity) (l : Local) → IsKind a l → is_scan l.call ≡ true → IsUnderway a → IsTurning a → ⊥
scan_turns_not (Activity.Leave answer) l k e u t = u
scan_turns_not Activity.Retry l k e u t = put_scans_not l.call k e
scan_turns_not _ l k e u t = t

-- Help.

look_helps_not : (z : Sizes) (j t : ℕ) (next : Activity) → NextLook z j next → HelpsScan t next → ⊥
look_helps_not z j t next (looks w) x = x
look_helps_not z j t next (lists w) x = x

left_over_helps_not : (l k : Local) (t : ℕ) → NextLeftOver l k → HelpsScan t k.activity → ⊥
left_over_helps_not l k t (goes_to_left_over m w) x = x
left_over_helps_not l k t (answers w e) x = x
left_over_helps_not l k t (ends_scan w e f) x = x
left_over_helps_not l k t (scans_on r w e f o) x = x

-- a seat that helps a scan did so before, or has just found that it waits
pub help_from : (z : Sizes) (v : Words) (s : ℕ) (choice : Choice) (l : Local) (a : Activity) (k : Local) (t : ℕ) → Arrow z v s choice l a k → HelpsScan t k.activity → HelpsScan t a ⊎ ((c : ℕ) × (scan_of (v (name.Scan t)) ≡ Some (Waiting c)))
help_from z v s choice l a k t (builds b next y u) x = after_helps t next.activity (built_next z v choice l b next u) x
help_from z v s choice l a k t (helps_scan j c e) x = inr (c, subst (λ q. scan_of (v (name.Scan q)) ≡ Some (Waiting c)) (sym x) e)
help_from z v s choice l a k t (draws_for j) x = inl x
help_from z v s choice l a k t (sees_stamped j c version next e n) x = absurd (look_helps_not z _ t next n x)
help_from z v s choice l a k t (sees_neither j next e n) x = absurd (look_helps_not z _ t next n x)
help_from z v s choice l a k t (is_gone_by next e n) x = absurd (look_helps_not z _ t next n x)
help_from z v s choice l a k t (helps next e n) x = absurd (look_helps_not z _ t next n x)
help_from z v s choice l a k t (finds_stamped c version next e n) x = absurd (look_helps_not z _ t next n x)
help_from z v s choice l a k t (finds_other next e n) x = absurd (look_helps_not z _ t next n x)
help_from z v s choice l a k t (first_ends next e n) x = absurd (left_over_helps_not _ next t n x)
help_from z v s choice l a k t (list_ends next e n) x = absurd (left_over_helps_not _ next t n x)
help_from z v s choice l a k t (key_above next e n) x = absurd (left_over_helps_not _ next t n x)
help_from z v s choice l a k t (left_over_gone_by next e n) x = absurd (left_over_helps_not _ next t n x)
help_from z v s choice l a k t (gathers_left_over next n) x = absurd (left_over_helps_not _ next t n x)
help_from z v s choice l a k t (remembers_last i c version next e o n) x = absurd (frozen_leads (λ b. HelpsScan t b → ⊥) (λ y. y) (λ y. y) _ next n x)
help_from z v s choice l a k t (sees_frozen_last i next e o n) x = absurd (frozen_leads (λ b. HelpsScan t b → ⊥) (λ y. y) (λ y. y) _ next n x)
help_from z v s choice l a k t (freezes_last i next e o n) x = absurd (frozen_leads (λ b. HelpsScan t b → ⊥) (λ y. y) (λ y. y) _ next n x)
help_from z v s choice l a k t (takes_no_more next e none n) x = absurd (gathered_leads (λ b. HelpsScan t b → ⊥) (λ y. y) (λ y. y) z _ next n x)
help_from z v s choice l a k t (keeps_no_more next none n) x = absurd (gathered_leads (λ b. HelpsScan t b → ⊥) (λ y. y) (λ y. y) z _ next n x)
help_from z v s choice l a k t (marks_led count next d n) x = absurd (counted_leads (λ b. HelpsScan t b → ⊥) (λ y. y) (λ y. y) _ _ next n x)
help_from z v s choice l a k t (decides count m next e n) x = absurd (counted_leads (λ b. HelpsScan t b → ⊥) (λ y. y) (λ y. y) _ _ next n x)
help_from z v s choice l a k t (asks_of_pin next o n) x = absurd (of_pin_is (λ b. HelpsScan t b → ⊥) (λ y. y) (λ y. y) (λ y. y) (λ y. y) (λ y. y) (λ y. y) n x)
help_from z v s choice l a k t (looks_at_pin i next n) x = absurd (pin_look_is (λ b. HelpsScan t b → ⊥) (λ j y. y) (λ y. y) n x)
help_from z v s choice l a k t _ x = absurd x

-- Refusals.

-- the seat is about to leave as no version or no number is left
abbrev pub IsRefused : Activity → Type 0
IsRefused (Activity.Leave Spent) = Unit {0}
IsRefused _ = ⊥

look_refuses_not : (z : Sizes) (j : ℕ) (next : Activity) → NextLook z j next → IsRefused next → ⊥
look_refuses_not z j next (looks w) x = x
look_refuses_not z j next (lists w) x = x

left_over_refuses_not : (l k : Local) → NextLeftOver l k → IsRefused k.activity → is_scan k.call ≡ true → ⊥
left_over_refuses_not l k (goes_to_left_over m w) x e = x
left_over_refuses_not l k (answers w n) x e = true_false e n
left_over_refuses_not l k (ends_scan w n f) x e = x
left_over_refuses_not l k (scans_on r w n f o) x e = x

after_refuses_not : (b : Activity) → IsAfterBuilding b → IsRefused b → ⊥
after_refuses_not (Activity.Leave Spent) n x = n
after_refuses_not _ n x = x

-- a scan that is over is not refused
over_refuses_not : (answer : Answer) (choice : Choice) → IsPairs answer → IsRefused (Activity.Leave (answer_or_stopped answer choice)) → ⊥
over_refuses_not Pairs (Begin call) p x = x
over_refuses_not Pairs Go p x = x
over_refuses_not Pairs (Guess r) p x = x
over_refuses_not Pairs Stop p x = x
over_refuses_not Done choice p x = p
over_refuses_not (Value value) choice p x = p
over_refuses_not Absent choice p x = p
over_refuses_not NoRows choice p x = p
over_refuses_not Spent choice p x = p
over_refuses_not Stopped choice p x = p
over_refuses_not Held choice p x = p
over_refuses_not NotPinned choice p x = p

-- a scan is refused where it loads the clock, and finds it at its bound
pub refused_from : (z : Sizes) (v : Words) (s : ℕ) (choice : Choice) (l : Local) (a : Activity) (k : Local) → Arrow z v s choice l a k → IsKind a l → IsRefused k.activity → is_scan k.call ≡ true → (a ≡ Activity.Draw Draw.Clock) × (SPENT ≤ v name.Clock)
refused_from z v s choice l a k (builds b next y t) i x e = absurd (after_refuses_not next.activity (built_next z v choice l b next t) x)
refused_from z v s choice l a k (is_spent w) i x e = (refl, w)
refused_from z v s choice l a k (clock_is_spent w n) i x e = put_scans_not l.call i e
refused_from z v s choice l a k (epoch_is_spent w n) i x e = put_scans_not l.call i e
refused_from z v s choice l a k (clears_scan answer) i x e = absurd (over_refuses_not answer choice i.1 x)
refused_from z v s choice l a k (sees_stamped j c version next f n) i x e = absurd (look_refuses_not z _ next n x)
refused_from z v s choice l a k (sees_neither j next f n) i x e = absurd (look_refuses_not z _ next n x)
refused_from z v s choice l a k (is_gone_by next f n) i x e = absurd (look_refuses_not z _ next n x)
refused_from z v s choice l a k (helps next f n) i x e = absurd (look_refuses_not z _ next n x)
refused_from z v s choice l a k (finds_stamped c version next f n) i x e = absurd (look_refuses_not z _ next n x)
refused_from z v s choice l a k (finds_other next f n) i x e = absurd (look_refuses_not z _ next n x)
refused_from z v s choice l a k (first_ends next f n) i x e = absurd (left_over_refuses_not _ next n x e)
refused_from z v s choice l a k (list_ends next f n) i x e = absurd (left_over_refuses_not _ next n x e)
refused_from z v s choice l a k (key_above next f n) i x e = absurd (left_over_refuses_not _ next n x e)
refused_from z v s choice l a k (left_over_gone_by next f n) i x e = absurd (left_over_refuses_not _ next n x e)
refused_from z v s choice l a k (gathers_left_over next n) i x e = absurd (left_over_refuses_not _ next n x e)
refused_from z v s choice l a k (remembers_last j c version next f o n) i x e = absurd (frozen_leads (λ b. IsRefused b → ⊥) (λ y. y) (λ y. y) _ next n x)
refused_from z v s choice l a k (sees_frozen_last j next f o n) i x e = absurd (frozen_leads (λ b. IsRefused b → ⊥) (λ y. y) (λ y. y) _ next n x)
refused_from z v s choice l a k (freezes_last j next f o n) i x e = absurd (frozen_leads (λ b. IsRefused b → ⊥) (λ y. y) (λ y. y) _ next n x)
refused_from z v s choice l a k (takes_no_more next f none n) i x e = absurd (gathered_leads (λ b. IsRefused b → ⊥) (λ y. y) (λ y. y) z _ next n x)
refused_from z v s choice l a k (keeps_no_more next none n) i x e = absurd (gathered_leads (λ b. IsRefused b → ⊥) (λ y. y) (λ y. y) z _ next n x)
refused_from z v s choice l a k (marks_led count next d n) i x e = absurd (counted_leads (λ b. IsRefused b → ⊥) (λ y. y) (λ y. y) _ _ next n x)
refused_from z v s choice l a k (decides count m next f n) i x e = absurd (counted_leads (λ b. IsRefused b → ⊥) (λ y. y) (λ y. y) _ _ next n x)
refused_from z v s choice l a k (asks_of_pin next o n) i x e = absurd (of_pin_is (λ b. IsRefused b → ⊥) (λ y. y) (λ y. y) (λ y. y) (λ y. y) (λ y. y) (λ y. y) n x)
refused_from z v s choice l a k (looks_at_pin j next n) i x e = absurd (pin_look_is (λ b. IsRefused b → ⊥) (λ q y. y) (λ y. y) n x)
refused_from z v s choice l a k _ i x e = absurd x
