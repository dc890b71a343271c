-- What a pass's seat knows before a call has read a row: nothing where it is idle, and no pairs.
use Rattle.std.proofs.Common.{ℕ, ◌≡◌, true, Some, None, List, ◌<◌, refl, sym, ◌∙◌, ap, subst, slice_get, arith}
use Rattle.kw_world.specs.declared.activity.Activity.{Activity}
use Rattle.kw_world.specs.declared.event.Choice.{Choice}
use Rattle.kw_world.specs.declared.event.Event.{Event}
use Rattle.kw_world.specs.declared.local.Local.{Local}
use Rattle.kw_world.specs.declared.opening.Opening.{Opening}
use Rattle.kw_world.specs.Local.{resting}
use Rattle.kw_world.specs.Opening.{IsOpening}
use Rattle.kw_world.specs.Sizes.{Sizes, product}
use Rattle.kw_world.specs.WorldView.{WorldView}
use Rattle.kw_core.specs.Events.{is_valid, may_step}
use Rattle.kw_reads.specs.Inv.{Inv}
use Rattle.kw_core.specs.Run.{Run, goes_on, history, start}
use Rattle.kw_shape.specs.Shape.{Words}
use Rattle.kw_core.proofs.Arrows.{Arrow, builds, NextLook, NextLeftOver, goes_to_left_over, answers, ends_scan, scans_on, looks, lists, leaves, sees_stamped, sees_neither, is_gone_by, helps, finds_stamped, finds_other, list_ends, key_above, left_over_gone_by, gathers_left_over, first_ends, asks_of_pin, looks_at_pin}
use Rattle.kw_core.proofs.Arrows.{decides, freezes_last, keeps_no_more, marks_led, remembers_last, sees_frozen_last, takes_no_more}
use Rattle.kw_core.proofs.BuiltNext.{IsAfterBuilding, built_next}
use Rattle.kw_core.proofs.Events.{may_come}
use Rattle.kw_core.proofs.Happens.{happens, each_seat}
use Rattle.kw_reads.proofs.Keeps.{inv_goes_on}
use Rattle.kw_shape.proofs.ShapeOpens.{all_resting}
use Rattle.kw_reads.proofs.Opens.{inv_start}
use Rattle.kw_core.proofs.Runs.{goes_on-moved, history-world, holds_of_history}
use Rattle.kw_core.proofs.Pinning.{NextOfPin, NextPinLook, pins, is_held, reads_no_pin, reads_no_key, reads_at_pin, unpins, unpins_none, sees_pin, sees_pin_last, sees_no_pin, sees_no_pin_last}
use Rattle.kw_shape.proofs.Worlds.{world-local, rests_unpinned}
use Rattle.kw_core.proofs.Grouping.{counted_leads, frozen_leads, gathered_leads}
use Rattle.kw_table.specs.declared.pass.Pass.{Pass}
use Rattle.kw_table.specs.Passes.{view}
use Rattle.kw_table.specs.Views.{local_in}

-- an idle seat knows how many calls it has begun, and nothing else
abbrev pub Rests : Activity → Local → Type 0
Rests Activity.Idle l = l ≡ resting l.number
Rests _ l = Unit {0}

look_rests : (z : Sizes) (j : ℕ) (next : Activity) (l : Local) → NextLook z j next → Rests next l
look_rests z j next l (looks w) = tt
look_rests z j next l (lists w) = tt

left_over_rests : (l : Local) (k : Local) → NextLeftOver l k → Rests k.activity k
left_over_rests l k (goes_to_left_over m e) = tt
left_over_rests l k (answers w e) = tt
left_over_rests l k (ends_scan w e f) = tt
left_over_rests l k (scans_on q w e f g) = tt

-- what follows the building of rows does not end the call
after_rests : (b : Activity) (k : Local) → IsAfterBuilding b → Rests b k
after_rests Activity.Idle k x = absurd x
after_rests _ k x = tt

-- neither does what follows where a call asks of a pin, or a rebalance looks at one
of_pin_rests : (l k : Local) → NextOfPin l k → Rests k.activity k
of_pin_rests l k (pins e f) = tt
of_pin_rests l k (is_held version e f) = tt
of_pin_rests l k (reads_no_pin from upto e f) = tt
of_pin_rests l k (reads_no_key from upto version e f g) = tt
of_pin_rests l k (reads_at_pin from upto version e f g) = tt
of_pin_rests l k (unpins version e f) = tt
of_pin_rests l k (unpins_none e f) = tt

pin_look_rests : (z : Sizes) (i w : ℕ) (l k : Local) → NextPinLook z i w l k → Rests k.activity k
pin_look_rests z i w l k (sees_pin version e o) = tt
pin_look_rests z i w l k (sees_pin_last version e o) = tt
pin_look_rests z i w l k (sees_no_pin e o) = tt
pin_look_rests z i w l k (sees_no_pin_last e o) = tt

-- so it is after every event of a seat that holds no pin
arrow_rests : (z : Sizes) (v : Words) (s : ℕ) (choice : Choice) (l : Local) (a : Activity) (k : Local) → l.pin ≡ None → Arrow z v s choice l a k → Rests k.activity k
arrow_rests z v s choice l a k p (leaves answer) = rests_unpinned l p
arrow_rests z v s choice l a k p (asks_of_pin next o n) = of_pin_rests l next n
arrow_rests z v s choice l a k p (looks_at_pin i next n) = pin_look_rests z i _ l next n
arrow_rests z v s choice l a k p (builds b next y t) = after_rests k.activity k (built_next z v choice l b k t)
arrow_rests z v s choice l a k p (sees_stamped i c version next e n) = look_rests z _ next _ n
arrow_rests z v s choice l a k p (sees_neither i next e n) = look_rests z _ next _ n
arrow_rests z v s choice l a k p (is_gone_by next e n) = look_rests z _ next _ n
arrow_rests z v s choice l a k p (helps next e n) = look_rests z _ next _ n
arrow_rests z v s choice l a k p (finds_stamped c version next e n) = look_rests z _ next _ n
arrow_rests z v s choice l a k p (finds_other next e n) = look_rests z _ next _ n
arrow_rests z v s choice l a k p (first_ends next e n) = left_over_rests _ _ n
arrow_rests z v s choice l a k p (list_ends next e n) = left_over_rests _ _ n
arrow_rests z v s choice l a k p (key_above next e n) = left_over_rests _ _ n
arrow_rests z v s choice l a k p (left_over_gone_by next e n) = left_over_rests _ _ n
arrow_rests z v s choice l a k p (gathers_left_over next n) = left_over_rests _ _ n
arrow_rests z v s choice l a k p (remembers_last i c version next e o n) = frozen_leads (λ b. Rests b next) tt tt _ next n
arrow_rests z v s choice l a k p (sees_frozen_last i next e o n) = frozen_leads (λ b. Rests b next) tt tt _ next n
arrow_rests z v s choice l a k p (freezes_last i next e o n) = frozen_leads (λ b. Rests b next) tt tt _ next n
arrow_rests z v s choice l a k p (takes_no_more next e none n) = gathered_leads (λ b. Rests b next) tt tt z _ next n
arrow_rests z v s choice l a k p (keeps_no_more next none n) = gathered_leads (λ b. Rests b next) tt tt z _ next n
arrow_rests z v s choice l a k p (marks_led count next d n) = counted_leads (λ b. Rests b next) tt tt _ _ next n
arrow_rests z v s choice l a k p (decides count m next e n) = counted_leads (λ b. Rests b next) tt tt _ _ next n
arrow_rests z v s choice l a k p _ = tt

-- every seat of a run rests where it is idle
pub record AllRest (z : Sizes) (r : Run) : Type 0 where
  pub inv : Inv z r
  pub rest : (t : ℕ) (l : Local) → slice_get r.world.locals t ≡ Some l → Rests l.activity l

rest_goes_on : (z : Sizes) (o : Opening) (r : Run) (e : Event) → may_step o r.world e ≡ true → AllRest z r → AllRest z (goes_on z r e)
rest_goes_on z o r e may i =
    let c = may_come o r.world e may in
    let h = happens z r e c.local i.inv.shape.sane c.begins c.knows c.moves in
    record {
      inv = inv_goes_on z o r e may i.inv;
      rest = subst (λ (x : Run). (t : ℕ) (l : Local) → slice_get x.world.locals t ≡ Some l → Rests l.activity l) (sym (goes_on-moved z r e c.local c.knows c.moves))
          (each_seat h (λ t l. Rests l.activity l) (arrow_rests z _ _ _ _ _ _ (i.inv.shape.no_pin _ c.local c.knows) h.arrow) (λ t k ne g. i.rest t k g));
    }

rest_starts : (z : Sizes) (o : Opening) → IsOpening z o → AllRest z (start z o)
rest_starts z o opens = record {
  inv = inv_start z o opens;
  rest = λ t l g. subst (λ (k : Local). Rests k.activity k) (sym (all_resting o.seats t l g)) refl;
}

-- after every valid list
pub all_rest : (z : Sizes) (o : Opening) → IsOpening z o → (es : List Event) → is_valid z o es ≡ true → AllRest z (history z o es)
all_rest z o opens es ok = holds_of_history z o (AllRest z) (rest_goes_on z o) (rest_starts z o opens) es ok

-- Of a pass.

-- its seat is one of the run's
pub inside : (p : Pass) → (view p).number < (view p).opening.seats
inside p = omega (arith, p.known.seats, p.known.number)

-- what its seat knows stands in the run of what it has seen
pub stands : (p : Pass) → slice_get (history product (view p).opening (view p).seen).world.locals (view p).number ≡ Some (local_in (view p))
stands p =
    ap (λ (w : WorldView). slice_get w.locals (view p).number) (history-world product (view p).opening (view p).seen)
    ∙ world-local product (view p).opening (view p).seen (view p).number (inside p)

-- an idle pass's seat rests
pub idle_rests : (p : Pass) → (local_in (view p)).activity ≡ Activity.Idle → local_in (view p) ≡ resting (local_in (view p)).number
idle_rests p is = subst (λ a. Rests a (local_in (view p))) is ((all_rest product (view p).opening p.known.opens (view p).seen p.known.valid).rest (view p).number (local_in (view p)) (stands p))

-- it holds no pin
pub holds_none : (p : Pass) → (local_in (view p)).pin ≡ None
holds_none p = (all_rest product (view p).opening p.known.opens (view p).seen p.known.valid).inv.shape.no_pin (view p).number (local_in (view p)) (stands p)
