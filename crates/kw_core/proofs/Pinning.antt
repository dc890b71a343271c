-- What follows the event by which a call of a pin goes by what its seat holds, and the one by which
-- a rebalance looks at the pin of a seat.
--
-- There is a type for each of the two, with a constructor for each way that it may go. No seat
-- makes a call of a pin yet (`IsCall`), and no rebalance looks at pins.
use Rattle.std.proofs.Common.{ℕ, ◌≡◌, ◌≢◌, ◌+◌, ◌<◌, ◌≤◌, Option, Some, None, Bool, true, false, nat_lt, arith, refl, sym, ◌∙◌, if◌then◌else◌}
use Rattle.std.proofs.lemmas.Bool.Decides.{nat_tests}
use Rattle.kw_words.specs.declared.scan.ScanWord.{ScanWord}
use Rattle.kw_words.specs.declared.scan.ScanWord.TheVariants as scan
use Rattle.kw_words.specs.Scan.{scan_of}
use Rattle.kw_model.specs.declared.call.Call.{Call}
use Rattle.kw_model.specs.declared.call.Call.TheVariants.{Put, Del, Get, Scan, Pin, ScanAt, Unpin}
use Rattle.kw_world.specs.declared.answer.Answer.TheVariants.{Pairs, Held, NotPinned}
use Rattle.kw_world.specs.declared.activity.Activity.TheVariants as Activity
use Rattle.kw_world.specs.declared.activity.draw.Draw.TheVariants as Draw
use Rattle.kw_world.specs.declared.activity.walk.Walk.TheVariants as Walk
use Rattle.kw_world.specs.declared.activity.rebalance.Rebalance.TheVariants as Rebalance
use Rattle.kw_world.specs.declared.activity.rebalance.freeze.Freeze.TheVariants as Freeze
use Rattle.kw_world.specs.declared.local.Local.{Local}
use Rattle.kw_world.specs.Sizes.{Sizes}
use Rattle.kw_world.specs.Calls.{first_key, is_range_empty}
use Rattle.kw_world.specs.Transition.{Outcome, to, leave}
use Rattle.kw_world.specs.ScanTransitions.{pin_entered, scan_at_entered, unpin_entered, to_start}
use Rattle.kw_world.specs.FreezeTransitions.{needing, pin_seen, to_pin_look}
use Rattle.kw_world.specs.TakeTransitions.{to_take}

-- the call pins the map, reads the map as it was pinned, or takes the pin back
abbrev pub IsOfPin : Option Call → Type 0
IsOfPin (Some (Put key value)) = ⊥
IsOfPin (Some (Del key)) = ⊥
IsOfPin (Some (Get key)) = ⊥
IsOfPin (Some (Scan from upto)) = ⊥
IsOfPin (Some Pin) = Unit {0}
IsOfPin (Some (ScanAt from upto)) = Unit {0}
IsOfPin (Some Unpin) = Unit {0}
IsOfPin None = ⊥

-- what a seat whose call is of a pin knows once it has announced its epoch
pub data NextOfPin (l : Local) : Local → Type 0 where
  pins : l.call ≡ Some Pin → l.pin ≡ None → NextOfPin l (record l { activity = Activity.Draw Draw.Clock })
  is_held : (version : ℕ) → l.call ≡ Some Pin → l.pin ≡ Some version → NextOfPin l (leave Held l).local
  reads_no_pin : (from upto : ℕ) → l.call ≡ Some (ScanAt from upto) → l.pin ≡ None → NextOfPin l (leave NotPinned l).local
  reads_no_key : (from upto version : ℕ) → l.call ≡ Some (ScanAt from upto) → l.pin ≡ Some version → is_range_empty l.call ≡ true → NextOfPin l (leave Pairs (record l { version = version })).local
  reads_at_pin : (from upto version : ℕ) → l.call ≡ Some (ScanAt from upto) → l.pin ≡ Some version → is_range_empty l.call ≡ false → NextOfPin l (record l { version = version; want = first_key l.call; activity = Activity.Walk Walk.Start })
  unpins : (version : ℕ) → l.call ≡ Some Unpin → l.pin ≡ Some version → NextOfPin l (record l { activity = Activity.ClearPin })
  unpins_none : l.call ≡ Some Unpin → l.pin ≡ None → NextOfPin l (leave NotPinned l).local

-- what a seat knows that found this word at the pin of seat i: a pin that stands is needed, and the
-- next pin is looked at, or the row's cells are
pub data NextPinLook (z : Sizes) (i w : ℕ) (l : Local) : Local → Type 0 where
  sees_pin : (version : ℕ) → scan_of w ≡ Some (scan.Drawn version) → i + 1 < z.seats → NextPinLook z i w l (record (needing version l) { activity = Activity.Rebalance (Rebalance.Freeze (Freeze.Pin (i + 1))) })
  sees_pin_last : (version : ℕ) → scan_of w ≡ Some (scan.Drawn version) → z.seats ≤ i + 1 → NextPinLook z i w l (to_take (needing version l)).local
  sees_no_pin : ((version : ℕ) → scan_of w ≢ Some (scan.Drawn version)) → i + 1 < z.seats → NextPinLook z i w l (record l { activity = Activity.Rebalance (Rebalance.Freeze (Freeze.Pin (i + 1))) })
  sees_no_pin_last : ((version : ℕ) → scan_of w ≢ Some (scan.Drawn version)) → z.seats ≤ i + 1 → NextPinLook z i w l (to_take l).local

-- Tests of the table.

below : (x y : ℕ) → nat_lt x y ≡ true → x < y
below x y e = grind (arith, nat_tests)

not_below : (x y : ℕ) → nat_lt x y ≡ false → y ≤ x
not_below x y e = grind (arith, nat_tests)

-- The table goes one of these ways.

-- of a pin
pub next_pin : (l : Local) (p : Option ℕ) → l.call ≡ Some Pin → l.pin ≡ p → NextOfPin l (pin_entered p l).local
next_pin l None e f = pins e f
next_pin l (Some version) e f = is_held version e f

-- of a scan of the map as it was pinned
pub next_scan_at : (l : Local) (from upto : ℕ) (p : Option ℕ) → l.call ≡ Some (ScanAt from upto) → l.pin ≡ p → NextOfPin l (scan_at_entered p l).local
next_scan_at l from upto None e f = reads_no_pin from upto e f
next_scan_at l from upto (Some version) e f = saw (is_range_empty l.call) refl
  where
    saw : (b : Bool) → is_range_empty l.call ≡ b → NextOfPin l (let x : Outcome = if b then leave Pairs (record l { version = version }) else to_start (record l { version = version }) in x).local
    saw true h = reads_no_key from upto version e f h
    saw false h = reads_at_pin from upto version e f h

-- of a pin that is taken back
pub next_unpin : (l : Local) (p : Option ℕ) → l.call ≡ Some Unpin → l.pin ≡ p → NextOfPin l (unpin_entered p l).local
next_unpin l None e f = unpins_none e f
next_unpin l (Some version) e f = unpins version e f

-- the next pin, or the row's cells
next_look : (z : Sizes) (j : ℕ) (l : Local) (P : Local → Type 0) → (j < z.seats → P (record l { activity = Activity.Rebalance (Rebalance.Freeze (Freeze.Pin j)) })) → (z.seats ≤ j → P (to_take l).local) → P (to_pin_look z j l).local
next_look z j l P on last = saw (nat_lt j z.seats) refl
  where
    saw : (b : Bool) → nat_lt j z.seats ≡ b → P (let x : Outcome = if b then to (Activity.Rebalance (Rebalance.Freeze (Freeze.Pin j))) l else to_take l in x).local
    saw true e = on (below j z.seats e)
    saw false e = last (not_below j z.seats e)

-- of the word at a pin
pub next_pin_look : (z : Sizes) (i w : ℕ) (l : Local) → NextPinLook z i w l (pin_seen z i (scan_of w) l).local
next_pin_look z i w l = saw (scan_of w) refl
  where
    none : ((version : ℕ) → scan_of w ≢ Some (scan.Drawn version)) → NextPinLook z i w l (to_pin_look z (i + 1) l).local
    none d = next_look z (i + 1) l (NextPinLook z i w l) (sees_no_pin d) (sees_no_pin_last d)

    saw : (x : Option ScanWord) → scan_of w ≡ x → NextPinLook z i w l (pin_seen z i x l).local
    saw (Some scan.Quiet) e = none (λ u q. let y : Some scan.Quiet ≡ Some (scan.Drawn u) = sym e ∙ q in cc)
    saw (Some (scan.Waiting clock)) e = none (λ u q. let y : Some (scan.Waiting clock) ≡ Some (scan.Drawn u) = sym e ∙ q in cc)
    saw (Some (scan.Drawn version)) e = next_look z (i + 1) (needing version l) (NextPinLook z i w l) (sees_pin version e) (sees_pin_last version e)
    saw None e = none (λ u q. let y : None ≡ Some (scan.Drawn u) = sym e ∙ q in cc)
