-- Every event keeps it that a seat which gathers remembers no cell of a row behind the one at hand.
use Rattle.std.proofs.Common.{ℕ, ◌≡◌, ◌≢◌, ◌≤◌, All, List, [], ◌∷◌, Option, Some, None, arith, refl, subst}
use Rattle.std.proofs.lemmas.Bool.Decides.{nat_tests}
use Rattle.std.proofs.lemmas.List.Elements.{All-cons, All-nil}
use Rattle.kw_world.specs.declared.activity.Activity.{Activity}
use Rattle.kw_world.specs.declared.activity.rebalance.Rebalance.TheVariants as Rebalance
use Rattle.kw_world.specs.declared.event.Choice.{Choice}
use Rattle.kw_world.specs.declared.local.Local.{Local}
use Rattle.kw_world.specs.declared.marks.Mark.{Mark}
use Rattle.kw_world.specs.declared.rebalance.Rebalancing.{Rebalancing}
use Rattle.kw_world.specs.GroupPlaces.{base, place_in_group}
use Rattle.kw_world.specs.FreezeTransitions.{needing}
use Rattle.kw_world.specs.Marks.{least_mark, lesser_of}
use Rattle.kw_world.specs.Sizes.{Sizes}
use Rattle.kw_world.specs.Step.{word}
use Rattle.kw_world.specs.TakeTransitions.{to_take}
use Rattle.kw_core.specs.Run.{Run}
use Rattle.kw_core.specs.Stages.{IsBalancing}
use Rattle.kw_core.specs.Words.{Words}
use Rattle.kw_core.proofs.Arrows.{Arrow, NextLook, looks, lists, NextLeftOver, goes_to_left_over, answers, ends_scan, scans_on, sees_stamped, sees_neither, is_gone_by, helps, finds_stamped, finds_other, list_ends, key_above, left_over_gone_by, gathers_left_over, takes_no_more, keeps_no_more, remembers_last, sees_frozen_last, freezes_last, builds, first_ends, decides, marks_led, sees_quiet_last, sees_drawn_last, settles_last, finds_drawn_last, finds_no_scan_last, take_leads, takes_left, takes_key, takes_version, keeps_taken, takes_left_key, keeps_left, asks_of_pin, looks_at_pin}
use Rattle.kw_core.proofs.BuiltNext.{IsAfterBuilding, built_next}
use Rattle.kw_core.proofs.Grouping.{IsNoneLeft, NextCounted, claims_row, goes_alone, NextFrozen, freezes_ahead, froze_all, NextGathered, gathered_all, gathers_ahead}
use Rattle.kw_core.proofs.Happens.{Happens}
use Rattle.kw_core.proofs.InRange.{unmarked_in_range}
use Rattle.kw_shape.proofs.Hands.{first_base, hand_first, same_hand}
use Rattle.kw_shape.proofs.LinkedRows.{balance_at}
use Rattle.kw_shape.specs.Hands.{Hand, HasHand}
use Rattle.kw_shape.specs.Keyed.{IsGatheringRow, IsRest}
use Rattle.kw_shape.specs.Shape.{Shape}
use Rattle.kw_core.proofs.Pinning.{NextOfPin, pins, NextPinLook, sees_pin, sees_pin_last, sees_no_pin, sees_no_pin_last}

-- a place that the least remembered one is not below, none is below
lesser_least : (k : ℕ) (m : Mark) (o : Option Mark) → k ≤ (lesser_of m o).cell → k ≤ m.cell
lesser_least k m None a = a
lesser_least k m (Some n) a = grind (arith, nat_tests)

lesser_rest : (k : ℕ) (m : Mark) (o : Option Mark) (n : Mark) → o ≡ Some n → k ≤ (lesser_of m o).cell → k ≤ n.cell
lesser_rest k m o n e a = grind (arith, nat_tests)

all_from_least : (k : ℕ) (ms : List Mark) → ((m : Mark) → least_mark ms ≡ Some m → k ≤ m.cell) → All (λ m. k ≤ m.cell) ms
all_from_least k [] f = All-nil (λ m. k ≤ m.cell)
all_from_least k (m ∷ ms) f =
    let a : k ≤ (lesser_of m (least_mark ms)).cell = f (lesser_of m (least_mark ms)) refl in
    All-cons (λ m. k ≤ m.cell) m ms (lesser_least k m (least_mark ms) a) (all_from_least k ms (λ n e. lesser_rest k m (least_mark ms) n e a))

-- the base of places is not behind the first row
base_few : (z : Sizes) (b : Rebalancing) → base z b ≤ z.cells
base_few z b = grind (arith, nat_tests)

-- each remembered place is from this one on
abbrev AreFrom : ℕ → List Mark → Type 0
AreFrom k ms = All (λ m. k ≤ m.cell) ms

-- A seat does not gather.

look_rest : (z : Sizes) (j : ℕ) (next : Activity) → NextLook z j next → IsGatheringRow next → ⊥
look_rest z j next (looks o) x = x
look_rest z j next (lists o) x = x

cell_rest : (l next : Local) → NextLeftOver l next → IsGatheringRow next.activity → ⊥
cell_rest l next (goes_to_left_over m o) x = x
cell_rest l next (answers o n) x = x
cell_rest l next (ends_scan o y n) x = x
cell_rest l next (scans_on q o y n w) x = x

frozen_rest : (l k : Local) → NextFrozen l k → IsGatheringRow k.activity → ⊥
frozen_rest l k (freezes_ahead q e) x = x
frozen_rest l k (froze_all e) x = x

counted_rest : (count : ℕ) (l k : Local) → NextCounted count l k → IsGatheringRow k.activity → ⊥
counted_rest count l k (claims_row q m e) x = x
counted_rest count l k (goes_alone d) x = x

of_pin_rest : (l k : Local) → NextOfPin l k → IsGatheringRow k.activity → ⊥
of_pin_rest l k (pins e f) x = x
of_pin_rest l k _ x = x

built_rest : (a : Activity) → IsAfterBuilding a → IsGatheringRow a → ⊥
built_rest (Activity.Rebalance (Rebalance.Gather _)) o x = o
built_rest _ o x = x

-- one that does has a row at hand
gathering_hand : (a : Activity) → IsGatheringRow a → HasHand a
gathering_hand (Activity.Rebalance (Rebalance.Gather _)) x = tt
gathering_hand _ x = absurd x

module _ (z : Sizes) where
  -- the row at hand is gathered: what is remembered is of the next one
  row_rest : (l k : Local) → NextGathered z l k → Hand l → l.rebalance.second ≢ Some l.row → IsNoneLeft z l → IsGatheringRow k.activity → AreFrom (base z k.rebalance) k.rebalance.marks
  row_rest l k (gathers_ahead r e) hand apart none x = all_from_least (base z k.rebalance) l.rebalance.marks (λ m f. omega (arith, none m f, base_few z k.rebalance, first_base z l (hand_first l hand r e) apart))
  row_rest l k (gathered_all e) hand apart none x = absurd x

  -- the first row is at hand: no place is before those of it
  first_rest : (l : Local) (ms : List Mark) → l.rebalance.hand ≡ l.row → l.rebalance.second ≢ Some l.row → AreFrom (base z l.rebalance) ms
  first_rest l ms h d = all_from_least (base z l.rebalance) ms (λ m f. omega (arith, first_base z l h d))

  -- the pins are looked at: the next one is, or the first row is at hand
  pin_rest : (i w : ℕ) (l k : Local) → NextPinLook z i w l k → l.rebalance.second ≢ Some l.row → IsGatheringRow k.activity → AreFrom (base z k.rebalance) k.rebalance.marks
  pin_rest i w l k (sees_pin version e o) d x = absurd x
  pin_rest i w l k (sees_pin_last version e o) d x = first_rest (to_take (needing version l)).local _ refl d
  pin_rest i w l k (sees_no_pin n o) d x = absurd x
  pin_rest i w l k (sees_no_pin_last n o) d x = first_rest (to_take l).local _ refl d

  -- by the arrow that the seat takes
  pub rest_by : (v : Words) (s : ℕ) (choice : Choice) (l : Local) (a : Activity) (k : Local) → Arrow z v s choice l a k → (IsGatheringRow a → Hand l) → (IsBalancing a → l.rebalance.second ≢ Some l.row) → IsRest z a l → IsRest z k.activity k
  rest_by v s choice l a k (sees_quiet_last j e o) hand apart was x = first_rest (to_take l).local _ refl (apart tt)
  rest_by v s choice l a k (sees_drawn_last j version e o) hand apart was x = first_rest (to_take (needing version l)).local _ refl (apart tt)
  rest_by v s choice l a k (settles_last j e o) hand apart was x = first_rest (to_take (needing l.rebalance.drawn l)).local _ refl (apart tt)
  rest_by v s choice l a k (finds_drawn_last j version e o) hand apart was x = first_rest (to_take (needing version l)).local _ refl (apart tt)
  rest_by v s choice l a k (finds_no_scan_last j e o) hand apart was x = first_rest (to_take l).local _ refl (apart tt)
  rest_by v s choice l a k (take_leads c e) hand apart was x = unmarked_in_range (λ m. base z l.rebalance ≤ m.cell) (place_in_group z l.rebalance c) l.rebalance.marks (was tt)
  rest_by v s choice l a k (takes_left m e n o) hand apart was x = unmarked_in_range (λ m. base z l.rebalance ≤ m.cell) m.cell l.rebalance.marks (was tt)
  rest_by v s choice l a k takes_key hand apart was x = was tt
  rest_by v s choice l a k takes_version hand apart was x = was tt
  rest_by v s choice l a k keeps_taken hand apart was x = was tt
  rest_by v s choice l a k takes_left_key hand apart was x = was tt
  rest_by v s choice l a k (keeps_left m n o) hand apart was x = unmarked_in_range (λ m. base z l.rebalance ≤ m.cell) m.cell l.rebalance.marks (was tt)
  rest_by v s choice l a k (takes_no_more next e f n) hand apart was x = row_rest _ next n (hand tt) (apart tt) f x
  rest_by v s choice l a k (keeps_no_more next f n) hand apart was x = row_rest _ next n (same_hand l _ refl refl refl refl (hand tt)) (apart tt) f x
  rest_by v s choice l a k (builds b next y t) hand apart was x = absurd (built_rest next.activity (built_next z v choice l b next t) x)
  rest_by v s choice l a k (sees_stamped j c version next y n) hand apart was x = absurd (look_rest z _ next n x)
  rest_by v s choice l a k (sees_neither j next y n) hand apart was x = absurd (look_rest z _ next n x)
  rest_by v s choice l a k (is_gone_by next y n) hand apart was x = absurd (look_rest z _ next n x)
  rest_by v s choice l a k (helps next y n) hand apart was x = absurd (look_rest z _ next n x)
  rest_by v s choice l a k (finds_stamped c version next y n) hand apart was x = absurd (look_rest z _ next n x)
  rest_by v s choice l a k (finds_other next y n) hand apart was x = absurd (look_rest z _ next n x)
  rest_by v s choice l a k (first_ends next e n) hand apart was x = absurd (cell_rest _ next n x)
  rest_by v s choice l a k (list_ends next e n) hand apart was x = absurd (cell_rest _ next n x)
  rest_by v s choice l a k (key_above next e n) hand apart was x = absurd (cell_rest _ next n x)
  rest_by v s choice l a k (left_over_gone_by next e n) hand apart was x = absurd (cell_rest _ next n x)
  rest_by v s choice l a k (gathers_left_over next n) hand apart was x = absurd (cell_rest _ next n x)
  rest_by v s choice l a k (remembers_last j c version next e o n) hand apart was x = absurd (frozen_rest _ next n x)
  rest_by v s choice l a k (sees_frozen_last j next e o n) hand apart was x = absurd (frozen_rest _ next n x)
  rest_by v s choice l a k (freezes_last j next e o n) hand apart was x = absurd (frozen_rest _ next n x)
  rest_by v s choice l a k (marks_led count next d n) hand apart was x = absurd (counted_rest _ _ next n x)
  rest_by v s choice l a k (decides count m next e n) hand apart was x = absurd (counted_rest _ _ next n x)
  rest_by v s choice l a k (asks_of_pin next c n) hand apart was x = absurd (of_pin_rest _ next n x)
  rest_by v s choice l a k (looks_at_pin j next n) hand apart was x = pin_rest j _ l next n (apart tt) x
  rest_by v s choice l a k _ hand apart was x = absurd x

module _ {z : Sizes} {r r' : Run} {s : ℕ} {choice : Choice} {l l' : Local} where
  -- so the acting seat
  pub rest_own : (a : Activity) → Happens z r r' s choice l l' a → Shape z r → IsRest z l'.activity l'
  rest_own a h i =
      let b = balance_at a h i in
      rest_by z (word z r.world) s choice l a l' h.arrow (λ x. b.hands (gathering_hand a x)) b.apart (subst (λ c. IsRest z c l) h.activity (i.rest s l h.knows))
