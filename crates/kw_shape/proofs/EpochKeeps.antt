-- The epoch has room for the numbers that are drawn: each seat that may still draw some asked it,
-- and draws one for each row of its group.
use Rattle.std.proofs.Common.{ℕ, zero, suc, ◌≡◌, ◌+◌, ◌*◌, ◌≤◌, Option, Some, None, List, [], ◌∷◌, arith, refl, ap, length, length-set, slice_get, slice_set}
use Rattle.std.proofs.lemmas.Option.{same_Some}
use Rattle.kw_words.specs.declared.layout.Name.TheVariants as name
use Rattle.kw_words.specs.declared.sizes.TheConstants.{MOST_GROUP, SPENT}
use Rattle.kw_world.specs.declared.activity.Activity.{Activity}
use Rattle.kw_world.specs.declared.activity.rebalance.engage.Engage.TheVariants as Engage
use Rattle.kw_world.specs.declared.activity.rebalance.Rebalance.TheVariants as Rebalance
use Rattle.kw_world.specs.declared.activity.rebalance.replace.Replace.TheVariants as Replace
use Rattle.kw_world.specs.declared.activity.rebalance.seek.Seek.TheVariants as Seek
use Rattle.kw_world.specs.declared.event.Choice.{Choice}
use Rattle.kw_world.specs.declared.local.Local.{Local}
use Rattle.kw_world.specs.declared.rebalance.Afterwards.{Afterwards}
use Rattle.kw_world.specs.Sizes.{Sizes}
use Rattle.kw_world.specs.Step.{word}
use Rattle.kw_core.specs.Run.{Run}
use Rattle.kw_core.specs.Words.{Words}
use Rattle.kw_core.proofs.Arrows.{Arrow, sees_stamped, sees_neither, is_gone_by, helps, finds_stamped, finds_other, list_ends, key_above, left_over_gone_by, gathers_left_over, NextLook, looks, lists, NextLeftOver, goes_to_left_over, answers, ends_scan, scans_on, epoch_is_spent, epoch_serves, builds, ends_at_epoch, first_ends, remembers_last, sees_frozen_last, freezes_last, takes_no_more, keeps_no_more, decides, marks_led, asks_of_pin, looks_at_pin}
use Rattle.kw_core.proofs.Building.{Building, gives_one_back, gives_last_back, draws_number, retires_ahead, retires_row, retires_and_leaves}
use Rattle.kw_core.proofs.Grouping.{NextCounted, claims_row, goes_alone, NextFrozen, NextGathered, freezes_ahead, froze_all, gathered_all, gathers_ahead}
use Rattle.kw_core.proofs.Happens.{Happens}
use Rattle.kw_core.proofs.InfantFrames.{epoch_stays, number_drawn}
use Rattle.kw_core.proofs.NextBuilt.{GivenBack, tries_again, is_refused_rows, moves_left, was_done, was_served}
use Rattle.kw_shape.specs.Epochs.{numberers, numbering, one_ahead}
use Rattle.kw_shape.specs.Shape.{Shape}
use Rattle.kw_core.proofs.Pinning.{NextOfPin, pins, NextPinLook, sees_pin}

-- the seats that may still draw a number, with one seat's local set
numberers-set : (ls : List Local) (s : ℕ) (l l' : Local) → slice_get ls s ≡ Some l → numberers (slice_set ls s l') + numbering l.activity l ≡ numberers ls + numbering l'.activity l'
numberers-set [] s l l' e = let x : None ≡ Some l = e in absurd (cc)
numberers-set (k ∷ ls) zero l l' e = let x = ap (λ (y : Local). numbering y.activity y) (same_Some k l e) in omega (arith, x)
numberers-set (k ∷ ls) (suc s) l l' e = omega (arith, numberers-set ls s l l' e)

-- one that has still rows to number has at most two
one_at_most : (o : Option ℕ) → one_ahead o ≤ 1
one_at_most (Some r) = omega arith
one_at_most None = omega arith

numbering_at_most : (a : Activity) (l : Local) → numbering a l ≤ MOST_GROUP
numbering_at_most (Activity.Rebalance (Rebalance.Replace Replace.Number)) l = omega (arith, one_at_most l.rebalance.ahead)
numbering_at_most (Activity.Rebalance (Rebalance.Replace Replace.Retire)) l = omega (arith, one_at_most l.rebalance.ahead)
numbering_at_most (Activity.Rebalance (Rebalance.Engage Engage.Clock)) l = omega arith
numbering_at_most (Activity.Rebalance (Rebalance.Seek Seek.Next)) l = omega arith
numbering_at_most _ l = omega arith

-- all of them draw no more than as many for each seat
numberers_at_most : (ls : List Local) → numberers ls ≤ MOST_GROUP * length ls
numberers_at_most [] = omega arith
numberers_at_most (l ∷ ls) = omega (arith, numbering_at_most l.activity l, numberers_at_most ls)

-- An event after which the seat may draw some is that of a seat that might, or asks the epoch.

look_numbers : (z : Sizes) (j : ℕ) (next : Activity) (k : Local) → NextLook z j next → numbering next k ≡ 0
look_numbers z j next k (looks o) = refl
look_numbers z j next k (lists o) = refl

cell_numbers : (l : Local) (next : Local) → NextLeftOver l next → numbering next.activity next ≡ 0
cell_numbers l k (goes_to_left_over m o) = refl
cell_numbers l k (answers o n) = refl
cell_numbers l k (ends_scan o y n) = refl
cell_numbers l k (scans_on r o y n w) = refl

given_numbers : (a : Afterwards) (l k : Local) → GivenBack l a k → numbering k.activity k ≡ 0
given_numbers a l k (tries_again nd) = refl
given_numbers a l k (was_done dn) = refl
given_numbers a l k (is_refused_rows nd) = refl
given_numbers a l k (was_served dn) = refl
given_numbers a l k moves_left = refl

frozen_numbers : (l k : Local) → NextFrozen l k → numbering k.activity k ≡ MOST_GROUP
frozen_numbers l k (freezes_ahead r e) = refl
frozen_numbers l k (froze_all e) = refl

gathered_numbers : (z : Sizes) (l k : Local) → NextGathered z l k → numbering k.activity k ≡ MOST_GROUP
gathered_numbers z l k (gathers_ahead r e) = refl
gathered_numbers z l k (gathered_all e) = refl

of_pin_numbers : (l k : Local) → NextOfPin l k → numbering k.activity k ≡ 0
of_pin_numbers l k (pins e f) = refl
of_pin_numbers l k _ = refl

pin_numbers : (z : Sizes) (i w : ℕ) (l k : Local) → NextPinLook z i w l k → numbering k.activity k ≡ MOST_GROUP
pin_numbers z i w l k (sees_pin version e o) = refl
pin_numbers z i w l k _ = refl

built_numbers : (z : Sizes) (v : Words) (choice : Choice) (l : Local) (a : Activity) (k : Local) → Building z v choice l a k → numbering k.activity k ≤ numbering a l
built_numbers z v choice l a k (gives_one_back o) = omega arith
built_numbers z v choice l a k (gives_last_back next o n) = omega (arith, given_numbers _ l next n)
built_numbers z v choice l a k draws_number = omega arith
built_numbers z v choice l a k (retires_ahead r e) = omega (arith, ap one_ahead e)
built_numbers z v choice l a k (retires_row n nd) = omega arith
built_numbers z v choice l a k (retires_and_leaves n dn) = omega arith
built_numbers z v choice l a k _ = numbering_at_most k.activity k

-- a seat that knows how many rows go may draw a number for each
counted_numbers : (count : ℕ) (l k : Local) → NextCounted count l k → numbering k.activity k ≡ MOST_GROUP
counted_numbers count l k (claims_row q m e) = refl
counted_numbers count l k (goes_alone d) = refl

abbrev AsksEpoch : Activity → Type 0
AsksEpoch (Activity.Rebalance (Rebalance.Engage Engage.Epoch)) = Unit {0}
AsksEpoch _ = ⊥

numbers_next : (z : Sizes) (v : Words) (s : ℕ) (choice : Choice) (l : Local) (a : Activity) (l' : Local) → Arrow z v s choice l a l' → (AsksEpoch a → ⊥) → numbering l'.activity l' ≤ numbering a l
numbers_next z v s choice l a l' (builds b next y t) n = built_numbers z v choice l b next t
numbers_next z v s choice l a l' (epoch_serves e) n = absurd (n tt)
numbers_next z v s choice l a l' (sees_stamped j c version next y m) n = omega (arith, look_numbers z _ next l' m)
numbers_next z v s choice l a l' (sees_neither j next y m) n = omega (arith, look_numbers z _ next l' m)
numbers_next z v s choice l a l' (is_gone_by next y m) n = omega (arith, look_numbers z _ next l' m)
numbers_next z v s choice l a l' (helps next y m) n = omega (arith, look_numbers z _ next l' m)
numbers_next z v s choice l a l' (finds_stamped c version next y m) n = omega (arith, look_numbers z _ next l' m)
numbers_next z v s choice l a l' (finds_other next y m) n = omega (arith, look_numbers z _ next l' m)
numbers_next z v s choice l a l' (first_ends next e m) n = omega (arith, cell_numbers _ next m)
numbers_next z v s choice l a l' (list_ends next e m) n = omega (arith, cell_numbers _ next m)
numbers_next z v s choice l a l' (key_above next y m) n = omega (arith, cell_numbers _ next m)
numbers_next z v s choice l a l' (left_over_gone_by next y m) n = omega (arith, cell_numbers _ next m)
numbers_next z v s choice l a l' (gathers_left_over next m) n = omega (arith, cell_numbers _ next m)
numbers_next z v s choice l a l' (remembers_last j c version next e o m) n = omega (arith, frozen_numbers _ next m)
numbers_next z v s choice l a l' (sees_frozen_last j next e o m) n = omega (arith, frozen_numbers _ next m)
numbers_next z v s choice l a l' (freezes_last j next e o m) n = omega (arith, frozen_numbers _ next m)
numbers_next z v s choice l a l' (takes_no_more next e f m) n = omega (arith, gathered_numbers z _ next m)
numbers_next z v s choice l a l' (keeps_no_more next f m) n = omega (arith, gathered_numbers z _ next m)
numbers_next z v s choice l a l' (marks_led count next d m) n = omega (arith, counted_numbers _ _ next m)
numbers_next z v s choice l a l' (decides count c next e m) n = omega (arith, counted_numbers _ _ next m)
numbers_next z v s choice l a l' (asks_of_pin next c m) n = omega (arith, of_pin_numbers _ next m)
numbers_next z v s choice l a l' (looks_at_pin j next m) n = omega (arith, pin_numbers z _ _ _ next m)
numbers_next z v s choice l a l' _ n = omega arith

-- a seat that draws a number may draw one less after it
epoch_built : (z : Sizes) (r r' : Run) (s : ℕ) (choice : Choice) (l : Local) (a : Activity) (l' : Local) → Building z (word z r.world) choice l a l' → Happens z r r' s choice l l' a → Shape z r → word z r'.world name.Epoch + numberers r'.world.locals ≤ SPENT + MOST_GROUP * z.seats
epoch_built z r r' s choice l a l' draws_number h i = omega (arith, i.epoch, number_drawn h, ap (λ b. numbering b l) h.activity, numberers-set r.world.locals s l l' h.knows, ap numberers h.locals)
epoch_built z r r' s choice l a l' t h i = omega (arith, i.epoch, epoch_stays _ h (λ c. c), built_numbers z (word z r.world) choice l _ l' t, ap (λ b. numbering b l) h.activity, numberers-set r.world.locals s l l' h.knows, ap numberers h.locals)

-- the epoch has room for the numbers that are drawn
pub epoch_keeps : (z : Sizes) (r r' : Run) (s : ℕ) (choice : Choice) (l : Local) (a : Activity) (l' : Local) → Arrow z (word z r.world) s choice l a l' → Happens z r r' s choice l l' a → Shape z r → word z r'.world name.Epoch + numberers r'.world.locals ≤ SPENT + MOST_GROUP * z.seats
epoch_keeps z r r' s choice l a l' (epoch_serves e) h i = omega (arith, e, epoch_stays (Activity.Rebalance (Rebalance.Engage Engage.Epoch)) h (λ c. c), numberers_at_most r'.world.locals, ap length h.locals, length-set r.world.locals s l', i.sane.seats)
epoch_keeps z r r' s choice l a l' (epoch_is_spent e nd) h i = omega (arith, i.epoch, epoch_stays (Activity.Rebalance (Rebalance.Engage Engage.Epoch)) h (λ c. c), numberers-set r.world.locals s l l' h.knows, ap numberers h.locals)
epoch_keeps z r r' s choice l a l' (ends_at_epoch dn) h i = omega (arith, i.epoch, epoch_stays (Activity.Rebalance (Rebalance.Engage Engage.Epoch)) h (λ c. c), numberers-set r.world.locals s l l' h.knows, ap numberers h.locals)
epoch_keeps z r r' s choice l a l' (builds b next y t) h i = epoch_built z r r' s choice l b next t h i
epoch_keeps z r r' s choice l a l' b h i = omega (arith, i.epoch, epoch_stays _ h (λ c. c), numbers_next z (word z r.world) s choice l _ l' b (λ x. x), ap (λ b. numbering b l) h.activity, numberers-set r.world.locals s l l' h.knows, ap numberers h.locals)
