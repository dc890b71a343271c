-- The counts over all seats after an event: one seat's part is taken out, and its new part put in.
use Rattle.std.proofs.Common.{ℕ, zero, suc, ◌≡◌, ◌+◌, ◌*◌, ◌<◌, ◌≤◌, ◌==◌, Bool, true, false, Some, None, List, [], ◌∷◌, arith, refl, ap, length, slice_get, slice_set, if◌then◌else◌}
use Rattle.std.proofs.Math.Nat.{mul-le-mul_right, suc-mul}
use Rattle.std.proofs.lemmas.Option.{same_Some}
use Rattle.kw_world.specs.declared.activity.Activity.{Activity}
use Rattle.kw_world.specs.declared.activity.draw.Draw.TheVariants as Draw
use Rattle.kw_world.specs.declared.activity.rebalance.engage.Engage.TheVariants as Engage
use Rattle.kw_world.specs.declared.activity.rebalance.freeze.Freeze.TheVariants as Freeze
use Rattle.kw_world.specs.declared.activity.put.Put.TheVariants as Put
use Rattle.kw_world.specs.declared.activity.rebalance.Rebalance.TheVariants as Rebalance
use Rattle.kw_world.specs.declared.activity.walk.Walk.TheVariants as Walk
use Rattle.kw_world.specs.declared.local.Local.{Local}
use Rattle.kw_world.specs.declared.event.Choice.{Choice}
use Rattle.kw_world.specs.Sizes.{Sizes}
use Rattle.kw_shape.specs.Rooms.{adding, adders, drawing, drawers}
use Rattle.kw_core.specs.Stages.{IsBalancing}
use Rattle.kw_core.specs.Words.{Words}
use Rattle.kw_core.proofs.Arrows.{Arrow, waits, finds_room, sees_stamped, sees_neither, is_gone_by, helps, finds_stamped, finds_other, list_ends, key_above, left_over_gone_by, gathers_left_over, NextLook, looks, lists, NextLeftOver, goes_to_left_over, answers, ends_scan, scans_on, clock_serves, builds, first_ends, remembers_last, sees_frozen_last, freezes_last, takes_no_more, keeps_no_more, decides, marks_led, asks_of_pin, looks_at_pin}
use Rattle.kw_core.proofs.Grouping.{NextCounted, claims_row, counted_goes, goes_alone, NextFrozen, NextGathered, freezes_ahead, frozen_goes, froze_all, gathered_all, gathered_goes, gathers_ahead}
use Rattle.kw_core.proofs.BuiltNext.{IsAfterBuilding, built_next}
use Rattle.kw_core.proofs.Pinning.{NextOfPin, pins, NextPinLook, sees_pin}
use Rattle.kw_shape.proofs.AfterBuilding.{look_goes}

-- the seats that are about to ask a row for a cell, with one seat's local set
pub adders-set : (q : ℕ) (ls : List Local) (s : ℕ) (l l' : Local) → slice_get ls s ≡ Some l → adders q (slice_set ls s l') + adding l.activity l.row q ≡ adders q ls + adding l'.activity l'.row q
adders-set q [] s l l' e = let x : None ≡ Some l = e in absurd (cc)
adders-set q (k ∷ ls) zero l l' e = let x = ap (λ (y : Local). adding y.activity y.row q) (same_Some k l e) in omega (arith, x)
adders-set q (k ∷ ls) (suc s) l l' e = omega (arith, adders-set q ls s l l' e)

pub adding_at_most : (a : Activity) (row q : ℕ) → adding a row q ≤ 1
adding_at_most (Activity.Put Put.Add) row q = saw (row == q)
  where
    saw : (b : Bool) → (if b then 1 else 0) ≤ 1
    saw true = omega arith
    saw false = omega arith
adding_at_most _ row q = omega arith

-- there are no more of them than seats
pub adders_at_most : (q : ℕ) (ls : List Local) → adders q ls ≤ length ls
adders_at_most q [] = omega arith
adders_at_most q (l ∷ ls) = omega (arith, adding_at_most l.activity l.row q, adders_at_most q ls)

-- and fewer where a seat is not about to ask
pub adders_but_one : (q : ℕ) (ls : List Local) (s : ℕ) (l : Local) → slice_get ls s ≡ Some l → adding l.activity l.row q ≡ 0 → adders q ls < length ls
adders_but_one q [] s l e n = let x : None ≡ Some l = e in absurd (cc)
adders_but_one q (k ∷ ls) zero l e n = let x = ap (λ (y : Local). adding y.activity y.row q) (same_Some k l e) in omega (arith, x, n, adders_at_most q ls)
adders_but_one q (k ∷ ls) (suc s) l e n = omega (arith, adding_at_most k.activity k.row q, adders_but_one q ls s l e n)

-- the seats that are about to draw, with one seat's local set
pub drawers-set : (n : ℕ) (ls : List Local) (s : ℕ) (l l' : Local) → slice_get ls s ≡ Some l → drawers n (slice_set ls s l') + drawing n l.activity ≡ drawers n ls + drawing n l'.activity
drawers-set n [] s l l' e = let x : None ≡ Some l = e in absurd (cc)
drawers-set n (k ∷ ls) zero l l' e = let x = ap (λ (y : Local). drawing n y.activity) (same_Some k l e) in omega (arith, x)
drawers-set n (k ∷ ls) (suc s) l l' e = omega (arith, drawers-set n ls s l l' e)

-- each seat draws at most as many as there are seats
pub drawing_at_most : (n : ℕ) (a : Activity) → 1 ≤ n → drawing n a ≤ n
drawing_at_most n (Activity.Draw Draw.Wait) o = o
drawing_at_most n (Activity.Draw Draw.Version) o = o
drawing_at_most n (Activity.Rebalance (Rebalance.Freeze (Freeze.Scan i))) o = omega arith
drawing_at_most n (Activity.Rebalance (Rebalance.Freeze (Freeze.Draw i))) o = omega arith
drawing_at_most n (Activity.Rebalance (Rebalance.Freeze (Freeze.Settle i))) o = omega arith
drawing_at_most n (Activity.Rebalance (Rebalance.Engage Engage.Clock)) o = omega arith
drawing_at_most n _ o = omega arith

drawers_at_most : (n : ℕ) (ls : List Local) → 1 ≤ n → drawers n ls ≤ length ls * n
drawers_at_most n [] o = omega arith
drawers_at_most n (l ∷ ls) o =
    omega (arith, drawing_at_most n l.activity o, drawers_at_most n ls o, suc-mul (length ls) n)

-- so all of them draw at most the square of that
pub drawers_few : (n : ℕ) (ls : List Local) → 1 ≤ n → length ls ≤ n → drawers n ls ≤ n * n
drawers_few n ls o few = omega (arith, drawers_at_most n ls o, mul-le-mul_right {m = length ls} {n = n} n few)

-- the square of a number that is at most another
pub square_few : (n m : ℕ) → n ≤ m → n * n ≤ m * n
square_few n m o = mul-le-mul_right {m = n} {n = m} n o

-- which activities lead to asking for a cell, and to a draw
abbrev pub IsCounting : Activity → Type 0
IsCounting (Activity.Put Put.Count) = Unit {0}
IsCounting _ = ⊥

abbrev pub IsToWait : Activity → Type 0
IsToWait (Activity.Draw Draw.Clock) = Unit {0}
IsToWait (Activity.Rebalance (Rebalance.Engage Engage.Clock)) = Unit {0}
IsToWait _ = ⊥

look_adds : (z : Sizes) (j row q : ℕ) (next : Activity) → NextLook z j next → adding next row q ≡ 0
look_adds z j row q next (looks o) = refl
look_adds z j row q next (lists o) = refl

cell_adds : (l : Local) (q : ℕ) (next : Local) → NextLeftOver l next → adding next.activity next.row q ≡ 0
cell_adds l q next (goes_to_left_over m o) = refl
cell_adds l q next (answers o n) = refl
cell_adds l q next (ends_scan o y n) = refl
cell_adds l q next (scans_on r o y n w) = refl

look_draws : (z : Sizes) (j n : ℕ) (next : Activity) → NextLook z j next → drawing n next ≡ 0
look_draws z j n next (looks o) = refl
look_draws z j n next (lists o) = refl

cell_draws : (l : Local) (n : ℕ) (next : Local) → NextLeftOver l next → drawing n next.activity ≡ 0
cell_draws l k next (goes_to_left_over m o) = refl
cell_draws l k next (answers o n) = refl
cell_draws l k next (ends_scan o y n) = refl
cell_draws l k next (scans_on r o y n w) = refl

of_pin_adds : (l : Local) (q : ℕ) (next : Local) → NextOfPin l next → adding next.activity next.row q ≡ 0
of_pin_adds l q next (pins e f) = refl
of_pin_adds l q next _ = refl

of_pin_draws : (n : ℕ) (l next : Local) → NextOfPin l next → drawing n next.activity ≡ 0
of_pin_draws n l next (pins e f) = refl
of_pin_draws n l next _ = refl

pin_draws : (z : Sizes) (n i w : ℕ) (l next : Local) → NextPinLook z i w l next → drawing n next.activity ≡ 0
pin_draws z n i w l next (sees_pin version e o) = refl
pin_draws z n i w l next _ = refl

-- a seat that goes through the rows of its group neither asks for a cell nor draws more versions
balancing_adds : (a : Activity) (row q : ℕ) → IsBalancing a → adding a row q ≡ 0
balancing_adds (Activity.Put Put.Add) row q x = absurd x
balancing_adds (Activity.Walk Walk.First) row q x = refl
balancing_adds _ row q x = refl

frozen_draws : (n : ℕ) (l next : Local) → NextFrozen l next → drawing n next.activity ≤ n
frozen_draws n l next (freezes_ahead r e) = omega arith
frozen_draws n l next (froze_all e) = omega arith

gathered_draws : (z : Sizes) (n : ℕ) (l next : Local) → NextGathered z l next → drawing n next.activity ≡ 0
gathered_draws z n l next (gathers_ahead r e) = refl
gathered_draws z n l next (gathered_all e) = refl

-- what follows where new rows are built neither asks for a cell nor draws a version
pub built_adds : (a : Activity) (row q : ℕ) → IsAfterBuilding a → adding a row q ≡ 0
built_adds (Activity.Put Put.Add) row q o = absurd o
built_adds (Activity.Walk Walk.First) row q o = refl
built_adds _ row q o = refl

pub built_draws : (n : ℕ) (a : Activity) → IsAfterBuilding a → drawing n a ≡ 0
built_draws n (Activity.Draw Draw.Wait) o = absurd o
built_draws n (Activity.Draw Draw.Version) o = absurd o
built_draws n (Activity.Rebalance (Rebalance.Engage Engage.Epoch)) o = absurd o
built_draws n (Activity.Rebalance (Rebalance.Engage Engage.State)) o = absurd o
built_draws n (Activity.Rebalance (Rebalance.Engage (Engage.Normal seat))) o = absurd o
built_draws n (Activity.Rebalance (Rebalance.Engage Engage.Lead)) o = absurd o
built_draws n (Activity.Rebalance (Rebalance.Engage (Engage.MarkLink count))) o = absurd o
built_draws n (Activity.Rebalance (Rebalance.Engage (Engage.Decide count))) o = absurd o
built_draws n (Activity.Rebalance (Rebalance.Claim _)) o = absurd o
built_draws n (Activity.Rebalance (Rebalance.Freeze _)) o = absurd o
built_draws n _ o = refl

-- only a seat that found room goes on to ask for a cell
pub adding_next : (z : Sizes) (v : Words) (s : ℕ) (choice : Choice) (l : Local) (a : Activity) (l' : Local) (q : ℕ) → Arrow z v s choice l a l' → (IsCounting a → ⊥) → adding l'.activity l'.row q ≡ 0
adding_next z v s choice l a l' q (builds b next y t) n = built_adds next.activity next.row q (built_next z v choice l b next t)
adding_next z v s choice l a l' q (finds_room e) n = absurd (n tt)
adding_next z v s choice l a l' q (sees_stamped j c version next y m) n = look_adds z _ l.row q next m
adding_next z v s choice l a l' q (sees_neither j next y m) n = look_adds z _ l.row q next m
adding_next z v s choice l a l' q (is_gone_by next y m) n = look_adds z _ l.row q next m
adding_next z v s choice l a l' q (helps next y m) n = look_adds z _ l.row q next m
adding_next z v s choice l a l' q (finds_stamped c version next y m) n = look_adds z _ l.row q next m
adding_next z v s choice l a l' q (finds_other next y m) n = look_adds z _ l.row q next m
adding_next z v s choice l a l' q (first_ends next e m) n = cell_adds _ q next m
adding_next z v s choice l a l' q (list_ends next e m) n = cell_adds _ q next m
adding_next z v s choice l a l' q (key_above next y m) n = cell_adds _ q next m
adding_next z v s choice l a l' q (left_over_gone_by next y m) n = cell_adds _ q next m
adding_next z v s choice l a l' q (gathers_left_over next m) n = cell_adds _ q next m
adding_next z v s choice l a l' q (remembers_last j c version next e o m) n = balancing_adds next.activity next.row q (frozen_goes _ next m).next
adding_next z v s choice l a l' q (sees_frozen_last j next e o m) n = balancing_adds next.activity next.row q (frozen_goes _ next m).next
adding_next z v s choice l a l' q (freezes_last j next e o m) n = balancing_adds next.activity next.row q (frozen_goes _ next m).next
adding_next z v s choice l a l' q (takes_no_more next e f m) n = balancing_adds next.activity next.row q (gathered_goes z _ next m).next
adding_next z v s choice l a l' q (keeps_no_more next f m) n = balancing_adds next.activity next.row q (gathered_goes z _ next m).next
adding_next z v s choice l a l' q (marks_led count next d m) n = balancing_adds next.activity next.row q (counted_goes _ _ next m).next
adding_next z v s choice l a l' q (decides count c next e m) n = balancing_adds next.activity next.row q (counted_goes _ _ next m).next
adding_next z v s choice l a l' q (asks_of_pin next c m) n = of_pin_adds _ q next m
adding_next z v s choice l a l' q (looks_at_pin j next m) n = balancing_adds next.activity next.row q (look_goes z _ _ _ next m).next
adding_next z v s choice l a l' q _ n = refl

-- a seat that knows how many rows go may draw as many versions
counted_draws : (n count : ℕ) (l k : Local) → NextCounted count l k → drawing n k.activity ≡ n
counted_draws n count l k (claims_row q m e) = refl
counted_draws n count l k (goes_alone d) = refl

-- only a scan, or a rebalance, that found the clock below its end may draw more than before
pub drawing_next : (z : Sizes) (v : Words) (s : ℕ) (choice : Choice) (l : Local) (a : Activity) (l' : Local) → Arrow z v s choice l a l' → (IsToWait a → ⊥) → (n : ℕ) → drawing n l'.activity ≤ drawing n a
drawing_next z v s choice l a l' (builds b next y t) w n = omega (arith, built_draws n next.activity (built_next z v choice l b next t))
drawing_next z v s choice l a l' (waits e) w n = absurd (w tt)
drawing_next z v s choice l a l' (clock_serves e) w n = absurd (w tt)
drawing_next z v s choice l a l' (sees_stamped j c version next y m) w n = omega (arith, look_draws z _ n next m)
drawing_next z v s choice l a l' (sees_neither j next y m) w n = omega (arith, look_draws z _ n next m)
drawing_next z v s choice l a l' (is_gone_by next y m) w n = omega (arith, look_draws z _ n next m)
drawing_next z v s choice l a l' (helps next y m) w n = omega (arith, look_draws z _ n next m)
drawing_next z v s choice l a l' (finds_stamped c version next y m) w n = omega (arith, look_draws z _ n next m)
drawing_next z v s choice l a l' (finds_other next y m) w n = omega (arith, look_draws z _ n next m)
drawing_next z v s choice l a l' (first_ends next e m) w n = omega (arith, cell_draws _ n next m)
drawing_next z v s choice l a l' (list_ends next e m) w n = omega (arith, cell_draws _ n next m)
drawing_next z v s choice l a l' (key_above next y m) w n = omega (arith, cell_draws _ n next m)
drawing_next z v s choice l a l' (left_over_gone_by next y m) w n = omega (arith, cell_draws _ n next m)
drawing_next z v s choice l a l' (gathers_left_over next m) w n = omega (arith, cell_draws _ n next m)
drawing_next z v s choice l a l' (remembers_last j c version next e o m) w n = frozen_draws n _ next m
drawing_next z v s choice l a l' (sees_frozen_last j next e o m) w n = frozen_draws n _ next m
drawing_next z v s choice l a l' (freezes_last j next e o m) w n = frozen_draws n _ next m
drawing_next z v s choice l a l' (takes_no_more next e f m) w n = omega (arith, gathered_draws z n _ next m)
drawing_next z v s choice l a l' (keeps_no_more next f m) w n = omega (arith, gathered_draws z n _ next m)
drawing_next z v s choice l a l' (marks_led count next d m) w n = omega (arith, counted_draws n _ _ next m)
drawing_next z v s choice l a l' (decides count c next e m) w n = omega (arith, counted_draws n _ _ next m)
drawing_next z v s choice l a l' (asks_of_pin next c m) w n = omega (arith, of_pin_draws n _ next m)
drawing_next z v s choice l a l' (looks_at_pin j next m) w n = omega (arith, pin_draws z n _ _ _ next m)
drawing_next z v s choice l a l' _ w n = omega arith
