-- What follows the events of a rebalance that go through the rows of its group, where a part of it
-- has no event of its own.
--
-- There is a type for each such part, with a constructor for each way that it may go: the next row
-- of the group is frozen, or the scans are looked at; the next one is gathered, or the plan is
-- made; the next one gets a number, or the rebalance is over. Before, the row after the full one is
-- claimed, or the full row goes alone.
use Rattle.std.proofs.Common.{ℕ, ◌≡◌, ◌≢◌, ◌⊎◌, inl, inr, ◌<◌, ◌≤◌, ◌==◌, Option, Some, None, Bool, true, false, nat_lt, arith, refl, sym, ◌∙◌, subst, if◌then◌else◌}
use Rattle.kw_world.specs.declared.activity.Activity.{Activity}
use Rattle.kw_world.specs.declared.activity.rebalance.Rebalance.TheVariants as Rebalance
use Rattle.kw_world.specs.declared.activity.rebalance.claim.Claim.TheVariants as Claim
use Rattle.kw_world.specs.declared.activity.rebalance.freeze.Freeze.TheVariants as Freeze
use Rattle.kw_world.specs.declared.activity.rebalance.gather.Gather.TheVariants as Gather
use Rattle.kw_world.specs.declared.activity.rebalance.seek.Seek.TheVariants as Seek
use Rattle.kw_world.specs.declared.local.Local.{Local}
use Rattle.kw_world.specs.Sizes.{Sizes}
use Rattle.std.proofs.lemmas.Bool.Decides.{nat_tests}
use Rattle.kw_words.specs.declared.sizes.TheConstants.{MOST_GROUP}
use Rattle.kw_world.specs.declared.activity.Activity.TheVariants as Activity
use Rattle.kw_world.specs.declared.marks.Mark.{Mark}
use Rattle.kw_world.specs.EngageTransitions.{claiming, counted, to_group}
use Rattle.kw_world.specs.FreezeTransitions.{row_frozen, to_freeze_look, to_scan_look, to_scans}
use Rattle.kw_world.specs.GroupPlaces.{at_last_row, place_in_group}
use Rattle.kw_world.specs.Marks.{least_mark}
use Rattle.kw_world.specs.TakeTransitions.{leaving_over, left_of, planned, row_gathered, to_left, to_list, to_take}
use Rattle.kw_world.specs.Transition.{Outcome, to}
use Rattle.kw_core.specs.Stages.{IsBalancing}

-- so many rows are led: the row after the full one is claimed, or there is none or it is not to go
pub data NextCounted (count : ℕ) (l : Local) : Local → Type 0 where
  claims_row : (r : ℕ) → count ≡ MOST_GROUP → l.rebalance.after ≡ Some r → NextCounted count l (record l { activity = Activity.Rebalance (Rebalance.Claim Claim.Exchange) })
  goes_alone : (count ≢ MOST_GROUP) ⊎ (l.rebalance.after ≡ None) → NextCounted count l (to_group l).local

-- the row at hand is frozen: the one ahead is next, or the scans are
pub data NextFrozen (l : Local) : Local → Type 0 where
  freezes_ahead : (r : ℕ) → l.rebalance.ahead ≡ Some r → NextFrozen l (record (at_last_row r l) { activity = Activity.Rebalance (Rebalance.Freeze Freeze.Count) })
  froze_all : l.rebalance.ahead ≡ None → NextFrozen l (to_scans l).local

-- no cell of the row at hand is remembered
abbrev pub IsNoneLeft : Sizes → Local → Type 0
IsNoneLeft z l = (m : Mark) → least_mark l.rebalance.marks ≡ Some m → place_in_group z l.rebalance z.cells ≤ m.cell

-- the row at hand is gathered: the one ahead is next, or the plan is made
pub data NextGathered (z : Sizes) (l : Local) : Local → Type 0 where
  gathers_ahead : (r : ℕ) → l.rebalance.ahead ≡ Some r → NextGathered z l (to_list (at_last_row r l)).local
  gathered_all : l.rebalance.ahead ≡ None → NextGathered z l (record (planned z l) { activity = Activity.Rebalance (Rebalance.Seek Seek.First) })

-- Tests of the table.

eq_from : (x y : ℕ) → (x == y) ≡ true → x ≡ y
eq_from x y e = grind (arith, nat_tests)

eq_not : (x y : ℕ) → (x == y) ≡ false → x ≢ y
eq_not x y f e = grind (arith, nat_tests)

below : (x y : ℕ) → nat_lt x y ≡ true → x < y
below x y e = grind (arith, nat_tests)

not_below : (x y : ℕ) → nat_lt x y ≡ false → y ≤ x
not_below x y e = grind (arith, nat_tests)

-- The table goes one of these ways.

pub next_counted : (count : ℕ) (l : Local) → NextCounted count l (counted count l).local
next_counted count l = saw (count == MOST_GROUP) refl
  where
    claim : (x : Option ℕ) → count ≡ MOST_GROUP → l.rebalance.after ≡ x → NextCounted count l (claiming x l).local
    claim (Some r) m e = claims_row r m e
    claim None m e = goes_alone (inr e)

    saw : (b : Bool) → (count == MOST_GROUP) ≡ b → NextCounted count l (let x : Outcome = if b then claiming l.rebalance.after l else to_group l in x).local
    saw true e = claim l.rebalance.after (eq_from _ _ e) refl
    saw false e = goes_alone (inl (eq_not _ _ e))

pub next_frozen : (l : Local) → NextFrozen l (row_frozen l.rebalance.ahead l).local
next_frozen l = saw l.rebalance.ahead refl
  where
    saw : (x : Option ℕ) → l.rebalance.ahead ≡ x → NextFrozen l (row_frozen x l).local
    saw (Some r) e = freezes_ahead r e
    saw None e = froze_all e

-- the next entry, or the row at hand is frozen
pub next_entry : (z : Sizes) (j : ℕ) (l : Local) (P : Local → Type 0) → (j < z.seats → P (record l { activity = Activity.Rebalance (Rebalance.Freeze (Freeze.Look j)) })) → ((next : Local) → z.seats ≤ j → NextFrozen l next → P next) → P (to_freeze_look z j l).local
next_entry z j l P on last = saw (nat_lt j z.seats) refl
  where
    saw : (b : Bool) → nat_lt j z.seats ≡ b → P (let x : Outcome = if b then to (Activity.Rebalance (Rebalance.Freeze (Freeze.Look j))) l else row_frozen l.rebalance.ahead l in x).local
    saw true e = on (below j z.seats e)
    saw false e = last _ (not_below j z.seats e) (next_frozen l)

-- the next scan, or the row's cells
pub next_scan : (z : Sizes) (j : ℕ) (l : Local) (P : Local → Type 0) → (j < z.seats → P (record l { activity = Activity.Rebalance (Rebalance.Freeze (Freeze.Scan j)) })) → (z.seats ≤ j → P (to_take l).local) → P (to_scan_look z j l).local
next_scan z j l P on last = saw (nat_lt j z.seats) refl
  where
    saw : (b : Bool) → nat_lt j z.seats ≡ b → P (let x : Outcome = if b then to (Activity.Rebalance (Rebalance.Freeze (Freeze.Scan j))) l else to_take l in x).local
    saw true e = on (below j z.seats e)
    saw false e = last (not_below j z.seats e)

pub next_gathered : (z : Sizes) (l : Local) → NextGathered z l (row_gathered z l.rebalance.ahead l).local
next_gathered z l = saw l.rebalance.ahead refl
  where
    saw : (x : Option ℕ) → l.rebalance.ahead ≡ x → NextGathered z l (row_gathered z x l).local
    saw (Some r) e = gathers_ahead r e
    saw None e = gathered_all e

-- a bound on the cell of a mark
at_that : {k : ℕ} (m n : Mark) → Some m ≡ Some n → k ≤ m.cell → k ≤ n.cell
at_that {k} m n e o = let same : m ≡ n = cc in subst (λ (x : Mark). k ≤ x.cell) same o

-- the next remembered cell of the row at hand, or that row is gathered
pub next_left : (z : Sizes) (l : Local) (P : Local → Type 0) →
    ((m : Mark) → least_mark l.rebalance.marks ≡ Some m → m.cell < place_in_group z l.rebalance z.cells → P (record (leaving_over z m l) { activity = Activity.Rebalance (Rebalance.Gather Gather.LeftOverKey) })) →
    ((next : Local) → IsNoneLeft z l → NextGathered z l next → P next) → P (to_left z l).local
next_left z l P on last = saw (least_mark l.rebalance.marks) refl
  where
    saw : (o : Option Mark) → least_mark l.rebalance.marks ≡ o → P (left_of z o l).local
    saw (Some m) e = here (nat_lt m.cell (place_in_group z l.rebalance z.cells)) refl
      where
        here : (b : Bool) → nat_lt m.cell (place_in_group z l.rebalance z.cells) ≡ b → P (let x : Outcome = if b then to (Activity.Rebalance (Rebalance.Gather Gather.LeftOverKey)) (leaving_over z m l) else row_gathered z l.rebalance.ahead l in x).local
        here true h = on m e (below _ _ h)
        here false h = last _ (λ n f. let same : Some m ≡ Some n = sym e ∙ f in at_that m n same (not_below _ _ h)) (next_gathered z l)
    saw None e = last _ (λ n f. let x : None ≡ Some n = sym e ∙ f in absurd (cc)) (next_gathered z l)

-- What stays.

-- the call goes on in the rebalance of the same rows
pub record GroupGoes (l k : Local) : Type 0 where
  pub call : k.call ≡ l.call
  pub number : k.number ≡ l.number
  pub epoch : k.epoch ≡ l.epoch
  pub row : k.row ≡ l.row
  pub lower : k.lower ≡ l.lower
  pub gathered : k.gathered ≡ l.gathered
  pub pairs : k.pairs ≡ l.pairs
  pub tidies : k.tidies ≡ l.tidies
  pub after : k.rebalance.after ≡ l.rebalance.after
  pub second : k.rebalance.second ≡ l.rebalance.second
  pub next : IsBalancing k.activity

pub frozen_goes : (l k : Local) → NextFrozen l k → GroupGoes l k
frozen_goes l k (freezes_ahead r e) = record { call = refl; number = refl; epoch = refl; row = refl; lower = refl; gathered = refl; pairs = refl; tidies = refl; after = refl; second = refl; next = tt }
frozen_goes l k (froze_all e) = record { call = refl; number = refl; epoch = refl; row = refl; lower = refl; gathered = refl; pairs = refl; tidies = refl; after = refl; second = refl; next = tt }

pub gathered_goes : (z : Sizes) (l k : Local) → NextGathered z l k → GroupGoes l k
gathered_goes z l k (gathers_ahead r e) = record { call = refl; number = refl; epoch = refl; row = refl; lower = refl; gathered = refl; pairs = refl; tidies = refl; after = refl; second = refl; next = tt }
gathered_goes z l k (gathered_all e) = record { call = refl; number = refl; epoch = refl; row = refl; lower = refl; gathered = refl; pairs = refl; tidies = refl; after = refl; second = refl; next = tt }

pub counted_goes : (count : ℕ) (l k : Local) → NextCounted count l k → GroupGoes l k
counted_goes count l k (claims_row r m e) = record { call = refl; number = refl; epoch = refl; row = refl; lower = refl; gathered = refl; pairs = refl; tidies = refl; after = refl; second = refl; next = tt }
counted_goes count l k (goes_alone n) = record { call = refl; number = refl; epoch = refl; row = refl; lower = refl; gathered = refl; pairs = refl; tidies = refl; after = refl; second = refl; next = tt }

-- What an event leads to by which the rows of a group are known, or which ends with a row of it,
-- frozen or gathered: what holds of each of the activities that may come next holds of the one that
-- does.

-- so many rows are led
pub counted_leads : (P : Activity → Type 0) → P (Activity.Rebalance (Rebalance.Claim Claim.Exchange)) → P (Activity.Rebalance (Rebalance.Freeze Freeze.Count)) → (count : ℕ) (l k : Local) → NextCounted count l k → P k.activity
counted_leads P claims alone count l k (claims_row r m e) = claims
counted_leads P claims alone count l k (goes_alone d) = alone

-- the row at hand is frozen
pub frozen_leads : (P : Activity → Type 0) → P (Activity.Rebalance (Rebalance.Freeze Freeze.Count)) → P (Activity.Rebalance (Rebalance.Freeze (Freeze.Scan 0))) → (l k : Local) → NextFrozen l k → P k.activity
frozen_leads P ahead all l k (freezes_ahead r e) = ahead
frozen_leads P ahead all l k (froze_all e) = all

-- it is gathered
pub gathered_leads : (P : Activity → Type 0) → P (Activity.Rebalance (Rebalance.Gather Gather.Link)) → P (Activity.Rebalance (Rebalance.Seek Seek.First)) → (z : Sizes) (l k : Local) → NextGathered z l k → P k.activity
gathered_leads P ahead all z l k (gathers_ahead r e) = ahead
gathered_leads P ahead all z l k (gathered_all e) = all
