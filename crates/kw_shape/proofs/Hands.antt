-- The rows of the group that a seat rebalances: which they are, which one is at hand, and that the
-- seat may name each of them; and how the places of its cells go with the cells of each row.
use Rattle.std.proofs.Common.{ℕ, ◌≡◌, ◌≢◌, ◌+◌, ◌-◌, ◌*◌, ◌<◌, ◌≤◌, nat_lt, if◌then◌else◌, Bool, true, false, Option, Some, None, arith, refl, sym, ◌∙◌, ap, slice_get, subst, ◌⊎◌, inl, inr, ◌∷◌}
use Rattle.std.proofs.lemmas.Bool.Decides.{nat_tests}
use Rattle.std.proofs.lemmas.Option.{same_Some}
use Rattle.kw_words.specs.declared.sizes.TheConstants.{MOST_GROUP}
use Rattle.kw_world.specs.declared.activity.Activity.{Activity}
use Rattle.kw_world.specs.declared.local.Local.{Local}
use Rattle.kw_world.specs.declared.rebalance.Rebalancing.{Rebalancing}
use Rattle.kw_world.specs.GroupPlaces.{at_last_row, base, cell_at, is_row, is_second, place_in_group, places, row_at}
use Rattle.kw_world.specs.Sane.{entries_before}
use Rattle.kw_world.specs.Sizes.{Sizes}
use Rattle.kw_shape.specs.Hands.{Hand, HasFrozen, HasHand, HasNext, IsBeforeGroup, IsBehind, IsOfGroup, IsToRetire, at_first, at_second}
use Rattle.kw_core.specs.Run.{Run}
use Rattle.kw_core.specs.Stages.{IsBalancing}
use Rattle.kw_shape.specs.Keyed.{HasMarks}
use Rattle.kw_shape.specs.Shape.{Shape}
use Rattle.kw_rows.specs.Events.{Holds, IsIn, rest_of}
use Rattle.kw_rows.specs.Group.{Alone, Group, Named}
use Rattle.kw_rows.specs.Ledger.{IsFresh, IsHeld, IsLive, Ledger}
use Rattle.kw_rows.specs.Rows.{Chain, Closed, Rows}
use Rattle.kw_rows.proofs.Named.{ends_at, fresh_next}
use Rattle.kw_world.specs.declared.activity.rebalance.freeze.Freeze.TheVariants as Freeze
use Rattle.kw_world.specs.declared.activity.rebalance.Rebalance.TheVariants as Rebalance
use Rattle.kw_world.specs.declared.activity.rebalance.replace.Replace.TheVariants as Replace
use Rattle.kw_world.specs.Transition.{row_or_first}
use Rattle.kw_core.specs.Ledger.{group_of}
use Rattle.kw_core.proofs.Building.{IsBuilding}
use Rattle.kw_shape.specs.Balances.{claiming, led, marking_next, view_of}

-- a test of the table
below : (x y : ℕ) → x < y → nat_lt x y ≡ true
below x y o = grind (arith, nat_tests)

-- Rows of the group.

-- they are those of a list
pub in_group : (l : Local) (q : ℕ) → IsOfGroup l q → IsIn (group_of l) q
in_group l q (inl e) = inl e
in_group l q (inr e) = subst (λ o. IsIn (l.row ∷ rest_of o) q) (sym e) (inr (inl refl))

pub of_group : (l : Local) (q : ℕ) → IsIn (group_of l) q → IsOfGroup l q
of_group l q (inl e) = inl e
of_group l q (inr i) = which l.rebalance.second refl i
  where
    which : (o : Option ℕ) → l.rebalance.second ≡ o → IsIn (rest_of o) q → IsOfGroup l q
    which None e i = absurd i
    which (Some c) e (inl f) = inr (e ∙ ap Some (sym f))
    which (Some c) e (inr f) = absurd f

-- one of them is at hand, and one may be ahead
pub hand_of_group : (l : Local) → Hand l → IsOfGroup l l.rebalance.hand
hand_of_group l (at_first e f) = inl e
hand_of_group l (at_second e f) = inr e

ahead_of_group : (l : Local) → Hand l → (q : ℕ) → l.rebalance.ahead ≡ Some q → IsOfGroup l q
ahead_of_group l (at_first e f) q g = inr (sym f ∙ g)
ahead_of_group l (at_second e f) q g = let x : None ≡ Some q = sym f ∙ g in absurd (cc)

-- the one ahead is the second one, and the first is at hand then
pub ahead_second : (l : Local) → Hand l → (q : ℕ) → l.rebalance.ahead ≡ Some q → l.rebalance.second ≡ Some q
ahead_second l (at_first e f) q g = sym f ∙ g
ahead_second l (at_second e f) q g = let x : None ≡ Some q = sym f ∙ g in absurd (cc)

pub hand_first : (l : Local) → Hand l → (q : ℕ) → l.rebalance.ahead ≡ Some q → l.rebalance.hand ≡ l.row
hand_first l (at_first e f) q g = e
hand_first l (at_second e f) q g = let x : None ≡ Some q = sym f ∙ g in absurd (cc)

-- where none is ahead, each row of the group is behind the one at hand, or is that one
pub all_behind : (l : Local) → Hand l → l.rebalance.ahead ≡ None → (q : ℕ) → IsOfGroup l q → IsBehind l q ⊎ (q ≡ l.rebalance.hand)
all_behind l (at_first e f) n q (inl g) = inr (g ∙ sym e)
all_behind l (at_first e f) n q (inr g) = let x : None ≡ Some q = sym n ∙ f ∙ g in absurd (cc)
all_behind l (at_second e f) n q (inl g) = inl (e, g)
all_behind l (at_second e f) n q (inr g) = inr (same_Some q l.rebalance.hand (sym g ∙ e))

-- a seat whose group is the same has the same rows, and the same one at hand
pub same_group : (l k : Local) → k.row ≡ l.row → k.rebalance.second ≡ l.rebalance.second → (q : ℕ) → IsOfGroup k q → IsOfGroup l q
same_group l k row second q (inl e) = inl (e ∙ row)
same_group l k row second q (inr e) = inr (sym second ∙ e)

pub same_hand : (l k : Local) → k.row ≡ l.row → k.rebalance.second ≡ l.rebalance.second → k.rebalance.hand ≡ l.rebalance.hand → k.rebalance.ahead ≡ l.rebalance.ahead → Hand l → Hand k
same_hand l k row second hand ahead (at_first e f) = at_first (hand ∙ e ∙ sym row) (ahead ∙ f ∙ sym second)
same_hand l k row second hand ahead (at_second e f) = at_second (second ∙ e ∙ ap Some (sym hand)) (ahead ∙ f)

-- Places of the group.

-- the cell at a place is one of a row of the group
pub row_of_group : (z : Sizes) (l : Local) (p : ℕ) → p < places z l.rebalance.second → IsOfGroup l (row_at z l p)
row_of_group z l p o = saw (nat_lt p z.cells) refl l.rebalance.second refl o
  where
    saw : (b : Bool) → nat_lt p z.cells ≡ b → (x : Option ℕ) → l.rebalance.second ≡ x → p < places z x → IsOfGroup l (if b then l.row else row_or_first x)
    saw true e x f o = inl refl
    saw false e None f o = absurd (grind (arith, nat_tests))
    saw false e (Some c) f o = inr f

-- the first places are those of the full row
pub row_in_full : (z : Sizes) (l : Local) (p : ℕ) → p < z.cells → row_at z l p ≡ l.row
row_in_full z l p o = rw (below p z.cells o) refl

pub cell_in_full : (z : Sizes) (p : ℕ) → p < z.cells → cell_at z p ≡ p
cell_in_full z p o = rw (below p z.cells o) refl

-- Where the seat is with them.

-- the seat is done with deciding its group, and has neither replaced it nor given it up
abbrev pub HasGroup : Activity → Type 0
HasGroup (Activity.Rebalance (Rebalance.Freeze _)) = Unit {0}
HasGroup (Activity.Rebalance (Rebalance.Gather _)) = Unit {0}
HasGroup (Activity.Rebalance (Rebalance.Seek _)) = Unit {0}
HasGroup (Activity.Rebalance (Rebalance.Write _)) = Unit {0}
HasGroup (Activity.Rebalance (Rebalance.Replace Replace.Start)) = Unit {0}
HasGroup (Activity.Rebalance (Rebalance.Replace Replace.GuessedLeast)) = Unit {0}
HasGroup (Activity.Rebalance (Rebalance.Replace Replace.First)) = Unit {0}
HasGroup (Activity.Rebalance (Rebalance.Replace Replace.Next)) = Unit {0}
HasGroup (Activity.Rebalance (Rebalance.Replace Replace.NextLeast)) = Unit {0}
HasGroup (Activity.Rebalance (Rebalance.Replace Replace.Exchange)) = Unit {0}
HasGroup _ = ⊥

-- then that is what it knows of it, and it rebalances it
pub view_led : (a : Activity) (l : Local) → HasGroup a → view_of a l ≡ led l.row l.rebalance.second l.rebalance.after
view_led (Activity.Rebalance (Rebalance.Freeze _)) l x = refl
view_led (Activity.Rebalance (Rebalance.Gather _)) l x = refl
view_led (Activity.Rebalance (Rebalance.Seek _)) l x = refl
view_led (Activity.Rebalance (Rebalance.Write _)) l x = refl
view_led (Activity.Rebalance (Rebalance.Replace Replace.Start)) l x = refl
view_led (Activity.Rebalance (Rebalance.Replace Replace.GuessedLeast)) l x = refl
view_led (Activity.Rebalance (Rebalance.Replace Replace.First)) l x = refl
view_led (Activity.Rebalance (Rebalance.Replace Replace.Next)) l x = refl
view_led (Activity.Rebalance (Rebalance.Replace Replace.NextLeast)) l x = refl
view_led (Activity.Rebalance (Rebalance.Replace Replace.Exchange)) l x = refl
view_led _ l x = absurd x

pub group_balances : (a : Activity) → HasGroup a → IsBalancing a
group_balances (Activity.Rebalance _) x = tt
group_balances _ x = absurd x

pub hand_balances : (a : Activity) → HasHand a → IsBalancing a
hand_balances (Activity.Rebalance _) x = tt
hand_balances _ x = absurd x

pub next_balances : (a : Activity) → HasNext a → IsBalancing a
next_balances (Activity.Rebalance _) x = tt
next_balances _ x = absurd x

pub early_balances : (a : Activity) → IsBeforeGroup a → IsBalancing a
early_balances (Activity.Rebalance _) x = tt
early_balances _ x = absurd x

-- it does not ask then any more which rows go
pub group_late : (a : Activity) → HasGroup a → IsBeforeGroup a → ⊥
group_late (Activity.Rebalance (Rebalance.Engage _)) x y = x
group_late (Activity.Rebalance (Rebalance.Claim _)) x y = x
group_late (Activity.Rebalance (Rebalance.Left _)) x y = x
group_late _ x y = y

pub group_known : (a : Activity) → HasGroup a → HasNext a → ⊥
group_known (Activity.Rebalance (Rebalance.Engage _)) x y = x
group_known (Activity.Rebalance (Rebalance.Claim _)) x y = x
group_known _ x y = y

-- nor while it builds new rows
pub built_late : (a : Activity) → IsBuilding a → IsBeforeGroup a → ⊥
built_late (Activity.Rebalance (Rebalance.Engage _)) x y = x
built_late (Activity.Rebalance (Rebalance.Claim _)) x y = x
built_late (Activity.Rebalance (Rebalance.Left _)) x y = x
built_late _ x y = y

pub built_known : (a : Activity) → IsBuilding a → HasNext a → ⊥
built_known (Activity.Rebalance (Rebalance.Engage _)) x y = x
built_known (Activity.Rebalance (Rebalance.Claim _)) x y = x
built_known _ x y = y

-- what it knows of the second row of its group
pub record IsGrouped (g : Ledger) (t : ℕ) (a : Activity) (l : Local) : Type 0 where
  pub along : (q : ℕ) → IsBalancing a → l.rebalance.second ≡ Some q → IsFresh g t q
  pub apart : IsBalancing a → l.rebalance.second ≢ Some l.row
  pub next : HasNext a → (c : ℕ) × (l.rebalance.after ≡ Some c)
  pub early : IsBeforeGroup a → l.rebalance.second ≡ None

-- there is none as long as the group is not decided
pub undecided : (g : Ledger) (t : ℕ) (a : Activity) (l : Local) → l.rebalance.second ≡ None → (HasNext a → (c : ℕ) × (l.rebalance.after ≡ Some c)) → IsGrouped g t a l
undecided g t a l n next = record { along = λ q x e. let y : None ≡ Some q = sym n ∙ e in absurd (cc); apart = λ x e. let y : None ≡ Some l.row = sym n ∙ e in cc; next = next; early = λ x. n }

-- it has frozen rows of a group that is decided, and no others
pub frozen_group : (a : Activity) (l : Local) (q : ℕ) → HasFrozen a l q → HasGroup a
frozen_group (Activity.Rebalance (Rebalance.Freeze _)) l q x = tt
frozen_group (Activity.Rebalance (Rebalance.Gather _)) l q x = tt
frozen_group (Activity.Rebalance (Rebalance.Seek _)) l q x = tt
frozen_group (Activity.Rebalance (Rebalance.Write _)) l q x = tt
frozen_group (Activity.Rebalance (Rebalance.Replace Replace.Start)) l q x = tt
frozen_group (Activity.Rebalance (Rebalance.Replace Replace.GuessedLeast)) l q x = tt
frozen_group (Activity.Rebalance (Rebalance.Replace Replace.First)) l q x = tt
frozen_group (Activity.Rebalance (Rebalance.Replace Replace.Next)) l q x = tt
frozen_group (Activity.Rebalance (Rebalance.Replace Replace.NextLeast)) l q x = tt
frozen_group (Activity.Rebalance (Rebalance.Replace Replace.Exchange)) l q x = tt
frozen_group _ l q x = absurd x.0

pub frozen_of_group : (a : Activity) (l : Local) (q : ℕ) → (HasHand a → Hand l) → HasFrozen a l q → IsOfGroup l q
frozen_of_group (Activity.Rebalance (Rebalance.Freeze Freeze.Count)) l q hand x = inl x.1
frozen_of_group (Activity.Rebalance (Rebalance.Freeze (Freeze.Look i))) l q hand (inl x) = inl x.1
frozen_of_group (Activity.Rebalance (Rebalance.Freeze (Freeze.Look i))) l q hand (inr x) = subst (IsOfGroup l) (sym x) (hand_of_group l (hand tt))
frozen_of_group (Activity.Rebalance (Rebalance.Freeze (Freeze.Entry i))) l q hand (inl x) = inl x.1
frozen_of_group (Activity.Rebalance (Rebalance.Freeze (Freeze.Entry i))) l q hand (inr x) = subst (IsOfGroup l) (sym x) (hand_of_group l (hand tt))
frozen_of_group a l q hand x = x.1

-- the rows that it has still to retire are of the group too, and it rebalances them
pub retire_of_group : (a : Activity) (l : Local) (q : ℕ) → (HasHand a → Hand l) → IsToRetire a l q → IsOfGroup l q
retire_of_group (Activity.Rebalance (Rebalance.Replace Replace.Normalise)) l q hand x = x
retire_of_group (Activity.Rebalance (Rebalance.Replace Replace.Number)) l q hand (inl x) = subst (IsOfGroup l) (sym x) (hand_of_group l (hand tt))
retire_of_group (Activity.Rebalance (Rebalance.Replace Replace.Number)) l q hand (inr x) = ahead_of_group l (hand tt) q x
retire_of_group (Activity.Rebalance (Rebalance.Replace Replace.Retire)) l q hand (inl x) = subst (IsOfGroup l) (sym x) (hand_of_group l (hand tt))
retire_of_group (Activity.Rebalance (Rebalance.Replace Replace.Retire)) l q hand (inr x) = ahead_of_group l (hand tt) q x
retire_of_group _ l q hand x = absurd x

pub retire_balances : (a : Activity) (l : Local) (q : ℕ) → IsToRetire a l q → IsBalancing a
retire_balances (Activity.Rebalance _) l q x = tt
retire_balances _ l q x = absurd x

-- What it knows of them.

-- the two ways to say it, and that a row goes alone
pub holds_led : (w : Rows) (g : Ledger) (r : ℕ) (second after : Option ℕ) → Group w g (led r second after) → Holds w g r second after
holds_led w g r None after k = k
holds_led w g r (Some c) after k = k

pub led_alone : (w : Rows) (g : Ledger) (r : ℕ) (second after : Option ℕ) → second ≡ None → Group w g (Alone r after) → Group w g (led r second after)
led_alone w g r second after n k = subst (λ o. Group w g (led r o after)) (sym n) k

-- the link of the full row leads to the second one
pub second_next : (w : Rows) (g : Ledger) (r c : ℕ) (second after : Option ℕ) → second ≡ Some c → Group w g (led r second after) → w.next r ≡ Some c
second_next w g r c None after e k = let x : None ≡ Some c = e in absurd (cc)
second_next w g r c (Some d) after e k = k.0.next ∙ e

-- so they are two rows
pub group_apart : (w : Rows) (g : Ledger) → Closed w g → (r : ℕ) (second after : Option ℕ) → IsHeld g r → Group w g (led r second after) → second ≢ Some r
group_apart w g c r second after h k e = omega (arith, c.rises r r h (second_next w g r r second after e k))

-- the seat may name each row of its group, and the rows of its view
pub group_fresh : (w : Rows) (g : Ledger) → Closed w g → (t : ℕ) (l : Local) → IsFresh g t l.row → Group w g (led l.row l.rebalance.second l.rebalance.after) → (q : ℕ) → IsOfGroup l q → IsFresh g t q
group_fresh w g c t l f k q (inl e) = subst (IsFresh g t) (sym e) f
group_fresh w g c t l f k q (inr e) = fresh_next w g c t l.row q f (second_next w g l.row q l.rebalance.second l.rebalance.after e k)

pub named_claiming : (w : Rows) (g : Ledger) → Closed w g → (t r : ℕ) (after : Option ℕ) → IsFresh g t r → Group w g (claiming r after) → Named g t (claiming r after)
named_claiming w g c t r None f k = tt
named_claiming w g c t r (Some q) f k = (f, fresh_next w g c t r q f k.0.next)

pub named_marking : (w : Rows) (g : Ledger) → Closed w g → (t r : ℕ) (after : Option ℕ) → IsFresh g t r → Group w g (marking_next r after) → Named g t (marking_next r after)
named_marking w g c t r None f k = tt
named_marking w g c t r (Some q) f k = (f, fresh_next w g c t r q f k.0.next)

pub named_led : (w : Rows) (g : Ledger) → Closed w g → (t r : ℕ) (second after : Option ℕ) → IsFresh g t r → Group w g (led r second after) → Named g t (led r second after)
named_led w g c t r None after f k = f
named_led w g c t r (Some q) after f k = (f, fresh_next w g c t r q f k.0.next)

-- and all of them are in the list where the full row is
pub group_live : (w : Rows) (g : Ledger) → Chain w g → (l : Local) → IsLive g l.row → Group w g (led l.row l.rebalance.second l.rebalance.after) → (q : ℕ) → IsOfGroup l q → IsLive g q
group_live w g c l a k q (inl e) = subst (IsLive g) (sym e) a
group_live w g c l a k q (inr e) = c.linked l.row q a (second_next w g l.row q l.rebalance.second l.rebalance.after e k)

-- The ends of a row's range: it begins below an end, and that is not above this key.
pub record EndsBy (w : Rows) (g : Ledger) (q key : ℕ) : Type 0 where
  pub end : ℕ
  pub upper : (g.fates q).upper ≡ Some end
  pub above : w.least q < end
  pub most : end ≤ key

-- each row of the group ends where the row after the group begins, or before that
pub group_ends : (w : Rows) (g : Ledger) → Closed w g → (l : Local) → IsHeld g l.row → Group w g (led l.row l.rebalance.second l.rebalance.after) → (b : ℕ) → l.rebalance.after ≡ Some b → (q : ℕ) → IsOfGroup l q → EndsBy w g q (w.least b)
group_ends w g c l h k b e q o = saw l.rebalance.second k o
  where
    here : (x y : ℕ) → IsHeld g x → w.next x ≡ Some y → w.least y ≤ w.least b → q ≡ x → EndsBy w g q (w.least b)
    here x y m f n d = record { end = w.least y; upper = ap (λ p. (g.fates p).upper) d ∙ ends_at w g c x y m f; above = omega (arith, c.rises x y m f, ap w.least d); most = n }

    saw : (x : Option ℕ) → Group w g (led l.row x l.rebalance.after) → (q ≡ l.row) ⊎ (x ≡ Some q) → EndsBy w g q (w.least b)
    saw None m (inl d) = here l.row b h (m.0.next ∙ e) (omega arith) d
    saw None m (inr d) = let y : None ≡ Some q = d in absurd (cc)
    saw (Some p) m (inl d) = here l.row p h m.0.next (omega (arith, c.rises p b (c.linked l.row p h m.0.next) (m.1.next ∙ e))) d
    saw (Some p) m (inr d) = here p b (c.linked l.row p h m.0.next) (m.1.next ∙ e) (omega arith) (sym (same_Some p q d))

-- The places of a rebalance's group, with one of its rows at hand.
--
-- The rows of a group are told apart: none stands after itself. So a place is one of a cell of one
-- row, and the row at hand is the second one where it is named so, and else the first.

-- a new row is no longer than a row, and has room for the cells of one key; one row of the group is
-- at hand, and no row stands after itself
pub record KnowsGroup (z : Sizes) (a : Activity) (l : Local) : Type 0 where
  pub built : 2 * z.seats < z.built
  pub fits : z.built ≤ z.cells
  pub hand : HasHand a → Hand l
  pub apart : HasMarks a → l.rebalance.second ≢ Some l.row

-- The second row at hand, or another.

is_row_there : (o : Option ℕ) (q : ℕ) → o ≡ Some q → is_row o q ≡ true
is_row_there (Some r) q e = let x : r ≡ q = same_Some r q e in grind (arith, nat_tests)
is_row_there None q e = let x : None ≡ Some q = e in absurd (cc)

is_row_other : (o : Option ℕ) (q : ℕ) → o ≢ Some q → is_row o q ≡ false
is_row_other (Some r) q d = let x : r ≢ q = λ e. d (ap Some e) in grind (arith, nat_tests)
is_row_other None q d = refl

-- How many entries stand before those of the row at hand, and how many cells.

pub entries_few : (z : Sizes) (b : Rebalancing) → entries_before z b ≤ z.seats
entries_few z b = saw (is_second b)
  where
    saw : (x : Bool) → (if x then z.seats else 0) ≤ z.seats
    saw true = omega arith
    saw false = omega arith

pub base_few : (z : Sizes) (b : Rebalancing) → base z b ≤ z.cells
base_few z b = saw (is_second b)
  where
    saw : (x : Bool) → (if x then z.cells else 0) ≤ z.cells
    saw true = omega arith
    saw false = omega arith

-- the cells of a row that is frozen next come after those of the one at hand
pub entries_ahead : (z : Sizes) (l : Local) (r n : ℕ) → Hand l → l.rebalance.second ≢ Some l.row → l.rebalance.ahead ≡ Some r → n ≤ entries_before z l.rebalance + z.seats → n ≤ entries_before z (at_last_row r l).rebalance
entries_ahead z l r n (at_first h a) d e o =
    let second : l.rebalance.second ≡ Some r = sym a ∙ e in
    let now : is_row l.rebalance.second l.rebalance.hand ≡ false = is_row_other _ _ (λ x. d (x ∙ ap Some h)) in
    let next : is_row l.rebalance.second r ≡ true = is_row_there _ _ second in
    rw next (let u : n ≤ 0 + z.seats = rw now at o in omega (arith, u))
entries_ahead z l r n (at_second h a) d e o = let x : None ≡ Some r = sym a ∙ e in absurd (cc)

-- the row ahead is not the one at hand
pub ahead_other : (l : Local) (p : ℕ) → Hand l → l.rebalance.second ≢ Some l.row → l.rebalance.ahead ≡ Some p → p ≢ l.rebalance.hand
ahead_other l p (at_first h a) d e u = d (sym a ∙ e ∙ ap Some (u ∙ h))
ahead_other l p (at_second h a) d e u = let x : None ≡ Some p = sym a ∙ e in cc

-- Places and cells.

-- a group has as many places as a row, or twice as many
cells_few : (z : Sizes) (second : Option ℕ) → z.cells ≤ places z second
cells_few z (Some r) = omega arith
cells_few z None = omega arith

pub places_few : (z : Sizes) (second : Option ℕ) → places z second ≤ MOST_GROUP * z.cells
places_few z (Some r) = omega arith
places_few z None = omega arith

pub place_few : (z : Sizes) (b : Rebalancing) (c : ℕ) → c < z.cells → place_in_group z b c < MOST_GROUP * z.cells
place_few z b c o = omega (arith, o, base_few z b)

pub cell_few : (z : Sizes) (p : ℕ) → p < MOST_GROUP * z.cells → cell_at z p < z.cells
cell_few z p o = saw (nat_lt p z.cells) refl
  where
    saw : (x : Bool) → nat_lt p z.cells ≡ x → (if x then p else p - z.cells) < z.cells
    saw true e = grind (arith, nat_tests)
    saw false e = let u : z.cells ≤ p = grind (arith, nat_tests) in omega (arith, u, o)

-- Where the first row is at hand, or the second.

pub first_base : (z : Sizes) (l : Local) → l.rebalance.hand ≡ l.row → l.rebalance.second ≢ Some l.row → base z l.rebalance ≡ 0
first_base z l h d = let now : is_row l.rebalance.second l.rebalance.hand ≡ false = is_row_other _ _ (λ x. d (x ∙ ap Some h)) in rw now refl

pub second_base : (z : Sizes) (b : Rebalancing) → b.second ≡ Some b.hand → base z b ≡ z.cells
second_base z b e = let now : is_row b.second b.hand ≡ true = is_row_there _ _ e in rw now refl

-- places of the first row, and those behind them
first_place : (z : Sizes) (l : Local) (p : ℕ) → p < z.cells → row_at z l p ≡ l.row
first_place z l p o = let t : nat_lt p z.cells ≡ true = grind (arith, nat_tests) in rw t refl

second_place : (z : Sizes) (l : Local) (p q : ℕ) → z.cells ≤ p → l.rebalance.second ≡ Some q → row_at z l p ≡ q
second_place z l p q o e = let t : nat_lt p z.cells ≡ false = grind (arith, nat_tests) in rw (t, e) refl

-- the row at the place of a cell of the row at hand is that row
pub place_row : (z : Sizes) (l : Local) (c : ℕ) → Hand l → l.rebalance.second ≢ Some l.row → c < z.cells → row_at z l (place_in_group z l.rebalance c) ≡ l.rebalance.hand
place_row z l c (at_first h a) d o = first_place z l _ (omega (arith, first_base z l h d, o)) ∙ sym h
place_row z l c (at_second e a) d o = second_place z l _ _ (omega (arith, second_base z l.rebalance e)) e

-- and it has that number there
pub place_cell : (z : Sizes) (b : Rebalancing) (c : ℕ) → c < z.cells → cell_at z (place_in_group z b c) ≡ c
place_cell z b c o = saw (is_second b)
  where
    saw : (x : Bool) → (let p : ℕ = (if x then z.cells else 0) + c in if nat_lt p z.cells then p else p - z.cells) ≡ c
    saw true = let t : nat_lt (z.cells + c) z.cells ≡ false = grind (arith, nat_tests) in rw t (omega arith)
    saw false = let t : nat_lt (0 + c) z.cells ≡ true = grind (arith, nat_tests) in rw t (omega arith)

-- the group has the place
pub place_within : (z : Sizes) (l : Local) (c : ℕ) → Hand l → l.rebalance.second ≢ Some l.row → c < z.cells → place_in_group z l.rebalance c < places z l.rebalance.second
place_within z l c (at_first h a) d o = omega (arith, first_base z l h d, o, cells_few z l.rebalance.second)
place_within z l c (at_second e a) d o = omega (arith, second_base z l.rebalance e, o, ap (places z) e)

-- a place before the end of those of the row at hand is one of that row, if no place of a row
-- before it is meant
pub left_row : (z : Sizes) (l : Local) (p : ℕ) → Hand l → l.rebalance.second ≢ Some l.row → (l.rebalance.second ≡ Some l.rebalance.hand → z.cells ≤ p) → p < place_in_group z l.rebalance z.cells → row_at z l p ≡ l.rebalance.hand
left_row z l p (at_first h a) d behind o = first_place z l p (omega (arith, first_base z l h d, o)) ∙ sym h
left_row z l p (at_second e a) d behind o = second_place z l p l.rebalance.hand (behind e) e

-- What a seat knows of its rows.

-- one that remembers cells rebalances its row
pub marks_balance : (a : Activity) → HasMarks a → IsBalancing a
marks_balance (Activity.Rebalance _) x = tt
marks_balance _ x = absurd x

-- what a seat knows of its group
pub knows_group : (z : Sizes) (r : Run) → Shape z r → (t : ℕ) (k : Local) → slice_get r.world.locals t ≡ Some k → (a : Activity) → k.activity ≡ a → KnowsGroup z a k
knows_group z r i t k g a e = record {
  built = i.built;
  fits = i.fits;
  hand = λ x. (i.balances t k g).hands (subst HasHand (sym e) x);
  apart = λ x. (i.balances t k g).apart (marks_balance k.activity (subst HasMarks (sym e) x));
}
