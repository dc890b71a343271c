-- Which cells are listed, for the seat that puts: its own cell is not before the exchange that
-- inserts it, and is from then on.
use Rattle.std.proofs.Common.{ℕ, ◌≡◌, Bool, true, false, Some, None, arith, refl, sym, ◌∙◌, ap, subst}
use Rattle.kw_words.specs.declared.layout.Name.TheVariants as name
use Rattle.kw_words.specs.Count.{count_of}
use Rattle.kw_lists.proofs.Places.{cell_here}
use Rattle.kw_world.specs.declared.activity.Activity.{Activity}
use Rattle.kw_world.specs.declared.activity.put.Put.TheVariants as Put
use Rattle.kw_world.specs.declared.activity.rebalance.Rebalance.TheVariants as Rebalance
use Rattle.kw_world.specs.declared.local.Local.{Local}
use Rattle.kw_world.specs.declared.event.Choice.{Choice}
use Rattle.kw_world.specs.PutTransitions.{has_room}
use Rattle.kw_world.specs.Sizes.{Sizes}
use Rattle.kw_world.specs.Step.{word}
use Rattle.kw_core.specs.Run.{Run}
use Rattle.kw_core.specs.Stages.{IsAtRow, IsPutting, IsUnlisted, IsPutClear}
use Rattle.kw_core.specs.Words.{given_in}
use Rattle.kw_core.proofs.BuiltNext.{built_next}
use Rattle.kw_core.proofs.Arrows.{builds, Arrow, sees_stamped, sees_neither, is_gone_by, helps, finds_stamped, finds_other, list_ends, key_above, left_over_gone_by, gathers_left_over, takes_cell, stores_key, stores_value, announces, loads_clock, stamps, is_stamped, stores_version, reaches_cell, sees_none, key_before, key_same, key_after, version_before, version_after, stores_after, inserts, loses, first_ends, first_reaches, first_sees_none, inserts_at_first, inserts_behind, decides, marks_led, asks_of_pin}
use Rattle.kw_core.proofs.Happens.{Happens}
use Rattle.kw_core.proofs.RoomBelow.{room_below}
use Rattle.kw_puts.specs.Lists.{IsOwnListed}
use Rattle.kw_puts.specs.Below.{Below}
use Rattle.kw_puts.proofs.ListSteps.{made_listed, lost_listed, with_listed_here}
use Rattle.kw_puts.proofs.OwnAttempts.{built_puts, look_puts, cell_puts}
use Rattle.kw_puts.proofs.BuiltStages.{balancing_puts, counted_not, freezing_goes, gathering_goes}
use Rattle.kw_puts.proofs.Owners.{row_linked}
use Rattle.kw_puts.proofs.RelyProof.{unlisted_puts}
use Rattle.kw_shape.proofs.AfterBuilding.{no_call_of_pin}

-- a cell that is given is not listed: it was nobody's
given_unlisted : (z : Sizes) (r r' : Run) (s : ℕ) (choice : Choice) (l l' : Local) → has_room z (count_of (word z r.world (name.Count l.row))) ≡ true → Happens z r r' s choice l l' (Activity.Put Put.Add) → Below z r → r.listed l.row (given_in (word z r.world) l.row) ≡ false
given_unlisted z r r' s choice l l' m h i = which (r.listed l.row (given_in (word z r.world) l.row)) refl
  where
    which : (b : Bool) → r.listed l.row (given_in (word z r.world) l.row) ≡ b → r.listed l.row (given_in (word z r.world) l.row) ≡ false
    which true e =
        let linked = row_linked z r i.shape s l h.knows (subst IsAtRow (sym h.activity) tt) in
        let cell = i.lists.cells l.row (given_in (word z r.world) l.row) linked e in
        let none = i.puts.places.nobody l.row (given_in (word z r.world) l.row) linked (room_below z (count_of (word z r.world (name.Count l.row))) m) (omega arith) in
        let x : None ≡ Some cell.put = sym none ∙ cell.origin in absurd (cc)
    which false e = e

-- the own cell of a put is not listed before it is inserted
unlisted_own : (z : Sizes) (r r' : Run) (s : ℕ) (choice : Choice) (l : Local) (a : Activity) (l' : Local) → Arrow z (word z r.world) s choice l a l' → Happens z r r' s choice l l' a → Below z r → IsUnlisted l'.activity → r'.listed l'.row l'.cell ≡ false
unlisted_own z r r' s choice l a l' (builds b next y t) h i u = built_puts next.activity (built_next z (word z r.world) choice l b next t) (unlisted_puts next.activity u)
unlisted_own z r r' s choice l a l' (asks_of_pin next o n) h i u = no_call_of_pin _ h i.shape o
unlisted_own z r r' s choice l a l' (takes_cell m) h i u = ap (λ f. f l.row (given_in (word z r.world) l.row)) h.listed ∙ given_unlisted z r r' s choice l l' m h i
unlisted_own z r r' s choice l a l' (loses n) h i u = ap (λ f. f l.row l.cell) (lost_listed z r r' s choice l l' h i n) ∙ (i.lists.own s l h.knows).unlisted (subst IsUnlisted (sym h.activity) tt)
unlisted_own z r r' s choice l a l' stores_key h i u = ap (λ f. f l.row l.cell) h.listed ∙ (i.lists.own s l h.knows).unlisted (subst IsUnlisted (sym h.activity) tt)
unlisted_own z r r' s choice l a l' stores_value h i u = ap (λ f. f l.row l.cell) h.listed ∙ (i.lists.own s l h.knows).unlisted (subst IsUnlisted (sym h.activity) tt)
unlisted_own z r r' s choice l a l' (announces e) h i u = ap (λ f. f l.row l.cell) h.listed ∙ (i.lists.own s l h.knows).unlisted (subst IsUnlisted (sym h.activity) tt)
unlisted_own z r r' s choice l a l' loads_clock h i u = ap (λ f. f l.row l.cell) h.listed ∙ (i.lists.own s l h.knows).unlisted (subst IsUnlisted (sym h.activity) tt)
unlisted_own z r r' s choice l a l' (stamps e) h i u = ap (λ f. f l.row l.cell) h.listed ∙ (i.lists.own s l h.knows).unlisted (subst IsUnlisted (sym h.activity) tt)
unlisted_own z r r' s choice l a l' (is_stamped version e) h i u = ap (λ f. f l.row l.cell) h.listed ∙ (i.lists.own s l h.knows).unlisted (subst IsUnlisted (sym h.activity) tt)
unlisted_own z r r' s choice l a l' stores_version h i u = ap (λ f. f l.row l.cell) h.listed ∙ (i.lists.own s l h.knows).unlisted (subst IsUnlisted (sym h.activity) tt)
unlisted_own z r r' s choice l a l' (first_reaches c e) h i u = ap (λ f. f l.row l.cell) h.listed ∙ (i.lists.own s l h.knows).unlisted (subst IsUnlisted (sym h.activity) tt)
unlisted_own z r r' s choice l a l' (reaches_cell c e) h i u = ap (λ f. f l.row l.cell) h.listed ∙ (i.lists.own s l h.knows).unlisted (subst IsUnlisted (sym h.activity) tt)
unlisted_own z r r' s choice l a l' (first_sees_none e) h i u = ap (λ f. f l.row l.cell) h.listed ∙ (i.lists.own s l h.knows).unlisted (subst IsUnlisted (sym h.activity) tt)
unlisted_own z r r' s choice l a l' (sees_none e) h i u = ap (λ f. f l.row l.cell) h.listed ∙ (i.lists.own s l h.knows).unlisted (subst IsUnlisted (sym h.activity) tt)
unlisted_own z r r' s choice l a l' (inserts_behind guess inside e) h i u = ap (λ f. f l.row l.cell) h.listed ∙ (i.lists.own s l h.knows).unlisted (subst IsUnlisted (sym h.activity) tt)
unlisted_own z r r' s choice l a l' (inserts_at_first guess e) h i u = ap (λ f. f l.row l.cell) h.listed ∙ (i.lists.own s l h.knows).unlisted (subst IsUnlisted (sym h.activity) tt)
unlisted_own z r r' s choice l a l' (key_before e) h i u = ap (λ f. f l.row l.cell) h.listed ∙ (i.lists.own s l h.knows).unlisted (subst IsUnlisted (sym h.activity) tt)
unlisted_own z r r' s choice l a l' (key_same e) h i u = ap (λ f. f l.row l.cell) h.listed ∙ (i.lists.own s l h.knows).unlisted (subst IsUnlisted (sym h.activity) tt)
unlisted_own z r r' s choice l a l' (key_after e) h i u = ap (λ f. f l.row l.cell) h.listed ∙ (i.lists.own s l h.knows).unlisted (subst IsUnlisted (sym h.activity) tt)
unlisted_own z r r' s choice l a l' (version_before e) h i u = ap (λ f. f l.row l.cell) h.listed ∙ (i.lists.own s l h.knows).unlisted (subst IsUnlisted (sym h.activity) tt)
unlisted_own z r r' s choice l a l' (version_after e) h i u = ap (λ f. f l.row l.cell) h.listed ∙ (i.lists.own s l h.knows).unlisted (subst IsUnlisted (sym h.activity) tt)
unlisted_own z r r' s choice l a l' stores_after h i u = ap (λ f. f l.row l.cell) h.listed ∙ (i.lists.own s l h.knows).unlisted (subst IsUnlisted (sym h.activity) tt)
unlisted_own z r r' s choice l a l' (sees_stamped j c version next e n) h i u = look_puts z _ next n (unlisted_puts next u)
unlisted_own z r r' s choice l a l' (sees_neither j next e n) h i u = look_puts z _ next n (unlisted_puts next u)
unlisted_own z r r' s choice l a l' (is_gone_by next e n) h i u = look_puts z _ next n (unlisted_puts next u)
unlisted_own z r r' s choice l a l' (helps next e n) h i u = look_puts z _ next n (unlisted_puts next u)
unlisted_own z r r' s choice l a l' (finds_stamped c version next e n) h i u = look_puts z _ next n (unlisted_puts next u)
unlisted_own z r r' s choice l a l' (finds_other next e n) h i u = look_puts z _ next n (unlisted_puts next u)
unlisted_own z r r' s choice l a l' (first_ends next e n) h i u = cell_puts _ next n (unlisted_puts next.activity u)
unlisted_own z r r' s choice l a l' (list_ends next e n) h i u = cell_puts _ next n (unlisted_puts next.activity u)
unlisted_own z r r' s choice l a l' (key_above next e n) h i u = cell_puts _ next n (unlisted_puts next.activity u)
unlisted_own z r r' s choice l a l' (left_over_gone_by next e n) h i u = cell_puts _ next n (unlisted_puts next.activity u)
unlisted_own z r r' s choice l a l' (gathers_left_over next n) h i u = cell_puts _ next n (unlisted_puts next.activity u)
unlisted_own z r r' s choice l (Activity.Rebalance (Rebalance.Freeze f)) l' x h i u = balancing_puts l'.activity (freezing_goes z _ s choice l f l' x) (unlisted_puts l'.activity u)
unlisted_own z r r' s choice l (Activity.Rebalance (Rebalance.Gather g)) l' x h i u = balancing_puts l'.activity (gathering_goes z _ s choice l g l' x) (unlisted_puts l'.activity u)
unlisted_own z r r' s choice l a l' (marks_led count next d n) h i u = absurd (counted_not IsUnlisted (λ x. x) (λ x. x) n u)
unlisted_own z r r' s choice l a l' (decides count m next e n) h i u = absurd (counted_not IsUnlisted (λ x. x) (λ x. x) n u)
unlisted_own z r r' s choice l a l' _ h i u = absurd u

-- and it is once it is inserted
pub clear_puts : (b : Activity) → IsPutClear b → IsPutting b
clear_puts (Activity.Put Put.Clear) u = tt
clear_puts _ u = absurd u

listed_own : (z : Sizes) (r r' : Run) (s : ℕ) (choice : Choice) (l : Local) (a : Activity) (l' : Local) → Arrow z (word z r.world) s choice l a l' → Happens z r r' s choice l l' a → Below z r → IsPutClear l'.activity → r'.listed l'.row l'.cell ≡ true
listed_own z r r' s choice l a l' (builds b next y t) h i u = built_puts next.activity (built_next z (word z r.world) choice l b next t) (clear_puts next.activity u)
listed_own z r r' s choice l a l' (asks_of_pin next o n) h i u = no_call_of_pin _ h i.shape o
listed_own z r r' s choice l a l' (inserts e) h i u = ap (λ f. f l.cell) (ap (λ f. f l.row) (made_listed z r r' s choice l l' h i e) ∙ with_listed_here r.listed l.row l.cell) ∙ cell_here (r.listed l.row) l.cell
listed_own z r r' s choice l a l' (sees_stamped j c version next e n) h i u = look_puts z _ next n (clear_puts next u)
listed_own z r r' s choice l a l' (sees_neither j next e n) h i u = look_puts z _ next n (clear_puts next u)
listed_own z r r' s choice l a l' (is_gone_by next e n) h i u = look_puts z _ next n (clear_puts next u)
listed_own z r r' s choice l a l' (helps next e n) h i u = look_puts z _ next n (clear_puts next u)
listed_own z r r' s choice l a l' (finds_stamped c version next e n) h i u = look_puts z _ next n (clear_puts next u)
listed_own z r r' s choice l a l' (finds_other next e n) h i u = look_puts z _ next n (clear_puts next u)
listed_own z r r' s choice l a l' (first_ends next e n) h i u = cell_puts _ next n (clear_puts next.activity u)
listed_own z r r' s choice l a l' (list_ends next e n) h i u = cell_puts _ next n (clear_puts next.activity u)
listed_own z r r' s choice l a l' (key_above next e n) h i u = cell_puts _ next n (clear_puts next.activity u)
listed_own z r r' s choice l a l' (left_over_gone_by next e n) h i u = cell_puts _ next n (clear_puts next.activity u)
listed_own z r r' s choice l a l' (gathers_left_over next n) h i u = cell_puts _ next n (clear_puts next.activity u)
listed_own z r r' s choice l (Activity.Rebalance (Rebalance.Freeze f)) l' x h i u = balancing_puts l'.activity (freezing_goes z _ s choice l f l' x) (clear_puts l'.activity u)
listed_own z r r' s choice l (Activity.Rebalance (Rebalance.Gather g)) l' x h i u = balancing_puts l'.activity (gathering_goes z _ s choice l g l' x) (clear_puts l'.activity u)
listed_own z r r' s choice l a l' (marks_led count next d n) h i u = absurd (counted_not IsPutClear (λ x. x) (λ x. x) n u)
listed_own z r r' s choice l a l' (decides count m next e n) h i u = absurd (counted_not IsPutClear (λ x. x) (λ x. x) n u)
listed_own z r r' s choice l a l' _ h i u = absurd u

-- both, for the acting seat
pub own_listed : (z : Sizes) (r r' : Run) (s : ℕ) (choice : Choice) (l : Local) (a : Activity) (l' : Local) → Arrow z (word z r.world) s choice l a l' → Happens z r r' s choice l l' a → Below z r → IsOwnListed r'.listed l'.activity l'
own_listed z r r' s choice l a l' b h i = record { unlisted = unlisted_own z r r' s choice l a l' b h i; listed = listed_own z r r' s choice l a l' b h i }
