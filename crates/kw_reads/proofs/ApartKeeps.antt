-- A reader gathers no cell twice: what it reached on its walk it has gone by, and it remembers such
-- a cell no more.
use Rattle.std.proofs.Common.{ℕ, ◌≡◌, ◌⊎◌, inl, inr, ◌+◌, ◌<◌, ◌≤◌, Bool, true, false, Option, Some, [], arith, refl, sym, subst, length}
use Rattle.std.specs.Prelude.{insert}
use Rattle.kw_words.specs.Plain.{value_of_word}
use Rattle.kw_words.specs.declared.layout.Name.TheVariants as name
use Rattle.kw_cells.specs.InOrder.{index_in}
use Rattle.kw_cells.proofs.InOrder.{index_in-within}
use Rattle.kw_lists.specs.Counts.{count_below}
use Rattle.kw_lists.specs.Rows.{Row}
use Rattle.kw_lists.specs.Walks.{IsGoneBy}
use Rattle.kw_lists.proofs.Walking.{not_behind, gone_by_next}
use Rattle.kw_world.specs.declared.activity.Activity.{Activity}
use Rattle.kw_world.specs.declared.activity.read.Read.TheVariants as Read
use Rattle.kw_world.specs.declared.local.Local.{Local}
use Rattle.kw_world.specs.declared.event.Choice.{Choice}
use Rattle.kw_world.specs.Marks.{is_marked}
use Rattle.kw_world.specs.ReadTransitions.{remembering, cell_in_hand, gathering}
use Rattle.kw_world.specs.Sizes.{Sizes}
use Rattle.kw_world.specs.Step.{word}
use Rattle.kw_core.specs.Run.{Run}
use Rattle.kw_core.specs.Stages.{IsAtRead, IsLooking, IsTaking}
use Rattle.kw_puts.specs.Lists.{list_in}
use Rattle.kw_puts.proofs.Owners.{true_false}
use Rattle.kw_puts.specs.Builds.{has_place}
use Rattle.kw_reads.specs.Readers.{HasReachedCell, Apart}
use Rattle.kw_reads.specs.Inv.{Inv}
use Rattle.kw_core.proofs.Arrows.{builds, NextLook, looks, lists, NextLeftOver, goes_to_left_over, answers, ends_scan, scans_on, Arrow, sees_stamped, sees_neither, is_gone_by, helps, finds_stamped, finds_other, list_leads, list_ends, key_below, key_within, key_above, loads_version, gathers_listed, left_over_wanted, left_over_gone_by, gathers_left_over, first_ends, begins_at_first, begins_behind, first_leads, asks_of_pin}
use Rattle.kw_core.proofs.Happens.{Happens}
use Rattle.kw_core.proofs.Marks.{least_marked, marked_back, marked_none}
use Rattle.kw_reads.proofs.BuiltReads.{after_rests, rebalance_next}
use Rattle.kw_puts.proofs.GatheredCells.{place_back, few_more, few_room, gathered_at}
use Rattle.kw_reads.proofs.Ready.{apart_lasts}
use Rattle.kw_reads.proofs.WalksKeep.{row_left, walks_before, walks_after}
use Rattle.kw_shape.proofs.AfterBuilding.{no_call_of_pin}

-- of what a reader has gathered no cell is there twice, and none that is remembered
record ApartLeft (z : Sizes) (l : Local) : Type 0 where
  few : length l.gathered ≤ count_below z.cells (λ c. has_place c l.gathered)
  unmarked : (c : ℕ) → is_marked c l.remembered ≡ true → has_place c l.gathered ≡ false

-- a test is false where it is not true
is_not : (b : Bool) → (b ≡ true → ⊥) → b ≡ false
is_not true f = absurd (f refl)
is_not false f = refl

-- where nothing is gathered
apart_none : (z : Sizes) (row : Row) (l : Local) → l.gathered ≡ [] → Apart z row (Activity.Read Read.Start) l
apart_none z row l e = record {
  few = rw e (omega arith);
  unmarked = λ c m. rw e refl;
  listed = λ y c x. absurd (nothing c x);
  gone_by = λ y c x. absurd (nothing c x);
  fresh = λ y. absurd y;
  hand = λ y. absurd y;
}
  where
    nothing : (c : ℕ) → has_place c l.gathered ≡ true → ⊥
    nothing c x = let y : false ≡ true = rw e at x in cc

-- at the next look, or at the row's first link
apart_look : (z : Sizes) (row : Row) (j : ℕ) (next : Activity) (l : Local) → NextLook z j next → IsTaking next → l.gathered ≡ [] → Apart z row next (record l { activity = next })
apart_look z row j _ l (looks w) x e = absurd x
apart_look z row j _ l (lists w) x e = let m = apart_none z row l e in record { few = m.few; unmarked = m.unmarked; listed = m.listed; gone_by = m.gone_by; fresh = λ y. absurd y; hand = λ y. absurd y }

-- with the least of the remembered cells in hand
apart_left_over : (z : Sizes) (row : Row) (l next : Local) → NextLeftOver l next → IsTaking next.activity → ApartLeft z l → Apart z row next.activity next
apart_left_over z row l _ (goes_to_left_over m e) x k = record {
  few = k.few;
  unmarked = λ c y. k.unmarked c (marked_back c m.cell l.remembered y);
  listed = λ y. absurd y;
  gone_by = λ y. absurd y;
  fresh = λ y. k.unmarked m.cell (least_marked l.remembered m e);
  hand = λ y. marked_none m.cell l.remembered;
}
apart_left_over z row l _ (answers c e) x k = absurd x
apart_left_over z row l _ (ends_scan c e f) x k = absurd x
apart_left_over z row l _ (scans_on q c e f u) x k = absurd x

-- the cell in hand, of which the key is known, is not gathered
pub hand_fresh : (z : Sizes) (row : Row) (l : Local) → HasReachedCell z.cells row l → Apart z row (Activity.Read Read.Value) l → has_place l.place l.gathered ≡ false
hand_fresh z row l k x = is_not (has_place l.place l.gathered) (λ e. not_behind row l.link l.place (x.gone_by tt l.place e) k.behind)

-- one more is gathered
module _ (z : Sizes) (row : Row) (a : Activity) (l : Local) (value : Option ℕ) (x : Apart z row a l) (w : l.place < z.cells) (f : has_place l.place l.gathered ≡ false) (m : is_marked l.place l.remembered ≡ false) where
  -- there is room for it
  pub gather_room : length l.gathered < z.cells
  gather_room = few_room z.cells l.place l.gathered w f (omega (arith, x.few))

  -- where it is put
  pub gather_is : (gathering z value l).gathered ≡ insert l.gathered (index_in (cell_in_hand value l) l.gathered) (cell_in_hand value l)
  gather_is = gathered_at z.cells (cell_in_hand value l) l.gathered gather_room f

  -- a place that is gathered then was, or is its
  gather_back : (c : ℕ) → has_place c (gathering z value l).gathered ≡ true → (c ≡ l.place) ⊎ (has_place c l.gathered ≡ true)
  gather_back c e = place_back (cell_in_hand value l) l.gathered (index_in (cell_in_hand value l) l.gathered) c (rw gather_is at e)

  -- none is there twice
  gather_left : ApartLeft z (gathering z value l)
  gather_left = record {
    few = subst (λ cells. length cells ≤ count_below z.cells (λ c. has_place c cells)) (sym gather_is)
        (let y = few_more z.cells (cell_in_hand value l) l.gathered (index_in (cell_in_hand value l) l.gathered) (omega (arith, index_in-within (cell_in_hand value l) l.gathered)) w f (omega (arith, x.few)) in omega (arith, y));
    unmarked = λ c n. is_not _ (λ e. which c n (gather_back c e));
  }
    where
      which : (c : ℕ) → is_marked c l.remembered ≡ true → (c ≡ l.place) ⊎ (has_place c l.gathered ≡ true) → ⊥
      which c n (inl e) = true_false n (rw e m)
      which c n (inr e) = true_false e (x.unmarked c n)

-- a reader that goes on with the same cells gathered
module _ {z : Sizes} {r r' : Run} {s : ℕ} {choice : Choice} {l l' : Local} {a : Activity} (h : Happens z r r' s choice l l' a) (i : Inv z r) where
  -- no cell was gathered twice
  pub apart_before : IsTaking a → Apart z (list_in (word z r.world) r.listed l.row) a l
  apart_before x = subst (λ c. Apart z (list_in (word z r.world) r.listed l.row) c l) h.activity (i.readers.apart s l h.knows (subst IsTaking (sym h.activity) x))

  pub apart_after : IsAtRead a → IsTaking a → Apart z (list_in (word z r'.world) r'.listed l.row) a l
  apart_after y x = apart_lasts z _ _ (row_left h i y) a l (walks_before h i) (apart_before x)

  -- nothing was gathered while it looked
  pub none_gathered : IsLooking a → l.gathered ≡ []
  none_gathered x = (i.readers.gathers s l h.knows).empty (subst IsLooking (sym h.activity) x)

  -- the cell in hand is one of the row's
  pub place_below : l.place < z.cells
  place_below = (i.shape.sane.locals s l h.knows).ranges.place

  -- none is there twice
  left_after : IsAtRead a → IsTaking a → ApartLeft z l
  left_after y x = let k = apart_after y x in record { few = k.few; unmarked = k.unmarked }

-- the value of the cell in hand
abbrev value_found : Sizes → Run → Local → Option ℕ
value_found z r l = value_of_word (word z r.world (name.Value l.row l.place))

-- a cell of the list is gathered, and gone by
apart_listed : {z : Sizes} {r r' : Run} {s : ℕ} {choice : Choice} {l l' : Local} (h : Happens z r r' s choice l l' (Activity.Read Read.Value)) (i : Inv z r) (k : Local) → k.gathered ≡ (gathering z (value_found z r l) l).gathered → k.remembered ≡ l.remembered → k.link ≡ Some l.place → Apart z (list_in (word z r'.world) r'.listed l.row) (Activity.Read Read.Link) k
apart_listed {z} {r} {r'} {s} {choice} {l} {l'} h i k g m e = record {
  few = rw g left.few;
  unmarked = λ c n. rw g (left.unmarked c (rw m at n));
  listed = λ y c n. listed c (back c (rw g at n));
  gone_by = λ y c n. rw e (gone_by c (back c (rw g at n)));
  fresh = λ y. absurd y;
  hand = λ y. absurd y;
}
  where
    x : Apart z (list_in (word z r'.world) r'.listed l.row) (Activity.Read Read.Value) l
    x = apart_after h i tt tt

    saw : HasReachedCell z.cells (list_in (word z r'.world) r'.listed l.row) l
    saw = walks_after h i tt

    left : ApartLeft z (gathering z (value_found z r l) l)
    left = gather_left z (list_in (word z r'.world) r'.listed l.row) (Activity.Read Read.Value) l (value_found z r l) x (place_below h i) (hand_fresh z (list_in (word z r'.world) r'.listed l.row) l saw x) (x.hand tt)

    back : (c : ℕ) → has_place c (gathering z (value_found z r l) l).gathered ≡ true → (c ≡ l.place) ⊎ (has_place c l.gathered ≡ true)
    back = gather_back z (list_in (word z r'.world) r'.listed l.row) (Activity.Read Read.Value) l (value_found z r l) x (place_below h i) (hand_fresh z (list_in (word z r'.world) r'.listed l.row) l saw x) (x.hand tt)

    listed : (c : ℕ) → (c ≡ l.place) ⊎ (has_place c l.gathered ≡ true) → r'.listed l.row c ≡ true
    listed c (inl f) = rw f saw.walks.on
    listed c (inr f) = x.listed tt c f

    gone_by : (c : ℕ) → (c ≡ l.place) ⊎ (has_place c l.gathered ≡ true) → IsGoneBy (list_in (word z r'.world) r'.listed l.row) (Some l.place) c
    gone_by c (inl f) = inl f
    gone_by c (inr f) = gone_by_next (list_in (word z r'.world) r'.listed l.row) l.link l.place c saw.behind (x.gone_by tt c f)

-- no cell is gathered twice by the acting reader
pub apart_by : (z : Sizes) (r r' : Run) (s : ℕ) (choice : Choice) (l : Local) (a : Activity) (l' : Local) → Arrow z (word z r.world) s choice l a l' → Happens z r r' s choice l l' a → Inv z r → IsTaking l'.activity → Apart z (list_in (word z r'.world) r'.listed l'.row) l'.activity l'
apart_by z r r' s choice l (Activity.Rebalance b) l' x h i p = after_rests l'.activity (rebalance_next z (word z r.world) s choice l b l' x) (inr p)
apart_by z r r' s choice l a l' (builds b next y t) h i p = absurd y
apart_by z r r' s choice l a l' (asks_of_pin next o n) h i p = no_call_of_pin _ h i.shape o
apart_by z r r' s choice l _ _ (sees_stamped j c version next e n) h i p = apart_look z _ (j + 1) next (remembering c version l) n p (none_gathered h i tt)
apart_by z r r' s choice l _ _ (sees_neither j next e n) h i p = apart_look z _ (j + 1) next l n p (none_gathered h i tt)
apart_by z r r' s choice l _ _ (is_gone_by next e n) h i p = apart_look z _ (l.looked + 1) next l n p (none_gathered h i tt)
apart_by z r r' s choice l _ _ (helps next e n) h i p = apart_look z _ (l.looked + 1) next (remembering l.saw l.helping l) n p (none_gathered h i tt)
apart_by z r r' s choice l _ _ (finds_stamped c version next e n) h i p = apart_look z _ (l.looked + 1) next (remembering c version l) n p (none_gathered h i tt)
apart_by z r r' s choice l _ _ (finds_other next e n) h i p = apart_look z _ (l.looked + 1) next l n p (none_gathered h i tt)
apart_by z r r' s choice l _ _ (begins_behind c inside e) h i p = let x = apart_after h i tt tt in record {
  few = x.few;
  unmarked = x.unmarked;
  listed = x.listed;
  gone_by = λ y d m. absurd (subst (λ at. IsGoneBy (list_in (word z r'.world) r'.listed l.row) at d) (walks_after h i tt).0 (x.gone_by tt d m));
  fresh = λ y. absurd y;
  hand = λ y. absurd y;
}
apart_by z r r' s choice l _ _ (begins_at_first guess e) h i p = let x = apart_after h i tt tt in record { few = x.few; unmarked = x.unmarked; listed = x.listed; gone_by = x.gone_by; fresh = λ y. absurd y; hand = λ y. absurd y }
apart_by z r r' s choice l _ _ (first_leads c e) h i p = let x = apart_after h i tt tt in record {
  few = x.few;
  unmarked = λ d m. x.unmarked d (marked_back d c l.remembered m);
  listed = x.listed;
  gone_by = x.gone_by;
  fresh = λ y. absurd y;
  hand = λ y. marked_none c l.remembered;
}
apart_by z r r' s choice l _ _ (list_leads c e) h i p = let x = apart_after h i tt tt in record {
  few = x.few;
  unmarked = λ d m. x.unmarked d (marked_back d c l.remembered m);
  listed = x.listed;
  gone_by = x.gone_by;
  fresh = λ y. absurd y;
  hand = λ y. marked_none c l.remembered;
}
apart_by z r r' s choice l _ _ (first_ends next e n) h i p = apart_left_over z _ l next n p (left_after h i tt tt)
apart_by z r r' s choice l _ _ (list_ends next e n) h i p = apart_left_over z _ l next n p (left_after h i tt tt)
apart_by z r r' s choice l _ _ (key_below e) h i p = let x = apart_after h i tt tt in record {
  few = x.few;
  unmarked = x.unmarked;
  listed = x.listed;
  gone_by = λ y c m. gone_by_next (list_in (word z r'.world) r'.listed l.row) l.link l.place c (walks_after h i tt).behind (x.gone_by tt c m);
  fresh = λ y. absurd y;
  hand = λ y. absurd y;
}
apart_by z r r' s choice l _ _ (key_within e w) h i p = let x = apart_after h i tt tt in record { few = x.few; unmarked = x.unmarked; listed = x.listed; gone_by = x.gone_by; fresh = λ y. absurd y; hand = x.hand }
apart_by z r r' s choice l _ _ (key_above next e n) h i p = apart_left_over z _ l next n p (left_after h i tt tt)
apart_by z r r' s choice l _ _ loads_version h i p = let x = apart_after h i tt tt in record { few = x.few; unmarked = x.unmarked; listed = x.listed; gone_by = x.gone_by; fresh = λ y. absurd y; hand = x.hand }
apart_by z r r' s choice l _ _ gathers_listed h i p = apart_listed h i _ refl refl refl
apart_by z r r' s choice l _ _ (left_over_wanted e) h i p = let x = apart_after h i tt tt in record { few = x.few; unmarked = x.unmarked; listed = λ y. absurd y; gone_by = λ y. absurd y; fresh = x.fresh; hand = x.hand }
apart_by z r r' s choice l _ _ (left_over_gone_by next e n) h i p = apart_left_over z _ l next n p (left_after h i tt tt)
apart_by z r r' s choice l _ _ (gathers_left_over next n) h i p =
    let x = apart_after h i tt tt in apart_left_over z _ (gathering z (value_found z r l) l) next n p (gather_left z _ (Activity.Read Read.LeftOverValue) l (value_found z r l) x (place_below h i) (x.fresh tt) (x.hand tt))
apart_by z r r' s choice l a l' b h i p = absurd p
