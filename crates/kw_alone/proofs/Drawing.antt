-- The facts of a seat and of its event are drawn from the invariant, and from what is known beyond.
use Rattle.std.proofs.Common.{ℕ, ◌≡◌, ◌≢◌, ◌*◌, ◌<◌, ◌≤◌, nat_lt, Option, Some, None, true, false, arith, refl, sym, ◌∙◌, ap, subst, length}
use Rattle.std.proofs.lemmas.Bool.{false_from_ne_true}
use Rattle.kw_words.specs.declared.layout.Name.TheVariants as name
use Rattle.kw_words.specs.declared.sizes.TheConstants.{MOST_CELLS, MOST_GROUP}
use Rattle.kw_words.specs.Layout.{IsWithin}
use Rattle.kw_words.specs.Plain.{key_of_word, value_of_word}
use Rattle.kw_cells.specs.declared.cell.Cell.{Cell}
use Rattle.kw_lists.specs.Counts.{count_below}
use Rattle.kw_lists.specs.Rows.{IsOn, Row}
use Rattle.kw_lists.specs.Words.{row_in}
use Rattle.kw_lists.proofs.Counting.{count_gains}
use Rattle.kw_lists.proofs.Walking.{not_behind}
use Rattle.kw_world.specs.declared.activity.Activity.{Activity}
use Rattle.kw_world.specs.declared.activity.insert.Insert.TheVariants as Insert
use Rattle.kw_world.specs.declared.activity.look.Look.TheVariants as Look
use Rattle.kw_world.specs.declared.activity.rebalance.Rebalance.TheVariants as Rebalance
use Rattle.kw_world.specs.declared.activity.rebalance.gather.Gather.TheVariants as Gather
use Rattle.kw_world.specs.declared.activity.rebalance.replace.Replace.TheVariants as Replace
use Rattle.kw_world.specs.declared.activity.rebalance.seek.Seek.TheVariants as Seek
use Rattle.kw_world.specs.declared.activity.rebalance.write.Write.TheVariants as Write
use Rattle.kw_world.specs.declared.event.Choice.{Choice}
use Rattle.kw_world.specs.declared.local.Local.{Local}
use Rattle.kw_world.specs.GroupPlaces.{place_in_group, places}
use Rattle.kw_world.specs.ListTransitions.{link_name}
use Rattle.kw_world.specs.Sane.{IsActivity, IsCellBelow, IsRowBelow, IsSane, marks_by}
use Rattle.kw_world.specs.Sizes.{Sizes}
use Rattle.kw_world.specs.Step.{word}
use Rattle.kw_world.specs.TakeTransitions.{cell_of_group}
use Rattle.kw_core.specs.History.{History}
use Rattle.kw_core.specs.Run.{Origins, Run}
use Rattle.kw_core.specs.Stages.{IsAtInsertLink, IsAtReadLink, IsAtRow}
use Rattle.kw_core.specs.Words.{Words}
use Rattle.kw_core.proofs.Arrows.{Arrow, builds, keeps_taken, keeps_left, keeps_no_more}
use Rattle.kw_core.proofs.Building.{IsBuilding}
use Rattle.kw_core.proofs.Happens.{Happens, knows_next}
use Rattle.kw_core.proofs.InfantFrames.{ChangesLeast, least_stays}
use Rattle.kw_puts.specs.Builds.{Builds, Gathering, IsGathering, has_place}
use Rattle.kw_puts.specs.Lists.{Inserts, list_in}
use Rattle.kw_puts.proofs.GatheredCells.{gathered_with, gathers_one}
use Rattle.kw_puts.proofs.GroupCells.{place_within, places_few}
use Rattle.kw_reads.specs.Inv.{Inv}
use Rattle.kw_laws.specs.Laws.{KeepsLaws}
use Rattle.kw_alone.specs.Facts.{Facts, IsAtTaken, IsBeforeNext, IsGatheringCell, LeavesLeast}
use Rattle.kw_alone.specs.Known.{AreKnown, IsWithRows}
use Rattle.kw_alone.specs.Prices.{group_cells}
use Rattle.kw_alone.specs.Rest.{up, gathered_places}
use Rattle.kw_alone.proofs.Counting.{count_same}
use Rattle.kw_alone.proofs.Grouping.{gathered_stays}

-- Ranges.

-- no more cells are remembered than there are entries
pub marks_few : (z : Sizes) (a : Activity) (l : Local) → IsActivity z a → l.looked < z.seats → marks_by z a l ≤ z.seats
marks_few z (Activity.Look (Look.Entry i)) l r o = omega (arith, r)
marks_few z (Activity.Look _) l r o = omega (arith, o)
marks_few z _ l r o = omega arith

-- a row of the table, if there is one
row_below : (rows : ℕ) (x : Option ℕ) (r : ℕ) → IsRowBelow rows x → x ≡ Some r → r < rows
row_below rows x r b e = subst (IsRowBelow rows) e b

-- rows that are gone through were taken
with_rows : (a : Activity) → IsAtTaken a → IsWithRows a
with_rows (Activity.Rebalance (Rebalance.Seek Seek.GiveBack)) x = tt
with_rows (Activity.Rebalance (Rebalance.Replace Replace.Normalise)) x = tt
with_rows _ x = absurd x

-- The least keys.

changes_none : (a : Activity) (s : ℕ) (l : Local) (q : ℕ) → LeavesLeast a → ChangesLeast a s l q → ⊥
changes_none (Activity.Rebalance (Rebalance.Write Write.Least)) s l q x c = x
changes_none _ s l q x c = c

module _ {z : Sizes} {r r' : Run} {s : ℕ} {choice : Choice} {l l' : Local} where
  ups_stay : (a : Activity) → Happens z r r' s choice l l' a → LeavesLeast a → (b : ℕ) → up (word z r'.world) r.world.rows b ≡ up (word z r.world) r.world.rows b
  ups_stay a h x b = count_same r.world.rows _ _ (λ q o. ap (λ w. nat_lt b (key_of_word w)) (least_stays a h q o (changes_none a s l q x)))

-- A put's link.

-- it has a place among the words
link_within : (z : Sizes) (rows q : ℕ) (link : Option ℕ) → q < rows → IsCellBelow z.cells link → IsWithin z.seats z.cells rows (link_name q link)
link_within z rows q (Some c) o u = (o, u)
link_within z rows q None o u = o

-- its word is no greater than there are cells
links_few : (z : Sizes) (r : Run) (q : ℕ) (link : Option ℕ) → IsSane z r.world → q < r.world.rows → IsCellBelow z.cells link → word z r.world (link_name q link) ≤ MOST_CELLS
links_few z r q (Some c) sane o u = omega (arith, sane.each (name.After q c) (o, u), sane.sized.few_cells)
links_few z r q None sane o u = omega (arith, sane.each (name.First q) o, sane.sized.few_cells)

-- it is not that after the own cell, which is not listed
link_apart : (row : Row) (q own : ℕ) (link : Option ℕ) → IsOn row link → row.listed own ≡ false → link_name q link ≢ name.After q own
link_apart row q own None o u e = absurd (cc)
link_apart row q own (Some c) o u e =
    let d : own ≡ c = cc in
    let x : true ≡ false = sym o ∙ subst (λ b. row.listed b ≡ false) d u in
    absurd (cc)

apart_by : (z : Sizes) (r r' : Run) (s : ℕ) (choice : Choice) (l l' : Local) → Happens z r r' s choice l l' (Activity.Insert Insert.Set) → Inv z r → word z r'.world (link_name l.row l.link) ≡ word z r.world (link_name l.row l.link)
apart_by z r r' s choice l l' h i =
    let known = i.shape.sane.locals s l h.knows in
    let at = subst (λ b. Inserts z.cells (list_in (word z r.world) r.listed l.row) b l) h.activity (i.lists.inserts s l h.knows) in
    h.changed.other (link_name l.row l.link) (link_within z r.world.rows l.row l.link known.below.row known.ranges.link)
    (link_apart (list_in (word z r.world) r.listed l.row) l.row l.cell l.link at.0.from.on at.0.from.unlisted)

-- Cells that are gathered.

no_gathering : (a : Activity) → IsBuilding a → IsGatheringCell a → ⊥
no_gathering (Activity.Rebalance (Rebalance.Seek _)) b x = x
no_gathering (Activity.Rebalance (Rebalance.Write _)) b x = x
no_gathering (Activity.Rebalance (Rebalance.Replace _)) b x = x
no_gathering _ b x = b

-- the cell that is read is put among those that were
gathered_by : (z : Sizes) (v : Words) (s : ℕ) (choice : Choice) (l : Local) (a : Activity) (next : Local) → Arrow z v s choice l a next → IsGatheringCell a → next.rebalance.gathered ≡ gathered_with (MOST_GROUP * z.cells) (cell_of_group z (value_of_word (v (name.Value l.rebalance.hand l.place))) l) l.rebalance.gathered
gathered_by z v s choice l a next (builds b k y t) x = absurd (no_gathering b y x)
gathered_by z v s choice l a next keeps_taken x = refl
gathered_by z v s choice l a next (keeps_left m e o) x = refl
gathered_by z v s choice l a next (keeps_no_more k o y) x = gathered_stays z _ k y
gathered_by z v s choice l a next _ x = absurd x

-- none of its place was gathered
place_fresh : (z : Sizes) (row : Row) (h : History) (o : Origins) (a : Activity) (l : Local) → Gathering z row h o a l → IsGatheringCell a → has_place (place_in_group z l.rebalance l.place) l.rebalance.gathered ≡ false
place_fresh z row h o (Activity.Rebalance (Rebalance.Gather Gather.Value)) l n x = false_from_ne_true _ (λ e. not_behind row l.link l.place (n.gone_by tt l.place e).1 (n.behind tt).1)
place_fresh z row h o (Activity.Rebalance (Rebalance.Gather Gather.LeftOverValue)) l n x = n.fresh tt (λ u. u)
place_fresh z row h o _ l n x = absurd x

gathering_of : (a : Activity) → IsGatheringCell a → IsGathering a
gathering_of (Activity.Rebalance (Rebalance.Gather _)) x = tt
gathering_of _ x = absurd x

-- so one place more has a cell
place_gained : (z : Sizes) (l : Local) (c : Cell) → l.place < z.cells → c.place ≡ place_in_group z l.rebalance l.place → has_place c.place l.rebalance.gathered ≡ false → length l.rebalance.gathered ≤ count_below (places z l.rebalance.second) (λ p. has_place p l.rebalance.gathered) →
    gathered_places z l.rebalance.gathered < gathered_places z (gathered_with (MOST_GROUP * z.cells) c l.rebalance.gathered)
place_gained z l c u e f few =
    let within : c.place < places z l.rebalance.second = omega (arith, e, place_within z l.rebalance l.place u) in
    let more = gathers_one (places z l.rebalance.second) (MOST_GROUP * z.cells) c l.rebalance.gathered (places_few z l.rebalance.second) within f few in
    count_gains (group_cells z) (λ p. has_place p l.rebalance.gathered) (λ p. has_place p (gathered_with (MOST_GROUP * z.cells) c l.rebalance.gathered)) c.place (omega (arith, within, places_few z l.rebalance.second)) f more.new more.old

gathers_by : (z : Sizes) (r r' : Run) (s : ℕ) (choice : Choice) (l : Local) (a : Activity) (l' : Local) → Happens z r r' s choice l l' a → Inv z r → IsGatheringCell a → gathered_places z l.rebalance.gathered < gathered_places z l'.rebalance.gathered
gathers_by z r r' s choice l a l' h i x =
    let row = row_in (word z r.world) l.rebalance.hand (r.listed l.rebalance.hand) in
    let builds = subst (λ b. Builds z row r.history r.origin r.listed b l) h.activity (i.puts.builds s l h.knows) in
    let n = builds.gathering (gathering_of a x) in
    let fresh = place_fresh z row r.history r.origin a l n x in
    let c = cell_of_group z (value_of_word (word z r.world (name.Value l.rebalance.hand l.place))) l in
    let gained = place_gained z l c (i.shape.sane.locals s l h.knows).ranges.place refl fresh n.few in
    subst (λ g. gathered_places z l.rebalance.gathered < gathered_places z g) (sym (gathered_by z (word z r.world) s choice l a l' h.arrow x)) gained

-- All of it.

pub facts_hold : (z : Sizes) (r r' : Run) (s : ℕ) (choice : Choice) (l : Local) (a : Activity) (l' : Local) → Happens z r r' s choice l l' a → KeepsLaws z r → Inv z r → Inv z r' → AreKnown z r → Facts z r.world.rows (word z r.world) (word z r'.world) a l l'
facts_hold z r r' s choice l a l' h k i after n =
    let known = i.shape.sane.locals s l h.knows in
    let next = after.shape.sane.locals s l' (knows_next h) in
    record {
      range = subst (IsActivity z) h.activity known.ranges.activity;
      looked = known.ranges.looked;
      remembered = omega (arith, next.room.remembered, marks_few z l'.activity l' next.ranges.activity next.ranges.looked);
      reads_on = λ x. k.reads_on s l h.knows (subst IsAtReadLink (sym h.activity) x);
      walked = λ x. k.walked s l h.knows (subst IsAtInsertLink (sym h.activity) x);
      links = λ x. links_few z r l.row l.link i.shape.sane known.below.row known.ranges.link;
      apart = λ e. apart_by z r r' s choice l l' (subst (Happens z r r' s choice l l') e h) i;
      ups = ups_stay a h;
      candidate = known.below.candidate;
      climbs = λ e. k.climbs s l h.knows (h.activity ∙ e);
      climbs_before = λ x. n.climbs s l h.knows (subst IsBeforeNext (sym h.activity) x);
      right = λ x q e.
          let there = subst IsAtRow (sym h.activity) x in
          record { row = row_below r.world.rows l.next q known.below.next e; least = (((i.shape.walks s l h.knows).at there).next q e).least; above = k.climbs_on s l h.knows there q e };
      gathers = gathers_by z r r' s choice l a l' h i;
      asked = subst (λ m. l'.rebalance.asked ≤ m) h.rows next.below.rebalance.asked;
      taken = λ x. omega (arith, known.ranges.rebalance.at, (n.taken s l h.knows).some (with_rows l.activity (subst IsAtTaken (sym h.activity) x)));
    }
