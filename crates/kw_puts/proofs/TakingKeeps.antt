-- Every event keeps what a seat that rebalances knows of what it gathers: where it begins to gather
-- a row of its group each stamped cell of that is remembered or listed, and once it has its plan
-- all of the group is gathered, and what is kept stands for attempts.
use Rattle.std.proofs.Common.{ℕ, ◌≡◌, ◌⊎◌, inl, inr, ◌<◌, Some, None, [], refl, sym, ◌∙◌, ap, subst, All, slice_get}
use Rattle.std.proofs.lemmas.List.Elements.{All-nil}
use Rattle.kw_words.specs.declared.layout.Name.TheVariants as name
use Rattle.kw_words.specs.Plain.{value_of_word}
use Rattle.kw_cells.proofs.KeptOf.{kept_of-all}
use Rattle.kw_lists.specs.Rows.{Row}
use Rattle.kw_world.specs.declared.activity.Activity.{Activity}
use Rattle.kw_world.specs.declared.activity.rebalance.engage.Engage.TheVariants as Engage
use Rattle.kw_world.specs.declared.activity.rebalance.gather.Gather.{Gather}
use Rattle.kw_world.specs.declared.activity.rebalance.gather.Gather.TheVariants as Gather
use Rattle.kw_world.specs.declared.activity.rebalance.Rebalance.TheVariants as Rebalance
use Rattle.kw_world.specs.declared.activity.rebalance.seek.Seek.TheVariants as Seek
use Rattle.kw_world.specs.declared.activity.rebalance.replace.Replace.TheVariants as Replace
use Rattle.kw_world.specs.declared.local.Local.{Local}
use Rattle.kw_world.specs.declared.event.Choice.{Choice}
use Rattle.kw_world.specs.GroupPlaces.{at_last_row, places, source}
use Rattle.kw_world.specs.Sizes.{Sizes}
use Rattle.kw_world.specs.Step.{word}
use Rattle.kw_world.specs.TakeTransitions.{keeping, to_list}
use Rattle.kw_core.specs.History.{History}
use Rattle.kw_core.specs.Run.{Origins, Run}
use Rattle.kw_core.specs.Step.{Step}
use Rattle.kw_core.specs.Words.{Words}
use Rattle.kw_core.proofs.Arrows.{builds, Arrow, decides, marks_led, asks_of_pin, looks_at_pin}
use Rattle.kw_core.proofs.Arrows.{sees_stamped, sees_neither, is_gone_by, helps, finds_stamped, finds_other, list_ends, key_above, left_over_gone_by, gathers_left_over}
use Rattle.kw_core.proofs.Arrows.{remembers_last, sees_frozen_last, freezes_last, sees_quiet_last, sees_drawn_last, settles_last, finds_drawn_last, finds_no_scan_last}
use Rattle.kw_core.proofs.Arrows.{take_leads, takes_left, takes_no_more, takes_key, takes_version, keeps_taken, takes_left_key, keeps_left, keeps_no_more, first_ends}
use Rattle.kw_core.proofs.Building.{Building, replaces_row, makes_normal, makes_last_normal, draws_number, retires_ahead, retires_row, IsBuilding, retires_and_leaves}
use Rattle.kw_core.proofs.BuiltNext.{BuiltKeeps, IsAfterBuilding, built_keeps, built_next}
use Rattle.kw_core.proofs.Grouping.{goes_alone, claims_row, NextCounted, IsNoneLeft, NextFrozen, freezes_ahead, froze_all, NextGathered, gathers_ahead, gathered_all}
use Rattle.kw_core.proofs.Happens.{Happens, log_entry, each_seat}
use Rattle.kw_rows.specs.Rows.{WasLinked}
use Rattle.kw_shape.specs.Hands.{Hand, at_first, at_second, HasHand, IsAllFrozen, IsOfGroup}
use Rattle.kw_shape.specs.Infants.{nursing_of}
use Rattle.kw_shape.proofs.Hands.{ahead_second, frozen_group, hand_of_group, same_group, same_hand}
use Rattle.kw_puts.specs.Below.{Below}
use Rattle.kw_puts.specs.Builds.{IsGathered, IsGathering, Gathering, HasPlanned, HasTaken, HasTakenKey, HasTakenVersion}
use Rattle.kw_puts.specs.Freezes.{HasFrozen, IsMarkOf, IsRemembering, IsToWalk}
use Rattle.kw_puts.specs.Lists.{list_in}
use Rattle.kw_puts.proofs.Freezes.{all_passed, left_over_freezes, look_freezes}
use Rattle.kw_puts.proofs.Gathering.{AreOfGroup, Gathers, gathered_of_group, gathers_frozen, gathers_last, gathers_other, leaves_group, rows_linked}
use Rattle.kw_puts.proofs.GroupRows.{all_frozen, second_apart}
use Rattle.kw_puts.proofs.Taking.{IsBegun, IsLeft, begins_ahead, begins_first, begins_walk, holds_all, keeps_gathered, keeps_listed, keeps_left_over, takes_cell, takes_its_key, takes_its_version, takes_least, takes_left_over_key, walk_ended}
use Rattle.kw_shape.proofs.AfterBuilding.{no_call_of_pin, kind_at}

-- The events that build rows.

-- a seat that has its plan after such an event had it
was_planned : (z : Sizes) (v : Words) (choice : Choice) (l : Local) (a : Activity) (k : Local) → Building z v choice l a k → HasPlanned (nursing_of k.activity) → HasPlanned (nursing_of a)
was_planned z v choice l a k (replaces_row e) x = absurd x
was_planned z v choice l a k (makes_normal o) x = absurd x
was_planned z v choice l a k (makes_last_normal o) x = absurd x
was_planned z v choice l a k draws_number x = absurd x
was_planned z v choice l a k (retires_ahead q e) x = absurd x
was_planned z v choice l a k (retires_row e nd) x = absurd x
was_planned z v choice l a k (retires_and_leaves e dn) x = absurd x
was_planned z v choice l a k _ x = tt

-- a seat that has its plan builds
planned_builds : (a : Activity) → IsAfterBuilding a → HasPlanned (nursing_of a) → IsBuilding a
planned_builds Activity.Retry o x = x
planned_builds (Activity.Leave answer) o x = x
planned_builds (Activity.Rebalance (Rebalance.Engage Engage.Clock)) o x = x
planned_builds (Activity.Rebalance (Rebalance.Seek Seek.Next)) o x = o
planned_builds (Activity.Rebalance (Rebalance.Replace Replace.First)) o x = o
planned_builds _ o x = o

-- and after such an event none gathers
gathers_before : (a : Activity) → IsAfterBuilding a → IsGathering a → ⊥
gathers_before (Activity.Rebalance (Rebalance.Gather _)) o x = o
gathers_before (Activity.Rebalance (Rebalance.Engage Engage.Clock)) o x = x
gathers_before _ o x = x

-- The acting seat.

module _ (z : Sizes) (r r' : Run) (s : ℕ) (choice : Choice) (l : Local) (a : Activity) (l' : Local) (h : Happens z r r' s choice l l' a) (i : Below z r) (st : Step r.history r'.history (log_entry z r a s choice l)) where
  -- what it knew
  was : Gathers z (list_in (word z r.world) r.listed l.rebalance.hand) r.history r.origin a l
  was = let b = i.puts.builds s l h.knows in subst (λ c. Gathers z (list_in (word z r.world) r.listed l.rebalance.hand) r.history r.origin c l) h.activity (record { gathering = b.gathering; gathered = b.gathered; collected = b.collected; kept = b.kept; holds = b.holds })

  -- what it remembers
  own_marks : IsRemembering a → All (IsMarkOf r.history (source z r.origin l)) l.rebalance.marks
  own_marks x = (i.puts.remembers s l h.knows).marks (subst IsRemembering (sym h.activity) x)

  -- where its group is frozen, the rows are as they were
  module _ (p : IsAllFrozen a) where
    frozen : IsAllFrozen l.activity
    frozen = subst IsAllFrozen (sym h.activity) p

    apart : l.rebalance.second ≡ Some l.row → ⊥
    apart = second_apart z r i.shape s l h.knows (frozen_group l.activity l l.row (all_frozen l.activity l l.row frozen (inl refl)))

    -- what it knows of the same group over the run before its event it knows after it
    carried : (b : Activity) (k : Local) → k.row ≡ l.row → k.rebalance.second ≡ l.rebalance.second → (IsGathering b → Hand k) → (HasPlanned (nursing_of b) → AreOfGroup z k k.rebalance.gathered) → (HasPlanned (nursing_of b) → AreOfGroup z k k.rebalance.kept) →
        Gathers z (list_in (word z r.world) r.listed k.rebalance.hand) r.history r.origin b k → Gathers z (list_in (word z r'.world) r'.listed k.rebalance.hand) r'.history r'.origin b k
    carried b k row second hand gathered kept n = gathers_last z (word z r.world) (word z r'.world) r.listed r'.listed r.history r'.history r.origin r'.origin b k (λ x q y. leaves_group z r r' s choice l a l' h i s l h.knows frozen st q (same_group l k row second q y)) hand gathered kept n

    -- where it gathers
    on : (b : Activity) (k : Local) → k.row ≡ l.row → k.rebalance.second ≡ l.rebalance.second → Hand k → (HasPlanned (nursing_of b) → ⊥) → Gathering z (list_in (word z r.world) r.listed k.rebalance.hand) r.history r.origin b k → All (IsGathered r.history (source z r.origin k)) k.rebalance.gathered →
        Gathers z (list_in (word z r'.world) r'.listed k.rebalance.hand) r'.history r'.origin b k
    on b k row second hand n x y = carried b k row second (λ u. hand) (λ u. absurd (n u)) (λ u. absurd (n u)) (record { gathering = λ u. x; gathered = λ u. y; collected = λ u. absurd (n u); kept = λ u. absurd (n u); holds = λ u. absurd (n u) })

    -- where its walk along the list of a row begins
    begins : (k : Local) → k.row ≡ l.row → k.rebalance.second ≡ l.rebalance.second → k.rebalance.marks ≡ l.rebalance.marks → k.link ≡ None → Hand k → IsToWalk a l k.rebalance.hand → IsBegun z r.history r.origin k → All (IsGathered r.history (source z r.origin k)) k.rebalance.gathered →
        Gathers z (list_in (word z r'.world) r'.listed k.rebalance.hand) r'.history r'.origin (Activity.Rebalance (Rebalance.Gather Gather.Link)) k
    begins k row second marks link hand walk n y = on (Activity.Rebalance (Rebalance.Gather Gather.Link)) k row second hand (λ x. x) (begins_walk z r i s l h.knows k second marks link (rows_linked z r i s l h.knows frozen k.rebalance.hand of) (subst (λ b. IsToWalk b l k.rebalance.hand) (sym h.activity) walk) (λ j. all_passed l.activity l k.rebalance.hand j frozen of) n) y
      where
        of : IsOfGroup l k.rebalance.hand
        of = same_group l k row second k.rebalance.hand (hand_of_group k hand)

    -- it begins with the first row
    begins_group : (k : Local) → k.row ≡ l.row → k.rebalance.second ≡ l.rebalance.second → k.rebalance.hand ≡ l.row → k.rebalance.ahead ≡ l.rebalance.second → k.rebalance.marks ≡ l.rebalance.marks → k.rebalance.gathered ≡ [] → k.link ≡ None → IsToWalk a l k.rebalance.hand →
        Gathers z (list_in (word z r'.world) r'.listed k.rebalance.hand) r'.history r'.origin (Activity.Rebalance (Rebalance.Gather Gather.Link)) k
    begins_group k row second hand ahead marks none link walk =
        begins k row second marks link (at_first (hand ∙ sym row) (ahead ∙ sym second)) walk (begins_first z r i s l h.knows k second hand row none apart) (rw none (All-nil (IsGathered r.history (source z r.origin k))))

    -- where a row of the group is gathered, the next one is, or all are and the plan is made
    gathered_row : (k next : Local) → k.row ≡ l.row → k.rebalance.second ≡ l.rebalance.second → k.rebalance.ahead ≡ l.rebalance.ahead → k.rebalance.marks ≡ l.rebalance.marks → Hand k → ((q : ℕ) → l.rebalance.ahead ≡ Some q → IsToWalk a l q) → IsLeft z r.history r.origin k → IsNoneLeft z k → NextGathered z k next → All (IsGathered r.history (source z r.origin k)) k.rebalance.gathered →
        Gathers z (list_in (word z r'.world) r'.listed next.rebalance.hand) r'.history r'.origin next.activity next
    gathered_row k next row second ahead marks hand walk n none (gathers_ahead q e) y =
        begins (to_list (at_last_row q k)).local row second marks refl (at_second (ahead_second k hand q e) refl) (walk q (sym ahead ∙ e)) (begins_ahead z (list_in (word z r.world) r.listed k.rebalance.hand) r.history r.origin k n none q hand (λ x. apart (sym second ∙ x ∙ ap Some row)) e) y
    gathered_row k next row second ahead marks hand walk n none (gathered_all e) y =
        let all : AreOfGroup z k k.rebalance.gathered = gathered_of_group z k n.below in
        carried (Activity.Rebalance (Rebalance.Seek Seek.First)) _ row second (λ x. absurd x) (λ x. all) (λ x. kept_of-all (λ c. c.place < places z k.rebalance.second) k.rebalance.gathered k.rebalance.needed all)
        (record { gathering = λ u. absurd u; gathered = λ u. absurd u; collected = λ u. y; kept = λ u. kept_of-all (IsGathered r.history (source z r.origin k)) k.rebalance.gathered k.rebalance.needed y; holds = λ u. holds_all z (list_in (word z r.world) r.listed k.rebalance.hand) r.history r.origin k n none hand e })

  -- where it builds rows
  goes_on : (k : Local) → Building z (word z r.world) choice l a k → Gathers z (list_in (word z r'.world) r'.listed k.rebalance.hand) r'.history r'.origin k.activity k
  goes_on k b = record {
    gathering = λ x. absurd (gathers_before k.activity next x);
    gathered = λ x. absurd (gathers_before k.activity next x);
    collected = λ x. let m = kept x in rw (m.row, m.second, m.gathered) (still.collected (planned x));
    kept = λ x. let m = kept x in rw (m.row, m.second, m.kept) (still.kept (planned x));
    holds = λ x p n w o y. let m = kept x in rw m.gathered (still.holds (planned x) p n (rw m.second at w) (rw (m.row, m.second) at o) y);
  }
    where
      next : IsAfterBuilding k.activity
      next = built_next z (word z r.world) choice l a k b

      still : Gathers z (list_in (word z r'.world) r'.listed l.rebalance.hand) r'.history r'.origin l.activity l
      still = gathers_other z r r' s choice l a l' h i st s l h.knows

      planned : HasPlanned (nursing_of k.activity) → HasPlanned (nursing_of l.activity)
      planned x = subst (λ c. HasPlanned (nursing_of c)) (sym h.activity) (was_planned z (word z r.world) choice l a k b x)

      kept : HasPlanned (nursing_of k.activity) → BuiltKeeps l k
      kept x = built_keeps z (word z r.world) choice l a k b (planned_builds k.activity next x)

-- Its events.

-- where none is gathered, and none planned
none_gathered : (z : Sizes) (row : Row) (h : History) (o : Origins) (b : Activity) (k : Local) → (IsGathering b ⊎ HasPlanned (nursing_of b) → ⊥) → Gathers z row h o b k
none_gathered z row h o b k n = record {
  gathering = λ x. absurd (n (inl x));
  gathered = λ x. absurd (n (inl x));
  collected = λ x. absurd (n (inr x));
  kept = λ x. absurd (n (inr x));
  holds = λ x. absurd (n (inr x));
}

-- as in a seat that has frozen no row, and where one of the group is frozen
unfrozen : (z : Sizes) (row : Row) (h : History) (o : Origins) (b : Activity) (k : Local) → (HasFrozen b k k.row → ⊥) → Gathers z row h o b k
unfrozen z row h o b k n = none_gathered z row h o b k (λ x. n (all_frozen b k k.row (gathers_frozen b x) (inl refl)))

counted_gathers : (count : ℕ) (l n : Local) → NextCounted count l n → IsGathering n.activity ⊎ HasPlanned (nursing_of n.activity) → ⊥
counted_gathers count l n (claims_row q two e) (inl x) = x
counted_gathers count l n (claims_row q two e) (inr x) = x
counted_gathers count l n (goes_alone d) (inl x) = x
counted_gathers count l n (goes_alone d) (inr x) = x

frozen_gathers : (l n : Local) → NextFrozen l n → IsGathering n.activity ⊎ HasPlanned (nursing_of n.activity) → ⊥
frozen_gathers l n (freezes_ahead q e) (inl x) = x
frozen_gathers l n (freezes_ahead q e) (inr x) = x
frozen_gathers l n (froze_all e) (inl x) = x
frozen_gathers l n (froze_all e) (inr x) = x

-- a seat that gathers
module _ {z : Sizes} {r r' : Run} {s : ℕ} {choice : Choice} {l l' : Local} {g : Gather} (h : Happens z r r' s choice l l' (Activity.Rebalance (Rebalance.Gather g))) (i : Below z r) (st : Step r.history r'.history (log_entry z r (Activity.Rebalance (Rebalance.Gather g)) s choice l)) where
  knew : Gathering z (list_in (word z r.world) r.listed l.rebalance.hand) r.history r.origin (Activity.Rebalance (Rebalance.Gather g)) l
  knew = (was z r r' s choice l (Activity.Rebalance (Rebalance.Gather g)) l' h i st).gathering tt

  had : All (IsGathered r.history (source z r.origin l)) l.rebalance.gathered
  had = (was z r r' s choice l (Activity.Rebalance (Rebalance.Gather g)) l' h i st).gathered tt

  has_marks : All (IsMarkOf r.history (source z r.origin l)) l.rebalance.marks
  has_marks = own_marks z r r' s choice l (Activity.Rebalance (Rebalance.Gather g)) l' h i st tt

  -- has a row at hand, and it goes on with it
  at_hand : Hand l
  at_hand = (i.shape.balances s l h.knows).hands (subst HasHand (sym h.activity) tt)

  was_linked : WasLinked r.ledger.rows l.rebalance.hand
  was_linked = rows_linked z r i s l h.knows (frozen z r r' s choice l (Activity.Rebalance (Rebalance.Gather g)) l' h i st tt) l.rebalance.hand (hand_of_group l at_hand)

  gathers_on : (b : Gather) (k : Local) → k.row ≡ l.row → k.rebalance.second ≡ l.rebalance.second → k.rebalance.hand ≡ l.rebalance.hand → k.rebalance.ahead ≡ l.rebalance.ahead → Gathering z (list_in (word z r.world) r.listed k.rebalance.hand) r.history r.origin (Activity.Rebalance (Rebalance.Gather b)) k → All (IsGathered r.history (source z r.origin k)) k.rebalance.gathered →
      Gathers z (list_in (word z r'.world) r'.listed k.rebalance.hand) r'.history r'.origin (Activity.Rebalance (Rebalance.Gather b)) k
  gathers_on b k row second hand ahead n y = on z r r' s choice l (Activity.Rebalance (Rebalance.Gather g)) l' h i st tt (Activity.Rebalance (Rebalance.Gather b)) k row second (same_hand l k row second hand ahead at_hand) (λ x. x) n y

  -- or with the next one, or makes its plan
  gathers_row : (k next : Local) → k.row ≡ l.row → k.rebalance.second ≡ l.rebalance.second → k.rebalance.hand ≡ l.rebalance.hand → k.rebalance.ahead ≡ l.rebalance.ahead → k.rebalance.marks ≡ l.rebalance.marks → IsLeft z r.history r.origin k → IsNoneLeft z k → NextGathered z k next → All (IsGathered r.history (source z r.origin k)) k.rebalance.gathered →
      Gathers z (list_in (word z r'.world) r'.listed next.rebalance.hand) r'.history r'.origin next.activity next
  gathers_row k next row second hand ahead marks n none m y = gathered_row z r r' s choice l (Activity.Rebalance (Rebalance.Gather g)) l' h i st tt k next row second ahead marks (same_hand l k row second hand ahead at_hand) (λ q e. e) n none m y

  -- with a cell more
  kept_with : HasTakenVersion (Activity.Rebalance (Rebalance.Gather g)) → HasTakenKey (Activity.Rebalance (Rebalance.Gather g)) → HasTaken (Activity.Rebalance (Rebalance.Gather g)) → All (IsGathered r.history (source z r.origin l)) (keeping z (value_of_word (word z r.world (name.Value l.rebalance.hand l.place))) l).rebalance.gathered
  kept_with version key taken = keeps_gathered z r i s l h.knows was_linked at_hand (Activity.Rebalance (Rebalance.Gather g)) version key (knew.hand taken) had

-- what the acting seat knows then
pub gathers_own : (z : Sizes) (r r' : Run) (s : ℕ) (choice : Choice) (l : Local) (a : Activity) (l' : Local) → Arrow z (word z r.world) s choice l a l' → Happens z r r' s choice l l' a → Below z r → Step r.history r'.history (log_entry z r a s choice l) → Gathers z (list_in (word z r'.world) r'.listed l'.rebalance.hand) r'.history r'.origin l'.activity l'
gathers_own z r r' s choice l a l' (builds c next y b) h i st = goes_on z r r' s choice l a l' h i st next b
gathers_own z r r' s choice l a l' (asks_of_pin next o n) h i st = no_call_of_pin _ h i.shape o
gathers_own z r r' s choice l a l' (looks_at_pin j next n) h i st = absurd (kind_at _ h i.shape)
gathers_own z r r' s choice l a l' (sees_quiet_last m e u) h i st = begins_group z r r' s choice l _ l' h i st tt l' refl refl refl refl refl refl refl (inl refl)
gathers_own z r r' s choice l a l' (sees_drawn_last m version e u) h i st = begins_group z r r' s choice l _ l' h i st tt l' refl refl refl refl refl refl refl (inl refl)
gathers_own z r r' s choice l a l' (settles_last m e u) h i st = begins_group z r r' s choice l _ l' h i st tt l' refl refl refl refl refl refl refl (inl refl)
gathers_own z r r' s choice l a l' (finds_drawn_last m version e u) h i st = begins_group z r r' s choice l _ l' h i st tt l' refl refl refl refl refl refl refl (inl refl)
gathers_own z r r' s choice l a l' (finds_no_scan_last m e u) h i st = begins_group z r r' s choice l _ l' h i st tt l' refl refl refl refl refl refl refl (inl refl)
gathers_own z r r' s choice l a l' (take_leads c e) h i st = gathers_on h i st Gather.Key l' refl refl refl refl (takes_cell z r i s l h.knows (was_linked h i st) c e (knew h i st)) (had h i st)
gathers_own z r r' s choice l a l' takes_key h i st = gathers_on h i st Gather.Version l' refl refl refl refl (takes_its_key z r i s l h.knows (was_linked h i st) (knew h i st)) (had h i st)
gathers_own z r r' s choice l a l' takes_version h i st = gathers_on h i st Gather.Value l' refl refl refl refl (takes_its_version z r i s l h.knows (was_linked h i st) (knew h i st)) (had h i st)
gathers_own z r r' s choice l a l' keeps_taken h i st = gathers_on h i st Gather.Link l' refl refl refl refl (keeps_listed z r i s l h.knows (was_linked h i st) (knew h i st)) (kept_with h i st tt tt tt)
gathers_own z r r' s choice l a l' (takes_left m e u w) h i st = gathers_on h i st Gather.LeftOverKey l' refl refl refl refl (takes_least z (list_in (word z r.world) r.listed l.rebalance.hand) r.history r.origin l (walk_ended z r i s l h.knows (was_linked h i st) e (knew h i st)) m u w (at_hand h i st) (has_marks h i st)) (had h i st)
gathers_own z r r' s choice l a l' takes_left_key h i st = gathers_on h i st Gather.LeftOverValue l' refl refl refl refl (takes_left_over_key z r i s l h.knows (was_linked h i st) (knew h i st)) (had h i st)
gathers_own z r r' s choice l a l' (keeps_left m u w) h i st =
    let k = keeping z (value_of_word (word z r.world (name.Value l.rebalance.hand l.place))) l in
    gathers_on h i st Gather.LeftOverKey l' refl refl refl refl (takes_least z (list_in (word z r.world) r.listed l.rebalance.hand) r.history r.origin k (keeps_left_over z r i s l h.knows (was_linked h i st) (knew h i st)) m u w (same_hand l k refl refl refl refl (at_hand h i st)) (has_marks h i st)) (kept_with h i st tt tt tt)
gathers_own z r r' s choice l a l' (takes_no_more next e none m) h i st = gathers_row h i st l next refl refl refl refl refl (walk_ended z r i s l h.knows (was_linked h i st) e (knew h i st)) none m (had h i st)
gathers_own z r r' s choice l a l' (keeps_no_more next none m) h i st =
    let k = keeping z (value_of_word (word z r.world (name.Value l.rebalance.hand l.place))) l in
    gathers_row h i st k next refl refl refl refl refl (keeps_left_over z r i s l h.knows (was_linked h i st) (knew h i st)) none m (kept_with h i st tt tt tt)
gathers_own z r r' s choice l a l' (remembers_last j c version next e u n) h i st = none_gathered z _ _ _ next.activity next (frozen_gathers _ next n)
gathers_own z r r' s choice l a l' (sees_frozen_last j next e u n) h i st = none_gathered z _ _ _ next.activity next (frozen_gathers _ next n)
gathers_own z r r' s choice l a l' (freezes_last j next e u n) h i st = none_gathered z _ _ _ next.activity next (frozen_gathers _ next n)
gathers_own z r r' s choice l a l' (sees_stamped j c version next e n) h i st = unfrozen z _ _ _ next l' (look_freezes z _ next l' l'.row n)
gathers_own z r r' s choice l a l' (sees_neither j next e n) h i st = unfrozen z _ _ _ next l' (look_freezes z _ next l' l'.row n)
gathers_own z r r' s choice l a l' (is_gone_by next e n) h i st = unfrozen z _ _ _ next l' (look_freezes z _ next l' l'.row n)
gathers_own z r r' s choice l a l' (helps next e n) h i st = unfrozen z _ _ _ next l' (look_freezes z _ next l' l'.row n)
gathers_own z r r' s choice l a l' (finds_stamped c version next e n) h i st = unfrozen z _ _ _ next l' (look_freezes z _ next l' l'.row n)
gathers_own z r r' s choice l a l' (finds_other next e n) h i st = unfrozen z _ _ _ next l' (look_freezes z _ next l' l'.row n)
gathers_own z r r' s choice l a l' (first_ends next e n) h i st = unfrozen z _ _ _ next.activity l' (left_over_freezes _ next next.row n)
gathers_own z r r' s choice l a l' (list_ends next e n) h i st = unfrozen z _ _ _ next.activity l' (left_over_freezes _ next next.row n)
gathers_own z r r' s choice l a l' (key_above next e n) h i st = unfrozen z _ _ _ next.activity l' (left_over_freezes _ next next.row n)
gathers_own z r r' s choice l a l' (left_over_gone_by next e n) h i st = unfrozen z _ _ _ next.activity l' (left_over_freezes _ next next.row n)
gathers_own z r r' s choice l a l' (gathers_left_over next n) h i st = unfrozen z _ _ _ next.activity l' (left_over_freezes _ next next.row n)
gathers_own z r r' s choice l a l' (marks_led count next d n) h i st = none_gathered z _ _ _ next.activity next (counted_gathers _ _ next n)
gathers_own z r r' s choice l a l' (decides count m next e n) h i st = none_gathered z _ _ _ next.activity next (counted_gathers _ _ next n)
gathers_own z r r' s choice l a l' _ h i st = record { gathering = λ x. absurd x; gathered = λ x. absurd x; collected = λ x. absurd x; kept = λ x. absurd x; holds = λ x. absurd x }

-- For every seat, after every event.

module _ (z : Sizes) (r r' : Run) (s : ℕ) (choice : Choice) (l : Local) (a : Activity) (l' : Local) (h : Happens z r r' s choice l l' a) (i : Below z r) (st : Step r.history r'.history (log_entry z r a s choice l)) where
  -- what it gathers and has gathered
  pub gathers_keep : (t : ℕ) (k : Local) → slice_get r'.world.locals t ≡ Some k → Gathers z (list_in (word z r'.world) r'.listed k.rebalance.hand) r'.history r'.origin k.activity k
  gathers_keep = each_seat h (λ t k. Gathers z (list_in (word z r'.world) r'.listed k.rebalance.hand) r'.history r'.origin k.activity k)
      (gathers_own z r r' s choice l a l' h.arrow h i st)
      (λ t k d g. gathers_other z r r' s choice l a l' h i st t k g)
