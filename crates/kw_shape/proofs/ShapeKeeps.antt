-- Every event keeps the shape of the world.
use Rattle.std.proofs.Common.{if◌then◌else◌, Bool, ℕ, ◌≡◌, ◌≢◌, ◌⊎◌, inl, inr, ◌+◌, ◌*◌, ◌<◌, ◌≤◌, true, false, Option, Some, None, arith, refl, sym, ◌∙◌, ap, subst, length, slice_get}
use Rattle.kw_words.specs.declared.layout.Name.TheVariants as name
use Rattle.kw_world.specs.ClaimTransitions.{goes_along, row_after}
use Rattle.kw_world.specs.declared.activity.Activity.{Activity}
use Rattle.kw_world.specs.declared.activity.draw.Draw.TheVariants as Draw
use Rattle.kw_world.specs.declared.activity.rebalance.engage.Engage.TheVariants as Engage
use Rattle.kw_world.specs.declared.activity.enter.Enter.TheVariants as Enter
use Rattle.kw_world.specs.declared.activity.rebalance.freeze.Freeze.TheVariants as Freeze
use Rattle.kw_world.specs.declared.activity.put.Put.TheVariants as Put
use Rattle.kw_world.specs.declared.activity.rebalance.Rebalance.TheVariants as Rebalance
use Rattle.kw_world.specs.declared.activity.rebalance.replace.Replace.TheVariants as Replace
use Rattle.kw_world.specs.declared.activity.rebalance.seek.Seek.TheVariants as Seek
use Rattle.kw_world.specs.declared.activity.rebalance.write.Write.TheVariants as Write
use Rattle.kw_world.specs.declared.local.Local.{Local}
use Rattle.kw_world.specs.declared.event.Choice.{Choice}
use Rattle.kw_world.specs.SeekTransitions.{infant}
use Rattle.kw_world.specs.Sizes.{Sizes}
use Rattle.kw_world.specs.WorldView.{WorldView}
use Rattle.kw_words.specs.declared.sizes.TheConstants.{MOST_GROUP, MOST_SEATS, SPENT}
use Rattle.kw_words.specs.Layout.{IsSized, IsWithin, words_of}
use Rattle.kw_words.specs.declared.count.Count.{Count as Counted}
use Rattle.kw_world.specs.Sane.{IsActivity, IsCall, IsGiven, IsHead, IsRowBelow, IsSane, IsKnown, IsLed}
use Rattle.kw_world.specs.Step.{word}
use Rattle.kw_core.specs.Run.{Run}
use Rattle.std.proofs.Common.{length-set, slice_set}
use Rattle.std.proofs.lemmas.Bool.{cases_eq}
use Rattle.kw_words.specs.Count.{count_of}
use Rattle.kw_world.specs.PutTransitions.{given_of}
use Rattle.kw_shape.specs.Rooms.{adding, adders, drawing, drawers}
use Rattle.kw_core.proofs.Frame.{given-next}
use Rattle.kw_core.proofs.FreezeFrame.{DrawsVersion, clock_stays, freezes_given, helper_raises}
use Rattle.kw_core.proofs.RoomBelow.{room_below}
use Rattle.kw_shape.proofs.Counts.{adders-set, adders_at_most, adders_but_one, built_adds, built_draws, drawers-set, drawers_few, square_few, adding_next, drawing_next}
use Rattle.kw_core.specs.Ledger.{group_of}
use Rattle.kw_core.proofs.Grouping.{NextCounted, claims_row, goes_alone, NextFrozen, NextGathered, freezes_ahead, froze_all, gathered_all, gathers_ahead}
use Rattle.kw_core.proofs.Happens.{chosen, not_chosen}
use Rattle.kw_words.specs.declared.link.Link.{Link}
use Rattle.kw_world.specs.Calls.{first_key, is_scan}
use Rattle.kw_world.specs.Transition.{row_linked, row_or_first}
use Rattle.kw_core.specs.Words.{Words, given_in}
use Rattle.kw_rows.specs.Ledger.{Fate}
use Rattle.kw_rows.specs.RowState.{IsEngaged}
use Rattle.kw_shape.specs.Balances.{Balances}
use Rattle.kw_shape.specs.Infants.{HasLostNone, Infants}
use Rattle.kw_shape.specs.Visits.{Visits}
use Rattle.kw_shape.specs.Plans.{Plans}
use Rattle.kw_shape.specs.Search.{Search}
use Rattle.kw_shape.specs.RowsIn.{rows_in}
use Rattle.kw_shape.specs.Sought.{Sought}
use Rattle.kw_shape.specs.Hands.{IsOfGroup, IsToRetire}
use Rattle.kw_shape.specs.Won.{Won}
use Rattle.kw_shape.proofs.SoughtKeep.{outside_stays, sought_other, sought_own, unretired_other, unretired_own}
use Rattle.kw_shape.proofs.NoneLost.{none_lost_other, none_lost_own}
use Rattle.kw_shape.proofs.NursedKeep.{infants_go, infants_other, search_go, search_other}
use Rattle.kw_shape.proofs.WonKeep.{won_other, won_own}
use Rattle.kw_shape.specs.Shape.{Walks, Kinds, Shape}
use Rattle.kw_shape.proofs.VisitsKeep.{numbers_keep, visits_other, visits_own}
use Rattle.kw_shape.proofs.BalancesKeep.{balances_other, balances_own}
use Rattle.kw_core.proofs.Fates.{fate_stays}
use Rattle.kw_rows.specs.Events.{IsIn}
use Rattle.kw_shape.proofs.InfantsStay.{infant_at, taken_below}
use Rattle.kw_shape.proofs.InfantsRely.{index_of_row}
use Rattle.kw_shape.proofs.LinkedRows.{infants_at}
use Rattle.kw_shape.proofs.PlansKeep.{plans_own}
use Rattle.kw_shape.proofs.RowsKeep.{own_rely, others_kept, rely_rows, structure_keeps}
use Rattle.kw_shape.proofs.RelyRows.{is_visiting, walks_outside, walks_stable}
use Rattle.kw_core.proofs.Happens.{Happens, each_seat, knows_next}
use Rattle.kw_core.proofs.Frame.{WritesPass}
use Rattle.kw_shape.proofs.Walking.{walks_by}
use Rattle.kw_shape.proofs.Hands.{knows_group, of_group}
use Rattle.kw_shape.proofs.Known.{AreSane, at_activity, known_by}
use Rattle.kw_shape.proofs.InTable.{words_sane}
use Rattle.kw_shape.proofs.SoughtRows.{sought_in}
use Rattle.std.proofs.Common.{◌&&◌}
use Rattle.std.proofs.lemmas.Bool.{and_parts}
use Rattle.kw_model.specs.declared.call.Call.{Call}
use Rattle.kw_model.specs.declared.call.Call.TheVariants.{Put, Del, Get, Scan, Pin, ScanAt, Unpin}
use Rattle.kw_world.specs.declared.answer.Answer.{Answer}
use Rattle.kw_world.specs.Answers.{answer_found}
use Rattle.kw_world.specs.declared.answer.Answer.TheVariants.{Done, Value, Absent, Pairs, NoRows, Spent, Stopped, Held, NotPinned}
use Rattle.kw_world.specs.declared.event.Choice.TheVariants.{Stop}
use Rattle.kw_world.specs.Calls.{last_key}
use Rattle.kw_world.specs.ScanTransitions.{answer_or_stopped}
use Rattle.kw_world.specs.WalkTransitions.{is_stop}
use Rattle.kw_core.specs.Stages.{IsVisiting, is_put, IsBalancing, IsDone}
use Rattle.kw_shape.specs.Shape.{IsSomeCall, IsPutCall, IsReadCall, IsScanCall, IsAnswerOf, IsPairs}
use Rattle.kw_core.proofs.BuiltNext.{built_goes, built_next}
use Rattle.kw_core.proofs.InfantFrames.{count_stays, count_written}
use Rattle.kw_words.proofs.CountWords.{count_of-count_word}
use Rattle.kw_world.specs.WriteTransitions.{infant_cells, infant_count}
use Rattle.kw_shape.proofs.EpochKeeps.{epoch_keeps}
use Rattle.kw_shape.proofs.KeyedKeeps.{keyed_keeps}
use Rattle.kw_shape.proofs.KeysKeep.{keys_own, keys_stay}
use Rattle.kw_shape.proofs.RestKeep.{rest_own}
use Rattle.kw_shape.specs.Keyed.{IsRest, Keys}
use Rattle.kw_shape.proofs.NewWords.{cells_few}
use Rattle.kw_shape.proofs.NextCalls.{arrow_tidied, offered_other, offered_own, arrow_pin}
use Rattle.kw_world.specs.declared.limits.TheConstants.{TIDY_SHARE}
use Rattle.kw_shape.proofs.AfterBuilding.{after_kinds, built_kinds, built_pass, built_visits, asks_of_none, kind_at, no_call_of_pin, scan_is_no_pin}
use Rattle.kw_core.proofs.Arrows.{Arrow, begins, enters, enters_scan, is_spent, waits, stores_waiting, draws, settles_empty, settles, starts_at_head, guesses, guess_fails, takes_head, guess_serves, guess_is_above, stops, puts_in_last, reads_last, reaches_next, walks_on, puts_before, reads_before, sees_pending, sees_stamped, sees_neither, is_wanted, is_gone_by, loads_to_help, helps, finds_stamped, finds_other, list_leads, list_ends, key_below, key_within, key_above, loads_version, gathers_listed, left_over_wanted, left_over_gone_by, gathers_left_over, clears_scan, finds_room, takes_cell, stores_key, stores_value, announces, loads_clock, stamps, is_stamped, stores_version, reaches_cell, sees_none, key_before, key_same, key_after, version_before, version_after, stores_after, inserts, loses, clears, leaves, retries, enters_again, clock_is_spent, clock_serves, epoch_is_spent, epoch_serves, finds_infant, finds_normal, finds_follower, finds_leader, finds_other_state, normalises, engages, is_engaged, marks_link, marks_last, marks_led, decides, decides_not, finds_full, takes_full, announces_full, stamps_full, NextLook, looks, lists, NextLeftOver, goes_to_left_over, answers, ends_scan, scans_on, not_below, freezes_count, sees_idle, sees_unstamped, remembers, remembers_last, sees_frozen, sees_frozen_last, freezes_entry, freezes_last, looks_again, sees_quiet, sees_quiet_last, helps_scan, sees_drawn, sees_drawn_last, draws_for, settles_scan, settles_last, finds_drawn, finds_drawn_last, finds_no_scan, finds_no_scan_last, take_leads, takes_left, takes_no_more, takes_key, takes_version, keeps_taken, takes_left_key, keeps_left, keeps_no_more, builds, ends_at_state, ends_at_clock, ends_at_epoch, ends_undecided, counts_next, claims_next, next_is_infant, next_leads, claims_not, ends_unclaimed, normalises_next, marks_next, begins_left, takes_leader, reaches_leader, leads_left, walks_left, head_follows, ends_at_head, none_is_left, ends_at_none, passes_left, ends_past, tidies, begins_at_first, begins_behind, first_ends, first_leads, first_reaches, first_sees_none, inserts_at_first, inserts_behind, asks_of_pin, settles_pin, stores_pin, clears_pin, looks_at_pin}
use Rattle.kw_core.proofs.Building.{IsBuilding}

-- The acting seat.

-- the words of a sane world
words_of_sane : (z : Sizes) (w : WorldView) → IsSane z w → AreSane z w.rows (word z w)
words_of_sane z w i = record { sized = i.sized; each = i.each; led = i.led }

-- the first row is one of the table
head_below : (rows : ℕ) (x : Option Link) → IsHead rows x → row_or_first (row_linked x) < rows
head_below rows (Some link) h = subst (λ x. row_or_first x < rows) (sym h.0.1) h.0.2
head_below rows None h = absurd h

-- what the acting seat knows is in range
known_own : (z : Sizes) (r r' : Run) (s : ℕ) (choice : Choice) (l : Local) (a : Activity) (l' : Local) → Arrow z (word z r.world) s choice l a l' → Happens z r r' s choice l l' a → Shape z r → IsKnown z r.world.rows l'
known_own z r r' s choice l a l' b h i = known_by z r.world.rows (word z r.world) s choice l a l' b (words_of_sane z r.world i.sane) (head_below r.world.rows _ (i.sane.led name.Head tt)) h.seat h.begins h.offers (at_activity z r.world.rows a l h.activity (i.sane.locals s l h.knows) (knows_group z r i s l h.knows a h.activity)) (λ y. sought_in a y h i.sane)

-- the words are in range
words_keep : (z : Sizes) (r r' : Run) (s : ℕ) (choice : Choice) (l : Local) (a : Activity) (l' : Local) → Happens z r r' s choice l l' a → Shape z r → AreSane z r.world.rows (word z r'.world)
words_keep z r r' s choice l a l' h i =
    words_sane z r.world.rows (word z r.world) s choice l (words_of_sane z r.world i.sane) (record {
      seat = h.seat;
      clock = omega (arith, i.clock, i.sane.sized.few_seats, square_few z.seats MOST_SEATS i.sane.sized.few_seats);
      epoch = omega (arith, i.epoch, i.sane.sized.few_seats);
      given = λ q o. omega (arith, i.room q o, i.sane.sized.few_seats, i.sane.sized.few_cells);
    }) a (word z r'.world) (at_activity z r.world.rows a l h.activity (i.sane.locals s l h.knows) (knows_group z r i s l h.knows a h.activity)) h.named h.changed

-- the world is sane
pub sane_keeps : (z : Sizes) (r r' : Run) (s : ℕ) (choice : Choice) (l : Local) (a : Activity) (l' : Local) → Arrow z (word z r.world) s choice l a l' → Happens z r r' s choice l l' a → Shape z r → IsSane z r'.world
sane_keeps z r r' s choice l a l' b h i =
    let v = words_keep z r r' s choice l a l' h i in
    record {
      sized = subst (λ x. IsSized z.seats z.cells x) (sym h.rows) v.sized;
      words = h.words ∙ i.sane.words ∙ ap (λ x. words_of z.seats z.cells x) (sym h.rows);
      seats = omega (arith, ap length h.locals, length-set r.world.locals s l', i.sane.seats);
      each = λ n o. v.each n (subst (λ x. IsWithin z.seats z.cells x n) h.rows o);
      led = λ n o. subst (λ x. IsLed x n (word z r'.world n)) (sym h.rows) (v.led n (subst (λ x. IsWithin z.seats z.cells x n) h.rows o));
      locals = each_seat h (λ t k. IsKnown z r'.world.rows k) (subst (λ x. IsKnown z x l') (sym h.rows) (known_own z r r' s choice l a l' b h i)) (λ t k d g. subst (λ x. IsKnown z x k) (sym h.rows) (i.sane.locals t k g));
    }

-- an event that asks for no cell, and after which the seat is not about to
room_plain : (z : Sizes) (r r' : Run) (s : ℕ) (choice : Choice) (l : Local) (a : Activity) (l' : Local) → Happens z r r' s choice l l' a → Shape z r → (q : ℕ) → given_in (word z r'.world) q ≡ given_in (word z r.world) q → adding l'.activity l'.row q ≡ 0 → q < r.world.rows → given_in (word z r'.world) q + adders q r'.world.locals < z.cells + z.seats
room_plain z r r' s choice l a l' h i q e f o = omega (arith, i.room q o, e, f, adders-set q r.world.locals s l l' h.knows, ap (adders q) h.locals)

-- an event that asks for a cell
room_add : (z : Sizes) (r r' : Run) (s : ℕ) (choice : Choice) (l : Local) (l' : Local) → Happens z r r' s choice l l' (Activity.Put Put.Add) → Shape z r → (q : ℕ) → adding l'.activity l'.row q ≡ 0 → q < r.world.rows → given_in (word z r'.world) q + adders q r'.world.locals < z.cells + z.seats
room_add z r r' s choice l l' h i q f o = which (cases_eq q l.row)
  where
    part : adding l.activity l.row q ≡ adding (Activity.Put Put.Add) l.row q
    part = ap (λ x. adding x l.row q) h.activity

    which : (q ≡ l.row) ⊎ (q ≡ l.row → ⊥) → given_in (word z r'.world) q + adders q r'.world.locals < z.cells + z.seats
    which (inl u) =
        let x : given_in (word z r'.world) l.row ≡ given_in (word z r.world) l.row + 1 = ap (λ w. given_of (count_of w)) h.changed.same ∙ given-next (word z r.world (name.Count l.row)) _ refl (i.sane.each (name.Count l.row) (subst (λ y. y < r.world.rows) u o)) in
        let y : given_in (word z r'.world) q ≡ given_in (word z r.world) q + 1 = subst (λ t. given_in (word z r'.world) t ≡ given_in (word z r.world) t + 1) (sym u) x in
        omega (arith, i.room q o, y, f, part, chosen {A = ℕ} l.row q 1 0 (sym u), adders-set q r.world.locals s l l' h.knows, ap (adders q) h.locals)
    which (inr d) = room_plain z r r' s choice l (Activity.Put Put.Add) l' h i q (ap (λ w. given_of (count_of w)) (count_stays (Activity.Put Put.Add) h q o d)) f o

-- an event that writes or links new rows: a new row has no more cells than a row has, and the seat
-- asks for none
room_built : (z : Sizes) (r r' : Run) (s : ℕ) (choice : Choice) (l : Local) (a : Activity) (l' : Local) → IsBuilding a → {q : ℕ} → adding l'.activity l'.row q ≡ 0 → Happens z r r' s choice l l' a → Shape z r → q < r.world.rows → given_in (word z r'.world) q + adders q r'.world.locals < z.cells + z.seats
room_built z r r' s choice l (Activity.Put Put.Add) l' b {q} f h i o = absurd b
room_built z r r' s choice l (Activity.Rebalance (Rebalance.Freeze Freeze.Count)) l' b {q} f h i o = absurd b
room_built z r r' s choice l (Activity.Rebalance (Rebalance.Write Write.Count)) l' b {q} f h i o = which (cases_eq q (infant l))
  where
    k : IsKnown z r.world.rows l
    k = i.sane.locals s l h.knows

    few : length (infant_cells l) ≤ z.cells
    few = cells_few z r.world.rows l i.sane.sized k.ranges k.below

    given : given_in (word z r'.world) (infant l) ≡ length (infant_cells l)
    given = ap (λ w. given_of (count_of w)) (count_written h) ∙ ap given_of (count_of-count_word (infant_count l) (omega (arith, few, i.sane.sized.few_cells)))

    which : (q ≡ infant l) ⊎ (q ≡ infant l → ⊥) → given_in (word z r'.world) q + adders q r'.world.locals < z.cells + z.seats
    which (inl e) = omega (arith, few, ap (given_in (word z r'.world)) e ∙ given, adders_but_one q r'.world.locals s l' (knows_next h) f, ap length h.locals, length-set r.world.locals s l', i.sane.seats)
    which (inr d) = room_plain z r r' s choice l (Activity.Rebalance (Rebalance.Write Write.Count)) l' h i q (ap (λ w. given_of (count_of w)) (count_stays (Activity.Rebalance (Rebalance.Write Write.Count)) h q o d)) f o
room_built z r r' s choice l a l' b {q} f h i o = room_plain z r r' s choice l a l' h i q (ap (λ w. given_of (count_of w)) (count_stays a h q o (λ c. c))) f o

-- each row has room for the cells that are asked for
pub room_keeps : (z : Sizes) (r r' : Run) (s : ℕ) (choice : Choice) (l : Local) (a : Activity) (l' : Local) → Arrow z (word z r.world) s choice l a l' → Happens z r r' s choice l l' a → Shape z r → (q : ℕ) → q < r.world.rows → given_in (word z r'.world) q + adders q r'.world.locals < z.cells + z.seats
room_keeps z r r' s choice l a l' (builds b next y t) h i q o = room_built z r r' s choice l b l' y (built_adds next.activity next.row q (built_next z (word z r.world) choice l b next t)) h i o
room_keeps z r r' s choice l a l' (finds_room e) h i q o = which (cases_eq l.row q)
  where
    seats : length (slice_set r.world.locals s l') ≡ length r.world.locals
    seats = length-set r.world.locals s l'

    same : given_in (word z r'.world) q ≡ given_in (word z r.world) q
    same = ap (λ w. given_of (count_of w)) (count_stays (Activity.Put Put.Count) h q o (λ c. c))

    which : (l.row ≡ q) ⊎ (l.row ≡ q → ⊥) → given_in (word z r'.world) q + adders q r'.world.locals < z.cells + z.seats
    which (inl u) =
        let x : given_in (word z r.world) q < z.cells = subst (λ y. given_in (word z r.world) y < z.cells) u (room_below z (count_of (word z r.world (name.Count l.row))) e) in
        omega (arith, same, x, adders_at_most q r'.world.locals, ap length h.locals, seats, i.sane.seats)
    which (inr d) = room_plain z r r' s choice l (Activity.Put Put.Count) _ h i q same (not_chosen {A = ℕ} l.row q 1 0 d) o
room_keeps z r r' s choice l a l' (finds_full e) h i q o = room_plain z r r' s choice l (Activity.Put Put.Count) _ h i q (ap (λ w. given_of (count_of w)) (count_stays (Activity.Put Put.Count) h q o (λ c. c))) refl o
room_keeps z r r' s choice l a l' (takes_cell e) h i q o = room_add z r r' s choice l _ h i q refl o
room_keeps z r r' s choice l a l' (takes_full e) h i q o = room_add z r r' s choice l _ h i q refl o
room_keeps z r r' s choice l a l' freezes_count h i q o = room_plain z r r' s choice l (Activity.Rebalance (Rebalance.Freeze Freeze.Count)) _ h i q (frozen_given (cases_eq q l.rebalance.hand)) refl o
  where
    at_hand : (c : Option Counted) → count_of (word z r.world (name.Count l.rebalance.hand)) ≡ c → IsGiven c → given_in (word z r'.world) l.rebalance.hand ≡ given_in (word z r.world) l.rebalance.hand
    at_hand (Some c) e g = ap given_of (freezes_given h c e) ∙ ap given_of (sym e)
    at_hand None e g = absurd g

    frozen_given : (q ≡ l.rebalance.hand) ⊎ (q ≡ l.rebalance.hand → ⊥) → given_in (word z r'.world) q ≡ given_in (word z r.world) q
    frozen_given (inl e) = subst (λ x. given_in (word z r'.world) x ≡ given_in (word z r.world) x) (sym e) (at_hand _ refl (i.sane.each (name.Count l.rebalance.hand) (i.sane.locals s l h.knows).below.rebalance.hand))
    frozen_given (inr d) = ap (λ w. given_of (count_of w)) (count_stays (Activity.Rebalance (Rebalance.Freeze Freeze.Count)) h q o d)
room_keeps z r r' s choice l a l' b h i q o = room_plain z r r' s choice l _ l' h i q (ap (λ w. given_of (count_of w)) (count_stays _ h q o (λ c. c))) (adding_next z (word z r.world) s choice l _ l' q b (λ x. x)) o

-- an event that takes, writes or links new rows draws no version
built_draws_none : (a : Activity) → IsBuilding a → DrawsVersion a → ⊥
built_draws_none (Activity.Draw Draw.Version) b d = b
built_draws_none (Activity.Rebalance (Rebalance.Freeze (Freeze.Draw j))) b d = b
built_draws_none _ b d = d

-- the clock has room for the versions that are drawn
pub clock_keeps : (z : Sizes) (r r' : Run) (s : ℕ) (choice : Choice) (l : Local) (a : Activity) (l' : Local) → Arrow z (word z r.world) s choice l a l' → Happens z r r' s choice l l' a → Shape z r → word z r'.world name.Clock + drawers z.seats r'.world.locals ≤ SPENT + z.seats * z.seats
clock_keeps z r r' s choice l a l' (builds b next y t) h i = omega (arith, i.clock, clock_stays b h (built_draws_none b y), built_draws z.seats next.activity (built_next z (word z r.world) choice l b next t), drawers-set z.seats r.world.locals s l l' h.knows, ap (drawers z.seats) h.locals)
clock_keeps z r r' s choice l a l' (waits e) h i = omega (arith, e, clock_stays (Activity.Draw Draw.Clock) h (λ x. x), drawers_few z.seats r'.world.locals i.sane.sized.some_seats (omega (arith, ap length h.locals, length-set r.world.locals s l', i.sane.seats)))
clock_keeps z r r' s choice l a l' (clock_serves e) h i = omega (arith, e, clock_stays (Activity.Rebalance (Rebalance.Engage Engage.Clock)) h (λ x. x), drawers_few z.seats r'.world.locals i.sane.sized.some_seats (omega (arith, ap length h.locals, length-set r.world.locals s l', i.sane.seats)))
clock_keeps z r r' s choice l a l' (is_spent e) h i = omega (arith, i.clock, clock_stays (Activity.Draw Draw.Clock) h (λ x. x), drawers-set z.seats r.world.locals s l l' h.knows, ap (drawers z.seats) h.locals)
clock_keeps z r r' s choice l a l' (clock_is_spent e nd) h i = omega (arith, i.clock, clock_stays (Activity.Rebalance (Rebalance.Engage Engage.Clock)) h (λ x. x), drawers-set z.seats r.world.locals s l l' h.knows, ap (drawers z.seats) h.locals)
clock_keeps z r r' s choice l a l' (ends_at_clock dn) h i = omega (arith, i.clock, clock_stays (Activity.Rebalance (Rebalance.Engage Engage.Clock)) h (λ x. x), drawers-set z.seats r.world.locals s l l' h.knows, ap (drawers z.seats) h.locals)
clock_keeps z r r' s choice l a l' draws h i = omega (arith, i.clock, h.changed.same, ap (drawing z.seats) h.activity, drawers-set z.seats r.world.locals s l l' h.knows, ap (drawers z.seats) h.locals)
clock_keeps z r r' s choice l a l' (draws_for j) h i =
    let o : j < z.seats = subst (IsActivity z) h.activity (i.sane.locals s l h.knows).ranges.activity in
    omega (arith, i.clock, o, helper_raises j h, ap (drawing z.seats) h.activity, drawers-set z.seats r.world.locals s l l' h.knows, ap (drawers z.seats) h.locals)
clock_keeps z r r' s choice l a l' b h i = omega (arith, i.clock, clock_stays _ h (λ x. x), drawing_next z (word z r.world) s choice l _ l' b (λ x. x) z.seats, ap (drawing z.seats) h.activity, drawers-set z.seats r.world.locals s l l' h.knows, ap (drawers z.seats) h.locals)

-- which call is put, read or scanned
put_call : (c : Option Call) → is_put c ≡ true → IsPutCall c
put_call (Some (Put key value)) e = tt
put_call (Some (Del key)) e = tt
put_call (Some (Get key)) e = let x : false ≡ true = e in absurd (cc)
put_call (Some (Scan from upto)) e = let x : false ≡ true = e in absurd (cc)
put_call (Some Pin) e = let x : false ≡ true = e in absurd (cc)
put_call (Some (ScanAt from upto)) e = let x : false ≡ true = e in absurd (cc)
put_call (Some Unpin) e = let x : false ≡ true = e in absurd (cc)
put_call None e = let x : false ≡ true = e in absurd (cc)

read_call : (c : Option Call) → IsCall c → IsSomeCall c → is_put c ≡ false → IsReadCall c
read_call (Some (Put key value)) i k e = let x : true ≡ false = e in absurd (cc)
read_call (Some (Del key)) i k e = let x : true ≡ false = e in absurd (cc)
read_call (Some (Get key)) i k e = tt
read_call (Some (Scan from upto)) i k e = tt
read_call (Some Pin) i k e = absurd i
read_call (Some (ScanAt from upto)) i k e = absurd i
read_call (Some Unpin) i k e = absurd i
read_call None i k e = absurd k

scan_call : (c : Option Call) → is_scan c ≡ true → IsScanCall c
scan_call (Some (Put key value)) e = let x : false ≡ true = e in absurd (cc)
scan_call (Some (Del key)) e = let x : false ≡ true = e in absurd (cc)
scan_call (Some (Get key)) e = let x : false ≡ true = e in absurd (cc)
scan_call (Some (Scan from upto)) e = tt
scan_call (Some Pin) e = let x : false ≡ true = e in absurd (cc)
scan_call (Some (ScanAt from upto)) e = let x : false ≡ true = e in absurd (cc)
scan_call (Some Unpin) e = let x : false ≡ true = e in absurd (cc)
scan_call None e = let x : false ≡ true = e in absurd (cc)

some_scan : (c : Option Call) → IsScanCall c → IsSomeCall c
some_scan (Some c) k = tt
some_scan None k = k

some_read : (c : Option Call) → IsReadCall c → IsSomeCall c
some_read (Some c) k = tt
some_read None k = k

-- a call that is no scan has one key
one_key : (c : Option Call) → IsCall c → is_scan c ≡ false → first_key c ≤ last_key c
one_key (Some (Put key value)) i e = omega arith
one_key (Some (Del key)) i e = omega arith
one_key (Some (Get key)) i e = omega arith
one_key (Some (Scan from upto)) i e = let x : true ≡ false = e in absurd (cc)
one_key (Some Pin) i e = absurd i
one_key (Some (ScanAt from upto)) i e = absurd i
one_key (Some Unpin) i e = absurd i
one_key None i e = omega arith

some_put : (c : Option Call) → IsPutCall c → IsSomeCall c
some_put (Some c) k = tt
some_put None k = k

-- the replies of such calls
put_spent : (c : Option Call) → IsPutCall c → IsAnswerOf c Spent
put_spent (Some (Put key value)) k = tt
put_spent (Some (Del key)) k = tt
put_spent (Some (Get key)) k = absurd k
put_spent (Some (Scan from upto)) k = absurd k
put_spent (Some Pin) k = absurd k
put_spent (Some (ScanAt from upto)) k = absurd k
put_spent (Some Unpin) k = absurd k
put_spent None k = absurd k

put_done : (c : Option Call) → IsPutCall c → IsAnswerOf c Done
put_done (Some (Put key value)) k = tt
put_done (Some (Del key)) k = tt
put_done (Some (Get key)) k = k
put_done (Some (Scan from upto)) k = k
put_done (Some Pin) k = k
put_done (Some (ScanAt from upto)) k = k
put_done (Some Unpin) k = k
put_done None k = k

scan_answer : (c : Option Call) (answer : Answer) → IsScanCall c → IsAnswerOf (Some (Scan 0 0)) answer → IsAnswerOf c answer
scan_answer (Some (Scan from upto)) Pairs k y = tt
scan_answer (Some (Scan from upto)) Spent k y = tt
scan_answer (Some (Scan from upto)) Stopped k y = tt
scan_answer (Some (Scan from upto)) Done k y = y
scan_answer (Some (Scan from upto)) (Value v) k y = y
scan_answer (Some (Scan from upto)) Absent k y = y
scan_answer (Some (Scan from upto)) NoRows k y = y
scan_answer (Some (Scan from upto)) Held k y = y
scan_answer (Some (Scan from upto)) NotPinned k y = y
scan_answer (Some (Put key value)) answer k y = absurd k
scan_answer (Some (Del key)) answer k y = absurd k
scan_answer (Some (Get key)) answer k y = absurd k
scan_answer (Some Pin) answer k y = absurd k
scan_answer (Some (ScanAt from upto)) answer k y = absurd k
scan_answer (Some Unpin) answer k y = absurd k
scan_answer None answer k y = absurd k

get_answer : (c : Option Call) (x : Option ℕ) → IsReadCall c → is_scan c ≡ false → IsAnswerOf c (answer_found x)
get_answer (Some (Put key value)) x k e = absurd k
get_answer (Some (Del key)) x k e = absurd k
get_answer (Some (Get key)) (Some v) k e = tt
get_answer (Some (Get key)) None k e = tt
get_answer (Some (Scan from upto)) x k e = let y : true ≡ false = e in absurd (cc)
get_answer (Some Pin) x k e = absurd k
get_answer (Some (ScanAt from upto)) x k e = absurd k
get_answer (Some Unpin) x k e = absurd k
get_answer None x k e = absurd k

-- what a reader does next
kinds_look : (z : Sizes) (j : ℕ) (l : Local) (next : Activity) → NextLook z j next → IsReadCall l.call → first_key l.call ≤ last_key l.call → Kinds next l
kinds_look z j l next (looks o) k e = record { kind = k; range = λ x. e }
kinds_look z j l next (lists o) k e = record { kind = k; range = λ x. e }

kinds_cell : (z : Sizes) (l : Local) (next : Local) → NextLeftOver l next → IsReadCall l.call → first_key l.call ≤ last_key l.call → Kinds next.activity next
kinds_cell z l next (goes_to_left_over m o) k e = record { kind = k; range = λ x. e }
kinds_cell z l next (answers o n) k e = record { kind = get_answer l.call _ k n; range = λ x. absurd x }
kinds_cell z l next (ends_scan o y n) k e = record { kind = (scan_call l.call y, tt); range = λ x. absurd x }
kinds_cell z l next (scans_on q o y n w) k e = record { kind = some_read l.call k; range = λ x. e }

-- a put goes through the rows of its group
frozen_kinds : (l next : Local) → NextFrozen l next → IsPutCall l.call → Kinds next.activity next
frozen_kinds l next (freezes_ahead r e) k = record { kind = k; range = λ x. absurd x }
frozen_kinds l next (froze_all e) k = record { kind = k; range = λ x. absurd x }

counted_kinds : (count : ℕ) (l next : Local) → NextCounted count l next → IsPutCall l.call → Kinds next.activity next
counted_kinds count l next (claims_row q two e) k = record { kind = k; range = λ x. absurd x }
counted_kinds count l next (goes_alone d) k = record { kind = k; range = λ x. absurd x }

gathered_kinds : (z : Sizes) (l next : Local) → NextGathered z l next → IsPutCall l.call → Kinds next.activity next
gathered_kinds z l next (gathers_ahead r e) k = record { kind = k; range = λ x. absurd x }
gathered_kinds z l next (gathered_all e) k = record { kind = k; range = λ x. absurd x }

-- one row goes at least
one_counted : (b : Bool) → 1 ≤ (if b then MOST_GROUP else 1)
one_counted true = omega arith
one_counted false = omega arith

-- by the arrow that the seat takes
kinds_by : (z : Sizes) (v : Words) (s : ℕ) (choice : Choice) (l : Local) (a : Activity) (l' : Local) → Arrow z v s choice l a l' → IsCall l.call → Kinds a l → Kinds l'.activity l'
kinds_by z v s choice l a l' (builds b next y t) i k = let g = built_goes z v choice l b next t in after_kinds next.activity next g.next (subst IsPutCall (sym g.call) (built_kinds b l y k))
kinds_by z v s choice l a l' (begins call e y) i k = record { kind = tt; range = λ x. absurd x }
kinds_by z v s choice l a l' (enters y) i k = record { kind = k.kind; range = λ x. one_key l.call i y }
kinds_by z v s choice l a l' (enters_scan y) i k = record { kind = scan_call l.call y; range = λ x. absurd x }
kinds_by z v s choice l a l' (asks_of_pin next c n) i k = asks_of_none l.call i c
kinds_by z v s choice l a l' (is_spent y) i k = record { kind = scan_answer l.call Spent k.kind tt; range = λ x. absurd x }
kinds_by z v s choice l a l' (waits y) i k = record { kind = k.kind; range = λ x. absurd x }
kinds_by z v s choice l a l' stores_waiting i k = record { kind = k.kind; range = λ x. absurd x }
kinds_by z v s choice l a l' draws i k = record { kind = k.kind; range = λ x. absurd x }
kinds_by z v s choice l a l' (settles_empty y) i k = record { kind = (k.kind, tt); range = λ x. absurd x }
kinds_by z v s choice l a l' (settles y) i k = record { kind = some_scan l.call k.kind; range = λ x. not_below (last_key l.call) (first_key l.call) y }
kinds_by z v s choice l a l' (settles_pin y) i k = scan_is_no_pin l.call k.kind y
kinds_by z v s choice l a l' stores_pin i k = absurd k.kind
kinds_by z v s choice l a l' starts_at_head i k = record { kind = k.kind; range = λ x. k.range tt }
kinds_by z v s choice l a l' (guesses q e y) i k = record { kind = k.kind; range = λ x. k.range tt }
kinds_by z v s choice l a l' guess_fails i k = record { kind = k.kind; range = λ x. k.range tt }
kinds_by z v s choice l a l' takes_head i k = record { kind = k.kind; range = λ x. k.range tt }
kinds_by z v s choice l a l' (guess_serves y) i k = record { kind = k.kind; range = λ x. k.range tt }
kinds_by z v s choice l a l' (guess_is_above y) i k = record { kind = k.kind; range = λ x. k.range tt }
kinds_by z v s choice l a l' (stops y) i k = record { kind = stopped; range = λ x. absurd x }
  where
    stopped : IsAnswerOf l.call Stopped
    stopped = let t = and_parts (is_stop choice) (is_scan l.call && l.has_read) y in scan_answer l.call Stopped (scan_call l.call (and_parts (is_scan l.call) l.has_read t.1).0) tt
kinds_by z v s choice l a l' (puts_in_last p y) i k = record { kind = put_call l.call p; range = λ x. absurd x }
kinds_by z v s choice l a l' (reads_last p y) i k = record { kind = read_call l.call i k.kind p; range = λ x. k.range tt }
kinds_by z v s choice l a l' (reaches_next q y) i k = record { kind = k.kind; range = λ x. k.range tt }
kinds_by z v s choice l a l' (walks_on y) i k = record { kind = k.kind; range = λ x. k.range tt }
kinds_by z v s choice l a l' (puts_before p y) i k = record { kind = put_call l.call p; range = λ x. absurd x }
kinds_by z v s choice l a l' (reads_before p y) i k = record { kind = read_call l.call i k.kind p; range = λ x. k.range tt }
kinds_by z v s choice l a l' (sees_pending j c y) i k = record { kind = k.kind; range = λ x. k.range tt }
kinds_by z v s choice l a l' (sees_stamped j c version next y n) i k = kinds_look z _ _ next n k.kind (k.range tt)
kinds_by z v s choice l a l' (sees_neither j next y n) i k = kinds_look z _ _ next n k.kind (k.range tt)
kinds_by z v s choice l a l' (is_wanted y) i k = record { kind = k.kind; range = λ x. k.range tt }
kinds_by z v s choice l a l' (is_gone_by next y n) i k = kinds_look z _ _ next n k.kind (k.range tt)
kinds_by z v s choice l a l' loads_to_help i k = record { kind = k.kind; range = λ x. k.range tt }
kinds_by z v s choice l a l' (helps next y n) i k = kinds_look z _ _ next n k.kind (k.range tt)
kinds_by z v s choice l a l' (finds_stamped c version next y n) i k = kinds_look z _ _ next n k.kind (k.range tt)
kinds_by z v s choice l a l' (finds_other next y n) i k = kinds_look z _ _ next n k.kind (k.range tt)
kinds_by z v s choice l a l' (first_ends next e n) i k = kinds_cell z _ next n k.kind (k.range tt)
kinds_by z v s choice l a l' (list_ends next e n) i k = kinds_cell z _ next n k.kind (k.range tt)
kinds_by z v s choice l a l' (first_leads c y) i k = record { kind = k.kind; range = λ x. k.range tt }
kinds_by z v s choice l a l' (list_leads c y) i k = record { kind = k.kind; range = λ x. k.range tt }
kinds_by z v s choice l a l' (begins_behind guess inside y) i k = record { kind = k.kind; range = λ x. k.range tt }
kinds_by z v s choice l a l' (begins_at_first guess y) i k = record { kind = k.kind; range = λ x. k.range tt }
kinds_by z v s choice l a l' (key_below y) i k = record { kind = k.kind; range = λ x. k.range tt }
kinds_by z v s choice l a l' (key_within y w) i k = record { kind = k.kind; range = λ x. k.range tt }
kinds_by z v s choice l a l' loads_version i k = record { kind = k.kind; range = λ x. k.range tt }
kinds_by z v s choice l a l' gathers_listed i k = record { kind = k.kind; range = λ x. k.range tt }
kinds_by z v s choice l a l' (left_over_wanted y) i k = record { kind = k.kind; range = λ x. k.range tt }
kinds_by z v s choice l a l' (key_above next y n) i k = kinds_cell z _ next n k.kind (k.range tt)
kinds_by z v s choice l a l' (left_over_gone_by next y n) i k = kinds_cell z _ next n k.kind (k.range tt)
kinds_by z v s choice l a l' (gathers_left_over next n) i k = kinds_cell z _ next n k.kind (k.range tt)
kinds_by z v s choice l a l' clears_pin i k = absurd k.kind
kinds_by z v s choice l a l' (clears_scan answer) i k = record { kind = cleared choice answer k.kind.1; range = λ x. absurd x }
  where
    cleared : (c : Choice) (y : Answer) → IsPairs y → IsAnswerOf l.call (answer_or_stopped y c)
    cleared Stop y p = scan_answer l.call Stopped k.kind.0 tt
    cleared c Pairs p = scan_answer l.call _ k.kind.0 tt
    cleared c _ p = absurd p
kinds_by z v s choice l a l' (finds_room y) i k = record { kind = k.kind; range = λ x. absurd x }
kinds_by z v s choice l a l' (finds_full y) i k = record { kind = k.kind; range = λ x. absurd x }
kinds_by z v s choice l a l' (takes_cell y) i k = record { kind = k.kind; range = λ x. absurd x }
kinds_by z v s choice l a l' (takes_full y) i k = record { kind = k.kind; range = λ x. absurd x }
kinds_by z v s choice l a l' stores_key i k = record { kind = k.kind; range = λ x. absurd x }
kinds_by z v s choice l a l' stores_value i k = record { kind = k.kind; range = λ x. absurd x }
kinds_by z v s choice l a l' (announces y) i k = record { kind = k.kind; range = λ x. absurd x }
kinds_by z v s choice l a l' (announces_full y) i k = record { kind = k.kind; range = λ x. absurd x }
kinds_by z v s choice l a l' loads_clock i k = record { kind = k.kind; range = λ x. absurd x }
kinds_by z v s choice l a l' (stamps y) i k = record { kind = k.kind; range = λ x. absurd x }
kinds_by z v s choice l a l' (is_stamped version y) i k = record { kind = k.kind; range = λ x. absurd x }
kinds_by z v s choice l a l' (stamps_full y) i k = record { kind = k.kind; range = λ x. absurd x }
kinds_by z v s choice l a l' (tidies rows y) i k = record { kind = k.kind; range = λ x. absurd x }
kinds_by z v s choice l a l' stores_version i k = record { kind = k.kind; range = λ x. absurd x }
kinds_by z v s choice l a l' (first_reaches c y) i k = record { kind = k.kind; range = λ x. absurd x }
kinds_by z v s choice l a l' (reaches_cell c y) i k = record { kind = k.kind; range = λ x. absurd x }
kinds_by z v s choice l a l' (first_sees_none y) i k = record { kind = k.kind; range = λ x. absurd x }
kinds_by z v s choice l a l' (sees_none y) i k = record { kind = k.kind; range = λ x. absurd x }
kinds_by z v s choice l a l' (inserts_behind guess inside y) i k = record { kind = k.kind; range = λ x. absurd x }
kinds_by z v s choice l a l' (inserts_at_first guess y) i k = record { kind = k.kind; range = λ x. absurd x }
kinds_by z v s choice l a l' (key_before y) i k = record { kind = k.kind; range = λ x. absurd x }
kinds_by z v s choice l a l' (key_same y) i k = record { kind = k.kind; range = λ x. absurd x }
kinds_by z v s choice l a l' (key_after y) i k = record { kind = k.kind; range = λ x. absurd x }
kinds_by z v s choice l a l' (version_before y) i k = record { kind = k.kind; range = λ x. absurd x }
kinds_by z v s choice l a l' (version_after y) i k = record { kind = k.kind; range = λ x. absurd x }
kinds_by z v s choice l a l' stores_after i k = record { kind = k.kind; range = λ x. absurd x }
kinds_by z v s choice l a l' (inserts y) i k = record { kind = k.kind; range = λ x. absurd x }
kinds_by z v s choice l a l' (loses y) i k = record { kind = k.kind; range = λ x. absurd x }
kinds_by z v s choice l a l' clears i k = record { kind = put_done l.call k.kind; range = λ x. absurd x }
kinds_by z v s choice l a l' (leaves answer) i k = record { kind = tt; range = λ x. absurd x }
kinds_by z v s choice l a l' retries i k = record { kind = k.kind; range = λ x. absurd x }
kinds_by z v s choice l a l' enters_again i k = record { kind = some_put l.call k.kind; range = λ x. absurd x }
kinds_by z v s choice l a l' (clock_is_spent e nd) i k = record { kind = put_spent l.call k.kind; range = λ x. absurd x }
kinds_by z v s choice l a l' (ends_at_clock dn) i k = record { kind = put_done l.call k.kind; range = λ x. absurd x }
kinds_by z v s choice l a l' (clock_serves e) i k = record { kind = k.kind; range = λ x. absurd x }
kinds_by z v s choice l a l' (epoch_is_spent e nd) i k = record { kind = put_spent l.call k.kind; range = λ x. absurd x }
kinds_by z v s choice l a l' (ends_at_epoch dn) i k = record { kind = put_done l.call k.kind; range = λ x. absurd x }
kinds_by z v s choice l a l' (epoch_serves e) i k = record { kind = k.kind; range = λ x. absurd x }
kinds_by z v s choice l a l' (finds_infant seat e) i k = record { kind = k.kind; range = λ x. absurd x }
kinds_by z v s choice l a l' (finds_normal e) i k = record { kind = k.kind; range = λ x. absurd x }
kinds_by z v s choice l a l' (finds_leader count e) i k = record { kind = k.kind; range = λ x. absurd x }
kinds_by z v s choice l a l' (finds_follower leader e) i k = record { kind = k.kind; range = λ x. absurd x }
kinds_by z v s choice l a l' (finds_other_state nd) i k = record { kind = k.kind; range = λ x. absurd x }
kinds_by z v s choice l a l' (ends_at_state dn) i k = record { kind = put_done l.call k.kind; range = λ x. absurd x }
kinds_by z v s choice l a l' (normalises seat) i k = record { kind = k.kind; range = λ x. absurd x }
kinds_by z v s choice l a l' (engages e) i k = record { kind = k.kind; range = λ x. absurd x }
kinds_by z v s choice l a l' (is_engaged e) i k = record { kind = k.kind; range = λ x. absurd x }
kinds_by z v s choice l a l' (marks_link count q e o) i k = record { kind = k.kind; range = λ x. absurd x }
kinds_by z v s choice l a l' (marks_last count e o) i k = record { kind = (k.kind, omega arith); range = λ x. absurd x }
kinds_by z v s choice l a l' (marks_led count next d n) i k = counted_kinds count _ next n k.kind
kinds_by z v s choice l a l' (decides count m next e n) i k = counted_kinds _ _ next n k.kind.0
kinds_by z v s choice l a l' (decides_not count nd) i k = record { kind = k.kind.0; range = λ x. absurd x }
kinds_by z v s choice l a l' (ends_undecided count dn) i k = record { kind = put_done l.call k.kind.0; range = λ x. absurd x }
kinds_by z v s choice l a l' freezes_count i k = record { kind = k.kind; range = λ x. absurd x }
kinds_by z v s choice l a l' (sees_idle j e) i k = record { kind = k.kind; range = λ x. absurd x }
kinds_by z v s choice l a l' (sees_unstamped j c e) i k = record { kind = k.kind; range = λ x. absurd x }
kinds_by z v s choice l a l' (remembers j c version e o) i k = record { kind = k.kind; range = λ x. absurd x }
kinds_by z v s choice l a l' (remembers_last j c version next e o n) i k = frozen_kinds _ next n k.kind
kinds_by z v s choice l a l' (sees_frozen j e o) i k = record { kind = k.kind; range = λ x. absurd x }
kinds_by z v s choice l a l' (sees_frozen_last j next e o n) i k = frozen_kinds l next n k.kind
kinds_by z v s choice l a l' (freezes_entry j e o) i k = record { kind = k.kind; range = λ x. absurd x }
kinds_by z v s choice l a l' (freezes_last j next e o n) i k = frozen_kinds l next n k.kind
kinds_by z v s choice l a l' (looks_again j e) i k = record { kind = k.kind; range = λ x. absurd x }
kinds_by z v s choice l a l' (sees_quiet j e o) i k = record { kind = k.kind; range = λ x. absurd x }
kinds_by z v s choice l a l' (sees_quiet_last j e o) i k = record { kind = k.kind; range = λ x. absurd x }
kinds_by z v s choice l a l' (helps_scan j clock e) i k = record { kind = k.kind; range = λ x. absurd x }
kinds_by z v s choice l a l' (sees_drawn j version e o) i k = record { kind = k.kind; range = λ x. absurd x }
kinds_by z v s choice l a l' (sees_drawn_last j version e o) i k = record { kind = k.kind; range = λ x. absurd x }
kinds_by z v s choice l a l' (draws_for j) i k = record { kind = k.kind; range = λ x. absurd x }
kinds_by z v s choice l a l' (settles_scan j e o) i k = record { kind = k.kind; range = λ x. absurd x }
kinds_by z v s choice l a l' (settles_last j e o) i k = record { kind = k.kind; range = λ x. absurd x }
kinds_by z v s choice l a l' (finds_drawn j version e o) i k = record { kind = k.kind; range = λ x. absurd x }
kinds_by z v s choice l a l' (finds_drawn_last j version e o) i k = record { kind = k.kind; range = λ x. absurd x }
kinds_by z v s choice l a l' (finds_no_scan j e o) i k = record { kind = k.kind; range = λ x. absurd x }
kinds_by z v s choice l a l' (finds_no_scan_last j e o) i k = record { kind = k.kind; range = λ x. absurd x }
kinds_by z v s choice l a l' (looks_at_pin j next n) i k = absurd k.kind
kinds_by z v s choice l a l' (take_leads c e) i k = record { kind = k.kind; range = λ x. absurd x }
kinds_by z v s choice l a l' (takes_left m e n o) i k = record { kind = k.kind; range = λ x. absurd x }
kinds_by z v s choice l a l' takes_key i k = record { kind = k.kind; range = λ x. absurd x }
kinds_by z v s choice l a l' takes_version i k = record { kind = k.kind; range = λ x. absurd x }
kinds_by z v s choice l a l' keeps_taken i k = record { kind = k.kind; range = λ x. absurd x }
kinds_by z v s choice l a l' takes_left_key i k = record { kind = k.kind; range = λ x. absurd x }
kinds_by z v s choice l a l' (keeps_left m n o) i k = record { kind = k.kind; range = λ x. absurd x }
kinds_by z v s choice l a l' (takes_no_more next e f n) i k = gathered_kinds z l next n k.kind
kinds_by z v s choice l a l' (keeps_no_more next f n) i k = gathered_kinds z _ next n k.kind
kinds_by z v s choice l a l' counts_next i k = record { kind = (k.kind, one_counted (goes_along (count_of (v (name.Count (row_after l)))) l)); range = λ x. absurd x }
kinds_by z v s choice l a l' (claims_next e) i k = record { kind = k.kind; range = λ x. absurd x }
kinds_by z v s choice l a l' (next_is_infant seat e) i k = record { kind = k.kind; range = λ x. absurd x }
kinds_by z v s choice l a l' (next_leads count e) i k = record { kind = k.kind; range = λ x. absurd x }
kinds_by z v s choice l a l' (normalises_next seat) i k = record { kind = k.kind; range = λ x. absurd x }
kinds_by z v s choice l a l' marks_next i k = record { kind = k.kind; range = λ x. absurd x }
kinds_by z v s choice l a l' (begins_left q e d) i k = record { kind = k.kind; range = λ x. absurd x }
kinds_by z v s choice l a l' (takes_leader q e) i k = record { kind = k.kind; range = λ x. absurd x }
kinds_by z v s choice l a l' (reaches_leader e) i k = record { kind = k.kind; range = λ x. absurd x }
kinds_by z v s choice l a l' (leads_left q e d) i k = record { kind = k.kind; range = λ x. absurd x }
kinds_by z v s choice l a l' (walks_left o) i k = record { kind = k.kind; range = λ x. absurd x }
kinds_by z v s choice l a l' (claims_not nd) i k = record { kind = k.kind; range = λ x. absurd x }
kinds_by z v s choice l a l' (head_follows nd e) i k = record { kind = k.kind; range = λ x. absurd x }
kinds_by z v s choice l a l' (none_is_left nd e) i k = record { kind = k.kind; range = λ x. absurd x }
kinds_by z v s choice l a l' (passes_left nd o) i k = record { kind = k.kind; range = λ x. absurd x }
kinds_by z v s choice l a l' (ends_unclaimed dn) i k = record { kind = put_done l.call k.kind; range = λ x. absurd x }
kinds_by z v s choice l a l' (ends_at_head dn) i k = record { kind = put_done l.call k.kind; range = λ x. absurd x }
kinds_by z v s choice l a l' (ends_at_none dn) i k = record { kind = put_done l.call k.kind; range = λ x. absurd x }
kinds_by z v s choice l a l' (ends_past dn) i k = record { kind = put_done l.call k.kind; range = λ x. absurd x }

-- the acting seat goes on to an activity of its call
pub kinds_own : (z : Sizes) (r r' : Run) (s : ℕ) (choice : Choice) (l : Local) (a : Activity) (l' : Local) → Arrow z (word z r.world) s choice l a l' → Happens z r r' s choice l l' a → Shape z r → Kinds l'.activity l'
kinds_own z r r' s choice l a l' b h i = kinds_by z (word z r.world) s choice l a l' b (i.sane.locals s l h.knows).ranges.call (subst (λ q. Kinds q l) h.activity (i.kinds s l h.knows))

-- a seat that goes on in its visit is where its call has it
walks_in_visit : (z : Sizes) (r r' : Run) (s : ℕ) (choice : Choice) (l : Local) (a : Activity) (l' : Local) → Arrow z (word z r.world) s choice l a l' → Happens z r r' s choice l l' a → Shape z r → IsVisiting a → (WritesPass a → ⊥) → Walks (word z r'.world) r'.ledger.rows s l'.activity l'
walks_in_visit z r r' s choice l a l' b h i x n =
    walks_stable _ _ _ _ s (own_rely z r r' s choice l a l' h i x n) l'.activity l' (walks_by z (word z r.world) r.ledger.rows s choice l a l' b i.rows (subst (λ q. Walks (word z r.world) r.ledger.rows s q l) h.activity (i.walks s l h.knows)))

-- the acting seat is where its call has it: as it enters and leaves it is nowhere along the rows,
-- and else it goes on in its visit
pub walks_own : (z : Sizes) (r r' : Run) (s : ℕ) (choice : Choice) (l : Local) (a : Activity) (l' : Local) → Arrow z (word z r.world) s choice l a l' → Happens z r r' s choice l l' a → Shape z r → Walks (word z r'.world) r'.ledger.rows s l'.activity l'
walks_own z r r' s choice l a l' (builds b next y t) h i = walks_in_visit z r r' s choice l b l' (builds b next y t) h i (built_visits b y).0 (built_pass b y)
walks_own z r r' s choice l a l' (begins call e b) h i = walks_outside _ _ s (Activity.Enter Enter.Announce) l' (λ x. x)
walks_own z r r' s choice l a l' (enters e) h i = record { on = tt; lower = λ q. absurd q; built = λ q. absurd q; at = λ q. absurd q; begins = λ q. refl; wants = λ q. absurd q }
walks_own z r r' s choice l a l' (enters_scan e) h i = record { on = tt; lower = λ q. absurd q; built = λ q. absurd q; at = λ q. absurd q; begins = λ q. absurd q; wants = λ q. absurd q }
walks_own z r r' s choice l a l' (asks_of_pin next c n) h i = no_call_of_pin _ h i c
walks_own z r r' s choice l a l' (leaves answer) h i = walks_outside _ _ s Activity.Idle l' (λ x. x)
walks_own z r r' s choice l a l' retries h i = walks_outside _ _ s (Activity.Enter Enter.LoadEpoch) l' (λ x. x)
walks_own z r r' s choice l a l' enters_again h i = walks_outside _ _ s (Activity.Enter Enter.Announce) l' (λ x. x)
walks_own z r r' s choice l a l' b h i = walks_in_visit z r r' s choice l _ l' b h i tt (λ x. x)

-- Another seat.

-- it is where its call has it
walks_other : (z : Sizes) (r r' : Run) (s : ℕ) (choice : Choice) (l : Local) (a : Activity) (l' : Local) → Happens z r r' s choice l l' a → Shape z r → (t : ℕ) (k : Local) → t ≢ s → slice_get r.world.locals t ≡ Some k → Walks (word z r'.world) r'.ledger.rows t k.activity k
walks_other z r r' s choice l a l' h i t k d g = which (is_visiting k.activity)
  where
    which : IsVisiting k.activity ⊎ (IsVisiting k.activity → ⊥) → Walks (word z r'.world) r'.ledger.rows t k.activity k
    which (inl x) =
        let p = (i.visits t k g).in_visit x in
        walks_stable _ _ _ _ t (rely_rows a h i t p.since p.visits (others_kept a h t d ∙ p.visits)) k.activity k (i.walks t k g)
    which (inr x) = walks_outside _ _ t k.activity k x

-- The group.

module _ {z : Sizes} {r r' : Run} {s : ℕ} {choice : Choice} {l l' : Local} where
  -- no event acts on a row that the table does not have
  beyond_stays : (a : Activity) → Happens z r r' s choice l l' a → Shape z r → (q : ℕ) → r.world.rows ≤ q → r'.ledger.rows.fates q ≡ r.ledger.rows.fates q
  beyond_stays (Activity.Rebalance (Rebalance.Seek Seek.Reclaim)) h i q o = fate_stays (Activity.Rebalance (Rebalance.Seek Seek.Reclaim)) h q (λ c. absurd (omega (arith, o, c, (i.sane.locals s l h.knows).below.rebalance.sought)))
  beyond_stays (Activity.Rebalance (Rebalance.Seek Seek.Take)) h i q o = fate_stays (Activity.Rebalance (Rebalance.Seek Seek.Take)) h q (λ c. absurd (omega (arith, o, c, (i.sane.locals s l h.knows).below.rebalance.sought)))
  beyond_stays (Activity.Rebalance (Rebalance.Seek Seek.GiveBack)) h i q o = fate_stays (Activity.Rebalance (Rebalance.Seek Seek.GiveBack)) h q (λ c. absurd (omega (arith, o, c, taken_below z r.world s l i.sane h.knows l.rebalance.at (infant l) (infant_at l ((infants_at (Activity.Rebalance (Rebalance.Seek Seek.GiveBack)) h i).hand tt)))))
  beyond_stays (Activity.Rebalance (Rebalance.Replace Replace.Exchange)) h i q o = fate_stays (Activity.Rebalance (Rebalance.Replace Replace.Exchange)) h q acts
    where
      group : IsOfGroup l q → ⊥
      group (inl c) = omega (arith, o, c, (i.sane.locals s l h.knows).below.row)
      group (inr c) = let p : q < r.world.rows = subst (IsRowBelow r.world.rows) c (i.sane.locals s l h.knows).below.rebalance.second in omega (arith, o, p)

      acts : IsIn (group_of l) q ⊎ IsIn l.rebalance.taken q → ⊥
      acts (inl c) = group (of_group l q c)
      acts (inr c) = let p = index_of_row l.rebalance.taken q c in absurd (omega (arith, o, taken_below z r.world s l i.sane h.knows p.0 q p.1))
  beyond_stays a h i q o = fate_stays a h q (λ x. x)

pub shape_keeps : (z : Sizes) (r r' : Run) (s : ℕ) (choice : Choice) (l : Local) (a : Activity) (l' : Local) → Happens z r r' s choice l l' a → Shape z r → Shape z r'
shape_keeps z r r' s choice l a l' h i = record {
  sane = sane;
  built = i.built;
  fits = i.fits;
  room = λ q o. room_keeps z r r' s choice l a l' h.arrow h i q (subst (λ x. q < x) h.rows o);
  clock = clock_keeps z r r' s choice l a l' h.arrow h i;
  rows = structure_keeps a h i;
  beyond = λ q o. ap (λ (x : Fate). x.status) (beyond_stays a h i q (omega (arith, o, h.rows))) ∙ i.beyond q (omega (arith, o, h.rows));
  keyed = keyed_keeps a h i sane;
  epoch = epoch_keeps z r r' s choice l a l' h.arrow h i;
  numbers = numbers_keep z r r' s choice l a l' h i;
  tidies = each_seat h (λ t k. k.tidies ≡ true → IsBalancing k.activity ⊎ IsDone k.activity) (λ e. arrow_tidied z (word z r.world) s choice l a l' h.arrow (λ f. subst (λ c. IsBalancing c ⊎ IsDone c) h.activity (i.tidies s l h.knows f)) e) (λ t k d g. i.tidies t k g);
  offered = each_seat h (λ t k. k.tidies ≡ true → r'.world.rows < TIDY_SHARE * k.epoch) (λ e. offered_own a h i e) (λ t k d g e. offered_other a h i t k g e);
  no_pin = each_seat h (λ t k. k.pin ≡ None) (arrow_pin z (word z r.world) s choice l a l' h.arrow (kind_at a h i) (i.no_pin s l h.knows)) (λ t k d g. i.no_pin t k g);
  kinds = each_seat h (λ t k. Kinds k.activity k) (kinds_own z r r' s choice l a l' h.arrow h i) (λ t k d g. i.kinds t k g);
  visits = each_seat h (λ t k. Visits (word z r'.world) r'.ledger.rows t k.activity k) (visits_own z r r' s choice l a l' h.arrow h i) (visits_other z r r' s choice l a l' h i);
  outside = outside_stays a h i;
  walks = each_seat h (λ t k. Walks (word z r'.world) r'.ledger.rows t k.activity k) (walks_own z r r' s choice l a l' h.arrow h i) (walks_other z r r' s choice l a l' h i);
  balances = each_seat h (λ t k. Balances (word z r'.world) r'.ledger.rows t k.activity k) (balances_own z r r' s choice l a l' h.arrow h i) (balances_other z r r' s choice l a l' h i);
  rest = each_seat h (λ t k. IsRest z k.activity k) (rest_own a h i) (λ t k d g. i.rest t k g);
  keys = each_seat h (λ t k. Keys z (word z r'.world) r'.ledger.rows k.activity k) (keys_own a h i sane) (λ t k d g. keys_stay a h i sane t k g);
  plans = each_seat h (λ t k. Plans z k.activity k) (plans_own z r r' s choice l a l' h.arrow h i) (λ t k d g. i.plans t k g);
  infants = each_seat h (λ t k. Infants z (word z r'.world) r'.ledger.rows t k.activity k) (infants_go a h.arrow h i) (infants_other a h i);
  none_lost = each_seat h (λ t k. HasLostNone r'.ledger.rows t k.activity k) (none_lost_own a l' h.arrow h i) (none_lost_other a h i);
  search = each_seat h (λ t k. Search (word z r'.world) r'.ledger.rows t k.activity k) (search_go a h.arrow h i) (search_other a h i);
  won = each_seat h (λ t k. Won r'.ledger.rows t k.activity k) (won_own a h.arrow h i) (won_other a h i);
  sought = each_seat h (λ t k. Sought z (word z r'.world) r'.ledger.rows t k.activity k) (sought_own a h.arrow h i) (sought_other a h i);
  unretired = each_seat h (λ t k. (q : ℕ) → IsToRetire k.activity k q → IsEngaged ((rows_in (word z r'.world)).state q)) (unretired_own a h.arrow h i) (unretired_other a h i);
}
  where
    sane : IsSane z r'.world
    sane = sane_keeps z r r' s choice l a l' h.arrow h i
