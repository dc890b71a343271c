-- What the events of a call so far say of a seat that is about to be refused, or searches for rows,
-- and that each event of the seat keeps it.
use Rattle.std.proofs.Common.{ℕ, ◌≡◌, ◌≢◌, ◌⊎◌, inl, inr, ◌+◌, ◌<◌, ◌≤◌, ◌==◌, Bool, true, false, nat_le, nat_lt, if◌then◌else◌, Option, Some, None, List, [], ◌∷◌, ◌++◌, arith, refl, sym, ◌∙◌, ap, subst, length, slice_get, length-append}
use Rattle.std.proofs.lemmas.Bool.Decides.{nat_tests}
use Rattle.std.proofs.lemmas.Option.{same_Some}
use Rattle.kw_words.specs.declared.kind.Kind.TheVariants as kind
use Rattle.kw_words.specs.declared.layout.Name.TheVariants as name
use Rattle.kw_words.specs.declared.sizes.TheConstants.{SPENT}
use Rattle.kw_words.specs.declared.state.State.{State}
use Rattle.kw_words.specs.declared.state.State.TheVariants.{Free, Infant, Normal, Leader, Follower, Retired}
use Rattle.kw_words.specs.Plain.{IsCounted, number_word, pass_of_word}
use Rattle.kw_words.specs.State.{state_of, state_word}
use Rattle.kw_words.proofs.PlainWords.{IsCounted-number_of_word, number_word-number_of_word}
use Rattle.kw_words.proofs.StateWords.{state_of-Free}
use Rattle.kw_model.specs.declared.call.Call.{Call}
use Rattle.kw_model.specs.declared.call.Call.TheVariants.{Put, Del, Get, Scan, Pin, ScanAt, Unpin}
use Rattle.kw_world.specs.declared.activity.Activity.{Activity}
use Rattle.kw_world.specs.declared.activity.draw.Draw.TheVariants as Draw
use Rattle.kw_world.specs.declared.activity.rebalance.engage.Engage.TheVariants as Engage
use Rattle.kw_world.specs.declared.activity.rebalance.Rebalance.TheVariants as Rebalance
use Rattle.kw_world.specs.declared.activity.rebalance.seek.Seek.TheVariants as Seek
use Rattle.kw_world.specs.declared.activity.rebalance.write.Write.TheVariants as Write
use Rattle.kw_world.specs.declared.answer.Answer.{Answer}
use Rattle.kw_world.specs.declared.answer.Answer.TheVariants.{Done, Pairs, NoRows, Spent}
use Rattle.kw_world.specs.declared.event.Choice.{Choice}
use Rattle.kw_world.specs.declared.event.Choice.TheVariants.{Begin, Go, Guess, Stop}
use Rattle.kw_world.specs.declared.event.Event.{Event}
use Rattle.kw_world.specs.declared.local.Local.{Local}
use Rattle.kw_world.specs.declared.opening.Opening.{Opening}
use Rattle.kw_world.specs.declared.operation.Action.TheVariants.{Load}
use Rattle.kw_world.specs.declared.operation.Operation.{Operation}
use Rattle.kw_world.specs.declared.rebalance.Afterwards.{Afterwards}
use Rattle.kw_world.specs.declared.rebalance.Afterwards.TheVariants.{TryAgain, Refuse, MoveLeft}
use Rattle.kw_world.specs.Answers.{answer_found}
use Rattle.kw_world.specs.ScanTransitions.{answer_or_stopped}
use Rattle.kw_world.specs.SeekTransitions.{at_infant, has_more, row_behind, given_back, give_back, pass_seen, to_pass, to_seek, seek_seen, seeking, seek_first_transition, with_row, take_row}
use Rattle.kw_world.specs.Sizes.{Sizes}
use Rattle.kw_world.specs.Table.{transition}
use Rattle.kw_world.specs.Transition.{Transition, Outcome, to, leave}
use Rattle.kw_world.specs.Local.{without_rows, without_rebalance}
use Rattle.kw_world.specs.WalkTransitions.{offered}
use Rattle.kw_world.specs.WorldView.{WorldView}
use Rattle.kw_world.specs.Sane.{IsOffered}
use Rattle.kw_world.specs.Step.{word, followed, transition_at}
use Rattle.kw_world.proofs.Steps.{transition_of-transition}
use Rattle.kw_core.specs.Events.{event, world}
use Rattle.kw_core.specs.Run.{Run}
use Rattle.kw_core.specs.Stages.{IsBusy}
use Rattle.kw_core.specs.Words.{Words}
use Rattle.kw_core.proofs.Arrows.{Arrow, NextLook, looks, lists, NextLeftOver, goes_to_left_over, answers, ends_scan, scans_on, is_spent, sees_stamped, sees_neither, is_gone_by, helps, finds_stamped, finds_other, list_ends, key_above, left_over_gone_by, gathers_left_over, clears_scan, clock_is_spent, epoch_is_spent, remembers_last, sees_frozen_last, freezes_last, takes_no_more, keeps_no_more, builds, first_ends, marks_led, decides, asks_of_pin, looks_at_pin}
use Rattle.kw_core.proofs.Building.{Building, first_is_free, first_is_taken, first_is_retired, sought_is_free, sought_is_taken, sought_is_retired, pass_is_old, pass_is_young, frees_row, takes_row, loses_row, gives_one_back, gives_last_back, writes_first, writes_entry, writes_no_cell, writes_after, begins_before, takes_head_before, leads_on_marked, leads_nowhere, walks_past, is_marked_before, is_replaced}
use Rattle.kw_core.proofs.NextBuilt.{tries_again, moves_left, NextBack, gives_back, has_none, NextNewRow, writes_row, has_written, NextNewCell, fills, empties, has_cells, NextNewEntry, writes_idle, has_entries, NextBefore, is_first, is_behind, was_done}
use Rattle.kw_core.proofs.Grouping.{NextCounted, NextFrozen, NextGathered, claims_row, goes_alone, freezes_ahead, froze_all, gathers_ahead, gathered_all}
use Rattle.kw_core.proofs.Happens.{Happens, found_at}
use Rattle.kw_reads.specs.Inv.{Inv}
use Rattle.kw_rows.specs.Events.{IsIn}
use Rattle.kw_shape.specs.RowsIn.{state_seen}
use Rattle.kw_shape.proofs.SoughtKeep.{retakes}
use Rattle.kw_shape.specs.Shape.{IsKind, IsPutCall, IsScanCall, IsPairs}
use Rattle.kw_laws.specs.Causes.{AskedAll, IsAsking, IsSpentBy, IsTrying, MayBeNamed, SawPass, FoundTaken, TookRow, asking, asking_pass, reclaiming, taking}
use Rattle.kw_laws.specs.Mirror.{Occurs, Acts}
use Rattle.kw_laws.proofs.CausesLast.{IsSearching, asked_lasts, spent_lasts, trying_searches}
use Rattle.kw_cells.proofs.Even.{starts_some}
use Rattle.kw_laws.proofs.CausesSearch.{none_gone_by, in_front, in_last, in_was, IsBeforeSearch, Searching, searching_begun, searching_lasts, searching_number, AsksPassWords, asks_lasts, asks_taken, asked_all, next_row}
use Rattle.kw_laws.proofs.Occurs.{occurs_now, occurs_was, occurs_within}
use Rattle.kw_puts.proofs.BuiltStages.{of_pin_is, pin_look_is}

-- what the events of the call, which began at this position, say of its seat
abbrev pub Since : Activity → Sizes → Opening → List Event → ℕ → ℕ → Call → Local → Type 0
Since (Activity.Leave Spent) z o es s first call l = IsSpentBy z o es call s first (length es)
Since (Activity.Leave NoRows) z o es s first call l = AskedAll z o es s o.rows first (length es)
Since (Activity.Rebalance (Rebalance.Seek Seek.GiveBack)) z o es s first call l = l.rebalance.afterwards ≡ Refuse → AskedAll z o es s o.rows first (length es)
Since (Activity.Rebalance (Rebalance.Seek Seek.First)) z o es s first call l = IsBeforeSearch l.rebalance
Since (Activity.Rebalance (Rebalance.Seek (Seek.Pass i))) z o es s first call l = (w : Searching z o es s first l.rebalance) × AsksPassWords z o es s w.begun l.rebalance.sought l.rebalance.number
Since (Activity.Rebalance (Rebalance.Seek _)) z o es s first call l = Searching z o es s first l.rebalance
Since _ z o es s first call l = Unit {0}

-- over one more event, by which the seat asks for no row
pub since_lasts : (z : Sizes) (o : Opening) (es : List Event) (e : Event) (s first : ℕ) (call : Call) (l : Local) (a : Activity) → length es ≤ length (es ++ e ∷ []) → ((u found : ℕ) (b : Activity) (op : Operation) → IsSearching b → length es ≤ u → u < length (es ++ e ∷ []) → Acts z o (es ++ e ∷ []) u s b op found → ⊥) →
    Since a z o es s first call l → Since a z o (es ++ e ∷ []) s first call l
since_lasts z o es e s first call l a w idle p = by a p
  where
    inside : length es ≤ length es
    inside = omega arith

    rows : AskedAll z o es s o.rows first (length es) → AskedAll z o (es ++ e ∷ []) s o.rows first (length (es ++ e ∷ []))
    rows = asked_lasts z o es e s (length es) (length (es ++ e ∷ [])) w inside idle o.rows first

    search : Searching z o es s first l.rebalance → Searching z o (es ++ e ∷ []) s first l.rebalance
    search = searching_lasts z o es e s first l.rebalance w (λ u found op f g c. idle u found (Activity.Rebalance (Rebalance.Seek Seek.First)) op tt f g c) (λ q u found b op n f g d c. idle u found b op (trying_searches s q b op d) f g c)

    visits : (t : Searching z o es s first l.rebalance) → AsksPassWords z o es s t.begun l.rebalance.sought l.rebalance.number → AsksPassWords z o (es ++ e ∷ []) s (search t).begun l.rebalance.sought l.rebalance.number
    visits t q =
        let same : (search t).begun ≡ t.begun = searching_begun z o es e s first l.rebalance w (λ u found op f g c. idle u found (Activity.Rebalance (Rebalance.Seek Seek.First)) op tt f g c) (λ d u found b op n f g x c. idle u found b op (trying_searches s d b op x) f g c) t in
        subst (λ x. AsksPassWords z o (es ++ e ∷ []) s x l.rebalance.sought l.rebalance.number) (sym same) (asks_lasts z o es e s t.begun l.rebalance.sought l.rebalance.number (λ u found b op f g d c. idle u found b op (trying_searches s l.rebalance.sought b op d) f g c) q)

    by : (b : Activity) → Since b z o es s first call l → Since b z o (es ++ e ∷ []) s first call l
    by (Activity.Leave Spent) q = spent_lasts z o es e s (length es) (length (es ++ e ∷ [])) w call first q
    by (Activity.Leave NoRows) q = rows q
    by (Activity.Rebalance (Rebalance.Seek Seek.GiveBack)) q = λ x. rows (q x)
    by (Activity.Rebalance (Rebalance.Seek Seek.First)) q = q
    by (Activity.Rebalance (Rebalance.Seek (Seek.Pass i))) q = (search q.0, visits q.0 q.1)
    by (Activity.Rebalance (Rebalance.Seek _)) q = search q
    by _ q = tt

-- Which calls ask, and when.

asks_scan : (call : Call) → IsScanCall (Some call) → IsAsking call (Activity.Draw Draw.Clock) (record { kind = kind.LoadClock; name = name.Clock; action = Load })
asks_scan (Put key value) k = absurd k
asks_scan (Del key) k = absurd k
asks_scan (Get key) k = absurd k
asks_scan (Scan from upto) k = refl
asks_scan Pin k = refl
asks_scan (ScanAt from upto) k = absurd k
asks_scan Unpin k = absurd k

asks_clock : (call : Call) → IsPutCall (Some call) → IsAsking call (Activity.Rebalance (Rebalance.Engage Engage.Clock)) (record { kind = kind.LoadClock; name = name.Clock; action = Load })
asks_clock (Put key value) k = refl
asks_clock (Del key) k = refl
asks_clock (Get key) k = absurd k
asks_clock (Scan from upto) k = absurd k
asks_clock Pin k = absurd k
asks_clock (ScanAt from upto) k = absurd k
asks_clock Unpin k = absurd k

asks_epoch : (call : Call) → IsPutCall (Some call) → IsAsking call (Activity.Rebalance (Rebalance.Engage Engage.Epoch)) (record { kind = kind.LoadEpoch; name = name.Epoch; action = Load })
asks_epoch (Put key value) k = refl
asks_epoch (Del key) k = refl
asks_epoch (Get key) k = absurd k
asks_epoch (Scan from upto) k = absurd k
asks_epoch Pin k = absurd k
asks_epoch (ScanAt from upto) k = absurd k
asks_epoch Unpin k = absurd k

-- a state that is not free is not the word of a free one
not_free : (w : ℕ) (x : Option State) → state_of w ≡ x → x ≢ Some Free → w ≢ state_word Free
not_free w x e n f = n (sym e ∙ ap state_of f ∙ state_of-Free)

-- the activity is none of a search, or of what gives back what it took
abbrev IsOffSearch : Activity → Type 0
IsOffSearch (Activity.Rebalance (Rebalance.Seek _)) = ⊥
IsOffSearch _ = Unit {0}

-- One more event, of a seat that makes this call and knows l.

module _ (z : Sizes) (o : Opening) (es : List Event) (e : Event) (r r' : Run) (l l' : Local) (a : Activity) (h : Happens z r r' e.seat (offered r.world.rows e.choice) l l' a) (i : Inv z r) (led : world z o es ≡ r.world) (rows : r.world.rows ≡ o.rows) (first : ℕ) (call : Call) (asked : l.call ≡ Some call) (past : first < length es) where
  -- the words, and the choice
  abbrev v : Words
  v = word z r.world

  abbrev choice : Choice
  choice = offered r.world.rows e.choice

  abbrev ess : List Event
  ess = es ++ e ∷ []

  longer : length es < length (es ++ e ∷ [])
  longer = omega (arith, length-append es (e ∷ []))

  -- what the seat does now
  occurs_here : Occurs z o (es ++ e ∷ []) (length es) r.world e
  occurs_here = let t = occurs_now z o es e in record { stands = t.stands; before = t.before ∙ led }

  operates_here : (b : Activity) (op : Operation) → a ≡ b → (transition z b e.seat (offered r.world.rows e.choice) l).operation ≡ op → (transition_at z r.world e l).operation ≡ op
  operates_here b op is f = ap (λ (x : Transition). x.operation) (transition_of-transition z e.seat (offered r.world.rows e.choice) l ∙ ap (λ c. transition z c e.seat (offered r.world.rows e.choice) l) (h.activity ∙ is)) ∙ f

  abbrev acts_here : (b : Activity) (op : Operation) (found : ℕ) → a ≡ b → (transition z b e.seat (offered r.world.rows e.choice) l).operation ≡ op → word z r.world op.name ≡ found → Acts z o (es ++ e ∷ []) (length es) e.seat b op found
  acts_here b op found is f g = record { before = r.world; choice = e.choice; local = l; occurs = occurs_here; knows = h.knows; activity = h.activity ∙ is; operates = operates_here b op is f; finds = g }

  -- it is of the call's kind
  kind_here : (b : Activity) → a ≡ b → IsKind b l
  kind_here b is = subst (λ c. IsKind c l) (h.activity ∙ is) (i.shape.kinds e.seat l h.knows).kind

  -- Refusals.

  spent_here : (b : Activity) (op : Operation) → a ≡ b → (transition z b e.seat (offered r.world.rows e.choice) l).operation ≡ op → IsAsking call b op → SPENT ≤ word z r.world op.name → IsSpentBy z o (es ++ e ∷ []) call e.seat first (length (es ++ e ∷ []))
  spent_here b op is f asks w = record { at = length es; after = past; before = longer; activity = b; op = op; asks = asks; found = word z r.world op.name; acts = acts_here b op (word z r.world op.name) is f refl; spent = w }

  -- What follows without an event of its own.

  abbrev Then : Local → Type 0
  Then k = Since k.activity z o (es ++ e ∷ []) e.seat first call k

  next_look : (j : ℕ) (next : Activity) (k : Local) → NextLook z j next → Since next z o (es ++ e ∷ []) e.seat first call k
  next_look j next k (looks w) = tt
  next_look j next k (lists w) = tt

  found_leaves : (x : Option ℕ) (k : Local) → Since (Activity.Leave (answer_found x)) z o (es ++ e ∷ []) e.seat first call k
  found_leaves (Some value) k = tt
  found_leaves None k = tt

  next_left_over : (m k : Local) → NextLeftOver m k → Then k
  next_left_over m k (goes_to_left_over x w) = tt
  next_left_over m k (answers w x) = found_leaves _ _
  next_left_over m k (ends_scan w x y) = tt
  next_left_over m k (scans_on q w x y n) = tt

  cleared : (answer : Answer) (c : Choice) (k : Local) → IsPairs answer → Since (Activity.Leave (answer_or_stopped answer c)) z o (es ++ e ∷ []) e.seat first call k
  cleared Pairs (Begin x) k p = tt
  cleared Pairs Go k p = tt
  cleared Pairs (Guess q) k p = tt
  cleared answer Stop k p = tt
  cleared _ c k p = absurd p

  next_row_written : (m k : Local) → NextNewRow m k → Then k
  next_row_written m k (writes_row w) = tt
  next_row_written m k (has_written w) = tt

  next_cell : (j : ℕ) (m k : Local) → NextNewCell z j m k → Then k
  next_cell j m k (fills w x) = tt
  next_cell j m k (empties w x) = tt
  next_cell j m k (has_cells next w n) = next_row_written m k n

  next_entry : (j : ℕ) (m k : Local) → NextNewEntry z j m k → Then k
  next_entry j m k (writes_idle w) = tt
  next_entry j m k (has_entries next w n) = next_cell 0 m k n

  next_before : (q : ℕ) (m k : Local) → NextBefore q m k → Then k
  next_before q m k (is_first w) = tt
  next_before q m k (is_behind w) = tt

  next_counted : (count : ℕ) (m k : Local) → NextCounted count m k → Then k
  next_counted count m k (claims_row q x y) = tt
  next_counted count m k (goes_alone x) = tt

  next_frozen : (m k : Local) → NextFrozen m k → Then k
  next_frozen m k (freezes_ahead q x) = tt
  next_frozen m k (froze_all x) = tt

  -- a search begins with the plan
  next_gathered : (m k : Local) → NextGathered z m k → Then k
  next_gathered m k (gathers_ahead q x) = tt
  next_gathered m k (gathered_all x) = record { sought = refl; asked = refl; taken = refl; some = starts_some z.built _ }

  -- rows that are given back so that the put goes on elsewhere
  back_again : (m k : Local) → NextBack TryAgain m k → Then k
  back_again m k (gives_back w) = λ x. let y : TryAgain ≡ Refuse = x in absurd (cc)
  back_again m k (has_none next w (tries_again nd)) = tt
  back_again m k (has_none next w (was_done dn)) = tt

  back_left : (m k : Local) → NextBack MoveLeft m k → Then k
  back_left m k (gives_back w) = λ x. let y : MoveLeft ≡ Refuse = x in absurd (cc)
  back_left m k (has_none next w moves_left) = tt

  -- Away from a search.

  built : (b : Activity) (k : Local) → Building z v choice l b k → IsOffSearch b → Then k
  built b k (first_is_free q c f) x = absurd x
  built b k (first_is_taken q n next c f t) x = absurd x
  built b k (first_is_retired q m c f) x = absurd x
  built b k (sought_is_free f) x = absurd x
  built b k (sought_is_taken n next f t) x = absurd x
  built b k (sought_is_retired m f) x = absurd x
  built b k (pass_is_old j epoch n next f w t) x = absurd x
  built b k (pass_is_young j next f t) x = absurd x
  built b k frees_row x = absurd x
  built b k (takes_row n next f t) x = absurd x
  built b k (loses_row n next f t) x = absurd x
  built b k (gives_one_back w) x = absurd x
  built b k (gives_last_back next w t) x = absurd x
  built b k (writes_first next t) x = next_entry 0 l k t
  built b k (writes_entry j next t) x = next_entry _ l k t
  built b k (writes_no_cell j next o t) x = next_cell _ l k t
  built b k (writes_after j next t) x = next_cell _ l k t
  built b k (begins_before next t) x = next_before _ l k t
  built b k (takes_head_before next t) x = next_before _ l k t
  built b k (leads_on_marked next f t) x = back_left l k t
  built b k (leads_nowhere next f t) x = back_again l k t
  built b k (walks_past next f t) x = back_again l k t
  built b k (is_marked_before next f t) x = back_left l k t
  built b k (is_replaced next f t) x = back_again l k t
  built b k _ x = tt

  by_arrow : (b : Activity) (k : Local) → a ≡ b → Arrow z v e.seat choice l b k → IsOffSearch b → Then k
  by_arrow b k is (builds c next y t) x = built c next t x
  by_arrow b k is (is_spent w) x = spent_here (Activity.Draw Draw.Clock) _ is refl (asks_scan call (subst IsScanCall asked (kind_here (Activity.Draw Draw.Clock) is))) w
  by_arrow b k is (clock_is_spent w nd) x = spent_here (Activity.Rebalance (Rebalance.Engage Engage.Clock)) _ is refl (asks_clock call (subst IsPutCall asked (kind_here (Activity.Rebalance (Rebalance.Engage Engage.Clock)) is))) w
  by_arrow b k is (epoch_is_spent w nd) x = spent_here (Activity.Rebalance (Rebalance.Engage Engage.Epoch)) _ is refl (asks_epoch call (subst IsPutCall asked (kind_here (Activity.Rebalance (Rebalance.Engage Engage.Epoch)) is))) w
  by_arrow b k is (sees_stamped j c version next f n) x = next_look _ next _ n
  by_arrow b k is (sees_neither j next f n) x = next_look _ next _ n
  by_arrow b k is (is_gone_by next f n) x = next_look _ next _ n
  by_arrow b k is (helps next f n) x = next_look _ next _ n
  by_arrow b k is (finds_stamped c version next f n) x = next_look _ next _ n
  by_arrow b k is (finds_other next f n) x = next_look _ next _ n
  by_arrow b k is (first_ends next f n) x = next_left_over _ k n
  by_arrow b k is (list_ends next f n) x = next_left_over _ k n
  by_arrow b k is (key_above next f n) x = next_left_over _ k n
  by_arrow b k is (left_over_gone_by next f n) x = next_left_over _ k n
  by_arrow b k is (gathers_left_over next n) x = next_left_over _ k n
  by_arrow b k is (clears_scan answer) x = cleared answer choice _ (kind_here (Activity.EndScan answer) is).1
  by_arrow b k is (remembers_last j c version next f w n) x = next_frozen _ next n
  by_arrow b k is (sees_frozen_last j next f w n) x = next_frozen _ next n
  by_arrow b k is (freezes_last j next f w n) x = next_frozen _ next n
  by_arrow b k is (takes_no_more next f none n) x = next_gathered _ next n
  by_arrow b k is (keeps_no_more next none n) x = next_gathered _ next n
  by_arrow b k is (marks_led count next d n) x = next_counted _ _ next n
  by_arrow b k is (decides count m next f n) x = next_counted _ _ next n
  by_arrow b k is (asks_of_pin next asks n) x = of_pin_is (λ c. Since c z o (es ++ e ∷ []) e.seat first call next) tt tt tt tt tt tt n
  by_arrow b k is (looks_at_pin j next n) x = pin_look_is (λ c. Since c z o (es ++ e ∷ []) e.seat first call next) (λ q. tt) tt n
  by_arrow b k is _ x = tt

  -- In a search.

  -- what the seat does now it does by its line
  acts_same : (u found : ℕ) (b : Activity) (op : Operation) → length es ≤ u → u < length (es ++ e ∷ []) → Acts z o (es ++ e ∷ []) u e.seat b op found → (a ≡ b) × ((transition_at z r.world e l).operation ≡ op)
  acts_same u found b op w x t = which (occurs_was z o es e u t.before (event e.seat t.choice) t.occurs)
    where
      which : Occurs z o es u t.before (event e.seat t.choice) ⊎ ((u ≡ length es) × (e ≡ event e.seat t.choice) × (world z o es ≡ t.before)) → (a ≡ b) × ((transition_at z r.world e l).operation ≡ op)
      which (inl y) = absurd (omega (arith, w, occurs_within z o es u t.before (event e.seat t.choice) y))
      which (inr y) =
          let at : t.before ≡ r.world = sym y.2 ∙ led in
          let k : slice_get r.world.locals e.seat ≡ Some t.local = subst (λ (q : WorldView). slice_get q.locals e.seat ≡ Some t.local) at t.knows in
          let same : l ≡ t.local = same_Some l t.local (sym h.knows ∙ k) in
          let line : (transition_at z r.world e l).operation ≡ (transition_at z t.before (event e.seat t.choice) t.local).operation =
          ap (λ m. (transition_at z r.world e m).operation) same ∙ ap (λ (d : Event). (transition_at z r.world d t.local).operation) y.1 ∙ ap (λ (q : WorldView). (transition_at z q (event e.seat t.choice) t.local).operation) (sym at) in
          (sym h.activity ∙ ap (λ (m : Local). m.activity) same ∙ t.activity, line ∙ t.operates)

  -- the row that it asks for is found taken, in a search that began at any position
  abbrev IsTakenNow : ℕ → Type 0
  IsTakenNow q = (begun : ℕ) → begun ≤ length es → FoundTaken z o (es ++ e ∷ []) e.seat begun (length (es ++ e ∷ [])) q

  -- one that is found in this state, and is retired, may be named in a visit that is on
  abbrev IsGoneByNow : Option State → Type 0
  IsGoneByNow x = (number : ℕ) → x ≡ Some (Retired number) → MayBeNamed z o (es ++ e ∷ []) e.seat (length es) (length (es ++ e ∷ [])) number l

  taken_here : (b : Activity) (op : Operation) (q : ℕ) → a ≡ b → (transition z b e.seat (offered r.world.rows e.choice) l).operation ≡ op → IsTrying e.seat q b op → op.name ≡ name.State q → word z r.world (name.State q) ≢ state_word Free → IsGoneByNow (state_of (word z r.world (name.State q))) → IsTakenNow q
  taken_here b op q is f tries n free gone_by begun w = record { at = length es; after = w; before = longer; activity = b; op = op; tries = tries; found = word z r.world (name.State q); acts = acts_here b op (word z r.world (name.State q)) is f (ap (word z r.world) n); taken = free; gone_by = gone_by; final = λ u x c y g d t k. omega (arith, g, d, length-append es (e ∷ [])) }

  -- the row that it asks for is found retired, and the visits are looked at
  asks_here : (b : Activity) (q number : ℕ) → a ≡ b → (transition z b e.seat (offered r.world.rows e.choice) l).operation ≡ asking q → IsTrying e.seat q b (asking q) → state_of (word z r.world (name.State q)) ≡ Some (Retired number) → (begun : ℕ) → begun ≤ length es → AsksPassWords z o (es ++ e ∷ []) e.seat begun q number
  asks_here b q number is f tries retired begun w = record { at = length es; after = w; before = longer; activity = b; tries = tries; found = word z r.world (name.State q); retired = retired; acts = acts_here b (asking q) (word z r.world (name.State q)) is f refl; final = λ u x c y g d t k. omega (arith, g, d, length-append es (e ∷ [])) }

  -- rows that are given back for want of others
  gives_up : (k : Local) → AskedAll z o (es ++ e ∷ []) e.seat o.rows first (length (es ++ e ∷ [])) → Then (give_back Refuse k).local
  gives_up k p = saw (nat_lt 0 (length k.rebalance.taken))
    where
      saw : (b : Bool) → Then (let x : Outcome = if b then to (Activity.Rebalance (Rebalance.Seek Seek.GiveBack)) (record k { rebalance = record k.rebalance { at = 0; afterwards = Refuse } }) else given_back Refuse k in x).local
      saw true = λ x. p
      saw false = no_rows_left k.tidies
        where
          no_rows_left : (b : Bool) → Then (leave (if b then Done else NoRows) (without_rebalance k)).local
          no_rows_left true = tt
          no_rows_left false = p

  -- the next row is asked, or all were
  goes_on : (k : Local) → (p : Searching z o (es ++ e ∷ []) e.seat first k.rebalance) → IsIn k.rebalance.taken k.rebalance.sought ⊎ FoundTaken z o (es ++ e ∷ []) e.seat p.begun (length (es ++ e ∷ [])) k.rebalance.sought → Then (to_seek o.rows k).local
  goes_on k p here = saw (nat_lt k.rebalance.asked o.rows) refl
    where
      saw : (b : Bool) → nat_lt k.rebalance.asked o.rows ≡ b → Then (let x : Outcome = if b then to (Activity.Rebalance (Rebalance.Seek Seek.Next)) (record k { rebalance = record k.rebalance { sought = row_behind o.rows k.rebalance.sought; asked = k.rebalance.asked + 1 } }) else give_back Refuse k in x).local
      saw true y = let more : k.rebalance.asked < o.rows = grind (arith, nat_tests) in next_row z o (es ++ e ∷ []) e.seat first k.rebalance more p here
      saw false y = let all : o.rows ≤ k.rebalance.asked = grind (arith, nat_tests) in gives_up k (asked_all z o (es ++ e ∷ []) e.seat first k.rebalance all p here)

  -- the row was found taken now
  goes_past : (k : Local) → Searching z o (es ++ e ∷ []) e.seat first k.rebalance → IsTakenNow k.rebalance.sought → Then (to_seek o.rows k).local
  goes_past k p t = goes_on k p (inr (t p.begun (omega (arith, p.before, length-append es (e ∷ [])))))

  -- a row whose state is seen
  reaches : (k : Local) (x : Option State) → Searching z o (es ++ e ∷ []) e.seat first k.rebalance → (x ≢ Some Free → IsGoneByNow x → IsTakenNow k.rebalance.sought) → ((number : ℕ) → x ≡ Some (Retired number) → (begun : ℕ) → begun ≤ length es → AsksPassWords z o (es ++ e ∷ []) e.seat begun k.rebalance.sought number) → Then (seek_seen o.rows x k).local
  reaches k (Some Free) p t asks = p
  reaches k (Some (Infant seat)) p t asks = goes_past k p (t (λ f. let y : Some (Infant seat) ≡ Some Free = f in cc) (λ n f. let y : Some (Infant seat) ≡ Some (Retired n) = f in absurd (cc)))
  reaches k (Some Normal) p t asks = goes_past k p (t (λ f. let y : Some Normal ≡ Some Free = f in cc) (λ n f. let y : Some Normal ≡ Some (Retired n) = f in absurd (cc)))
  reaches k (Some (Leader count)) p t asks = goes_past k p (t (λ f. let y : Some (Leader count) ≡ Some Free = f in cc) (λ n f. let y : Some (Leader count) ≡ Some (Retired n) = f in absurd (cc)))
  reaches k (Some (Follower leader)) p t asks = goes_past k p (t (λ f. let y : Some (Follower leader) ≡ Some Free = f in cc) (λ n f. let y : Some (Follower leader) ≡ Some (Retired n) = f in absurd (cc)))
  reaches k (Some (Retired number)) p t asks = (searching_number z o (es ++ e ∷ []) e.seat first number k.rebalance p, asks number refl p.begun (omega (arith, p.before, length-append es (e ∷ []))))
  reaches k None p t asks = goes_past k p (t (λ f. let y : None ≡ Some Free = f in cc) (λ n f. let y : None ≡ Some (Retired n) = f in absurd (cc)))

  -- what the seat knows next, by its line
  next_is : (b : Activity) → a ≡ b → l' ≡ (followed o.rows (transition z b e.seat (offered r.world.rows e.choice) l) (found_at z (word z r.world) b e.seat (offered r.world.rows e.choice) l)).local
  next_is b is = subst (λ n. l' ≡ (followed n (transition z b e.seat (offered r.world.rows e.choice) l) (found_at z (word z r.world) b e.seat (offered r.world.rows e.choice) l)).local) rows (subst (λ c. l' ≡ (followed r.world.rows (transition z c e.seat (offered r.world.rows e.choice) l) (found_at z (word z r.world) c e.seat (offered r.world.rows e.choice) l)).local) is h.next)

  then_so : (k : Local) → l' ≡ k → Then k → Then l'
  then_so k f p = subst Then (sym f) p

  -- a search begins at this row
  begins_search : (q : ℕ) → a ≡ Activity.Rebalance (Rebalance.Seek Seek.First) → q < o.rows → (transition z (Activity.Rebalance (Rebalance.Seek Seek.First)) e.seat (offered r.world.rows e.choice) l).operation ≡ asking q → IsBeforeSearch l.rebalance → Searching z o (es ++ e ∷ []) e.seat first (seeking q l).rebalance
  begins_search q is w f p = record {
    begun = length es;
    after = past;
    before = longer;
    row = q;
    found = word z r.world (name.State q);
    begins = acts_here (Activity.Rebalance (Rebalance.Seek Seek.First)) (asking q) (word z r.world (name.State q)) is f refl;
    starts = refl;
    within = w;
    sought = w;
    turn = inl (omega arith, omega (arith, p.asked));
    alone = λ u found op x y t. omega (arith, x, y, length-append es (e ∷ []));
    took = λ d x. absurd (subst (λ xs. IsIn xs d) p.taken x);
    fewer = omega (arith, ap (λ (xs : List ℕ). length xs) p.taken, p.some);
    gone_by = λ d x y. none_gone_by q d y;
  }

  first_row : (q : ℕ) → a ≡ Activity.Rebalance (Rebalance.Seek Seek.First) → q < o.rows → (transition z (Activity.Rebalance (Rebalance.Seek Seek.First)) e.seat (offered r.world.rows e.choice) l).operation ≡ asking q → l' ≡ (seek_seen o.rows (state_of (word z r.world (name.State q))) (seeking q l)).local → IsBeforeSearch l.rebalance → Then l'
  first_row q is w f n p =
      then_so _ n (reaches (seeking q l) (state_of (word z r.world (name.State q))) (begins_search q is w f p) (λ x. taken_here (Activity.Rebalance (Rebalance.Seek Seek.First)) (asking q) q is f refl refl (not_free _ _ refl x)) (λ number x. asks_here (Activity.Rebalance (Rebalance.Seek Seek.First)) q number is f refl x))

  at_first : a ≡ Activity.Rebalance (Rebalance.Seek Seek.First) → IsBeforeSearch l.rebalance → Then l'
  at_first is p = chosen (offered r.world.rows e.choice) refl h.offers
    where
      some_rows : l.rebalance.sought < o.rows
      some_rows = omega (arith, p.sought, rows, i.shape.sane.sized.some_rows)

      line : (d : Choice) → offered r.world.rows e.choice ≡ d → (transition z (Activity.Rebalance (Rebalance.Seek Seek.First)) e.seat (offered r.world.rows e.choice) l).operation ≡ (seek_first_transition d l).operation
      line d c = ap (λ x. (seek_first_transition x l).operation) c

      next : (d : Choice) → offered r.world.rows e.choice ≡ d → l' ≡ (followed o.rows (seek_first_transition d l) (word z r.world (seek_first_transition d l).operation.name)).local
      next d c = next_is (Activity.Rebalance (Rebalance.Seek Seek.First)) is ∙ ap (λ x. (followed o.rows (seek_first_transition x l) (word z r.world (seek_first_transition x l).operation.name)).local) c

      chosen : (d : Choice) → offered r.world.rows e.choice ≡ d → IsOffered r.world.rows (offered r.world.rows e.choice) → Then l'
      chosen (Begin x) c y = first_row l.rebalance.sought is some_rows (line (Begin x) c) (next (Begin x) c) p
      chosen Go c y = first_row l.rebalance.sought is some_rows (line Go c) (next Go c) p
      chosen (Guess q) c y = let w : q < r.world.rows = subst (IsOffered r.world.rows) c y in first_row q is (omega (arith, w, rows)) (line (Guess q) c) (next (Guess q) c) p
      chosen Stop c y = first_row l.rebalance.sought is some_rows (line Stop c) (next Stop c) p

  -- the search that goes on, over this event
  still : (b : Activity) (op : Operation) → a ≡ b → (transition z b e.seat (offered r.world.rows e.choice) l).operation ≡ op → b ≢ Activity.Rebalance (Rebalance.Seek Seek.First) → ((q : ℕ) → q ≢ l.rebalance.sought → IsTrying e.seat q b op → ⊥) → Searching z o es e.seat first l.rebalance → Searching z o (es ++ e ∷ []) e.seat first l.rebalance
  still b op is f n other p =
      let w : length es ≤ length (es ++ e ∷ []) = omega (arith, longer) in
      searching_lasts z o es e e.seat first l.rebalance w (λ u found d x y t. n (sym is ∙ (acts_same u found (Activity.Rebalance (Rebalance.Seek Seek.First)) d x y t).0)) (λ q u found c d g x y k t.
      let s = acts_same u found c d x y t in
      other q g (subst (λ m. IsTrying e.seat q m op) (sym s.0 ∙ is) (subst (λ m. IsTrying e.seat q c m) (sym s.1 ∙ operates_here b op is f) k))) p

  still_begun : (b : Activity) (op : Operation) (is : a ≡ b) (f : (transition z b e.seat (offered r.world.rows e.choice) l).operation ≡ op) (n : b ≢ Activity.Rebalance (Rebalance.Seek Seek.First)) (other : (q : ℕ) → q ≢ l.rebalance.sought → IsTrying e.seat q b op → ⊥) (p : Searching z o es e.seat first l.rebalance) → (still b op is f n other p).begun ≡ p.begun
  unfolding still
  still_begun b op is f n other p = searching_begun z o es e e.seat first l.rebalance _ _ _ p

  -- no other row is asked for
  asks_one : (q row : ℕ) → q ≢ row → asking row ≡ asking q → ⊥
  asks_one q row n f = n (let x : name.State row ≡ name.State q = ap (λ (op : Operation). op.name) f in cc)

  takes_one : (q row : ℕ) → q ≢ row → taking e.seat row ≡ taking e.seat q → ⊥
  takes_one q row n f = n (let x : name.State row ≡ name.State q = ap (λ (op : Operation). op.name) f in cc)

  -- a search that asks for a row, and one that tries to take it
  still_asking : a ≡ Activity.Rebalance (Rebalance.Seek Seek.Next) → Searching z o es e.seat first l.rebalance → Searching z o (es ++ e ∷ []) e.seat first l.rebalance
  still_asking is = still (Activity.Rebalance (Rebalance.Seek Seek.Next)) (asking l.rebalance.sought) is refl (λ x. cc) (λ q n f. asks_one q l.rebalance.sought n f)

  still_taking : a ≡ Activity.Rebalance (Rebalance.Seek Seek.Take) → Searching z o es e.seat first l.rebalance → Searching z o (es ++ e ∷ []) e.seat first l.rebalance
  still_taking is = still (Activity.Rebalance (Rebalance.Seek Seek.Take)) (taking e.seat l.rebalance.sought) is refl (λ x. cc) (λ q n f. takes_one q l.rebalance.sought n f)

  at_seek : a ≡ Activity.Rebalance (Rebalance.Seek Seek.Next) → Searching z o es e.seat first l.rebalance → Then l'
  at_seek is p =
      then_so _ (next_is (Activity.Rebalance (Rebalance.Seek Seek.Next)) is) (reaches (seeking l.rebalance.sought l) (state_of (word z r.world (name.State l.rebalance.sought))) (still_asking is p)
      (λ x. taken_here (Activity.Rebalance (Rebalance.Seek Seek.Next)) (asking l.rebalance.sought) l.rebalance.sought is refl refl refl (not_free _ _ refl x)) (λ number x. asks_here (Activity.Rebalance (Rebalance.Seek Seek.Next)) l.rebalance.sought number is refl refl x))

  -- The visits.

  -- a visit that is not younger than the number is seen, and the row was found taken
  sees_pass : (j epoch : ℕ) → a ≡ Activity.Rebalance (Rebalance.Seek (Seek.Pass j)) → pass_of_word (word z r.world (name.Pass j)) ≡ Some epoch → (at : ℕ) → at < length es → (number : ℕ) → epoch ≤ number → SawPass z o (es ++ e ∷ []) e.seat at (length (es ++ e ∷ [])) number
  sees_pass j epoch is f at w number old = record {
    at = length es;
    after = w;
    before = longer;
    seat = j;
    epoch = epoch;
    acts = acts_here (Activity.Rebalance (Rebalance.Seek (Seek.Pass j))) (asking_pass j) epoch is refl (sym (number_word-number_of_word (word z r.world (name.Pass j))) ∙ ap number_word f);
    some = subst IsCounted f (IsCounted-number_of_word (word z r.world (name.Pass j)));
    old = old;
  }

  at_pass : (j : ℕ) → a ≡ Activity.Rebalance (Rebalance.Seek (Seek.Pass j)) → (w : Searching z o es e.seat first l.rebalance) → AsksPassWords z o es e.seat w.begun l.rebalance.sought l.rebalance.number → Then l'
  at_pass j is w q = then_so _ (next_is (Activity.Rebalance (Rebalance.Seek (Seek.Pass j))) is) (gone_by (pass_of_word (word z r.world (name.Pass j))) refl)
    where
      tries_none : (d : ℕ) → d ≢ l.rebalance.sought → IsTrying e.seat d (Activity.Rebalance (Rebalance.Seek (Seek.Pass j))) (asking_pass j) → ⊥
      tries_none d n f = f

      search : Searching z o (es ++ e ∷ []) e.seat first l.rebalance
      search = still (Activity.Rebalance (Rebalance.Seek (Seek.Pass j))) (asking_pass j) is refl (λ x. cc) tries_none w

      idle : (u found : ℕ) (b : Activity) (op : Operation) → length es ≤ u → u < length (es ++ e ∷ []) → IsTrying e.seat l.rebalance.sought b op → Acts z o (es ++ e ∷ []) u e.seat b op found → ⊥
      idle u found b op f g d t = subst (λ x. IsTrying e.seat l.rebalance.sought x op) (sym (acts_same u found b op f g t).0 ∙ is) d

      begun : search.begun ≡ w.begun
      begun = still_begun (Activity.Rebalance (Rebalance.Seek (Seek.Pass j))) (asking_pass j) is refl (λ x. cc) tries_none w

      asks : AsksPassWords z o (es ++ e ∷ []) e.seat search.begun l.rebalance.sought l.rebalance.number
      asks = subst (λ x. AsksPassWords z o (es ++ e ∷ []) e.seat x l.rebalance.sought l.rebalance.number) (sym begun) (asks_lasts z o es e e.seat w.begun l.rebalance.sought l.rebalance.number idle q)

      looks_on : (b : Bool) → Then (let x : Outcome = if b then to (Activity.Rebalance (Rebalance.Seek (Seek.Pass (j + 1)))) l else to (Activity.Rebalance (Rebalance.Seek Seek.Reclaim)) l in x).local
      looks_on true = (search, asks)
      looks_on false = search

      found : SawPass z o (es ++ e ∷ []) e.seat q.at (length (es ++ e ∷ [])) l.rebalance.number → FoundTaken z o (es ++ e ∷ []) e.seat search.begun (length (es ++ e ∷ [])) l.rebalance.sought
      found m = subst (λ x. FoundTaken z o (es ++ e ∷ []) e.seat x (length (es ++ e ∷ [])) l.rebalance.sought) (sym begun) (asks_taken z o es e e.seat w.begun l.rebalance.sought l.rebalance.number idle q m)

      saw : (epoch : ℕ) → pass_of_word (word z r.world (name.Pass j)) ≡ Some epoch → (b : Bool) → nat_le epoch l.rebalance.number ≡ b → Then (let x : Outcome = if b then to_seek o.rows l else to_pass z (j + 1) l in x).local
      saw epoch f true y = let old : epoch ≤ l.rebalance.number = grind (arith, nat_tests) in goes_on l search (inr (found (sees_pass j epoch is f q.at q.before l.rebalance.number old)))
      saw epoch f false y = looks_on (nat_lt (j + 1) z.seats)

      gone_by : (x : Option ℕ) → pass_of_word (word z r.world (name.Pass j)) ≡ x → Then (pass_seen z j o.rows x l).local
      gone_by (Some epoch) f = saw epoch f (nat_le epoch l.rebalance.number) refl
      gone_by None f = looks_on (nat_lt (j + 1) z.seats)

  at_reclaim : a ≡ Activity.Rebalance (Rebalance.Seek Seek.Reclaim) → Searching z o es e.seat first l.rebalance → Then l'
  at_reclaim is p = then_so _ (next_is (Activity.Rebalance (Rebalance.Seek Seek.Reclaim)) is) (still (Activity.Rebalance (Rebalance.Seek Seek.Reclaim)) (reclaiming l.rebalance.sought l.rebalance.number) is refl (λ x. cc) (λ q n f. reclaims_one q n f) p)
    where
      reclaims_one : (q : ℕ) → q ≢ l.rebalance.sought → (number : ℕ) × (reclaiming l.rebalance.sought l.rebalance.number ≡ reclaiming q number) → ⊥
      reclaims_one q n f = n (let x : name.State l.rebalance.sought ≡ name.State q = ap (λ (op : Operation). op.name) f.1 in cc)

  -- a row that the seat takes
  with_taken : (p : Searching z o es e.seat first l.rebalance) → a ≡ Activity.Rebalance (Rebalance.Seek Seek.Take) → word z r.world (name.State l.rebalance.sought) ≡ state_word Free → length (with_row l).rebalance.taken < length l.rebalance.starts → Searching z o (es ++ e ∷ []) e.seat first (with_row l).rebalance
  with_taken p is won fewer = record {
    begun = same.begun;
    after = same.after;
    before = same.before;
    row = same.row;
    found = same.found;
    begins = same.begins;
    starts = same.starts;
    within = same.within;
    sought = same.sought;
    turn = same.turn;
    alone = same.alone;
    took = λ q x. took q (in_was l.rebalance.taken l.rebalance.sought q x);
    fewer = fewer;
    gone_by = λ q w x. gone_by q (same.gone_by q w x);
  }
    where
      same : Searching z o (es ++ e ∷ []) e.seat first l.rebalance
      same = still_taking is p

      now : TookRow z o (es ++ e ∷ []) e.seat same.begun (length (es ++ e ∷ [])) l.rebalance.sought
      now = record { at = length es; after = omega (arith, same.before, length-append es (e ∷ [])); before = longer; acts = acts_here (Activity.Rebalance (Rebalance.Seek Seek.Take)) (taking e.seat l.rebalance.sought) (state_word Free) is refl won }

      took : (q : ℕ) → IsIn l.rebalance.taken q ⊎ (q ≡ l.rebalance.sought) → TookRow z o (es ++ e ∷ []) e.seat same.begun (length (es ++ e ∷ [])) q
      took q (inl x) = same.took q x
      took q (inr x) = subst (λ y. TookRow z o (es ++ e ∷ []) e.seat same.begun (length (es ++ e ∷ [])) y) (sym x) now

      gone_by : (q : ℕ) → IsIn l.rebalance.taken q ⊎ FoundTaken z o (es ++ e ∷ []) e.seat same.begun (length (es ++ e ∷ [])) q → IsIn (with_row l).rebalance.taken q ⊎ FoundTaken z o (es ++ e ∷ []) e.seat same.begun (length (es ++ e ∷ [])) q
      gone_by q (inl x) = inl (in_front l.rebalance.taken l.rebalance.sought q x)
      gone_by q (inr x) = inr x

  at_take : a ≡ Activity.Rebalance (Rebalance.Seek Seek.Take) → Searching z o es e.seat first l.rebalance → Then l'
  at_take is p = then_so _ (next_is (Activity.Rebalance (Rebalance.Seek Seek.Take)) is) (saw (word z r.world (name.State l.rebalance.sought) == state_word Free) refl)
    where
      -- a row that is found retired there went in the visit of the seat
      retaken : IsGoneByNow (state_of (word z r.world (name.State l.rebalance.sought)))
      retaken n f = inl (((i.shape.visits e.seat l h.knows).epoch (subst IsBusy (sym (h.activity ∙ is)) tt)).0, retakes z r i.shape e.seat n l h.knows (h.activity ∙ is) (ap state_seen f))

      more : word z r.world (name.State l.rebalance.sought) ≡ state_word Free → (b : Bool) → nat_lt (length (with_row l).rebalance.taken) (length l.rebalance.starts) ≡ b →
          Then (let x : Outcome = if b then to_seek o.rows (with_row l) else to (Activity.Rebalance (Rebalance.Write Write.Count)) (at_infant 0 (with_row l)) in x).local
      more won true y = let w : length (with_row l).rebalance.taken < length l.rebalance.starts = grind (arith, nat_tests) in goes_on (with_row l) (with_taken p is won w) (inl (in_last l.rebalance.taken l.rebalance.sought))
      more won false y = tt

      saw : (b : Bool) → (word z r.world (name.State l.rebalance.sought) == state_word Free) ≡ b → Then (take_row o.rows b l).local
      saw true y = let won : word z r.world (name.State l.rebalance.sought) ≡ state_word Free = grind (arith, nat_tests) in more won (nat_lt (length (with_row l).rebalance.taken) (length l.rebalance.starts)) refl
      saw false y =
          let lost : word z r.world (name.State l.rebalance.sought) ≢ state_word Free = grind (arith, nat_tests) in
          goes_past l (still_taking is p) (taken_here (Activity.Rebalance (Rebalance.Seek Seek.Take)) (taking e.seat l.rebalance.sought) l.rebalance.sought is refl refl refl lost retaken)

  at_give_back : a ≡ Activity.Rebalance (Rebalance.Seek Seek.GiveBack) → (l.rebalance.afterwards ≡ Refuse → AskedAll z o es e.seat o.rows first (length es)) → Then l'
  at_give_back is p = then_so _ (next_is (Activity.Rebalance (Rebalance.Seek Seek.GiveBack)) is) (saw (has_more l))
    where
      later : l.rebalance.afterwards ≡ Refuse → AskedAll z o (es ++ e ∷ []) e.seat o.rows first (length (es ++ e ∷ []))
      later x =
          let w : length es ≤ length (es ++ e ∷ []) = omega (arith, longer) in
          let inside : length es ≤ length es = omega arith in
          asked_lasts z o es e e.seat (length es) (length (es ++ e ∷ [])) w inside (λ u found b op y f g t. subst IsSearching (sym (acts_same u found b op f g t).0 ∙ is) y) o.rows first (p x)

      given : (f : Afterwards) → l.rebalance.afterwards ≡ f → Then (given_back f l).local
      given TryAgain x = again_or_over l.tidies
        where
          again_or_over : (b : Bool) → Then (to (if b then (Activity.Leave Done) else Activity.Retry) (without_rows (without_rebalance l))).local
          again_or_over true = tt
          again_or_over false = tt
      given Refuse x = no_rows_left l.tidies
        where
          no_rows_left : (b : Bool) → Then (leave (if b then Done else NoRows) (without_rebalance l)).local
          no_rows_left true = tt
          no_rows_left false = later x
      given MoveLeft x = tt

      saw : (b : Bool) → Then (let x : Outcome = if b then to (Activity.Rebalance (Rebalance.Seek Seek.GiveBack)) (at_infant (l.rebalance.at + 1) l) else given_back l.rebalance.afterwards l in x).local
      saw true = later
      saw false = given l.rebalance.afterwards refl

  -- All of it.

  pub since_own : Since a z o es e.seat first call l → Then l'
  since_own p = by a refl p
    where
      by : (b : Activity) → a ≡ b → Since b z o es e.seat first call l → Then l'
      by (Activity.Rebalance (Rebalance.Seek Seek.First)) is q = at_first is q
      by (Activity.Rebalance (Rebalance.Seek Seek.Next)) is q = at_seek is q
      by (Activity.Rebalance (Rebalance.Seek (Seek.Pass j))) is q = at_pass j is q.0 q.1
      by (Activity.Rebalance (Rebalance.Seek Seek.Reclaim)) is q = at_reclaim is q
      by (Activity.Rebalance (Rebalance.Seek Seek.Take)) is q = at_take is q
      by (Activity.Rebalance (Rebalance.Seek Seek.GiveBack)) is q = at_give_back is q
      by b is q = by_arrow b l' is (subst (λ c. Arrow z (word z r.world) e.seat (offered r.world.rows e.choice) l c l') is h.arrow) tt
