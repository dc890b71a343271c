-- Each event of a rebalance keeps what it has seen: where it ends, there is a cause for how it
-- ends.
use Rattle.std.proofs.Common.{◌≡◌, ◌≢◌, ℕ, ◌+◌, ◌≤◌, ◌⊎◌, inl, inr, Bool, true, false, nat_le, nat_lt, ◌==◌, ◌++◌, List, [], ◌∷◌, Option, Some, None, if◌then◌else◌, arith, refl, sym, ◌∙◌, ap, subst, length, eq-eqb, eqb-true}
use Rattle.std.proofs.lemmas.Bool.Decides.{nat_tests}
use Rattle.std.proofs.lemmas.Option.{same_Some}
use mathlib.Core.List.{IsPrefix}
use Rattle.kw_words.specs.declared.sizes.TheConstants.{MOST_GROUP, SPENT}
use Rattle.kw_words.specs.declared.layout.Name.TheVariants as name
use Rattle.kw_words.specs.declared.link.Link.{Link}
use Rattle.kw_words.specs.declared.pend.Pend.{Pend}
use Rattle.kw_words.specs.declared.pend.Pend.TheVariants as pend
use Rattle.kw_words.specs.declared.scan.ScanWord.{ScanWord}
use Rattle.kw_words.specs.declared.scan.ScanWord.TheVariants.{Quiet, Waiting, Drawn}
use Rattle.kw_words.specs.declared.state.State.{State}
use Rattle.kw_words.specs.declared.state.State.TheVariants.{Free, Infant, Normal, Leader, Follower, Retired}
use Rattle.kw_words.specs.Link.{link_of}
use Rattle.kw_words.specs.Pend.{pend_of, pend_word}
use Rattle.kw_words.specs.Plain.{cell_of_link_word, key_of_word, pass_of_word, value_of_word}
use Rattle.kw_words.specs.Scan.{scan_of}
use Rattle.kw_words.specs.State.{state_of, state_word}
use Rattle.kw_world.specs.declared.answer.Answer.{Answer}
use Rattle.kw_world.specs.declared.activity.Activity.{Activity}
use Rattle.kw_world.specs.declared.activity.rebalance.claim.Claim.TheVariants as Claim
use Rattle.kw_world.specs.declared.activity.rebalance.engage.Engage.TheVariants as Engage
use Rattle.kw_world.specs.declared.activity.rebalance.freeze.Freeze.TheVariants as Freeze
use Rattle.kw_world.specs.declared.activity.rebalance.gather.Gather.TheVariants as Gather
use Rattle.kw_world.specs.declared.activity.rebalance.left.Left.TheVariants as Left
use Rattle.kw_world.specs.declared.activity.rebalance.Rebalance.TheVariants as Rebalance
use Rattle.kw_world.specs.declared.activity.rebalance.replace.Replace.TheVariants as Replace
use Rattle.kw_world.specs.declared.activity.rebalance.seek.Seek.TheVariants as Seek
use Rattle.kw_world.specs.declared.activity.rebalance.write.Write.TheVariants as Write
use Rattle.kw_world.specs.declared.activity.look.Look.TheVariants as Look
use Rattle.kw_world.specs.declared.event.Choice.{Choice}
use Rattle.kw_world.specs.declared.event.Choice.TheVariants.{Begin, Go, Guess, Stop}
use Rattle.kw_world.specs.declared.event.Event.{Event}
use Rattle.kw_world.specs.declared.event.StepDone.TheVariants.{Moved}
use Rattle.kw_world.specs.declared.local.Local.{Local}
use Rattle.kw_world.specs.declared.marks.Mark.{Mark}
use Rattle.kw_world.specs.declared.opening.Opening.{Opening}
use Rattle.kw_world.specs.declared.rebalance.Afterwards.{Afterwards}
use Rattle.kw_world.specs.declared.rebalance.Afterwards.TheVariants.{TryAgain, Refuse, MoveLeft}
use Rattle.kw_world.specs.EngageTransitions.{again, claiming, counted, decided, engaged, link_marked, refuse, state_seen, undecided}
use Rattle.kw_world.specs.ClaimTransitions.{claimed}
use Rattle.kw_world.specs.LeftTransitions.{first_left, least_left, left_transition, link_left}
use Rattle.kw_world.specs.Local.{without_rebalance, without_rows}
use Rattle.kw_world.specs.declared.answer.Answer.TheVariants.{Done, NoRows, Spent}
use Rattle.kw_world.specs.GroupPlaces.{place_in_group}
use Rattle.kw_world.specs.FreezeTransitions.{entry_tried, freeze_seen, marking, needing, row_frozen, scan_helped, scan_seen, to_freeze_look, to_scan_look, to_pin_look, pin_seen}
use Rattle.kw_world.specs.Marks.{least_mark}
use Rattle.kw_world.specs.Operation.{told_by}
use Rattle.kw_world.specs.ReplaceTransitions.{before_transition, first_before, guess_before, link_before, replaced, row_before, row_replaced}
use Rattle.kw_world.specs.SeekTransitions.{give_back, given_back, has_more, pass_seen, seek_first_transition, seek_seen, seeking, take_row, to_pass, to_seek, with_row}
use Rattle.kw_world.specs.Sizes.{product}
use Rattle.kw_world.specs.Step.{next_of, transition_of, word}
use Rattle.kw_world.specs.Table.{transition}
use Rattle.kw_world.specs.TakeTransitions.{keeping, left_of, row_gathered, take_reached}
use Rattle.kw_world.specs.Transition.{Outcome, Transition, leave, outcome, row_linked, row_or_first, to}
use Rattle.kw_world.specs.WalkTransitions.{offered}
use Rattle.kw_world.specs.WorldView.{WorldView}
use Rattle.kw_world.specs.WriteTransitions.{infant_cells, row_written, to_write_after, to_write_cell, to_write_entry, unmarked_link}
use Rattle.kw_core.specs.Events.{event, local_of, world}
use Rattle.kw_core.specs.Run.{history}
use Rattle.kw_core.proofs.Runs.{history-world}
use Rattle.kw_laws.specs.Laws.{IsLeavingBefore, IsReachedState, IsReachingNext, IsStated, stated_row}
use Rattle.kw_shape.specs.ReachedRows.{IsReached}
use Rattle.kw_shape.specs.RowsIn.{has_mark}
use Rattle.kw_puts.proofs.Owners.{true_false}
use Rattle.kw_table.specs.declared.pass.Pass.{Pass}
use Rattle.kw_table.specs.declared.shared.Shared.{Shared}
use Rattle.kw_table.specs.Passes.{view}
use Rattle.kw_table.proofs.Prefixes.{prefix_trans}
use Rattle.kw_follow.specs.Following.{GoesTo}
use Rattle.kw_follow.specs.OwnEvents.{Saw, SawAs, knew, transition_after}
use Rattle.kw_follow.proofs.Fronts.{local_at, saw_laws, saw_local, saw_told}
use Rattle.kw_live_rebal.specs.Rebalancing.{IsRetired, IsWalkEnd, SawReplaced, SawSpent, SawWon, TellsReplaced}
use Rattle.kw_live_rebal.specs.Standing.{HasSeenCause, SawSearch, ends_rebuild}
use Rattle.kw_follow.proofs.Untidied.{IsAtWork, keeps}
use Rattle.kw_live_rebal.proofs.Sightings.{replaced_on, search_on}

-- what an event is told by the line of this table, for this seat and this choice, after these
-- events
abbrev tells : Opening → ℕ → List Event → Choice → ℕ
tells o n es c = told_by (transition_after o es n c).operation.action (word product (world product o es) (transition_after o es n c).operation.name)

-- what has been reached where this outcome stands
pub record Stands (o q : Pass) (x : Outcome) : Type 0 where
  pub saw : HasSeenCause o q x.local.activity x.local

-- which states a seat may find goes by its row
reached_as : (a : Activity) (k l : Local) (x : Option State) → k.row ≡ l.row → IsReachedState a k x → IsReachedState a l x
reached_as (Activity.Rebalance (Rebalance.Engage Engage.State)) k l (Some Free) e y = absurd y
reached_as (Activity.Rebalance (Rebalance.Engage Engage.State)) k l (Some (Infant seat)) e y = tt
reached_as (Activity.Rebalance (Rebalance.Engage Engage.State)) k l (Some Normal) e y = tt
reached_as (Activity.Rebalance (Rebalance.Engage Engage.State)) k l (Some (Leader count)) e y = tt
reached_as (Activity.Rebalance (Rebalance.Engage Engage.State)) k l (Some (Follower leader)) e y = tt
reached_as (Activity.Rebalance (Rebalance.Engage Engage.State)) k l (Some (Retired number)) e y = tt
reached_as (Activity.Rebalance (Rebalance.Engage Engage.State)) k l None e y = absurd y
reached_as (Activity.Rebalance (Rebalance.Engage (Engage.Decide count))) k l (Some (Leader found)) e y = tt
reached_as (Activity.Rebalance (Rebalance.Engage (Engage.Decide count))) k l (Some (Retired number)) e y = tt
reached_as (Activity.Rebalance (Rebalance.Claim Claim.Exchange)) k l (Some (Infant seat)) e y = tt
reached_as (Activity.Rebalance (Rebalance.Claim Claim.Exchange)) k l (Some Normal) e y = tt
reached_as (Activity.Rebalance (Rebalance.Claim Claim.Exchange)) k l (Some (Leader count)) e y = tt
reached_as (Activity.Rebalance (Rebalance.Claim Claim.Exchange)) k l (Some (Follower leader)) e y = y ∙ e
reached_as (Activity.Rebalance (Rebalance.Claim Claim.Exchange)) k l (Some (Retired number)) e y = tt
reached_as _ k l x e y = absurd y

module _ (s : Shared) (o p q : Pass) (l m : Local) (c : Choice) (rows told : ℕ) (was : GoesTo s o p) (goes : GoesTo s p q) (saw : SawAs p q l c told) (line : outcome m Moved ≡ next_of product rows (offered rows c) l told) (whole : rows ≡ (view p).opening.rows) (undone : l.tidies ≡ false) where
  abbrev Then : Outcome → Type 0
  Then x = Stands o q x

  so : (x : Outcome) → outcome m Moved ≡ x → Then x → HasSeenCause o q m.activity m
  so x f t = subst (λ (y : Outcome). HasSeenCause o q y.local.activity y.local) (sym f) t.saw

  -- both ways of a test
  both : (b : Bool) (x y : Outcome) → (b ≡ true → Then x) → (b ≡ false → Then y) → Then (if b then x else y)
  both true x y f g = f refl
  both false x y f g = g refl

  next_is : (a : Activity) → l.activity ≡ a → outcome m Moved ≡ (transition product a 0 (offered rows c) l).next rows told
  unfolding transition_of
  next_is a is = line ∙ ap (λ b. (transition product b 0 (offered rows c) l).next rows told) is

  -- The event, since the pass was at the first place.

  -- its seat knew the same
  knew_same : knew o saw.saw.front ≡ knew p saw.saw.front
  knew_same = ap (λ n. local_of (world product (view o).opening saw.saw.front) n) (sym was.number) ∙ ap (λ x. local_of (world product x saw.saw.front) (view p).number) (sym was.opening)

  here : (a : Activity) → l.activity ≡ a → Saw p q a c told
  here a is = record { front = saw.saw.front; later = saw.saw.later; here = saw.saw.here; activity = saw.saw.activity ∙ is; tells = saw.saw.tells }

  since : (a : Activity) → l.activity ≡ a → Saw o q a c told
  since a is = record {
    front = saw.saw.front;
    later = prefix_trans _ _ _ was.seen saw.saw.later;
    here = subst (λ n. IsPrefix (saw.saw.front ++ event n c ∷ []) (view q).seen) was.number saw.saw.here;
    activity = ap (λ (k : Local). k.activity) knew_same ∙ (saw.saw.activity ∙ is);
    tells = subst (λ n. told ≡ tells (view o).opening n saw.saw.front c) was.number (subst (λ x. told ≡ tells x (view p).number saw.saw.front c) was.opening saw.saw.tells);
  }

  knew_row : (knew o saw.saw.front).row ≡ l.row
  knew_row = ap (λ (k : Local). k.row) knew_same ∙ ap (λ (k : Local). k.row) saw.knew

  knew_lower : (knew o saw.saw.front).lower ≡ l.lower
  knew_lower = ap (λ (k : Local). k.lower) knew_same ∙ ap (λ (k : Local). k.lower) saw.knew

  -- The causes.

  spent_here : (a : Activity) → l.activity ≡ a → (a ≡ Activity.Rebalance (Rebalance.Engage Engage.Clock)) ⊎ (a ≡ Activity.Rebalance (Rebalance.Engage Engage.Epoch)) → SPENT ≤ told → SawSpent o q
  spent_here a is at more = record { activity = a; at = at; choice = c; told = told; saw = since a is; spent = more }

  searches_here : l.activity ≡ Activity.Rebalance (Rebalance.Seek Seek.First) → SawSearch o q
  searches_here is = record { choice = c; told = told; saw = since (Activity.Rebalance (Rebalance.Seek Seek.First)) is }

  -- a row that is reached in the world before the event, as the pass knew it at first, is reached
  -- in the world of its laws
  reached_there : IsReached (word product (world product (view o).opening saw.saw.front)) (knew o saw.saw.front).row → IsReached (word product (history product (view p).opening saw.saw.front).world) (local_at p saw.saw.front).row
  reached_there x =
      let at : IsReached (word product (world product (view o).opening saw.saw.front)) (local_at p saw.saw.front).row = subst (λ (k : Local). IsReached (word product (world product (view o).opening saw.saw.front)) k.row) knew_same x in
      let of : IsReached (word product (world product (view p).opening saw.saw.front)) (local_at p saw.saw.front).row = subst (λ y. IsReached (word product (world product y saw.saw.front)) (local_at p saw.saw.front).row) (sym was.opening) at in
      subst (λ (w : WorldView). IsReached (word product w) (local_at p saw.saw.front).row) (sym (history-world product (view p).opening saw.saw.front)) of

  -- the row was found replaced
  abbrev IsUnlinked : Activity → Type 0
  IsUnlinked a = IsWalkEnd a → IsReached (word product (world product (view o).opening saw.saw.front)) (knew o saw.saw.front).row → ⊥

  replaced_here : (a : Activity) → l.activity ≡ a → TellsReplaced a told (knew o saw.saw.front) → IsUnlinked a → SawReplaced o q
  unfolding since
  replaced_here a is found gone = record { activity = a; choice = c; told = told; saw = since a is; replaced = found; unlinked = gone }

  won_here : (is : l.activity ≡ Activity.Rebalance (Rebalance.Replace Replace.Exchange)) → link_of told ≡ Some (unmarked_link (Some l.row)) → SawWon o q
  unfolding since
  won_here is e = record { choice = c; told = told; saw = since (Activity.Rebalance (Rebalance.Replace Replace.Exchange)) is; leads = ap row_linked e ∙ ap Some (sym knew_row); unmarked = ap has_mark e }

  -- What the laws say of what was found.

  stated_here : (a : Activity) → l.activity ≡ a → IsStated a → told ≡ word product (history product (view p).opening saw.saw.front).world (name.State (stated_row a (local_at p saw.saw.front))) → IsReachedState a l (state_of told)
  unfolding here
  stated_here a is matters tells =
      let law = (saw_laws s p q a c told goes (here a is)).stated (view p).number (local_at p saw.saw.front) (saw_local p q a c told (here a is)) in
      let at : (local_at p saw.saw.front).activity ≡ a = saw.saw.activity ∙ is in
      let found : IsReachedState a (local_at p saw.saw.front) (state_of (word product (history product (view p).opening saw.saw.front).world (name.State (stated_row a (local_at p saw.saw.front))))) =
      subst (λ b. IsReachedState b (local_at p saw.saw.front) (state_of (word product (history product (view p).opening saw.saw.front).world (name.State (stated_row b (local_at p saw.saw.front)))))) at (law (subst IsStated (sym at) matters)) in
      reached_as a (local_at p saw.saw.front) l (state_of told) (ap (λ (k : Local). k.row) saw.knew) (subst (λ w. IsReachedState a (local_at p saw.saw.front) (state_of w)) (sym tells) found)

  -- where the walk to the row before the full one, or to the leader of a follower, reaches the end
  -- of the list, the seat's row is in it no more
  walk_ends_here : (a : Activity) (is : l.activity ≡ a) → IsLeavingBefore a → (told ≡ word product (history product (view p).opening saw.saw.front).world (name.Next (row_or_first (local_at p saw.saw.front).rebalance.before))) → row_linked (link_of told) ≡ None → IsUnlinked a
  unfolding here
  walk_ends_here a is leaves tells none = λ u x.
      (saw_laws s p q a c told goes (here a is)).ends_before (view p).number (local_at p saw.saw.front) (saw_local p q a c told (here a is)) (subst IsLeavingBefore (sym (saw.saw.activity ∙ is)) leaves)
      (ap (λ w. row_linked (link_of w)) (sym tells) ∙ none) (reached_there x)

  -- nor is it where the walk goes by it
  walk_goes_by_here : (a : Activity) (is : l.activity ≡ a) → IsReachingNext a → (told ≡ word product (history product (view p).opening saw.saw.front).world (name.Least (local_at p saw.saw.front).candidate)) → l.lower ≤ key_of_word told → IsUnlinked a
  unfolding here
  walk_goes_by_here a is reaches tells more = λ u x.
      (saw_laws s p q a c told goes (here a is)).goes_by_full (view p).number (local_at p saw.saw.front) (saw_local p q a c told (here a is)) (subst IsReachingNext (sym (saw.saw.activity ∙ is)) reaches)
      (subst (λ w. (local_at p saw.saw.front).lower ≤ key_of_word w) tells (subst (λ n. n ≤ key_of_word told) (sym (ap (λ (k : Local). k.lower) saw.knew)) more)) (reached_there x)

  -- a follower is not the first row of the list
  leader_first_here : (is : l.activity ≡ Activity.Rebalance (Rebalance.Left Left.Start)) → told ≡ word product (history product (view p).opening saw.saw.front).world name.Head → row_or_first (row_linked (link_of told)) ≡ l.row → ⊥
  unfolding here
  leader_first_here is tells e =
      let laws = saw_laws s p q (Activity.Rebalance (Rebalance.Left Left.Start)) c told goes (here (Activity.Rebalance (Rebalance.Left Left.Start)) is) in
      let leads : row_linked (link_of told) ≡ Some laws.rows.chain.first = ap (λ w. row_linked (link_of w)) tells ∙ laws.rows.chain.leads in
      let first : laws.rows.chain.first ≡ (local_at p saw.saw.front).row = sym (ap row_or_first leads) ∙ (e ∙ sym (ap (λ (k : Local). k.row) saw.knew)) in
      laws.first_leads (view p).number (local_at p saw.saw.front) (saw_local p q (Activity.Rebalance (Rebalance.Left Left.Start)) c told (here (Activity.Rebalance (Rebalance.Left Left.Start)) is)) (saw.saw.activity ∙ is) (laws.rows.chain.leads ∙ ap Some first)

  -- what the event was told, by its line
  reads_here : (a : Activity) (is : l.activity ≡ a) (r : Transition) → transition product a (view p).number (offered (view p).opening.rows c) (local_at p saw.saw.front) ≡ r → told ≡ told_by r.operation.action (word product (history product (view p).opening saw.saw.front).world r.operation.name)
  unfolding here
  reads_here a is r e = saw_told p q a c told (here a is) r e

  -- What follows without an event of its own.

  -- a put that is not done tries again where its rebalance is over
  begins_anew : (k : Local) → k.tidies ≡ false → SawReplaced o q → Then (again k)
  begins_anew k t h = undone_by k.tidies t
    where
      undone_by : (b : Bool) → b ≡ false → Then (to (if b then (Activity.Leave Done) else Activity.Retry) (without_rows (without_rebalance k)))
      undone_by true e = let x : true ≡ false = e in absurd (cc)
      undone_by false e = record { saw = h }

  -- or is refused
  is_refused : (x : Answer) (k : Local) → k.tidies ≡ false → HasSeenCause o q (Activity.Leave x) (leave x (without_rebalance k)).local → Then (refuse x k)
  is_refused x k t h = undone_by k.tidies t
    where
      undone_by : (b : Bool) → b ≡ false → Then (leave (if b then Done else x) (without_rebalance k))
      undone_by true e = let x : true ≡ false = e in absurd (cc)
      undone_by false e = record { saw = h }

  -- rows that were taken are given back, and the call is refused
  gives_up : (k : Local) → k.tidies ≡ false → SawSearch o q → Then (give_back Refuse k)
  gives_up k t h = both (nat_lt 0 (length k.rebalance.taken)) _ _ (λ e. record { saw = (λ i. h, λ i. let x : Refuse ≡ TryAgain = i in absurd (cc)) }) (λ e. is_refused NoRows k t h)

  -- or the call tries again
  tries_again : SawReplaced o q → Then (give_back TryAgain l)
  tries_again h = both (nat_lt 0 (length l.rebalance.taken)) _ _ (λ e. record { saw = (λ i. let x : TryAgain ≡ Refuse = i in absurd (cc), λ i. h) }) (λ e. begins_anew l undone h)

  -- or the rebalance begins anew, at the row before
  moves_left : (k : Local) → Then (give_back MoveLeft k)
  moves_left k = both (nat_lt 0 (length k.rebalance.taken)) _ _ (λ e. record { saw = (λ i. let x : MoveLeft ≡ Refuse = i in absurd (cc), λ i. let x : MoveLeft ≡ TryAgain = i in absurd (cc)) }) (λ e. record { saw = tt })

  -- the next row is asked, or all were
  goes_on : (k : Local) → k.tidies ≡ false → SawSearch o q → Then (to_seek rows k)
  goes_on k t h = both (nat_lt k.rebalance.asked rows) _ _ (λ e. record { saw = h }) (λ e. gives_up k t h)

  seeks : (x : Option State) (k : Local) → k.tidies ≡ false → SawSearch o q → Then (seek_seen rows x k)
  seeks (Some Free) k t h = record { saw = h }
  seeks (Some (Infant seat)) k t h = goes_on k t h
  seeks (Some Normal) k t h = goes_on k t h
  seeks (Some (Leader count)) k t h = goes_on k t h
  seeks (Some (Follower leader)) k t h = goes_on k t h
  seeks (Some (Retired number)) k t h = record { saw = h }
  seeks None k t h = goes_on k t h

  first_seeks : (d : Choice) → SawSearch o q → Then ((seek_first_transition d l).next rows told)
  first_seeks (Begin call) h = seeks (state_of told) _ undone h
  first_seeks Go h = seeks (state_of told) _ undone h
  first_seeks (Guess r) h = seeks (state_of told) _ undone h
  first_seeks Stop h = seeks (state_of told) _ undone h

  passes_on : (i : ℕ) → SawSearch o q → Then (to_pass product i l)
  passes_on i h = both (nat_lt i product.seats) _ _ (λ e. record { saw = h }) (λ e. record { saw = h })

  passes : (i : ℕ) (x : Option ℕ) → SawSearch o q → Then (pass_seen product i rows x l)
  passes i (Some epoch) h = both (nat_le epoch l.rebalance.number) _ _ (λ e. goes_on l undone h) (λ e. passes_on (i + 1) h)
  passes i None h = passes_on (i + 1) h

  takes : (b : Bool) → SawSearch o q → Then (take_row rows b l)
  takes true h = both (nat_lt (length (with_row l).rebalance.taken) (length (with_row l).rebalance.starts)) _ _ (λ e. goes_on (with_row l) undone h) (λ e. record { saw = tt })
  takes false h = goes_on l undone h

  -- all taken rows are given back
  gives_on : (a : Afterwards) → (a ≡ Refuse → SawSearch o q) × (a ≡ TryAgain → SawReplaced o q) → Then (given_back a l)
  gives_on TryAgain h = begins_anew l undone (h.1 refl)
  gives_on Refuse h = is_refused NoRows l undone (h.0 refl)
  gives_on MoveLeft h = record { saw = tt }

  -- Tests and lists that lead to activities of a rebalance, whatever they see.

  engages : (b : Bool) → Then (engaged b l)
  engages true = record { saw = tt }
  engages false = record { saw = tt }

  freezes_on : (ahead : Option ℕ) (k : Local) → Then (row_frozen ahead k)
  freezes_on (Some r) k = record { saw = tt }
  freezes_on None k = record { saw = tt }

  looks_on : (i : ℕ) (k : Local) → Then (to_freeze_look product i k)
  looks_on i k = both (nat_lt i product.seats) _ _ (λ e. record { saw = tt }) (λ e. freezes_on k.rebalance.ahead k)

  freezes : (i : ℕ) (x : Option Pend) → Then (freeze_seen product i x l)
  freezes i (Some pend.Idle) = record { saw = tt }
  freezes i (Some (pend.Pending cell)) = record { saw = tt }
  freezes i (Some (pend.Stamped cell version)) = looks_on (i + 1) (marking product cell version l)
  freezes i (Some pend.Frozen) = looks_on (i + 1) l
  freezes i None = looks_on (i + 1) l

  tries_entry : (i : ℕ) (b : Bool) → Then (entry_tried product i b l)
  tries_entry i true = looks_on (i + 1) l
  tries_entry i false = record { saw = tt }

  scans_on : (i : ℕ) (k : Local) → Then (to_scan_look product i k)
  scans_on i k = both (nat_lt i product.seats) _ _ (λ e. record { saw = tt }) (λ e. record { saw = tt })

  scans : (i : ℕ) (x : Option ScanWord) → Then (scan_seen product i x l)
  scans i (Some Quiet) = scans_on (i + 1) l
  scans i (Some (Waiting clock)) = record { saw = tt }
  scans i (Some (Drawn version)) = scans_on (i + 1) (needing version l)
  scans i None = scans_on (i + 1) l

  pins_on : (i : ℕ) (k : Local) → Then (to_pin_look product i k)
  pins_on i k = both (nat_lt i product.seats) _ _ (λ e. record { saw = tt }) (λ e. record { saw = tt })

  pins : (i : ℕ) (x : Option ScanWord) → Then (pin_seen product i x l)
  pins i (Some Quiet) = pins_on (i + 1) l
  pins i (Some (Waiting clock)) = pins_on (i + 1) l
  pins i (Some (Drawn version)) = pins_on (i + 1) (needing version l)
  pins i None = pins_on (i + 1) l

  helps : (i : ℕ) (x : Option ScanWord) → Then (scan_helped product i x l)
  helps i (Some Quiet) = scans_on (i + 1) l
  helps i (Some (Waiting clock)) = scans_on (i + 1) (if clock == l.rebalance.waiting then needing l.rebalance.drawn l else l)
  helps i (Some (Drawn version)) = scans_on (i + 1) (needing version l)
  helps i None = scans_on (i + 1) l

  gathers_on : (ahead : Option ℕ) (k : Local) → Then (row_gathered product ahead k)
  gathers_on (Some r) k = record { saw = tt }
  gathers_on None k = record { saw = tt }

  left : (x : Option Mark) (k : Local) → Then (left_of product x k)
  left (Some mark) k = both (nat_lt mark.cell (place_in_group product k.rebalance product.cells)) _ _ (λ e. record { saw = tt }) (λ e. gathers_on k.rebalance.ahead k)
  left None k = gathers_on k.rebalance.ahead k

  takes_cell : (x : Option ℕ) → Then (take_reached product x l)
  takes_cell (Some cell) = record { saw = tt }
  takes_cell None = left (least_mark l.rebalance.marks) l

  rows_on : (k : Local) → Then (row_written k)
  rows_on k = both (has_more k) _ _ (λ e. record { saw = tt }) (λ e. record { saw = tt })

  writes_cell : (j : ℕ) (k : Local) → Then (to_write_cell product j k)
  writes_cell j k = both (nat_lt j product.cells) _ _ (λ e. both (nat_lt j (length (infant_cells k))) _ _ (λ f. record { saw = tt }) (λ f. record { saw = tt })) (λ e. rows_on k)

  writes_after : (j : ℕ) (k : Local) → Then (to_write_after product j k)
  writes_after j k = both (nat_lt j (length (infant_cells k))) _ _ (λ e. record { saw = tt }) (λ e. writes_cell (j + 1) k)

  writes_entry : (i : ℕ) (k : Local) → Then (to_write_entry product i k)
  writes_entry i k = both (nat_lt i product.seats) _ _ (λ e. record { saw = tt }) (λ e. writes_cell 0 k)

  firsts : (r : ℕ) → Then (first_before r l)
  firsts r = both (r == l.row) _ _ (λ e. record { saw = tt }) (λ e. record { saw = tt })

  guesses : (r : ℕ) (x : Option State) → Then (guess_before r x l)
  guesses r (Some Free) = record { saw = tt }
  guesses r (Some (Infant seat)) = record { saw = tt }
  guesses r (Some Normal) = record { saw = tt }
  guesses r (Some (Leader count)) = record { saw = tt }
  guesses r (Some (Follower leader)) = record { saw = tt }
  guesses r (Some (Retired number)) = record { saw = tt }
  guesses r None = record { saw = tt }

  befores : (d : Choice) → Then ((before_transition d l).next rows told)
  befores (Begin call) = firsts _
  befores Go = firsts _
  befores (Guess r) = guesses r (state_of told)
  befores Stop = firsts _

  -- What the row's state and the list tell.

  states : (x : Option State) → state_of told ≡ x → l.activity ≡ Activity.Rebalance (Rebalance.Engage Engage.State) → IsReachedState (Activity.Rebalance (Rebalance.Engage Engage.State)) l x → Then (state_seen x l)
  states (Some Free) f is y = absurd y
  states (Some (Infant seat)) f is y = record { saw = tt }
  states (Some Normal) f is y = record { saw = tt }
  states (Some (Leader count)) f is y = record { saw = tt }
  states (Some (Follower leader)) f is y = record { saw = tt }
  states (Some (Retired number)) f is y = begins_anew l undone (replaced_here (Activity.Rebalance (Rebalance.Engage Engage.State)) is (subst IsRetired (sym f) tt) (λ u. absurd u))
  states None f is y = absurd y

  -- it is known whether the row after the full one is to go along
  claims : (after : Option ℕ) (k : Local) → Then (claiming after k)
  claims (Some r) k = record { saw = tt }
  claims None k = record { saw = tt }

  counts : (n : ℕ) (k : Local) → Then (counted n k)
  counts n k = both (n == MOST_GROUP) _ _ (λ e. claims k.rebalance.after k) (λ e. record { saw = tt })

  -- or it is asked for
  asks_next : (after : Option ℕ) (k : Local) → Then (undecided after k)
  asks_next (Some r) k = record { saw = tt }
  asks_next None k = record { saw = tt }

  marks_link : (n : ℕ) (after : Option ℕ) → Then (link_marked n after l)
  marks_link n after = both (n == 0) _ _ (λ e. asks_next after _) (λ e. counts n _)

  decides : (n : ℕ) (x : Option State) → state_of told ≡ x → l.activity ≡ Activity.Rebalance (Rebalance.Engage (Engage.Decide n)) → IsReachedState (Activity.Rebalance (Rebalance.Engage (Engage.Decide n))) l x → Then (decided n x l)
  decides n (Some Free) f is y = absurd y
  decides n (Some (Infant seat)) f is y = absurd y
  decides n (Some Normal) f is y = absurd y
  decides n (Some (Leader count)) f is y = counts _ l
  decides n (Some (Follower leader)) f is y = absurd y
  decides n (Some (Retired number)) f is y = begins_anew l undone (replaced_here (Activity.Rebalance (Rebalance.Engage (Engage.Decide n))) is (subst IsRetired (sym f) tt) (λ u. absurd u))
  decides n None f is y = absurd y

  claims_row : (x : Option State) → state_of told ≡ x → l.activity ≡ Activity.Rebalance (Rebalance.Claim Claim.Exchange) → IsReachedState (Activity.Rebalance (Rebalance.Claim Claim.Exchange)) l x → Then (claimed x l)
  claims_row (Some Free) f is y = absurd y
  claims_row (Some (Infant seat)) f is y = record { saw = tt }
  claims_row (Some Normal) f is y = record { saw = tt }
  claims_row (Some (Leader count)) f is y = record { saw = tt }
  claims_row (Some (Follower leader)) f is y = both (leader == l.row) _ _ (λ e. record { saw = tt }) (λ e. true_false (eq-eqb leader l.row y) e)
  claims_row (Some (Retired number)) f is y = begins_anew l undone (replaced_here (Activity.Rebalance (Rebalance.Claim Claim.Exchange)) is (subst IsRetired (sym f) tt) (λ u. absurd u))
  claims_row None f is y = absurd y

  -- The way left to the leader of a follower.

  heads_left : l.activity ≡ Activity.Rebalance (Rebalance.Left Left.Start) → told ≡ word product (history product (view p).opening saw.saw.front).world name.Head → Then (first_left (row_or_first (row_linked (link_of told))) l)
  heads_left is tells = both (row_or_first (row_linked (link_of told)) == l.row) _ _ (λ e. absurd (leader_first_here is tells (eqb-true _ l.row e))) (λ e. record { saw = tt })

  goes_left : (d : Choice) → offered rows c ≡ d → l.activity ≡ Activity.Rebalance (Rebalance.Left Left.Start) → Then ((left_transition d l).next rows told)
  unfolding here
  goes_left d e is = by d refl
    where
      start : Activity
      start = Activity.Rebalance (Rebalance.Left Left.Start)

      tells : offered (view p).opening.rows c ≡ d → told ≡ told_by (left_transition d (local_at p saw.saw.front)).operation.action (word product (history product (view p).opening saw.saw.front).world (left_transition d (local_at p saw.saw.front)).operation.name)
      tells f = saw_told p q start c told (here start is) _ (ap (λ x. left_transition x (local_at p saw.saw.front)) f)

      by : (x : Choice) → d ≡ x → Then ((left_transition x l).next rows told)
      by (Begin call) f = heads_left is (subst (λ x. told ≡ told_by (left_transition x (local_at p saw.saw.front)).operation.action (word product (history product (view p).opening saw.saw.front).world (left_transition x (local_at p saw.saw.front)).operation.name)) f (tells (ap (λ n. offered n c) (sym whole) ∙ e)))
      by Go f = heads_left is (subst (λ x. told ≡ told_by (left_transition x (local_at p saw.saw.front)).operation.action (word product (history product (view p).opening saw.saw.front).world (left_transition x (local_at p saw.saw.front)).operation.name)) f (tells (ap (λ n. offered n c) (sym whole) ∙ e)))
      by (Guess r) f = record { saw = tt }
      by Stop f = heads_left is (subst (λ x. told ≡ told_by (left_transition x (local_at p saw.saw.front)).operation.action (word product (history product (view p).opening saw.saw.front).world (left_transition x (local_at p saw.saw.front)).operation.name)) f (tells (ap (λ n. offered n c) (sym whole) ∙ e)))

  -- the list ends before the follower, which went with its leader
  links_left : (r : Option ℕ) → row_linked (link_of told) ≡ r → (is : l.activity ≡ Activity.Rebalance (Rebalance.Left Left.Next)) → (row_linked (link_of told) ≡ None → IsUnlinked (Activity.Rebalance (Rebalance.Left Left.Next))) → Then (link_left r l)
  links_left (Some r) f is gone = both (r == l.row) _ _ (λ e. record { saw = tt }) (λ e. record { saw = tt })
  links_left None f is gone = begins_anew l undone (replaced_here (Activity.Rebalance (Rebalance.Left Left.Next)) is f (gone f))

  -- or the walk goes by it
  leasts_left : (is : l.activity ≡ Activity.Rebalance (Rebalance.Left Left.NextLeast)) → (l.lower ≤ key_of_word told → IsUnlinked (Activity.Rebalance (Rebalance.Left Left.NextLeast))) → Then (least_left (key_of_word told) l)
  leasts_left is gone = both (nat_lt (key_of_word told) l.lower) _ _ (λ f. record { saw = tt }) (λ f.
      let past : nat_lt (key_of_word told) l.lower ≡ false = f in
      let more : l.lower ≤ key_of_word told = grind (arith, nat_tests) in
      begins_anew l undone (replaced_here (Activity.Rebalance (Rebalance.Left Left.NextLeast)) is (subst (λ n. n ≤ key_of_word told) (sym knew_lower) more) (gone more)))

  -- the list ends before the full row
  ends : l.activity ≡ Activity.Rebalance (Rebalance.Replace Replace.Next) → row_linked (link_of told) ≡ None → Then (give_back TryAgain l)
  ends is none = tries_again (replaced_here (Activity.Rebalance (Rebalance.Replace Replace.Next)) is none (walk_ends_here (Activity.Rebalance (Rebalance.Replace Replace.Next)) is tt (reads_here (Activity.Rebalance (Rebalance.Replace Replace.Next)) is _ refl) none))

  links : (r : Option ℕ) (marked : Bool) → row_linked (link_of told) ≡ r → l.activity ≡ Activity.Rebalance (Rebalance.Replace Replace.Next) → Then (row_before r marked l)
  links (Some r) marked f is = both (r == l.row) _ _ (λ e. both marked _ _ (λ g. moves_left l) (λ g. record { saw = tt })) (λ e. record { saw = tt })
  links None marked f is = ends is f

  link : (x : Option Link) → link_of told ≡ x → l.activity ≡ Activity.Rebalance (Rebalance.Replace Replace.Next) → Then (link_before x l)
  link (Some k) f is = links k.row k.marked (ap row_linked f) is
  link None f is = ends is (ap row_linked f)

  -- the exchange is lost
  loses : l.activity ≡ Activity.Rebalance (Rebalance.Replace Replace.Exchange) → row_linked (link_of told) ≢ Some l.row → Then (give_back TryAgain l)
  loses is other = tries_again (replaced_here (Activity.Rebalance (Rebalance.Replace Replace.Exchange)) is (subst (λ n. row_linked (link_of told) ≢ Some n) (sym knew_row) other) (λ u. absurd u))

  replaces_row : (r : Option ℕ) (marked : Bool) → link_of told ≡ Some (record { row = r; marked = marked }) → l.activity ≡ Activity.Rebalance (Rebalance.Replace Replace.Exchange) → Then (row_replaced r marked l)
  replaces_row (Some r) true f is = both (r == l.row) _ _ (λ e. moves_left l) (λ e. loses is (λ g. true_false (eq-eqb r l.row (same_Some r l.row (sym (ap row_linked f) ∙ g))) e))
  replaces_row (Some r) false f is = both (r == l.row) _ _ (λ e. record { saw = won_here is (f ∙ ap (λ n. Some (unmarked_link (Some n))) (eqb-true r l.row e)) }) (λ e. loses is (λ g. true_false (eq-eqb r l.row (same_Some r l.row (sym (ap row_linked f) ∙ g))) e))
  replaces_row None marked f is = loses is (λ g. let x : None ≡ Some l.row = sym (ap row_linked f) ∙ g in absurd (cc))

  replaces : (x : Option Link) → link_of told ≡ x → l.activity ≡ Activity.Rebalance (Rebalance.Replace Replace.Exchange) → Then (replaced x l)
  replaces (Some k) f is = replaces_row k.row k.marked f is
  replaces None f is = loses is (λ g. let x : None ≡ Some l.row = sym (ap row_linked f) ∙ g in absurd (cc))

  -- Each event.

  event_at : (a : Activity) → l.activity ≡ a → HasSeenCause o p a l → ends_rebuild a ≡ false → HasSeenCause o q m.activity m
  unfolding here
  event_at (Activity.Rebalance (Rebalance.Engage Engage.Clock)) is h u = so _ (next_is (Activity.Rebalance (Rebalance.Engage Engage.Clock)) is) (both (nat_le SPENT told) _ _ (λ f. is_refused Spent l undone (spent_here (Activity.Rebalance (Rebalance.Engage Engage.Clock)) is (inl refl) (let full : nat_le SPENT told ≡ true = f in grind (arith, nat_tests)))) (λ f. record { saw = tt }))
  event_at (Activity.Rebalance (Rebalance.Engage Engage.Epoch)) is h u = so _ (next_is (Activity.Rebalance (Rebalance.Engage Engage.Epoch)) is) (both (nat_le SPENT told) _ _ (λ f. is_refused Spent l undone (spent_here (Activity.Rebalance (Rebalance.Engage Engage.Epoch)) is (inr refl) (let full : nat_le SPENT told ≡ true = f in grind (arith, nat_tests)))) (λ f. record { saw = tt }))
  event_at (Activity.Rebalance (Rebalance.Engage Engage.State)) is h u = so _ (next_is (Activity.Rebalance (Rebalance.Engage Engage.State)) is) (states (state_of told) refl is (stated_here (Activity.Rebalance (Rebalance.Engage Engage.State)) is tt (reads_here (Activity.Rebalance (Rebalance.Engage Engage.State)) is _ refl)))
  event_at (Activity.Rebalance (Rebalance.Engage (Engage.Normal seat))) is h u = so _ (next_is (Activity.Rebalance (Rebalance.Engage (Engage.Normal seat))) is) record { saw = tt }
  event_at (Activity.Rebalance (Rebalance.Engage Engage.Lead)) is h u = so _ (next_is (Activity.Rebalance (Rebalance.Engage Engage.Lead)) is) (engages (told == state_word Normal))
  event_at (Activity.Rebalance (Rebalance.Engage (Engage.MarkLink count))) is h u = so _ (next_is (Activity.Rebalance (Rebalance.Engage (Engage.MarkLink count))) is) (marks_link count (row_linked (link_of told)))
  event_at (Activity.Rebalance (Rebalance.Engage (Engage.Decide count))) is h u = so _ (next_is (Activity.Rebalance (Rebalance.Engage (Engage.Decide count))) is) (decides count (state_of told) refl is (stated_here (Activity.Rebalance (Rebalance.Engage (Engage.Decide count))) is tt (reads_here (Activity.Rebalance (Rebalance.Engage (Engage.Decide count))) is _ refl)))
  event_at (Activity.Rebalance (Rebalance.Claim Claim.Count)) is h u = so _ (next_is (Activity.Rebalance (Rebalance.Claim Claim.Count)) is) (record { saw = tt })
  event_at (Activity.Rebalance (Rebalance.Claim Claim.Exchange)) is h u = so _ (next_is (Activity.Rebalance (Rebalance.Claim Claim.Exchange)) is) (claims_row (state_of told) refl is (stated_here (Activity.Rebalance (Rebalance.Claim Claim.Exchange)) is tt (reads_here (Activity.Rebalance (Rebalance.Claim Claim.Exchange)) is _ refl)))
  event_at (Activity.Rebalance (Rebalance.Claim (Claim.Normal seat))) is h u = so _ (next_is (Activity.Rebalance (Rebalance.Claim (Claim.Normal seat))) is) (record { saw = tt })
  event_at (Activity.Rebalance (Rebalance.Claim Claim.MarkLink)) is h u = so _ (next_is (Activity.Rebalance (Rebalance.Claim Claim.MarkLink)) is) (record { saw = tt })
  event_at (Activity.Rebalance (Rebalance.Left Left.Start)) is h u = so _ (next_is (Activity.Rebalance (Rebalance.Left Left.Start)) is) (goes_left (offered rows c) refl is)
  event_at (Activity.Rebalance (Rebalance.Left Left.Next)) is h u = so _ (next_is (Activity.Rebalance (Rebalance.Left Left.Next)) is) (links_left (row_linked (link_of told)) refl is (walk_ends_here (Activity.Rebalance (Rebalance.Left Left.Next)) is tt (reads_here (Activity.Rebalance (Rebalance.Left Left.Next)) is _ refl)))
  event_at (Activity.Rebalance (Rebalance.Left Left.NextLeast)) is h u = so _ (next_is (Activity.Rebalance (Rebalance.Left Left.NextLeast)) is) (leasts_left is (walk_goes_by_here (Activity.Rebalance (Rebalance.Left Left.NextLeast)) is tt (reads_here (Activity.Rebalance (Rebalance.Left Left.NextLeast)) is _ refl)))
  event_at (Activity.Rebalance (Rebalance.Freeze Freeze.Count)) is h u = so _ (next_is (Activity.Rebalance (Rebalance.Freeze Freeze.Count)) is) record { saw = tt }
  event_at (Activity.Rebalance (Rebalance.Freeze (Freeze.Look i))) is h u = so _ (next_is (Activity.Rebalance (Rebalance.Freeze (Freeze.Look i))) is) (freezes i (pend_of told))
  event_at (Activity.Rebalance (Rebalance.Freeze (Freeze.Entry i))) is h u = so _ (next_is (Activity.Rebalance (Rebalance.Freeze (Freeze.Entry i))) is) (tries_entry i (told == pend_word l.rebalance.entry))
  event_at (Activity.Rebalance (Rebalance.Freeze (Freeze.Scan i))) is h u = so _ (next_is (Activity.Rebalance (Rebalance.Freeze (Freeze.Scan i))) is) (scans i (scan_of told))
  event_at (Activity.Rebalance (Rebalance.Freeze (Freeze.Draw i))) is h u = so _ (next_is (Activity.Rebalance (Rebalance.Freeze (Freeze.Draw i))) is) record { saw = tt }
  event_at (Activity.Rebalance (Rebalance.Freeze (Freeze.Settle i))) is h u = so _ (next_is (Activity.Rebalance (Rebalance.Freeze (Freeze.Settle i))) is) (helps i (scan_of told))
  event_at (Activity.Rebalance (Rebalance.Freeze (Freeze.Pin i))) is h u = so _ (next_is (Activity.Rebalance (Rebalance.Freeze (Freeze.Pin i))) is) (pins i (scan_of told))
  event_at (Activity.Rebalance (Rebalance.Gather Gather.Link)) is h u = so _ (next_is (Activity.Rebalance (Rebalance.Gather Gather.Link)) is) (takes_cell (cell_of_link_word told))
  event_at (Activity.Rebalance (Rebalance.Gather Gather.Key)) is h u = so _ (next_is (Activity.Rebalance (Rebalance.Gather Gather.Key)) is) record { saw = tt }
  event_at (Activity.Rebalance (Rebalance.Gather Gather.Version)) is h u = so _ (next_is (Activity.Rebalance (Rebalance.Gather Gather.Version)) is) record { saw = tt }
  event_at (Activity.Rebalance (Rebalance.Gather Gather.Value)) is h u = so _ (next_is (Activity.Rebalance (Rebalance.Gather Gather.Value)) is) record { saw = tt }
  event_at (Activity.Rebalance (Rebalance.Gather Gather.LeftOverKey)) is h u = so _ (next_is (Activity.Rebalance (Rebalance.Gather Gather.LeftOverKey)) is) record { saw = tt }
  event_at (Activity.Rebalance (Rebalance.Gather Gather.LeftOverValue)) is h u = so _ (next_is (Activity.Rebalance (Rebalance.Gather Gather.LeftOverValue)) is) (left (least_mark l.rebalance.marks) (keeping product (value_of_word told) l))
  event_at (Activity.Rebalance (Rebalance.Seek Seek.First)) is h u = so _ (next_is (Activity.Rebalance (Rebalance.Seek Seek.First)) is) (first_seeks (offered rows c) (searches_here is))
  event_at (Activity.Rebalance (Rebalance.Seek Seek.Next)) is h u = so _ (next_is (Activity.Rebalance (Rebalance.Seek Seek.Next)) is) (seeks (state_of told) (seeking l.rebalance.sought l) undone (search_on o goes h))
  event_at (Activity.Rebalance (Rebalance.Seek (Seek.Pass i))) is h u = so _ (next_is (Activity.Rebalance (Rebalance.Seek (Seek.Pass i))) is) (passes i (pass_of_word told) (search_on o goes h))
  event_at (Activity.Rebalance (Rebalance.Seek Seek.Reclaim)) is h u = so _ (next_is (Activity.Rebalance (Rebalance.Seek Seek.Reclaim)) is) (record { saw = search_on o goes h })
  event_at (Activity.Rebalance (Rebalance.Seek Seek.Take)) is h u = so _ (next_is (Activity.Rebalance (Rebalance.Seek Seek.Take)) is) (takes (told == state_word Free) (search_on o goes h))
  event_at (Activity.Rebalance (Rebalance.Seek Seek.GiveBack)) is h u =
      let kept : (l.rebalance.afterwards ≡ Refuse → SawSearch o q) × (l.rebalance.afterwards ≡ TryAgain → SawReplaced o q) = (λ f. search_on o goes (h.0 f), λ f. replaced_on o goes (h.1 f)) in
      so _ (next_is (Activity.Rebalance (Rebalance.Seek Seek.GiveBack)) is) (both (has_more l) _ _ (λ f. record { saw = kept }) (λ f. gives_on l.rebalance.afterwards kept))
  event_at (Activity.Rebalance (Rebalance.Write Write.Count)) is h u = so _ (next_is (Activity.Rebalance (Rebalance.Write Write.Count)) is) record { saw = tt }
  event_at (Activity.Rebalance (Rebalance.Write Write.Least)) is h u = so _ (next_is (Activity.Rebalance (Rebalance.Write Write.Least)) is) record { saw = tt }
  event_at (Activity.Rebalance (Rebalance.Write Write.Next)) is h u = so _ (next_is (Activity.Rebalance (Rebalance.Write Write.Next)) is) record { saw = tt }
  event_at (Activity.Rebalance (Rebalance.Write Write.First)) is h u = so _ (next_is (Activity.Rebalance (Rebalance.Write Write.First)) is) (writes_entry 0 l)
  event_at (Activity.Rebalance (Rebalance.Write (Write.Entry i))) is h u = so _ (next_is (Activity.Rebalance (Rebalance.Write (Write.Entry i))) is) (writes_entry (i + 1) l)
  event_at (Activity.Rebalance (Rebalance.Write (Write.Key j))) is h u = so _ (next_is (Activity.Rebalance (Rebalance.Write (Write.Key j))) is) record { saw = tt }
  event_at (Activity.Rebalance (Rebalance.Write (Write.Value j))) is h u = so _ (next_is (Activity.Rebalance (Rebalance.Write (Write.Value j))) is) record { saw = tt }
  event_at (Activity.Rebalance (Rebalance.Write (Write.Version j))) is h u = so _ (next_is (Activity.Rebalance (Rebalance.Write (Write.Version j))) is) (writes_after j l)
  event_at (Activity.Rebalance (Rebalance.Write (Write.After j))) is h u = so _ (next_is (Activity.Rebalance (Rebalance.Write (Write.After j))) is) (writes_cell (j + 1) l)
  event_at (Activity.Rebalance (Rebalance.Replace Replace.Start)) is h u = so _ (next_is (Activity.Rebalance (Rebalance.Replace Replace.Start)) is) (befores (offered rows c))
  event_at (Activity.Rebalance (Rebalance.Replace Replace.GuessedLeast)) is h u = so _ (next_is (Activity.Rebalance (Rebalance.Replace Replace.GuessedLeast)) is) (both (nat_lt (key_of_word told) l.lower) _ _ (λ f. record { saw = tt }) (λ f. record { saw = tt }))
  event_at (Activity.Rebalance (Rebalance.Replace Replace.First)) is h u = so _ (next_is (Activity.Rebalance (Rebalance.Replace Replace.First)) is) (firsts (row_or_first (row_linked (link_of told))))
  event_at (Activity.Rebalance (Rebalance.Replace Replace.Next)) is h u = so _ (next_is (Activity.Rebalance (Rebalance.Replace Replace.Next)) is) (link (link_of told) refl is)
  event_at (Activity.Rebalance (Rebalance.Replace Replace.NextLeast)) is h u = so _ (next_is (Activity.Rebalance (Rebalance.Replace Replace.NextLeast)) is)
      (both (nat_lt (key_of_word told) l.lower) _ _ (λ f. record { saw = tt }) (λ f.
      let past : nat_lt (key_of_word told) l.lower ≡ false = f in
      let more : l.lower ≤ key_of_word told = grind (arith, nat_tests) in
      tries_again (replaced_here (Activity.Rebalance (Rebalance.Replace Replace.NextLeast)) is (subst (λ n. n ≤ key_of_word told) (sym knew_lower) more) (walk_goes_by_here (Activity.Rebalance (Rebalance.Replace Replace.NextLeast)) is tt (reads_here (Activity.Rebalance (Rebalance.Replace Replace.NextLeast)) is _ refl) more))))
  event_at (Activity.Rebalance (Rebalance.Replace Replace.Exchange)) is h u = so _ (next_is (Activity.Rebalance (Rebalance.Replace Replace.Exchange)) is) (replaces (link_of told) refl is)
  event_at (Activity.Rebalance (Rebalance.Replace Replace.Normalise)) is h u = let x : true ≡ false = u in absurd (cc)
  event_at Activity.Retry is h u = let x : true ≡ false = u in absurd (cc)
  event_at (Activity.Leave y) is h u = let x : true ≡ false = u in absurd (cc)
  event_at (Activity.Look Look.Key) is h u = absurd h
  event_at _ is h u = absurd h

  -- an event of a rebalance that is not over, and has not won, keeps what it has seen
  pub keeps_seen : HasSeenCause o p l.activity l → ends_rebuild l.activity ≡ false → HasSeenCause o q m.activity m
  keeps_seen = event_at l.activity refl

-- the put of a seat that is at work is no more done by the event than before
pub work_on : (l m : Local) (c : Choice) (rows told : ℕ) → outcome m Moved ≡ next_of product rows (offered rows c) l told → IsAtWork l.activity → m.tidies ≡ l.tidies
unfolding transition_of
work_on l m c rows told line work = ap (λ (x : Outcome). x.local.tidies) line ∙ keeps product l.activity 0 (offered rows c) l rows told work
