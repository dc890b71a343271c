-- What an event does to the rows and to the ledger: a seat that enters begins its visit, one that
-- leaves or tries again ends it; a seat that rebalances its row exchanges the row's state, marks
-- its link, freezes the rows of its group, and then takes, writes and links new rows in its place,
-- as `BuildEvents` and `ReplaceEvent` say. Nothing else of either changes. So every event is one of
-- those of `kw_rows`, whose laws say what it keeps.
use Rattle.std.proofs.Common.{ℕ, suc, ◌≡◌, ◌≢◌, ◌⊎◌, inl, inr, ◌+◌, ◌≤◌, ◌==◌, if◌then◌else◌, ◌∷◌, [], true, Option, Some, None, arith, refl, sym, ◌∙◌, ap, subst, length, length-append}
use Rattle.std.proofs.lemmas.Bool.{cases_eq}
use Rattle.kw_words.specs.declared.layout.Name.TheVariants as name
use Rattle.kw_words.specs.declared.count.Count.{Count as Counted}
use Rattle.kw_words.specs.declared.sizes.TheConstants.{MOST_GROUP}
use Rattle.kw_words.specs.declared.state.State.{State}
use Rattle.kw_words.specs.declared.state.State.TheVariants as state
use Rattle.kw_words.specs.Count.{count_of}
use Rattle.kw_words.specs.Link.{link_of}
use Rattle.kw_words.specs.Plain.{key_of_word}
use Rattle.kw_words.specs.State.{state_of, state_word}
use Rattle.kw_words.proofs.CountWords.{count_of_next}
use Rattle.kw_words.proofs.StateWords.{IsState-state_of, state_of-Leader, state_of-Normal, state_word_of}
use Rattle.kw_rows.specs.Events.{Event, Visits, SameLinks, MarksLink, Freezes, freezes, begins, ends, engages, marks, decides, rests}
use Rattle.kw_rows.specs.Group.{View, Group, Named}
use Rattle.kw_rows.specs.Ledger as kw_rows
use Rattle.kw_rows.specs.RowState as row
use Rattle.kw_rows.specs.Structure.{Structure}
use Rattle.kw_rows.proofs.Kept.{kept}
use Rattle.kw_rows.proofs.Named.{held_by}
use Rattle.kw_rows.proofs.Views.{may_freeze, may_mark}
use Rattle.kw_world.specs.declared.activity.Activity.{Activity}
use Rattle.kw_world.specs.declared.activity.rebalance.claim.Claim.TheVariants as Claim
use Rattle.kw_world.specs.declared.activity.rebalance.engage.Engage.TheVariants as Engage
use Rattle.kw_world.specs.declared.activity.enter.Enter.TheVariants as Enter
use Rattle.kw_world.specs.declared.activity.rebalance.freeze.Freeze.TheVariants as Freeze
use Rattle.kw_world.specs.declared.activity.put.Put.TheVariants as Put
use Rattle.kw_world.specs.declared.activity.rebalance.Rebalance.TheVariants as Rebalance
use Rattle.kw_world.specs.declared.activity.rebalance.replace.Replace.TheVariants as Replace
use Rattle.kw_world.specs.declared.activity.rebalance.seek.Seek.TheVariants as Seek
use Rattle.kw_world.specs.declared.activity.rebalance.write.Write.TheVariants as Write
use Rattle.kw_world.specs.declared.answer.Answer.{Answer}
use Rattle.kw_world.specs.declared.event.Choice.{Choice}
use Rattle.kw_world.specs.declared.local.Local.{Local}
use Rattle.kw_world.specs.ClaimTransitions.{row_after}
use Rattle.kw_world.specs.Sane.{IsActivity, IsGiven, IsSane}
use Rattle.kw_world.specs.SeekTransitions.{infant}
use Rattle.kw_world.specs.Sizes.{Sizes}
use Rattle.kw_world.specs.Step.{word}
use Rattle.kw_world.specs.Transition.{row_linked}
use Rattle.kw_core.specs.History.{History}
use Rattle.kw_core.specs.Ledger.{Ledger}
use Rattle.kw_core.specs.Run.{Run}
use Rattle.kw_core.specs.Words.{next_in}
use Rattle.kw_core.proofs.Fates.{ChangesFate, DrawsNumber, fate_stays, numbers_stay, others_stay}
use Rattle.kw_core.proofs.FreezeFrame.{freezes_given}
use Rattle.kw_core.proofs.Happens.{Happens, chosen, exchanged, log_entry, not_chosen, not_exchanged}
use Rattle.kw_core.proofs.InfantFrames.{ChangesCount, ChangesHead, ChangesLeast, ChangesNext, ChangesState, head_stays}
use Rattle.kw_shape.proofs.BuildEvents.{count_word, freeing, giving_back, least_word, ledger_kept, links_kept, making_normal, next_word, numbering, retiring, sets_state, state_kept, states_still, taking, word_says, writing}
use Rattle.kw_shape.proofs.Engaging.{claiming_next, marking_along, marks_row, normal_event, normalising_next}
use Rattle.kw_shape.proofs.MayReplace.{may_replace}
use Rattle.kw_shape.proofs.Hands.{hand_of_group, holds_led, in_group}
use Rattle.kw_shape.proofs.InfantsStay.{infant_at, row_link}
pub use Rattle.kw_shape.proofs.LinkedRows.{balance_at, all_young, fresh_linked, hand_infant, linked_keeps}
use Rattle.kw_shape.proofs.RelyRows.{RelyRows}
use Rattle.kw_shape.proofs.ReplaceEvent.{replace_event}
use Rattle.kw_shape.specs.Balances.{Balances}
use Rattle.kw_shape.specs.RowsIn.{has_frozen, has_mark, rows_in, state_seen}
use Rattle.kw_shape.specs.Shape.{Kinds, Shape}
use Rattle.kw_shape.specs.Won.{Won}
use Rattle.kw_core.specs.Stages.{IsVisiting}
use Rattle.kw_core.proofs.Frame.{WritesPass}
use Rattle.kw_shape.specs.Visits.{Visits as InVisits}

-- one more cell asked for leaves the count frozen or not
frozen_next : (w : ℕ) (c : Option Counted) → count_of w ≡ c → IsGiven c → has_frozen (count_of (w + 1)) ≡ has_frozen c
frozen_next w (Some c) e g = ap has_frozen (count_of_next w c e (omega (arith, g)))
frozen_next w None e g = absurd g

-- a word that says that so many rows are led says that none are, if it is that word
led_none : (n : ℕ) {w : ℕ} → state_of w ≡ Some (state.Leader n) → w ≡ state_word (state.Leader 0) → n ≡ 0
led_none n e f = let x : Some (state.Leader n) ≡ Some (state.Leader 0) = sym e ∙ ap state_of f ∙ state_of-Leader 0 (omega arith) in cc

module _ {z : Sizes} {r r' : Run} {s : ℕ} {choice : Choice} {l l' : Local} where
  -- The words.

  -- the head, the links and the least keys are as they were where a cell is asked for, and no count
  -- thaws or freezes
  more_given : Happens z r r' s choice l l' (Activity.Put Put.Add) → IsSane z r.world → SameLinks (rows_in (word z r.world)) (rows_in (word z r'.world))
  more_given h sane = record {
    head = ap (λ w. row_linked (link_of w)) (head_stays (Activity.Put Put.Add) h (λ c. c));
    next = λ q. ap (λ w. row_linked (link_of w)) (next_word (Activity.Put Put.Add) h sane q (λ c. c));
    marked = λ q. ap (λ w. has_mark (link_of w)) (next_word (Activity.Put Put.Add) h sane q (λ c. c));
    frozen = λ q. which q (cases_eq q l.row);
    least = λ q. ap key_of_word (least_word (Activity.Put Put.Add) h sane q (λ c. c));
  }
    where
      here : has_frozen (count_of (word z r'.world (name.Count l.row))) ≡ has_frozen (count_of (word z r.world (name.Count l.row)))
      here = ap (λ w. has_frozen (count_of w)) h.changed.same ∙ frozen_next (word z r.world (name.Count l.row)) _ refl (sane.each (name.Count l.row) (sane.locals s l h.knows).below.row)

      which : (q : ℕ) → (q ≡ l.row) ⊎ (q ≡ l.row → ⊥) → has_frozen (count_of (word z r'.world (name.Count q))) ≡ has_frozen (count_of (word z r.world (name.Count q)))
      which q (inl e) = subst (λ x. has_frozen (count_of (word z r'.world (name.Count x))) ≡ has_frozen (count_of (word z r.world (name.Count x)))) (sym e) here
      which q (inr d) = ap (λ w. has_frozen (count_of w)) (count_word (Activity.Put Put.Add) h sane q d)

  -- The ledger.

  -- the visits of other seats are as they were
  pub others_kept : (a : Activity) → Happens z r r' s choice l l' a → (t : ℕ) → t ≢ s → r'.ledger.rows.visits t ≡ r.ledger.rows.visits t
  others_kept a h t d = others_stay a h t (λ x e. d e)

  -- a seat that enters is in a visit, and one that leaves or tries again is in none
  pub visit_begins : Happens z r r' s choice l l' (Activity.Enter Enter.Announce) → r'.ledger.rows.visits s ≡ Some (length r.history.log)
  visit_begins h = ap (λ (g : Ledger). g.rows.visits s) h.ledger ∙ chosen s s (Some (length r.history.log)) (r.ledger.rows.visits s) refl

  pub visit_ends : (answer : Answer) → Happens z r r' s choice l l' (Activity.Leave answer) → r'.ledger.rows.visits s ≡ None
  visit_ends answer h = ap (λ (g : Ledger). g.rows.visits s) h.ledger ∙ chosen s s None (r.ledger.rows.visits s) refl

  pub visit_taken_back : Happens z r r' s choice l l' Activity.Retry → r'.ledger.rows.visits s ≡ None
  visit_taken_back h = ap (λ (g : Ledger). g.rows.visits s) h.ledger ∙ chosen s s None (r.ledger.rows.visits s) refl

  -- The event.

  pub kinds_at : (a : Activity) → Happens z r r' s choice l l' a → Shape z r → Kinds a l
  kinds_at a h i = subst (λ b. Kinds b l) h.activity (i.kinds s l h.knows)

  pub won_at : (a : Activity) → Happens z r r' s choice l l' a → Shape z r → Won r.ledger.rows s a l
  won_at a h i = subst (λ b. Won r.ledger.rows s b l) h.activity (i.won s l h.knows)

  -- of a seat that enters, leaves or tries again
  visits_set : (a : Activity) (at : Option ℕ) → Happens z r r' s choice l l' a → IsSane z r.world → (ChangesHead a s l → ⊥) → ((q : ℕ) → ChangesNext a s l q → ⊥) → ((q : ℕ) → ChangesCount a s l q → ⊥) → ((q : ℕ) → ChangesLeast a s l q → ⊥) → ((q : ℕ) → ChangesState a s l q → ⊥) →
      ((q : ℕ) → ChangesFate a l q → ⊥) → (DrawsNumber a → ⊥) → r'.ledger.rows.visits s ≡ at → Visits (rows_in (word z r.world)) (rows_in (word z r'.world)) r.ledger.rows r'.ledger.rows s at
  visits_set a at h sane head next count least states fates drawn e = record {
    links = links_kept a h sane head next count least;
    states = λ q. state_kept a h sane q (states q);
    fates = λ q. fate_stays a h q (fates q);
    numbered = numbers_stay a h drawn;
    visits = e;
    others = others_kept a h;
  }

  -- a row that is engaged has a leader that has not decided
  pub engaged_state : Happens z r r' s choice l l' (Activity.Rebalance (Rebalance.Engage Engage.Lead)) → word z r.world (name.State l.row) ≡ state_word state.Normal → (rows_in (word z r'.world)).state l.row ≡ row.Leader 0
  engaged_state h e = word_says _ (state.Leader 0) (omega arith) (exchanged _ _ _ _ h.changed.same e)

  -- a seat that makes its row normal
  normalising : (seat : ℕ) → Happens z r r' s choice l l' (Activity.Rebalance (Rebalance.Engage (Engage.Normal seat))) → Shape z r → Event (rows_in (word z r.world)) (rows_in (word z r'.world)) r.ledger.rows r'.ledger.rows (length r.history.log)
  normalising seat h i =
      normal_event (Activity.Rebalance (Rebalance.Engage (Engage.Normal seat))) l.row seat h i.sane
      (record { head = λ c. c; next = λ q c. c; count = λ q c. c; least = λ q c. c; others = λ q d c. d c; fates = λ q c. c; visits = λ c. c; drawn = λ c. c })
      (held_by r.ledger.rows s l.row ((balance_at (Activity.Rebalance (Rebalance.Engage (Engage.Normal seat))) h i).fresh tt))
      (let k = subst (λ b. IsActivity z b) h.activity (i.sane.locals s l h.knows).ranges.activity in omega (arith, k, i.sane.sized.few_seats)) h.changed.same

  -- one that engages it
  engaging : Happens z r r' s choice l l' (Activity.Rebalance (Rebalance.Engage Engage.Lead)) → Shape z r → Event (rows_in (word z r.world)) (rows_in (word z r'.world)) r.ledger.rows r'.ledger.rows (length r.history.log)
  engaging h i = which (cases_eq (word z r.world (name.State l.row)) (state_word state.Normal))
    where
      which : (word z r.world (name.State l.row) ≡ state_word state.Normal) ⊎ (word z r.world (name.State l.row) ≡ state_word state.Normal → ⊥) → Event (rows_in (word z r.world)) (rows_in (word z r'.world)) r.ledger.rows r'.ledger.rows (length r.history.log)
      which (inl e) = engages l.row (record {
        held = held_by r.ledger.rows s l.row ((balance_at (Activity.Rebalance (Rebalance.Engage Engage.Lead)) h i).fresh tt);
        normal = word_says _ state.Normal tt e;
        sets = sets_state (Activity.Rebalance (Rebalance.Engage Engage.Lead)) h i.sane (λ c. c) (λ q c. c) (λ q c. c) (λ q c. c) l.row (λ q d c. d c) (row.Leader 0) (engaged_state h e);
        ledger = ledger_kept (Activity.Rebalance (Rebalance.Engage Engage.Lead)) h (λ q c. c) (λ c. c) (λ c. c);
      })
      which (inr d) = rests (record { links = links_kept (Activity.Rebalance (Rebalance.Engage Engage.Lead)) h i.sane (λ c. c) (λ q c. c) (λ q c. c) (λ q c. c); states = states_still (Activity.Rebalance (Rebalance.Engage Engage.Lead)) h i.sane l.row (λ q n c. n c) (not_exchanged _ _ _ _ h.changed.same d); ledger = ledger_kept (Activity.Rebalance (Rebalance.Engage Engage.Lead)) h (λ q c. c) (λ c. c) (λ c. c) })

  -- a state that is read stands there still
  pub read_state : (a : Activity) → Happens z r r' s choice l l' a → Shape z r → (t : State) → state_of (word z r.world (name.State l.row)) ≡ Some t → (ChangesState a s l l.row → ⊥) → (rows_in (word z r'.world)).state l.row ≡ state_seen (Some t)
  read_state a h i t e n = state_kept a h i.sane l.row n ∙ ap state_seen e

  -- one that marks its link
  marking : (count : ℕ) → Happens z r r' s choice l l' (Activity.Rebalance (Rebalance.Engage (Engage.MarkLink count))) → Shape z r → MarksLink (rows_in (word z r.world)) (rows_in (word z r'.world)) r.ledger.rows r'.ledger.rows l.row
  marking count h i =
      marks_row (Activity.Rebalance (Rebalance.Engage (Engage.MarkLink count))) l.row h i.sane
      (record { head = λ c. c; others = λ q d c. d c; count = λ q c. c; least = λ q c. c; state = λ q c. c; fates = λ q c. c; visits = λ c. c; drawn = λ c. c })
      (i.sane.locals s l h.knows).below.row
      (may_mark (rows_in (word z r.world)) r.ledger.rows (length r.history.log) i.rows l.row count (balance_at (Activity.Rebalance (Rebalance.Engage (Engage.MarkLink count))) h i).group) h.changed.same

  -- so the link is marked from now on, and leads where it led
  pub row_marked : (count : ℕ) → Happens z r r' s choice l l' (Activity.Rebalance (Rebalance.Engage (Engage.MarkLink count))) → Shape z r → (rows_in (word z r'.world)).marked l.row ≡ true
  row_marked count h i = (marking count h i).marked

  pub row_next : (count : ℕ) → Happens z r r' s choice l l' (Activity.Rebalance (Rebalance.Engage (Engage.MarkLink count))) → Shape z r → next_in (word z r'.world) l.row ≡ next_in (word z r.world) l.row
  row_next count h i = (marking count h i).next l.row

  -- one that decides how many rows go: no more than a group has, and two only where there is a next
  -- one
  few_go : (count : ℕ) → Happens z r r' s choice l l' (Activity.Rebalance (Rebalance.Engage (Engage.Decide count))) → Shape z r → count ≤ MOST_GROUP
  few_go count h i = subst (λ b. IsActivity z b) h.activity (i.sane.locals s l h.knows).ranges.activity

  deciding : (count : ℕ) → Happens z r r' s choice l l' (Activity.Rebalance (Rebalance.Engage (Engage.Decide count))) → Shape z r → Event (rows_in (word z r.world)) (rows_in (word z r'.world)) r.ledger.rows r'.ledger.rows (length r.history.log)
  deciding count h i = which (cases_eq (word z r.world (name.State l.row)) (state_word (state.Leader 0)))
    where
      b : Balances (word z r.world) r.ledger.rows s (Activity.Rebalance (Rebalance.Engage (Engage.Decide count))) l
      b = balance_at (Activity.Rebalance (Rebalance.Engage (Engage.Decide count))) h i

      which : (word z r.world (name.State l.row) ≡ state_word (state.Leader 0)) ⊎ (word z r.world (name.State l.row) ≡ state_word (state.Leader 0) → ⊥) → Event (rows_in (word z r.world)) (rows_in (word z r'.world)) r.ledger.rows r'.ledger.rows (length r.history.log)
      which (inl e) = decides l.row count (record {
        held = held_by r.ledger.rows s l.row (b.fresh tt);
        undecided = word_says _ (state.Leader 0) (omega arith) e;
        marked = b.group.0.marked;
        some = (kinds_at (Activity.Rebalance (Rebalance.Engage (Engage.Decide count))) h i).kind.1;
        followed = λ two. let n = b.next two in (n.0, b.group.0.next ∙ n.1);
        sets = sets_state (Activity.Rebalance (Rebalance.Engage (Engage.Decide count))) h i.sane (λ c. c) (λ q c. c) (λ q c. c) (λ q c. c) l.row (λ q d c. d c) (row.Leader count) (word_says _ (state.Leader count) (omega (arith, few_go count h i)) (exchanged _ _ _ _ h.changed.same e));
        ledger = ledger_kept (Activity.Rebalance (Rebalance.Engage (Engage.Decide count))) h (λ q c. c) (λ c. c) (λ c. c);
      })
      which (inr d) = rests (record { links = links_kept (Activity.Rebalance (Rebalance.Engage (Engage.Decide count))) h i.sane (λ c. c) (λ q c. c) (λ q c. c) (λ q c. c); states = states_still (Activity.Rebalance (Rebalance.Engage (Engage.Decide count))) h i.sane l.row (λ q n c. n c) (not_exchanged _ _ _ _ h.changed.same d); ledger = ledger_kept (Activity.Rebalance (Rebalance.Engage (Engage.Decide count))) h (λ q c. c) (λ c. c) (λ c. c) })

  -- a row that was found undecided leads as many as this seat decided, and else as many as it led
  pub decided_state : (count : ℕ) → Happens z r r' s choice l l' (Activity.Rebalance (Rebalance.Engage (Engage.Decide count))) → Shape z r → (n : ℕ) → state_of (word z r.world (name.State l.row)) ≡ Some (state.Leader n) → (rows_in (word z r'.world)).state l.row ≡ row.Leader (if n == 0 then count else n)
  decided_state count h i n e = which (cases_eq n 0)
    where
      here : word z r.world (name.State l.row) ≡ state_word (state.Leader n)
      here = sym (state_word_of _ (state.Leader n) e)

      which : (n ≡ 0) ⊎ (n ≡ 0 → ⊥) → (rows_in (word z r'.world)).state l.row ≡ row.Leader (if n == 0 then count else n)
      which (inl f) = word_says _ (state.Leader count) (omega (arith, few_go count h i)) (exchanged _ _ _ _ h.changed.same (here ∙ ap (λ x. state_word (state.Leader x)) f)) ∙ ap row.Leader (sym (chosen n 0 count n f))
      which (inr d) = ap (λ w. state_seen (state_of w)) (not_exchanged _ _ _ _ h.changed.same (λ f. d (led_none n e f))) ∙ ap state_seen e ∙ ap row.Leader (sym (not_chosen n 0 count n d))

  -- that is one row at least, and no more than a group has
  pub decided_bounds : (count : ℕ) → Happens z r r' s choice l l' (Activity.Rebalance (Rebalance.Engage (Engage.Decide count))) → Shape z r → (n : ℕ) → state_of (word z r.world (name.State l.row)) ≡ Some (state.Leader n) → (1 ≤ (if n == 0 then count else n)) × ((if n == 0 then count else n) ≤ MOST_GROUP)
  decided_bounds count h i n e = which (cases_eq n 0)
    where
      few : count ≤ MOST_GROUP
      few = few_go count h i

      which : (n ≡ 0) ⊎ (n ≡ 0 → ⊥) → (1 ≤ (if n == 0 then count else n)) × ((if n == 0 then count else n) ≤ MOST_GROUP)
      which (inl f) = rw (chosen n 0 count n f) ((kinds_at (Activity.Rebalance (Rebalance.Engage (Engage.Decide count))) h i).kind.1, few)
      which (inr d) = rw (not_chosen n 0 count n d) (omega (arith, d), IsState-state_of _ (state.Leader n) e)

  -- the row after it goes along from now on, as it was found or made
  pub claimed_state : Happens z r r' s choice l l' (Activity.Rebalance (Rebalance.Claim Claim.Exchange)) → Shape z r → (state_of (word z r.world (name.State (row_after l))) ≡ Some state.Normal) ⊎ (state_of (word z r.world (name.State (row_after l))) ≡ Some (state.Follower l.row)) → (rows_in (word z r'.world)).state (row_after l) ≡ row.Follower l.row
  claimed_state h i (inl e) = word_says _ (state.Follower l.row) (omega (arith, (i.sane.locals s l h.knows).below.row, i.sane.sized.few_rows)) (exchanged _ _ _ _ h.changed.same (sym (state_word_of _ state.Normal e)))
  claimed_state h i (inr e) = ap (λ w. state_seen (state_of w)) (not_exchanged _ _ _ _ h.changed.same (λ f. let x : Some (state.Follower l.row) ≡ Some state.Normal = sym e ∙ ap state_of f ∙ state_of-Normal in cc)) ∙ ap state_seen e

  -- or leads a group of its own, as it was found
  pub leader_left : Happens z r r' s choice l l' (Activity.Rebalance (Rebalance.Claim Claim.Exchange)) → Shape z r → (count : ℕ) → state_of (word z r.world (name.State (row_after l))) ≡ Some (state.Leader count) → (rows_in (word z r'.world)).state (row_after l) ≡ row.Leader count
  leader_left h i count e = ap (λ w. state_seen (state_of w)) (not_exchanged _ _ _ _ h.changed.same (λ f. let x : Some (state.Leader count) ≡ Some state.Normal = sym e ∙ ap state_of f ∙ state_of-Normal in cc)) ∙ ap state_seen e

  -- one that freezes a row of its group
  pub freezing : Happens z r r' s choice l l' (Activity.Rebalance (Rebalance.Freeze Freeze.Count)) → Shape z r → Freezes (rows_in (word z r.world)) (rows_in (word z r'.world)) r.ledger.rows r'.ledger.rows l.rebalance.hand
  freezing h i = record {
    decided = λ a. may_freeze (rows_in (word z r.world)) r.ledger.rows (length r.history.log) i.rows l.row l.rebalance.second l.rebalance.after (held_by r.ledger.rows s l.row (b.fresh tt)) (holds_led (rows_in (word z r.world)) r.ledger.rows l.row l.rebalance.second l.rebalance.after b.group) l.rebalance.hand (in_group l l.rebalance.hand (hand_of_group l (b.hands tt))) a;
    head = ap (λ w. row_linked (link_of w)) (head_stays (Activity.Rebalance (Rebalance.Freeze Freeze.Count)) h (λ c. c));
    next = λ q. ap (λ w. row_linked (link_of w)) (next_word (Activity.Rebalance (Rebalance.Freeze Freeze.Count)) h i.sane q (λ c. c));
    marked = λ q. ap (λ w. has_mark (link_of w)) (next_word (Activity.Rebalance (Rebalance.Freeze Freeze.Count)) h i.sane q (λ c. c));
    frozen = is_frozen _ refl (i.sane.each (name.Count l.rebalance.hand) (i.sane.locals s l h.knows).below.rebalance.hand);
    others = λ q d. ap (λ w. has_frozen (count_of w)) (count_word (Activity.Rebalance (Rebalance.Freeze Freeze.Count)) h i.sane q d);
    least = λ q. ap key_of_word (least_word (Activity.Rebalance (Rebalance.Freeze Freeze.Count)) h i.sane q (λ c. c));
    states = λ q. state_kept (Activity.Rebalance (Rebalance.Freeze Freeze.Count)) h i.sane q (λ c. c);
    ledger = ledger_kept (Activity.Rebalance (Rebalance.Freeze Freeze.Count)) h (λ q c. c) (λ c. c) (λ c. c);
  }
    where
      b : Balances (word z r.world) r.ledger.rows s (Activity.Rebalance (Rebalance.Freeze Freeze.Count)) l
      b = balance_at (Activity.Rebalance (Rebalance.Freeze Freeze.Count)) h i

      is_frozen : (c : Option Counted) → count_of (word z r.world (name.Count l.rebalance.hand)) ≡ c → IsGiven c → (rows_in (word z r'.world)).frozen l.rebalance.hand ≡ true
      is_frozen (Some c) e g = ap has_frozen (freezes_given h c e)
      is_frozen None e g = absurd g

  pub row_event : (a : Activity) → Happens z r r' s choice l l' a → Shape z r → Event (rows_in (word z r.world)) (rows_in (word z r'.world)) r.ledger.rows r'.ledger.rows (length r.history.log)
  row_event (Activity.Enter Enter.Announce) h i = begins s (visits_set (Activity.Enter Enter.Announce) _ h i.sane (λ c. c) (λ q c. c) (λ q c. c) (λ q c. c) (λ q c. c) (λ q c. c) (λ c. c) (visit_begins h))
  row_event (Activity.Leave answer) h i = ends s (visits_set (Activity.Leave answer) _ h i.sane (λ c. c) (λ q c. c) (λ q c. c) (λ q c. c) (λ q c. c) (λ q c. c) (λ c. c) (visit_ends answer h))
  row_event Activity.Retry h i = ends s (visits_set Activity.Retry _ h i.sane (λ c. c) (λ q c. c) (λ q c. c) (λ q c. c) (λ q c. c) (λ q c. c) (λ c. c) (visit_taken_back h))
  row_event (Activity.Put Put.Add) h i = rests (record { links = more_given h i.sane; states = λ q. state_kept (Activity.Put Put.Add) h i.sane q (λ c. c); ledger = ledger_kept (Activity.Put Put.Add) h (λ q c. c) (λ c. c) (λ c. c) })
  row_event (Activity.Rebalance (Rebalance.Engage (Engage.Normal seat))) h i = normalising seat h i
  row_event (Activity.Rebalance (Rebalance.Engage Engage.Lead)) h i = engaging h i
  row_event (Activity.Rebalance (Rebalance.Engage (Engage.MarkLink count))) h i = marks l.row (marking count h i)
  row_event (Activity.Rebalance (Rebalance.Engage (Engage.Decide count))) h i = deciding count h i
  row_event (Activity.Rebalance (Rebalance.Claim Claim.Exchange)) h i = claiming_next h i
  row_event (Activity.Rebalance (Rebalance.Claim (Claim.Normal seat))) h i = normalising_next seat h i
  row_event (Activity.Rebalance (Rebalance.Claim Claim.MarkLink)) h i = marks (row_after l) (marking_along h i)
  row_event (Activity.Rebalance (Rebalance.Freeze Freeze.Count)) h i = freezes l.rebalance.hand (freezing h i)
  row_event (Activity.Rebalance (Rebalance.Seek Seek.Take)) h i = taking h i.sane i.rows.states
  row_event (Activity.Rebalance (Rebalance.Seek Seek.Reclaim)) h i = freeing h i.sane i.rows.states (i.sane.locals s l h.knows).ranges.rebalance.number (all_young h i)
  row_event (Activity.Rebalance (Rebalance.Seek Seek.GiveBack)) h i = giving_back h i.sane (hand_infant (Activity.Rebalance (Rebalance.Seek Seek.GiveBack)) h i tt)
  row_event (Activity.Rebalance (Rebalance.Write Write.Count)) h i = writing (Activity.Rebalance (Rebalance.Write Write.Count)) tt h i.sane (hand_infant (Activity.Rebalance (Rebalance.Write Write.Count)) h i tt)
  row_event (Activity.Rebalance (Rebalance.Write Write.Least)) h i = writing (Activity.Rebalance (Rebalance.Write Write.Least)) tt h i.sane (hand_infant (Activity.Rebalance (Rebalance.Write Write.Least)) h i tt)
  row_event (Activity.Rebalance (Rebalance.Write Write.Next)) h i = writing (Activity.Rebalance (Rebalance.Write Write.Next)) tt h i.sane (hand_infant (Activity.Rebalance (Rebalance.Write Write.Next)) h i tt)
  row_event (Activity.Rebalance (Rebalance.Write Write.First)) h i = writing (Activity.Rebalance (Rebalance.Write Write.First)) tt h i.sane (hand_infant (Activity.Rebalance (Rebalance.Write Write.First)) h i tt)
  row_event (Activity.Rebalance (Rebalance.Write (Write.Entry j))) h i = writing (Activity.Rebalance (Rebalance.Write (Write.Entry j))) tt h i.sane (hand_infant (Activity.Rebalance (Rebalance.Write (Write.Entry j))) h i tt)
  row_event (Activity.Rebalance (Rebalance.Write (Write.Key j))) h i = writing (Activity.Rebalance (Rebalance.Write (Write.Key j))) tt h i.sane (hand_infant (Activity.Rebalance (Rebalance.Write (Write.Key j))) h i tt)
  row_event (Activity.Rebalance (Rebalance.Write (Write.Value j))) h i = writing (Activity.Rebalance (Rebalance.Write (Write.Value j))) tt h i.sane (hand_infant (Activity.Rebalance (Rebalance.Write (Write.Value j))) h i tt)
  row_event (Activity.Rebalance (Rebalance.Write (Write.Version j))) h i = writing (Activity.Rebalance (Rebalance.Write (Write.Version j))) tt h i.sane (hand_infant (Activity.Rebalance (Rebalance.Write (Write.Version j))) h i tt)
  row_event (Activity.Rebalance (Rebalance.Write (Write.After j))) h i = writing (Activity.Rebalance (Rebalance.Write (Write.After j))) tt h i.sane (hand_infant (Activity.Rebalance (Rebalance.Write (Write.After j))) h i tt)
  row_event (Activity.Rebalance (Rebalance.Replace Replace.Exchange)) h i = replace_event h i.sane (row_link z r.world s l i.sane h.knows) (λ e. may_replace h i)
  row_event (Activity.Rebalance (Rebalance.Replace Replace.Normalise)) h i = let w = won_at (Activity.Rebalance (Rebalance.Replace Replace.Normalise)) h i in making_normal h i.sane (held_by r.ledger.rows s (infant l) (w.fresh tt l.rebalance.at (infant l) (infant_at l (w.hand tt))))
  row_event (Activity.Rebalance (Rebalance.Replace Replace.Number)) h i = numbering h i.sane i.numbers
  row_event (Activity.Rebalance (Rebalance.Replace Replace.Retire)) h i = let w = won_at (Activity.Rebalance (Rebalance.Replace Replace.Retire)) h i in retiring h i.sane (i.sane.locals s l h.knows).ranges.rebalance.number (w.dead l.rebalance.hand (inl refl)) (w.number tt)
  row_event a h i = rests (record { links = links_kept a h i.sane (λ c. c) (λ q c. c) (λ q c. c) (λ q c. c); states = λ q. state_kept a h i.sane q (λ c. c); ledger = ledger_kept a h (λ q c. c) (λ c. c) (λ c. c) })

  -- one event more is in the log
  now_next : (a : Activity) → Happens z r r' s choice l l' a → length r'.history.log ≡ suc (length r.history.log)
  now_next a h =
      let e = log_entry z r a s choice l in
      let x = ap (λ (k : History). length k.log) h.history in
      omega (arith, x, length-append r.history.log (e ∷ []))

  pub structure_keeps : (a : Activity) → Happens z r r' s choice l l' a → Shape z r → Structure (rows_in (word z r'.world)) r'.ledger.rows (length r'.history.log)
  structure_keeps a h i =
      let k = kept (rows_in (word z r.world)) (rows_in (word z r'.world)) r.ledger.rows r'.ledger.rows (length r.history.log) i.rows (row_event a h i) in
      record {
        chain = k.chain;
        closed = k.closed;
        states = k.states;
        marks = k.marks;
        pairs = k.pairs;
        follows = k.follows;
        past = subst (kw_rows.Past r'.ledger.rows) (sym (now_next a h)) k.past;
      }

  -- What a seat may name.

  -- a seat that is in one visit before and after the event may name the rows that it might, and
  -- they are as they were
  pub rely_rows : (a : Activity) → Happens z r r' s choice l l' a → Shape z r → (t since : ℕ) → r.ledger.rows.visits t ≡ Some since → r'.ledger.rows.visits t ≡ Some since →
      RelyRows (word z r.world) (word z r'.world) r.ledger.rows r'.ledger.rows t
  rely_rows a h i t since before after =
      let k = kept (rows_in (word z r.world)) (rows_in (word z r'.world)) r.ledger.rows r'.ledger.rows (length r.history.log) i.rows (row_event a h i) in
      record {
        fresh = λ q. k.fresh t since q before after;
        taken = λ q f. (linked_keeps a h i q (fresh_linked r.ledger.rows t q f)).taken;
        born = λ q f. (linked_keeps a h i q (fresh_linked r.ledger.rows t q f)).born;
        upper = λ q f. (linked_keeps a h i q (fresh_linked r.ledger.rows t q f)).upper;
        least = λ q f. (linked_keeps a h i q (fresh_linked r.ledger.rows t q f)).least;
        built = λ q f. (linked_keeps a h i q (fresh_linked r.ledger.rows t q f)).built;
      }

  -- what a seat knows of the rows that it rebalances stays known
  pub group_keeps : (a : Activity) → Happens z r r' s choice l l' a → Shape z r → (t : ℕ) (view : View) → Named r.ledger.rows t view → Group (rows_in (word z r.world)) r.ledger.rows view → Group (rows_in (word z r'.world)) r'.ledger.rows view
  group_keeps a h i t view n g = (kept (rows_in (word z r.world)) (rows_in (word z r'.world)) r.ledger.rows r'.ledger.rows (length r.history.log) i.rows (row_event a h i)).group t view n g

-- What an event leaves to the acting seat of the rows that it may name.

-- a seat that goes on in its visit may name the rows that it might
pub own_rely : (z : Sizes) (r r' : Run) (s : ℕ) (choice : Choice) (l : Local) (a : Activity) (l' : Local) → Happens z r r' s choice l l' a → Shape z r → IsVisiting a → (WritesPass a → ⊥) → RelyRows (word z r.world) (word z r'.world) r.ledger.rows r'.ledger.rows s
own_rely z r r' s choice l a l' h i x n =
    let p = (subst (λ q. InVisits (word z r.world) r.ledger.rows s q l) h.activity (i.visits s l h.knows)).in_visit x in
    rely_rows a h i s p.since p.visits (others_stay a h s (λ x e. n x) ∙ p.visits)
