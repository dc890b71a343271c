-- What an event does to the rows by which a seat takes a row for its rebalance: it makes the row
-- normal, marks its link, or makes it go along with the full one. Which row that is does not
-- matter: the seat's own one, or the one after it.
use Rattle.std.proofs.Common.{ℕ, ◌≡◌, ◌≢◌, ◌⊎◌, inl, inr, ◌<◌, true, Option, Some, None, arith, refl, sym, ◌∙◌, ap, subst, length, bit_or}
use Rattle.std.proofs.lemmas.Bool.{cases_eq}
use Rattle.kw_words.specs.declared.layout.Name.TheVariants as name
use Rattle.kw_words.specs.declared.link.Link.{Link}
use Rattle.kw_words.specs.declared.sizes.TheConstants.{MARK_BIT}
use Rattle.kw_words.specs.declared.state.State.TheVariants as state
use Rattle.kw_words.specs.Count.{count_of}
use Rattle.kw_words.specs.Link.{link_of}
use Rattle.kw_words.specs.Plain.{key_of_word}
use Rattle.kw_words.specs.State.{IsState, state_word}
use Rattle.kw_words.proofs.LinkWords.{link_of_marked}
use Rattle.kw_rows.specs.Events.{Event, MarksLink, engages_next, normalises, rests}
use Rattle.kw_rows.specs.Group.{Claiming, Group, MarkingNext}
use Rattle.kw_rows.specs.Ledger.{IsHeld, IsLive}
use Rattle.kw_rows.specs.RowState as row
use Rattle.kw_rows.specs.RowState.{IsEngaged}
use Rattle.kw_rows.proofs.Named.{held_by}
use Rattle.kw_rows.proofs.Views.{may_mark_next}
use Rattle.kw_world.specs.declared.activity.Activity.{Activity}
use Rattle.kw_world.specs.declared.activity.rebalance.claim.Claim.TheVariants as Claim
use Rattle.kw_world.specs.declared.activity.rebalance.Rebalance.TheVariants as Rebalance
use Rattle.kw_world.specs.declared.event.Choice.{Choice}
use Rattle.kw_world.specs.declared.local.Local.{Local}
use Rattle.kw_world.specs.declared.operation.Action.TheVariants.{Exchange}
use Rattle.kw_world.specs.ClaimTransitions.{row_after}
use Rattle.kw_world.specs.Operation.{word_after}
use Rattle.kw_world.specs.Sane.{IsActivity, IsKnownWord, IsRowBelow, IsSane}
use Rattle.kw_world.specs.Sizes.{Sizes}
use Rattle.kw_world.specs.Step.{word}
use Rattle.kw_world.specs.Transition.{row_linked, row_or_first}
use Rattle.kw_core.specs.Run.{Run}
use Rattle.kw_core.specs.Stages.{IsBalancing}
use Rattle.kw_core.specs.Words.{next_in}
use Rattle.kw_core.proofs.Fates.{ChangesFate, DrawsNumber}
use Rattle.kw_core.proofs.Frame.{WritesPass}
use Rattle.kw_core.proofs.Happens.{Happens, exchanged, not_exchanged}
use Rattle.kw_core.proofs.InfantFrames.{ChangesCount, ChangesHead, ChangesLeast, ChangesNext, ChangesState, head_stays}
use Rattle.kw_shape.proofs.BuildEvents.{count_word, least_word, ledger_kept, links_kept, next_word, sets_state, state_kept, states_still, word_says}
use Rattle.kw_shape.proofs.LinkedRows.{balance_at}
use Rattle.kw_shape.specs.Balances.{claiming, marking_next}
use Rattle.kw_shape.specs.Hands.{HasNext}
use Rattle.kw_shape.specs.RowsIn.{has_frozen, has_mark, rows_in}
use Rattle.kw_shape.specs.Shape.{Shape}

-- a marked link leads where it led
marked_link : (w : ℕ) (x : Option Link) → link_of w ≡ x → IsKnownWord x → (row_linked (link_of (bit_or w MARK_BIT)) ≡ row_linked (link_of w)) × (has_mark (link_of (bit_or w MARK_BIT)) ≡ true)
marked_link w (Some link) e k = let m = link_of_marked w link e in (ap row_linked m ∙ ap row_linked (sym e), ap has_mark m)
marked_link w None e k = absurd k

-- the event writes the state of this row, and nothing else that is seen of rows
pub record WritesState (a : Activity) (s : ℕ) (l : Local) (x : ℕ) : Type 0 where
  pub head : ChangesHead a s l → ⊥
  pub next : (q : ℕ) → ChangesNext a s l q → ⊥
  pub count : (q : ℕ) → ChangesCount a s l q → ⊥
  pub least : (q : ℕ) → ChangesLeast a s l q → ⊥
  pub others : (q : ℕ) → q ≢ x → ChangesState a s l q → ⊥
  pub fates : (q : ℕ) → ChangesFate a l q → ⊥
  pub visits : WritesPass a → ⊥
  pub drawn : DrawsNumber a → ⊥

-- the event writes the link of this row, and nothing else that is seen of rows
pub record WritesLink (a : Activity) (s : ℕ) (l : Local) (x : ℕ) : Type 0 where
  pub head : ChangesHead a s l → ⊥
  pub others : (q : ℕ) → q ≢ x → ChangesNext a s l q → ⊥
  pub count : (q : ℕ) → ChangesCount a s l q → ⊥
  pub least : (q : ℕ) → ChangesLeast a s l q → ⊥
  pub state : (q : ℕ) → ChangesState a s l q → ⊥
  pub fates : (q : ℕ) → ChangesFate a l q → ⊥
  pub visits : WritesPass a → ⊥
  pub drawn : DrawsNumber a → ⊥

-- a row after the full one that is there is the one that is asked
after_is : (o : Option ℕ) (c : ℕ) → o ≡ Some c → o ≡ Some (row_or_first o)
after_is (Some d) c e = refl
after_is None c e = let x : None ≡ Some c = e in absurd (cc)

-- the rows before and after it
abbrev RowEvent : Sizes → Run → Run → Type 0
RowEvent z r r' = Event (rows_in (word z r.world)) (rows_in (word z r'.world)) r.ledger.rows r'.ledger.rows (length r.history.log)

module _ {z : Sizes} {r r' : Run} {s : ℕ} {choice : Choice} {l l' : Local} where
  -- where the state stays as it was, nothing of the rows changes
  nothing_set : (a : Activity) (x : ℕ) → Happens z r r' s choice l l' a → IsSane z r.world → WritesState a s l x → word z r'.world (name.State x) ≡ word z r.world (name.State x) → RowEvent z r r'
  nothing_set a x h sane w e = rests (record { links = links_kept a h sane w.head w.next w.count w.least; states = states_still a h sane x w.others e; ledger = ledger_kept a h w.fates w.visits w.drawn })

  -- a seat makes a row normal, or it was made so before
  pub normal_event : (a : Activity) (x seat : ℕ) → Happens z r r' s choice l l' a → IsSane z r.world → WritesState a s l x → IsHeld r.ledger.rows x → IsState (state.Infant seat) →
      word z r'.world (name.State x) ≡ word_after (Exchange (state_word (state.Infant seat)) (state_word state.Normal)) (word z r.world (name.State x)) → RowEvent z r r'
  normal_event a x seat h sane w held small same = which (cases_eq (word z r.world (name.State x)) (state_word (state.Infant seat)))
    where
      which : (word z r.world (name.State x) ≡ state_word (state.Infant seat)) ⊎ (word z r.world (name.State x) ≡ state_word (state.Infant seat) → ⊥) → RowEvent z r r'
      which (inl e) = normalises x seat (record {
        held = held;
        infant = word_says _ (state.Infant seat) small e;
        sets = sets_state a h sane w.head w.next w.count w.least x w.others row.Normal (word_says _ state.Normal tt (exchanged _ _ _ _ same e));
        ledger = ledger_kept a h w.fates w.visits w.drawn;
      })
      which (inr d) = nothing_set a x h sane w (not_exchanged _ _ _ _ same d)

  -- a seat marks the link of a row that it may mark
  pub marks_row : (a : Activity) (x : ℕ) → Happens z r r' s choice l l' a → IsSane z r.world → WritesLink a s l x → x < r.world.rows → (IsLive r.ledger.rows x → IsEngaged ((rows_in (word z r.world)).state x)) →
      word z r'.world (name.Next x) ≡ bit_or (word z r.world (name.Next x)) MARK_BIT → MarksLink (rows_in (word z r.world)) (rows_in (word z r'.world)) r.ledger.rows r'.ledger.rows x
  marks_row a x h sane w below engaged same = record {
    engaged = engaged;
    head = ap (λ n. row_linked (link_of n)) (head_stays a h w.head);
    next = λ q. which q (cases_eq q x);
    marked = ap (λ n. has_mark (link_of n)) same ∙ link.1;
    others = λ q d. ap (λ n. has_mark (link_of n)) (next_word a h sane q (w.others q d));
    frozen = λ q. ap (λ n. has_frozen (count_of n)) (count_word a h sane q (w.count q));
    least = λ q. ap key_of_word (least_word a h sane q (w.least q));
    states = λ q. state_kept a h sane q (w.state q);
    ledger = ledger_kept a h w.fates w.visits w.drawn;
  }
    where
      link : (row_linked (link_of (bit_or (word z r.world (name.Next x)) MARK_BIT)) ≡ row_linked (link_of (word z r.world (name.Next x)))) × (has_mark (link_of (bit_or (word z r.world (name.Next x)) MARK_BIT)) ≡ true)
      link = marked_link (word z r.world (name.Next x)) _ refl (sane.each (name.Next x) below)

      which : (q : ℕ) → (q ≡ x) ⊎ (q ≡ x → ⊥) → next_in (word z r'.world) q ≡ next_in (word z r.world) q
      which q (inl e) = subst (λ y. next_in (word z r'.world) y ≡ next_in (word z r.world) y) (sym e) (ap (λ n. row_linked (link_of n)) same ∙ link.0)
      which q (inr d) = ap (λ n. row_linked (link_of n)) (next_word a h sane q (w.others q d))

  -- The row after the full one.

  -- it is there where a seat takes it along
  pub next_there : (a : Activity) → Happens z r r' s choice l l' a → Shape z r → HasNext a → l.rebalance.after ≡ Some (row_after l)
  next_there a h i x = let n = (balance_at a h i).next x in after_is l.rebalance.after n.0 n.1

  -- and is a row of the table
  next_below : (a : Activity) → Happens z r r' s choice l l' a → Shape z r → HasNext a → row_after l < r.world.rows
  next_below a h i x = which l.rebalance.after (next_there a h i x) (i.sane.locals s l h.knows).below.rebalance.after
    where
      which : (o : Option ℕ) → o ≡ Some (row_after l) → IsRowBelow r.world.rows o → row_after l < r.world.rows
      which o e b = subst (IsRowBelow r.world.rows) e b

  -- what the seat knows of both as it claims that row
  pub claims_there : (a : Activity) → Happens z r r' s choice l l' a → Shape z r → HasNext a → Group (rows_in (word z r.world)) r.ledger.rows (claiming l.row l.rebalance.after) → Group (rows_in (word z r.world)) r.ledger.rows (Claiming l.row (row_after l))
  claims_there a h i x g = subst (λ o. Group (rows_in (word z r.world)) r.ledger.rows (claiming l.row o)) (next_there a h i x) g

  -- and as it marks its link
  pub marks_there : (a : Activity) → Happens z r r' s choice l l' a → Shape z r → HasNext a → Group (rows_in (word z r.world)) r.ledger.rows (marking_next l.row l.rebalance.after) → Group (rows_in (word z r.world)) r.ledger.rows (MarkingNext l.row (row_after l))
  marks_there a h i x g = subst (λ o. Group (rows_in (word z r.world)) r.ledger.rows (marking_next l.row o)) (next_there a h i x) g

  -- some seat may name the full row: this one
  held_full : (a : Activity) → Happens z r r' s choice l l' a → Shape z r → IsBalancing a → IsHeld r.ledger.rows l.row
  held_full a h i x = held_by r.ledger.rows s l.row ((balance_at a h i).fresh x)

  -- a seat claims the row after its full one
  pub claiming_next : Happens z r r' s choice l l' (Activity.Rebalance (Rebalance.Claim Claim.Exchange)) → Shape z r → RowEvent z r r'
  claiming_next h i = which (cases_eq (word z r.world (name.State (row_after l))) (state_word state.Normal))
    where
      w : WritesState (Activity.Rebalance (Rebalance.Claim Claim.Exchange)) s l (row_after l)
      w = record { head = λ c. c; next = λ q c. c; count = λ q c. c; least = λ q c. c; others = λ q d c. d c; fates = λ q c. c; visits = λ c. c; drawn = λ c. c }

      which : (word z r.world (name.State (row_after l)) ≡ state_word state.Normal) ⊎ (word z r.world (name.State (row_after l)) ≡ state_word state.Normal → ⊥) → RowEvent z r r'
      which (inl e) = engages_next l.row (row_after l) (record {
        held = held_full (Activity.Rebalance (Rebalance.Claim Claim.Exchange)) h i tt;
        claims = claims_there (Activity.Rebalance (Rebalance.Claim Claim.Exchange)) h i tt (balance_at (Activity.Rebalance (Rebalance.Claim Claim.Exchange)) h i).group;
        normal = word_says _ state.Normal tt e;
        sets = sets_state (Activity.Rebalance (Rebalance.Claim Claim.Exchange)) h i.sane w.head w.next w.count w.least (row_after l) w.others (row.Follower l.row) (word_says _ (state.Follower l.row) (omega (arith, (i.sane.locals s l h.knows).below.row, i.sane.sized.few_rows)) (exchanged _ _ _ _ h.changed.same e));
        ledger = ledger_kept (Activity.Rebalance (Rebalance.Claim Claim.Exchange)) h w.fates w.visits w.drawn;
      })
      which (inr d) = nothing_set (Activity.Rebalance (Rebalance.Claim Claim.Exchange)) (row_after l) h i.sane w (not_exchanged _ _ _ _ h.changed.same d)

  -- or makes it normal first
  pub normalising_next : (seat : ℕ) → Happens z r r' s choice l l' (Activity.Rebalance (Rebalance.Claim (Claim.Normal seat))) → Shape z r → RowEvent z r r'
  normalising_next seat h i =
      normal_event (Activity.Rebalance (Rebalance.Claim (Claim.Normal seat))) (row_after l) seat h i.sane
      (record { head = λ c. c; next = λ q c. c; count = λ q c. c; least = λ q c. c; others = λ q d c. d c; fates = λ q c. c; visits = λ c. c; drawn = λ c. c })
      (i.rows.closed.linked l.row (row_after l) (held_full (Activity.Rebalance (Rebalance.Claim (Claim.Normal seat))) h i tt) (claims_there (Activity.Rebalance (Rebalance.Claim (Claim.Normal seat))) h i tt (balance_at (Activity.Rebalance (Rebalance.Claim (Claim.Normal seat))) h i).group).0.next)
      (let k = subst (λ b. IsActivity z b) h.activity (i.sane.locals s l h.knows).ranges.activity in omega (arith, k, i.sane.sized.few_seats)) h.changed.same

  -- and marks its link once it goes along
  pub marking_along : Happens z r r' s choice l l' (Activity.Rebalance (Rebalance.Claim Claim.MarkLink)) → Shape z r → MarksLink (rows_in (word z r.world)) (rows_in (word z r'.world)) r.ledger.rows r'.ledger.rows (row_after l)
  marking_along h i =
      marks_row (Activity.Rebalance (Rebalance.Claim Claim.MarkLink)) (row_after l) h i.sane
      (record { head = λ c. c; others = λ q d c. d c; count = λ q c. c; least = λ q c. c; state = λ q c. c; fates = λ q c. c; visits = λ c. c; drawn = λ c. c })
      (next_below (Activity.Rebalance (Rebalance.Claim Claim.MarkLink)) h i tt)
      (may_mark_next (rows_in (word z r.world)) r.ledger.rows (length r.history.log) i.rows l.row (row_after l) (marks_there (Activity.Rebalance (Rebalance.Claim Claim.MarkLink)) h i tt (balance_at (Activity.Rebalance (Rebalance.Claim Claim.MarkLink)) h i).group))
      h.changed.same
