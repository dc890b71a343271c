-- A row that is in the list stays there over the events of a seat but an exchange that replaces it,
-- and has the state of such a row.
use Rattle.std.proofs.Common.{ℕ, ◌≡◌, ◌≢◌, ◌⊎◌, inl, inr, ◌==◌, Option, Some, None, ◌∙◌, ap, subst, if◌then◌else◌}
use Rattle.std.proofs.lemmas.Bool.{cases_eq}
use Rattle.kw_rows.specs.Ledger.{Fate, Ledger, IsLive}
use Rattle.kw_rows.specs.Rows.{Rows}
use Rattle.kw_rows.specs.RowState.{IsClaimable}
use Rattle.kw_rows.specs.States.{IsLiveState}
use Rattle.kw_rows.proofs.Sets.{live_state}
use Rattle.kw_words.specs.declared.layout.Name.TheVariants as name
use Rattle.kw_words.specs.declared.state.State.{State}
use Rattle.kw_words.specs.declared.state.State.TheVariants.{Free, Infant, Normal, Leader, Follower, Retired}
use Rattle.kw_words.specs.State.{state_of, state_word}
use Rattle.kw_words.proofs.StateWords.{state_of-Free, state_of-state_word}
use Rattle.kw_world.specs.declared.activity.Activity.{Activity}
use Rattle.kw_world.specs.declared.activity.rebalance.Rebalance.TheVariants as Rebalance
use Rattle.kw_world.specs.declared.activity.rebalance.claim.Claim.TheVariants as Claim
use Rattle.kw_world.specs.declared.activity.rebalance.engage.Engage.TheVariants as Engage
use Rattle.kw_world.specs.declared.activity.rebalance.replace.Replace.TheVariants as Replace
use Rattle.kw_world.specs.declared.activity.rebalance.seek.Seek.TheVariants as Seek
use Rattle.kw_world.specs.declared.event.Choice.{Choice}
use Rattle.kw_world.specs.declared.local.Local.{Local}
use Rattle.kw_world.specs.ClaimTransitions.{claimed, to_mark_next}
use Rattle.kw_world.specs.EngageTransitions as engage
use Rattle.kw_world.specs.Sizes.{Sizes}
use Rattle.kw_world.specs.Step.{word}
use Rattle.kw_world.specs.Transition.{Outcome}
use Rattle.kw_core.specs.Ledger as ledger
use Rattle.kw_core.specs.Run.{Run}
use Rattle.kw_core.proofs.Fates.{fate_stays, none_freed, none_taken}
use Rattle.kw_core.proofs.Grouping.{NextCounted, claims_row, goes_alone, next_counted}
use Rattle.kw_core.proofs.Happens.{Happens, chosen}
use Rattle.kw_shape.specs.RowsIn.{rows_in, state_seen}
use Rattle.kw_shape.specs.Shape.{Shape}
use Rattle.kw_laws.specs.Laws.{IsReachedState}

-- the seat's event leaves the rows of the list there: it is no exchange for new rows, and gives
-- none back
abbrev pub LeavesLive : Activity → Type 0
LeavesLive (Activity.Rebalance (Rebalance.Seek Seek.GiveBack)) = ⊥
LeavesLive (Activity.Rebalance (Rebalance.Replace Replace.Exchange)) = ⊥
LeavesLive _ = Unit {0}

-- States.

module _ (w : Rows) (g : Ledger) (q : ℕ) where
  -- such a row's rebalance goes on where its state is asked for
  pub engage_on : (x : Option State) (l : Local) → IsLiveState w g q (state_seen x) → Activity.Retry ≡ (engage.state_seen x l).local.activity → ⊥
  engage_on (Some Free) l s e = s
  engage_on (Some (Infant seat)) l s e = absurd (cc)
  engage_on (Some Normal) l s e = absurd (cc)
  engage_on (Some (Leader count)) l s e = absurd (cc)
  engage_on (Some (Follower leader)) l s e = absurd (cc)
  engage_on (Some (Retired number)) l s e = s
  engage_on None l s e = s

  -- and where it is decided
  pub decide_on : (count : ℕ) (x : Option State) (l : Local) → IsLiveState w g q (state_seen x) → IsReachedState (Activity.Rebalance (Rebalance.Engage (Engage.Decide count))) l x → Activity.Retry ≡ (engage.decided count x l).local.activity → ⊥
  decide_on count (Some Free) l s i e = s
  decide_on count (Some (Infant seat)) l s i e = i
  decide_on count (Some Normal) l s i e = i
  decide_on count (Some (Leader found)) l s i e = went _ (next_counted (if found == 0 then count else found) l) e
    where
      went : (k : Local) → NextCounted (if found == 0 then count else found) l k → Activity.Retry ≡ k.activity → ⊥
      went k (claims_row r m o) e = absurd (cc)
      went k (goes_alone d) e = absurd (cc)
  decide_on count (Some (Follower leader)) l s i e = i
  decide_on count (Some (Retired number)) l s i e = s
  decide_on count None l s i e = s

  -- a row that was linked and is no free one, nor retired
  pub not_free : (x : Option State) → IsLiveState w g q (state_seen x) → x ≢ Some Free
  not_free (Some Free) s e = s
  not_free (Some (Infant seat)) s e = absurd (cc)
  not_free (Some Normal) s e = absurd (cc)
  not_free (Some (Leader count)) s e = absurd (cc)
  not_free (Some (Follower leader)) s e = absurd (cc)
  not_free (Some (Retired number)) s e = absurd (cc)
  not_free None s e = s

  pub not_retired : (n : ℕ) (x : Option State) → IsLiveState w g q (state_seen x) → x ≢ Some (Retired n)
  not_retired n (Some Free) s e = absurd (cc)
  not_retired n (Some (Infant seat)) s e = absurd (cc)
  not_retired n (Some Normal) s e = absurd (cc)
  not_retired n (Some (Leader count)) s e = absurd (cc)
  not_retired n (Some (Follower leader)) s e = absurd (cc)
  not_retired n (Some (Retired number)) s e = s
  not_retired n None s e = absurd (cc)

-- and where the row after it is claimed
pub claim_on : (x : Option State) (l : Local) → IsClaimable l.row (state_seen x) → Activity.Retry ≡ (claimed x l).local.activity → ⊥
claim_on (Some Free) l s e = s
claim_on (Some (Infant seat)) l s e = absurd (cc)
claim_on (Some Normal) l s e = absurd (cc)
claim_on (Some (Leader count)) l s e = absurd (cc)
claim_on (Some (Follower leader)) l s e =
    let f : (if leader == l.row then to_mark_next l else engage.again l) ≡ to_mark_next l = chosen leader l.row (to_mark_next l) (engage.again l) s in
    let m : Activity.Retry ≡ Activity.Rebalance (Rebalance.Claim Claim.MarkLink) = e ∙ ap (λ (o : Outcome). o.local.activity) f in
    absurd (cc)
claim_on (Some (Retired number)) l s e = s
claim_on None l s e = s

-- Fates.

-- a fate that is the same
same_live : (g g' : Ledger) (q : ℕ) → g'.fates q ≡ g.fates q → IsLive g q → IsLive g' q
same_live g g' q e a = ap (λ (f : Fate). f.status) e ∙ a

module _ {z : Sizes} {r r' : Run} {s : ℕ} {choice : Choice} {l l' : Local} where
  -- it is not replaced by another event than an exchange, and nobody frees it
  pub live_stays : (a : Activity) → Happens z r r' s choice l l' a → Shape z r → LeavesLive a → (q : ℕ) → IsLive r.ledger.rows q → IsLive r'.ledger.rows q
  live_stays (Activity.Rebalance (Rebalance.Seek Seek.Take)) h i x q a = tried (cases_eq q l.rebalance.sought)
    where
      none : Shape z r → IsLive r.ledger.rows l.rebalance.sought → word z r.world (name.State l.rebalance.sought) ≢ state_word Free
      none i a e = not_free (rows_in (word z r.world)) r.ledger.rows l.rebalance.sought (state_of (word z r.world (name.State l.rebalance.sought))) (live_state (rows_in (word z r.world)) r.ledger.rows l.rebalance.sought i.rows.states a) (ap state_of e ∙ state_of-Free)

      tried : (q ≡ l.rebalance.sought) ⊎ (q ≡ l.rebalance.sought → ⊥) → IsLive r'.ledger.rows q
      tried (inl e) = same_live r.ledger.rows r'.ledger.rows q (ap (λ (g : ledger.Ledger). g.rows.fates q) (none_taken h (none i (subst (IsLive r.ledger.rows) e a)))) a
      tried (inr d) = same_live r.ledger.rows r'.ledger.rows q (fate_stays (Activity.Rebalance (Rebalance.Seek Seek.Take)) h q d) a
  live_stays (Activity.Rebalance (Rebalance.Seek Seek.Reclaim)) h i x q a = freed (cases_eq q l.rebalance.sought)
    where
      none : IsLive r.ledger.rows l.rebalance.sought → word z r.world (name.State l.rebalance.sought) ≢ state_word (Retired l.rebalance.number)
      none a e = not_retired (rows_in (word z r.world)) r.ledger.rows l.rebalance.sought l.rebalance.number (state_of (word z r.world (name.State l.rebalance.sought))) (live_state (rows_in (word z r.world)) r.ledger.rows l.rebalance.sought i.rows.states a)
          (ap state_of e ∙ state_of-state_word (Retired l.rebalance.number) (i.sane.locals s l h.knows).ranges.rebalance.number)

      freed : (q ≡ l.rebalance.sought) ⊎ (q ≡ l.rebalance.sought → ⊥) → IsLive r'.ledger.rows q
      freed (inl e) = same_live r.ledger.rows r'.ledger.rows q (ap (λ (g : ledger.Ledger). g.rows.fates q) (none_freed h (none (subst (IsLive r.ledger.rows) e a)))) a
      freed (inr d) = same_live r.ledger.rows r'.ledger.rows q (fate_stays (Activity.Rebalance (Rebalance.Seek Seek.Reclaim)) h q d) a
  live_stays (Activity.Rebalance (Rebalance.Seek Seek.GiveBack)) h i x q a = absurd x
  live_stays (Activity.Rebalance (Rebalance.Replace Replace.Exchange)) h i x q a = absurd x
  live_stays b h i x q a = same_live r.ledger.rows r'.ledger.rows q (fate_stays b h q (λ c. c)) a
