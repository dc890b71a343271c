-- An event of one seat leaves the infants of every other: the rows on which it acts were linked, or
-- are its own infants, or are free, or retired.
use Rattle.std.proofs.Common.{ℕ, suc, ◌≡◌, ◌≢◌, ◌⊎◌, inl, inr, false, true, List, [], ◌∷◌, Some, arith, refl, sym, ◌∙◌, ap, subst, slice_get}
use Rattle.std.proofs.lemmas.Bool.{cases_eq}
use Rattle.std.proofs.lemmas.Option.{same_Some}
use Rattle.kw_words.specs.declared.layout.Name.{Name}
use Rattle.kw_words.specs.declared.layout.Name.TheVariants as name
use Rattle.kw_words.specs.declared.state.State.TheVariants as state
use Rattle.kw_words.specs.Layout.{IsWithin}
use Rattle.kw_words.specs.State.{IsState, state_word}
use Rattle.kw_rows.specs.Events.{IsIn}
use Rattle.kw_rows.specs.Ledger.{Ledger, Infant, Live, Dead}
use Rattle.kw_rows.specs.Rows.{WasLinked}
use Rattle.kw_rows.specs.States.{States}
use Rattle.kw_world.specs.declared.activity.Activity.{Activity}
use Rattle.kw_world.specs.declared.activity.rebalance.Rebalance.TheVariants as Rebalance
use Rattle.kw_world.specs.declared.activity.rebalance.replace.Replace.TheVariants as Replace
use Rattle.kw_world.specs.declared.activity.rebalance.seek.Seek.TheVariants as Seek
use Rattle.kw_world.specs.declared.activity.rebalance.write.Write.TheVariants as Write
use Rattle.kw_world.specs.declared.activity.look.Look.TheVariants as Look
use Rattle.kw_world.specs.declared.activity.put.Put.TheVariants as Put
use Rattle.kw_world.specs.declared.activity.insert.Insert.TheVariants as Insert
use Rattle.kw_world.specs.declared.activity.rebalance.claim.Claim.TheVariants as Claim
use Rattle.kw_world.specs.declared.activity.rebalance.engage.Engage.TheVariants as Engage
use Rattle.kw_world.specs.declared.activity.rebalance.freeze.Freeze.TheVariants as Freeze
use Rattle.kw_world.specs.declared.event.Choice.{Choice}
use Rattle.kw_world.specs.declared.local.Local.{Local}
use Rattle.kw_world.specs.ClaimTransitions.{row_after}
use Rattle.kw_world.specs.SeekTransitions.{infant}
use Rattle.kw_world.specs.Sizes.{Sizes}
use Rattle.kw_world.specs.Step.{word}
use Rattle.kw_core.specs.Ledger as ledger
use Rattle.kw_core.specs.Run.{Run}
use Rattle.kw_core.proofs.Fates.{fate_stays, none_freed, none_taken}
use Rattle.kw_core.proofs.Frame.{unwritten}
use Rattle.kw_core.proofs.Happens.{Happens}
use Rattle.kw_core.proofs.InfantFrames.{Target, NoRow, OwnRow, NextRow, HandRow, NewRow, SoughtRow, RowBefore, IsTarget, row_in, row_stays, target_of}
use Rattle.kw_shape.proofs.Hands.{of_group}
use Rattle.kw_shape.proofs.InfantsOwn.{infant_not_free, infant_not_retired}
use Rattle.kw_shape.proofs.InfantsStay.{RelyInfants, infant_at, is_state}
use Rattle.kw_shape.specs.Hands.{IsOfGroup}
use Rattle.kw_shape.specs.Infants.{Infants, IsInfantOf}
use Rattle.kw_shape.specs.RowsIn.{rows_in}

-- a row that was linked is nobody's infant
pub linked_not_infant : {A : Type 0} (g : Ledger) (t q : ℕ) → WasLinked g q → IsInfantOf g t q → A
linked_not_infant g t q (inl a) x = let e : Live ≡ Infant = sym a ∙ x.status in absurd (cc)
linked_not_infant g t q (inr a) x = let e : Dead ≡ Infant = sym a ∙ x.status in absurd (cc)

-- an infant has one owner
one_owner : {A : Type 0} (g : Ledger) (t s q : ℕ) → t ≢ s → IsInfantOf g t q → IsInfantOf g s q → A
one_owner g t s q d x y = absurd (d (sym x.owner ∙ y.owner))

-- a row of a list stands at some place there
pub index_of_row : (xs : List ℕ) (q : ℕ) → IsIn xs q → (i : ℕ) × (slice_get xs i ≡ Some q)
index_of_row [] q i = absurd i
index_of_row (x ∷ xs) q (inl e) = (0, ap Some (sym e))
index_of_row (x ∷ xs) q (inr i) = let y = index_of_row xs q i in (suc y.0, y.1)

-- the state of a row is no other word
pub no_state : {A : Type 0} (q : ℕ) (n : Name) → is_state n ≡ false → Some (name.State q) ≡ Some n → A
no_state q n f e = let x : true ≡ false = ap is_state (same_Some (name.State q) n e) ∙ f in absurd (cc)

-- the rows on which an event acts were linked, if they are neither new nor sought
abbrev pub AreLinked : Ledger → Local → Target → Type 0
AreLinked g l OwnRow = WasLinked g l.row
AreLinked g l NextRow = WasLinked g (row_after l)
AreLinked g l HandRow = WasLinked g l.rebalance.hand
AreLinked g l RowBefore = ((q : ℕ) → IsOfGroup l q → WasLinked g q) × ((p : ℕ) → l.rebalance.before ≡ Some p → WasLinked g p)
AreLinked g l _ = Unit {0}

module _ {z : Sizes} {r r' : Run} {s : ℕ} {choice : Choice} {l l' : Local} where
  -- an event that is no new row's, no sought row's and not at the row before writes no infant
  not_target : (a : Activity) → Happens z r r' s choice l l' a → (t q : ℕ) → IsInfantOf r.ledger.rows t q → (c : Target) → AreLinked r.ledger.rows l c → target_of a ≡ c → (target_of a ≡ NewRow → ⊥) → (target_of a ≡ SoughtRow → ⊥) → (target_of a ≡ RowBefore → ⊥) → IsTarget c l q → ⊥
  not_target a h t q y NoRow own k new sought left m = m
  not_target a h t q y OwnRow own k new sought left m = linked_not_infant r.ledger.rows t q (subst (WasLinked r.ledger.rows) (sym m) own) y
  not_target a h t q y NextRow own k new sought left m = linked_not_infant r.ledger.rows t q (subst (WasLinked r.ledger.rows) (sym m) own) y
  not_target a h t q y HandRow own k new sought left m = linked_not_infant r.ledger.rows t q (subst (WasLinked r.ledger.rows) (sym m) own) y
  not_target a h t q y NewRow own k new sought left m = new k
  not_target a h t q y SoughtRow own k new sought left m = sought k
  not_target a h t q y RowBefore own k new sought left m = left k

  -- the word of an infant of the seat t is none that the event writes, where the rows of the acting
  -- seat were linked
  words_kept : (a : Activity) → Happens z r r' s choice l l' a → (t : ℕ) → t ≢ s → Infants z (word z r.world) r.ledger.rows s a l → AreLinked r.ledger.rows l (target_of a) →
      (q : ℕ) → IsInfantOf r.ledger.rows t q → (n : Name) → row_in n ≡ Some q → is_state n ≡ false → IsWithin z.seats z.cells r.world.rows n → word z r'.world n ≡ word z r.world n
  words_kept (Activity.Rebalance (Rebalance.Seek Seek.Take)) h t d x own q y n e f i = unwritten (Activity.Rebalance (Rebalance.Seek Seek.Take)) h n i (no_state l.rebalance.sought n f)
  words_kept (Activity.Rebalance (Rebalance.Seek Seek.Reclaim)) h t d x own q y n e f i = unwritten (Activity.Rebalance (Rebalance.Seek Seek.Reclaim)) h n i (no_state l.rebalance.sought n f)
  words_kept (Activity.Rebalance (Rebalance.Seek Seek.GiveBack)) h t d x own q y n e f i = unwritten (Activity.Rebalance (Rebalance.Seek Seek.GiveBack)) h n i (no_state (infant l) n f)
  words_kept (Activity.Rebalance (Rebalance.Replace Replace.Normalise)) h t d x own q y n e f i = unwritten (Activity.Rebalance (Rebalance.Replace Replace.Normalise)) h n i (no_state (infant l) n f)
  words_kept (Activity.Rebalance (Rebalance.Replace Replace.Exchange)) h t d x own q y n e f i = row_stays (Activity.Rebalance (Rebalance.Replace Replace.Exchange)) h n q e i (λ p. linked_not_infant r.ledger.rows t q (own.1 q p) y)
  words_kept (Activity.Rebalance (Rebalance.Write Write.Count)) h t d x own q y n e f i = row_stays (Activity.Rebalance (Rebalance.Write Write.Count)) h n q e i (λ m. one_owner r.ledger.rows t s q d y (subst (IsInfantOf r.ledger.rows s) (sym m) (x.owned l.rebalance.at (infant l) tt (infant_at l (x.hand tt)))))
  words_kept (Activity.Rebalance (Rebalance.Write Write.Least)) h t d x own q y n e f i = row_stays (Activity.Rebalance (Rebalance.Write Write.Least)) h n q e i (λ m. one_owner r.ledger.rows t s q d y (subst (IsInfantOf r.ledger.rows s) (sym m) (x.owned l.rebalance.at (infant l) tt (infant_at l (x.hand tt)))))
  words_kept (Activity.Rebalance (Rebalance.Write Write.Next)) h t d x own q y n e f i = row_stays (Activity.Rebalance (Rebalance.Write Write.Next)) h n q e i (λ m. one_owner r.ledger.rows t s q d y (subst (IsInfantOf r.ledger.rows s) (sym m) (x.owned l.rebalance.at (infant l) tt (infant_at l (x.hand tt)))))
  words_kept (Activity.Rebalance (Rebalance.Write Write.First)) h t d x own q y n e f i = row_stays (Activity.Rebalance (Rebalance.Write Write.First)) h n q e i (λ m. one_owner r.ledger.rows t s q d y (subst (IsInfantOf r.ledger.rows s) (sym m) (x.owned l.rebalance.at (infant l) tt (infant_at l (x.hand tt)))))
  words_kept (Activity.Rebalance (Rebalance.Write (Write.Entry j))) h t d x own q y n e f i = row_stays (Activity.Rebalance (Rebalance.Write (Write.Entry j))) h n q e i (λ m. one_owner r.ledger.rows t s q d y (subst (IsInfantOf r.ledger.rows s) (sym m) (x.owned l.rebalance.at (infant l) tt (infant_at l (x.hand tt)))))
  words_kept (Activity.Rebalance (Rebalance.Write (Write.Key j))) h t d x own q y n e f i = row_stays (Activity.Rebalance (Rebalance.Write (Write.Key j))) h n q e i (λ m. one_owner r.ledger.rows t s q d y (subst (IsInfantOf r.ledger.rows s) (sym m) (x.owned l.rebalance.at (infant l) tt (infant_at l (x.hand tt)))))
  words_kept (Activity.Rebalance (Rebalance.Write (Write.Value j))) h t d x own q y n e f i = row_stays (Activity.Rebalance (Rebalance.Write (Write.Value j))) h n q e i (λ m. one_owner r.ledger.rows t s q d y (subst (IsInfantOf r.ledger.rows s) (sym m) (x.owned l.rebalance.at (infant l) tt (infant_at l (x.hand tt)))))
  words_kept (Activity.Rebalance (Rebalance.Write (Write.Version j))) h t d x own q y n e f i = row_stays (Activity.Rebalance (Rebalance.Write (Write.Version j))) h n q e i (λ m. one_owner r.ledger.rows t s q d y (subst (IsInfantOf r.ledger.rows s) (sym m) (x.owned l.rebalance.at (infant l) tt (infant_at l (x.hand tt)))))
  words_kept (Activity.Rebalance (Rebalance.Write (Write.After j))) h t d x own q y n e f i = row_stays (Activity.Rebalance (Rebalance.Write (Write.After j))) h n q e i (λ m. one_owner r.ledger.rows t s q d y (subst (IsInfantOf r.ledger.rows s) (sym m) (x.owned l.rebalance.at (infant l) tt (infant_at l (x.hand tt)))))
  words_kept (Activity.Look Look.Key) h t d x own q y n e f i = row_stays (Activity.Look Look.Key) h n q e i (not_target (Activity.Look Look.Key) h t q y (target_of (Activity.Look Look.Key)) own refl (λ c. cc) (λ c. cc) (λ c. cc))
  words_kept (Activity.Put Put.Count) h t d x own q y n e f i = row_stays (Activity.Put Put.Count) h n q e i (not_target (Activity.Put Put.Count) h t q y (target_of (Activity.Put Put.Count)) own refl (λ c. cc) (λ c. cc) (λ c. cc))
  words_kept (Activity.Insert Insert.Link) h t d x own q y n e f i = row_stays (Activity.Insert Insert.Link) h n q e i (not_target (Activity.Insert Insert.Link) h t q y (target_of (Activity.Insert Insert.Link)) own refl (λ c. cc) (λ c. cc) (λ c. cc))
  words_kept (Activity.Rebalance (Rebalance.Engage Engage.Clock)) h t d x own q y n e f i = row_stays (Activity.Rebalance (Rebalance.Engage Engage.Clock)) h n q e i (not_target (Activity.Rebalance (Rebalance.Engage Engage.Clock)) h t q y (target_of (Activity.Rebalance (Rebalance.Engage Engage.Clock))) own refl (λ c. cc) (λ c. cc) (λ c. cc))
  words_kept (Activity.Rebalance (Rebalance.Claim Claim.Count)) h t d x own q y n e f i = row_stays (Activity.Rebalance (Rebalance.Claim Claim.Count)) h n q e i (not_target (Activity.Rebalance (Rebalance.Claim Claim.Count)) h t q y (target_of (Activity.Rebalance (Rebalance.Claim Claim.Count))) own refl (λ c. cc) (λ c. cc) (λ c. cc))
  words_kept (Activity.Rebalance (Rebalance.Freeze Freeze.Count)) h t d x own q y n e f i = row_stays (Activity.Rebalance (Rebalance.Freeze Freeze.Count)) h n q e i (not_target (Activity.Rebalance (Rebalance.Freeze Freeze.Count)) h t q y (target_of (Activity.Rebalance (Rebalance.Freeze Freeze.Count))) own refl (λ c. cc) (λ c. cc) (λ c. cc))
  words_kept a h t d x own q y n e f i = row_stays a h n q e i (not_target a h t q y (target_of a) own refl (λ c. cc) (λ c. cc) (λ c. cc))

  -- nor does its fate change
  fates_kept : (a : Activity) → Happens z r r' s choice l l' a → (t : ℕ) → t ≢ s → States (rows_in (word z r.world)) r.ledger.rows → IsState (state.Retired l.rebalance.number) → Infants z (word z r.world) r.ledger.rows s a l → AreLinked r.ledger.rows l (target_of a) →
      (q : ℕ) → IsInfantOf r.ledger.rows t q → r'.ledger.rows.fates q ≡ r.ledger.rows.fates q
  fates_kept (Activity.Rebalance (Rebalance.Seek Seek.Take)) h t d states small x own q y = which (cases_eq (word z r.world (name.State l.rebalance.sought)) (state_word state.Free))
    where
      which : (word z r.world (name.State l.rebalance.sought) ≡ state_word state.Free) ⊎ (word z r.world (name.State l.rebalance.sought) ≡ state_word state.Free → ⊥) → r'.ledger.rows.fates q ≡ r.ledger.rows.fates q
      which (inl e) = fate_stays (Activity.Rebalance (Rebalance.Seek Seek.Take)) h q (λ c. infant_not_free (word z r.world) r.ledger.rows t q states y (ap (λ k. word z r.world (name.State k)) c ∙ e))
      which (inr n) = ap (λ (g : ledger.Ledger). g.rows.fates q) (none_taken h n)
  fates_kept (Activity.Rebalance (Rebalance.Seek Seek.Reclaim)) h t d states small x own q y = which (cases_eq (word z r.world (name.State l.rebalance.sought)) (state_word (state.Retired l.rebalance.number)))
    where
      which : (word z r.world (name.State l.rebalance.sought) ≡ state_word (state.Retired l.rebalance.number)) ⊎ (word z r.world (name.State l.rebalance.sought) ≡ state_word (state.Retired l.rebalance.number) → ⊥) → r'.ledger.rows.fates q ≡ r.ledger.rows.fates q
      which (inl e) = fate_stays (Activity.Rebalance (Rebalance.Seek Seek.Reclaim)) h q (λ c. infant_not_retired (word z r.world) r.ledger.rows t q l.rebalance.number states small y (ap (λ k. word z r.world (name.State k)) c ∙ e))
      which (inr n) = ap (λ (g : ledger.Ledger). g.rows.fates q) (none_freed h n)
  fates_kept (Activity.Rebalance (Rebalance.Seek Seek.GiveBack)) h t d states small x own q y = fate_stays (Activity.Rebalance (Rebalance.Seek Seek.GiveBack)) h q (λ c. one_owner r.ledger.rows t s q d y (subst (IsInfantOf r.ledger.rows s) (sym c) (x.owned l.rebalance.at (infant l) (omega arith) (infant_at l (x.hand tt)))))
  fates_kept (Activity.Rebalance (Rebalance.Replace Replace.Exchange)) h t d states small x own q y = fate_stays (Activity.Rebalance (Rebalance.Replace Replace.Exchange)) h q acts
    where
      acts : IsIn (ledger.group_of l) q ⊎ IsIn l.rebalance.taken q → ⊥
      acts (inl c) = linked_not_infant r.ledger.rows t q (own.0 q (of_group l q c)) y
      acts (inr c) = let p = index_of_row l.rebalance.taken q c in one_owner r.ledger.rows t s q d y (x.owned p.0 q tt p.1)
  fates_kept a h t d states small x own q y = fate_stays a h q (λ c. c)

  -- so the infants of another seat stay
  pub rely_infants : (a : Activity) → Happens z r r' s choice l l' a → (t : ℕ) → t ≢ s → States (rows_in (word z r.world)) r.ledger.rows → IsState (state.Retired l.rebalance.number) → Infants z (word z r.world) r.ledger.rows s a l → AreLinked r.ledger.rows l (target_of a) →
      RelyInfants z r.world.rows (word z r.world) (word z r'.world) r.ledger.rows r'.ledger.rows t
  rely_infants a h t d states small x own = record {
    fates = fates_kept a h t d states small x own;
    words = λ q y o n e f i. words_kept a h t d x own q y n e f i;
  }
