-- Which rows lead after an event: those that led before, and the one that the seat engages.
use Rattle.std.proofs.Common.{ℕ, ◌≡◌, ◌≢◌, ◌⊎◌, inl, inr, ◌<◌, Some, arith, refl, sym, ◌∙◌, ap, subst}
use Rattle.std.proofs.lemmas.Bool.{cases_eq}
use Rattle.kw_words.specs.declared.layout.Name.TheVariants as name
use Rattle.kw_words.specs.declared.state.State.{State}
use Rattle.kw_words.specs.declared.state.State.TheVariants.{Follower, Free, Infant, Leader, Normal, Retired}
use Rattle.kw_words.specs.State.{state_of, state_word}
use Rattle.kw_words.proofs.StateWords.{state_of-Leader, state_word_of}
use Rattle.kw_world.specs.declared.activity.Activity.{Activity}
use Rattle.kw_world.specs.declared.activity.rebalance.Rebalance.TheVariants as Rebalance
use Rattle.kw_world.specs.declared.activity.rebalance.claim.Claim.TheVariants as Claim
use Rattle.kw_world.specs.declared.activity.rebalance.engage.Engage.TheVariants as Engage
use Rattle.kw_world.specs.declared.activity.rebalance.replace.Replace.TheVariants as Replace
use Rattle.kw_world.specs.declared.activity.rebalance.seek.Seek.TheVariants as Seek
use Rattle.kw_world.specs.declared.event.Choice.{Choice}
use Rattle.kw_world.specs.declared.local.Local.{Local}
use Rattle.kw_world.specs.declared.operation.Action.TheVariants.{Exchange}
use Rattle.kw_world.specs.ClaimTransitions.{row_after}
use Rattle.kw_world.specs.Operation.{word_after}
use Rattle.kw_world.specs.SeekTransitions.{infant}
use Rattle.kw_world.specs.Sizes.{Sizes}
use Rattle.kw_world.specs.Step.{word}
use Rattle.kw_core.specs.Run.{Run}
use Rattle.kw_core.specs.Words.{Words}
use Rattle.kw_core.proofs.Happens.{Happens, exchanged, not_exchanged}
use Rattle.kw_core.proofs.InfantFrames.{ChangesState, given_back, retired, state_stays}

-- the word of its state says that the row leads
abbrev pub Leads : Words → ℕ → Type 0
Leads v q = (n : ℕ) × (state_of (v (name.State q)) ≡ Some (Leader n))

-- the seat makes a row lead that was in the normal state
pub record EngagesNow (v : Words) (a : Activity) (l : Local) (q : ℕ) : Type 0 where
  pub engages : a ≡ Activity.Rebalance (Rebalance.Engage Engage.Lead)
  pub row : q ≡ l.row
  pub normal : v (name.State q) ≡ state_word Normal

-- Words.

-- a word of another state is none in which a row leads
pub not_led : {A : Type 0} (w n : ℕ) (y : State) → w ≡ state_word y → (state_word y ≡ state_word (Leader n) → ⊥) → state_of w ≡ Some (Leader n) → A
not_led w n y e d f = absurd (d (sym e ∙ sym (state_word_of w (Leader n) f)))

-- an exchange to another state leaves no row that leads and did not
was_led : (w w' n : ℕ) (x y : State) → w' ≡ word_after (Exchange (state_word x) (state_word y)) w → (state_word y ≡ state_word (Leader n) → ⊥) → state_of w' ≡ Some (Leader n) → (m : ℕ) × (state_of w ≡ Some (Leader m))
was_led w w' n x y e d f = which (cases_eq w (state_word x))
  where
    which : (w ≡ state_word x) ⊎ (w ≡ state_word x → ⊥) → (m : ℕ) × (state_of w ≡ Some (Leader m))
    which (inl u) = not_led w' n y (exchanged w' w (state_word x) (state_word y) e u) d f
    which (inr u) = (n, ap state_of (sym (not_exchanged w' w (state_word x) (state_word y) e u)) ∙ f)

-- One event.

module _ {z : Sizes} {r r' : Run} {s : ℕ} {choice : Choice} {l l' : Local} where
  -- where the row whose state the event changes led before if it leads now, each row did
  led_at : (a : Activity) (x : ℕ) → Happens z r r' s choice l l' a → ((q : ℕ) → q ≢ x → ChangesState a s l q → ⊥) → ((n : ℕ) → state_of (word z r'.world (name.State x)) ≡ Some (Leader n) → Leads (word z r.world) x) →
      (q n : ℕ) → q < r.world.rows → state_of (word z r'.world (name.State q)) ≡ Some (Leader n) → Leads (word z r.world) q
  led_at a x h others here q n o e = which (cases_eq q x)
    where
      which : (q ≡ x) ⊎ (q ≡ x → ⊥) → Leads (word z r.world) q
      which (inl u) = subst (Leads (word z r.world)) (sym u) (here n (subst (λ k. state_of (word z r'.world (name.State k)) ≡ Some (Leader n)) u e))
      which (inr d) = (n, ap state_of (sym (state_stays a h q o (others q d))) ∙ e)

  pub led_before : (a : Activity) → Happens z r r' s choice l l' a → (q n : ℕ) → q < r.world.rows → state_of (word z r'.world (name.State q)) ≡ Some (Leader n) → Leads (word z r.world) q ⊎ EngagesNow (word z r.world) a l q
  led_before (Activity.Rebalance (Rebalance.Engage Engage.Lead)) h q n o e = which (cases_eq q l.row) (cases_eq (word z r.world (name.State l.row)) (state_word Normal))
    where
      which : (q ≡ l.row) ⊎ (q ≡ l.row → ⊥) → (word z r.world (name.State l.row) ≡ state_word Normal) ⊎ (word z r.world (name.State l.row) ≡ state_word Normal → ⊥) →
          Leads (word z r.world) q ⊎ EngagesNow (word z r.world) (Activity.Rebalance (Rebalance.Engage Engage.Lead)) l q
      which (inl u) (inl w) = inr (record { engages = refl; row = u; normal = ap (λ k. word z r.world (name.State k)) u ∙ w })
      which (inl u) (inr d) = inl (n, rw u (ap state_of (sym (not_exchanged _ _ _ _ h.changed.same d))) ∙ e)
      which (inr d) w = inl (n, ap state_of (sym (state_stays (Activity.Rebalance (Rebalance.Engage Engage.Lead)) h q o d)) ∙ e)
  led_before (Activity.Rebalance (Rebalance.Engage (Engage.Decide count))) h q n o e = inl (led_at (Activity.Rebalance (Rebalance.Engage (Engage.Decide count))) l.row h (λ k d c. d c) (λ m f. which m f (cases_eq (word z r.world (name.State l.row)) (state_word (Leader 0)))) q n o e)
    where
      which : (m : ℕ) → state_of (word z r'.world (name.State l.row)) ≡ Some (Leader m) → (word z r.world (name.State l.row) ≡ state_word (Leader 0)) ⊎ (word z r.world (name.State l.row) ≡ state_word (Leader 0) → ⊥) → Leads (word z r.world) l.row
      which m f (inl u) = (0, ap state_of u ∙ state_of-Leader 0 (omega arith))
      which m f (inr d) = (m, ap state_of (sym (not_exchanged _ _ _ _ h.changed.same d)) ∙ f)
  led_before (Activity.Rebalance (Rebalance.Engage (Engage.Normal seat))) h q n o e = inl (led_at (Activity.Rebalance (Rebalance.Engage (Engage.Normal seat))) l.row h (λ k d c. d c) (λ m. was_led _ _ m (Infant seat) Normal h.changed.same (λ f. omega (arith, f))) q n o e)
  led_before (Activity.Rebalance (Rebalance.Claim Claim.Exchange)) h q n o e = inl (led_at (Activity.Rebalance (Rebalance.Claim Claim.Exchange)) (row_after l) h (λ k d c. d c) (λ m. was_led _ _ m Normal (Follower l.row) h.changed.same (λ f. omega (arith, f))) q n o e)
  led_before (Activity.Rebalance (Rebalance.Claim (Claim.Normal seat))) h q n o e = inl (led_at (Activity.Rebalance (Rebalance.Claim (Claim.Normal seat))) (row_after l) h (λ k d c. d c) (λ m. was_led _ _ m (Infant seat) Normal h.changed.same (λ f. omega (arith, f))) q n o e)
  led_before (Activity.Rebalance (Rebalance.Seek Seek.Reclaim)) h q n o e = inl (led_at (Activity.Rebalance (Rebalance.Seek Seek.Reclaim)) l.rebalance.sought h (λ k d c. d c) (λ m. was_led _ _ m (Retired l.rebalance.number) Free h.changed.same (λ f. omega (arith, f))) q n o e)
  led_before (Activity.Rebalance (Rebalance.Seek Seek.Take)) h q n o e = inl (led_at (Activity.Rebalance (Rebalance.Seek Seek.Take)) l.rebalance.sought h (λ k d c. d c) (λ m. was_led _ _ m Free (Infant s) h.changed.same (λ f. omega (arith, f))) q n o e)
  led_before (Activity.Rebalance (Rebalance.Seek Seek.GiveBack)) h q n o e = inl (led_at (Activity.Rebalance (Rebalance.Seek Seek.GiveBack)) (infant l) h (λ k d c. d c) (λ m. not_led _ m Free (given_back h) (λ f. omega (arith, f))) q n o e)
  led_before (Activity.Rebalance (Rebalance.Replace Replace.Normalise)) h q n o e = inl (led_at (Activity.Rebalance (Rebalance.Replace Replace.Normalise)) (infant l) h (λ k d c. d c) (λ m. was_led _ _ m (Infant s) Normal h.changed.same (λ f. omega (arith, f))) q n o e)
  led_before (Activity.Rebalance (Rebalance.Replace Replace.Retire)) h q n o e = inl (led_at (Activity.Rebalance (Rebalance.Replace Replace.Retire)) l.rebalance.hand h (λ k d c. d c) (λ m. not_led _ m (Retired l.rebalance.number) (retired h) (λ f. omega (arith, f))) q n o e)
  led_before a h q n o e = inl (n, ap state_of (sym (state_stays a h q o (λ x. x))) ∙ e)
