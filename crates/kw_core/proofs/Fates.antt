-- What an event leaves of the ledger: which fates change, by which activities, and to what.
use Rattle.std.proofs.Common.{ℕ, ◌≡◌, ◌≢◌, ◌⊎◌, inl, inr, ◌==◌, Bool, true, false, Some, None, List, [], ◌∷◌, refl, ◌∙◌, ap, length, if◌then◌else◌}
use Rattle.std.proofs.lemmas.Bool.{cases_eq}
use Rattle.kw_words.specs.declared.layout.Name.TheVariants as name
use Rattle.kw_words.specs.declared.state.State.TheVariants as state
use Rattle.kw_words.specs.Link.{link_word}
use Rattle.kw_words.specs.State.{state_word}
use Rattle.kw_rows.specs.Events.{IsIn, SameVisits}
use Rattle.kw_rows.specs.Ledger as kw_rows
use Rattle.kw_world.specs.declared.activity.Activity.{Activity}
use Rattle.kw_world.specs.declared.activity.draw.Draw.TheVariants as Draw
use Rattle.kw_world.specs.declared.activity.enter.Enter.TheVariants as Enter
use Rattle.kw_world.specs.declared.activity.rebalance.Rebalance.TheVariants as Rebalance
use Rattle.kw_world.specs.declared.activity.rebalance.replace.Replace.TheVariants as Replace
use Rattle.kw_world.specs.declared.activity.rebalance.seek.Seek.TheVariants as Seek
use Rattle.kw_world.specs.declared.event.Choice.{Choice}
use Rattle.kw_world.specs.declared.local.Local.{Local}
use Rattle.kw_world.specs.ReplaceTransitions.{replaced_link}
use Rattle.kw_world.specs.SeekTransitions.{infant}
use Rattle.kw_world.specs.Sizes.{Sizes}
use Rattle.kw_world.specs.Step.{word}
use Rattle.kw_world.specs.WriteTransitions.{unmarked_link}
use Rattle.kw_core.specs.Ledger.{Ledger, fate_dead, fate_free, fate_live, fate_taken, group_of, is_among, ledger_after, with_fate, with_replaced}
use Rattle.kw_core.specs.Run.{Run}
use Rattle.kw_core.specs.Words.{Words}
use Rattle.kw_core.proofs.Frame.{WritesPass}
use Rattle.kw_core.proofs.Happens.{Happens, chosen, found_at, not_chosen}

-- a row is among those of a list where it is in it, and else not
is_in : (xs : List ℕ) (q : ℕ) → IsIn xs q → is_among xs q ≡ true
is_in [] q i = absurd i
is_in (x ∷ xs) q (inl e) = chosen q x true (is_among xs q) e
is_in (x ∷ xs) q (inr i) = which (cases_eq q x) (is_in xs q i)
  where
    which : (q ≡ x) ⊎ (q ≡ x → ⊥) → is_among xs q ≡ true → is_among (x ∷ xs) q ≡ true
    which (inl e) y = chosen q x true (is_among xs q) e
    which (inr d) y = not_chosen q x true (is_among xs q) d ∙ y

is_out : (xs : List ℕ) (q : ℕ) → (IsIn xs q → ⊥) → is_among xs q ≡ false
is_out [] q n = refl
is_out (x ∷ xs) q n = not_chosen q x true (is_among xs q) (λ e. n (inl e)) ∙ is_out xs q (λ i. n (inr i))

-- the event may change the fate of row q
abbrev pub ChangesFate : Activity → Local → ℕ → Type 0
ChangesFate (Activity.Rebalance (Rebalance.Seek Seek.Reclaim)) l q = q ≡ l.rebalance.sought
ChangesFate (Activity.Rebalance (Rebalance.Seek Seek.Take)) l q = q ≡ l.rebalance.sought
ChangesFate (Activity.Rebalance (Rebalance.Seek Seek.GiveBack)) l q = q ≡ infant l
ChangesFate (Activity.Rebalance (Rebalance.Replace Replace.Exchange)) l q = IsIn (group_of l) q ⊎ IsIn l.rebalance.taken q
ChangesFate _ l q = ⊥

-- it draws a number
abbrev pub DrawsNumber : Activity → Type 0
DrawsNumber (Activity.Rebalance (Rebalance.Replace Replace.Number)) = Unit {0}
DrawsNumber _ = ⊥

-- a choice between two ledgers, of which each has the same of something, has it too
either : {A : Type 0} (x y : ℕ) (f : Ledger → A) (p q : Ledger) (a : A) → f p ≡ a → f q ≡ a → f (if x == y then p else q) ≡ a
either x y f p q a e d = which (cases_eq x y)
  where
    which : (x ≡ y) ⊎ (x ≡ y → ⊥) → f (if x == y then p else q) ≡ a
    which (inl k) = ap f (chosen x y p q k) ∙ e
    which (inr k) = ap f (not_chosen x y p q k) ∙ d

-- the fate of a row, by whether it is one of the group, and of those that the seat took
replaced_as : (v : Words) (s now : ℕ) (l : Local) (g : kw_rows.Ledger) (q : ℕ) (b c : Bool) → is_among (group_of l) q ≡ b → is_among l.rebalance.taken q ≡ c →
    (with_replaced v s now l g).fates q ≡ (let x : kw_rows.Fate = if b then fate_dead s now (g.fates q) else if c then fate_live v now q (g.fates q) else g.fates q in x)
replaced_as v s now l g q b c e f = rw (e, f) refl

-- a row that is neither one of the group nor one of those that the seat took keeps its fate
replaced_fate : (v : Words) (s now : ℕ) (l : Local) (g : kw_rows.Ledger) (q : ℕ) → (IsIn (group_of l) q → ⊥) → (IsIn l.rebalance.taken q → ⊥) → (with_replaced v s now l g).fates q ≡ g.fates q
replaced_fate v s now l g q d n = replaced_as v s now l g q false false (is_out (group_of l) q d) (is_out l.rebalance.taken q n)

module _ {z : Sizes} {r r' : Run} {s : ℕ} {choice : Choice} {l l' : Local} where
  -- What stays.

  -- the fate of a row stays, unless the row is freed, taken, given back, linked or unlinked
  pub fate_stays : (a : Activity) → Happens z r r' s choice l l' a → (q : ℕ) → (ChangesFate a l q → ⊥) → r'.ledger.rows.fates q ≡ r.ledger.rows.fates q
  fate_stays a h q n = ap (λ (g : Ledger). g.rows.fates q) h.ledger ∙ same a n
    where
      same : (c : Activity) → (ChangesFate c l q → ⊥) → (ledger_after z c s l (found_at z (word z r.world) c s choice l) (word z r.world) (length r.history.log) r.ledger).rows.fates q ≡ r.ledger.rows.fates q
      same (Activity.Enter Enter.Announce) f = refl
      same (Activity.Draw Draw.Wait) f = refl
      same (Activity.Leave answer) f = refl
      same Activity.Retry f = refl
      same (Activity.Rebalance (Rebalance.Seek Seek.Reclaim)) f = either (word z r.world (name.State l.rebalance.sought)) (state_word (state.Retired l.rebalance.number)) (λ (g : Ledger). g.rows.fates q) (record r.ledger { rows = with_fate r.ledger.rows l.rebalance.sought (fate_free (r.ledger.rows.fates l.rebalance.sought)) }) r.ledger (r.ledger.rows.fates q) (not_chosen q l.rebalance.sought (fate_free (r.ledger.rows.fates l.rebalance.sought)) (r.ledger.rows.fates q) f) refl
      same (Activity.Rebalance (Rebalance.Seek Seek.Take)) f = either (word z r.world (name.State l.rebalance.sought)) (state_word state.Free) (λ (g : Ledger). g.rows.fates q) (record r.ledger { rows = with_fate r.ledger.rows l.rebalance.sought (fate_taken s (length r.history.log) (r.ledger.rows.fates l.rebalance.sought)) }) r.ledger (r.ledger.rows.fates q) (not_chosen q l.rebalance.sought (fate_taken s (length r.history.log) (r.ledger.rows.fates l.rebalance.sought)) (r.ledger.rows.fates q) f) refl
      same (Activity.Rebalance (Rebalance.Seek Seek.GiveBack)) f = not_chosen q (infant l) (fate_free (r.ledger.rows.fates (infant l))) (r.ledger.rows.fates q) f
      same (Activity.Rebalance (Rebalance.Replace Replace.Exchange)) f = either (word z r.world (replaced_link l.rebalance.before)) (link_word (unmarked_link (Some l.row))) (λ (g : Ledger). g.rows.fates q) (record r.ledger { rows = with_replaced (word z r.world) s (length r.history.log) l r.ledger.rows }) r.ledger (r.ledger.rows.fates q) (replaced_fate (word z r.world) s (length r.history.log) l r.ledger.rows q (λ e. f (inl e)) (λ i. f (inr i))) refl
      same (Activity.Rebalance (Rebalance.Replace Replace.Number)) f = refl
      same c f = refl

  -- a number stays drawn where it was, or undrawn, unless one is drawn
  pub numbers_stay : (a : Activity) → Happens z r r' s choice l l' a → (DrawsNumber a → ⊥) → (m : ℕ) → r'.ledger.rows.numbered m ≡ r.ledger.rows.numbered m
  numbers_stay a h n m = ap (λ (g : Ledger). g.rows.numbered m) h.ledger ∙ same a n
    where
      same : (c : Activity) → (DrawsNumber c → ⊥) → (ledger_after z c s l (found_at z (word z r.world) c s choice l) (word z r.world) (length r.history.log) r.ledger).rows.numbered m ≡ r.ledger.rows.numbered m
      same (Activity.Enter Enter.Announce) f = refl
      same (Activity.Draw Draw.Wait) f = refl
      same (Activity.Leave answer) f = refl
      same Activity.Retry f = refl
      same (Activity.Rebalance (Rebalance.Seek Seek.Reclaim)) f = either (word z r.world (name.State l.rebalance.sought)) (state_word (state.Retired l.rebalance.number)) (λ (g : Ledger). g.rows.numbered m) (record r.ledger { rows = with_fate r.ledger.rows l.rebalance.sought (fate_free (r.ledger.rows.fates l.rebalance.sought)) }) r.ledger (r.ledger.rows.numbered m) refl refl
      same (Activity.Rebalance (Rebalance.Seek Seek.Take)) f = either (word z r.world (name.State l.rebalance.sought)) (state_word state.Free) (λ (g : Ledger). g.rows.numbered m) (record r.ledger { rows = with_fate r.ledger.rows l.rebalance.sought (fate_taken s (length r.history.log) (r.ledger.rows.fates l.rebalance.sought)) }) r.ledger (r.ledger.rows.numbered m) refl refl
      same (Activity.Rebalance (Rebalance.Seek Seek.GiveBack)) f = refl
      same (Activity.Rebalance (Rebalance.Replace Replace.Exchange)) f = either (word z r.world (replaced_link l.rebalance.before)) (link_word (unmarked_link (Some l.row))) (λ (g : Ledger). g.rows.numbered m) (record r.ledger { rows = with_replaced (word z r.world) s (length r.history.log) l r.ledger.rows }) r.ledger (r.ledger.rows.numbered m) refl refl
      same (Activity.Rebalance (Rebalance.Replace Replace.Number)) f = absurd (f tt)
      same c f = refl

  -- the visit of another seat stays, and each one unless the seat enters, leaves or tries again
  pub others_stay : (a : Activity) → Happens z r r' s choice l l' a → (t : ℕ) → (WritesPass a → t ≡ s → ⊥) → r'.ledger.rows.visits t ≡ r.ledger.rows.visits t
  others_stay a h t n = ap (λ (g : Ledger). g.rows.visits t) h.ledger ∙ same a n
    where
      same : (c : Activity) → (WritesPass c → t ≡ s → ⊥) → (ledger_after z c s l (found_at z (word z r.world) c s choice l) (word z r.world) (length r.history.log) r.ledger).rows.visits t ≡ r.ledger.rows.visits t
      same (Activity.Enter Enter.Announce) f = not_chosen t s (Some (length r.history.log)) (r.ledger.rows.visits t) (f tt)
      same (Activity.Draw Draw.Wait) f = refl
      same (Activity.Leave answer) f = not_chosen t s None (r.ledger.rows.visits t) (f tt)
      same Activity.Retry f = not_chosen t s None (r.ledger.rows.visits t) (f tt)
      same (Activity.Rebalance (Rebalance.Seek Seek.Reclaim)) f = either (word z r.world (name.State l.rebalance.sought)) (state_word (state.Retired l.rebalance.number)) (λ (g : Ledger). g.rows.visits t) (record r.ledger { rows = with_fate r.ledger.rows l.rebalance.sought (fate_free (r.ledger.rows.fates l.rebalance.sought)) }) r.ledger (r.ledger.rows.visits t) refl refl
      same (Activity.Rebalance (Rebalance.Seek Seek.Take)) f = either (word z r.world (name.State l.rebalance.sought)) (state_word state.Free) (λ (g : Ledger). g.rows.visits t) (record r.ledger { rows = with_fate r.ledger.rows l.rebalance.sought (fate_taken s (length r.history.log) (r.ledger.rows.fates l.rebalance.sought)) }) r.ledger (r.ledger.rows.visits t) refl refl
      same (Activity.Rebalance (Rebalance.Seek Seek.GiveBack)) f = refl
      same (Activity.Rebalance (Rebalance.Replace Replace.Exchange)) f = either (word z r.world (replaced_link l.rebalance.before)) (link_word (unmarked_link (Some l.row))) (λ (g : Ledger). g.rows.visits t) (record r.ledger { rows = with_replaced (word z r.world) s (length r.history.log) l r.ledger.rows }) r.ledger (r.ledger.rows.visits t) refl refl
      same (Activity.Rebalance (Rebalance.Replace Replace.Number)) f = refl
      same c f = refl

  pub visits_stay : (a : Activity) → Happens z r r' s choice l l' a → (WritesPass a → ⊥) → (DrawsNumber a → ⊥) → SameVisits r.ledger.rows r'.ledger.rows
  visits_stay a h p n = record { visits = λ t. others_stay a h t (λ x e. p x); numbered = numbers_stay a h n }

  -- What changes.

  -- a row that was free is the seat's, from one event past this position on
  pub fate_of_taken : Happens z r r' s choice l l' (Activity.Rebalance (Rebalance.Seek Seek.Take)) → word z r.world (name.State l.rebalance.sought) ≡ state_word state.Free → r'.ledger.rows.fates l.rebalance.sought ≡ fate_taken s (length r.history.log) (r.ledger.rows.fates l.rebalance.sought)
  fate_of_taken h e = ap (λ (g : Ledger). g.rows.fates l.rebalance.sought) (h.ledger ∙ chosen _ _ _ r.ledger e) ∙ chosen l.rebalance.sought l.rebalance.sought _ (r.ledger.rows.fates l.rebalance.sought) refl

  -- where it was not, nothing comes of it
  pub none_taken : Happens z r r' s choice l l' (Activity.Rebalance (Rebalance.Seek Seek.Take)) → word z r.world (name.State l.rebalance.sought) ≢ state_word state.Free → r'.ledger ≡ r.ledger
  none_taken h d = h.ledger ∙ not_chosen _ _ _ r.ledger d

  -- a row that was retired with the number that the seat knows is free, and all else that is
  -- recorded of it stays
  pub fate_of_freed : Happens z r r' s choice l l' (Activity.Rebalance (Rebalance.Seek Seek.Reclaim)) → word z r.world (name.State l.rebalance.sought) ≡ state_word (state.Retired l.rebalance.number) → r'.ledger.rows.fates l.rebalance.sought ≡ fate_free (r.ledger.rows.fates l.rebalance.sought)
  fate_of_freed h e = ap (λ (g : Ledger). g.rows.fates l.rebalance.sought) (h.ledger ∙ chosen _ _ _ r.ledger e) ∙ chosen l.rebalance.sought l.rebalance.sought _ (r.ledger.rows.fates l.rebalance.sought) refl

  -- where it was not, nothing comes of it
  pub none_freed : Happens z r r' s choice l l' (Activity.Rebalance (Rebalance.Seek Seek.Reclaim)) → word z r.world (name.State l.rebalance.sought) ≢ state_word (state.Retired l.rebalance.number) → r'.ledger ≡ r.ledger
  none_freed h d = h.ledger ∙ not_chosen _ _ _ r.ledger d

  -- a row that is given back is free
  pub fate_of_given : Happens z r r' s choice l l' (Activity.Rebalance (Rebalance.Seek Seek.GiveBack)) → r'.ledger.rows.fates (infant l) ≡ fate_free (r.ledger.rows.fates (infant l))
  fate_of_given h = ap (λ (g : Ledger). g.rows.fates (infant l)) h.ledger ∙ chosen (infant l) (infant l) _ (r.ledger.rows.fates (infant l)) refl

  -- where the seat finds the unmarked link to its full row, each row of the group is dead
  pub fate_of_full : Happens z r r' s choice l l' (Activity.Rebalance (Rebalance.Replace Replace.Exchange)) → word z r.world (replaced_link l.rebalance.before) ≡ link_word (unmarked_link (Some l.row)) → (q : ℕ) → IsIn (group_of l) q → r'.ledger.rows.fates q ≡ fate_dead s (length r.history.log) (r.ledger.rows.fates q)
  fate_of_full h e q i = ap (λ (g : Ledger). g.rows.fates q) (h.ledger ∙ chosen _ _ _ r.ledger e) ∙ replaced_as (word z r.world) s (length r.history.log) l r.ledger.rows q true (is_among l.rebalance.taken q) (is_in (group_of l) q i) refl

  -- and each row that it took is live
  pub fate_of_new : Happens z r r' s choice l l' (Activity.Rebalance (Rebalance.Replace Replace.Exchange)) → word z r.world (replaced_link l.rebalance.before) ≡ link_word (unmarked_link (Some l.row)) → (q : ℕ) → IsIn l.rebalance.taken q → (IsIn (group_of l) q → ⊥) →
      r'.ledger.rows.fates q ≡ fate_live (word z r.world) (length r.history.log) q (r.ledger.rows.fates q)
  fate_of_new h e q i d = ap (λ (g : Ledger). g.rows.fates q) (h.ledger ∙ chosen _ _ _ r.ledger e) ∙ replaced_as (word z r.world) s (length r.history.log) l r.ledger.rows q false true (is_out (group_of l) q d) (is_in l.rebalance.taken q i)

  -- where it does not, nothing comes of it
  pub none_replaced : Happens z r r' s choice l l' (Activity.Rebalance (Rebalance.Replace Replace.Exchange)) → word z r.world (replaced_link l.rebalance.before) ≢ link_word (unmarked_link (Some l.row)) → r'.ledger ≡ r.ledger
  none_replaced h d = h.ledger ∙ not_chosen _ _ _ r.ledger d

  -- the number that is drawn is the epoch that was found
  pub number_of_drawn : Happens z r r' s choice l l' (Activity.Rebalance (Rebalance.Replace Replace.Number)) → r'.ledger.rows.numbered (word z r.world name.Epoch) ≡ Some (length r.history.log)
  number_of_drawn h = ap (λ (g : Ledger). g.rows.numbered (word z r.world name.Epoch)) h.ledger ∙ chosen (word z r.world name.Epoch) (word z r.world name.Epoch) _ (r.ledger.rows.numbered (word z r.world name.Epoch)) refl

  pub other_numbers : Happens z r r' s choice l l' (Activity.Rebalance (Rebalance.Replace Replace.Number)) → (m : ℕ) → m ≢ word z r.world name.Epoch → r'.ledger.rows.numbered m ≡ r.ledger.rows.numbered m
  other_numbers h m d = ap (λ (g : Ledger). g.rows.numbered m) h.ledger ∙ not_chosen m (word z r.world name.Epoch) _ (r.ledger.rows.numbered m) d
