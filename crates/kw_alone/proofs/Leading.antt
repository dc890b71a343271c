-- Which rows lead after an event of rows, or are engaged by nobody: such a row did or was so
-- before, but one that was normal may lead.
use Rattle.std.proofs.Common.{ℕ, ◌≡◌, ◌⊎◌, inl, inr, true, ◌∙◌, sym, ap, subst}
use Rattle.std.proofs.lemmas.Bool.{cases_eq}
use Rattle.kw_rows.specs.Events.{Event, SetsState, takes, gives_back, fills, reclaims, engages, marks, decides, engages_next, normalises, freezes, numbers, retires, begins, ends, rests, replaces}
use Rattle.kw_rows.specs.Ledger.{Ledger, IsLive}
use Rattle.kw_rows.specs.Ledger as fate
use Rattle.kw_rows.specs.RowState as row
use Rattle.kw_rows.specs.Rows.{Rows}
use Rattle.kw_alone.specs.Wins.{is_leading, is_unled}

-- a row of the list has no other status
not_free : {A : Type 0} (g : Ledger) (x y : ℕ) → IsLive g x → (g.fates y).status ≡ fate.Free → x ≡ y → A
not_free g x y a f e = let k : fate.Live ≡ fate.Free = sym a ∙ ap (λ n. (g.fates n).status) e ∙ f in absurd (cc)

not_infant : {A : Type 0} (g : Ledger) (x y : ℕ) → IsLive g x → (g.fates y).status ≡ fate.Infant → x ≡ y → A
not_infant g x y a f e = let k : fate.Live ≡ fate.Infant = sym a ∙ ap (λ n. (g.fates n).status) e ∙ f in absurd (cc)

not_dead : {A : Type 0} (g : Ledger) (x y : ℕ) → IsLive g x → (g.fates y).status ≡ fate.Dead → x ≡ y → A
not_dead g x y a f e = let k : fate.Live ≡ fate.Dead = sym a ∙ ap (λ n. (g.fates n).status) e ∙ f in absurd (cc)

module _ (w w' : Rows) (g g' : Ledger) (now : ℕ) where
  -- the row is the one whose state is written, or its state stays
  at_state : (x y : ℕ) (s : row.State) (P : row.State → row.State → Type 0) → SetsState w w' y s → (x ≡ y → P (w.state x) s) → P (w.state x) (w.state x) → P (w.state x) (w'.state x)
  at_state x y s P t here there = which (cases_eq x y)
    where
      which : (x ≡ y) ⊎ (x ≡ y → ⊥) → P (w.state x) (w'.state x)
      which (inl e) = subst (P (w.state x)) (sym (ap w'.state e ∙ t.state)) (here e)
      which (inr d) = subst (P (w.state x)) (sym (t.others x d)) there

  -- of a row of the list
  module _ (x : ℕ) (live : IsLive g x) where
    state_by : (P : row.State → row.State → Type 0) → Event w w' g g' now → P (w.state x) (w.state x) → (w.state x ≡ row.Normal → P (w.state x) (row.Leader 0)) → ((n : ℕ) → w.state x ≡ row.Leader 0 → P (w.state x) (row.Leader n)) → ((r : ℕ) → w.state x ≡ row.Normal → P (w.state x) (row.Follower r)) → ((s : ℕ) → w.state x ≡ row.Infant s → P (w.state x) row.Normal) → P (w.state x) (w'.state x)
    state_by P (takes y s t) same engaged decided followed normal = at_state x y (row.Infant s) P t.turns.sets (λ e. not_free g x y live t.free e) same
    state_by P (gives_back y t) same engaged decided followed normal = at_state x y row.Free P t.turns.sets (λ e. not_infant g x y live t.infant e) same
    state_by P (fills y t) same engaged decided followed normal = subst (P (w.state x)) (sym (t.states x)) same
    state_by P (reclaims y m t) same engaged decided followed normal = at_state x y row.Free P t.turns.sets (λ e. not_dead g x y live t.dead e) same
    state_by P (engages y t) same engaged decided followed normal = at_state x y (row.Leader 0) P t.sets (λ e. engaged (ap w.state e ∙ t.normal)) same
    state_by P (marks y t) same engaged decided followed normal = subst (P (w.state x)) (sym (t.states x)) same
    state_by P (decides r n t) same engaged decided followed normal = at_state x r (row.Leader n) P t.sets (λ e. decided n (ap w.state e ∙ t.undecided)) same
    state_by P (engages_next r c t) same engaged decided followed normal = at_state x c (row.Follower r) P t.sets (λ e. followed r (ap w.state e ∙ t.normal)) same
    state_by P (normalises y s t) same engaged decided followed normal = at_state x y row.Normal P t.sets (λ e. normal s (ap w.state e ∙ t.infant)) same
    state_by P (freezes y t) same engaged decided followed normal = subst (P (w.state x)) (sym (t.states x)) same
    state_by P (numbers m t) same engaged decided followed normal = subst (P (w.state x)) (sym (t.states x)) same
    state_by P (retires y m t) same engaged decided followed normal = at_state x y (row.Retired m) P t.sets (λ e. not_dead g x y live t.dead e) same
    state_by P (begins t k) same engaged decided followed normal = subst (P (w.state x)) (sym (k.states x)) same
    state_by P (ends t k) same engaged decided followed normal = subst (P (w.state x)) (sym (k.states x)) same
    state_by P (rests t) same engaged decided followed normal = subst (P (w.state x)) (sym (t.states x)) same
    state_by P (replaces p r c after n more t) same engaged decided followed normal = subst (P (w.state x)) (sym (t.states x)) same

    -- nobody had engaged one that nobody has engaged
    pub unled_was : Event w w' g g' now → is_unled (w'.state x) ≡ true → is_unled (w.state x) ≡ true
    unled_was e = state_by (λ s s'. is_unled s' ≡ true → is_unled s ≡ true) e (λ u. u) (λ k u. ap is_unled k) (λ n k u. absurd (cc)) (λ r k u. ap is_unled k) (λ s k u. ap is_unled k)

    -- one that leads did so, or was normal
    pub leading_was : Event w w' g g' now → is_leading (w'.state x) ≡ true → (is_leading (w.state x) ≡ true) ⊎ (w.state x ≡ row.Normal)
    leading_was e = state_by (λ s s'. is_leading s' ≡ true → (is_leading s ≡ true) ⊎ (s ≡ row.Normal)) e (λ u. inl u) (λ k u. inr k) (λ n k u. inl (ap is_leading k)) (λ r k u. absurd (cc)) (λ s k u. absurd (cc))
