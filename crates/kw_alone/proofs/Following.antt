-- The leader that a follower's state names leads two rows, or is retired: so it follows no row
-- itself. This holds of every row that some seat may name, also of one that is in the list no more.
use Rattle.std.proofs.Common.{ℕ, zero, suc, ◌≡◌, ◌≢◌, ◌⊎◌, inl, inr, ◌<◌, Option, Some, None, List, ◌∷◌, arith, refl, sym, ◌∙◌, ap, subst}
use Rattle.std.proofs.lemmas.Bool.{cases_eq}
use Rattle.kw_rows.specs.Events.{Event, SetsState, SameStates, Reclaims, Replaces, IsIn, IsOpenLink, Holds, rest_of, takes, gives_back, fills, reclaims, engages, marks, decides, engages_next, normalises, freezes, numbers, retires, begins, ends, rests, replaces}
use Rattle.kw_rows.specs.Ledger.{Ledger, Fate, Free, Live, Dead, IsHeld, IsLive}
use Rattle.kw_rows.specs.Rows.{Rows, leads}
use Rattle.kw_rows.specs.RowState as row
use Rattle.kw_rows.specs.RowState.{State, Normal, Leader, Follower, Retired, IsTwo}
use Rattle.kw_rows.specs.States.{HasLeader, HasState, IsLiveState}
use Rattle.kw_rows.specs.Structure.{Structure}
use Rattle.kw_rows.proofs.Framed.{begun, ended, filled, given_back, links_still, numbered, reclaimed, retired_no, still, taken}
use Rattle.kw_rows.proofs.Frames.{was}
use Rattle.kw_rows.proofs.Lists.{in_or_not}
use Rattle.kw_rows.proofs.Statuses.{not_dead}
use Rattle.kw_world.specs.declared.opening.Opening.{Opening}
use Rattle.kw_core.specs.Ledger.{ledger_at_first}
use Rattle.kw_alone.specs.Known.{HaveLeaders}

-- States.

-- who follows one row follows no other
same_leader : (m n : ℕ) → Follower m ≡ Follower n → m ≡ n
same_leader m n e = cc

module _ (w w' : Rows) (g g' : Ledger) (now : ℕ) (s : Structure w g now) (k : HaveLeaders w g) where
  -- no state changes, and no more rows are held
  same : SameStates w w' → ((x : ℕ) → IsHeld g' x → IsHeld g x) → HaveLeaders w' g'
  same e held x p h f = subst IsTwo (sym (e p)) (k x p (held x h) (sym (e x) ∙ f))

  -- one state does: a row that led two still does, or is retired, and one that follows now has such
  -- a leader
  set : (x : ℕ) (t : State) → SetsState w w' x t → ((y : ℕ) → IsHeld g' y → IsHeld g y) → ((p : ℕ) → t ≡ Follower p → IsTwo (w'.state p)) → (IsTwo (w.state x) → IsTwo t) → HaveLeaders w' g'
  set x t e held own lead y p h f = which (cases_eq y x)
    where
      led : (p ≡ x) ⊎ (p ≡ x → ⊥) → IsTwo (w.state p) → IsTwo (w'.state p)
      led (inl q) u = subst IsTwo (sym (ap w'.state q ∙ e.state)) (lead (subst (λ n. IsTwo (w.state n)) q u))
      led (inr d) u = subst IsTwo (sym (e.others p d)) u

      which : (y ≡ x) ⊎ (y ≡ x → ⊥) → IsTwo (w'.state p)
      which (inl q) = own p (sym e.state ∙ ap w'.state (sym q) ∙ f)
      which (inr d) = led (cases_eq p x) (k y p (held y h) (sym (e.others y d) ∙ f))

  -- a row that is free again is named by no follower that is held: that one went with it
  freed : (x m : ℕ) → Reclaims w w' g g' x m → HaveLeaders w' g'
  freed x m e y p h f = which (cases_eq y x)
    where
      held : IsHeld g y
      held = was w w' g g' (reclaimed w w' g g' x m s.states e) y h

      none : IsHeld g x → ⊥
      none = retired_no w g x m s.states e.dead e.retired e.young

      unnamed : IsHeld g y → w.state y ≡ Follower x → ⊥
      unnamed (inl a) b = not_dead (g.fates x).status (subst (IsLiveState w g y) b (subst (HasState w g y) a (s.states y))).live e.dead
      unnamed (inr d) b =
          let went = (s.pairs y).together x (inr d) d.1.dead b in
          none (inr (d.0, record { since = d.1.since; dead = e.dead; visits = d.1.visits; before = omega (arith, d.1.before, went.1) }))

      led : w.state y ≡ Follower p → (p ≡ x) ⊎ (p ≡ x → ⊥) → IsTwo (w'.state p)
      led b (inl q) = absurd (unnamed held (b ∙ ap Follower q))
      led b (inr d) = subst IsTwo (sym (e.turns.sets.others p d)) (k y p held b)

      which : (y ≡ x) ⊎ (y ≡ x → ⊥) → IsTwo (w'.state p)
      which (inl q) = let c : row.Free ≡ Follower p = sym e.turns.sets.state ∙ ap w'.state (sym q) ∙ f in absurd (cc)
      which (inr d) = led (sym (e.turns.sets.others y d) ∙ f) (cases_eq p x)

  -- the rows of a group that is replaced were held, and new ones follow nobody
  won : (b : Option ℕ) (r : ℕ) (c after : Option ℕ) (n : ℕ) (more : List ℕ) → Replaces w w' g g' now b r c after n more → HaveLeaders w' g'
  won b r c after n more e x p h f = which (in_or_not (r ∷ rest_of c) x) (in_or_not (n ∷ more) x)
    where
      first : (o : Option ℕ) → IsOpenLink w g o → leads w o ≡ Some r → IsHeld g r
      first None l u = inl (subst (IsLive g) (same_row s.chain.first r (sym s.chain.leads ∙ u)) s.chain.first_live)
        where
          same_row : (i j : ℕ) → Some i ≡ Some j → i ≡ j
          same_row i j q = cc
      first (Some q) l u = s.closed.linked q r l.0 u

      second : (d : Option ℕ) → Holds w g r d after → IsIn (r ∷ rest_of d) x → IsHeld g x
      second d o (inl q) = subst (IsHeld g) (sym q) (first b e.link e.found)
      second (Some d) o (inr (inl q)) = subst (IsHeld g) (sym q) (s.closed.linked r d (first b e.link e.found) o.0.next)
      second None o (inr i) = absurd i
      second (Some d) o (inr (inr i)) = absurd i

      held : IsHeld g x → IsTwo (w'.state p)
      held d = subst IsTwo (sym (e.states p)) (k x p d (sym (e.states x) ∙ f))

      stayed : g'.fates x ≡ g.fates x → IsHeld g' x → IsHeld g x
      stayed q (inl a) = inl (ap (λ (t : Fate). t.status) (sym q) ∙ a)
      stayed q (inr d) = inr (d.0, record { since = d.1.since; dead = ap (λ (t : Fate). t.status) (sym q) ∙ d.1.dead; visits = sym (e.visits.visits d.0) ∙ d.1.visits; before = subst (λ (t : Fate). d.1.since < t.gone) q d.1.before })

      which : IsIn (r ∷ rest_of c) x ⊎ (IsIn (r ∷ rest_of c) x → ⊥) → IsIn (n ∷ more) x ⊎ (IsIn (n ∷ more) x → ⊥) → IsTwo (w'.state p)
      which (inl i) j = held (second c e.holds i)
      which (inr d) (inl j) = let q : row.Infant (g.fates x).owner ≡ Follower p = sym (subst (HasState w g x) (e.infants x j) (s.states x)) ∙ sym (e.states x) ∙ f in absurd (cc)
      which (inr d) (inr j) = held (stayed (e.fates x d j) h)

  -- the row after a leader of two follows it
  follows : (r c : ℕ) → SetsState w w' c (Follower r) → IsTwo (w.state r) → w.state c ≡ Normal → (p : ℕ) → Follower r ≡ Follower p → IsTwo (w'.state p)
  follows r c e two normal p q = subst (λ n. IsTwo (w'.state n)) (same_leader r p q) (subst IsTwo (sym (e.others r apart)) two)
    where
      apart : r ≢ c
      apart d = subst IsTwo (ap w.state d ∙ normal) two

  -- each event keeps it
  pub leaders_keep : Event w w' g g' now → HaveLeaders w' g'
  leaders_keep (takes x t e) = set x _ e.turns.sets (was w w' g g' (taken w w' g g' x t e)) (λ p q. absurd (cc)) (λ u. subst IsTwo (subst (HasState w g x) e.free (s.states x)) u)
  leaders_keep (gives_back x e) = set x _ e.turns.sets (was w w' g g' (given_back w w' g g' x e)) (λ p q. absurd (cc)) (λ u. absurd (subst IsTwo (subst (HasState w g x) e.infant (s.states x)) u))
  leaders_keep (fills x e) = same e.states (was w w' g g' (filled w w' g g' x e))
  leaders_keep (reclaims x m e) = freed x m e
  leaders_keep (engages x e) = set x _ e.sets (was w w' g g' (links_still w w' g g' e.sets.links e.ledger)) (λ p q. absurd (cc)) (λ u. absurd (subst IsTwo e.normal u))
  leaders_keep (marks x e) = same e.states (was w w' g g' (still w w' g g' e.head e.next e.least e.ledger))
  leaders_keep (decides r n e) = set r _ e.sets (was w w' g g' (links_still w w' g g' e.sets.links e.ledger)) (λ p q. absurd (cc)) (λ u. let t : 0 ≡ 2 = subst IsTwo e.undecided u in absurd (omega (arith, t)))
  leaders_keep (engages_next r c e) = set c _ e.sets (was w w' g g' (links_still w w' g g' e.sets.links e.ledger)) (follows r c e.sets e.claims.1 e.normal) (λ u. absurd (subst IsTwo e.normal u))
  leaders_keep (normalises x t e) = set x _ e.sets (was w w' g g' (links_still w w' g g' e.sets.links e.ledger)) (λ p q. absurd (cc)) (λ u. absurd (subst IsTwo e.infant u))
  leaders_keep (freezes x e) = same e.states (was w w' g g' (still w w' g g' e.head e.next e.least e.ledger))
  leaders_keep (numbers m e) = same e.states (was w w' g g' (numbered w w' g g' now m e))
  leaders_keep (retires x m e) = set x _ e.sets (was w w' g g' (links_still w w' g g' e.sets.links e.ledger)) (λ p q. absurd (cc)) (λ u. tt)
  leaders_keep (begins t e) = same e.states (was w w' g g' (begun w w' g g' t now s.past e))
  leaders_keep (ends t e) = same e.states (was w w' g g' (ended w w' g g' t e))
  leaders_keep (rests e) = same e.states (was w w' g g' (links_still w w' g g' e.links e.ledger))
  leaders_keep (replaces b r c after n more e) = won b r c after n more e

-- Where nothing happened only the first row is held, and it follows nobody.

module _ (o : Opening) where
  only_first : (x : ℕ) → IsHeld (ledger_at_first o).rows x → x ≡ 0
  only_first zero h = refl
  only_first (suc x) (inl a) = let q : Free ≡ Live = a in absurd (cc)
  only_first (suc x) (inr d) = let q : Free ≡ Dead = d.1.dead in absurd (cc)

  live_first : (x : ℕ) → IsHeld (ledger_at_first o).rows x → IsLive (ledger_at_first o).rows x
  live_first zero h = refl
  live_first (suc x) h = absurd (omega (arith, only_first (suc x) h))

  pub no_leaders : (w : Rows) (now : ℕ) → Structure w (ledger_at_first o).rows now → HaveLeaders w (ledger_at_first o).rows
  no_leaders w now s x p h f =
      let g = (ledger_at_first o).rows in
      let leader : HasLeader w g x p = subst (IsLiveState w g x) f (subst (HasState w g x) (live_first x h) (s.states x)) in
      let up : w.least p < w.least x = s.chain.rises p x leader.live leader.link.next in
      absurd (omega (arith, up, ap w.least (only_first x h), ap w.least (only_first p (inl leader.live))))
