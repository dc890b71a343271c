-- Where no row is replaced the rows are as the laws of windows want them: none comes into the list
-- or goes from it, those of it keep their least keys, and whichever leads leads on.
use Rattle.std.proofs.Common.{ℕ, ◌≡◌, ◌⊎◌, inl, inr, ◌&&◌, Bool, true, false, refl, sym, ◌∙◌, ap, subst, length}
use Rattle.std.proofs.lemmas.Bool.{and_parts, cases_eq}
use Rattle.kw_rows.specs.Events.{Event, SetsState, begins, decides, ends, engages, engages_next, fills, freezes, gives_back, marks, normalises, numbers, reclaims, replaces, rests, retires, takes}
use Rattle.kw_rows.specs.Ledger.{Fate, IsLive, Ledger, Status}
use Rattle.kw_rows.specs.Ledger as fate
use Rattle.kw_rows.specs.Rows.{Rows, WasLinked}
use Rattle.kw_rows.specs.RowState as row
use Rattle.kw_rows.specs.RowState.{IsLeader, State}
use Rattle.kw_world.specs.declared.activity.Activity.{Activity}
use Rattle.kw_world.specs.declared.event.Choice.{Choice}
use Rattle.kw_world.specs.declared.local.Local.{Local}
use Rattle.kw_world.specs.Sizes.{Sizes}
use Rattle.kw_world.specs.Step.{word}
use Rattle.kw_core.specs.Run.{Run}
use Rattle.kw_core.specs.Words.{least_in}
use Rattle.kw_core.proofs.Happens.{Happens}
use Rattle.kw_shape.specs.RowsIn.{rows_in}
use Rattle.kw_shape.proofs.LinkedRows.{ComesNow, linked_before, linked_keeps}
use Rattle.kw_shape.proofs.RowsKeep.{row_event}
use Rattle.kw_reads.specs.Inv.{Inv, lower}
use Rattle.kw_reads.proofs.KeptKeeps.{live_was}
use Rattle.kw_counts.specs.Counts.{is_live}
use Rattle.kw_counts.specs.Leaders.{is_leader, is_leading}

-- Tests.

-- a row of the list passes the test for one
pub live_true : (s : Status) → is_live s ≡ true → s ≡ fate.Live
live_true fate.Free e = let x : false ≡ true = e in absurd (cc)
live_true fate.Infant e = let x : false ≡ true = e in absurd (cc)
live_true fate.Live e = refl
live_true fate.Dead e = let x : false ≡ true = e in absurd (cc)

pub live_false : (s : Status) → is_live s ≡ false → s ≡ fate.Live → ⊥
live_false s e f = let x : true ≡ false = ap is_live (sym f) ∙ e in cc

pub test_live : (s : Status) → s ≡ fate.Live → is_live s ≡ true
test_live s e = ap is_live e

-- two tests of the same thing agree
same_test : (a b : Bool) → (a ≡ true → b ≡ true) → (b ≡ true → a ≡ true) → b ≡ a
same_test true b f g = f refl
same_test false true f g = sym (g refl)
same_test false false f g = refl

pub leader_true : (s : State) → is_leader s ≡ true → IsLeader s
leader_true (row.Leader n) e = tt
leader_true row.Free e = let x : false ≡ true = e in cc
leader_true (row.Infant s) e = let x : false ≡ true = e in cc
leader_true row.Normal e = let x : false ≡ true = e in cc
leader_true (row.Follower p) e = let x : false ≡ true = e in cc
leader_true (row.Retired n) e = let x : false ≡ true = e in cc

pub test_leader : (s : State) → IsLeader s → is_leader s ≡ true
test_leader (row.Leader n) x = refl
test_leader row.Free x = absurd x
test_leader (row.Infant s) x = absurd x
test_leader row.Normal x = absurd x
test_leader (row.Follower p) x = absurd x
test_leader (row.Retired n) x = absurd x

-- Leaders.

module _ (w w' : Rows) (g g' : Ledger) (now : ℕ) where
  -- a row whose state is set does not lead before, or leads after
  set_leads : (x y : ℕ) (s : State) → SetsState w w' x s → (x ≡ y → IsLeader (w.state y) → IsLeader s) → IsLeader (w.state y) → IsLeader (w'.state y)
  set_leads x y s e new leads = which (cases_eq y x)
    where
      which : (y ≡ x) ⊎ (y ≡ x → ⊥) → IsLeader (w'.state y)
      which (inl i) = subst IsLeader (sym (ap w'.state i ∙ e.state)) (new (sym i) leads)
      which (inr d) = subst IsLeader (sym (e.others y d)) leads

  -- a state that leads no group
  not_led : {A : Type 0} (x y : ℕ) (s : State) → w.state x ≡ s → (IsLeader s → ⊥) → x ≡ y → IsLeader (w.state y) → A
  not_led x y s e n i leads = absurd (n (subst IsLeader (ap w.state (sym i) ∙ e) leads))

  same_leads : (y : ℕ) → w'.state y ≡ w.state y → IsLeader (w.state y) → IsLeader (w'.state y)
  same_leads y e leads = subst IsLeader (sym e) leads

  -- a row that is in the list, and leads, leads after every event that leaves it there
  leads_on : (y : ℕ) → IsLive g y → IsLive g' y → IsLeader (w.state y) → Event w w' g g' now → IsLeader (w'.state y)
  leads_on y a b leads (takes x s e) = set_leads x y (row.Infant s) e.turns.sets (λ i l. let f : fate.Free ≡ fate.Live = sym e.free ∙ subst (IsLive g) (sym i) a in absurd (cc)) leads
  leads_on y a b leads (gives_back x e) = set_leads x y row.Free e.turns.sets (λ i l. let f : fate.Infant ≡ fate.Live = sym e.infant ∙ subst (IsLive g) (sym i) a in absurd (cc)) leads
  leads_on y a b leads (fills x e) = same_leads y (e.states y) leads
  leads_on y a b leads (reclaims x m e) = set_leads x y row.Free e.turns.sets (not_led x y (row.Retired m) e.retired (λ z. z)) leads
  leads_on y a b leads (engages x e) = set_leads x y (row.Leader 0) e.sets (λ i l. tt) leads
  leads_on y a b leads (marks x e) = same_leads y (e.states y) leads
  leads_on y a b leads (decides r n e) = set_leads r y (row.Leader n) e.sets (λ i l. tt) leads
  leads_on y a b leads (engages_next r c e) = set_leads c y (row.Follower r) e.sets (not_led c y row.Normal e.normal (λ z. z)) leads
  leads_on y a b leads (normalises x s e) = set_leads x y row.Normal e.sets (not_led x y (row.Infant s) e.infant (λ z. z)) leads
  leads_on y a b leads (freezes x e) = same_leads y (e.states y) leads
  leads_on y a b leads (numbers m e) = same_leads y (e.states y) leads
  leads_on y a b leads (retires x m e) = set_leads x y (row.Retired m) e.sets (λ i l. let f : fate.Dead ≡ fate.Live = sym e.dead ∙ subst (IsLive g) (sym i) a in absurd (cc)) leads
  leads_on y a b leads (begins t e) = same_leads y (e.states y) leads
  leads_on y a b leads (ends t e) = same_leads y (e.states y) leads
  leads_on y a b leads (rests e) = same_leads y (e.states y) leads
  leads_on y a b leads (replaces p r c after n more e) = same_leads y (e.states y) leads

-- One event.

module _ (z : Sizes) (r r' : Run) (s : ℕ) (choice : Choice) (l l' : Local) (a : Activity) (h : Happens z r r' s choice l l' a) (v : Inv z r) (lasts : (q : ℕ) → IsLive r.ledger.rows q → IsLive r'.ledger.rows q) (unwon : (q : ℕ) → ComesNow (word z r.world) r.ledger.rows r'.ledger.rows s (length r.history.log) l a q → ⊥) where
  -- a row is in the list where it was
  pub was_live : (q : ℕ) → IsLive r'.ledger.rows q → IsLive r.ledger.rows q
  was_live q x = which (linked_before a h v.shape q (inl x))
    where
      which : WasLinked r.ledger.rows q ⊎ ComesNow (word z r.world) r.ledger.rows r'.ledger.rows s (length r.history.log) l a q → IsLive r.ledger.rows q
      which (inl w) = live_was a h (lower v) q w x
      which (inr c) = absurd (unwon q c)

  pub live_same : (q : ℕ) → is_live (r'.ledger.rows.fates q).status ≡ is_live (r.ledger.rows.fates q).status
  live_same q = same_test _ _ (λ e. test_live _ (lasts q (live_true _ e))) (λ e. test_live _ (was_live q (live_true _ e)))

  -- it keeps its least key
  pub least_same : (q : ℕ) → is_live (r.ledger.rows.fates q).status ≡ true → least_in (word z r'.world) q ≡ least_in (word z r.world) q
  least_same q e = (linked_keeps a h v.shape q (inl (live_true _ e))).least

  -- and leads on
  pub leads_same : (q : ℕ) → is_leading z r q ≡ true → is_leading z r' q ≡ true
  leads_same q e =
      let t = and_parts _ _ e in
      let live = live_true _ t.0 in
      let leads = leads_on (rows_in (word z r.world)) (rows_in (word z r'.world)) r.ledger.rows r'.ledger.rows (length r.history.log) q live (lasts q live) (leader_true _ t.1) (row_event a h v.shape) in
      both _ _ (test_live _ (lasts q live)) (test_leader _ leads)
    where
      both : (x y : Bool) → x ≡ true → y ≡ true → (x && y) ≡ true
      both x y e f = rw (e, f)
