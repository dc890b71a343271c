-- A seat that goes left from a row of the list names no row but such as were in the list with the
-- leader of that, by induction over the events.
use Rattle.std.proofs.Common.{ℕ, ◌≡◌, ◌≢◌, ◌⊎◌, inl, inr, ◌≤◌, true, Some, List, arith, refl, sym, ◌∙◌, ap, subst, slice_get, length}
use Rattle.std.proofs.lemmas.Bool.{cases_eq}
use Rattle.std.proofs.lemmas.Option.{same_Some}
use Rattle.kw_rows.specs.Events.{Event, SetsState, begins, decides, ends, engages, engages_next, fills, freezes, gives_back, marks, normalises, numbers, reclaims, replaces, rests, retires, takes}
use Rattle.kw_rows.specs.Ledger.{Dead, Fate, IsDead, IsFresh, IsHeld, IsLive, Ledger, Live}
use Rattle.kw_rows.specs.Ledger as fate
use Rattle.kw_rows.specs.Rows.{Rows}
use Rattle.kw_rows.specs.RowState as row
use Rattle.kw_rows.specs.RowState.{State}
use Rattle.kw_rows.specs.States.{HasLeader, HasState}
use Rattle.kw_rows.proofs.Named.{fresh_next, held_by}
use Rattle.kw_world.specs.declared.activity.Activity.{Activity}
use Rattle.kw_world.specs.declared.activity.rebalance.Rebalance.TheVariants as Rebalance
use Rattle.kw_world.specs.declared.activity.rebalance.left.Left.TheVariants as Left
use Rattle.kw_world.specs.declared.event.Choice.{Choice}
use Rattle.kw_world.specs.declared.event.Event as world
use Rattle.kw_world.specs.declared.local.Local.{Local}
use Rattle.kw_world.specs.declared.opening.Opening.{Opening}
use Rattle.kw_world.specs.Opening.{IsOpening, opened}
use Rattle.kw_world.specs.Sizes.{Sizes}
use Rattle.kw_world.specs.Step.{word}
use Rattle.kw_world.specs.Transition.{row_or_first}
use Rattle.kw_world.specs.WalkTransitions.{offered}
use Rattle.kw_core.specs.Events.{is_valid, may_step}
use Rattle.kw_core.specs.Ledger.{ledger_at_first}
use Rattle.kw_core.specs.Run.{Run, history, noted_by, start}
use Rattle.kw_core.specs.Run as run
use Rattle.kw_core.specs.Stages.{IsBalancing}
use Rattle.kw_core.specs.Words.{next_in}
use Rattle.kw_core.proofs.Events.{may_come}
use Rattle.kw_core.proofs.Happens.{Happens, each_seat, happens}
use Rattle.kw_core.proofs.Runs.{goes_on-moved, holds_of_history}
use Rattle.kw_shape.specs.RowsIn.{rows_in, state_seen}
use Rattle.kw_shape.specs.Search.{HasReachedNext, IsSearching, Search}
use Rattle.kw_shape.specs.Shape.{Shape}
use Rattle.kw_shape.proofs.Comings.{IsGoingLeft, LeftBy, goes_by, is_at_first, knows_leader, left_by, left_stays, saw_next}
use Rattle.kw_shape.proofs.LinkedRows.{FreesNow, GoesNow, fresh_linked, held_dead, linked_fate, linked_keeps}
use Rattle.kw_shape.proofs.RowsKeep.{row_event}
use Rattle.kw_shape.proofs.ShapeOpens.{each_rests}
use Rattle.kw_reads.specs.Inv.{Inv, lower}
use Rattle.kw_reads.proofs.Keeps.{inv_goes_on}
use Rattle.kw_reads.proofs.KeptKeeps.{live_was}
use Rattle.kw_reads.proofs.Opens.{inv_start}
use Rattle.kw_used.proofs.Facts.{GoesLeft, IsSince, IsWalkingLeft, NamesLeft, has_reached, is_at}
use Rattle.kw_used.proofs.LeftLeaders.{following, leader_of}

-- Followers.

module _ (w w' : Rows) (g g' : Ledger) (now p : ℕ) where
  abbrev Follows : Rows → ℕ → Type 0
  Follows v y = v.state y ≡ row.Follower p

  -- a row that is set is no follower before
  set_follows : (x y : ℕ) (s : State) → SetsState w w' x s → (x ≡ y → Follows w y → ⊥) → Follows w y → Follows w' y
  set_follows x y s e never k = which (cases_eq y x)
    where
      which : (y ≡ x) ⊎ (y ≡ x → ⊥) → Follows w' y
      which (inl i) = absurd (never (sym i) k)
      which (inr d) = e.others y d ∙ k

  other_state : (x y : ℕ) (s : State) → w.state x ≡ s → (s ≡ row.Follower p → ⊥) → x ≡ y → Follows w y → ⊥
  other_state x y s e n i k = n (sym e ∙ ap w.state i ∙ k)

  -- a row of the list goes on to follow its leader
  follows_on : (y : ℕ) → IsLive g y → Follows w y → Event w w' g g' now → Follows w' y
  follows_on y a k (takes x s e) = set_follows x y (row.Infant s) e.turns.sets (λ i u. let f : fate.Free ≡ fate.Live = sym e.free ∙ subst (IsLive g) (sym i) a in cc) k
  follows_on y a k (gives_back x e) = set_follows x y row.Free e.turns.sets (λ i u. let f : fate.Infant ≡ fate.Live = sym e.infant ∙ subst (IsLive g) (sym i) a in cc) k
  follows_on y a k (fills x e) = e.states y ∙ k
  follows_on y a k (reclaims x m e) = set_follows x y row.Free e.turns.sets (λ i u. let f : fate.Dead ≡ fate.Live = sym e.dead ∙ subst (IsLive g) (sym i) a in cc) k
  follows_on y a k (engages x e) = set_follows x y (row.Leader 0) e.sets (other_state x y row.Normal e.normal (λ q. cc)) k
  follows_on y a k (marks x e) = e.states y ∙ k
  follows_on y a k (decides r n e) = set_follows r y (row.Leader n) e.sets (other_state r y (row.Leader 0) e.undecided (λ q. cc)) k
  follows_on y a k (engages_next r c e) = set_follows c y (row.Follower r) e.sets (other_state c y row.Normal e.normal (λ q. cc)) k
  follows_on y a k (normalises x s e) = set_follows x y row.Normal e.sets (other_state x y (row.Infant s) e.infant (λ q. cc)) k
  follows_on y a k (freezes x e) = e.states y ∙ k
  follows_on y a k (numbers m e) = e.states y ∙ k
  follows_on y a k (retires x m e) = set_follows x y (row.Retired m) e.sets (λ i u. let f : fate.Dead ≡ fate.Live = sym e.dead ∙ subst (IsLive g) (sym i) a in cc) k
  follows_on y a k (begins t e) = e.states y ∙ k
  follows_on y a k (ends t e) = e.states y ∙ k
  follows_on y a k (rests e) = e.states y ∙ k
  follows_on y a k (replaces q r c after n more e) = e.states y ∙ k

-- Stages.

start_left : (a : Activity) → a ≡ Activity.Rebalance (Rebalance.Left Left.Start) → IsGoingLeft a
start_left a e = subst IsGoingLeft (sym e) tt

walking_left : (a : Activity) → IsWalkingLeft a → IsGoingLeft a
walking_left (Activity.Rebalance (Rebalance.Left Left.Next)) x = tt
walking_left (Activity.Rebalance (Rebalance.Left Left.NextLeast)) x = tt
walking_left _ x = absurd x

left_balances : (a : Activity) → IsGoingLeft a → IsBalancing a
left_balances (Activity.Rebalance (Rebalance.Left _)) x = tt
left_balances _ x = absurd x

left_searches : (a : Activity) (l : Local) → IsWalkingLeft a → IsSearching a l
left_searches (Activity.Rebalance (Rebalance.Left Left.Next)) l x = tt
left_searches (Activity.Rebalance (Rebalance.Left Left.NextLeast)) l x = tt
left_searches _ l x = absurd x

-- One event.

module _ (z : Sizes) (r r' : Run) (s : ℕ) (choice : Choice) (l l' : Local) (a : Activity) (h : Happens z r r' s choice l l' a) (v : Inv z r) (x : GoesLeft z r) where
  i : Shape z r
  i = v.shape

  abbrev w : Rows
  w = rows_in (word z r.world)

  abbrev g : Ledger
  g = r.ledger.rows

  -- what a seat knows whose row is in the list after the event
  record Led (k : Local) (p : ℕ) : Type 0 where
    live : IsLive g k.row
    state : w.state k.row ≡ row.Follower p
    leader : HasLeader w g k.row p

  led : (t : ℕ) (k : Local) → slice_get r.world.locals t ≡ Some k → IsGoingLeft k.activity → IsLive r'.ledger.rows k.row → (p : ℕ) → (rows_in (word z r'.world)).state k.row ≡ row.Follower p → Led k p
  led t k m u live p e = subst (Led k) same (record { live = was; state = q.1; leader = q.2 })
    where
      was : IsLive g k.row
      was = live_was a h (lower v) k.row (fresh_linked g t k.row ((i.balances t k m).fresh (left_balances k.activity u))) live

      q : (p : ℕ) × (w.state k.row ≡ row.Follower p) × HasLeader w g k.row p
      q = leader_of w g k.row (w.state k.row) (subst (HasState w g k.row) was (i.rows.states k.row)) (following (word z r.world) g t k.activity k u (i.balances t k m))

      same : q.0 ≡ p
      same =
          let f : row.Follower q.0 ≡ row.Follower p = sym (follows_on w (rows_in (word z r'.world)) g r'.ledger.rows (length r.history.log) q.0 k.row was q.1 (row_event a h i)) ∙ e in
          cc

  -- a row that was in the list with the leader was so after the event
  since_keeps : (p q : ℕ) → IsLive g p → IsHeld g q → IsSince g p q → IsSince r'.ledger.rows p q
  since_keeps p q live held (inl u) = which (linked_fate a h i q (inl u))
    where
      born : (r'.ledger.rows.fates p).born ≤ length r.history.log
      born = omega (arith, (linked_keeps a h i p (inl live)).born, v.puts.born p (inl live))

      which : (r'.ledger.rows.fates q ≡ g.fates q) ⊎ GoesNow g r'.ledger.rows s (length r.history.log) q ⊎ FreesNow g r'.ledger.rows q → IsSince r'.ledger.rows p q
      which (inl e) = inl (ap (λ (f : Fate). f.status) e ∙ u)
      which (inr (inl e)) = inr (ap (λ (f : Fate). f.status) e.fate, omega (arith, born, ap (λ (f : Fate). f.gone) e.fate))
      which (inr (inr e)) = let y : Live ≡ Dead = sym u ∙ e.dead in absurd (cc)
  since_keeps p q live held (inr u) =
      let e = held_dead (word z r.world) (word z r'.world) g r'.ledger.rows q held u.0 (linked_keeps a h i q (inr u.0)) in
      inr (ap (λ (f : Fate). f.status) e ∙ u.0, omega (arith, u.1, (linked_keeps a h i p (inl live)).born, ap (λ (f : Fate). f.gone) e))

  -- the rows that a seat names
  named_held : (t : ℕ) (k : Local) → slice_get r.world.locals t ≡ Some k → IsWalkingLeft k.activity → (q : ℕ) → NamesLeft k.activity k q → IsHeld g q
  named_held t k m u q (is_at e) = held_by g t q ((i.search t k m).fresh q (left_searches k.activity k u) e)
  named_held t k m u q (has_reached e f) = held_by g t q (subst (IsFresh g t) f ((i.search t k m).saw (subst HasReachedNext (sym e) tt)))

  -- of a seat that does not act
  other_told : (t : ℕ) (k : Local) → t ≢ s → slice_get r.world.locals t ≡ Some k → k.activity ≡ Activity.Rebalance (Rebalance.Left Left.Start) → IsLive r'.ledger.rows k.row → (p : ℕ) → (rows_in (word z r'.world)).state k.row ≡ row.Follower p → k.rebalance.before ≡ Some p
  other_told t k d m y live p e = let b = led t k m (start_left k.activity y) live p e in x.told t k m y b.live p b.state

  other_names : (t : ℕ) (k : Local) → t ≢ s → slice_get r.world.locals t ≡ Some k → IsWalkingLeft k.activity → IsLive r'.ledger.rows k.row → (p : ℕ) → (rows_in (word z r'.world)).state k.row ≡ row.Follower p → (q : ℕ) → NamesLeft k.activity k q → IsSince r'.ledger.rows p q
  other_names t k d m y live p e q n = let b = led t k m (walking_left k.activity y) live p e in since_keeps p q b.leader.live (named_held t k m y q n) (x.names t k m y b.live p b.state q n)

  -- of the one that does
  own_told : l'.activity ≡ Activity.Rebalance (Rebalance.Left Left.Start) → IsLive r'.ledger.rows l'.row → (p : ℕ) → (rows_in (word z r'.world)).state l'.row ≡ row.Follower p → l'.rebalance.before ≡ Some p
  own_told y live p e = which (left_by z (word z r.world) s choice l a l' h.arrow)
    where
      from : (b : Activity) (k : Local) → LeftBy (word z r.world) l b k → k ≡ l' → b ≡ a → k.rebalance.before ≡ Some p
      from b k (knows_leader leader f) q c = ap Some (same follows)
        where
          was : IsLive g l.row
          was = live_was a h (lower v) l.row (fresh_linked g s l.row ((i.balances s l h.knows).fresh (subst IsBalancing (sym (h.activity ∙ sym c)) tt))) (subst (λ (k : Local). IsLive r'.ledger.rows k.row) (sym q) live)

          follows : row.Follower leader ≡ row.Follower p
          follows = sym (follows_on w (rows_in (word z r'.world)) g r'.ledger.rows (length r.history.log) leader l.row was (ap state_seen f) (row_event a h i)) ∙ subst (λ (k : Local). (rows_in (word z r'.world)).state k.row ≡ row.Follower p) (sym q) e

          same : row.Follower leader ≡ row.Follower p → leader ≡ p
          same m = cc
      from b k (is_at_first n f d) q c = let m : Activity.Rebalance (Rebalance.Left Left.Next) ≡ Activity.Rebalance (Rebalance.Left Left.Start) = ap (λ (k : Local). k.activity) q ∙ y in absurd (cc)
      from b k (saw_next n f d) q c = let m : Activity.Rebalance (Rebalance.Left Left.NextLeast) ≡ Activity.Rebalance (Rebalance.Left Left.Start) = ap (λ (k : Local). k.activity) q ∙ y in absurd (cc)
      from b k (goes_by o) q c = let m : Activity.Rebalance (Rebalance.Left Left.Next) ≡ Activity.Rebalance (Rebalance.Left Left.Start) = ap (λ (k : Local). k.activity) q ∙ y in absurd (cc)

      which : LeftBy (word z r.world) l a l' ⊎ (IsGoingLeft l'.activity → ⊥) → l'.rebalance.before ≡ Some p
      which (inl t) = from a l' t refl refl
      which (inr n) = absurd (n (start_left l'.activity y))

  -- it went left before
  was_left : (b : Activity) (k : Local) → LeftBy (word z r.world) l b k → IsWalkingLeft k.activity → IsGoingLeft b
  was_left b k (knows_leader leader f) y = absurd y
  was_left b k (is_at_first n f d) y = tt
  was_left b k (saw_next n f d) y = tt
  was_left b k (goes_by o) y = tt

  own_names : IsWalkingLeft l'.activity → IsLive r'.ledger.rows l'.row → (p : ℕ) → (rows_in (word z r'.world)).state l'.row ≡ row.Follower p → (q : ℕ) → NamesLeft l'.activity l' q → IsSince r'.ledger.rows p q
  own_names y live p e q n = which (left_by z (word z r.world) s choice l a l' h.arrow)
    where
      -- what it names was so before the event
      from : (b : Activity) (k : Local) → LeftBy (word z r.world) l b k → b ≡ a → Led l p → IsWalkingLeft k.activity → NamesLeft k.activity k q → IsHeld g q × IsSince g p q
      from b k (knows_leader leader f) c t u m = absurd u
      from b k (is_at_first n f d) c t u (is_at m) =
          let first : i.rows.chain.first ≡ q = sym (ap row_or_first i.rows.chain.leads) ∙ f ∙ same_Some n q m in
          let there = subst (IsLive g) first i.rows.chain.first_live in
          (inl there, inl there)
      from b k (is_at_first n f d) c t u (has_reached m j) = let o : Activity.Rebalance (Rebalance.Left Left.Next) ≡ Activity.Rebalance (Rebalance.Left Left.NextLeast) = m in absurd (cc)
      from b k (saw_next n f d) c t u m = next m
        where
          at : l.activity ≡ Activity.Rebalance (Rebalance.Left Left.Next)
          at = h.activity ∙ sym c

          walks : IsWalkingLeft l.activity
          walks = subst IsWalkingLeft (sym at) tt

          search : Search (word z r.world) g s (Activity.Rebalance (Rebalance.Left Left.Next)) l
          search = subst (λ y. Search (word z r.world) g s y l) at (i.search s l h.knows)

          before : (b : ℕ) × (l.rebalance.before ≡ Some b)
          before = search.some tt

          led_to : w.next before.0 ≡ Some n
          led_to = subst (λ y. next_in (word z r.world) (row_or_first y) ≡ Some n) before.1 f

          fresh : IsFresh g s before.0
          fresh = search.fresh before.0 tt before.1

          since : IsSince g p before.0
          since = x.names s l h.knows walks t.live p t.state before.0 (is_at before.1)

          reached : IsFresh g s n → IsSince g p before.0 → IsSince g p n
          reached (inl k) o = inl k
          reached (inr k) (inl o) = inl (i.rows.chain.linked before.0 n o led_to)
          reached (inr k) (inr o) = inr (k.dead, omega (arith, o.1, (i.rows.closed.later before.0 n (held_by g s before.0 fresh) led_to k.dead).1))

          next : NamesLeft (Activity.Rebalance (Rebalance.Left Left.NextLeast)) (record l { candidate = n; activity = Activity.Rebalance (Rebalance.Left Left.NextLeast) }) q → IsHeld g q × IsSince g p q
          next (is_at m) = (held_by g s q (search.fresh q tt m), x.names s l h.knows walks t.live p t.state q (is_at m))
          next (has_reached m j) =
              let there = fresh_next w g i.rows.closed s before.0 n fresh led_to in
              (subst (IsHeld g) j (held_by g s n there), subst (IsSince g p) j (reached there since))
      from b k (goes_by o) c t u (is_at m) =
          let at = h.activity ∙ sym c in
          let walks = subst IsWalkingLeft (sym at) tt in
          let name = has_reached at (same_Some l.candidate q m) in
          (named_held s l h.knows walks q name, x.names s l h.knows walks t.live p t.state q name)
      from b k (goes_by o) c t u (has_reached m j) = let o : Activity.Rebalance (Rebalance.Left Left.Next) ≡ Activity.Rebalance (Rebalance.Left Left.NextLeast) = m in absurd (cc)

      which : LeftBy (word z r.world) l a l' ⊎ (IsGoingLeft l'.activity → ⊥) → IsSince r'.ledger.rows p q
      which (inl t) =
          let same = left_stays (word z r.world) l a l' t in
          let b = led s l h.knows (subst IsGoingLeft (sym h.activity) (was_left a l' t y)) (subst (IsLive r'.ledger.rows) same live) p (subst (λ q. (rows_in (word z r'.world)).state q ≡ row.Follower p) same e) in
          let m = from a l' t refl b y n in
          since_keeps p q b.leader.live m.0 m.1
      which (inr n) = absurd (n (walking_left l'.activity y))

  pub goes_left_keeps : GoesLeft z r'
  goes_left_keeps = record {
    told = each_seat h (λ t k. k.activity ≡ Activity.Rebalance (Rebalance.Left Left.Start) → IsLive r'.ledger.rows k.row → (p : ℕ) → (rows_in (word z r'.world)).state k.row ≡ row.Follower p → k.rebalance.before ≡ Some p) own_told other_told;
    names = each_seat h (λ t k. IsWalkingLeft k.activity → IsLive r'.ledger.rows k.row → (p : ℕ) → (rows_in (word z r'.world)).state k.row ≡ row.Follower p → (q : ℕ) → NamesLeft k.activity k q → IsSince r'.ledger.rows p q) own_names other_names;
  }

-- Of every list.

goes_left_start : (z : Sizes) (o : Opening) → GoesLeft z (start z o)
goes_left_start z o = record {
  told = each_rests z o (λ t k. k.activity ≡ Activity.Rebalance (Rebalance.Left Left.Start) → IsLive (ledger_at_first o).rows k.row → (p : ℕ) → (rows_in (word z (opened z o))).state k.row ≡ row.Follower p → k.rebalance.before ≡ Some p) (λ t e. let x : Activity.Idle ≡ Activity.Rebalance (Rebalance.Left Left.Start) = e in absurd (cc));
  names = each_rests z o (λ t k. IsWalkingLeft k.activity → IsLive (ledger_at_first o).rows k.row → (p : ℕ) → (rows_in (word z (opened z o))).state k.row ≡ row.Follower p → (q : ℕ) → NamesLeft k.activity k q → IsSince (ledger_at_first o).rows p q) (λ t y. absurd y);
}

pub goes_left_holds : (z : Sizes) (o : Opening) → IsOpening z o → (es : List world.Event) → is_valid z o es ≡ true → GoesLeft z (history z o es)
goes_left_holds z o opening es ok = (holds_of_history z o (λ r. Inv z r × GoesLeft z r) on (inv_start z o opening, goes_left_start z o) es ok).1
  where
    on : (r : Run) (e : world.Event) → may_step o r.world e ≡ true → Inv z r × GoesLeft z r → Inv z (run.goes_on z r e) × GoesLeft z (run.goes_on z r e)
    on r e may p =
        let c = may_come o r.world e may in
        let h = happens z r e c.local p.0.shape.sane c.begins c.knows c.moves in
        (inv_goes_on z o r e may p.0, subst (GoesLeft z) (sym (goes_on-moved z r e c.local c.knows c.moves)) (goes_left_keeps z r (noted_by z r e c.local) e.seat (offered r.world.rows e.choice) c.local _ c.local.activity h p.0 p.1))
