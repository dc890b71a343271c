-- Each event that replaces no row, and takes none, is one of the laws of windows: by what becomes
-- of its seat's stage.
use Rattle.std.proofs.Common.{ℕ, ◌≡◌, ◌⊎◌, inl, inr, ◌==◌, ◌<◌, ◌≤◌, Bool, true, false, Option, None, Some, arith, refl, sym, ◌∙◌, ap, subst, length}
use Rattle.std.proofs.lemmas.Bool.Decides.{nat_tests}
use Rattle.kw_words.specs.Link.{link_of}
use Rattle.kw_words.specs.State.{state_word}
use Rattle.kw_words.specs.declared.state.State.TheVariants.{Free}
use Rattle.kw_rows.specs.Ledger.{Dead, IsDead, IsLive, Live}
use Rattle.kw_windows.specs.Builders.{Asking, Builder, Building, Elsewhere, Refused, Stage}
use Rattle.kw_windows.specs.Windows.{Limits, Windows}
use Rattle.kw_windows.specs.Events.{Event, Goes, IsLeft, MayLeave, comes, gives_up, leaves, moves, shifts, turns}
use Rattle.kw_world.specs.declared.activity.Activity.{Activity}
use Rattle.kw_world.specs.declared.activity.rebalance.Rebalance.TheVariants as Rebalance
use Rattle.kw_world.specs.declared.activity.rebalance.left.Left.TheVariants as Left
use Rattle.kw_world.specs.declared.activity.rebalance.replace.Replace.TheVariants as Replace
use Rattle.kw_world.specs.declared.activity.rebalance.seek.Seek.TheVariants as Seek
use Rattle.kw_world.specs.declared.answer.Answer.{Answer}
use Rattle.kw_world.specs.declared.answer.Answer.TheVariants.{NoRows, Spent}
use Rattle.kw_world.specs.declared.event.Choice.{Choice}
use Rattle.kw_world.specs.declared.local.Local.{Local}
use Rattle.kw_world.specs.declared.rebalance.Afterwards.TheVariants.{MoveLeft, TryAgain}
use Rattle.kw_world.specs.Sizes.{Sizes}
use Rattle.kw_world.specs.Step.{word}
use Rattle.kw_world.specs.Transition.{row_or_first}
use Rattle.kw_core.specs.Run.{Run}
use Rattle.kw_core.specs.Stages.{IsAtRow, IsBalancing, is_put}
use Rattle.kw_core.specs.Words.{least_in, next_in}
use Rattle.kw_core.proofs.Building.{IsBuilding}
use Rattle.kw_core.proofs.Happens.{Happens, found_at, knows_next}
use Rattle.kw_shape.specs.ReachedRows.{IsReached}
use Rattle.kw_shape.specs.Shape.{Shape}
use Rattle.kw_shape.proofs.AfterBuilding.{built_balancing}
use Rattle.kw_shape.proofs.Comings.{IsGoingLeft}
use Rattle.kw_shape.proofs.LinkedRows.{ComesNow, balance_at, infants_at, live_reached, reached_live, search_at}
use Rattle.kw_shape.proofs.RowsKeep.{kinds_at}
use Rattle.kw_reads.proofs.Later.{at_row_has}
use Rattle.kw_laws.specs.Laws.{IsLeavingBefore, IsReachingNext}
use Rattle.kw_laws.proofs.ReachedStates.{first_leads_by}
use Rattle.kw_counts.specs.Counts as ledger
use Rattle.kw_counts.specs.Counts.{counts_after, is_live}
use Rattle.kw_counts.specs.Refusals.{IsBeforeRefusals}
use Rattle.kw_counts.specs.Walks.{HasSought, IsAtBefore, IsSeeking, is_at, is_before}
use Rattle.kw_full.specs.Shares.{IsUntidied}
use Rattle.kw_used.specs.Seats.{building, held_at, in_window, leaving, refusing, stage_at, windows_of}
use Rattle.kw_used.proofs.BuildTurns.{BuildTurn, begins_again, build_turn, builds_on, finds_none, has_nothing, moves_on, takes_one, was_tidy, wins_row}
use Rattle.kw_used.proofs.Calls.{after_building, balancing_puts, leave_cases, leaves_elsewhere, reader_no_put, refuses_one, tidies_none, update_put}
use Rattle.kw_used.proofs.Facts.{Facts, IsMoveLeft, IsMoving}
use Rattle.kw_used.proofs.Gone.{gone_by}
use Rattle.kw_used.proofs.Lasting.{TakesNone, goes, rests_event, stage_was, was}
use Rattle.kw_used.proofs.LeftLeaders.{led_by_left}
use Rattle.kw_used.proofs.RowsStay.{live_true, test_live}
use Rattle.kw_used.proofs.Turns.{Turn, begun_after, comes_to, ends_call, finds_gone, finds_spent, goes_left, goes_on, goes_past, is_done, is_head, leaves_reading, none_left, stays}

-- a row that is not in the list, by the test
not_live : (b : Bool) → (b ≡ true → ⊥) → b ≡ false
not_live true n = absurd (n refl)
not_live false n = refl

-- a build for a row that has gone may be given up, as one that has taken none in this window may
may_leave : (w : Windows) (wins r : ℕ) (begun : Option ℕ) → w.live r ≡ false → MayLeave w (building wins r begun)
may_leave w wins r None e = e
may_leave w wins r (Some n) e = which (n == wins)
  where
    which : (b : Bool) → MayLeave w (Building r b)
    which true = e
    which false = tt

-- it gives rows back for this
back_seeks : (a : Activity) (l : Local) → a ≡ Activity.Rebalance (Rebalance.Seek Seek.GiveBack) → HasSought l.rebalance.afterwards → IsSeeking a l
back_seeks a l e x = subst (λ b. IsSeeking b l) (sym e) x

back_at : (a : Activity) (l : Local) → a ≡ Activity.Rebalance (Rebalance.Seek Seek.GiveBack) → HasSought l.rebalance.afterwards → IsAtBefore a l
back_at a l e x = subst (λ b. IsAtBefore b l) (sym e) x

module _ (z : Sizes) (r r' : Run) (s : ℕ) (choice : Choice) (l l' : Local) (a : Activity) (h : Happens z r r' s choice l l' a) (c : ledger.Counts) (f : Facts z r c) (i' : Shape z r')
    (lasts : (q : ℕ) → IsLive r.ledger.rows q → IsLive r'.ledger.rows q) (unwon : (q : ℕ) → ComesNow (word z r.world) r.ledger.rows r'.ledger.rows s (length r.history.log) l a q → ⊥)
    (found_not : a ≡ Activity.Rebalance (Rebalance.Replace Replace.Exchange) → link_of (found_at z (word z r.world) a s choice l) ≡ Some (record { row = Some l.row; marked = false }) → ⊥)
    (c' : ledger.Counts) (counted : c' ≡ counts_after a s l (found_at z (word z r.world) a s choice l) r.ledger.rows c) (same_wins : c'.wins ≡ c.wins) (before : ℕ) (taken : ℕ → ℕ)
    (none : TakesNone a (found_at z (word z r.world) a s choice l)) (n : Limits) (plain : IsUntidied z r.world) (plain' : IsBeforeRefusals z r') where
  i : Shape z r
  i = f.inv.shape

  abbrev w : Windows
  w = windows_of z r c before taken

  abbrev E : Type 0
  E = Event n w (windows_of z r' c' before taken)

  abbrev begun : Option ℕ
  begun = (c.builds s).begun

  abbrev now : Stage
  now = stage_at c.wins (begun_after a begun) l'.activity l'

  rests : now ≡ stage_at c.wins begun a l → held_at now (length l'.rebalance.taken) ≡ held_at (stage_at c.wins begun a l) (length l.rebalance.taken) → E
  rests = rests_event z r r' s choice l l' a h f.inv lasts unwon c c' counted same_wins before taken taken none (λ u. refl) n

  to : (y : Stage) → now ≡ y → ((m : ℕ) → held_at y m ≡ 0) → Goes w (windows_of z r' c' before taken) s y
  to = goes z r r' s choice l l' a h f.inv lasts unwon c c' counted same_wins before taken taken none (λ u. refl)

  from : (w.seats s).stage ≡ stage_at c.wins begun a l
  from = stage_was z r r' s choice l l' a h f.inv lasts unwon c c' counted same_wins before taken taken none (λ u. refl)

  reached_is : (q : ℕ) → IsLive r.ledger.rows q → w.live q ≡ true
  reached_is q live = test_live _ live

  gone_is : (q : ℕ) → (IsLive r.ledger.rows q → ⊥) → w.live q ≡ false
  gone_is q m = not_live _ (λ e. m (live_true _ e))

  -- a seat that is Elsewhere, and stays so
  rests_elsewhere : stage_at c.wins begun a l ≡ Elsewhere → now ≡ Elsewhere → E
  rests_elsewhere e y = rests (y ∙ sym e) (ap (λ x. held_at x (length l'.rebalance.taken)) y ∙ sym (ap (λ x. held_at x (length l.rebalance.taken)) e))

  -- one that gives its row up
  gives_row : (y : Stage) → stage_at c.wins begun a l ≡ y → MayLeave w y → now ≡ Elsewhere → E
  gives_row y e may q = leaves s (subst (MayLeave w) (sym (from ∙ e)) may) (to Elsewhere q (λ m. refl))

  gives_gone : stage_at c.wins begun a l ≡ Asking l.row → (IsLive r.ledger.rows l.row → ⊥) → l'.activity ≡ Activity.Retry → E
  gives_gone e m q = gives_row (Asking l.row) e (gone_is l.row m) (ap (λ b. stage_at c.wins (begun_after a begun) b l') q)

  -- one that is refused
  refused : IsBalancing a → now ≡ refusing (is_put l.call) → E
  refused x q =
      let put = update_put l.call (balancing_puts a l x (kinds_at a h i).kind) in
      gives_up s (to Refused (q ∙ ap refusing put) (λ m. refl))

  -- one that tidies, of which there is none
  tidied : (l'.tidies ≡ true) ⊎ (l.tidies ≡ true) → E
  tidied (inl e) = tidies_none z r' i' plain'.untidied s l' (knows_next h) e
  tidied (inr e) = tidies_none z r i plain s l h.knows e

  -- one that has reached its full row
  reaches : IsAtRow a → stage_at c.wins begun a l ≡ Elsewhere → now ≡ Asking l.row → E
  reaches x e q = comes s l.row (from ∙ e) live (to (Asking l.row) q (λ m. refl))
    where
      live : 1 ≤ (w.seats s).deads → w.live l.row ≡ true
      live o =
          let has = at_row_has l.activity (subst IsAtRow (sym h.activity) x) in
          let more : 1 ≤ in_window c.wins (c.builds s) (c.builds s).deads = omega (arith, o, ap (λ (b : Builder). b.deads) (was z r r' s choice l l' a h f.inv lasts unwon c c' counted same_wins before taken taken)) in
          let m = f.walked.rows s l h.knows (f.known.walks s l h.knows has more) l.row (is_at has refl) in
          reached_is l.row (reached_live (word z r.world) r.ledger.rows i.rows.chain l.row m)

  -- one that goes on to the row before its own, which is p, in the list
  is_left : (p : ℕ) → IsLive r.ledger.rows p → least_in (word z r.world) p < least_in (word z r.world) l.row → IsLeft w l.row p
  is_left p live o = record { live = reached_is p live; less = o }

  -- Builds.
  module _ (o : IsBuilding a) where
    here : now ≡ stage_at c.wins begun l'.activity l'
    here = ap (λ b. stage_at c.wins b l'.activity l') (after_building a begun o)

    -- it gives its rows back, and tries again
    tries_again : a ≡ Activity.Rebalance (Rebalance.Seek Seek.GiveBack) → l.rebalance.afterwards ≡ TryAgain → now ≡ Elsewhere → E
    tries_again e q y = gives_row (building c.wins l.row begun) (ap (λ b. stage_at c.wins begun b l) e) (may_leave w c.wins l.row begun (gone_is l.row gone)) y
      where
        gone : IsLive r.ledger.rows l.row → ⊥
        gone live = f.links.gone s l h.knows (h.activity ∙ e) q (live_reached (word z r.world) r.ledger.rows i.rows.chain l.row live)

    -- it gives them back, and moves left
    moves_left : a ≡ Activity.Rebalance (Rebalance.Seek Seek.GiveBack) → l.rebalance.afterwards ≡ MoveLeft → now ≡ Asking (row_or_first l.rebalance.before) → E
    moves_left e q y = which begun refl
      where
        at : Activity
        at = Activity.Rebalance (Rebalance.Seek Seek.GiveBack)

        g : Happens z r r' s choice l l' at
        g = subst (Happens z r r' s choice l l') e h

        p : (p : ℕ) × (l.rebalance.before ≡ Some p)
        p = (search_at at g i).some q

        goes_to : Goes w (windows_of z r' c' before taken) s (Asking p.0)
        goes_to = to (Asking p.0) (y ∙ ap (λ b. Asking (row_or_first b)) p.1) (λ m. refl)

        stage : (x : Option ℕ) → begun ≡ x → (w.seats s).stage ≡ building c.wins l.row x
        stage x k = from ∙ ap (λ b. stage_at c.wins begun b l) e ∙ ap (building c.wins l.row) k

        -- of a build that has taken a row in this window
        left : begun ≡ Some c.wins → IsLive r.ledger.rows l.row → IsLeft w l.row p.0
        left k live = is_left p.0 (reached_live (word z r.world) r.ledger.rows i.rows.chain p.0 m) (less ((search_at at g i).left p.0 q p.1))
          where
            sought : HasSought l.rebalance.afterwards
            sought = subst HasSought (sym q) tt

            m : IsReached (word z r.world) p.0
            m = f.walked.rows s l h.knows (f.walked.builds s l h.knows (back_seeks l.activity l (h.activity ∙ e) sought) k) p.0 (is_before (back_at l.activity l (h.activity ∙ e) sought) p.1)

            lower : l.lower ≡ least_in (word z r.world) l.row
            lower = (balance_at at g i).lower tt

            less : (least_in (word z r.world) p.0 < l.lower) ⊎ IsDead r.ledger.rows l.row × (l.lower ≡ 0) → least_in (word z r.world) p.0 < least_in (word z r.world) l.row
            less (inl u) = omega (arith, u, lower)
            less (inr u) = let v : Live ≡ Dead = sym live ∙ u.0 in absurd (cc)

        same : (m : ℕ) (b : Bool) → (m == c.wins) ≡ b → begun ≡ Some m → E
        same m true t k =
            let u : m ≡ c.wins = grind (arith, nat_tests) in
            let v = k ∙ ap Some u in
            let live = f.known.moves s l h.knows (subst (λ b. IsMoving b l) (sym (h.activity ∙ e)) (subst IsMoveLeft (sym q) tt)) v in
            moves s l.row p.0 (stage (Some m) k ∙ ap (Building l.row) t) (reached_is l.row live) (left v live) goes_to
        same m false t k = turns s l.row p.0 (stage (Some m) k ∙ ap (Building l.row) t) goes_to

        which : (x : Option ℕ) → begun ≡ x → E
        which None k =
            let some = (infants_at at g i).hand tt in
            absurd (omega (arith, some, f.known.none s l h.knows (subst IsBuilding (sym (h.activity ∙ e)) tt) k))
        which (Some m) k = same m (m == c.wins) refl k

    builds : BuildTurn (word z r.world) c.wins begun l a l' → E
    builds (builds_on e q) = rests (here ∙ e) (ap (λ x. held_at x (length l'.rebalance.taken)) here ∙ q)
    builds (takes_one e q t) = absurd (none e (subst (λ b. found_at z (word z r.world) b s choice l ≡ state_word Free) (sym e) q))
    builds (was_tidy e) = tidied (inr e)
    builds (finds_none e q) = refused (built_balancing a o) (here ∙ q)
    builds (begins_again e q y) = tries_again e q (here ∙ y)
    builds (moves_on e q y) = moves_left e q (here ∙ y)
    builds (has_nothing x q) = absurd (omega (arith, ((infants_at a h i).enough x).0, q))
    builds (wins_row e q) = absurd (found_not e (subst (λ b. link_of (found_at z (word z r.world) b s choice l) ≡ Some (record { row = Some l.row; marked = false })) (sym e) q))

  -- Any event.

  ends : (answer : Answer) → a ≡ Activity.Leave answer → now ≡ Elsewhere → E
  ends answer e y = which (leave_cases answer l.call)
    where
      which : (leaving answer l.call ≡ Elsewhere) ⊎ (is_put l.call ≡ true) × ((answer ≡ NoRows) ⊎ (answer ≡ Spent)) → E
      which (inl q) = rests_elsewhere (ap (λ b. stage_at c.wins begun b l) e ∙ q) y
      which (inr q) = refuses_one z r r' s choice l l' a h f.inv answer e plain'.none q.0 q.1

  -- it goes on to its leader
  shifts_left : IsGoingLeft a → (a ≡ Activity.Rebalance (Rebalance.Left Left.Start)) ⊎ (a ≡ Activity.Rebalance (Rebalance.Left Left.Next)) × (next_in (word z r.world) (row_or_first l.rebalance.before) ≡ Some l.row) → now ≡ Asking (row_or_first l.rebalance.before) → E
  shifts_left x e y = shifts s l.row (row_or_first l.rebalance.before) (from ∙ asking a x) (λ live. leader (live_true _ live)) (to (Asking (row_or_first l.rebalance.before)) y (λ m. refl))
    where
      asking : (b : Activity) → IsGoingLeft b → stage_at c.wins begun b l ≡ Asking l.row
      asking (Activity.Rebalance (Rebalance.Left _)) u = refl
      asking _ u = absurd u

      turned : (a ≡ Activity.Rebalance (Rebalance.Left Left.Start)) ⊎ (a ≡ Activity.Rebalance (Rebalance.Left Left.Next)) × (next_in (word z r.world) (row_or_first l.rebalance.before) ≡ Some l.row) → (l.activity ≡ Activity.Rebalance (Rebalance.Left Left.Start)) ⊎ (l.activity ≡ Activity.Rebalance (Rebalance.Left Left.Next)) × (next_in (word z r.world) (row_or_first l.rebalance.before) ≡ Some l.row)
      turned (inl q) = inl (h.activity ∙ q)
      turned (inr q) = inr (h.activity ∙ q.0, q.1)

      leader : IsLive r.ledger.rows l.row → IsLeft w l.row (row_or_first l.rebalance.before)
      leader live = let m = led_by_left z r s l h.knows i f.left (subst IsGoingLeft (sym h.activity) x) (turned e) live in is_left _ m.0 m.1

  pub one_event : Turn z (word z r.world) choice c.wins begun l a l' → E
  one_event (stays e q) = rests e q
  one_event (comes_to x e y) = reaches x e y
  one_event (is_done e) = tidied e
  one_event (leaves_reading answer x e q y) = rests_elsewhere e (ap (λ b. stage_at c.wins (begun_after a begun) b l') q ∙ leaves_elsewhere answer l'.call (ap is_put y ∙ reader_no_put a l x (kinds_at a h i)))
  one_event (ends_call answer e y) = ends answer e y
  one_event (finds_spent x e y) = refused x y
  one_event (finds_gone x e q) = gives_gone e (gone_by a h i x q) q
  one_event (is_head e q y) = absurd (first_leads_by z r i s l h.knows (h.activity ∙ e) (i.rows.chain.leads ∙ ap Some (sym (ap row_or_first i.rows.chain.leads) ∙ q)))
  one_event (none_left e q y) = gives_gone (ap (λ b. stage_at c.wins begun b l) e) (λ live. f.ends s l h.knows (subst IsLeavingBefore (sym (h.activity ∙ e)) tt) q (live_reached (word z r.world) r.ledger.rows i.rows.chain l.row live)) y
  one_event (goes_past e q y) = gives_gone (ap (λ b. stage_at c.wins begun b l) e) (λ live. f.passes s l h.knows (subst IsReachingNext (sym (h.activity ∙ e)) tt) q (live_reached (word z r.world) r.ledger.rows i.rows.chain l.row live)) y
  one_event (goes_left x e y) = shifts_left x e y
  one_event (goes_on o t) = builds o (build_turn z (word z r.world) choice c.wins begun l a l' t)
