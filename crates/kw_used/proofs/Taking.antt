-- A seat takes a row: as the next one of its build, or as the first one in this window.
use Rattle.std.proofs.Common.{ℕ, ◌≡◌, ◌≢◌, ◌⊎◌, inl, inr, ◌+◌, ◌==◌, ◌≤◌, ◌&&◌, Bool, true, false, Option, None, Some, arith, refl, sym, ◌∙◌, ap, subst, length, eq-eqb}
use Rattle.std.proofs.lemmas.Bool.{cases_eq}
use Rattle.std.proofs.lemmas.Option.{slice_get_within}
use Rattle.kw_words.specs.declared.layout.Name.TheVariants as name
use Rattle.kw_words.specs.declared.state.State.TheVariants.{Free}
use Rattle.kw_words.specs.State.{state_word}
use Rattle.kw_rows.specs.Group.{Group}
use Rattle.kw_rows.specs.Ledger.{IsFresh, IsLive, Ledger}
use Rattle.kw_rows.specs.Rows.{Rows}
use Rattle.kw_rows.specs.RowState as row
use Rattle.kw_rows.specs.RowState.{IsLeader}
use Rattle.kw_windows.specs.Builders.{Asking, Builder, Building, Stage, with_build, with_row}
use Rattle.kw_windows.specs.Windows.{Windows}
use Rattle.kw_windows.specs.Events.{Event, MayBuild, Takes, UsesOne, begins, resumes, takes}
use Rattle.kw_world.specs.declared.activity.Activity.{Activity}
use Rattle.kw_world.specs.declared.activity.rebalance.Rebalance.TheVariants as Rebalance
use Rattle.kw_world.specs.declared.activity.rebalance.seek.Seek.TheVariants as Seek
use Rattle.kw_world.specs.declared.event.Choice.{Choice}
use Rattle.kw_world.specs.declared.local.Local.{Local}
use Rattle.kw_world.specs.Sizes.{Sizes}
use Rattle.kw_world.specs.Step.{word}
use Rattle.kw_core.specs.Run.{Run}
use Rattle.kw_core.proofs.Happens.{Happens, knows_next}
use Rattle.kw_core.proofs.Building.{IsBuilding}
use Rattle.kw_shape.specs.Balances.{Balances, led}
use Rattle.kw_shape.specs.RowsIn.{rows_in}
use Rattle.kw_shape.specs.Shape.{Shape}
use Rattle.kw_shape.proofs.LinkedRows.{ComesNow, balance_at, fresh_linked, was_below}
use Rattle.kw_counts.specs.Builds.{IsMostOfBuild, KeepsBuilds}
use Rattle.kw_counts.specs.Counts as ledger
use Rattle.kw_counts.specs.Counts.{Builds, build_taking, counts_after, has_begun, is_live, one_more_at, with_at}
use Rattle.kw_counts.proofs.Updates.{at_left, at_set}
use Rattle.kw_used.specs.Seats.{builder_at, building, in_window, limits_of, windows_of}
use Rattle.kw_used.proofs.BuildTurns.{TakesOne}
use Rattle.kw_used.proofs.Facts.{Facts}
use Rattle.kw_used.proofs.Lasting.{counts_to, is, was}
use Rattle.kw_used.proofs.RowsStay.{live_false, live_true, test_leader}

-- The seat.

-- one row more of its build
more_built : (r m n wins taken : ℕ) (b : Builds) → m ≡ n + 1 → builder_at (Building r true) m wins b (taken + 1) ≡ with_row r (builder_at (Building r true) n wins b taken)
more_built r m n wins taken b e = rw e refl

-- the first one in this window, of a build that holds so many: it is counted here
first_built : (live : Bool) (a : Stage) (r m n wins taken : ℕ) (b : Builds) → m ≡ n + 1 →
    builder_at (Building r true) m wins (ledger.with_build wins live b) (taken + 1) ≡ with_build live (with_row r (let c : Builder = record { stage = a; held = n; lives = in_window wins b b.lives; deads = in_window wins b b.deads; taken = taken } in c))
first_built true a r m n wins taken b e = rw (e, eq-eqb wins wins refl) refl
first_built false a r m n wins taken b e = rw (e, eq-eqb wins wins refl) refl

-- Its row leads.

pub group_leads : (w : Rows) (g : Ledger) (r : ℕ) (second after : Option ℕ) → IsLive g r → Group w g (led r second after) → IsLeader (w.state r)
group_leads w g r None after live k = which (k.1 live).either
  where
    which : (w.state r ≡ row.Leader 1) ⊎ (w.state r ≡ row.Leader 2) × ((c : ℕ) × (after ≡ Some c) × IsLeader (w.state c)) → IsLeader (w.state r)
    which (inl e) = subst IsLeader (sym e) tt
    which (inr e) = subst IsLeader (sym e.0) tt
group_leads w g r (Some c) after live k = subst IsLeader (sym (k.2 live).leads) tt

module _ (z : Sizes) (r r' : Run) (s : ℕ) (choice : Choice) (l l' : Local) (h : Happens z r r' s choice l l' (Activity.Rebalance (Rebalance.Seek Seek.Take))) (c : ledger.Counts) (f : Facts z r c)
    (lasts : (q : ℕ) → IsLive r.ledger.rows q → IsLive r'.ledger.rows q) (unwon : (q : ℕ) → ComesNow (word z r.world) r.ledger.rows r'.ledger.rows s (length r.history.log) l (Activity.Rebalance (Rebalance.Seek Seek.Take)) q → ⊥)
    (c' : ledger.Counts) (counted : c' ≡ counts_after (Activity.Rebalance (Rebalance.Seek Seek.Take)) s l (word z r.world (name.State l.rebalance.sought)) r.ledger.rows c) (same_wins : c'.wins ≡ c.wins) (before : ℕ) (taken : ℕ → ℕ)
    (free : word z r.world (name.State l.rebalance.sought) ≡ state_word Free) (one : TakesOne l l') (rows build : ℕ) (table : rows ≡ r.world.rows) (most : IsMostOfBuild z build) (few : KeepsBuilds z r'.world) where
  i : Shape z r
  i = f.inv.shape

  abbrev w : Windows
  w = windows_of z r c before taken

  abbrev w' : Windows
  w' = windows_of z r' c' before (one_more_at taken s)

  abbrev live : Bool
  live = is_live (r.ledger.rows.fates l.row).status

  abbrev seats : ℕ
  seats = length r.world.locals

  -- what is counted
  builds : c'.builds s ≡ build_taking c.wins live (c.builds s)
  builds = ap (λ (y : ledger.Counts). y.builds s) counted ∙ rw (eq-eqb _ _ free) (at_set c.builds s (build_taking c.wins live (c.builds s)) s refl)

  uses : UsesOne w w' l.rebalance.sought
  uses x e = which (cases_eq x l.rebalance.sought)
    where
      now : with_at c.ever l.rebalance.sought true x ≡ true
      now = sym (ap (λ (y : ledger.Counts). y.ever x) counted ∙ rw (eq-eqb _ _ free) refl) ∙ e

      which : (x ≡ l.rebalance.sought) ⊎ (x ≡ l.rebalance.sought → ⊥) → (x ≡ l.rebalance.sought) ⊎ (c.ever x ≡ true)
      which (inl q) = inl q
      which (inr d) = inr (sym (at_left c.ever l.rebalance.sought true x d) ∙ now)

  others : (u : ℕ) → u ≢ s → one_more_at taken s u ≡ taken u
  others u d = at_left taken s (taken s + 1) u d

  -- the seat before the event, and after it
  stood : w.seats s ≡ builder_at (building c.wins l.row (c.builds s).begun) (length l.rebalance.taken) c.wins (c.builds s) (taken s)
  stood = was z r r' s choice l l' (Activity.Rebalance (Rebalance.Seek Seek.Take)) h f.inv lasts unwon c c' counted same_wins before taken (one_more_at taken s)

  stands : (b : Builds) (n : ℕ) → c'.builds s ≡ b → b.begun ≡ Some n → (n == c.wins) ≡ true → w'.seats s ≡ builder_at (Building l.row true) (length l'.rebalance.taken) c.wins b (taken s + 1)
  stands b n e q t =
      is z r r' s choice l l' (Activity.Rebalance (Rebalance.Seek Seek.Take)) h f.inv lasts unwon c c' counted same_wins before taken (one_more_at taken s)
      ∙ rw (e, q, at_set taken s (taken s + 1) s refl) (ap (λ a. builder_at a (length l'.rebalance.taken) c.wins b (taken s + 1)) (one.stays c.wins n ∙ ap (Building l.row) t))

  -- there is room, since it has taken no more than a build may
  takes_of : (x : Builder) → w'.seats s ≡ x → (w.seats s).held ≤ length l.rebalance.taken → Takes (limits_of z rows seats build) w w' s l.rebalance.sought x
  takes_of x e held = record {
    counts = counts_to z r r' s choice l l' (Activity.Rebalance (Rebalance.Seek Seek.Take)) h f.inv lasts unwon c c' counted same_wins before taken (one_more_at taken s) others x e;
    seat = slice_get_within r.world.locals s l h.knows;
    room = omega (arith, held, one.more, few.rows s l' (knows_next h) one.planned build most);
    used = uses;
  }

  may : MayBuild (limits_of z rows seats build) w l.row
  may = record {
    below = omega (arith, table, was_below z r i l.row (fresh_linked r.ledger.rows s l.row fresh));
    leads = λ e. let a = live_true _ e in both live _ e (test_leader _ (group_leads (rows_in (word z r.world)) r.ledger.rows l.row l.rebalance.second l.rebalance.after a k.group));
    replaced = λ e. gone e fresh;
  }
    where
      k : Balances (word z r.world) r.ledger.rows s (Activity.Rebalance (Rebalance.Seek Seek.Take)) l
      k = balance_at (Activity.Rebalance (Rebalance.Seek Seek.Take)) h i

      fresh : IsFresh r.ledger.rows s l.row
      fresh = k.fresh tt

      both : (x y : Bool) → x ≡ true → y ≡ true → (x && y) ≡ true
      both x y e q = rw (e, q)

      gone : live ≡ false → IsFresh r.ledger.rows s l.row → 1 ≤ c.wins
      gone e (inl a) = absurd (live_false _ e a)
      gone e (inr d) = f.known.gone l.row d.dead

  pub takes_event : Event (limits_of z rows seats build) w w'
  takes_event = which (c.builds s).begun refl
    where
      -- of a build that has taken one in this window
      more : (n : ℕ) → (c.builds s).begun ≡ Some n → (n == c.wins) ≡ true → Event (limits_of z rows seats build) w w'
      more n e t = takes s l.row l.rebalance.sought (ap (λ (b : Builder). b.stage) at) (takes_of (with_row l.row (w.seats s)) (now ∙ sym (ap (with_row l.row) at)) (omega (arith, ap (λ (b : Builder). b.held) at)))
        where
          at : w.seats s ≡ builder_at (Building l.row true) (length l.rebalance.taken) c.wins (c.builds s) (taken s)
          at = stood ∙ rw (e, t) refl

          now : w'.seats s ≡ with_row l.row (builder_at (Building l.row true) (length l.rebalance.taken) c.wins (c.builds s) (taken s))
          now = stands (c.builds s) n (builds ∙ rw (e, t) refl) e t ∙ more_built l.row (length l'.rebalance.taken) (length l.rebalance.taken) c.wins (taken s) (c.builds s) one.more

      -- of one that has taken none here
      first : (a : Stage) (n : ℕ) → w.seats s ≡ record { stage = a; held = n; lives = in_window c.wins (c.builds s) (c.builds s).lives; deads = in_window c.wins (c.builds s) (c.builds s).deads; taken = taken s } → length l.rebalance.taken ≡ n → has_begun c.wins (c.builds s).begun ≡ false →
          Takes (limits_of z rows seats build) w w' s l.rebalance.sought (with_build (w.live l.row) (with_row l.row (w.seats s)))
      first a n at e t = takes_of (with_build live (with_row l.row (w.seats s))) (now ∙ sym (ap (λ b. with_build live (with_row l.row b)) at)) (omega (arith, e, ap (λ (b : Builder). b.held) at))
        where
          now : w'.seats s ≡ with_build live (with_row l.row (let b : Builder = record { stage = a; held = n; lives = in_window c.wins (c.builds s) (c.builds s).lives; deads = in_window c.wins (c.builds s) (c.builds s).deads; taken = taken s } in b))
          now = stands (ledger.with_build c.wins live (c.builds s)) c.wins (builds ∙ rw t refl) refl (eq-eqb c.wins c.wins refl) ∙ first_built live a l.row (length l'.rebalance.taken) n c.wins (taken s) (c.builds s) (omega (arith, one.more, e))

      same : (n : ℕ) (b : Bool) → (n == c.wins) ≡ b → (c.builds s).begun ≡ Some n → Event (limits_of z rows seats build) w w'
      same n true t e = more n e t
      same n false t e =
          let at : w.seats s ≡ builder_at (Building l.row false) (length l.rebalance.taken) c.wins (c.builds s) (taken s) = stood ∙ rw (e, t) refl in
          resumes s l.row l.rebalance.sought (ap (λ (b : Builder). b.stage) at) may (first (Building l.row false) (length l.rebalance.taken) at refl (rw (e, t) refl))

      which : (x : Option ℕ) → (c.builds s).begun ≡ x → Event (limits_of z rows seats build) w w'
      which (Some n) e = same n (n == c.wins) refl e
      which None e =
          let at : w.seats s ≡ builder_at (Asking l.row) (length l.rebalance.taken) c.wins (c.builds s) (taken s) = stood ∙ rw e refl in
          begins s l.row l.rebalance.sought (ap (λ (b : Builder). b.stage) at) may (first (Asking l.row) 0 at (f.known.none s l h.knows (subst IsBuilding (sym h.activity) tt) e) (rw e refl))
