-- The rows and seats of every valid list are counted as the laws of windows say, by induction over
-- the events: so a seat makes few builds in a window, and the updates pay for the rows.
use Rattle.std.proofs.Common.{ℕ, zero, suc, ◌≡◌, ◌+◌, ◌*◌, ◌≤◌, true, false, Option, None, Some, List, [], ◌∷◌, ◌++◌, arith, refl, sym, ◌∙◌, ap, subst, slice_get, length}
use Rattle.std.proofs.Math.Nat.{mul-le-mul_left}
use Rattle.kw_lists.specs.Counts.{count_below}
use Rattle.kw_words.specs.declared.layout.Name.TheVariants as name
use Rattle.kw_windows.specs.Windows.{IsNew, Limits, Windows}
use Rattle.kw_windows.specs.Builders.{Builder, Elsewhere}
use Rattle.kw_windows.specs.Prices.{HavePaid}
use Rattle.kw_windows.specs.Counted.{AreCounted, AreFew, HasFew}
use Rattle.kw_windows.specs.Events as windows
use Rattle.kw_windows.proofs.Building.{few_builds}
use Rattle.kw_windows.proofs.Keeping.{counted_after, counted_new}
use Rattle.kw_windows.proofs.Paying.{updates_pay}
use Rattle.kw_world.specs.declared.activity.Activity.{Activity}
use Rattle.kw_world.specs.declared.activity.rebalance.Rebalance.TheVariants as Rebalance
use Rattle.kw_world.specs.declared.activity.rebalance.replace.Replace.TheVariants as Replace
use Rattle.kw_world.specs.declared.event.Event.{Event}
use Rattle.kw_world.specs.declared.limits.TheConstants.{TIDY_SHARE}
use Rattle.kw_world.specs.declared.local.Local.{Local}
use Rattle.kw_world.specs.declared.opening.Opening.{Opening}
use Rattle.kw_world.specs.declared.event.Choice.{Choice}
use Rattle.kw_world.specs.Opening.{IsOpening, opened}
use Rattle.kw_world.specs.Sizes.{Sizes}
use Rattle.kw_world.specs.Step.{followed, word}
use Rattle.kw_world.specs.Table.{transition}
use Rattle.kw_world.specs.WalkTransitions.{offered}
use Rattle.kw_world.specs.WorldView.{WorldView}
use Rattle.kw_core.specs.Events.{is_valid, may_step}
use Rattle.kw_core.specs.declared.history.CallLog.{CallLog}
use Rattle.kw_core.specs.Run.{Run, history, noted_by, start}
use Rattle.kw_core.specs.Run as run
use Rattle.kw_core.proofs.Events.{MayCome, may_come, valid-nil, valid-snoc}
use Rattle.kw_core.proofs.Happens.{Happens, found_at, happens}
use Rattle.kw_core.proofs.Runs.{goes_on-moved, history-nil, history-snoc, history-world}
use Rattle.kw_shape.proofs.ShapeOpens.{each_rests}
use Rattle.kw_shape.proofs.Worlds.{world-rows, world-seats}
use Rattle.kw_reads.proofs.Keeps.{inv_holds}
use Rattle.kw_laws.proofs.Along.{holds_along}
use Rattle.kw_laws.proofs.BeforeRows.{ends_before_holds, goes_by_full_holds}
use Rattle.kw_laws.proofs.EndedCalls.{ended_lasts, ended_within}
use Rattle.kw_counts.specs.Bank.{puts_in}
use Rattle.kw_counts.specs.Builds.{IsMostOfBuild, KeepsBuilds}
use Rattle.kw_counts.specs.Counts.{Builds, Counts, counted, counts, counts_after, counts_on, no_builds, no_counts, numbers_after}
use Rattle.kw_counts.specs.Leaders.{is_leading}
use Rattle.kw_counts.specs.Links.{KeepsLinks}
use Rattle.kw_counts.specs.Refusals.{HasNoRefusal, IsBeforeRefusals, IsRefusal}
use Rattle.kw_counts.specs.Walks.{KeepsWalks}
use Rattle.kw_counts.proofs.BuildRows.{builds_hold}
use Rattle.kw_counts.proofs.CountsHold.{numbers_hold, walks_hold}
use Rattle.kw_counts.proofs.Folds.{counts_on-moved}
use Rattle.kw_counts.proofs.LinksKeep.{links_hold}
use Rattle.kw_counts.proofs.SpentHold.{counted-append}
use Rattle.kw_full.specs.Shares.{IsUntidied}
use Rattle.kw_used.specs.Seats.{builder_of, in_window, limits_of, windows_of}
use Rattle.kw_used.specs.Used.{AreBanked, AreEngaged, IsPriceOf, KeepsFewBuilds}
use Rattle.kw_used.proofs.AnyEvent.{any_event}
use Rattle.kw_used.proofs.Facts.{Facts, Known}
use Rattle.kw_used.proofs.GoesLeftKeeps.{goes_left_holds}
use Rattle.kw_used.proofs.KnownKeeps.{known_keeps, known_start}

-- One event more.

pub counts-nil : (z : Sizes) (o : Opening) → counts z o [] ≡ no_counts
unfolding counts counted
counts-nil z o = refl

counts-snoc : (z : Sizes) (o : Opening) (es : List Event) (e : Event) → counts z o (es ++ e ∷ []) ≡ counts_on z (history z o es) e (counts z o es)
unfolding counts counted history
counts-snoc z o es e = counted-append z (start z o) es (e ∷ []) no_counts

-- numbers are only added
numbers_grow : (a : Activity) (n : ℕ) → n ≤ numbers_after a n
numbers_grow (Activity.Rebalance (Rebalance.Replace Replace.Number)) n = omega arith
numbers_grow _ n = omega arith

-- Where a run begins.

abbrev new_builder : Builder
new_builder = record { stage = Elsewhere; held = 0; lives = 0; deads = 0; taken = 0 }

lives_of : (wins : ℕ) (b : Builds) (n : ℕ) (x : Option Local) → (builder_of wins b n x).lives ≡ in_window wins b b.lives
lives_of wins b n (Some l) = refl
lives_of wins b n None = refl

deads_of : (wins : ℕ) (b : Builds) (n : ℕ) (x : Option Local) → (builder_of wins b n x).deads ≡ in_window wins b b.deads
deads_of wins b n (Some l) = refl
deads_of wins b n None = refl

-- Lists.

module _ (z : Sizes) (o : Opening) (opening : IsOpening z o) where
  pub rows_are : (es : List Event) → o.rows ≡ (history z o es).world.rows
  rows_are es = sym (ap (λ (w : WorldView). w.rows) (history-world z o es) ∙ world-rows z o es)

  pub seats_are : (es : List Event) → length (history z o es).world.locals ≡ o.seats
  seats_are es = ap (λ (w : WorldView). length w.locals) (history-world z o es) ∙ world-seats z o es

  facts : (es : List Event) → is_valid z o es ≡ true → Known z (history z o es) (counts z o es) → Facts z (history z o es) (counts z o es)
  facts es ok k = record {
    inv = inv_holds z o opening es ok;
    walked = subst (λ w. KeepsWalks z w (counts z o es)) (sym (history-world z o es)) (walks_hold z o opening es ok);
    links = subst (KeepsLinks z) (sym (history-world z o es)) (links_hold z o opening es ok);
    ends = ends_before_holds z o opening es ok;
    passes = goes_by_full_holds z o opening es ok;
    known = k;
    left = goes_left_holds z o opening es ok;
  }

  few_rows : (es : List Event) → is_valid z o es ≡ true → KeepsBuilds z (history z o es).world
  few_rows es ok = subst (KeepsBuilds z) (sym (history-world z o es)) (builds_hold z o opening es ok)

  module _ (es : List Event) (e : Event) (ok : is_valid z o es ≡ true) (may : may_step o (history z o es).world e ≡ true) where
    abbrev r : Run
    r = history z o es

    abbrev r' : Run
    r' = history z o (es ++ e ∷ [])

    abbrev c : Counts
    c = counts z o es

    abbrev c' : Counts
    c' = counts z o (es ++ e ∷ [])

    abbrev choice : Choice
    choice = offered r.world.rows e.choice

    pub come : MayCome o r.world e
    come = may_come o r.world e may

    abbrev l : Local
    l = come.local

    abbrev l' : Local
    l' = (followed r.world.rows (transition z l.activity e.seat choice l) (found_at z (word z r.world) l.activity e.seat choice l)).local

    pub ok_next : is_valid z o (es ++ e ∷ []) ≡ true
    ok_next = valid-snoc z o es e ok (subst (λ w. may_step o w e ≡ true) (history-world z o es) may)

    next_is : r' ≡ noted_by z r e l
    next_is = history-snoc z o es e ∙ goes_on-moved z r e l come.knows come.moves

    pub happened : Happens z r r' e.seat choice l l' l.activity
    happened = subst (λ q. Happens z r q e.seat choice l l' l.activity) (sym next_is) (happens z r e l (inv_holds z o opening es ok).shape.sane come.begins come.knows come.moves)

    pub counted_is : c' ≡ counts_after l.activity e.seat l (found_at z (word z r.world) l.activity e.seat choice l) r.ledger.rows c
    counted_is = counts-snoc z o es e ∙ counts_on-moved z r e c l come.knows come.moves

    known_next : Known z r c → Known z r' c'
    known_next k = let f = facts es ok k in subst (Known z r') (sym counted_is) (known_keeps z r r' e.seat choice l l' l.activity happened f.inv.shape c f.walked k)

    -- no update was refused before, if none is after it
    pub plain_was : IsBeforeRefusals z r' → IsBeforeRefusals z r
    plain_was p = record { untidied = untidied; none = none }
      where
        grows : word z r.world name.Epoch ≤ word z r'.world name.Epoch
        grows =
            let x = (numbers_hold z o opening es ok).epoch in
            let y = (numbers_hold z o opening (es ++ e ∷ []) ok_next).epoch in
            let more : c.numbers ≤ c'.numbers = omega (arith, ap (λ (y : Counts). y.numbers) counted_is, numbers_grow l.activity c.numbers) in
            omega (arith, x, y, ap (λ w. word z w name.Epoch) (history-world z o es), ap (λ w. word z w name.Epoch) (history-world z o (es ++ e ∷ [])), more)

        untidied : IsUntidied z r.world
        untidied =
            let times : TIDY_SHARE * word z r.world name.Epoch ≤ TIDY_SHARE * word z r'.world name.Epoch = mul-le-mul_left TIDY_SHARE grows in
            omega (arith, times, p.untidied, rows_are es, rows_are (es ++ e ∷ []))

        none : HasNoRefusal r.history
        none x d w is refused =
            let same = ended_lasts z o opening es (e ∷ []) ok ok_next x d is in
            let there = ap (λ (c : CallLog). c.end) same ∙ is in
            p.none x d (ended_within r'.history x d there) there (subst (λ (c : CallLog). IsRefusal c.call d.reply) (sym same) refused)

    module _ (build : ℕ) (most : IsMostOfBuild z build) where
      abbrev limits : Limits
      limits = limits_of z o.rows o.seats build

      -- for some numbers of rows taken all is counted so after it, if it was before
      windows_next : Known z r c → IsBeforeRefusals z r' → (before : ℕ) (took : ℕ → ℕ) → AreFew limits (windows_of z r c before took) → AreCounted limits (windows_of z r c before took) → (before' : ℕ) × (took' : ℕ → ℕ) × AreCounted limits (windows_of z r' c' before' took')
      windows_next k p before took few x =
          let f = facts es ok k in
          let n = any_event z r r' e.seat choice l l' l.activity happened c c' f (inv_holds z o opening (es ++ e ∷ []) ok_next).shape counted_is (plain_was p).untidied p o.rows build (rows_are es) most (few_rows (es ++ e ∷ []) ok_next) before took in
          (n.0, n.1, counted_after limits (windows_of z r c before took) (windows_of z r' c' n.0 n.1) few x (subst (λ m. windows.Event (limits_of z o.rows m build) (windows_of z r c before took) (windows_of z r' c' n.0 n.1)) (seats_are es) n.2))

  -- All lists.

  module _ (engaged : AreEngaged z o) (build : ℕ) (most : IsMostOfBuild z build) where
    abbrev bounds : Limits
    bounds = limits_of z o.rows o.seats build

    -- for some numbers of rows taken all is counted so
    abbrev AreCountedIn : List Event → Type 0
    AreCountedIn es = (before : ℕ) × (took : ℕ → ℕ) × AreCounted bounds (windows_of z (history z o es) (counts z o es) before took)

    record Listed (es : List Event) (r : Run) : Type 0 where
      valid : is_valid z o es ≡ true
      run_is : history z o es ≡ r
      known : Known z (history z o es) (counts z o es)
      counted : IsBeforeRefusals z (history z o es) → AreCountedIn es

    few_lead : (es : List Event) → is_valid z o es ≡ true → IsBeforeRefusals z (history z o es) → (before : ℕ) (took : ℕ → ℕ) → AreFew bounds (windows_of z (history z o es) (counts z o es) before took)
    few_lead es ok p before took = subst (λ n. count_below n (is_leading z (history z o es)) ≤ z.seats) (sym (rows_are es)) ((engaged es ok).few p)

    listed_on : (es : List Event) (e : Event) (r : Run) → may_step o r.world e ≡ true → Listed es r → Listed (es ++ e ∷ []) (run.goes_on z r e)
    listed_on es e r may x = record {
      valid = ok_next es e x.valid now;
      run_is = history-snoc z o es e ∙ ap (λ q. run.goes_on z q e) x.run_is;
      known = known_next es e x.valid now x.known;
      counted = λ p.
          let q = plain_was es e x.valid now p in
          let w = x.counted q in
          windows_next es e x.valid now build most x.known p w.0 w.1 (few_lead es x.valid q w.0 w.1) w.2;
    }
      where
        now : may_step o (history z o es).world e ≡ true
        now = subst (λ (q : Run). may_step o q.world e ≡ true) (sym x.run_is) may

    -- where a run begins
    listed_start : Listed [] (start z o)
    listed_start = record {
      valid = valid-nil z o;
      run_is = history-nil z o;
      known = rw (history-nil z o, counts-nil z o) (known_start z o);
      counted = λ p. (0, λ t. 0, rw (history-nil z o, counts-nil z o) (counted_new bounds (windows_of z (start z o) no_counts 0 (λ t. 0)) new));
    }
      where
        first_used : (q : ℕ) → no_counts.ever q ≡ true → q ≡ 0
        first_used zero e = refl
        first_used (suc q) e = let x : false ≡ true = e in absurd (cc)

        idle : (t : ℕ) (x : Option Local) → slice_get (opened z o).locals t ≡ x → builder_of 0 no_builds 0 x ≡ new_builder
        idle t None e = refl
        idle t (Some k) e = each_rests z o (λ t k. builder_of 0 no_builds 0 (Some k) ≡ new_builder) (λ t. refl) t k e

        new : IsNew (windows_of z (start z o) no_counts 0 (λ t. 0))
        new = record { used = first_used; seats = λ t. idle t _ refl; wins = refl; before = refl }

    listed_holds : (es : List Event) → is_valid z o es ≡ true → Listed es (history z o es)
    listed_holds = holds_along z o Listed listed_on listed_start

    -- What follows.

    pub few_builds_hold : (es : List Event) → is_valid z o es ≡ true → KeepsFewBuilds z (history z o es) (counts z o es)
    few_builds_hold es ok = record { lives = λ p t. subst (λ n. in_window (counts z o es).wins ((counts z o es).builds t) ((counts z o es).builds t).lives ≤ count_below n (is_leading z (history z o es))) (rows_are es) (omega (arith, (few p t).0, lives_are p t)); deads = λ p t. omega (arith, (few p t).1, deads_are p t) }
      where
        w : IsBeforeRefusals z (history z o es) → Windows
        w p = let x = (listed_holds es ok).counted p in windows_of z (history z o es) (counts z o es) x.0 x.1

        few : (p : IsBeforeRefusals z (history z o es)) (t : ℕ) → HasFew o.rows (w p).leads ((w p).seats t)
        few p t = let x = (listed_holds es ok).counted p in few_builds o.rows (w p) ((w p).seats t).stage ((w p).seats t) (x.2.seats t).builds

        lives_are : (p : IsBeforeRefusals z (history z o es)) (t : ℕ) → ((w p).seats t).lives ≡ in_window (counts z o es).wins ((counts z o es).builds t) ((counts z o es).builds t).lives
        lives_are p t = let x = (listed_holds es ok).counted p in lives_of (counts z o es).wins ((counts z o es).builds t) (x.1 t) (slice_get (history z o es).world.locals t)

        deads_are : (p : IsBeforeRefusals z (history z o es)) (t : ℕ) → ((w p).seats t).deads ≡ in_window (counts z o es).wins ((counts z o es).builds t) ((counts z o es).builds t).deads
        deads_are p t = let x = (listed_holds es ok).counted p in deads_of (counts z o es).wins ((counts z o es).builds t) (x.1 t) (slice_get (history z o es).world.locals t)

    -- and the updates pay
    pub rows_paid : AreBanked z o → (share price : ℕ) → IsPriceOf z build share price → (es : List Event) → is_valid z o es ≡ true → IsBeforeRefusals z (history z o es) → count_below o.rows (counts z o es).ever ≤ o.seats * (price * puts_in (history z o es).history.calls) + 1
    rows_paid banked share price cost es ok p = omega (arith, x.2.used, updates_pay bounds w share price updates few x.2 cost.pays paid)
      where
        x : AreCountedIn es
        x = (listed_holds es ok).counted p

        w : Windows
        w = windows_of z (history z o es) (counts z o es) x.0 x.1

        updates : ℕ
        updates = puts_in (history z o es).history.calls

        few : AreFew bounds w
        few = few_lead es ok p x.0 x.1

        paid : HavePaid bounds w share updates
        paid = record { over = omega (arith, (banked es ok).over p.untidied share cost.cells, (banked es ok).stamped); now = λ q below e. (banked es ok).next p.untidied share cost.cells q e }
