-- Who made a row lead, after every valid list; and how many rows lead. A seat makes a row lead that
-- its call found full, and was given no cell of: each attempt in a row that gives cells is stamped,
-- or a seat is at work on it.
use Rattle.std.proofs.Common.{ℕ, zero, suc, ◌≡◌, ◌≢◌, ◌⊎◌, inl, inr, ◌<◌, ◌≤◌, ◌==◌, Bool, true, false, Option, None, Some, List, if◌then◌else◌, arith, refl, sym, ◌∙◌, ap, subst, length, slice_get, eq-eqb}
use Rattle.std.proofs.lemmas.Nat.{mul-le}
use Rattle.std.proofs.lemmas.Option.{same_Some, slice_get_within}
use Rattle.kw_words.specs.declared.layout.Name.TheVariants as name
use Rattle.kw_words.specs.declared.state.State.TheVariants.{Normal}
use Rattle.kw_words.specs.State.{state_of, state_word}
use Rattle.kw_words.proofs.StateWords.{state_of-Normal}
use Rattle.kw_lists.specs.Counts.{count_below}
use Rattle.kw_rows.specs.Ledger as fate
use Rattle.kw_rows.specs.Ledger.{Fate, IsLive}
use Rattle.kw_rows.specs.RowState as row
use Rattle.kw_rows.specs.RowState.{IsDecided}
use Rattle.kw_rows.proofs.Named.{one_row}
use Rattle.kw_world.specs.declared.activity.Activity.{Activity}
use Rattle.kw_world.specs.declared.activity.rebalance.engage.Engage.TheVariants as Engage
use Rattle.kw_world.specs.declared.activity.rebalance.Rebalance.TheVariants as Rebalance
use Rattle.kw_world.specs.declared.event.Choice.{Choice}
use Rattle.kw_world.specs.declared.event.Event.{Event}
use Rattle.kw_world.specs.declared.limits.TheConstants.{TIDY_SHARE}
use Rattle.kw_world.specs.declared.local.Local.{Local}
use Rattle.kw_world.specs.declared.opening.Opening.{Opening}
use Rattle.kw_world.specs.Calls.{first_key}
use Rattle.kw_world.specs.Opening.{IsOpening}
use Rattle.kw_world.specs.Sizes.{Sizes}
use Rattle.kw_world.specs.Step.{word}
use Rattle.kw_core.specs.Events.{is_valid}
use Rattle.kw_core.specs.History.{attempt, called}
use Rattle.kw_core.specs.Run.{Run, history, start}
use Rattle.kw_core.specs.Stages.{IsBusy, IsDone, IsPublished, IsPutting}
use Rattle.kw_core.proofs.Arrows.{eq_from}
use Rattle.kw_core.proofs.Happens.{Happens, found_at}
use Rattle.kw_shape.specs.RowsIn.{rows_in, state_seen}
use Rattle.kw_shape.specs.Shape.{HoldsKey, IsKind}
use Rattle.kw_shape.proofs.ShapeOpens.{opens}
use Rattle.kw_puts.specs.Freezes.{IsFrozen}
use Rattle.kw_puts.specs.Here.{IsMadeIn}
use Rattle.kw_puts.specs.Positions.{Calling}
use Rattle.kw_puts.specs.Puts.{IsCurrent}
use Rattle.kw_puts.proofs.Owners.{made_here, true_false}
use Rattle.kw_reads.specs.Inv.{Inv}
use Rattle.kw_reads.proofs.Keeps.{inv_holds, inv_keeps}
use Rattle.kw_full.specs.Full.{IsEngaging, IsFullRow, IsUnled, KeepsFull}
use Rattle.kw_full.specs.OverFrozen.{KeepsOver}
use Rattle.kw_full.specs.Shares.{IsUntidied}
use Rattle.kw_full.proofs.FullHold.{full_holds}
use Rattle.kw_full.proofs.Leading.{EngagesNow, not_led}
use Rattle.kw_full.proofs.SharesHold.{over_holds}
use Rattle.kw_counts.specs.Counts.{Counts, counts, engager_after, with_at}
use Rattle.kw_counts.specs.Engagers.{HasEngaged, KeepsEngagers}
use Rattle.kw_counts.specs.Leaders.{is_leader, is_leading}
use Rattle.kw_counts.specs.Refusals.{IsBeforeRefusals}
use Rattle.kw_counts.proofs.CountsWithin.{count_apart}
use Rattle.kw_counts.proofs.EngagersKeep.{engaged_on}
use Rattle.kw_counts.proofs.Fronts.{holds_of_fronts}
use Rattle.kw_counts.proofs.Leaders.{leader_word, leading_parts, leading_was}
use Rattle.kw_counts.proofs.Untidied.{refusals_before}
use Rattle.kw_counts.proofs.Updates.{at_left, at_set}

-- what every event keeps
abbrev AreEngaged : Sizes → Run → Counts → Type 0
AreEngaged z r c = IsBeforeRefusals z r → (x : ℕ) → is_leading z r x ≡ true → HasEngaged z r x (c.engager x)

abbrev Lead : Activity
Lead = Activity.Rebalance (Rebalance.Engage Engage.Lead)

-- A seat that makes a row lead.

module _ (z : Sizes) (r r' : Run) (s : ℕ) (choice : Choice) (l l' : Local) (h : Happens z r r' s choice l l' Lead) (v : Inv z r) (over : KeepsOver z r) (full : KeepsFull z r) (u : IsUntidied z r.world) (e : word z r.world (name.State l.row) ≡ state_word Normal) where
  normal : (rows_in (word z r.world)).state l.row ≡ row.Normal
  normal = ap (λ w. state_seen (state_of w)) e ∙ ap state_seen state_of-Normal

  -- it does not tidy
  untidied : (b : Bool) → l.tidies ≡ b → b ≡ false
  untidied false t = refl
  untidied true t =
      let busy = ((v.shape.visits s l h.knows).epoch (subst IsBusy (sym h.activity) tt)).1 in
      absurd (omega (arith, u, v.shape.offered s l h.knows t, mul-le TIDY_SHARE l.epoch TIDY_SHARE (word z r.world name.Epoch) (omega arith) busy))

  is_full : IsFullRow z r s l
  is_full = full.rows s l h.knows (subst IsEngaging (sym h.activity) tt) (subst IsUnled (sym normal) tt)

  calling : Calling r.history s l.activity l (r.seats s)
  calling = v.positions.calling s l h.knows (subst IsBusy (sym h.activity) tt)

  unfrozen : IsFrozen (word z r.world) l.row → ⊥
  unfrozen f = subst IsDecided normal ((v.shape.rows.marks l.row).frozen is_full.live f).1

  no_put : (called r.history (r.seats s).call).put ≡ None
  no_put = by (called r.history (r.seats s).call).put refl
    where
      not_some : (p : ℕ) → IsPublished l.activity ⊎ IsDone l.activity ⊎ (l.tidies ≡ true) → ⊥
      not_some p (inl y) = let k : IsPublished Lead = subst IsPublished h.activity y in k
      not_some p (inr (inl y)) = let k : IsDone Lead = subst IsDone h.activity y in k
      not_some p (inr (inr y)) = true_false y (untidied l.tidies refl)

      by : (o : Option ℕ) → (called r.history (r.seats s).call).put ≡ o → (called r.history (r.seats s).call).put ≡ None
      by None f = f
      by (Some p) f = absurd (not_some p (calling.published p f))

  -- its call was given no cell of the row: no seat is at work on it, and none of the call is
  -- stamped
  no_cell : (p : ℕ) → p < length r.history.attempts → (attempt r.history p).call ≡ (r.seats s).call → IsMadeIn r.ledger.rows r.history l.row p → ⊥
  no_cell p w of m = which (over.over p w (made_here r.ledger.rows r.history l.row p (inl is_full.live) m))
    where
      -- the seat puts nothing
      at_work : IsCurrent (slice_get r.world.locals) r.seats r.history p → ⊥
      at_work i =
          let seat : (attempt r.history p).seat ≡ s = sym (v.history.laws.attempted p w).seat ∙ ap (λ n. (called r.history n).seat) of ∙ calling.seat in
          let known : i.local ≡ l = same_Some i.local l (sym i.knows ∙ ap (slice_get r.world.locals) seat ∙ h.knows) in
          let k : IsPutting Lead = subst IsPutting h.activity (subst (λ (k : Local). IsPutting k.activity) known i.putting) in
          k

      which : IsCurrent (slice_get r.world.locals) r.seats r.history p ⊎ ((attempt r.history p).is_stamped ≡ true) ⊎ IsFrozen (word z r.world) (attempt r.history p).row → ⊥
      which (inl i) = at_work i
      which (inr (inl i)) = let k : None ≡ Some p = sym no_put ∙ subst (λ n. (called r.history n).put ≡ Some p) of (v.history.laws.has_put p i) in absurd (cc)
      which (inr (inr i)) = unfrozen (subst (IsFrozen (word z r.world)) m.row i)

  engages : HasEngaged z r l.row s
  engages = record {
    local = l;
    knows = h.knows;
    busy = subst IsBusy (sym h.activity) tt;
    update = subst (λ q. IsKind q l) h.activity (v.shape.kinds s l h.knows).kind;
    unstamped = no_put;
    holds = is_full.holds;
    full = is_full.given (untidied l.tidies refl);
    none = no_cell;
  }

-- One event.

module _ (z : Sizes) (r r' : Run) (s : ℕ) (choice : Choice) (l l' : Local) (v : Inv z r) (v' : Inv z r') (over : KeepsOver z r) (full : KeepsFull z r) (c : Counts) (x : AreEngaged z r c) where
  -- of a row that led the seat that made it lead is the same
  same_engager : (a : Activity) → Happens z r r' s choice l l' a → (q : ℕ) → is_leading z r q ≡ true → engager_after a s l (found_at z (word z r.world) a s choice l) c.engager q ≡ c.engager q
  same_engager (Activity.Rebalance (Rebalance.Engage Engage.Lead)) h q e = saw (word z r.world (name.State l.row) == state_word Normal) refl
    where
      other : word z r.world (name.State l.row) ≡ state_word Normal → q ≢ l.row
      other f i = true_false (leading_parts z r q e).1 (ap (λ n. is_leader ((rows_in (word z r.world)).state n)) i ∙ ap (λ w. is_leader (state_seen (state_of w))) f ∙ ap (λ k. is_leader (state_seen k)) state_of-Normal)

      saw : (b : Bool) → (word z r.world (name.State l.row) == state_word Normal) ≡ b → (let f : ℕ → ℕ = if b then with_at c.engager l.row s else c.engager in f) q ≡ c.engager q
      saw true f = at_left c.engager l.row s q (other (eq_from _ _ f))
      saw false f = refl
  same_engager a h q e = refl

  now_engager : (q : ℕ) → EngagesNow (word z r.world) Lead l q → engager_after Lead s l (found_at z (word z r.world) Lead s choice l) c.engager q ≡ s
  now_engager q n = rw (eq-eqb (word z r.world (name.State l.row)) (state_word Normal) (ap (λ p. word z r.world (name.State p)) (sym n.row) ∙ n.normal)) (at_set c.engager l.row s q n.row)

  engaged_keeps : (a : Activity) → Happens z r r' s choice l l' a → IsBeforeRefusals z r' → (q : ℕ) → is_leading z r' q ≡ true → HasEngaged z r' q (engager_after a s l (found_at z (word z r.world) a s choice l) c.engager q)
  engaged_keeps a h b q e = which w.0
    where
      w : ((is_leading z r q ≡ true) ⊎ EngagesNow (word z r.world) a l q) × IsLive r.ledger.rows q × (r'.ledger.rows.fates q ≡ r.ledger.rows.fates q)
      w = leading_was a h v.shape q e

      before : IsBeforeRefusals z r
      before = refusals_before z r r' s choice l l' a h v b

      on : (t : ℕ) → HasEngaged z r q t → HasEngaged z r' q t
      on t y = engaged_on z r r' s choice l l' a h v v' b q t w.1 w.2 y

      new : (d : Activity) → Happens z r r' s choice l l' d → EngagesNow (word z r.world) d l q → HasEngaged z r q (engager_after d s l (found_at z (word z r.world) d s choice l) c.engager q)
      new d g n = at d n.engages g n
        where
          at : (k : Activity) → k ≡ Lead → Happens z r r' s choice l l' k → EngagesNow (word z r.world) k l q → HasEngaged z r q (engager_after k s l (found_at z (word z r.world) k s choice l) c.engager q)
          at k i = subst (λ (k : Activity). Happens z r r' s choice l l' k → EngagesNow (word z r.world) k l q → HasEngaged z r q (engager_after k s l (found_at z (word z r.world) k s choice l) c.engager q)) (sym i) lead
            where
              lead : Happens z r r' s choice l l' Lead → EngagesNow (word z r.world) Lead l q → HasEngaged z r q (engager_after Lead s l (found_at z (word z r.world) Lead s choice l) c.engager q)
              lead j m = subst (HasEngaged z r q) (sym (now_engager q m)) (subst (λ p. HasEngaged z r p s) (sym m.row) (engages z r r' s choice l l' j v over full before.untidied (ap (λ p. word z r.world (name.State p)) (sym m.row) ∙ m.normal)))

      which : (is_leading z r q ≡ true) ⊎ EngagesNow (word z r.world) a l q → HasEngaged z r' q (engager_after a s l (found_at z (word z r.world) a s choice l) c.engager q)
      which (inl k) = on _ (subst (HasEngaged z r q) (sym (same_engager a h q k)) (x before q k))
      which (inr n) = on _ (new a h n)

-- Every valid list.

none_leads : (z : Sizes) (o : Opening) → IsOpening z o → (x : ℕ) → is_leading z (start z o) x ≡ true → ⊥
none_leads z o opening zero e =
    let w = leader_word (state_of (word z (start z o).world (name.State 0))) (leading_parts z (start z o) 0 e).1 in
    not_led (word z (start z o).world (name.State 0)) w.0 Normal (opens z o opening (name.State 0) opening.sized.some_rows) (λ f. omega (arith, f)) w.1
none_leads z o opening (suc x) e = let y : fate.Free ≡ fate.Live = (leading_parts z (start z o) (suc x) e).0 in absurd (cc)

module _ (z : Sizes) (o : Opening) (opening : IsOpening z o) where
  engaged_holds : (es : List Event) → is_valid z o es ≡ true → AreEngaged z (history z o es) (counts z o es)
  engaged_holds es ok = holds_of_fronts z o opening (AreEngaged z)
      (λ xs valid r' s choice l l' a h x b q e. let v = inv_holds z o opening xs valid in engaged_keeps z (history z o xs) r' s choice l l' v (inv_keeps z (history z o xs) r' s choice l a l' h v) (over_holds z o opening xs valid) (full_holds z o opening xs valid) (counts z o xs) x a h b q e)
      (λ b x e. absurd (none_leads z o opening x e)) es ok

  pub engagers_hold : (es : List Event) → is_valid z o es ≡ true → KeepsEngagers z (history z o es) (counts z o es)
  engagers_hold es ok = record { engaged = engaged_holds es ok; few = few }
    where
      r : Run
      r = history z o es

      c : Counts
      c = counts z o es

      v : Inv z r
      v = inv_holds z o opening es ok

      few : IsBeforeRefusals z r → count_below r.world.rows (is_leading z r) ≤ z.seats
      few b = count_apart r.world.rows z.seats (is_leading z r) c.engager (λ x w e. seat (engaged_holds es ok b x e)) (λ x y w u e f i. same x y e f (engaged_holds es ok b x e) (subst (HasEngaged z r y) (sym i) (engaged_holds es ok b y f)))
        where
          seat : {x t : ℕ} → HasEngaged z r x t → t < z.seats
          seat k = omega (arith, slice_get_within r.world.locals _ k.local k.knows, v.shape.sane.seats)

          same : (x y : ℕ) → is_leading z r x ≡ true → is_leading z r y ≡ true → {t : ℕ} → HasEngaged z r x t → HasEngaged z r y t → x ≡ y
          same x y e f k m =
              let known : k.local ≡ m.local = same_Some k.local m.local (sym k.knows ∙ m.knows) in
              one_row (rows_in (word z r.world)) r.ledger.rows v.shape.rows.closed x y (first_key m.local.call) v.shape.rows.chain (leading_parts z r x e).0 (leading_parts z r y f).0 (subst (λ (q : Local). HoldsKey (word z r.world) r.ledger.rows x (first_key q.call)) known k.holds) m.holds
