-- Every event keeps what seats have met of the rows that they are about to engage, or to which they
-- are about to move.
use Rattle.std.proofs.Common.{ℕ, ◌≡◌, ◌≢◌, ◌⊎◌, inl, inr, ◌≤◌, Bool, true, false, Option, None, Some, refl, sym, ◌∙◌, ap, subst, slice_get, length}
use Rattle.std.proofs.lemmas.Option.{same_Some}
use Rattle.kw_words.specs.declared.layout.Name.TheVariants as name
use Rattle.kw_words.specs.declared.pend.Pend.TheVariants.{Frozen, Idle}
use Rattle.kw_words.specs.declared.state.State.TheVariants.{Follower}
use Rattle.kw_words.specs.Count.{count_of}
use Rattle.kw_words.specs.Link.{link_of}
use Rattle.kw_words.specs.Pend.{pend_word}
use Rattle.kw_words.specs.State.{state_of}
use Rattle.kw_rows.specs.Ledger.{IsFresh, IsLive}
use Rattle.kw_rows.specs.Rows.{WasLinked}
use Rattle.kw_rows.specs.Structure.{Structure}
use Rattle.kw_rows.proofs.Views.{leader_named}
use Rattle.kw_world.specs.declared.activity.Activity.{Activity}
use Rattle.kw_world.specs.declared.activity.put.Put.TheVariants as Put
use Rattle.kw_world.specs.declared.activity.rebalance.engage.Engage.TheVariants as Engage
use Rattle.kw_world.specs.declared.activity.rebalance.left.Left.TheVariants as Left
use Rattle.kw_world.specs.declared.activity.rebalance.Rebalance.TheVariants as Rebalance
use Rattle.kw_world.specs.declared.activity.rebalance.replace.Replace.TheVariants as Replace
use Rattle.kw_world.specs.declared.event.Choice.{Choice}
use Rattle.kw_world.specs.declared.local.Local.{Local}
use Rattle.kw_world.specs.declared.opening.Opening.{Opening}
use Rattle.kw_world.specs.Calls.{first_key}
use Rattle.kw_world.specs.PutTransitions.{has_room}
use Rattle.kw_world.specs.ReplaceTransitions.{replaced_link}
use Rattle.kw_world.specs.Sizes.{Sizes}
use Rattle.kw_world.specs.Step.{word}
use Rattle.kw_world.specs.Transition.{row_or_first}
use Rattle.kw_core.specs.declared.seat_log.SeatLog.{SeatLog}
use Rattle.kw_core.specs.History.{attempt}
use Rattle.kw_core.specs.Run.{Run, start}
use Rattle.kw_core.specs.Stages.{IsAtRow, IsBalancing, IsDone, IsPublished, IsPutting, IsStamped}
use Rattle.kw_core.specs.Words.{given_in, next_in}
use Rattle.kw_core.proofs.Happens.{Happens, each_seat}
use Rattle.kw_shape.specs.RowsIn.{has_mark, rows_in, state_seen}
use Rattle.kw_shape.specs.Search.{Search}
use Rattle.kw_shape.specs.Shape.{HoldsKey, Shape}
use Rattle.kw_shape.proofs.LinkedRows.{balance_at, fresh_linked, holds_put, search_at, was_below}
use Rattle.kw_shape.proofs.ShapeOpens.{each_rests}
use Rattle.kw_shape.proofs.WonKeep.{head_open}
use Rattle.kw_puts.specs.Freezes.{IsFrozen}
use Rattle.kw_puts.specs.Puts.{IsPublishedAt, OwnsAttempt}
use Rattle.kw_puts.proofs.OwnAttempts.{lost_frozen}
use Rattle.kw_reads.specs.Inv.{Inv, lower}
use Rattle.kw_full.specs.Frozen.{KeepsFrozen}
use Rattle.kw_full.specs.Full.{HasStamped, IsEngaging, IsFullRow, IsUnled, KeepsFull}
use Rattle.kw_full.proofs.Heading.{Heads, IsAsking, IsMoving, IsSame, SeesMark, ToEngage, ToMove, at_exchange, at_next, elsewhere, engages, engaging_balances, goes_on, has_moved, heads, is_done, is_full, is_led, is_lost, is_met, is_named, moves, moves_now, moves_on, moving_before, moving_searches, saw_mark}
use Rattle.kw_full.proofs.Leaders.{before_marked, frozen_marked, leader_marked, unled_live, unled_open}
use Rattle.kw_full.proofs.MarkLasts.{IsMarked, mark_lasts}
use Rattle.kw_full.proofs.MetLasts.{HasMet, IsSameOwn, met_full, met_marked, met_on, no_room}

-- What is kept.

pub record HaveMet (z : Sizes) (r : Run) : Type 0 where
  pub met : (t : ℕ) (k : Local) → slice_get r.world.locals t ≡ Some k → IsEngaging k.activity → HasMet z r t k.row (first_key k.call) k.tidies
  pub marks : (t : ℕ) (k : Local) → slice_get r.world.locals t ≡ Some k → IsMoving k.activity k → (p : ℕ) → k.rebalance.before ≡ Some p → IsMarked z r p

-- One event.

module _ (z : Sizes) (r r' : Run) (s : ℕ) (choice : Choice) (l l' : Local) (a : Activity) (h : Happens z r r' s choice l l' a) (v : Inv z r) (f : KeepsFrozen z r) (x : HaveMet z r) where
  i : Shape z r
  i = v.shape

  rows : Structure (rows_in (word z r.world)) r.ledger.rows (length r.history.log)
  rows = i.rows

  -- At the row of a put.

  put_fresh : (b : Activity) → l.activity ≡ b → IsAtRow b → IsFresh r.ledger.rows s l.row
  put_fresh b e y = ((i.walks s l h.knows).at (subst IsAtRow (sym e) y)).fresh

  -- one that puts does not tidy
  put_first : {A : Type 0} (b : Activity) → l.activity ≡ b → (IsBalancing b → ⊥) → (IsDone b → ⊥) → l.tidies ≡ true → A
  put_first b e n m t = which (i.tidies s l h.knows t)
    where
      which : {A : Type 0} → IsBalancing l.activity ⊎ IsDone l.activity → A
      which (inl y) = absurd (n (subst IsBalancing e y))
      which (inr y) = absurd (m (subst IsDone e y))

  -- a frozen entry of it
  entry_met : (key : ℕ) (tidies : Bool) → IsFresh r.ledger.rows s l.row → word z r.world (name.Pend l.row s) ≡ pend_word Frozen → HasMet z r s l.row key tidies
  entry_met key tidies fresh e =
      let k = fresh_linked r.ledger.rows s l.row fresh in
      met_marked (frozen_marked _ _ _ rows l.row k (f.entries l.row s k h.seat e))

  -- it gives no cell
  full_met : (b : Activity) → l.activity ≡ b → IsAtRow b → HoldsKey (word z r.world) r.ledger.rows l.row (first_key l.call) → (l.tidies ≡ true → HasStamped r s l.row) → has_room z (count_of (word z r.world (name.Count l.row))) ≡ false → HasMet z r s l.row (first_key l.call) l.tidies
  full_met b e y holds none room = which (no_room z _ (i.sane.each (name.Count l.row) (was_below z r i l.row k)) room)
    where
      k : WasLinked r.ledger.rows l.row
      k = fresh_linked r.ledger.rows s l.row (put_fresh b e y)

      which : IsFrozen (word z r.world) l.row ⊎ (z.cells ≤ given_in (word z r.world) l.row) → HasMet z r s l.row (first_key l.call) l.tidies
      which (inl c) = met_marked (frozen_marked _ _ _ rows l.row k c)
      which (inr c) = met_full holds (λ u. c) none

  -- it gives no cell to a seat that asks it
  asked_met : (b : Activity) → l.activity ≡ b → IsAsking b → has_room z (count_of (word z r.world (name.Count l.row))) ≡ false → HasMet z r s l.row (first_key l.call) l.tidies
  asked_met (Activity.Put Put.Count) e y room = full_met _ e tt (holds_put z r s l _ i h.knows e tt tt (λ u. u)) (λ t. put_first _ e (λ u. u) (λ u. u) t) room
  asked_met (Activity.Put Put.Add) e y room = full_met _ e tt (holds_put z r s l _ i h.knows e tt tt (λ u. u)) (λ t. put_first _ e (λ u. u) (λ u. u) t) room
  asked_met _ e y room = absurd y

  -- an entry that is not idle where the seat has announced nothing is frozen
  not_idle : l.activity ≡ Activity.Put Put.Announce → word z r.world (name.Pend l.row s) ≢ pend_word Idle → word z r.world (name.Pend l.row s) ≡ pend_word Frozen
  not_idle e d = which (v.puts.entry l.row s (was_below z r i l.row (fresh_linked r.ledger.rows s l.row (put_fresh _ e tt))) h.seat)
    where
      none : IsPublishedAt (slice_get r.world.locals) l.row s → ⊥
      none y =
          let same : l ≡ y.local = same_Some l y.local (sym h.knows ∙ y.knows) in
          subst (λ b. IsPublished b) (ap (λ (k : Local). k.activity) (sym same) ∙ e) y.published

      which : (word z r.world (name.Pend l.row s) ≡ pend_word Idle) ⊎ (word z r.world (name.Pend l.row s) ≡ pend_word Frozen) ⊎ IsPublishedAt (slice_get r.world.locals) l.row s → word z r.world (name.Pend l.row s) ≡ pend_word Frozen
      which (inl y) = absurd (d y)
      which (inr (inl y)) = y
      which (inr (inr y)) = absurd (none y)

  -- the cell of a put that is done is stamped
  done_stamped : a ≡ Activity.Put Put.Clear → HasStamped r s l.row
  done_stamped is = record { within = own.within; seat = own.seat; call = own.call; made = record { row = own.row; born = subst (λ q. (r.ledger.rows.fates q).born ≤ (attempt r.history (r.seats s).own).add) own.row (v.puts.present s l h.knows (subst IsPutting (sym e) tt)).born }; stamped = own.stamped (subst IsStamped (sym e) tt) }
    where
      e : l.activity ≡ Activity.Put Put.Clear
      e = h.activity ∙ is

      own : OwnsAttempt (word z r.world) r.history s l.activity l (r.seats s)
      own = v.puts.owns s l h.knows (subst IsPutting (sym e) tt)

  -- At another row.

  -- the row in which the link to the seat's row is found marked
  sees_before : SeesMark (word z r.world) l a → (p : ℕ) × (l.rebalance.before ≡ Some p) × IsFresh r.ledger.rows s p × IsMarked z r p
  sees_before (at_next is e) =
      let y : Search (word z r.world) r.ledger.rows s _ l = search_at _ (subst (Happens z r r' s choice l l') is h) i in
      let p = y.some tt in
      (p.0, p.1, y.fresh p.0 tt p.1, ap (λ b. has_mark (link_of (word z r.world (name.Next (row_or_first b))))) (sym p.1) ∙ ap has_mark e)
  sees_before (at_exchange is e) = which l.rebalance.before refl
    where
      y : Search (word z r.world) r.ledger.rows s (Activity.Rebalance (Rebalance.Replace Replace.Exchange)) l
      y = search_at _ (subst (Happens z r r' s choice l l') is h) i

      which : (b : Option ℕ) → l.rebalance.before ≡ b → (p : ℕ) × (l.rebalance.before ≡ Some p) × IsFresh r.ledger.rows s p × IsMarked z r p
      which (Some p) c = (p, c, y.fresh p tt c, ap (λ b. has_mark (link_of (word z r.world (replaced_link b)))) (sym c) ∙ ap has_mark e)
      which None c = absurd (head_open z r i l.row (ap (λ b. link_of (word z r.world (replaced_link b))) (sym c) ∙ e))

  -- the row to which the seat moves
  moves_to : IsMoving a l → (p : ℕ) × (l.rebalance.before ≡ Some p) × IsFresh r.ledger.rows s p × IsMarked z r p
  moves_to m =
      let y : Search (word z r.world) r.ledger.rows s a l = search_at a h i in
      let p = y.some (moving_before a l m) in
      (p.0, p.1, y.fresh p.0 (moving_searches a l m) p.1, x.marks s l h.knows (subst (λ b. IsMoving b l) (sym h.activity) m) p.0 p.1)

  -- the leader that it has reached
  reaches : a ≡ Activity.Rebalance (Rebalance.Left Left.Next) → next_in (word z r.world) (row_or_first l.rebalance.before) ≡ Some l.row → (p : ℕ) × (l.rebalance.before ≡ Some p) × IsFresh r.ledger.rows s p × IsMarked z r p
  reaches is e =
      let g = subst (Happens z r r' s choice l l') is h in
      let y : Search (word z r.world) r.ledger.rows s (Activity.Rebalance (Rebalance.Left Left.Next)) l = search_at _ g i in
      let p = y.some tt in
      let fresh = y.fresh p.0 tt p.1 in
      (p.0, p.1, fresh, before_marked _ _ _ rows s s p.0 l.row fresh (ap (λ b. next_in (word z r.world) (row_or_first b)) (sym p.1) ∙ e) (balance_at _ g i).group)

  -- The seat is about to engage a row.

  -- the log of a seat that goes on to engage a row
  own_same : (b : Activity) → IsEngaging b → Happens z r r' s choice l l' b → IsSameOwn r r' s
  own_same (Activity.Rebalance (Rebalance.Engage Engage.Clock)) y g = record { own = ap (λ (k : SeatLog). k.own) g.log; call = ap (λ (k : SeatLog). k.call) g.log }
  own_same (Activity.Rebalance (Rebalance.Engage Engage.Epoch)) y g = record { own = ap (λ (k : SeatLog). k.own) g.log; call = ap (λ (k : SeatLog). k.call) g.log }
  own_same (Activity.Rebalance (Rebalance.Engage Engage.State)) y g = record { own = ap (λ (k : SeatLog). k.own) g.log; call = ap (λ (k : SeatLog). k.call) g.log }
  own_same (Activity.Rebalance (Rebalance.Engage (Engage.Normal seat))) y g = record { own = ap (λ (k : SeatLog). k.own) g.log; call = ap (λ (k : SeatLog). k.call) g.log }
  own_same (Activity.Rebalance (Rebalance.Engage Engage.Lead)) y g = record { own = ap (λ (k : SeatLog). k.own) g.log; call = ap (λ (k : SeatLog). k.call) g.log }
  own_same _ y g = absurd y

  done_same : a ≡ Activity.Put Put.Clear → IsSameOwn r r' s
  done_same is = let g = subst (Happens z r r' s choice l l') is h in record { own = ap (λ (k : SeatLog). k.own) g.log; call = ap (λ (k : SeatLog). k.call) g.log }

  -- it is the same row, with the same call
  same_met : IsSame l l' → IsFresh r.ledger.rows s l.row → (l.tidies ≡ true → IsSameOwn r r' s) → HasMet z r s l.row (first_key l.call) l.tidies → HasMet z r' s l'.row (first_key l'.call) l'.tidies
  same_met e fresh same m = rw (e.row, e.call, e.tidies) (met_on z r r' s choice l l' a h v s l.row (first_key l.call) l.tidies (fresh_linked r.ledger.rows s l.row fresh) same m)

  -- or another one
  other_met : (p : ℕ) × (l.rebalance.before ≡ Some p) × IsFresh r.ledger.rows s p × IsMarked z r p → l'.row ≡ row_or_first l.rebalance.before → HasMet z r' s l'.row (first_key l'.call) l'.tidies
  other_met (p, e, fresh, m) is =
      let same : l'.row ≡ p = is ∙ ap row_or_first e in
      met_marked (subst (IsMarked z r') (sym same) (mark_lasts a h i p (fresh_linked r.ledger.rows s p fresh) m))

  own_met : ToEngage z (word z r.world) s l a l' → HasMet z r' s l'.row (first_key l'.call) l'.tidies
  own_met (is_full y room e) = same_met e (asked_fresh a h.activity y) (λ t. asked_first a h.activity y t) (asked_met a h.activity y room)
    where
      asked_fresh : (b : Activity) → l.activity ≡ b → IsAsking b → IsFresh r.ledger.rows s l.row
      asked_fresh (Activity.Put Put.Count) c u = put_fresh _ c tt
      asked_fresh (Activity.Put Put.Add) c u = put_fresh _ c tt
      asked_fresh _ c u = absurd u

      asked_first : {A : Type 0} (b : Activity) → l.activity ≡ b → IsAsking b → l.tidies ≡ true → A
      asked_first (Activity.Put Put.Count) c u t = put_first _ c (λ w. w) (λ w. w) t
      asked_first (Activity.Put Put.Add) c u t = put_first _ c (λ w. w) (λ w. w) t
      asked_first _ c u t = absurd u
  own_met (is_met is d e) =
      let c : l.activity ≡ Activity.Put Put.Announce = h.activity ∙ is in
      let fresh = put_fresh _ c tt in
      same_met e fresh (λ t. put_first _ c (λ w. w) (λ w. w) t) (entry_met _ _ fresh (not_idle c d))
  own_met (is_lost is d e) =
      let c : l.activity ≡ Activity.Put Put.Stamp = h.activity ∙ is in
      let fresh = put_fresh _ c tt in
      same_met e fresh (λ t. put_first _ c (λ w. w) (λ w. w) t) (entry_met _ _ fresh (lost_frozen z r s l (lower v) (v.puts.owns s l h.knows (subst IsPutting (sym c) tt)) h.knows c d))
  own_met (is_done is e c t) =
      let b : l.activity ≡ Activity.Put Put.Clear = h.activity ∙ is in
      let m = met_on z r r' s choice l l' a h v s l.row (first_key l.call) true (fresh_linked r.ledger.rows s l.row (put_fresh _ b tt)) (λ u. done_same is) (met_full (holds_put z r s l _ i h.knows b tt tt (λ u. u)) (λ u. let w : true ≡ false = u in absurd (cc)) (λ u. done_stamped is)) in
      rw (e, c, t) m
  own_met (goes_on y e) =
      let c : IsEngaging l.activity = subst IsEngaging (sym h.activity) y in
      same_met e ((i.balances s l h.knows).fresh (engaging_balances l.activity c)) (λ t. own_same a y h) (x.met s l h.knows c)
  own_met (has_moved m e) = other_met (moves_to m) e
  own_met (moves_now m e) = other_met (sees_before m) e
  own_met (is_led is m e) = other_met (reaches is m) e

  -- The seat is about to move.

  -- to a row that it knew before
  known_marks : (p : ℕ) × (l.rebalance.before ≡ Some p) × IsFresh r.ledger.rows s p × IsMarked z r p → l'.rebalance.before ≡ l.rebalance.before → (q : ℕ) → l'.rebalance.before ≡ Some q → IsMarked z r' q
  known_marks (p, e, fresh, m) is q c = subst (IsMarked z r') (same_Some p q (sym e ∙ sym is ∙ c)) (mark_lasts a h i p (fresh_linked r.ledger.rows s p fresh) m)

  -- to the leader that the state of its row named
  named_marks : (leader : ℕ) → a ≡ Activity.Rebalance (Rebalance.Engage Engage.State) → state_of (word z r.world (name.State l.row)) ≡ Some (Follower leader) → IsMarked z r' leader
  named_marks leader is e =
      let fresh = (i.balances s l h.knows).fresh (subst IsBalancing (sym (h.activity ∙ is)) tt) in
      let named = leader_named _ _ _ rows s l.row leader fresh (ap state_seen e) in
      mark_lasts a h i leader (fresh_linked r.ledger.rows s leader named) (leader_marked _ _ _ rows s l.row leader fresh (ap state_seen e))

  own_marks : ToMove (word z r.world) l a l' → (q : ℕ) → l'.rebalance.before ≡ Some q → IsMarked z r' q
  own_marks (saw_mark m e) q c = known_marks (sees_before m) e q c
  own_marks (moves_on m e) q c = known_marks (moves_to m) e q c
  own_marks (is_named leader is e n) q c = subst (IsMarked z r') (same_Some leader q (sym n ∙ c)) (named_marks leader is e)

  -- All seats.

  pub met_keeps : HaveMet z r'
  met_keeps = record {
    met = each_seat h (λ t k. IsEngaging k.activity → HasMet z r' t k.row (first_key k.call) k.tidies) (λ y. which y (heads z (word z r.world) s l choice a l' h.arrow)) (λ t k d g y.
        met_on z r r' s choice l l' a h v t k.row (first_key k.call) k.tidies (fresh_linked r.ledger.rows t k.row ((i.balances t k g).fresh (engaging_balances k.activity y))) (λ e. record { own = ap (λ (b : SeatLog). b.own) (h.logs t d); call = ap (λ (b : SeatLog). b.call) (h.logs t d) }) (x.met t k g y));
    marks = each_seat h (λ t k. IsMoving k.activity k → (p : ℕ) → k.rebalance.before ≡ Some p → IsMarked z r' p) (λ y p e. here y p e (heads z (word z r.world) s l choice a l' h.arrow)) (λ t k d g y p e.
        mark_lasts a h i p (fresh_linked r.ledger.rows t p ((i.search t k g).fresh p (moving_searches k.activity k y) e)) (x.marks t k g y p e));
  }
    where
      which : IsEngaging l'.activity → Heads z (word z r.world) s l a l' → HasMet z r' s l'.row (first_key l'.call) l'.tidies
      which y (engages m n) = own_met m
      which y (moves m n) = absurd (n y)
      which y (elsewhere m n) = absurd (m y)

      here : IsMoving l'.activity l' → (p : ℕ) → l'.rebalance.before ≡ Some p → Heads z (word z r.world) s l a l' → IsMarked z r' p
      here y p e (engages m n) = absurd (n y)
      here y p e (moves m n) = own_marks m p e
      here y p e (elsewhere m n) = absurd (n y)

-- Where a run begins every seat is idle.
pub met_start : (z : Sizes) (o : Opening) → HaveMet z (start z o)
met_start z o = record {
  met = each_rests z o (λ t k. IsEngaging k.activity → HasMet z (start z o) t k.row (first_key k.call) k.tidies) (λ t y. absurd y);
  marks = each_rests z o (λ t k. IsMoving k.activity k → (p : ℕ) → k.rebalance.before ≡ Some p → IsMarked z (start z o) p) (λ t y. absurd y);
}

-- A row that nobody has engaged has no marked link, so it is full where a seat is about to do so.
pub full_kept : (z : Sizes) (r : Run) → Inv z r → HaveMet z r → KeepsFull z r
full_kept z r v x = record {
  rows = λ t l g y u. which t l u (fresh t l g y) (x.met t l g y);
  moves = λ t l g is after p e. x.marks t l g (subst (λ b. IsMoving b l) (sym is) after) p e;
}
  where
    fresh : (t : ℕ) (l : Local) → slice_get r.world.locals t ≡ Some l → IsEngaging l.activity → WasLinked r.ledger.rows l.row
    fresh t l g y = fresh_linked r.ledger.rows t l.row ((v.shape.balances t l g).fresh (engaging_balances l.activity y))

    which : (t : ℕ) (l : Local) → IsUnled ((rows_in (word z r.world)).state l.row) → WasLinked r.ledger.rows l.row → HasMet z r t l.row (first_key l.call) l.tidies → IsFullRow z r t l
    which t l u k m = saw (unled_live _ _ _ v.shape.rows l.row k u) m
      where
        saw : IsLive r.ledger.rows l.row → HasMet z r t l.row (first_key l.call) l.tidies → IsFullRow z r t l
        saw a (met_full holds given stamped) = record { live = a; holds = holds; given = given; tidied = stamped }
        saw a (met_marked e) = unled_open _ _ _ v.shape.rows l.row a u e
