-- The rows that a seat names. It is in a visit then, and may name them; a row that it may name is
-- there for it; and whatever word of a row an event touches, but for its state, is one of a row
-- that its seat names, or of an infant of it.
use Rattle.std.proofs.Common.{ℕ, ◌≡◌, inl, inr, ◌<◌, Bool, true, false, Option, Some, None, sym, ◌∙◌, ap, subst, length}
use Rattle.kw_words.specs.declared.layout.Name.TheVariants as name
use Rattle.kw_words.specs.declared.state.State.TheVariants as state
use Rattle.kw_words.specs.State.{state_of}
use Rattle.kw_rows.specs.Ledger.{Ledger, IsDead, IsFresh, IsLive}
use Rattle.kw_rows.specs.RowState.{State}
use Rattle.kw_rows.specs.Group.{Group}
use Rattle.kw_rows.specs.Rows.{Chain, Closed}
use Rattle.kw_rows.specs.States.{HasState, IsDeadState, IsLiveState, States}
use Rattle.kw_rows.proofs.Framed.{dead_state}
use Rattle.kw_rows.proofs.Named.{fresh_next}
use Rattle.kw_world.specs.declared.activity.Activity.{Activity}
use Rattle.kw_world.specs.declared.activity.rebalance.claim.Claim.TheVariants as Claim
use Rattle.kw_world.specs.declared.activity.rebalance.engage.Engage.TheVariants as Engage
use Rattle.kw_world.specs.declared.activity.enter.Enter.TheVariants as Enter
use Rattle.kw_world.specs.declared.activity.rebalance.freeze.Freeze.TheVariants as Freeze
use Rattle.kw_world.specs.declared.activity.rebalance.gather.Gather.TheVariants as Gather
use Rattle.kw_world.specs.declared.activity.insert.Insert.TheVariants as Insert
use Rattle.kw_world.specs.declared.activity.look.Look.TheVariants as Look
use Rattle.kw_world.specs.declared.activity.put.Put.TheVariants as Put
use Rattle.kw_world.specs.declared.activity.read.Read.TheVariants as Read
use Rattle.kw_world.specs.declared.activity.rebalance.left.Left.TheVariants as Left
use Rattle.kw_world.specs.declared.activity.rebalance.Rebalance.TheVariants as Rebalance
use Rattle.kw_world.specs.declared.activity.rebalance.replace.Replace.TheVariants as Replace
use Rattle.kw_world.specs.declared.activity.rebalance.seek.Seek.TheVariants as Seek
use Rattle.kw_world.specs.declared.activity.walk.Walk.TheVariants as Walk
use Rattle.kw_world.specs.declared.activity.rebalance.write.Write.TheVariants as Write
use Rattle.kw_world.specs.declared.activity.draw.Draw.TheVariants as Draw
use Rattle.kw_world.specs.declared.event.Choice.{Choice}
use Rattle.kw_world.specs.declared.event.Choice.TheVariants.{Begin, Go, Guess, Stop}
use Rattle.kw_world.specs.declared.local.Local.{Local}
use Rattle.kw_world.specs.LeftTransitions.{left_transition}
use Rattle.kw_world.specs.ListTransitions.{cell_guess, first_operation, link_name}
use Rattle.kw_world.specs.ReplaceTransitions.{before_transition, replaced_link}
use Rattle.kw_world.specs.SeekTransitions.{infant, seek_first_transition}
use Rattle.kw_world.specs.Sizes.{Sizes}
use Rattle.kw_world.specs.Table.{transition}
use Rattle.kw_world.specs.Transition.{row_or_first}
use Rattle.kw_world.specs.WalkTransitions.{is_stopped, start_transition, walk_transition}
use Rattle.kw_core.specs.Stages.{IsAtRow, IsBalancing, IsVisiting}
use Rattle.kw_core.specs.Words.{Words}
use Rattle.kw_reads.specs.Contents.{HasRow, HasCandidate}
use Rattle.kw_shape.proofs.LinkedRows.{live_reached}
use Rattle.kw_shape.proofs.InfantsStay.{infant_at}
use Rattle.kw_shape.specs.Balances.{Balances, claiming, marking_next}
use Rattle.kw_shape.specs.Hands.{Hand, HasHand, HasNext, at_first, at_second}
use Rattle.kw_shape.specs.Infants.{HasAtHand, IsNursedRow, nursing_of}
use Rattle.kw_shape.specs.ReachedRows.{IsReached}
use Rattle.kw_shape.specs.RowsIn.{rows_in, state_seen}
use Rattle.kw_shape.specs.Search.{HasBefore, HasReachedNext, IsSearching, Search}
use Rattle.kw_shape.specs.Shape.{Walks}
use Rattle.kw_shape.specs.Won.{IsNormalising, Won}
use Rattle.kw_laws.specs.Reach.{IsNamed, IsRowWord, names_row, names_candidate, names_next, names_full, names_after, names_second, names_before, names_reached, names_new}

-- Which rows a seat names.

-- an activity of a family that has none out of a visit is in one
visiting_by : (P : Activity → Type 0) → (P Activity.Idle → ⊥) → (P (Activity.Enter Enter.Announce) → ⊥) → (P (Activity.Enter Enter.LoadEpoch) → ⊥) → (a : Activity) → P a → IsVisiting a
visiting_by P idle enter again Activity.Idle x = absurd (idle x)
visiting_by P idle enter again (Activity.Enter Enter.Announce) x = absurd (enter x)
visiting_by P idle enter again (Activity.Enter Enter.LoadEpoch) x = absurd (again x)
visiting_by P idle enter again _ x = tt

-- a seat that names a row is in a visit
pub named_visits : (a : Activity) (l : Local) (q : ℕ) → IsNamed a l q → IsVisiting a
named_visits a l q (names_row x e) = visiting_by HasRow (λ y. y) (λ y. y) (λ y. y) a x
named_visits a l q (names_candidate x e) = visiting_by HasCandidate (λ y. y) (λ y. y) (λ y. y) a x
named_visits a l q (names_next x e) = visiting_by IsAtRow (λ y. y) (λ y. y) (λ y. y) a x
named_visits a l q (names_full x e) = visiting_by IsBalancing (λ y. y) (λ y. y) (λ y. y) a x
named_visits a l q (names_after x e) = visiting_by HasNext (λ y. y) (λ y. y) (λ y. y) a x
named_visits a l q (names_second x e) = visiting_by IsBalancing (λ y. y) (λ y. y) (λ y. y) a x
named_visits a l q (names_before x e) = visiting_by (λ b. IsSearching b l) (λ y. y) (λ y. y) (λ y. y) a x
named_visits a l q (names_reached x e) = visiting_by HasReachedNext (λ y. y) (λ y. y) (λ y. y) a x
named_visits a l q (names_new x i e) = visiting_by IsNormalising (λ y. y) (λ y. y) (λ y. y) a x

-- it may name the row of its walk, or at which it is
row_fresh : (v : Words) (g : Ledger) (t : ℕ) (a : Activity) (l : Local) → Walks v g t a l → HasRow a → IsFresh g t l.row
row_fresh v g t (Activity.Walk Walk.GuessedLeast) l w x = w.on
row_fresh v g t (Activity.Walk Walk.Next) l w x = w.on.0
row_fresh v g t (Activity.Walk Walk.NextLeast) l w x = w.on.0
row_fresh v g t (Activity.Put Put.Count) l w x = (w.at x).fresh
row_fresh v g t _ l w x = (w.at x).fresh

-- and the one that it has reached next
candidate_fresh : (v : Words) (g : Ledger) (t : ℕ) (a : Activity) (l : Local) → Walks v g t a l → HasCandidate a → IsFresh g t l.candidate
candidate_fresh v g t (Activity.Walk Walk.NextLeast) l w x = w.on.2
candidate_fresh v g t _ l w x = absurd x

-- and the row that may go along with its full one, to which the full one's link leads
next_fresh : (v : Words) (g : Ledger) → Closed (rows_in v) g → (t : ℕ) (a : Activity) (l : Local) → Balances v g t a l → (q : ℕ) → HasNext a → l.rebalance.after ≡ Some q → IsFresh g t q
next_fresh v g c t (Activity.Rebalance (Rebalance.Engage (Engage.Decide count))) l b q x e = fresh_next (rows_in v) g c t l.row q (b.fresh tt) (b.group.0.next ∙ e)
next_fresh v g c t (Activity.Rebalance (Rebalance.Claim Claim.Count)) l b q x e = fresh_next (rows_in v) g c t l.row q (b.fresh tt) (b.group.0.next ∙ e)
next_fresh v g c t (Activity.Rebalance (Rebalance.Claim Claim.Exchange)) l b q x e = fresh_next (rows_in v) g c t l.row q (b.fresh tt) (subst (λ o. Group (rows_in v) g (claiming l.row o)) e b.group).0.next
next_fresh v g c t (Activity.Rebalance (Rebalance.Claim (Claim.Normal seat))) l b q x e = fresh_next (rows_in v) g c t l.row q (b.fresh tt) (subst (λ o. Group (rows_in v) g (claiming l.row o)) e b.group).0.next
next_fresh v g c t (Activity.Rebalance (Rebalance.Claim Claim.MarkLink)) l b q x e = fresh_next (rows_in v) g c t l.row q (b.fresh tt) (subst (λ o. Group (rows_in v) g (marking_next l.row o)) e b.group).0.next
next_fresh v g c t _ l b q x e = absurd x

-- whatever it names it may name
pub named_fresh : (v : Words) (g : Ledger) → Closed (rows_in v) g → (t : ℕ) (a : Activity) (l : Local) → Walks v g t a l → Balances v g t a l → Search v g t a l → Won g t a l → (q : ℕ) → IsNamed a l q → IsFresh g t q
named_fresh v g c t a l w b s n q (names_row x e) = subst (IsFresh g t) (sym e) (row_fresh v g t a l w x)
named_fresh v g c t a l w b s n q (names_candidate x e) = subst (IsFresh g t) (sym e) (candidate_fresh v g t a l w x)
named_fresh v g c t a l w b s n q (names_next x e) = ((w.at x).next q e).fresh
named_fresh v g c t a l w b s n q (names_full x e) = subst (IsFresh g t) (sym e) (b.fresh x)
named_fresh v g c t a l w b s n q (names_after x e) = next_fresh v g c t a l b q x e
named_fresh v g c t a l w b s n q (names_second x e) = b.along q x e
named_fresh v g c t a l w b s n q (names_before x e) = s.fresh q x e
named_fresh v g c t a l w b s n q (names_reached x e) = subst (IsFresh g t) (sym e) (s.saw x)
named_fresh v g c t a l w b s n q (names_new x i e) = n.fresh x i q e

-- What is there for a seat.

module _ (v : Words) (g : Ledger) (states : States (rows_in v) g) (q : ℕ) where
  -- the state of a row of the list, and of one that was in it
  live_state : (s : State) → IsLive g q → (rows_in v).state q ≡ s → IsLiveState (rows_in v) g q s
  live_state s a e = subst (IsLiveState (rows_in v) g q) e (subst (HasState (rows_in v) g q) a (states q))

  gone_state : (s : State) → IsDead g q → (rows_in v).state q ≡ s → IsDeadState g q s
  gone_state s a e = subst (IsDeadState g q) e (dead_state (rows_in v) g q states a)

  -- a row that a seat may name is not free
  pub fresh_taken : (t : ℕ) → IsFresh g t q → state_of (v (name.State q)) ≡ Some state.Free → ⊥
  fresh_taken t (inl a) e = live_state _ a (ap state_seen e)
  fresh_taken t (inr a) e = gone_state _ a.dead (ap state_seen e)

  -- where it is an infant it is in the list
  pub fresh_reached : (t s : ℕ) → Chain (rows_in v) g → IsFresh g t q → state_of (v (name.State q)) ≡ Some (state.Infant s) → IsReached v q
  fresh_reached t s chain (inl a) e = live_reached v g chain q a
  fresh_reached t s chain (inr a) e = absurd (gone_state _ a.dead (ap state_seen e))

-- Which words an event touches.

-- a link between cells of a row is a word of that row
link_row : (r q : ℕ) (link : Option ℕ) → IsRowWord (link_name r link) q → q ≡ r
link_row r q (Some c) w = w
link_row r q None w = w

-- and so is the first word of a walk along its list
first_row : (l : Local) (q : ℕ) (g : Option ℕ) → IsRowWord (first_operation g l).name q → q ≡ l.row
first_row l q (Some c) w = w
first_row l q None w = link_row l.row q l.link w

-- the row before or after, where there is one
that_row : (b : Option ℕ) (q : ℕ) → (p : ℕ) × (b ≡ Some p) → q ≡ row_or_first b → b ≡ Some q
that_row b q p w = p.1 ∙ ap Some (sym (w ∙ ap row_or_first p.1))

-- the link that leads to the full row stands in the row before it
replaced_row : (b : Option ℕ) (q : ℕ) → IsRowWord (replaced_link b) q → b ≡ Some q
replaced_row (Some p) q w = ap Some (sym w)
replaced_row None q w = absurd w

-- the row at hand is one of the infants
nursed_row : (a : Activity) (l : Local) (q : ℕ) → IsNursedRow a l (infant l) → q ≡ infant l → IsNursedRow a l q
nursed_row a l q n w = subst (IsNursedRow a l) (sym w) n

-- the row of its group that is at hand is one that it names
at_hand : (a : Activity) (l : Local) (q : ℕ) → IsBalancing a → Hand l → q ≡ l.rebalance.hand → IsNamed a l q
at_hand a l q x (at_first e f) w = names_full x (w ∙ e)
at_hand a l q x (at_second e f) w = names_second x (e ∙ ap Some (sym w))

-- the row is one that the seat names, or an infant of it
pub data IsTouched (a : Activity) (l : Local) (q : ℕ) : Type 0 where
  of_named : IsNamed a l q → IsTouched a l q
  of_infant : IsNursedRow a l q → IsTouched a l q

-- each line of the table touches words of such a row, or states alone
pub touched : (z : Sizes) (s : ℕ) (choice : Choice) (l : Local) (a : Activity) (q : ℕ) → (HasBefore a l → (p : ℕ) × (l.rebalance.before ≡ Some p)) → (HasAtHand (nursing_of a) → l.rebalance.at < length l.rebalance.taken) → (HasNext a → (c : ℕ) × (l.rebalance.after ≡ Some c)) → (HasHand a → Hand l) →
    IsRowWord (transition z a s choice l).operation.name q → IsTouched a l q
touched z s choice l (Activity.Walk Walk.Start) q some hand next hands w = starts choice w
  where
    starts : (c : Choice) → IsRowWord (start_transition c l).operation.name q → IsTouched (Activity.Walk Walk.Start) l q
    starts (Begin call) x = absurd x
    starts Go x = absurd x
    starts (Guess r) x = absurd x
    starts Stop x = absurd x
touched z s choice l (Activity.Walk Walk.GuessedLeast) q some hand next hands w = of_named (names_row tt w)
touched z s choice l (Activity.Walk Walk.Next) q some hand next hands w = walks (is_stopped choice l) w
  where
    walks : (b : Bool) → IsRowWord (walk_transition b s l).operation.name q → IsTouched (Activity.Walk Walk.Next) l q
    walks true x = absurd x
    walks false x = of_named (names_row tt x)
touched z s choice l (Activity.Walk Walk.NextLeast) q some hand next hands w = of_named (names_candidate tt w)
touched z s choice l (Activity.Look (Look.Entry i)) q some hand next hands w = of_named (names_row tt w)
touched z s choice l (Activity.Look Look.Key) q some hand next hands w = of_named (names_row tt w)
touched z s choice l (Activity.Look Look.Help) q some hand next hands w = of_named (names_row tt w)
touched z s choice l (Activity.Read Read.Start) q some hand next hands w = of_named (names_row tt (first_row l q (cell_guess choice l) w))
touched z s choice l (Activity.Read Read.Link) q some hand next hands w = of_named (names_row tt (link_row l.row q l.link w))
touched z s choice l (Activity.Read _) q some hand next hands w = of_named (names_row tt w)
touched z s choice l (Activity.Put Put.Count) q some hand next hands w = of_named (names_row tt w)
touched z s choice l (Activity.Put Put.Add) q some hand next hands w = of_named (names_row tt w)
touched z s choice l (Activity.Put Put.Key) q some hand next hands w = of_named (names_row tt w)
touched z s choice l (Activity.Put Put.Value) q some hand next hands w = of_named (names_row tt w)
touched z s choice l (Activity.Put Put.Announce) q some hand next hands w = of_named (names_row tt w)
touched z s choice l (Activity.Put Put.Stamp) q some hand next hands w = of_named (names_row tt w)
touched z s choice l (Activity.Put Put.Version) q some hand next hands w = of_named (names_row tt w)
touched z s choice l (Activity.Insert Insert.Start) q some hand next hands w = of_named (names_row tt (first_row l q (cell_guess choice l) w))
touched z s choice l (Activity.Insert Insert.Link) q some hand next hands w = of_named (names_row tt (link_row l.row q l.link w))
touched z s choice l (Activity.Insert Insert.Exchange) q some hand next hands w = of_named (names_row tt (link_row l.row q l.link w))
touched z s choice l (Activity.Insert _) q some hand next hands w = of_named (names_row tt w)
touched z s choice l (Activity.Put Put.Clear) q some hand next hands w = of_named (names_row tt w)
touched z s choice l (Activity.Rebalance (Rebalance.Engage (Engage.MarkLink count))) q some hand next hands w = of_named (names_full tt w)
touched z s choice l (Activity.Rebalance (Rebalance.Claim Claim.Count)) q some hand next hands w = of_named (names_after tt (that_row l.rebalance.after q (next tt) w))
touched z s choice l (Activity.Rebalance (Rebalance.Claim Claim.MarkLink)) q some hand next hands w = of_named (names_after tt (that_row l.rebalance.after q (next tt) w))
touched z s choice l (Activity.Rebalance (Rebalance.Left Left.Start)) q some hand next hands w = leaves choice w
  where
    leaves : (c : Choice) → IsRowWord (left_transition c l).operation.name q → IsTouched (Activity.Rebalance (Rebalance.Left Left.Start)) l q
    leaves (Begin call) x = absurd x
    leaves Go x = absurd x
    leaves (Guess r) x = of_named (names_before tt (that_row l.rebalance.before q (some tt) x))
    leaves Stop x = absurd x
touched z s choice l (Activity.Rebalance (Rebalance.Left Left.Next)) q some hand next hands w = of_named (names_before tt (that_row l.rebalance.before q (some tt) w))
touched z s choice l (Activity.Rebalance (Rebalance.Left Left.NextLeast)) q some hand next hands w = of_named (names_reached tt w)
touched z s choice l (Activity.Rebalance (Rebalance.Freeze Freeze.Count)) q some hand next hands w = of_named (at_hand (Activity.Rebalance (Rebalance.Freeze Freeze.Count)) l q tt (hands tt) w)
touched z s choice l (Activity.Rebalance (Rebalance.Freeze (Freeze.Look i))) q some hand next hands w = of_named (at_hand (Activity.Rebalance (Rebalance.Freeze (Freeze.Look i))) l q tt (hands tt) w)
touched z s choice l (Activity.Rebalance (Rebalance.Freeze (Freeze.Entry i))) q some hand next hands w = of_named (at_hand (Activity.Rebalance (Rebalance.Freeze (Freeze.Entry i))) l q tt (hands tt) w)
touched z s choice l (Activity.Rebalance (Rebalance.Gather Gather.Link)) q some hand next hands w = of_named (at_hand (Activity.Rebalance (Rebalance.Gather Gather.Link)) l q tt (hands tt) (link_row l.rebalance.hand q l.link w))
touched z s choice l (Activity.Rebalance (Rebalance.Gather _)) q some hand next hands w = of_named (at_hand (Activity.Rebalance (Rebalance.Gather _)) l q tt (hands tt) w)
touched z s choice l (Activity.Rebalance (Rebalance.Seek Seek.First)) q some hand next hands w = seeks choice w
  where
    seeks : (c : Choice) → IsRowWord (seek_first_transition c l).operation.name q → IsTouched (Activity.Rebalance (Rebalance.Seek Seek.First)) l q
    seeks (Begin call) x = absurd x
    seeks Go x = absurd x
    seeks (Guess r) x = absurd x
    seeks Stop x = absurd x
touched z s choice l (Activity.Rebalance (Rebalance.Write Write.Count)) q some hand next hands w = of_infant (nursed_row (Activity.Rebalance (Rebalance.Write Write.Count)) l q (l.rebalance.at, tt, infant_at l (hand tt)) w)
touched z s choice l (Activity.Rebalance (Rebalance.Write Write.Least)) q some hand next hands w = of_infant (nursed_row (Activity.Rebalance (Rebalance.Write Write.Least)) l q (l.rebalance.at, tt, infant_at l (hand tt)) w)
touched z s choice l (Activity.Rebalance (Rebalance.Write Write.Next)) q some hand next hands w = of_infant (nursed_row (Activity.Rebalance (Rebalance.Write Write.Next)) l q (l.rebalance.at, tt, infant_at l (hand tt)) w)
touched z s choice l (Activity.Rebalance (Rebalance.Write Write.First)) q some hand next hands w = of_infant (nursed_row (Activity.Rebalance (Rebalance.Write Write.First)) l q (l.rebalance.at, tt, infant_at l (hand tt)) w)
touched z s choice l (Activity.Rebalance (Rebalance.Write (Write.Entry i))) q some hand next hands w = of_infant (nursed_row (Activity.Rebalance (Rebalance.Write (Write.Entry i))) l q (l.rebalance.at, tt, infant_at l (hand tt)) w)
touched z s choice l (Activity.Rebalance (Rebalance.Write (Write.Key j))) q some hand next hands w = of_infant (nursed_row (Activity.Rebalance (Rebalance.Write (Write.Key j))) l q (l.rebalance.at, tt, infant_at l (hand tt)) w)
touched z s choice l (Activity.Rebalance (Rebalance.Write (Write.Value j))) q some hand next hands w = of_infant (nursed_row (Activity.Rebalance (Rebalance.Write (Write.Value j))) l q (l.rebalance.at, tt, infant_at l (hand tt)) w)
touched z s choice l (Activity.Rebalance (Rebalance.Write (Write.Version j))) q some hand next hands w = of_infant (nursed_row (Activity.Rebalance (Rebalance.Write (Write.Version j))) l q (l.rebalance.at, tt, infant_at l (hand tt)) w)
touched z s choice l (Activity.Rebalance (Rebalance.Write (Write.After j))) q some hand next hands w = of_infant (nursed_row (Activity.Rebalance (Rebalance.Write (Write.After j))) l q (l.rebalance.at, tt, infant_at l (hand tt)) w)
touched z s choice l (Activity.Rebalance (Rebalance.Replace Replace.Start)) q some hand next hands w = begins choice w
  where
    begins : (c : Choice) → IsRowWord (before_transition c l).operation.name q → IsTouched (Activity.Rebalance (Rebalance.Replace Replace.Start)) l q
    begins (Begin call) x = absurd x
    begins Go x = absurd x
    begins (Guess r) x = absurd x
    begins Stop x = absurd x
touched z s choice l (Activity.Rebalance (Rebalance.Replace Replace.GuessedLeast)) q some hand next hands w = of_named (names_before tt (that_row l.rebalance.before q (some tt) w))
touched z s choice l (Activity.Rebalance (Rebalance.Replace Replace.Next)) q some hand next hands w = of_named (names_before tt (that_row l.rebalance.before q (some tt) w))
touched z s choice l (Activity.Rebalance (Rebalance.Replace Replace.NextLeast)) q some hand next hands w = of_named (names_reached tt w)
touched z s choice l (Activity.Rebalance (Rebalance.Replace Replace.Exchange)) q some hand next hands w = of_named (names_before tt (replaced_row l.rebalance.before q w))
touched z s choice l (Activity.Enter Enter.Announce) q some hand next hands w = absurd w
touched z s choice l (Activity.Draw Draw.Clock) q some hand next hands w = absurd w
touched z s choice l _ q some hand next hands w = absurd w
