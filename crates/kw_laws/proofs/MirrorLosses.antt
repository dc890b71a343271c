-- The record says of lost attempts what the events say: an attempt is lost where a seat that
-- rebalances freezes its entry, and until then the entry was pending since the attempt was
-- announced.
use Rattle.std.proofs.Common.{ℕ, ◌≡◌, ◌⊎◌, inl, inr, ◌+◌, ◌<◌, ◌≤◌, Bool, true, false, Option, Some, None, List, [], ◌∷◌, ◌++◌, arith, refl, sym, ◌∙◌, ap, subst, length, length-append}
use Rattle.std.specs.Prelude.{take}
use Rattle.std.proofs.lemmas.Bool.{cases_lt}
use Rattle.std.proofs.lemmas.List.{take-append-le, take_all}
use Rattle.kw_words.specs.declared.kind.Kind.TheVariants as kind
use Rattle.kw_words.specs.declared.layout.Name.TheVariants as name
use Rattle.kw_words.specs.declared.pend.Pend.{Pend}
use Rattle.kw_words.specs.declared.pend.Pend.TheVariants as pend
use Rattle.kw_words.specs.Pend.{pend_word}
use Rattle.kw_world.specs.declared.activity.Activity.{Activity}
use Rattle.kw_world.specs.declared.activity.rebalance.freeze.Freeze.TheVariants as Freeze
use Rattle.kw_world.specs.declared.activity.rebalance.Rebalance.TheVariants as Rebalance
use Rattle.kw_world.specs.declared.activity.rebalance.replace.Replace.TheVariants as Replace
use Rattle.kw_world.specs.declared.activity.rebalance.seek.Seek.TheVariants as Seek
use Rattle.kw_world.specs.declared.activity.walk.Walk.TheVariants as Walk
use Rattle.kw_world.specs.declared.activity.draw.Draw.TheVariants as Draw
use Rattle.kw_world.specs.declared.activity.rebalance.claim.Claim.TheVariants as Claim
use Rattle.kw_world.specs.declared.activity.rebalance.engage.Engage.TheVariants as Engage
use Rattle.kw_world.specs.declared.activity.rebalance.left.Left.TheVariants as Left
use Rattle.kw_world.specs.declared.activity.enter.Enter.TheVariants as Enter
use Rattle.kw_world.specs.declared.activity.rebalance.gather.Gather.TheVariants as Gather
use Rattle.kw_world.specs.declared.activity.insert.Insert.TheVariants as Insert
use Rattle.kw_world.specs.declared.activity.look.Look.TheVariants as Look
use Rattle.kw_world.specs.declared.activity.put.Put.TheVariants as Put
use Rattle.kw_world.specs.declared.activity.read.Read.TheVariants as Read
use Rattle.kw_world.specs.declared.activity.rebalance.write.Write.TheVariants as Write
use Rattle.kw_world.specs.declared.event.Choice.{Choice}
use Rattle.kw_world.specs.declared.event.Choice.TheVariants.{Begin, Go, Guess, Stop}
use Rattle.kw_world.specs.declared.event.Event.{Event}
use Rattle.kw_world.specs.declared.local.Local.{Local}
use Rattle.kw_world.specs.declared.opening.Opening.{Opening}
use Rattle.kw_world.specs.declared.operation.Action.TheVariants.{Exchange}
use Rattle.kw_world.specs.declared.operation.Operation.{Operation}
use Rattle.kw_world.specs.Opening.{IsOpening}
use Rattle.kw_world.specs.LeftTransitions.{left_transition}
use Rattle.kw_world.specs.ReplaceTransitions.{before_transition}
use Rattle.kw_world.specs.Sane.{IsActivity}
use Rattle.kw_world.specs.SeekTransitions.{seek_first_transition}
use Rattle.kw_world.specs.Sizes.{Sizes}
use Rattle.kw_world.specs.Step.{step, word}
use Rattle.kw_world.specs.Table.{transition}
use Rattle.kw_world.specs.ListTransitions.{cell_guess, first_operation}
use Rattle.kw_world.specs.WalkTransitions.{is_stopped, offered, start_transition, walk_transition}
use Rattle.kw_world.specs.WorldView.{WorldView}
use Rattle.kw_core.specs.Events.{is_valid, may_step, world}
use Rattle.kw_core.specs.History.{History, attempt}
use Rattle.kw_core.specs.Noted.{noted}
use Rattle.kw_core.specs.Run.{Run, change_of, goes_on, history, logged, losing, noted_by, start}
use Rattle.kw_core.specs.Run as led
use Rattle.kw_core.specs.declared.history.Attempt.{Attempt}
use Rattle.kw_core.specs.declared.history.Change.TheVariants.{Loses, Nothing}
use Rattle.kw_core.specs.Stages.{IsFresh, IsPutting}
use Rattle.kw_core.proofs.Changes.{made}
use Rattle.kw_core.proofs.Events.{may_come, world-nil, world-snoc}
use Rattle.kw_core.proofs.Happens.{Happens, chosen, found_at, happens}
use Rattle.kw_core.proofs.NotedLaws.{attempt_set_same}
use Rattle.kw_core.proofs.Runs.{goes_on-moved, goes_on-world}
use Rattle.kw_puts.proofs.FrozenRows.{announced_pending}
use Rattle.kw_puts.proofs.NewAttempts.{IsNew, attempt_was}
use Rattle.kw_puts.proofs.Owners.{IsPendingOf, entry_owner, own_origin, pending_own, published_puts, true_false}
use Rattle.kw_puts.proofs.Rely.{GoesOn}
use Rattle.kw_puts.specs.Puts.{OwnsAttempt}
use Rattle.kw_reads.specs.Inv.{Inv, lower}
use Rattle.kw_reads.proofs.Keeps.{inv_goes_on}
use Rattle.kw_reads.proofs.Opens.{inv_start}
use Rattle.kw_reads.proofs.Relying.{goes_on_by}
use Rattle.kw_laws.specs.Mirror.{Acts, operation}
use Rattle.kw_laws.specs.MirrorLosses.{IsLossOf, IsLostAt, MirrorsLosses, freezing}
use Rattle.kw_laws.proofs.Acting.{acting_now, acts_now}
use Rattle.kw_laws.proofs.Along.{holds_along}
use Rattle.kw_laws.proofs.CausesLast.{acts_on, acts_was}
use Rattle.kw_laws.proofs.Occurs.{occurs_within}
use Rattle.kw_laws.proofs.Over.{AttemptOver, attempt_over, is_announced, is_helped, is_lost, is_stamped, stays}

-- Which line freezes an entry.

-- the first event of a walk along a list freezes none
first_freezes_none : (l : Local) (g : Option ℕ) → (first_operation g l).kind ≡ kind.FreezePend → ⊥
first_freezes_none l (Some cell) y = cc
first_freezes_none l None y = cc

-- only that of a seat which freezes one is of this kind
freeze_line : (z : Sizes) (s : ℕ) (choice : Choice) (l : Local) (a : Activity) → (transition z a s choice l).operation.kind ≡ kind.FreezePend → (i : ℕ) × (a ≡ Activity.Rebalance (Rebalance.Freeze (Freeze.Entry i)))
freeze_line z s choice l (Activity.Rebalance (Rebalance.Freeze (Freeze.Entry i))) e = (i, refl)
freeze_line z s choice l (Activity.Walk Walk.Start) e = absurd (starts choice e)
  where
    starts : (d : Choice) → (start_transition d l).operation.kind ≡ kind.FreezePend → ⊥
    starts (Begin call) y = cc
    starts Go y = cc
    starts (Guess d) y = cc
    starts Stop y = cc
freeze_line z s choice l (Activity.Walk Walk.Next) e = absurd (walks (is_stopped choice l) e)
  where
    walks : (b : Bool) → (walk_transition b s l).operation.kind ≡ kind.FreezePend → ⊥
    walks true y = cc
    walks false y = cc
freeze_line z s choice l (Activity.Rebalance (Rebalance.Seek Seek.First)) e = absurd (seeks choice e)
  where
    seeks : (d : Choice) → (seek_first_transition d l).operation.kind ≡ kind.FreezePend → ⊥
    seeks (Begin call) y = cc
    seeks Go y = cc
    seeks (Guess d) y = cc
    seeks Stop y = cc
freeze_line z s choice l (Activity.Rebalance (Rebalance.Replace Replace.Start)) e = absurd (befores choice e)
  where
    befores : (d : Choice) → (before_transition d l).operation.kind ≡ kind.FreezePend → ⊥
    befores (Begin call) y = cc
    befores Go y = cc
    befores (Guess d) y = cc
    befores Stop y = cc
freeze_line z s choice l (Activity.Rebalance (Rebalance.Left Left.Start)) e = absurd (lefts choice e)
  where
    lefts : (d : Choice) → (left_transition d l).operation.kind ≡ kind.FreezePend → ⊥
    lefts (Begin call) y = cc
    lefts Go y = cc
    lefts (Guess d) y = cc
    lefts Stop y = cc
freeze_line z s choice l (Activity.Read Read.Start) e = absurd (first_freezes_none l (cell_guess choice l) e)
freeze_line z s choice l (Activity.Insert Insert.Start) e = absurd (first_freezes_none l (cell_guess choice l) e)
freeze_line z s choice l (Activity.Enter Enter.Announce) e = absurd (cc)
freeze_line z s choice l (Activity.Draw Draw.Clock) e = absurd (cc)
freeze_line z s choice l (Activity.Look Look.Key) e = absurd (cc)
freeze_line z s choice l (Activity.Read Read.Link) e = absurd (cc)
freeze_line z s choice l (Activity.Put Put.Count) e = absurd (cc)
freeze_line z s choice l (Activity.Insert Insert.Link) e = absurd (cc)
freeze_line z s choice l (Activity.Rebalance (Rebalance.Engage Engage.Clock)) e = absurd (cc)
freeze_line z s choice l (Activity.Rebalance (Rebalance.Claim Claim.Count)) e = absurd (cc)
freeze_line z s choice l (Activity.Rebalance (Rebalance.Gather Gather.Link)) e = absurd (cc)
freeze_line z s choice l (Activity.Rebalance (Rebalance.Write Write.Count)) e = absurd (cc)
freeze_line z s choice l a e = absurd (cc)

-- the names of one entry
same_entry : (q i r j : ℕ) → name.Pend q i ≡ name.Pend r j → (q ≡ r) × (i ≡ j)
same_entry q i r j e = (cc, cc)

-- what is exchanged
same_exchange : (p w q u : ℕ) → Exchange p w ≡ Exchange q u → p ≡ q
same_exchange p w q u e = cc

-- an entry whose word is that of a pending one is pending
pending_is : (x : Pend) (c : ℕ) → pend_word x ≡ pend_word (pend.Pending c) → x ≡ pend.Pending c
pending_is pend.Idle c e = absurd (omega (arith, e))
pending_is (pend.Pending d) c e = ap pend.Pending (omega (arith, e))
pending_is (pend.Stamped d version) c e = absurd (omega (arith, e))
pending_is pend.Frozen c e = absurd (omega (arith, e))

-- What is said of one attempt.

-- it is announced, and neither stamped nor lost
abbrev IsPending : Attempt → Type 0
IsPending q = (q.is_announced ≡ true) × (q.is_stamped ≡ false) × (q.is_lost ≡ false)

-- after so many events its entry is pending with its cell
abbrev StandsAt : Sizes → Opening → List Event → Attempt → ℕ → Type 0
StandsAt z o es q u = word z (world z o (take u es)) (name.Pend q.row q.seat) ≡ pend_word (pend.Pending q.cell)

-- what is said of a lost attempt is said of one with the same row, seat, cell and announcement
resaid : (z : Sizes) (o : Opening) (es : List Event) (x : ℕ) (q p : Attempt) → IsLostAt z o es q x → p.row ≡ q.row → p.seat ≡ q.seat → p.cell ≡ q.cell → p.is_announced ≡ q.is_announced → p.announced ≡ q.announced → IsLostAt z o es p x
resaid z o es x q p t f g c a n = record {
  seat = t.seat;
  freezes = rw (f, g, c) t.freezes;
  announced = a ∙ t.announced;
  after = omega (arith, n, t.after);
  pending = λ u v w. rw (f, g, c) (t.pending u (omega (arith, n, v)) w);
}

-- what is kept along a list: the entry of an attempt that is pending was so since it was announced
record KeepsLosses (z : Sizes) (o : Opening) (es : List Event) (r : Run) : Type 0 where
  inv : Inv z r
  world : world z o es ≡ r.world
  now : length r.history.log ≡ length es
  stood : (p : ℕ) → p < length r.history.attempts → IsPending (attempt r.history p) → (u : ℕ) → (attempt r.history p).announced < u → u ≤ length es → StandsAt z o es (attempt r.history p) u
  mirrors : MirrorsLosses z o es r.history

-- One more event.

module _ (z : Sizes) (o : Opening) (es : List Event) (e : Event) (r r' : Run) (l l' : Local) (a : Activity) (h : Happens z r r' e.seat (offered r.world.rows e.choice) l l' a) (i' : Inv z r') (led' : world z o (es ++ e ∷ []) ≡ r'.world) (k : KeepsLosses z o es r) where
  longer : length (es ++ e ∷ []) ≡ length es + 1
  longer = omega (arith, length-append es (e ∷ []))

  goes : GoesOn r.history r'.history r.origin r'.origin r.ledger.rows
  goes = goes_on_by z r r' e.seat (offered r.world.rows e.choice) l a l' h k.inv

  over : (p : ℕ) → p < length r.history.attempts → AttemptOver (word z r.world) r.history r'.history e.seat l (r.seats e.seat) r.origin a p
  over p w = attempt_over r.history r'.history _ z (word z r.world) e.seat (offered r.world.rows e.choice) l (r.seats e.seat) r.origin a _ (made z (word z r.world) e.seat (offered r.world.rows e.choice) l (r.seats e.seat) r.origin a) h.history p w

  -- what a seat did at a position of the shorter list
  lost_lasts : (q : Attempt) (x : ℕ) → IsLostAt z o es q x → IsLostAt z o (es ++ e ∷ []) q x
  lost_lasts q x t =
      let w : x < length es = occurs_within z o es x t.freezes.before _ t.freezes.occurs in
      record {
        seat = t.seat;
        freezes = acts_on z o es e x t.seat _ _ _ t.freezes;
        announced = t.announced;
        after = t.after;
        pending = λ u f g. let v : u ≤ length es = omega (arith, g, w) in subst (λ xs. word z (world z o xs) (name.Pend q.row q.seat) ≡ pend_word (pend.Pending q.cell)) (sym (take-append-le u es (e ∷ []) v)) (t.pending u f g);
      }

  -- Entries that were pending.

  -- up to the event the entry of an attempt that was pending before it was pending
  stood_before : (p : ℕ) → p < length r.history.attempts → IsPending (attempt r.history p) → (u : ℕ) → (attempt r.history p).announced < u → u ≤ length es → StandsAt z o (es ++ e ∷ []) (attempt r.history p) u
  stood_before p w x u f g = subst (λ xs. word z (world z o xs) (name.Pend (attempt r.history p).row (attempt r.history p).seat) ≡ pend_word (pend.Pending (attempt r.history p).cell)) (sym (take-append-le u es (e ∷ []) g)) (k.stood p w x u f g)

  -- so was that of one which is pending after it
  abbrev StoodSo : ℕ → Attempt → Type 0
  StoodSo u q = IsPending q → q.announced < u → StandsAt z o (es ++ e ∷ []) q u

  stood_so : (p u : ℕ) → u ≤ length es → p < length r.history.attempts → AttemptOver (word z r.world) r.history r'.history e.seat l (r.seats e.seat) r.origin a p → StoodSo u (attempt r'.history p)
  stood_so p u g w (stays f) = subst (StoodSo u) (sym f) (λ x v. stood_before p w x u v g)
  stood_so p u g w (is_announced is own idle f) = subst (StoodSo u) (sym f) (λ x v. absurd (omega (arith, v, g, k.now)))
  stood_so p u g w (is_stamped is own pending f) = subst (StoodSo u) (sym f) (λ x v. true_false refl x.1)
  stood_so p u g w (is_helped is origin pending f) = subst (StoodSo u) (sym f) (λ x v. true_false refl x.1)
  stood_so p u g w (is_lost j c is entry origin pending f) = subst (StoodSo u) (sym f) (λ x v. true_false refl x.2)

  stood_on : (p : ℕ) → p < length r'.history.attempts → IsPending (attempt r'.history p) → (u : ℕ) → (attempt r'.history p).announced < u → u ≤ length (es ++ e ∷ []) → StandsAt z o (es ++ e ∷ []) (attempt r'.history p) u
  stood_on p w x u f g = which (cases_lt (length es) u) (attempt_was a h p w)
    where
      which : (length es < u) ⊎ (u ≤ length es) → (p < length r.history.attempts) ⊎ IsNew z r r' e.seat l a p → StandsAt z o (es ++ e ∷ []) (attempt r'.history p) u
      which (inl v) y =
          let all : length (es ++ e ∷ []) ≤ u = omega (arith, v, longer) in
          subst (λ b. word z b (name.Pend (attempt r'.history p).row (attempt r'.history p).seat) ≡ pend_word (pend.Pending (attempt r'.history p).cell)) (sym (ap (world z o) (take_all u (es ++ e ∷ []) all) ∙ led')) (announced_pending z r' (lower i') p w x.0 x.1 x.2)
      which (inr v) (inl y) = stood_so p u v y (over p y) x f
      which (inr v) (inr y) = true_false x.0 (ap (λ (q : Attempt). q.is_announced) y.is)

  -- An attempt that is lost now.

  module _ (j c : ℕ) (is : a ≡ Activity.Rebalance (Rebalance.Freeze (Freeze.Entry j))) (entry : l.rebalance.entry ≡ pend.Pending c) (pending : word z r.world (name.Pend l.rebalance.hand j) ≡ pend_word (pend.Pending c)) where
    row : l.rebalance.hand < r.world.rows
    row = (k.inv.shape.sane.locals e.seat l h.knows).below.rebalance.hand

    seat : j < z.seats
    seat = subst (IsActivity z) (h.activity ∙ is) (k.inv.shape.sane.locals e.seat l h.knows).ranges.activity

    -- it is the one of the entry's seat
    owner : IsPendingOf z r l.rebalance.hand j c
    owner = entry_owner k.inv.puts l.rebalance.hand j c row seat pending

    puts : IsPutting owner.local.activity
    puts = published_puts owner.local.activity owner.published

    own : OwnsAttempt (word z r.world) r.history j owner.local.activity owner.local (r.seats j)
    own = k.inv.puts.owns j owner.local owner.knows puts

    own_cell : r.origin l.rebalance.hand c ≡ Some (r.seats j).own
    own_cell = rw (owner.row, sym own.cell ∙ owner.cell) at (own_origin k.inv.puts j owner.local owner.knows puts)

    own_lost : IsLostAt z o (es ++ e ∷ []) (attempt r.history (r.seats j).own) (length es)
    own_lost =
        let at_row : (attempt r.history (r.seats j).own).row ≡ l.rebalance.hand = own.row ∙ owner.row in
        let acts : Acts z o (es ++ e ∷ []) (length es) e.seat (Activity.Rebalance (Rebalance.Freeze (Freeze.Entry j))) (freezing l.rebalance.hand j c) (pend_word (pend.Pending c)) = subst (λ w. Acts z o (es ++ e ∷ []) (length es) e.seat (Activity.Rebalance (Rebalance.Freeze (Freeze.Entry j))) (freezing l.rebalance.hand j c) w) pending (acts_now z o es e r r' l l' a h k.world (Activity.Rebalance (Rebalance.Freeze (Freeze.Entry j))) (freezing l.rebalance.hand j c) is (ap (λ y. operation kind.FreezePend (name.Pend l.rebalance.hand j) (Exchange (pend_word y) (pend_word pend.Frozen))) entry)) in
        let announced = own.announced owner.published in
        record {
          seat = e.seat;
          freezes = rw (at_row, own.seat, owner.cell) acts;
          announced = announced;
          after = omega (arith, k.inv.history.past.announced (r.seats j).own own.within announced, k.now);
          pending = λ u f g. stood_before (r.seats j).own own.within (announced, owner.unstamped, owner.kept) u f g;
        }

    -- and is lost in the record
    own_noted : attempt r'.history (r.seats j).own ≡ record (attempt r.history (r.seats j).own) { is_lost = true }
    own_noted =
        let it = logged e.seat (transition z a e.seat (offered r.world.rows e.choice) l).operation.kind (word z r.world name.Clock) in
        let at_freeze : r'.history ≡ noted r.history it (change_of z (Activity.Rebalance (Rebalance.Freeze (Freeze.Entry j))) e.seat (offered r.world.rows e.choice) l (found_at z (word z r.world) (Activity.Rebalance (Rebalance.Freeze (Freeze.Entry j))) e.seat (offered r.world.rows e.choice) l) (r.seats e.seat) r.origin) = h.history ∙ ap (λ b. noted r.history it (change_of z b e.seat (offered r.world.rows e.choice) l (found_at z (word z r.world) b e.seat (offered r.world.rows e.choice) l) (r.seats e.seat) r.origin)) is in
        let saw : word z r.world (name.Pend l.rebalance.hand j) ≡ pend_word l.rebalance.entry = pending ∙ ap pend_word (sym entry) in
        let loses : led.freezing l.rebalance.entry l.rebalance.hand r.origin ≡ Loses (r.seats j).own = ap (λ y. led.freezing y l.rebalance.hand r.origin) entry ∙ ap losing own_cell in
        let f : r'.history ≡ noted r.history it (Loses (r.seats j).own) = at_freeze ∙ ap (noted r.history it) (chosen (word z r.world (name.Pend l.rebalance.hand j)) (pend_word l.rebalance.entry) (led.freezing l.rebalance.entry l.rebalance.hand r.origin) Nothing saw ∙ loses) in
        attempt_set_same r.history r'.history (r.seats j).own _ (ap (λ (q : History). q.attempts) f) own.within

  -- Attempts that are lost.

  abbrev LostSo : Attempt → Type 0
  LostSo q = q.is_lost ≡ true → (x : ℕ) × IsLostAt z o (es ++ e ∷ []) q x

  lost_so : (p : ℕ) → p < length r.history.attempts → AttemptOver (word z r.world) r.history r'.history e.seat l (r.seats e.seat) r.origin a p → LostSo (attempt r'.history p)
  lost_so p w (stays f) = subst LostSo (sym f) (λ x. let d = k.mirrors.lost p w x in (d.0, lost_lasts (attempt r.history p) d.0 d.1))
  lost_so p w (is_announced is mine idle f) =
      let q = k.inv.puts.owns e.seat l h.knows (subst IsPutting (sym (h.activity ∙ is)) tt) in
      subst LostSo (sym f) (λ x. true_false x (ap (λ y. (attempt r.history y).is_lost) mine ∙ q.kept_fresh (subst IsFresh (sym (h.activity ∙ is)) tt)))
  lost_so p w (is_stamped is mine pending f) = λ x. true_false x (i'.history.laws.kept p (ap (λ (q : Attempt). q.is_stamped) f))
  lost_so p w (is_helped is origin pending f) = λ x. true_false x (i'.history.laws.kept p (ap (λ (q : Attempt). q.is_stamped) f))
  lost_so p w (is_lost j c is entry origin pending f) =
      let same = pending_own k.inv.puts l.rebalance.hand j c p (row j c is entry pending) (seat j c is entry pending) pending origin in
      subst LostSo (sym f) (λ x. (length es, resaid z o (es ++ e ∷ []) (length es) (attempt r.history p) _ (subst (λ y. IsLostAt z o (es ++ e ∷ []) (attempt r.history y) (length es)) (sym same) (own_lost j c is entry pending)) refl refl refl refl refl))

  lost_on : (p : ℕ) → p < length r'.history.attempts → (attempt r'.history p).is_lost ≡ true → (x : ℕ) × IsLostAt z o (es ++ e ∷ []) (attempt r'.history p) x
  lost_on p w x = which (attempt_was a h p w)
    where
      which : (p < length r.history.attempts) ⊎ IsNew z r r' e.seat l a p → (x : ℕ) × IsLostAt z o (es ++ e ∷ []) (attempt r'.history p) x
      which (inl y) = lost_so p y (over p y) x
      which (inr y) = true_false x (ap (λ (q : Attempt). q.is_lost) y.is)

  -- an exchange that freezes a pending entry
  freezes_here : (j q t c : ℕ) → a ≡ Activity.Rebalance (Rebalance.Freeze (Freeze.Entry j)) → operation kind.FreezePend (name.Pend l.rebalance.hand j) (Exchange (pend_word l.rebalance.entry) (pend_word pend.Frozen)) ≡ freezing q t c → word z r.world (name.Pend q t) ≡ pend_word (pend.Pending c) → IsLossOf z o (es ++ e ∷ []) r'.history (length es)
  freezes_here j q t c is line found =
      let entry : l.rebalance.entry ≡ pend.Pending c = pending_is l.rebalance.entry c (same_exchange _ _ _ _ (ap (λ (y : Operation). y.action) line)) in
      let pending : word z r.world (name.Pend l.rebalance.hand j) ≡ pend_word (pend.Pending c) = ap (λ (y : Operation). word z r.world y.name) line ∙ found in
      let w = (own j c is entry pending).within in
      let g = own_noted j c is entry pending in
      record {
        place = (r.seats j).own;
        within = omega (arith, w, goes.more_attempts);
        is_lost = ap (λ (y : Attempt). y.is_lost) g;
        lost = resaid z o (es ++ e ∷ []) (length es) (attempt r.history (r.seats j).own) (attempt r'.history (r.seats j).own) (own_lost j c is entry pending) (ap (λ (y : Attempt). y.row) g) (ap (λ (y : Attempt). y.seat) g) (ap (λ (y : Attempt). y.cell) g) (ap (λ (y : Attempt). y.is_announced) g) (ap (λ (y : Attempt). y.announced) g);
      }

  all_lost_on : (x s q t c : ℕ) (b : Activity) → Acts z o (es ++ e ∷ []) x s b (freezing q t c) (pend_word (pend.Pending c)) → IsLossOf z o (es ++ e ∷ []) r'.history x
  all_lost_on x s q t c b y = which (acts_was z o es e x s b _ _ y)
    where
      which : Acts z o es x s b (freezing q t c) (pend_word (pend.Pending c)) ⊎ (x ≡ length es) → IsLossOf z o (es ++ e ∷ []) r'.history x
      which (inl d) =
          let m = k.mirrors.all_lost x s q t c b d in
          let same = goes.attempts m.place m.within in
          let grown = goes.grows.old m.place m.within in
          let announced = grown.announced m.lost.announced in
          record {
            place = m.place;
            within = omega (arith, m.within, goes.more_attempts);
            is_lost = grown.lost m.is_lost;
            lost = resaid z o (es ++ e ∷ []) x (attempt r.history m.place) (attempt r'.history m.place) (lost_lasts (attempt r.history m.place) x m.lost) same.row same.seat same.cell (announced.0 ∙ sym m.lost.announced) announced.1;
          }
      which (inr d) =
          let n = acting_now z o es e r r' l l' a h k.world x s b _ _ d y in
          let f = freeze_line z e.seat (offered r.world.rows e.choice) l a (ap (λ (p : Operation). p.kind) n.operates) in
          let line : operation kind.FreezePend (name.Pend l.rebalance.hand f.0) (Exchange (pend_word l.rebalance.entry) (pend_word pend.Frozen)) ≡ freezing q t c = ap (λ m. (transition z m e.seat (offered r.world.rows e.choice) l).operation) (sym f.1) ∙ n.operates in
          subst (IsLossOf z o (es ++ e ∷ []) r'.history) (sym d) (freezes_here f.0 q t c f.1 line n.finds)

  -- all of it after the event
  losses_next : KeepsLosses z o (es ++ e ∷ []) r'
  losses_next = record {
    inv = i';
    world = led';
    now = let x = ap (λ (y : History). length y.log) h.history in omega (arith, x, length-append r.history.log (logged e.seat (transition z a e.seat (offered r.world.rows e.choice) l).operation.kind (word z r.world name.Clock) ∷ []), longer, k.now);
    stood = stood_on;
    mirrors = record { lost = lost_on; all_lost = all_lost_on };
  }

-- one event that may come
losses_on : (z : Sizes) (o : Opening) (es : List Event) (e : Event) (r : Run) → may_step o r.world e ≡ true → KeepsLosses z o es r → KeepsLosses z o (es ++ e ∷ []) (goes_on z r e)
losses_on z o es e r may k =
    let c = may_come o r.world e may in
    let noted : goes_on z r e ≡ noted_by z r e c.local = goes_on-moved z r e c.local c.knows c.moves in
    let w : world z o (es ++ e ∷ []) ≡ (goes_on z r e).world = world-snoc z o es e ∙ ap (λ (x : WorldView). (step z x e).world) k.world ∙ sym (goes_on-world z r e) in
    let h = happens z r e c.local k.inv.shape.sane c.begins c.knows c.moves in
    subst (KeepsLosses z o (es ++ e ∷ [])) (sym noted) (losses_next z o es e r (noted_by z r e c.local) c.local _ c.local.activity h (subst (Inv z) noted (inv_goes_on z o r e may k.inv)) (w ∙ ap (λ (x : Run). x.world) noted) k)

-- no event
losses_start : (z : Sizes) (o : Opening) → IsOpening z o → KeepsLosses z o [] (start z o)
losses_start z o opening = record {
  inv = inv_start z o opening;
  world = world-nil z o;
  now = refl;
  stood = λ p w x u f g. absurd (omega (arith, w));
  mirrors = record {
    lost = λ p w x. absurd (omega (arith, w));
    all_lost = λ x s q t c b y. absurd (nothing _ y.occurs.stands);
  };
}
  where
    nothing : (e : Event) → None ≡ Some e → ⊥
    nothing e g = cc

-- every valid list from an opening
pub losses_mirrored : (z : Sizes) (o : Opening) → IsOpening z o → (es : List Event) → is_valid z o es ≡ true → MirrorsLosses z o es (history z o es).history
losses_mirrored z o opening es ok = (holds_along z o (KeepsLosses z o) (losses_on z o) (losses_start z o opening) es ok).mirrors
