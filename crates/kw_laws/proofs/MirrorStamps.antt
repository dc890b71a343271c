-- No announcement and no stamp is left out of the record, over one more event.
use Rattle.std.proofs.Common.{ℕ, ◌≡◌, ◌⊎◌, inl, inr, ◌<◌, Bool, true, false, Option, Some, None, List, [], ◌∷◌, ◌++◌, arith, refl, sym, ◌∙◌, ap, subst, length}
use Rattle.kw_words.specs.declared.kind.Kind.{Kind}
use Rattle.kw_words.specs.declared.layout.Name.TheVariants as name
use Rattle.kw_words.specs.declared.pend.Pend.TheVariants as pend
use Rattle.kw_words.specs.Pend.{pend_word}
use Rattle.kw_world.specs.declared.activity.Activity.{Activity}
use Rattle.kw_core.proofs.Frame.{no_link}
use Rattle.kw_world.specs.declared.activity.draw.Draw.TheVariants as Draw
use Rattle.kw_world.specs.declared.activity.rebalance.claim.Claim.TheVariants as Claim
use Rattle.kw_world.specs.declared.activity.rebalance.engage.Engage.TheVariants as Engage
use Rattle.kw_world.specs.declared.activity.rebalance.left.Left.TheVariants as Left
use Rattle.kw_world.specs.declared.activity.rebalance.freeze.Freeze.TheVariants as Freeze
use Rattle.kw_world.specs.declared.activity.insert.Insert.TheVariants as Insert
use Rattle.kw_world.specs.declared.activity.look.Look.TheVariants as Look
use Rattle.kw_world.specs.declared.activity.put.Put.TheVariants as Put
use Rattle.kw_world.specs.declared.activity.rebalance.Rebalance.TheVariants as Rebalance
use Rattle.kw_world.specs.declared.activity.rebalance.replace.Replace.TheVariants as Replace
use Rattle.kw_world.specs.declared.activity.rebalance.seek.Seek.TheVariants as Seek
use Rattle.kw_world.specs.declared.activity.walk.Walk.TheVariants as Walk
use Rattle.kw_world.specs.declared.activity.enter.Enter.TheVariants as Enter
use Rattle.kw_world.specs.declared.activity.rebalance.gather.Gather.TheVariants as Gather
use Rattle.kw_world.specs.declared.activity.read.Read.TheVariants as Read
use Rattle.kw_world.specs.declared.activity.rebalance.write.Write.TheVariants as Write
use Rattle.kw_world.specs.declared.local.Local.{Local}
use Rattle.kw_world.specs.declared.event.Choice.{Choice}
use Rattle.kw_world.specs.declared.event.Choice.TheVariants.{Begin, Go, Guess, Stop}
use Rattle.kw_world.specs.declared.event.Event.{Event}
use Rattle.kw_world.specs.declared.opening.Opening.{Opening}
use Rattle.kw_world.specs.declared.operation.Action.TheVariants.{Exchange, Load}
use Rattle.kw_world.specs.declared.operation.Operation.{Operation}
use Rattle.kw_world.specs.Sizes.{Sizes}
use Rattle.kw_world.specs.WorldView.{WorldView}
use Rattle.kw_world.specs.Transition.{Transition}
use Rattle.kw_world.specs.ListTransitions.{cell_guess}
use Rattle.kw_world.proofs.Transitions.{first_loads}
use Rattle.kw_world.specs.WalkTransitions.{offered, start_transition, walk_transition, is_stopped}
use Rattle.kw_world.specs.ClaimTransitions.{row_after}
use Rattle.kw_world.specs.LeftTransitions.{left_transition}
use Rattle.kw_world.specs.ReplaceTransitions.{before_transition, replaced_link}
use Rattle.kw_world.specs.SeekTransitions.{infant, seek_first_transition}
use Rattle.kw_world.specs.Table.{transition}
use Rattle.kw_world.specs.Step.{word, transition_at}
use Rattle.kw_core.specs.Events.{world, event}
use Rattle.kw_core.specs.History.{History}
use Rattle.kw_core.specs.declared.history.Logged.{Logged}
use Rattle.kw_core.specs.declared.history.Attempt.{Attempt}
use Rattle.kw_core.specs.declared.history.Change.TheVariants.{Nothing, Announces, Stamps}
use Rattle.kw_core.specs.Noted.{noted}
use Rattle.kw_core.specs.Run.{Run, change_of, helping, logged}
use Rattle.kw_core.specs.Stages.{IsPutting, HasSeenPending}
use Rattle.kw_core.specs.Words.{Words}
use Rattle.kw_reads.specs.Inv.{Inv}
use Rattle.kw_laws.specs.Mirror.{Occurs, Acts, IsAnnouncementOf, IsStampOf, announcing, stamping}
use Rattle.kw_core.proofs.Happens.{Happens, found_at, chosen}
use Rattle.kw_core.proofs.NotedLaws.{attempt_set_same}
use Rattle.kw_core.proofs.Steps.{announced_within}
use Rattle.kw_reads.proofs.Relying.{goes_on_by}
use Rattle.kw_puts.proofs.Rely.{GoesOn}
use Rattle.kw_laws.proofs.Occurs.{occurs_was}
use Rattle.kw_laws.proofs.Mirroring.{Kept, acting_local, transition_here}

-- Which lines exchange an entry.

-- the same exchange
same_exchange : (p w q u : ℕ) → Exchange p w ≡ Exchange q u → p ≡ q
same_exchange p w q u e = cc

-- an idle entry is not a pending one
pending_apart : (c : ℕ) → pend_word pend.Idle ≡ pend_word (pend.Pending c) → ⊥
pending_apart c e = omega (arith, e)

-- nor is a frozen one a pending or a stamped one
frozen_apart : (c : ℕ) → pend_word pend.Frozen ≡ pend_word (pend.Pending c) → ⊥
frozen_apart c e = omega (arith, e)

stamped_apart : (c version : ℕ) → pend_word pend.Frozen ≡ pend_word (pend.Stamped c version) → ⊥
stamped_apart c version e = omega (arith, e)

-- what an exchange stores
same_stored : (p w q u : ℕ) → Exchange p w ≡ Exchange q u → w ≡ u
same_stored p w q u e = cc

-- the link that is exchanged for one to a new row is no entry
no_replaced : (before : Option ℕ) (q t : ℕ) → replaced_link before ≡ name.Pend q t → ⊥
no_replaced (Some r) q t e = cc
no_replaced None q t e = cc

-- only a put that stamps its cell, or a reader that helps, exchanges a pending entry for a stamped
-- one
stamp_line : (z : Sizes) (v : Words) (s : ℕ) (choice : Choice) (l : Local) (a : Activity) (q t c version : ℕ) → (transition z a s choice l).operation.name ≡ name.Pend q t → (transition z a s choice l).operation.action ≡ Exchange (pend_word (pend.Pending c)) (pend_word (pend.Stamped c version)) → v (name.Pend q t) ≡ pend_word (pend.Pending c) →
    (a ≡ Activity.Put Put.Stamp) × (v (name.Pend l.row s) ≡ pend_word (pend.Pending l.cell)) ⊎ (a ≡ Activity.Look Look.Help) × (v (name.Pend l.row l.looked) ≡ pend_word (pend.Pending l.saw))
stamp_line z v s choice l (Activity.Put Put.Stamp) q t c u n x f = inl (refl, ap v n ∙ f ∙ sym (same_exchange _ _ _ _ x))
stamp_line z v s choice l (Activity.Look Look.Help) q t c u n x f = inr (refl, ap v n ∙ f ∙ sym (same_exchange _ _ _ _ x))
stamp_line z v s choice l (Activity.Put Put.Announce) q t c u n x f = absurd (pending_apart c (same_exchange _ _ _ _ x))
stamp_line z v s choice l (Activity.Draw Draw.Settle) q t c u n x f = let y : name.Scan s ≡ name.Pend q t = n in absurd (cc)
stamp_line z v s choice l (Activity.Walk Walk.Start) q t c u n x f = absurd (starts choice x)
  where
    starts : (d : Choice) → (start_transition d l).operation.action ≡ Exchange (pend_word (pend.Pending c)) (pend_word (pend.Stamped c u)) → ⊥
    starts (Begin call) y = cc
    starts Go y = cc
    starts (Guess d) y = cc
    starts Stop y = cc
stamp_line z v s choice l (Activity.Walk Walk.Next) q t c u n x f = absurd (walks (is_stopped choice l) x)
  where
    walks : (b : Bool) → (walk_transition b s l).operation.action ≡ Exchange (pend_word (pend.Pending c)) (pend_word (pend.Stamped c u)) → ⊥
    walks true y = cc
    walks false y = cc
stamp_line z v s choice l (Activity.Insert Insert.Exchange) q t c u n x f = no_link l.row l.link (name.Pend q t) refl (ap Some n)
stamp_line z v s choice l (Activity.Rebalance (Rebalance.Engage (Engage.Normal seat))) q t c u n x f = let y : name.State l.row ≡ name.Pend q t = n in absurd (cc)
stamp_line z v s choice l (Activity.Rebalance (Rebalance.Engage Engage.Lead)) q t c u n x f = let y : name.State l.row ≡ name.Pend q t = n in absurd (cc)
stamp_line z v s choice l (Activity.Rebalance (Rebalance.Engage (Engage.Decide count))) q t c u n x f = let y : name.State l.row ≡ name.Pend q t = n in absurd (cc)
stamp_line z v s choice l (Activity.Rebalance (Rebalance.Claim Claim.Exchange)) q t c u n x f = let y : name.State (row_after l) ≡ name.Pend q t = n in absurd (cc)
stamp_line z v s choice l (Activity.Rebalance (Rebalance.Claim (Claim.Normal seat))) q t c u n x f = let y : name.State (row_after l) ≡ name.Pend q t = n in absurd (cc)
stamp_line z v s choice l (Activity.Rebalance (Rebalance.Left Left.Start)) q t c u n x f = absurd (lefts choice x)
  where
    lefts : (d : Choice) → (left_transition d l).operation.action ≡ Exchange (pend_word (pend.Pending c)) (pend_word (pend.Stamped c u)) → ⊥
    lefts (Begin call) y = cc
    lefts Go y = cc
    lefts (Guess d) y = cc
    lefts Stop y = cc
stamp_line z v s choice l (Activity.Rebalance (Rebalance.Freeze (Freeze.Entry i))) q t c u n x f = absurd (stamped_apart c u (same_stored _ _ _ _ x))
stamp_line z v s choice l (Activity.Rebalance (Rebalance.Freeze (Freeze.Settle i))) q t c u n x f = let y : name.Scan i ≡ name.Pend q t = n in absurd (cc)
stamp_line z v s choice l (Activity.Rebalance (Rebalance.Seek Seek.Reclaim)) q t c u n x f = let y : name.State l.rebalance.sought ≡ name.Pend q t = n in absurd (cc)
stamp_line z v s choice l (Activity.Rebalance (Rebalance.Seek Seek.Take)) q t c u n x f = let y : name.State l.rebalance.sought ≡ name.Pend q t = n in absurd (cc)
stamp_line z v s choice l (Activity.Rebalance (Rebalance.Seek Seek.First)) q t c u n x f = absurd (seeks choice x)
  where
    seeks : (d : Choice) → (seek_first_transition d l).operation.action ≡ Exchange (pend_word (pend.Pending c)) (pend_word (pend.Stamped c u)) → ⊥
    seeks (Begin call) y = cc
    seeks Go y = cc
    seeks (Guess d) y = cc
    seeks Stop y = cc
stamp_line z v s choice l (Activity.Rebalance (Rebalance.Replace Replace.Start)) q t c u n x f = absurd (befores choice x)
  where
    befores : (d : Choice) → (before_transition d l).operation.action ≡ Exchange (pend_word (pend.Pending c)) (pend_word (pend.Stamped c u)) → ⊥
    befores (Begin call) y = cc
    befores Go y = cc
    befores (Guess d) y = cc
    befores Stop y = cc
stamp_line z v s choice l (Activity.Rebalance (Rebalance.Replace Replace.Exchange)) q t c u n x f = absurd (no_replaced l.rebalance.before q t n)
stamp_line z v s choice l (Activity.Rebalance (Rebalance.Replace Replace.Normalise)) q t c u n x f = let y : name.State (infant l) ≡ name.Pend q t = n in absurd (cc)
stamp_line z v s choice l (Activity.Enter Enter.Announce) q t c u n x f = absurd (cc)
stamp_line z v s choice l (Activity.Read Read.Start) q t c u n x f = let y : Load ≡ Exchange _ _ = sym (first_loads (cell_guess choice l) l) ∙ x in absurd (cc)
stamp_line z v s choice l (Activity.Insert Insert.Start) q t c u n x f = let y : Load ≡ Exchange _ _ = sym (first_loads (cell_guess choice l) l) ∙ x in absurd (cc)
stamp_line z v s choice l (Activity.Read Read.Link) q t c u n x f = absurd (cc)
stamp_line z v s choice l (Activity.Rebalance (Rebalance.Gather Gather.Link)) q t c u n x f = absurd (cc)
stamp_line z v s choice l (Activity.Rebalance (Rebalance.Write Write.Count)) q t c u n x f = absurd (cc)
stamp_line z v s choice l a q t c u n x f = absurd (cc)

-- only a put that announces its cell exchanges an idle entry for a pending one
announce_line : (z : Sizes) (v : Words) (s : ℕ) (choice : Choice) (l : Local) (a : Activity) (q t c : ℕ) → (transition z a s choice l).operation.name ≡ name.Pend q t → (transition z a s choice l).operation.action ≡ Exchange (pend_word pend.Idle) (pend_word (pend.Pending c)) → v (name.Pend q t) ≡ pend_word pend.Idle →
    (a ≡ Activity.Put Put.Announce) × (v (name.Pend l.row s) ≡ pend_word pend.Idle)
announce_line z v s choice l (Activity.Put Put.Announce) q t c n x f = (refl, ap v n ∙ f)
announce_line z v s choice l (Activity.Put Put.Stamp) q t c n x f = absurd (pending_apart l.cell (sym (same_exchange _ _ _ _ x)))
announce_line z v s choice l (Activity.Look Look.Help) q t c n x f = absurd (pending_apart l.saw (sym (same_exchange _ _ _ _ x)))
announce_line z v s choice l (Activity.Draw Draw.Settle) q t c n x f = let y : name.Scan s ≡ name.Pend q t = n in absurd (cc)
announce_line z v s choice l (Activity.Walk Walk.Start) q t c n x f = absurd (starts choice x)
  where
    starts : (d : Choice) → (start_transition d l).operation.action ≡ Exchange (pend_word pend.Idle) (pend_word (pend.Pending c)) → ⊥
    starts (Begin call) y = cc
    starts Go y = cc
    starts (Guess u) y = cc
    starts Stop y = cc
announce_line z v s choice l (Activity.Walk Walk.Next) q t c n x f = absurd (walks (is_stopped choice l) x)
  where
    walks : (b : Bool) → (walk_transition b s l).operation.action ≡ Exchange (pend_word pend.Idle) (pend_word (pend.Pending c)) → ⊥
    walks true y = cc
    walks false y = cc
announce_line z v s choice l (Activity.Insert Insert.Exchange) q t c n x f = no_link l.row l.link (name.Pend q t) refl (ap Some n)
announce_line z v s choice l (Activity.Rebalance (Rebalance.Engage (Engage.Normal seat))) q t c n x f = let y : name.State l.row ≡ name.Pend q t = n in absurd (cc)
announce_line z v s choice l (Activity.Rebalance (Rebalance.Engage Engage.Lead)) q t c n x f = let y : name.State l.row ≡ name.Pend q t = n in absurd (cc)
announce_line z v s choice l (Activity.Rebalance (Rebalance.Engage (Engage.Decide count))) q t c n x f = let y : name.State l.row ≡ name.Pend q t = n in absurd (cc)
announce_line z v s choice l (Activity.Rebalance (Rebalance.Claim Claim.Exchange)) q t c n x f = let y : name.State (row_after l) ≡ name.Pend q t = n in absurd (cc)
announce_line z v s choice l (Activity.Rebalance (Rebalance.Claim (Claim.Normal seat))) q t c n x f = let y : name.State (row_after l) ≡ name.Pend q t = n in absurd (cc)
announce_line z v s choice l (Activity.Rebalance (Rebalance.Left Left.Start)) q t c n x f = absurd (lefts choice x)
  where
    lefts : (d : Choice) → (left_transition d l).operation.action ≡ Exchange (pend_word pend.Idle) (pend_word (pend.Pending c)) → ⊥
    lefts (Begin call) y = cc
    lefts Go y = cc
    lefts (Guess u) y = cc
    lefts Stop y = cc
announce_line z v s choice l (Activity.Rebalance (Rebalance.Freeze (Freeze.Entry i))) q t c n x f = absurd (frozen_apart c (same_stored _ _ _ _ x))
announce_line z v s choice l (Activity.Rebalance (Rebalance.Freeze (Freeze.Settle i))) q t c n x f = let y : name.Scan i ≡ name.Pend q t = n in absurd (cc)
announce_line z v s choice l (Activity.Rebalance (Rebalance.Seek Seek.Reclaim)) q t c n x f = let y : name.State l.rebalance.sought ≡ name.Pend q t = n in absurd (cc)
announce_line z v s choice l (Activity.Rebalance (Rebalance.Seek Seek.Take)) q t c n x f = let y : name.State l.rebalance.sought ≡ name.Pend q t = n in absurd (cc)
announce_line z v s choice l (Activity.Rebalance (Rebalance.Seek Seek.First)) q t c n x f = absurd (seeks choice x)
  where
    seeks : (d : Choice) → (seek_first_transition d l).operation.action ≡ Exchange (pend_word pend.Idle) (pend_word (pend.Pending c)) → ⊥
    seeks (Begin call) y = cc
    seeks Go y = cc
    seeks (Guess d) y = cc
    seeks Stop y = cc
announce_line z v s choice l (Activity.Rebalance (Rebalance.Replace Replace.Start)) q t c n x f = absurd (befores choice x)
  where
    befores : (d : Choice) → (before_transition d l).operation.action ≡ Exchange (pend_word pend.Idle) (pend_word (pend.Pending c)) → ⊥
    befores (Begin call) y = cc
    befores Go y = cc
    befores (Guess d) y = cc
    befores Stop y = cc
announce_line z v s choice l (Activity.Rebalance (Rebalance.Replace Replace.Exchange)) q t c n x f = absurd (no_replaced l.rebalance.before q t n)
announce_line z v s choice l (Activity.Rebalance (Rebalance.Replace Replace.Normalise)) q t c n x f = let y : name.State (infant l) ≡ name.Pend q t = n in absurd (cc)
announce_line z v s choice l (Activity.Enter Enter.Announce) q t c n x f = absurd (cc)
announce_line z v s choice l (Activity.Read Read.Start) q t c n x f = let y : Load ≡ Exchange _ _ = sym (first_loads (cell_guess choice l) l) ∙ x in absurd (cc)
announce_line z v s choice l (Activity.Insert Insert.Start) q t c n x f = let y : Load ≡ Exchange _ _ = sym (first_loads (cell_guess choice l) l) ∙ x in absurd (cc)
announce_line z v s choice l (Activity.Read Read.Link) q t c n x f = absurd (cc)
announce_line z v s choice l (Activity.Rebalance (Rebalance.Gather Gather.Link)) q t c n x f = absurd (cc)
announce_line z v s choice l (Activity.Rebalance (Rebalance.Write Write.Count)) q t c n x f = absurd (cc)
announce_line z v s choice l a q t c n x f = absurd (cc)

-- One more event.

module _ (z : Sizes) (o : Opening) (es : List Event) (e : Event) (r r' : Run) (l l' : Local) (a : Activity) (h : Happens z r r' e.seat (offered r.world.rows e.choice) l l' a) (i : Inv z r) (k : Kept z o es r) where
  goes : GoesOn r.history r'.history r.origin r'.origin r.ledger.rows
  goes = goes_on_by z r r' e.seat (offered r.world.rows e.choice) l a l' h i

  -- the entry of the event in the log
  abbrev it : Logged
  it = logged e.seat (transition z a e.seat (offered r.world.rows e.choice) l).operation.kind (word z r.world name.Clock)

  -- the record after it, by its activity
  noted_here : (b : Activity) → a ≡ b → r'.history ≡ noted r.history it (change_of z b e.seat (offered r.world.rows e.choice) l (found_at z (word z r.world) b e.seat (offered r.world.rows e.choice) l) (r.seats e.seat) r.origin)
  noted_here b is = h.history ∙ ap (λ c. noted r.history it (change_of z c e.seat (offered r.world.rows e.choice) l (found_at z (word z r.world) c e.seat (offered r.world.rows e.choice) l) (r.seats e.seat) r.origin)) is

  -- an attempt that is announced now
  announced_now : (x : ℕ) → x ≡ length r.history.log → a ≡ Activity.Put Put.Announce → word z r.world (name.Pend l.row e.seat) ≡ pend_word pend.Idle → IsAnnouncementOf r'.history x
  announced_now x at is idle =
      let own = i.puts.owns e.seat l h.knows (subst IsPutting (sym (h.activity ∙ is)) tt) in
      let f : r'.history ≡ noted r.history it (Announces (r.seats e.seat).own) = noted_here (Activity.Put Put.Announce) is ∙ ap (noted r.history it) (chosen (word z r.world (name.Pend l.row e.seat)) (pend_word pend.Idle) (Announces (r.seats e.seat).own) Nothing idle) in
      let g = attempt_set_same r.history r'.history (r.seats e.seat).own _ (ap (λ (q : History). q.attempts) f) own.within in
      record {
        place = (r.seats e.seat).own;
        within = omega (arith, own.within, goes.more_attempts);
        is_announced = ap (λ (q : Attempt). q.is_announced) g;
        announced = ap (λ (q : Attempt). q.announced) g ∙ sym at;
      }

  -- an attempt that is stamped now
  stamped_now : (x p version load : ℕ) → x ≡ length r.history.log → p < length r.history.attempts → r'.history ≡ noted r.history it (Stamps p version load) → IsStampOf r'.history x
  stamped_now x p version load at w f =
      let g = attempt_set_same r.history r'.history p _ (ap (λ (q : History). q.attempts) f) w in
      record {
        place = p;
        within = omega (arith, w, goes.more_attempts);
        is_put = ap (λ (q : Attempt). q.is_stamped) g;
        at = ap (λ (q : Attempt). q.at) g ∙ sym at;
      }

  -- by its own seat, or by a reader that helps
  stamps_now : (x : ℕ) → x ≡ length r.history.log → (a ≡ Activity.Put Put.Stamp) × (word z r.world (name.Pend l.row e.seat) ≡ pend_word (pend.Pending l.cell)) ⊎ (a ≡ Activity.Look Look.Help) × (word z r.world (name.Pend l.row l.looked) ≡ pend_word (pend.Pending l.saw)) → IsStampOf r'.history x
  stamps_now x at (inl f) =
      let own = i.puts.owns e.seat l h.knows (subst IsPutting (sym (h.activity ∙ f.0)) tt) in
      stamped_now x (r.seats e.seat).own l.version (r.seats e.seat).loaded at own.within
      (noted_here (Activity.Put Put.Stamp) f.0 ∙ ap (noted r.history it) (chosen (word z r.world (name.Pend l.row e.seat)) (pend_word (pend.Pending l.cell)) (Stamps (r.seats e.seat).own l.version (r.seats e.seat).loaded) Nothing f.1))
  stamps_now x at (inr f) =
      let helped = i.puts.helps e.seat l h.knows (subst HasSeenPending (sym (h.activity ∙ f.0)) tt) in
      stamped_now x helped.put l.helping (r.seats e.seat).loaded at (announced_within r.history helped.put helped.announced)
      (noted_here (Activity.Look Look.Help) f.0 ∙ ap (noted r.history it) (chosen (word z r.world (name.Pend l.row l.looked)) (pend_word (pend.Pending l.saw)) (helping (r.origin l.row l.saw) l.helping (r.seats e.seat).loaded) Nothing f.1 ∙ ap (λ (p : Option ℕ). helping p l.helping (r.seats e.seat).loaded) helped.origin))

  -- an operation that stands at the end is that of the event's line, and the word is the one that
  -- it found
  line_here : (s : ℕ) (b : Activity) (op : Operation) (found : ℕ) (t : Acts z o (es ++ e ∷ []) (length es) s b op found) → e ≡ event s t.choice → world z o es ≡ t.before → ((transition z a e.seat (offered r.world.rows e.choice) l).operation ≡ op) × (word z r.world op.name ≡ found)
  line_here s b op found t f g =
      let same : l ≡ t.local = acting_local z o es e r r' l l' a h k t.before s t.choice t.local f g t.knows in
      let before : r.world ≡ t.before = sym k.world ∙ g in (
        sym (ap (λ (x : Transition). x.operation) (transition_here z o es e r r' l l' a h k)) ∙ subst (λ (d : Event). (transition_at z r.world d l).operation ≡ op) (sym f) (rw (before, same) t.operates),
        ap (λ (w : WorldView). word z w op.name) before ∙ t.finds,
      )

  -- Nothing is left out.

  pub all_announced_keep : (x s q cell : ℕ) (b : Activity) → Acts z o (es ++ e ∷ []) x s b (announcing q s cell) (pend_word pend.Idle) → IsAnnouncementOf r'.history x
  all_announced_keep x s q cell b t = which (occurs_was z o es e x t.before (event s t.choice) t.occurs)
    where
      which : Occurs z o es x t.before (event s t.choice) ⊎ ((x ≡ length es) × (e ≡ event s t.choice) × (world z o es ≡ t.before)) → IsAnnouncementOf r'.history x
      which (inl f) =
          let y = k.mirrors.all_announced x s q cell b (record { before = t.before; choice = t.choice; local = t.local; occurs = f; knows = t.knows; activity = t.activity; operates = t.operates; finds = t.finds }) in
          let g = (goes.grows.old y.place y.within).announced y.is_announced in
          record { place = y.place; within = omega (arith, y.within, goes.more_attempts); is_announced = g.0; announced = g.1 ∙ y.announced }
      which (inr f) =
          let u = line_here s b (announcing q s cell) (pend_word pend.Idle) (record { before = t.before; choice = t.choice; local = t.local; occurs = subst (λ y. Occurs z o (es ++ e ∷ []) y t.before (event s t.choice)) f.0 t.occurs; knows = t.knows; activity = t.activity; operates = t.operates; finds = t.finds }) f.1 f.2 in
          let v = announce_line z (word z r.world) e.seat (offered r.world.rows e.choice) l a q s _ (ap (λ (p : Operation). p.name) u.0) (ap (λ (p : Operation). p.action) u.0) u.1 in
          announced_now x (f.0 ∙ sym k.mirrors.events) v.0 v.1

  pub all_stamped_keep : (x s q seat cell version : ℕ) (b : Activity) (kd : Kind) → Acts z o (es ++ e ∷ []) x s b (stamping kd q seat cell version) (pend_word (pend.Pending cell)) → IsStampOf r'.history x
  all_stamped_keep x s q seat cell version b kd t = which (occurs_was z o es e x t.before (event s t.choice) t.occurs)
    where
      which : Occurs z o es x t.before (event s t.choice) ⊎ ((x ≡ length es) × (e ≡ event s t.choice) × (world z o es ≡ t.before)) → IsStampOf r'.history x
      which (inl f) =
          let y = k.mirrors.all_stamped x s q seat cell version b kd (record { before = t.before; choice = t.choice; local = t.local; occurs = f; knows = t.knows; activity = t.activity; operates = t.operates; finds = t.finds }) in
          let g = (goes.grows.old y.place y.within).stamped y.is_put in
          record { place = y.place; within = omega (arith, y.within, goes.more_attempts); is_put = g.0; at = g.3 ∙ y.at }
      which (inr f) =
          let u = line_here s b (stamping kd q seat cell version) (pend_word (pend.Pending cell)) (record { before = t.before; choice = t.choice; local = t.local; occurs = subst (λ y. Occurs z o (es ++ e ∷ []) y t.before (event s t.choice)) f.0 t.occurs; knows = t.knows; activity = t.activity; operates = t.operates; finds = t.finds }) f.1 f.2 in
          let v = stamp_line z (word z r.world) e.seat (offered r.world.rows e.choice) l a q seat cell _ (ap (λ (p : Operation). p.name) u.0) (ap (λ (p : Operation). p.action) u.0) u.1 in
          stamps_now x (f.0 ∙ sym k.mirrors.events) v
