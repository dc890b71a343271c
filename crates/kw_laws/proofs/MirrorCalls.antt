-- Every call of the record is what its events say, over one more event: it was so, or the event
-- begins or ends it; and no call and no attempt is left out.
use Rattle.std.proofs.Common.{ℕ, ◌≡◌, ◌⊎◌, inl, inr, ◌+◌, ◌<◌, ◌≤◌, Bool, true, false, Some, None, List, [], ◌∷◌, ◌++◌, arith, refl, sym, ◌∙◌, ap, subst, length, length-append, slice_get}
use Rattle.std.specs.Prelude.{take}
use Rattle.std.proofs.lemmas.List.{take-append-le, take_all}
use Rattle.std.proofs.lemmas.Option.{same_Some}
use Rattle.kw_words.specs.declared.kind.Kind.TheVariants as kind
use Rattle.kw_words.specs.declared.layout.Name.TheVariants as name
use Rattle.kw_words.specs.Count.{count_of}
use Rattle.kw_model.specs.declared.call.Call.{Call}
use Rattle.kw_model.specs.declared.call.Reply.{Reply}
use Rattle.kw_world.specs.declared.answer.Answer.{Answer}
use Rattle.kw_world.specs.Answers.{reply_of}
use Rattle.kw_world.specs.declared.activity.Activity.{Activity}
use Rattle.kw_world.specs.declared.activity.draw.Draw.TheVariants as Draw
use Rattle.kw_world.specs.declared.activity.rebalance.freeze.Freeze.TheVariants as Freeze
use Rattle.kw_world.specs.declared.activity.put.Put.TheVariants as Put
use Rattle.kw_world.specs.declared.activity.rebalance.Rebalance.TheVariants as Rebalance
use Rattle.kw_world.specs.declared.activity.rebalance.replace.Replace.TheVariants as Replace
use Rattle.kw_world.specs.declared.activity.rebalance.seek.Seek.TheVariants as Seek
use Rattle.kw_world.specs.declared.activity.walk.Walk.TheVariants as Walk
use Rattle.kw_world.specs.declared.activity.rebalance.claim.Claim.TheVariants as Claim
use Rattle.kw_world.specs.declared.activity.rebalance.engage.Engage.TheVariants as Engage
use Rattle.kw_world.specs.declared.activity.rebalance.left.Left.TheVariants as Left
use Rattle.kw_world.specs.declared.activity.enter.Enter.TheVariants as Enter
use Rattle.kw_world.specs.declared.activity.rebalance.gather.Gather.TheVariants as Gather
use Rattle.kw_world.specs.declared.activity.insert.Insert.TheVariants as Insert
use Rattle.kw_world.specs.declared.activity.look.Look.TheVariants as Look
use Rattle.kw_world.specs.declared.activity.read.Read.TheVariants as Read
use Rattle.kw_world.specs.declared.activity.rebalance.write.Write.TheVariants as Write
use Rattle.kw_world.specs.declared.local.Local.{Local}
use Rattle.kw_world.specs.declared.event.Choice.{Choice}
use Rattle.kw_world.specs.declared.event.Choice.TheVariants.{Begin, Go, Guess, Stop}
use Rattle.kw_world.specs.declared.event.Event.{Event}
use Rattle.kw_world.specs.declared.event.StepDone.TheVariants.{Ended}
use Rattle.kw_world.specs.declared.opening.Opening.{Opening}
use Rattle.kw_world.specs.declared.operation.Action.TheVariants.{Add}
use Rattle.kw_world.specs.declared.operation.Operation.{Operation}
use Rattle.kw_world.specs.Sizes.{Sizes}
use Rattle.kw_world.specs.WorldView.{WorldView}
use Rattle.kw_world.specs.Transition.{Transition}
use Rattle.kw_world.specs.PutTransitions.{has_room}
use Rattle.kw_world.specs.ListTransitions.{cell_guess}
use Rattle.kw_puts.proofs.PositionsKeep.{first_draws_none}
use Rattle.kw_world.specs.WalkTransitions.{offered, start_transition, walk_transition, is_stopped}
use Rattle.kw_world.specs.SeekTransitions.{seek_first_transition}
use Rattle.kw_world.specs.LeftTransitions.{left_transition}
use Rattle.kw_world.specs.ReplaceTransitions.{before_transition}
use Rattle.kw_world.specs.Table.{transition}
use Rattle.kw_world.specs.Step.{word, step, transition_at}
use Rattle.kw_world.proofs.Steps.{transition_of-transition}
use Rattle.kw_core.specs.Events.{world, event}
use Rattle.kw_core.specs.History.{History, called}
use Rattle.kw_core.specs.declared.history.Logged.{Logged}
use Rattle.kw_core.specs.declared.history.Attempt.{Attempt}
use Rattle.kw_core.specs.declared.history.CallLog.{CallLog}
use Rattle.kw_core.specs.declared.history.End.{End}
use Rattle.kw_core.specs.declared.history.Drawn.{Drawn}
use Rattle.kw_core.specs.HistoryLaws.{IsDraw, DrawLogged}
use Rattle.kw_core.specs.Noted.{noted}
use Rattle.kw_core.specs.Step.{Keeps}
use Rattle.kw_core.specs.Run.{Run, change_of, beginning, logged}
use Rattle.kw_core.specs.Stages.{IsBusy}
use Rattle.kw_puts.specs.Positions.{Calling}
use Rattle.kw_reads.specs.Inv.{Inv}
use Rattle.kw_laws.specs.Mirror.{Occurs, IsLogged, BeginsCall, EndsCall, NoEnd, DrawsVersion, TakesCell, MirrorsCall, IsCallOf, IsAttemptOf, operation, begun}
use Rattle.kw_core.proofs.Happens.{Happens, found_at}
use Rattle.kw_core.proofs.Changes.{made}
use Rattle.kw_core.proofs.NotedLaws.{called_push_new}
use Rattle.kw_reads.proofs.Relying.{goes_on_by}
use Rattle.kw_core.proofs.Steps.{none_some}
use Rattle.kw_puts.proofs.NewAttempts.{one_more_is, one_more_within}
use Rattle.kw_laws.proofs.Over.{CallOver, goes_on, is_ended, SameLog, call_over, IsCallNow, call_was}
use Rattle.kw_laws.proofs.Occurs.{occurs_within, occurs_was, begins_lasts, ends_lasts, ends_was, no_end_lasts, no_end_more}
use Rattle.kw_laws.proofs.Mirroring.{Kept, acting_local, chosen_call, occurs_here, leaves_here, ends_here, ended_here, log_keeps}
use Rattle.kw_laws.proofs.MirrorSeats.{number_begun}

-- Draws.

-- a line whose kind is that of a draw, for its own scan or for another's, adds one to the clock
draw_line : (z : Sizes) (a : Activity) (s : ℕ) (choice : Choice) (l : Local) → IsDraw (transition z a s choice l).operation.kind → (transition z a s choice l).operation ≡ operation (transition z a s choice l).operation.kind name.Clock (Add 1)
draw_line z (Activity.Draw Draw.Version) s choice l d = refl
draw_line z (Activity.Walk Walk.Start) s choice l d = absurd (starts choice d)
  where
    starts : (c : Choice) → IsDraw (start_transition c l).operation.kind → ⊥
    starts (Begin call) x = x
    starts Go x = x
    starts (Guess q) x = x
    starts Stop x = x
draw_line z (Activity.Walk Walk.Next) s choice l d = absurd (walks (is_stopped choice l) d)
  where
    walks : (b : Bool) → IsDraw (walk_transition b s l).operation.kind → ⊥
    walks true x = x
    walks false x = x
draw_line z (Activity.Rebalance (Rebalance.Freeze (Freeze.Draw i))) s choice l d = refl
draw_line z (Activity.Rebalance (Rebalance.Seek Seek.First)) s choice l d = absurd (seeks choice d)
  where
    seeks : (c : Choice) → IsDraw (seek_first_transition c l).operation.kind → ⊥
    seeks (Begin call) x = x
    seeks Go x = x
    seeks (Guess q) x = x
    seeks Stop x = x
draw_line z (Activity.Rebalance (Rebalance.Replace Replace.Start)) s choice l d = absurd (begins choice d)
  where
    begins : (c : Choice) → IsDraw (before_transition c l).operation.kind → ⊥
    begins (Begin call) x = x
    begins Go x = x
    begins (Guess q) x = x
    begins Stop x = x
draw_line z (Activity.Rebalance (Rebalance.Left Left.Start)) s choice l d = absurd (lefts choice d)
  where
    lefts : (c : Choice) → IsDraw (left_transition c l).operation.kind → ⊥
    lefts (Begin call) x = x
    lefts Go x = x
    lefts (Guess q) x = x
    lefts Stop x = x
draw_line z (Activity.Enter Enter.Announce) s choice l d = absurd d
draw_line z (Activity.Look Look.Key) s choice l d = absurd d
draw_line z (Activity.Read Read.Start) s choice l d = absurd (first_draws_none l (cell_guess choice l) d)
draw_line z (Activity.Read Read.Link) s choice l d = absurd d
draw_line z (Activity.Put Put.Count) s choice l d = absurd d
draw_line z (Activity.Insert Insert.Start) s choice l d = absurd (first_draws_none l (cell_guess choice l) d)
draw_line z (Activity.Insert Insert.Link) s choice l d = absurd d
draw_line z (Activity.Rebalance (Rebalance.Engage Engage.Clock)) s choice l d = absurd d
draw_line z (Activity.Rebalance (Rebalance.Claim Claim.Count)) s choice l d = absurd d
draw_line z (Activity.Rebalance (Rebalance.Gather Gather.Link)) s choice l d = absurd d
draw_line z (Activity.Rebalance (Rebalance.Write Write.Count)) s choice l d = absurd d
draw_line z a s choice l d = absurd d

-- a version that the log says was drawn was drawn by the event there
drawn_there : (z : Sizes) (o : Opening) (es : List Event) (h : History) → ((x : ℕ) (q : Logged) → slice_get h.log x ≡ Some q → IsLogged z o es x q) → (d : Drawn) → DrawLogged h d → DrawsVersion z o es d
drawn_there z o es h log d t = record {
  seat = t.stands.seat;
  activity = it.activity;
  kind = t.kind;
  is_draw = t.is_draw;
  acts = record {
    before = it.acts.before;
    choice = it.acts.choice;
    local = it.acts.local;
    occurs = it.acts.occurs;
    knows = it.acts.knows;
    activity = it.acts.activity;
    operates = line ∙ draw_line z it.acts.local.activity t.stands.seat (offered it.acts.before.rows it.acts.choice) it.acts.local (subst IsDraw (sym its_kind) t.is_draw) ∙ ap (λ k. operation k name.Clock (Add 1)) its_kind;
    finds = it.clock;
  };
}
  where
    it : IsLogged z o es d.at (record { seat = t.stands.seat; kind = t.kind; clock = d.version })
    it = log d.at _ t.stands.logged

    line : (transition_at z it.acts.before (event t.stands.seat it.acts.choice) it.acts.local).operation ≡ (transition z it.acts.local.activity t.stands.seat (offered it.acts.before.rows it.acts.choice) it.acts.local).operation
    line = ap (λ (x : Transition). x.operation) (transition_of-transition z t.stands.seat (offered it.acts.before.rows it.acts.choice) it.acts.local)

    its_kind : (transition z it.acts.local.activity t.stands.seat (offered it.acts.before.rows it.acts.choice) it.acts.local).operation.kind ≡ t.kind
    its_kind = ap (λ (p : Operation). p.kind) (sym line ∙ it.acts.operates) ∙ it.kind

-- a seat that asks for a cell asks the row that it is at
add_line : (z : Sizes) (w : WorldView) (s : ℕ) (choice : Choice) (l : Local) (q : ℕ) → l.activity ≡ Activity.Put Put.Add → (transition_at z w (event s choice) l).operation ≡ operation kind.AddCount (name.Count q) (Add 1) → l.row ≡ q
add_line z w s choice l q is op =
    let line : operation kind.AddCount (name.Count l.row) (Add 1) ≡ operation kind.AddCount (name.Count q) (Add 1) = sym (ap (λ (x : Transition). x.operation) (transition_of-transition z s (offered w.rows choice) l ∙ ap (λ b. transition z b s (offered w.rows choice) l) is)) ∙ op in
    let n : name.Count l.row ≡ name.Count q = ap (λ (p : Operation). p.name) line in
    cc

-- One more event.

module _ (z : Sizes) (o : Opening) (es : List Event) (e : Event) (r r' : Run) (l l' : Local) (a : Activity) (h : Happens z r r' e.seat (offered r.world.rows e.choice) l l' a) (i : Inv z r) (j : Keeps r'.history) (k : Kept z o es r) where
  -- the events up to a position of the shorter list
  front : (x : ℕ) → x < length es → take (x + 1) (es ++ e ∷ []) ≡ take (x + 1) es
  front x w = let y : x + 1 ≤ length es = omega (arith, w) in take-append-le (x + 1) es (e ∷ []) y

  past : (x : ℕ) → x < length r.history.calls → (called r.history x).first < length es
  past x w = omega (arith, i.history.past.first x w, k.mirrors.events)

  over : (x : ℕ) → x < length r.history.calls → CallOver r.history r'.history l (r.seats e.seat) a x
  over x w = call_over r.history r'.history _ z (word z r.world) e.seat (offered r.world.rows e.choice) l (r.seats e.seat) r.origin a _ (made z (word z r.world) e.seat (offered r.world.rows e.choice) l (r.seats e.seat) r.origin a) h.history x w

  -- where a call drew
  draws_so : (x : ℕ) (d : Drawn) → (called r'.history x).draw ≡ Some d → DrawsVersion z o (es ++ e ∷ []) d
  draws_so x d g = drawn_there z o (es ++ e ∷ []) r'.history (log_keeps z o es e r r' l l' a h k) d (j.laws.drawn x d g)

  -- the event does not end a call of a seat that runs on
  not_ended : (x : ℕ) → x < length r.history.calls → (called r.history x).end ≡ None → (called r'.history x).end ≡ None → (reply : Reply) → e.seat ≡ (called r.history x).seat → (step z (world z o es) e).done ≡ Ended reply → ⊥
  not_ended x w n m reply s d =
      let f = leaves_here z o es e r r' l l' a h k reply (subst (λ (v : WorldView). (step z v e).done ≡ Ended reply) k.world d) in
      let c : (r.seats e.seat).call ≡ x = (k.running x e.seat l w n (sym s) h.knows).1 in
      let g = ended_here z o es e r r' l l' a h k f.0 f.1 (subst (λ q. q < length r.history.calls) (sym c) w) in
      none_some (called r'.history x).end (record { at = length r.history.log; reply = reply_of f.0 l.pairs }) m (subst (λ q. (called r'.history q).end ≡ Some (record { at = length r.history.log; reply = reply_of f.0 l.pairs })) c g)

  -- a call that goes on, or had ended
  call_goes_on : (x : ℕ) → x < length r.history.calls → SameLog (called r.history x) (called r'.history x) → MirrorsCall z o (es ++ e ∷ []) r'.history x
  call_goes_on x w t =
      let m = k.mirrors.calls x w in
      record {
        begins = rw (t.first, t.seat, t.call) (begins_lasts z o es e _ _ _ m.begins);
        number = rw (t.number, t.seat, t.first) (m.number ∙ ap (begun z o (called r.history x).seat) (sym (front (called r.history x).first (past x w))));
        ends = λ d g. rw t.seat (ends_lasts z o es e _ _ _ (m.ends d (sym t.end ∙ g)));
        ends_first = λ d g. let u = m.ends d (sym t.end ∙ g) in rw (t.seat, t.first) (no_end_lasts z o es e _ _ d.at (omega (arith, occurs_within z o es d.at u.before _ u.occurs)) (m.ends_first d (sym t.end ∙ g)));
        runs = λ g. rw (t.seat, t.first) (no_end_more z o es e _ _ (m.runs (sym t.end ∙ g)) (not_ended x w (sym t.end ∙ g) g));
        draws = draws_so x;
      }

  -- a call that ends
  call_ends : (x : ℕ) → x < length r.history.calls → (answer : Answer) → a ≡ Activity.Leave answer → x ≡ (r.seats e.seat).call → (c : CallLog) → called r'.history x ≡ c → c.seat ≡ (called r.history x).seat → c.number ≡ (called r.history x).number → c.call ≡ (called r.history x).call → c.first ≡ (called r.history x).first → c.end ≡ Some (record { at = length r.history.log; reply = reply_of answer l.pairs }) →
      (step z r.world e).done ≡ Ended (reply_of answer l.pairs) → MirrorsCall z o (es ++ e ∷ []) r'.history x
  call_ends x w answer is at c f s n q b d done =
      let m = k.mirrors.calls x w in
      let seat : (called r'.history x).seat ≡ (called r.history x).seat = ap (λ (y : CallLog). y.seat) f ∙ s in
      let first : (called r'.history x).first ≡ (called r.history x).first = ap (λ (y : CallLog). y.first) f ∙ b in
      let call : (called r'.history x).call ≡ (called r.history x).call = ap (λ (y : CallLog). y.call) f ∙ q in
      let number : (called r'.history x).number ≡ (called r.history x).number = ap (λ (y : CallLog). y.number) f ∙ n in
      let end : (called r'.history x).end ≡ Some (record { at = length r.history.log; reply = reply_of answer l.pairs }) = ap (λ (y : CallLog). y.end) f ∙ d in
      record {
        begins = rw (first, seat, call) (begins_lasts z o es e _ _ _ m.begins);
        number = rw (number, seat, first) (m.number ∙ ap (begun z o (called r.history x).seat) (sym (front (called r.history x).first (past x w))));
        ends = λ y g. ends_now y (same_Some _ y (sym end ∙ g)) (seat ∙ mine);
        ends_first = λ y g. let u : length r.history.log ≡ y.at = ap (λ (v : End). v.at) (same_Some _ y (sym end ∙ g)) in rw (seat, first) (no_end_lasts z o es e _ _ y.at (omega (arith, u, k.mirrors.events)) (subst (NoEnd z o es (called r.history x).seat (called r.history x).first) (sym k.mirrors.events ∙ u) (m.runs runs)));
        runs = λ g. absurd (none_some (called r'.history x).end _ g end);
        draws = draws_so x;
      }
    where
      calling : Calling r.history e.seat l.activity l (r.seats e.seat)
      calling = i.positions.calling e.seat l h.knows (subst IsBusy (sym (h.activity ∙ is)) tt)

      mine : (called r.history x).seat ≡ e.seat
      mine = ap (λ y. (called r.history y).seat) at ∙ calling.seat

      runs : (called r.history x).end ≡ None
      runs = ap (λ y. (called r.history y).end) at ∙ calling.runs

      ends_now : (y : End) → record { at = length r.history.log; reply = reply_of answer l.pairs } ≡ y → (called r'.history x).seat ≡ e.seat → EndsCall z o (es ++ e ∷ []) y.at (called r'.history x).seat y.reply
      ends_now y g v = rw v (subst (λ (u : End). EndsCall z o (es ++ e ∷ []) u.at e.seat u.reply) g (record { before = r.world; choice = e.choice; occurs = occurs_here z o es e r r' l l' a h k; ends = done }))

  -- a call that begins
  call_begins : (x : ℕ) → IsCallNow r.history r'.history e.seat (offered r.world.rows e.choice) l a x → MirrorsCall z o (es ++ e ∷ []) r'.history x
  call_begins x n = record {
    begins = subst (λ (c : CallLog). BeginsCall z o (es ++ e ∷ []) c.first c.seat c.call) (sym n.is) (record {
      before = r.world;
      local = l;
      occurs = subst (λ c. Occurs z o (es ++ e ∷ []) (length r.history.log) r.world (event e.seat c)) (chosen_call r.world.rows e.choice n.call n.begins) (occurs_here z o es e r r' l l' a h k);
      knows = h.knows;
      idle = h.activity ∙ n.idle;
    });
    number = subst (λ (c : CallLog). c.number ≡ begun z o c.seat (take (c.first + 1) (es ++ e ∷ []))) (sym n.is) number;
    ends = λ d g. absurd (none_some (called r'.history x).end d unended g);
    ends_first = λ d g. absurd (none_some (called r'.history x).end d unended g);
    runs = λ g. subst (λ (c : CallLog). NoEnd z o (es ++ e ∷ []) c.seat c.first (length (es ++ e ∷ []))) (sym n.is) runs;
    draws = draws_so x;
  }
    where
      unended : (called r'.history x).end ≡ None
      unended = ap (λ (c : CallLog). c.end) n.is

      number : l.number + 1 ≡ begun z o e.seat (take (length r.history.log + 1) (es ++ e ∷ []))
      number =
          let u : length (es ++ e ∷ []) ≤ length r.history.log + 1 = omega (arith, k.mirrors.events, length-append es (e ∷ [])) in
          number_begun z o es e r r' l l' a h k n.call n.idle n.begins ∙ ap (begun z o e.seat) (sym (take_all (length r.history.log + 1) (es ++ e ∷ []) u))

      runs : NoEnd z o (es ++ e ∷ []) e.seat (length r.history.log) (length (es ++ e ∷ []))
      runs u reply f g t = which (ends_was z o es e u e.seat reply t)
        where
          which : EndsCall z o es u e.seat reply ⊎ ((u ≡ length es) × (e.seat ≡ e.seat) × ((step z (world z o es) e).done ≡ Ended reply)) → ⊥
          which (inl y) = omega (arith, occurs_within z o es u y.before _ y.occurs, f, k.mirrors.events)
          which (inr y) =
              let u = leaves_here z o es e r r' l l' a h k reply (subst (λ (q : WorldView). (step z q e).done ≡ Ended reply) k.world y.2) in
              let v : Activity.Idle ≡ (Activity.Leave u.0) = sym n.idle ∙ u.1 in
              cc

  pub calls_keep : (x : ℕ) → x < length r'.history.calls → MirrorsCall z o (es ++ e ∷ []) r'.history x
  calls_keep x w = which (call_was r.history r'.history _ z (word z r.world) e.seat (offered r.world.rows e.choice) l (r.seats e.seat) r.origin a _ (made z (word z r.world) e.seat (offered r.world.rows e.choice) l (r.seats e.seat) r.origin a) h.history x w)
    where
      old : x < length r.history.calls → CallOver r.history r'.history l (r.seats e.seat) a x → MirrorsCall z o (es ++ e ∷ []) r'.history x
      old v (goes_on t) = call_goes_on x v t
      old v (is_ended answer is at f) = call_ends x v answer is at _ f refl refl refl refl refl (ends_here z o es e r r' l l' a h k answer is)

      which : (x < length r.history.calls) ⊎ IsCallNow r.history r'.history e.seat (offered r.world.rows e.choice) l a x → MirrorsCall z o (es ++ e ∷ []) r'.history x
      which (inl v) = old v (over x v)
      which (inr n) = call_begins x n

  -- Nothing is left out.

  -- a call that begins is in the record
  pub all_calls_keep : (x s : ℕ) (call : Call) → BeginsCall z o (es ++ e ∷ []) x s call → IsCallOf r'.history x
  all_calls_keep x s call t = which (occurs_was z o es e x t.before (event s (Begin call)) t.occurs)
    where
      -- the event begins it
      now : a ≡ Activity.Idle → offered r.world.rows e.choice ≡ Begin call → x ≡ length r.history.log → IsCallOf r'.history x
      now is chosen at =
          let f = subst (λ b. r'.history ≡ noted r.history (logged e.seat (transition z a e.seat (offered r.world.rows e.choice) l).operation.kind (word z r.world name.Clock)) (change_of z b e.seat (offered r.world.rows e.choice) l (found_at z (word z r.world) a e.seat (offered r.world.rows e.choice) l) (r.seats e.seat) r.origin)) is h.history in
          let g = subst (λ c. r'.history ≡ noted r.history (logged e.seat (transition z a e.seat (offered r.world.rows e.choice) l).operation.kind (word z r.world name.Clock)) (beginning c e.seat l)) chosen f in
          let cs = ap (λ (q : History). q.calls) g in
          record {
            place = length r.history.calls;
            within = omega (arith, ap length cs, length-append {A = CallLog});
            first = ap (λ (q : CallLog). q.first) (called_push_new r.history r'.history (length r.history.calls) _ cs refl) ∙ sym at;
          }

      which : Occurs z o es x t.before (event s (Begin call)) ⊎ ((x ≡ length es) × (e ≡ event s (Begin call)) × (world z o es ≡ t.before)) → IsCallOf r'.history x
      which (inl f) =
          let y = k.mirrors.all_calls x s call (record { before = t.before; local = t.local; occurs = f; knows = t.knows; idle = t.idle }) in
          let goes = goes_on_by z r r' e.seat (offered r.world.rows e.choice) l a l' h i in
          record { place = y.place; within = omega (arith, y.within, goes.more_calls); first = (goes.calls y.place y.within).first ∙ y.first }
      which (inr f) =
          let same : l ≡ t.local = acting_local z o es e r r' l l' a h k t.before s (Begin call) t.local f.1 f.2 t.knows in
          now (sym h.activity ∙ ap (λ (q : Local). q.activity) same ∙ t.idle) (ap (λ (q : Event). offered r.world.rows q.choice) f.1) (f.0 ∙ sym k.mirrors.events)

  -- a cell that is given is in the record
  pub all_attempts_keep : (x s q cell : ℕ) → TakesCell z o (es ++ e ∷ []) x s q cell → IsAttemptOf r'.history x
  all_attempts_keep x s q cell t = which (occurs_was z o es e x t.acts.before (event s t.acts.choice) t.acts.occurs)
    where
      -- the event gives it
      now : a ≡ Activity.Put Put.Add → has_room z (count_of (word z r.world (name.Count l.row))) ≡ true → x ≡ length r.history.log → IsAttemptOf r'.history x
      now is room at =
          let g = subst (Happens z r r' e.seat (offered r.world.rows e.choice) l l') is h in
          record {
            place = length r.history.attempts;
            within = one_more_within g room;
            add = ap (λ (q : Attempt). q.add) (one_more_is g room) ∙ sym at;
          }

      which : Occurs z o es x t.acts.before (event s t.acts.choice) ⊎ ((x ≡ length es) × (e ≡ event s t.acts.choice) × (world z o es ≡ t.acts.before)) → IsAttemptOf r'.history x
      which (inl f) =
          let y = k.mirrors.all_attempts x s q cell (record { found = t.found; acts = record { before = t.acts.before; choice = t.acts.choice; local = t.acts.local; occurs = f; knows = t.acts.knows; activity = t.acts.activity; operates = t.acts.operates; finds = t.acts.finds }; room = t.room; given = t.given; below = t.below }) in
          let goes = goes_on_by z r r' e.seat (offered r.world.rows e.choice) l a l' h i in
          record { place = y.place; within = omega (arith, y.within, goes.more_attempts); add = (goes.attempts y.place y.within).add ∙ y.add }
      which (inr f) =
          let same : l ≡ t.acts.local = acting_local z o es e r r' l l' a h k t.acts.before s t.acts.choice t.acts.local f.1 f.2 t.acts.knows in
          let line : l.row ≡ q = ap (λ (m : Local). m.row) same ∙ add_line z t.acts.before s t.acts.choice t.acts.local q t.acts.activity t.acts.operates in
          let found : t.found ≡ word z r.world (name.Count l.row) = sym t.acts.finds ∙ ap (λ (w : WorldView). word z w (name.Count q)) (sym f.2 ∙ k.world) ∙ ap (λ m. word z r.world (name.Count m)) (sym line) in
          now (sym h.activity ∙ ap (λ (m : Local). m.activity) same ∙ t.acts.activity) (subst (λ w. has_room z (count_of w) ≡ true) found t.room) (f.0 ∙ sym k.mirrors.events)
