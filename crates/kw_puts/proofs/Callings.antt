-- The call of a busy seat over its own event: it runs on, and what it has for a put is its own
-- attempt.
use Rattle.std.proofs.Common.{ℕ, ◌≡◌, ◌⊎◌, inl, inr, ◌+◌, ◌<◌, true, false, Option, Some, None, [], ◌∷◌, ◌++◌, arith, refl, sym, ◌∙◌, ap, subst, length, length-append}
use Rattle.std.proofs.lemmas.Option.{same_Some}
use Rattle.kw_words.specs.declared.layout.Name.TheVariants as name
use Rattle.kw_model.specs.declared.call.Call.{Call}
use Rattle.kw_model.specs.declared.call.Call.TheVariants.{Put, Del, Get, Scan, Pin, ScanAt, Unpin}
use Rattle.kw_world.specs.declared.activity.Activity.{Activity}
use Rattle.kw_world.specs.declared.activity.draw.Draw.TheVariants as Draw
use Rattle.kw_world.specs.declared.activity.enter.Enter.TheVariants as Enter
use Rattle.kw_world.specs.declared.activity.look.Look.TheVariants as Look
use Rattle.kw_world.specs.declared.activity.put.Put.TheVariants as Put
use Rattle.kw_world.specs.declared.activity.read.Read.TheVariants as Read
use Rattle.kw_world.specs.declared.activity.rebalance.engage.Engage.TheVariants as Engage
use Rattle.kw_world.specs.declared.activity.rebalance.freeze.Freeze.TheVariants as Freeze
use Rattle.kw_world.specs.declared.activity.rebalance.gather.Gather.TheVariants as Gather
use Rattle.kw_world.specs.declared.activity.insert.Insert.TheVariants as Insert
use Rattle.kw_world.specs.declared.activity.rebalance.Rebalance.TheVariants as Rebalance
use Rattle.kw_world.specs.declared.activity.rebalance.replace.Replace.TheVariants as Replace
use Rattle.kw_world.specs.declared.activity.rebalance.seek.Seek.TheVariants as Seek
use Rattle.kw_world.specs.declared.activity.walk.Walk.TheVariants as Walk
use Rattle.kw_world.specs.declared.activity.rebalance.write.Write.TheVariants as Write
use Rattle.kw_world.specs.declared.local.Local.{Local}
use Rattle.kw_world.specs.declared.event.Choice.{Choice}
use Rattle.kw_world.specs.declared.event.Choice.TheVariants.{Begin}
use Rattle.kw_world.specs.Sizes.{Sizes}
use Rattle.kw_world.specs.Step.{word}
use Rattle.kw_core.specs.History.{History, attempt, called}
use Rattle.kw_core.specs.declared.history.Logged.{Logged}
use Rattle.kw_core.specs.declared.history.CallLog.{CallLog}
use Rattle.kw_core.specs.HistoryLaws.{Makes as MakesPut}
use Rattle.kw_core.specs.declared.history.Change.{Change}
use Rattle.kw_core.specs.Noted.{noted}
use Rattle.kw_core.specs.Step.{Keeps}
use Rattle.kw_core.specs.Run.{Run, Origins, beginning, log_begun, seat_after}
use Rattle.kw_core.specs.declared.seat_log.SeatLog.{SeatLog}
use Rattle.kw_core.specs.Stages.{IsBalancing, IsBusy, IsPutting, IsPublished, IsStamp, IsStamped, IsPutClear, IsDone, IsHelp, IsUnderway}
use Rattle.kw_shape.specs.Shape.{IsReadCall, IsKind}
use Rattle.kw_puts.specs.Positions.{Calling}
use Rattle.kw_puts.specs.Below.{Below}
use Rattle.kw_core.specs.Step.{Step}
use Rattle.kw_core.proofs.Attempts.{in_range}
use Rattle.kw_core.proofs.NotedLaws.{called_set_same, called_push_old, called_push_new, called_same}
use Rattle.kw_core.proofs.Steps.{old_call}
use Rattle.kw_core.proofs.Changes.{Makes, made, makes_nothing, makes_begin, makes_add, makes_announce, makes_stamp, makes_help, makes_end, makes_lose}
use Rattle.kw_core.proofs.Happens.{found_at, log_entry}
use Rattle.kw_puts.proofs.RelyEntry.{put_runs}
use Rattle.kw_puts.proofs.RelyProof.{goes_on_by}
use Rattle.kw_puts.proofs.Owners.{true_false}
use Rattle.kw_puts.proofs.OwnAttempts.{lost_entry}
use Rattle.kw_puts.proofs.Rely.{SameCall}
use Rattle.kw_core.proofs.Happens.{Happens}
use Rattle.kw_core.proofs.Arrows.{Arrow, IsNotOwn}
use Rattle.kw_core.proofs.SeatLogs.{call_kept, own_kept}
use Rattle.kw_shape.proofs.NextCalls.{arrow_call, arrow_published, arrow_done, arrow_tidies, arrow_from}

-- Where a seat is.

-- a seat in a call is busy
underway_busy : (a : Activity) → IsUnderway a → IsBusy a
underway_busy Activity.Idle u = u
underway_busy _ u = tt

-- a put that is done is about to end
done_ends : (a : Activity) → IsDone a → IsUnderway a → ⊥
done_ends (Activity.Leave answer) d u = u
done_ends _ d u = d

-- a put that is to stamp has announced its cell
stamp_published : (a : Activity) → IsStamp a → IsPublished a
stamp_published (Activity.Put Put.Stamp) x = tt
stamp_published _ x = absurd x

-- a put that is to clear its entry has a cell and is stamped
clear_published : (a : Activity) → IsPutClear a → IsPutting a × IsStamped a
clear_published (Activity.Put Put.Clear) x = (tt, tt)
clear_published _ x = absurd x

-- only a get or a scan helps
saw_reads : (a : Activity) (l : Local) → IsHelp a → IsKind a l → IsReadCall l.call
saw_reads (Activity.Look Look.Help) l x k = k
saw_reads _ l x k = absurd x

-- a get or a scan puts nothing
read_makes_none : (c : Call) (key : ℕ) (value : Option ℕ) → IsReadCall (Some c) → MakesPut c key value → ⊥
read_makes_none (Put k v) key value r m = r
read_makes_none (Del k) key value r m = r
read_makes_none (Get k) key value r m = m
read_makes_none (Scan from upto) key value r m = m
read_makes_none Pin key value r m = r
read_makes_none (ScanAt from upto) key value r m = r
read_makes_none Unpin key value r m = r

-- What an event leaves of its seat's call.

-- a call runs on until its seat leaves it
runs_on : (h h' : History) (e : Logged) (z : Sizes) (v : _) (s : ℕ) (choice : Choice) (l : Local) (g : SeatLog) (o : Origins) (a : Activity) (c : Change) → Makes z v s choice l g o a c → IsUnderway a → h' ≡ noted h e c → (x : ℕ) → x < length h.calls → (called h' x).end ≡ (called h x).end
runs_on h h' e z v s choice l g o a c (makes_nothing b) u n x w = ap (λ (q : CallLog). q.end) (called_same h h' x (ap (λ (y : History). y.calls) n))
runs_on h h' e z v s choice l g o a c (makes_begin call m) u n x w = absurd u
runs_on h h' e z v s choice l g o a c (makes_add m) u n x w = ap (λ (q : CallLog). q.end) (called_same h h' x (ap (λ (y : History). y.calls) n))
runs_on h h' e z v s choice l g o a c (makes_announce m) u n x w = ap (λ (q : CallLog). q.end) (called_same h h' x (ap (λ (y : History). y.calls) n))
runs_on h h' e z v s choice l g o a c (makes_stamp m) u n x w = put_runs h h' x (attempt h g.own).call _ (ap (λ (y : History). y.calls) n) w
runs_on h h' e z v s choice l g o a c (makes_help q m k) u n x w = put_runs h h' x (attempt h q).call _ (ap (λ (y : History). y.calls) n) w
runs_on h h' e z v s choice l g o a c (makes_lose j cell q y m k) u n x w = ap (λ (q : CallLog). q.end) (called_same h h' x (ap (λ (y : History). y.calls) n))
runs_on h h' e z v s choice l g o a c (makes_end answer) u n x w = absurd u

-- the put that a seat's call has after its event is the one that it had, or the seat has stamped it
put_after : (h h' : History) (e : Logged) (z : Sizes) (v : _) (s : ℕ) (choice : Choice) (l : Local) (g : SeatLog) (o : Origins) (a : Activity) (c : Change) → Makes z v s choice l g o a c → h' ≡ noted h e c → g.call < length h.calls → (IsStamp a → (attempt h g.own).call ≡ g.call) →
    (IsHelp a → (p : ℕ) → (called h' g.call).put ≡ Some p → ⊥) → (p : ℕ) → (called h' g.call).put ≡ Some p → ((called h g.call).put ≡ Some p) ⊎ IsStamp a × (g.own ≡ p)
put_after h h' e z v s choice l g o a c (makes_nothing b) n w f r p q = inl (ap (λ (y : CallLog). y.put) (sym (called_same h h' g.call (ap (λ (y : History). y.calls) n))) ∙ q)
put_after h h' e z v s choice l g o a c (makes_begin call m) n w f r p q = inl (ap (λ (y : CallLog). y.put) (sym (called_push_old h h' g.call _ (ap (λ (y : History). y.calls) n) w)) ∙ q)
put_after h h' e z v s choice l g o a c (makes_add m) n w f r p q = inl (ap (λ (y : CallLog). y.put) (sym (called_same h h' g.call (ap (λ (y : History). y.calls) n))) ∙ q)
put_after h h' e z v s choice l g o a c (makes_announce m) n w f r p q = inl (ap (λ (y : CallLog). y.put) (sym (called_same h h' g.call (ap (λ (y : History). y.calls) n))) ∙ q)
put_after h h' e z v s choice l g o a c (makes_stamp m) n w f r p q =
    let x = called_set_same h h' (attempt h g.own).call _ (ap (λ (y : History). y.calls) n) (subst (λ y. y < length h.calls) (sym (f tt)) w) in
    let y : (called h' g.call).put ≡ Some g.own = subst (λ y. (called h' y).put ≡ Some g.own) (f tt) (ap (λ (y : CallLog). y.put) x) in
    inr (tt, same_Some g.own p (sym y ∙ q))
put_after h h' e z v s choice l g o a c (makes_help j m k) n w f r p q = absurd (r tt p q)
put_after h h' e z v s choice l g o a c (makes_lose i cell j x m k) n w f r p q = inl (ap (λ (y : CallLog). y.put) (sym (called_same h h' g.call (ap (λ (y : History). y.calls) n))) ∙ q)
put_after h h' e z v s choice l g o a c (makes_end answer) n w f r p q = inl (ap (λ (y : CallLog). y.put) (sym (called_set_same h h' g.call _ (ap (λ (y : History). y.calls) n) w)) ∙ q)

-- a seat that rebalances keeps its own attempt
own_balancing : (z : Sizes) (choice : Choice) (l : Local) (found : ℕ) (next : Activity) (g : SeatLog) (o : Origins) (h : History) (settled : ℕ) (a : Activity) → IsBalancing a → (seat_after z a choice l found next g o h settled).own ≡ g.own
own_balancing z choice l found next g o h settled Activity.Idle u = absurd u
own_balancing z choice l found next g o h settled (Activity.Draw Draw.Settle) u = absurd u
own_balancing z choice l found next g o h settled (Activity.Look (Look.Entry i)) u = absurd u
own_balancing z choice l found next g o h settled (Activity.Read Read.Start) u = absurd u
own_balancing z choice l found next g o h settled (Activity.Read Read.Link) u = absurd u
own_balancing z choice l found next g o h settled (Activity.Read Read.Key) u = absurd u
own_balancing z choice l found next g o h settled (Activity.Read Read.LeftOverKey) u = absurd u
own_balancing z choice l found next g o h settled (Activity.Read Read.LeftOverValue) u = absurd u
own_balancing z choice l found next g o h settled (Activity.Put Put.Add) u = absurd u
own_balancing z choice l found next g o h settled (Activity.Enter Enter.Announce) u = refl
own_balancing z choice l found next g o h settled (Activity.Walk Walk.First) u = refl
own_balancing z choice l found next g o h settled (Activity.Insert Insert.Link) u = refl
own_balancing z choice l found next g o h settled (Activity.Rebalance (Rebalance.Engage Engage.Clock)) u = refl
own_balancing z choice l found next g o h settled (Activity.Rebalance (Rebalance.Freeze Freeze.Count)) u = refl
own_balancing z choice l found next g o h settled (Activity.Rebalance (Rebalance.Gather Gather.Link)) u = refl
own_balancing z choice l found next g o h settled (Activity.Rebalance (Rebalance.Seek Seek.Next)) u = refl
own_balancing z choice l found next g o h settled (Activity.Rebalance (Rebalance.Write Write.Count)) u = refl
own_balancing z choice l found next g o h settled (Activity.Rebalance (Rebalance.Replace Replace.First)) u = refl
own_balancing z choice l found next g o h settled _ u = refl

-- The call after the event.

-- a call that begins
pub calling_begins : (z : Sizes) (r r' : Run) (s : ℕ) (choice : Choice) (l l' : Local) (call : Call) → choice ≡ Begin call → l'.call ≡ Some call → l'.number ≡ l.number + 1 → l'.activity ≡ Activity.Enter Enter.Announce → (l'.tidies ≡ true → ⊥) → Happens z r r' s choice l l' Activity.Idle → Calling r'.history s l'.activity l' (r'.seats s)
calling_begins z r r' s choice l l' call c f m a rests h = subst (λ q. Calling r'.history s l'.activity l' q) (sym log) (record {
  within = omega (arith, ap length calls, length-append r.history.calls (new ∷ []));
  seat = ap (λ (q : CallLog). q.seat) is_new;
  number = ap (λ (q : CallLog). q.number) is_new ∙ sym m;
  call = f ∙ ap Some (sym (ap (λ (q : CallLog). q.call) is_new));
  runs = ap (λ (q : CallLog). q.end) is_new;
  own = λ p q. absurd (no_put p q);
  published = λ p q. absurd (no_put p q);
  done = λ d. absurd (not_yet d);
})
  where
    not_yet : IsDone l'.activity ⊎ (l'.tidies ≡ true) → ⊥
    not_yet (inl d) = let x : IsDone (Activity.Enter Enter.Announce) = subst IsDone a d in x
    not_yet (inr d) = rests d

    new : CallLog
    new = record { seat = s; number = l.number + 1; call = call; first = length r.history.log; end = None; put = None; answer = None; draw = None }

    log : r'.seats s ≡ log_begun (Begin call) (length r.history.calls) (r.seats s)
    log = h.log ∙ ap (λ q. log_begun q (length r.history.calls) (r.seats s)) c

    calls : r'.history.calls ≡ r.history.calls ++ new ∷ []
    calls = ap (λ (q : History). q.calls) (h.history ∙ ap (λ q. noted r.history (log_entry z r Activity.Idle s choice l) (beginning q s l)) c)

    is_new : called r'.history (length r.history.calls) ≡ new
    is_new = called_push_new r.history r'.history (length r.history.calls) new calls refl

    no_put : (p : ℕ) → (called r'.history (length r.history.calls)).put ≡ Some p → ⊥
    no_put p q = let x : None ≡ Some p = sym (ap (λ (q : CallLog). q.put) is_new) ∙ q in cc

-- a call that goes on
module _ (z : Sizes) (r r' : Run) (s : ℕ) (choice : Choice) (l : Local) (a : Activity) (l' : Local) (b : Arrow z (word z r.world) s choice l a l') (h : Happens z r r' s choice l l' a) (i : Below z r) (st : Step r.history r'.history (log_entry z r a s choice l)) (k : Keeps r'.history) (u : IsUnderway a) where
  -- the call before the event
  x : Calling r.history s l.activity l (r.seats s)
  x = i.positions.calling s l h.knows (subst IsBusy (sym h.activity) (underway_busy a u))

  -- the seat's call is the same
  pub same_call : (r'.seats s).call ≡ (r.seats s).call
  same_call = ap (λ (q : SeatLog). q.call) h.log ∙ call_kept z choice l _ l'.activity (r.seats s) r.origin r.history (r.settled s) a u

  -- what the call is of has not changed
  same : SameCall r.history r'.history (r.seats s).call
  same = (goes_on_by z r r' s choice l a l' h i st).calls (r.seats s).call x.within

  -- the activity is one of the call
  kind : IsKind a l
  kind = subst (λ q. IsKind q l) h.activity (i.shape.kinds s l h.knows).kind

  -- a call that helps has no put
  reads_none : IsHelp a → (p : ℕ) → (called r'.history (r.seats s).call).put ≡ Some p → ⊥
  reads_none y p q =
      let t = k.laws.is_put (r.seats s).call p q in
      let m = (k.laws.attempted p (in_range r'.history p t.0)).makes in
      let c : (called r'.history (attempt r'.history p).call).call ≡ (called r.history (r.seats s).call).call = ap (λ y. (called r'.history y).call) t.1 ∙ same.call in
      read_makes_none (called r.history (r.seats s).call).call (attempt r'.history p).key (attempt r'.history p).value (subst IsReadCall x.call (saw_reads a l y kind)) (subst (λ y. MakesPut y (attempt r'.history p).key (attempt r'.history p).value) c m)

  -- the put of the call was there, or the seat has stamped it now
  its_put : (p : ℕ) → (called r'.history (r.seats s).call).put ≡ Some p → ((called r.history (r.seats s).call).put ≡ Some p) ⊎ IsStamp a × ((r.seats s).own ≡ p)
  its_put = put_after r.history r'.history _ z (word z r.world) s choice l (r.seats s) r.origin a _ (made z (word z r.world) s choice l (r.seats s) r.origin a) h.history x.within
      (λ y. (i.puts.owns s l h.knows (subst IsPutting (sym h.activity) (stamp_puts a y))).call) reads_none
    where
      stamp_puts : (c : Activity) → IsStamp c → IsPutting c
      stamp_puts (Activity.Put Put.Stamp) y = tt
      stamp_puts _ y = absurd y

  -- a seat that tidies rebalances its row
  tidying : l.tidies ≡ true → IsBalancing a
  tidying e = which (i.shape.tidies s l h.knows e)
    where
      which : IsBalancing l.activity ⊎ IsDone l.activity → IsBalancing a
      which (inl y) = subst IsBalancing h.activity y
      which (inr y) = absurd (done_ends a (subst IsDone h.activity y) u)

  -- its attempt stays its own
  own_stays : IsPublished a ⊎ IsBalancing a × (l.tidies ≡ true) → (seat_after z a choice l (found_at z (word z r.world) a s choice l) l'.activity (r.seats s) r.origin r.history (r.settled s)).own ≡ (r.seats s).own
  own_stays (inl y) = own_kept z choice l _ l'.activity (r.seats s) r.origin r.history (r.settled s) a y
  own_stays (inr y) = own_balancing z choice l _ l'.activity (r.seats s) r.origin r.history (r.settled s) a y.0

  -- a put of the call is the seat's own attempt, which was announced
  is_published : (p : ℕ) → ((called r.history (r.seats s).call).put ≡ Some p) ⊎ IsStamp a × ((r.seats s).own ≡ p) → (IsPublished a ⊎ IsBalancing a × (l.tidies ≡ true)) × ((r.seats s).own ≡ p)
  is_published p (inl e) = (which (x.published p e), x.own p e)
    where
      which : IsPublished l.activity ⊎ IsDone l.activity ⊎ (l.tidies ≡ true) → IsPublished a ⊎ IsBalancing a × (l.tidies ≡ true)
      which (inl y) = inl (subst IsPublished h.activity y)
      which (inr (inl y)) = absurd (done_ends a (subst IsDone h.activity y) u)
      which (inr (inr y)) = inr (tidying y, y)
  is_published p (inr e) = (inl (stamp_published a e.0), e.1)

  -- an attempt that is the put of the call was not lost, so its seat finds its entry its own where
  -- it is about to stamp
  not_lost : (p : ℕ) → (called r'.history (r.seats s).call).put ≡ Some p → (r.seats s).own ≡ p → a ≡ Activity.Put Put.Stamp → IsNotOwn l.cell (word z r.world (name.Pend l.row s)) → ⊥
  not_lost p q e stamp n =
      let own = i.puts.owns s l h.knows (subst IsPutting (sym (h.activity ∙ stamp)) tt) in
      let lost = lost_entry z r s l i own h.knows (h.activity ∙ stamp) n in
      let goes = goes_on_by z r r' s choice l a l' h i st in
      true_false ((goes.grows.old (r.seats s).own own.within).lost lost) (subst (λ x. (attempt r'.history x).is_lost ≡ false) (sym e) (k.laws.kept p (k.laws.is_put (r.seats s).call p q).0))

  -- a put that clears its entry is the put of its call
  done_put : IsPutClear a → (called r'.history (r.seats s).call).put ≡ Some (r.seats s).own
  done_put y =
      let c = clear_published a y in
      let own = i.puts.owns s l h.knows (subst IsPutting (sym h.activity) c.0) in
      let put = i.history.laws.has_put (r.seats s).own (own.stamped (subst IsStamped (sym h.activity) c.1)) in
      (old_call r.history r'.history _ st (r.seats s).call x.within).put (r.seats s).own (subst (λ y. (called r.history y).put ≡ Some (r.seats s).own) own.call put)

  -- it goes on so, is done, or tidies
  goes : (IsNotOwn l.cell (word z r.world (name.Pend l.row s)) → a ≡ Activity.Put Put.Stamp → ⊥) → IsPublished a ⊎ IsBalancing a × (l.tidies ≡ true) → IsPublished l'.activity ⊎ IsDone l'.activity ⊎ (l'.tidies ≡ true)
  goes f (inl y) = which (arrow_published z (word z r.world) s choice l a l' b f y)
    where
      which : IsPublished l'.activity ⊎ IsDone l'.activity ⊎ IsBalancing l'.activity × (l'.tidies ≡ true) → IsPublished l'.activity ⊎ IsDone l'.activity ⊎ (l'.tidies ≡ true)
      which (inl y) = inl y
      which (inr (inl y)) = inr (inl y)
      which (inr (inr y)) = inr (inr y.1)
  goes f (inr y) = which (arrow_tidies z (word z r.world) s choice l a l' b y.0 y.1)
    where
      which : IsDone l'.activity ⊎ IsBalancing l'.activity × (l'.tidies ≡ true) → IsPublished l'.activity ⊎ IsDone l'.activity ⊎ (l'.tidies ≡ true)
      which (inl y) = inr (inl y)
      which (inr y) = inr (inr y.1)

  -- where it is done or tidies now, it has cleared its entry, or tidied before
  came : IsDone l'.activity ⊎ (l'.tidies ≡ true) → IsPutClear a ⊎ (l.tidies ≡ true)
  came (inl d) = arrow_done z (word z r.world) s choice l a l' b kind d
  came (inr e) = arrow_from z (word z r.world) s choice l a l' b e

  -- and has a put
  put_there : IsPutClear a ⊎ (l.tidies ≡ true) → (p : ℕ) × ((called r'.history (r.seats s).call).put ≡ Some p)
  put_there (inl y) = ((r.seats s).own, done_put y)
  put_there (inr e) = let d = x.done (inr e) in (d.0, (old_call r.history r'.history _ st (r.seats s).call x.within).put d.0 d.1)

  -- the call after the event
  pub calling_goes_on : Calling r'.history s l'.activity l' (r'.seats s)
  calling_goes_on =
      let t = arrow_call z (word z r.world) s choice l a l' b u in
      record {
        within = rw same_call (omega (arith, x.within, (goes_on_by z r r' s choice l a l' h i st).more_calls));
        seat = rw same_call (same.seat ∙ x.seat);
        number = rw same_call (same.number ∙ x.number ∙ sym t.1);
        call = rw same_call (t.0 ∙ x.call ∙ ap Some (sym same.call));
        runs = rw same_call (runs_on r.history r'.history _ z (word z r.world) s choice l (r.seats s) r.origin a _ (made z (word z r.world) s choice l (r.seats s) r.origin a) u h.history (r.seats s).call x.within ∙ x.runs);
        own = λ p q.
            let y = is_published p (its_put p (subst (λ c. (called r'.history c).put ≡ Some p) same_call q)) in
            ap (λ (q : SeatLog). q.own) h.log ∙ own_stays y.0 ∙ y.1;
        published = λ p q.
            let y = is_published p (its_put p (subst (λ c. (called r'.history c).put ≡ Some p) same_call q)) in
            goes (λ n e. not_lost p (subst (λ c. (called r'.history c).put ≡ Some p) same_call q) y.1 e n) y.0;
        done = λ d. rw same_call (put_there (came d));
      }
