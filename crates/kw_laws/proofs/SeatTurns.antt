-- One event, and the calls of each seat: other seats' stay, and the acting seat begins one, ends
-- its last one, or leaves them.
use Rattle.std.proofs.Common.{ℕ, ◌≡◌, ◌≢◌, ◌⊎◌, inl, inr, ◌+◌, ◌<◌, ◌≤◌, true, false, Some, None, List, [], ◌∷◌, ◌++◌, arith, refl, sym, ◌∙◌, ap, subst, length, slice_get, length-append, length-set, append-nil}
use Rattle.std.proofs.lemmas.Bool.{cases_eq}
use Rattle.kw_words.specs.declared.layout.Name.TheVariants as name
use Rattle.kw_model.specs.declared.call.Call.{Call}
use Rattle.kw_model.specs.declared.call.Reply.{Reply}
use Rattle.kw_world.specs.declared.answer.Answer.{Answer}
use Rattle.kw_world.specs.Answers.{reply_of}
use Rattle.kw_world.specs.declared.activity.Activity.{Activity}
use Rattle.kw_world.specs.declared.activity.enter.Enter.TheVariants as Enter
use Rattle.kw_world.specs.declared.local.Local.{Local}
use Rattle.kw_world.specs.declared.event.Choice.{Choice}
use Rattle.kw_world.specs.declared.event.Choice.TheVariants.{Begin, Go, Guess, Stop}
use Rattle.kw_world.specs.Sizes.{Sizes}
use Rattle.kw_world.specs.ScanTransitions.{begun}
use Rattle.kw_world.specs.Table.{transition}
use Rattle.kw_world.specs.Step.{word, followed, is_skipped}
use Rattle.kw_core.specs.History.{History, called}
use Rattle.kw_core.specs.declared.history.Logged.{Logged}
use Rattle.kw_core.specs.declared.history.CallLog.{CallLog}
use Rattle.kw_core.specs.declared.history.Change.{Change}
use Rattle.kw_core.specs.Noted.{noted, calls_after}
use Rattle.kw_core.specs.Run.{Run, Origins, logged, change_of, beginning, answering, drawing, seat_after, log_begun}
use Rattle.kw_core.specs.declared.seat_log.SeatLog.{SeatLog}
use Rattle.kw_core.specs.Words.{Words}
use Rattle.kw_core.specs.Stages.{IsBusy, IsUnderway, IsStaying}
use Rattle.kw_puts.specs.Positions.{Calling}
use Rattle.kw_reads.specs.Inv.{Inv}
use Rattle.kw_laws.specs.SeatCalls.{CallSeen, seen, begun_at, ended_at, end_last, seen_after, AreInTurn, HasLast, KeepsTurns, AreStill}
use Rattle.kw_core.proofs.Happens.{Happens, each_seat, found_at}
use Rattle.kw_core.proofs.Changes.{Makes, made, makes_nothing, makes_begin, makes_add, makes_announce, makes_stamp, makes_help, makes_end, makes_lose}
use Rattle.kw_laws.proofs.MirrorSeats.{arrow_busy}
use Rattle.kw_shape.proofs.NextCalls.{arrow_call}
use Rattle.kw_laws.proofs.Over.{CallOver, goes_on, is_ended, SameLog, call_over, IsCallNow, call_was}
use Rattle.kw_core.proofs.SeatLogs.{call_kept}
use Rattle.kw_laws.proofs.SeatLists.{seen_by, call_at, seen_by-own, seen_by-other, seen_by-push, AreAlike, seen_by-alike, seen_by-last, end_last-snoc, in_turn-more, in_turn-snoc, still-push, still-same, still-last}

-- no call of a busy seat stands after the one that it makes
abbrev pub AreLatest : Run → Type 0
AreLatest r = (t : ℕ) (m : Local) → slice_get r.world.locals t ≡ Some m → IsBusy m.activity → (y : ℕ) → y < length r.history.calls → (called r.history y).seat ≡ t → y ≤ (r.seats t).call

-- the calls of each seat are in turn
abbrev pub AllInTurn : Run → Type 0
AllInTurn r = (t : ℕ) (m : Local) → slice_get r.world.locals t ≡ Some m → KeepsTurns (length r.history.log) m (seen_by t r.history.calls)

-- an idle seat that acts begins a call
begins_call : (c : Choice) → is_skipped Activity.Idle c ≡ false → (call : Call) × (c ≡ Begin call)
begins_call (Begin call) h = (call, refl)
begins_call Go h = let x : true ≡ false = h in absurd (cc)
begins_call (Guess q) h = let x : true ≡ false = h in absurd (cc)
begins_call Stop h = let x : true ≡ false = h in absurd (cc)

-- only an idle seat adds a call
same_number : (h h' : History) (e : Logged) (z : Sizes) (v : Words) (s : ℕ) (choice : Choice) (l : Local) (g : SeatLog) (o : Origins) (a : Activity) (c : Change) → Makes z v s choice l g o a c → IsBusy a → h' ≡ noted h e c → length h'.calls ≡ length h.calls
same_number h h' e z v s choice l g o a c (makes_begin call m) u n = absurd u
same_number h h' e z v s choice l g o a c (makes_nothing b) u n = ap (λ (y : History). length y.calls) n
same_number h h' e z v s choice l g o a c (makes_add m) u n = ap (λ (y : History). length y.calls) n
same_number h h' e z v s choice l g o a c (makes_announce m) u n = ap (λ (y : History). length y.calls) n
same_number h h' e z v s choice l g o a c (makes_stamp m) u n = ap (λ (y : History). length y.calls) n ∙ length-set h.calls _ _
same_number h h' e z v s choice l g o a c (makes_help q m k) u n = ap (λ (y : History). length y.calls) n ∙ length-set h.calls _ _
same_number h h' e z v s choice l g o a c (makes_lose j cell q y m k) u n = ap (λ (y : History). length y.calls) n
same_number h h' e z v s choice l g o a c (makes_end answer) u n = ap (λ (y : History). length y.calls) n ∙ length-set h.calls _ _

-- a call that got a put at most looks the same
same_seen : (s : ℕ) (c d : CallLog) → SameLog c d → AreAlike s c d
same_seen s c d x = inr (x.seat, rw (x.number, x.call, x.first, x.end) refl)

module _ (z : Sizes) (r r' : Run) (s : ℕ) (choice : Choice) (l l' : Local) (a : Activity) (h : Happens z r r' s choice l l' a) (i : Inv z r) where
  over : (x : ℕ) → x < length r.history.calls → CallOver r.history r'.history l (r.seats s) a x
  over x w = call_over r.history r'.history _ z (word z r.world) s choice l (r.seats s) r.origin a _ (made z (word z r.world) s choice l (r.seats s) r.origin a) h.history x w

  was : (x : ℕ) → x < length r'.history.calls → (x < length r.history.calls) ⊎ IsCallNow r.history r'.history s choice l a x
  was x w = call_was r.history r'.history _ z (word z r.world) s choice l (r.seats s) r.origin a _ (made z (word z r.world) s choice l (r.seats s) r.origin a) h.history x w

  calling : IsBusy a → Calling r.history s l.activity l (r.seats s)
  calling u = i.positions.calling s l h.knows (subst IsBusy (sym h.activity) u)

  -- the record's change, at this activity
  calls_by_change : (b : Activity) → a ≡ b → r'.history.calls ≡ calls_after r.history (change_of z b s choice l (found_at z (word z r.world) a s choice l) (r.seats s) r.origin)
  calls_by_change b e = ap (λ (x : History). x.calls) (subst (λ b. r'.history ≡ noted r.history (logged s (transition z a s choice l).operation.kind (word z r.world name.Clock)) (change_of z b s choice l (found_at z (word z r.world) a s choice l) (r.seats s) r.origin)) e h.history)

  -- the call that an idle seat begins
  new : Call → CallLog
  new call = record { seat = s; number = l.number + 1; call = call; first = length r.history.log; end = None; put = None; answer = None; draw = None }

  calls_begun : (call : Call) → a ≡ Activity.Idle → choice ≡ Begin call → r'.history.calls ≡ r.history.calls ++ new call ∷ []
  unfolding new
  calls_begun call e c = calls_by_change Activity.Idle e ∙ ap (λ q. calls_after r.history (beginning q s l)) c

  -- calls that the event does not end
  seen_alike : IsBusy a → (t : ℕ) → ((answer : Answer) → a ≡ Activity.Leave answer → (called r.history (r.seats s).call).seat ≢ t) → seen_by t r'.history.calls ≡ seen_by t r.history.calls
  unfolding called
  seen_alike u t f = seen_by-alike t r.history.calls r'.history.calls
      (same_number r.history r'.history _ z (word z r.world) s choice l (r.seats s) r.origin a _ (made z (word z r.world) s choice l (r.seats s) r.origin a) u h.history)
      (λ y w. which y (over y w))
    where
      which : (y : ℕ) → CallOver r.history r'.history l (r.seats s) a y → AreAlike t (call_at r.history.calls y) (call_at r'.history.calls y)
      which y (goes_on x) = same_seen t _ _ x
      which y (is_ended answer e at x) =
          let n : (called r.history y).seat ≢ t = λ q. f answer e (ap (λ j. (called r.history j).seat) (sym at) ∙ q) in
          inl (n, λ q. n (ap (λ (c : CallLog). c.seat) (sym x) ∙ q))

  -- The calls of another seat.

  pub seen_else : (t : ℕ) → t ≢ s → seen_by t r'.history.calls ≡ seen_by t r.history.calls
  unfolding new
  seen_else t d = which a refl
    where
      which : (b : Activity) → a ≡ b → seen_by t r'.history.calls ≡ seen_by t r.history.calls
      which Activity.Idle e =
          let c = begins_call choice (subst (λ b. is_skipped b choice ≡ false) e h.moves) in
          ap (seen_by t) (calls_begun c.0 e c.1) ∙ seen_by-push t r.history.calls (new c.0) ∙
          ap (λ q. seen_by t r.history.calls ++ q) (seen_by-other t (new c.0) [] (λ q. d (sym q))) ∙ append-nil _
      which b e = let u : IsBusy a = subst IsBusy (sym e) tt in seen_alike u t (λ answer j q. d (sym q ∙ (calling u).seat))

  -- The calls of the acting seat.

  pub seen_own : AreLatest r → seen_by s r'.history.calls ≡ seen_after a choice l (length r.history.log) (seen_by s r.history.calls)
  unfolding new called
  seen_own latest = which a refl
    where
      stays : (b : Activity) → a ≡ b → IsUnderway b → IsBusy b → seen_by s r'.history.calls ≡ seen_by s r.history.calls
      stays b e u v = seen_alike (subst IsBusy (sym e) v) s (λ answer j q. subst IsUnderway (sym e ∙ j) u)

      ends : (answer : Answer) → a ≡ Activity.Leave answer → seen_by s r'.history.calls ≡ end_last (length r.history.log) (reply_of answer l.pairs) (seen_by s r.history.calls)
      ends answer e =
          let u : IsBusy a = subst IsBusy (sym e) tt in
          let x = calling u in
          let c = called r.history (r.seats s).call in
          let y = seen_by-last s r.history.calls (r.seats s).call (record c { end = Some (record { at = length r.history.log; reply = reply_of answer l.pairs }); answer = answering l.call l (r.seats s); draw = drawing answer l (r.seats s) })
          x.within x.seat x.seat (latest s l h.knows (subst IsBusy (sym h.activity) u)) in
          ap (seen_by s) (calls_by_change (Activity.Leave answer) e) ∙ y.is ∙ sym (ap (end_last (length r.history.log) (reply_of answer l.pairs)) y.was ∙ end_last-snoc (length r.history.log) (reply_of answer l.pairs) y.before (seen c))

      which : (b : Activity) → a ≡ b → seen_by s r'.history.calls ≡ seen_after b choice l (length r.history.log) (seen_by s r.history.calls)
      which Activity.Idle e =
          let c = begins_call choice (subst (λ b. is_skipped b choice ≡ false) e h.moves) in
          subst (λ q. seen_by s r'.history.calls ≡ seen_after Activity.Idle q l (length r.history.log) (seen_by s r.history.calls)) (sym c.1)
          (ap (seen_by s) (calls_begun c.0 e c.1) ∙ seen_by-push s r.history.calls (new c.0) ∙ ap (λ q. seen_by s r.history.calls ++ q) (seen_by-own s (new c.0) [] refl))
      which (Activity.Leave answer) e = ends answer e
      which b e = stays b e tt tt

  -- What is kept.

  -- a seat that has left is idle
  left_idle : (answer : Answer) → a ≡ Activity.Leave answer → l'.activity ≡ Activity.Idle
  left_idle answer e = ap (λ (m : Local). m.activity) (subst (λ b. l' ≡ (followed r.world.rows (transition z b s choice l) (found_at z (word z r.world) a s choice l)).local) e h.next)

  -- what a seat knows that has begun a call
  begun_local : (call : Call) → a ≡ Activity.Idle → choice ≡ Begin call → (epoch : ℕ) × (l' ≡ (begun (Begin call) epoch l).local)
  begun_local call e c =
      let x = subst (λ b. l' ≡ (followed r.world.rows (transition z b s choice l) (found_at z (word z r.world) a s choice l)).local) e h.next in
      (found_at z (word z r.world) a s choice l, x ∙ ap (λ q. (begun q (found_at z (word z r.world) a s choice l) l).local) c)

  pub latest_keeps : AreLatest r → AreLatest r'
  latest_keeps latest = each_seat h (λ t m. IsBusy m.activity → (y : ℕ) → y < length r'.history.calls → (called r'.history y).seat ≡ t → y ≤ (r'.seats t).call) own others
    where
      seat : (y : ℕ) → CallOver r.history r'.history l (r.seats s) a y → (called r'.history y).seat ≡ (called r.history y).seat
      seat y (goes_on x) = x.seat
      seat y (is_ended answer e at x) = ap (λ (c : CallLog). c.seat) x

      others : (t : ℕ) (m : Local) → t ≢ s → slice_get r.world.locals t ≡ Some m → IsBusy m.activity → (y : ℕ) → y < length r'.history.calls → (called r'.history y).seat ≡ t → y ≤ (r'.seats t).call
      others t m d g u y w e = which (was y w)
        where
          which : (y < length r.history.calls) ⊎ IsCallNow r.history r'.history s choice l a y → y ≤ (r'.seats t).call
          which (inl v) = subst (λ (q : SeatLog). y ≤ q.call) (sym (h.logs t d)) (latest t m g u y v (sym (seat y (over y v)) ∙ e))
          which (inr n) = absurd (d (sym e ∙ ap (λ (c : CallLog). c.seat) n.is))

      own : IsBusy l'.activity → (y : ℕ) → y < length r'.history.calls → (called r'.history y).seat ≡ s → y ≤ (r'.seats s).call
      own u y w e = which a refl
        where
          stays : (b : Activity) → a ≡ b → IsUnderway b → IsBusy b → y ≤ (r'.seats s).call
          stays b j k v =
              let c = ap (λ (q : SeatLog). q.call) h.log ∙ call_kept z choice l (found_at z (word z r.world) a s choice l) l'.activity (r.seats s) r.origin r.history (r.settled s) a (subst IsUnderway (sym j) k) in
              old c (was y w)
            where
              old : (r'.seats s).call ≡ (r.seats s).call → (y < length r.history.calls) ⊎ IsCallNow r.history r'.history s choice l a y → y ≤ (r'.seats s).call
              old c (inl x) = subst (λ q. y ≤ q) (sym c) (latest s l h.knows (subst IsBusy (sym (h.activity ∙ j)) v) y x (sym (seat y (over y x)) ∙ e))
              old c (inr n) = absurd (subst IsUnderway (sym j ∙ n.idle) k)

          which : (b : Activity) → a ≡ b → y ≤ (r'.seats s).call
          which Activity.Idle j =
              let c = begins_call choice (subst (λ b. is_skipped b choice ≡ false) j h.moves) in
              let f = subst (λ b. r'.seats s ≡ seat_after z b choice l (found_at z (word z r.world) a s choice l) l'.activity (r.seats s) r.origin r.history (r.settled s)) j h.log in
              let k = subst (λ b. r'.seats s ≡ log_begun b (length r.history.calls) (r.seats s)) c.1 f in
              let n = ap (λ (q : SeatLog). q.call) k in
              let m = ap length (calls_begun c.0 j c.1) ∙ length-append r.history.calls (new c.0 ∷ []) in
              omega (arith, n, m, w)
          which (Activity.Leave answer) j = absurd (subst IsBusy (left_idle answer j) u)
          which b j = stays b j tt tt

  -- the calls of each seat stay in turn
  pub turns_keep : AreLatest r → AllInTurn r → AllInTurn r'
  unfolding new
  turns_keep latest turns = each_seat h (λ t m. KeepsTurns (length r'.history.log) m (seen_by t r'.history.calls)) (which a refl) others
    where
      longer : length r'.history.log ≡ length r.history.log + 1
      longer = ap (λ (x : History). length x.log) h.history ∙ length-append r.history.log (logged s (transition z a s choice l).operation.kind (word z r.world name.Clock) ∷ [])

      n : length r.history.log ≤ length r'.history.log
      n = omega (arith, longer)

      later : (m k : Local) (cs : List CallSeen) → HasLast (length r.history.log) m cs → k.number ≡ m.number → k.call ≡ m.call → HasLast (length r'.history.log) k cs
      later m k cs x f g = record { before = x.before; last = x.last; is = x.is; in_turn = x.in_turn; first = omega (arith, x.first, n); runs = x.runs; number = x.number ∙ sym f; call = g ∙ x.call }

      others : (t : ℕ) (m : Local) → t ≢ s → slice_get r.world.locals t ≡ Some m → KeepsTurns (length r'.history.log) m (seen_by t r'.history.calls)
      others t m d g =
          let x = turns t m g in
          subst (KeepsTurns (length r'.history.log) m) (sym (seen_else t d)) (record {
            rests = λ e. in_turn-more 0 _ (length r.history.log) _ (x.rests e) n;
            makes = λ u. later m m _ (x.makes u) refl refl;
          })

      mine : KeepsTurns (length r.history.log) l (seen_by s r.history.calls)
      mine = turns s l h.knows

      own : (b : Activity) → a ≡ b → seen_by s r'.history.calls ≡ seen_after b choice l (length r.history.log) (seen_by s r.history.calls)
      own b e = subst (λ b. seen_by s r'.history.calls ≡ seen_after b choice l (length r.history.log) (seen_by s r.history.calls)) e (seen_own latest)

      begins : a ≡ Activity.Idle → (c : (call : Call) × (choice ≡ Begin call)) → (x : (epoch : ℕ) × (l' ≡ (begun (Begin c.0) epoch l).local)) → KeepsTurns (length r'.history.log) l' (seen_by s r'.history.calls)
      begins e c x =
          let now : l'.activity ≡ (Activity.Enter Enter.Announce) = ap (λ (m : Local). m.activity) x.1 in
          record {
            rests = λ f. let y : (Activity.Enter Enter.Announce) ≡ Activity.Idle = sym now ∙ f in absurd (cc);
            makes = λ u. record {
              before = seen_by s r.history.calls;
              last = begun_at (length r.history.log) (l.number + 1) c.0;
              is = subst (λ q. seen_by s r'.history.calls ≡ seen_after Activity.Idle q l (length r.history.log) (seen_by s r.history.calls)) c.1 (own Activity.Idle e);
              in_turn = mine.rests (h.activity ∙ e);
              first = omega (arith, longer);
              runs = refl;
              number = sym (ap (λ (m : Local). m.number) x.1);
              call = ap (λ (m : Local). m.call) x.1;
            };
          }

      ends : (answer : Answer) → a ≡ Activity.Leave answer → HasLast (length r.history.log) l (seen_by s r.history.calls) → KeepsTurns (length r'.history.log) l' (seen_by s r'.history.calls)
      ends answer e x = record {
        rests = λ f. subst (λ cs. AreInTurn 0 cs (length r'.history.log)) (sym (own (Activity.Leave answer) e ∙ ap (end_last (length r.history.log) (reply_of answer l.pairs)) x.is ∙ end_last-snoc (length r.history.log) (reply_of answer l.pairs) x.before x.last))
            (in_turn-snoc 0 x.before x.last.first (ended_at (length r.history.log) (reply_of answer l.pairs) x.last) (record { at = length r.history.log; reply = reply_of answer l.pairs }) (length r'.history.log) x.in_turn (omega arith) refl x.first (omega (arith, longer)));
        makes = λ u. absurd (subst IsBusy (left_idle answer e) u);
      }

      stays : (b : Activity) → a ≡ b → IsUnderway b → IsBusy b → IsStaying b → seen_by s r'.history.calls ≡ seen_by s r.history.calls → KeepsTurns (length r'.history.log) l' (seen_by s r'.history.calls)
      stays b e u v w f =
          let busy : IsBusy l'.activity = arrow_busy z (word z r.world) s choice l a l' h.arrow (subst IsStaying (sym e) w) in
          let t = arrow_call z (word z r.world) s choice l a l' h.arrow (subst IsUnderway (sym e) u) in
          subst (KeepsTurns (length r'.history.log) l') (sym f) (record {
            rests = λ g. absurd (subst IsBusy g busy);
            makes = λ q. later l l' _ (mine.makes (subst IsBusy (sym (h.activity ∙ e)) v)) t.1 t.0;
          })

      which : (b : Activity) → a ≡ b → KeepsTurns (length r'.history.log) l' (seen_by s r'.history.calls)
      which Activity.Idle e =
          let c = begins_call choice (subst (λ b. is_skipped b choice ≡ false) e h.moves) in
          begins e c (begun_local c.0 e c.1)
      which (Activity.Leave answer) e = ends answer e (mine.makes (subst IsBusy (sym (h.activity ∙ e)) tt))
      which b e = stays b e tt tt tt (own b e)

  -- Longer lists.

  -- the acting seat's calls go on
  pub still_own : AreLatest r → AllInTurn r → AreStill (seen_by s r.history.calls) (seen_by s r'.history.calls)
  still_own latest turns = subst (AreStill (seen_by s r.history.calls)) (sym (seen_own latest)) (which a refl)
    where
      begins : (c : Choice) → AreStill (seen_by s r.history.calls) (seen_after Activity.Idle c l (length r.history.log) (seen_by s r.history.calls))
      begins (Begin call) = still-push _ _
      begins Go = still-same _
      begins (Guess q) = still-same _
      begins Stop = still-same _

      ends : (reply : Reply) → HasLast (length r.history.log) l (seen_by s r.history.calls) → AreStill (seen_by s r.history.calls) (end_last (length r.history.log) reply (seen_by s r.history.calls))
      ends reply x = rw (x.is, end_last-snoc (length r.history.log) reply x.before x.last)
          (still-last x.before x.last (ended_at (length r.history.log) reply x.last) (record { number = refl; call = refl; first = refl; end = λ e f. let y : None ≡ Some e = sym x.runs ∙ f in absurd (cc) }))

      which : (b : Activity) → a ≡ b → AreStill (seen_by s r.history.calls) (seen_after b choice l (length r.history.log) (seen_by s r.history.calls))
      which Activity.Idle e = begins choice
      which (Activity.Leave answer) e = ends (reply_of answer l.pairs) ((turns s l h.knows).makes (subst IsBusy (sym (h.activity ∙ e)) tt))
      which b e = still-same _

  -- the calls of every seat go on
  pub still_keeps : AreLatest r → AllInTurn r → (t : ℕ) → AreStill (seen_by t r.history.calls) (seen_by t r'.history.calls)
  still_keeps latest turns t = which (cases_eq t s)
    where
      which : (t ≡ s) ⊎ (t ≡ s → ⊥) → AreStill (seen_by t r.history.calls) (seen_by t r'.history.calls)
      which (inl e) = subst (λ q. AreStill (seen_by q r.history.calls) (seen_by q r'.history.calls)) (sym e) (still_own latest turns)
      which (inr d) = subst (AreStill (seen_by t r.history.calls)) (sym (seen_else t d)) (still-same _)
