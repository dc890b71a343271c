-- What an event does to each call and each attempt that was there, with the activity that does it:
-- one constructor for each change.
use Rattle.std.proofs.Common.{ℕ, ◌≡◌, ◌⊎◌, inl, inr, ◌+◌, ◌<◌, ◌≤◌, true, Option, Some, None, [], ◌∷◌, ◌++◌, arith, refl, sym, ◌∙◌, ap, subst, length, length-append, length-set, set}
use Rattle.std.proofs.lemmas.Bool.{cases_eq, cases_lt}
use Rattle.kw_words.specs.declared.layout.Name.TheVariants as name
use Rattle.kw_words.specs.declared.pend.Pend.TheVariants as pend
use Rattle.kw_words.specs.Count.{count_of}
use Rattle.kw_words.specs.Pend.{pend_word}
use Rattle.kw_model.specs.declared.call.Call.{Call}
use Rattle.kw_world.specs.declared.answer.Answer.{Answer}
use Rattle.kw_world.specs.Answers.{reply_of}
use Rattle.kw_world.specs.declared.activity.Activity.{Activity}
use Rattle.kw_world.specs.declared.activity.rebalance.freeze.Freeze.TheVariants as Freeze
use Rattle.kw_world.specs.declared.activity.look.Look.TheVariants as Look
use Rattle.kw_world.specs.declared.activity.put.Put.TheVariants as Put
use Rattle.kw_world.specs.declared.activity.rebalance.Rebalance.TheVariants as Rebalance
use Rattle.kw_world.specs.declared.local.Local.{Local}
use Rattle.kw_world.specs.declared.event.Choice.{Choice}
use Rattle.kw_world.specs.declared.event.Choice.TheVariants.{Begin}
use Rattle.kw_world.specs.Sizes.{Sizes}
use Rattle.kw_world.specs.Calls.{first_key, put_value}
use Rattle.kw_world.specs.PutTransitions.{given_of}
use Rattle.kw_core.specs.History.{History, attempt, called}
use Rattle.kw_core.specs.declared.history.Logged.{Logged}
use Rattle.kw_core.specs.declared.history.Attempt.{Attempt}
use Rattle.kw_core.specs.declared.history.CallLog.{CallLog}
use Rattle.kw_core.specs.declared.history.Change.{Change}
use Rattle.kw_core.specs.declared.history.Change.TheVariants.{Nothing, Begins, Adds, Announces, Stamps, Ends, Loses}
use Rattle.kw_core.specs.Noted.{noted}
use Rattle.kw_core.specs.declared.seat_log.SeatLog.{SeatLog}
use Rattle.kw_core.specs.Run.{Origins, answering, drawing}
use Rattle.kw_core.specs.Words.{Words}
use Rattle.kw_core.proofs.NotedLaws.{attempt_set_same, called_set_same, called_set_other, called_push_old, called_push_new, called_same}
use Rattle.kw_puts.proofs.RelyEntry.{attempt_left}
use Rattle.kw_core.proofs.Changes.{Makes, makes_nothing, makes_begin, makes_add, makes_announce, makes_stamp, makes_help, makes_end, makes_lose}

-- an attempt over an event of seat s: it is as it was; or it is the seat's own and is announced or
-- stamped; or it is helped; or the seat freezes its entry, and it is lost
pub data AttemptOver (v : Words) (h h' : History) (s : ℕ) (l : Local) (g : SeatLog) (o : Origins) (a : Activity) (p : ℕ) : Type 0 where
  stays : attempt h' p ≡ attempt h p → AttemptOver v h h' s l g o a p
  is_announced : a ≡ Activity.Put Put.Announce → p ≡ g.own → v (name.Pend l.row s) ≡ pend_word pend.Idle →
      attempt h' p ≡ record (attempt h p) { is_announced = true; announced = length h.log } → AttemptOver v h h' s l g o a p
  is_stamped : a ≡ Activity.Put Put.Stamp → p ≡ g.own → v (name.Pend l.row s) ≡ pend_word (pend.Pending l.cell) →
      attempt h' p ≡ record (attempt h p) { is_stamped = true; version = l.version; load = g.loaded; at = length h.log } → AttemptOver v h h' s l g o a p
  is_helped : a ≡ Activity.Look Look.Help → o l.row l.saw ≡ Some p → v (name.Pend l.row l.looked) ≡ pend_word (pend.Pending l.saw) →
      attempt h' p ≡ record (attempt h p) { is_stamped = true; version = l.helping; load = g.loaded; at = length h.log } → AttemptOver v h h' s l g o a p
  is_lost : (i c : ℕ) → a ≡ Activity.Rebalance (Rebalance.Freeze (Freeze.Entry i)) → l.rebalance.entry ≡ pend.Pending c → o l.rebalance.hand c ≡ Some p → v (name.Pend l.rebalance.hand i) ≡ pend_word (pend.Pending c) →
      attempt h' p ≡ record (attempt h p) { is_lost = true } → AttemptOver v h h' s l g o a p

-- the new attempt of a set list
set_now : (h h' : History) (p q : ℕ) (a : Attempt) → h'.attempts ≡ set h.attempts q a → p ≡ q → p < length h.attempts → attempt h' p ≡ a
set_now h h' p q a e i w = subst (λ x. attempt h' x ≡ a) (sym i) (attempt_set_same h h' q a e (subst (λ x. x < length h.attempts) i w))

pub attempt_over : (h h' : History) (e : Logged) (z : Sizes) (v : Words) (s : ℕ) (choice : Choice) (l : Local) (g : SeatLog) (o : Origins) (a : Activity) (c : Change) → Makes z v s choice l g o a c → h' ≡ noted h e c → (p : ℕ) → p < length h.attempts → AttemptOver v h h' s l g o a p
attempt_over h h' e z v s choice l g o a c (makes_nothing b) n p w = stays (attempt_left h h' e p Nothing tt n w)
attempt_over h h' e z v s choice l g o a c (makes_begin call m) n p w = stays (attempt_left h h' e p (Begins s (l.number + 1) call) tt n w)
attempt_over h h' e z v s choice l g o a c (makes_add m) n p w = stays (attempt_left h h' e p (Adds g.call s (first_key l.call) (put_value l.call) l.row (given_of (count_of (v (name.Count l.row))))) tt n w)
attempt_over h h' e z v s choice l g o a c (makes_announce m) n p w = which (cases_eq p g.own)
  where
    which : (p ≡ g.own) ⊎ (p ≡ g.own → ⊥) → AttemptOver v h h' s l g o (Activity.Put Put.Announce) p
    which (inl i) = is_announced refl i m (set_now h h' p g.own _ (ap (λ (x : History). x.attempts) n) i w ∙ ap (λ x. record (attempt h x) { is_announced = true; announced = length h.log }) (sym i))
    which (inr d) = stays (attempt_left h h' e p (Announces g.own) d n w)
attempt_over h h' e z v s choice l g o a c (makes_stamp m) n p w = which (cases_eq p g.own)
  where
    which : (p ≡ g.own) ⊎ (p ≡ g.own → ⊥) → AttemptOver v h h' s l g o (Activity.Put Put.Stamp) p
    which (inl i) = is_stamped refl i m (set_now h h' p g.own _ (ap (λ (x : History). x.attempts) n) i w ∙ ap (λ x. record (attempt h x) { is_stamped = true; version = l.version; load = g.loaded; at = length h.log }) (sym i))
    which (inr d) = stays (attempt_left h h' e p (Stamps g.own l.version g.loaded) d n w)
attempt_over h h' e z v s choice l g o a c (makes_help q m k) n p w = which (cases_eq p q)
  where
    which : (p ≡ q) ⊎ (p ≡ q → ⊥) → AttemptOver v h h' s l g o (Activity.Look Look.Help) p
    which (inl i) = is_helped refl (k ∙ ap Some (sym i)) m (set_now h h' p q _ (ap (λ (x : History). x.attempts) n) i w ∙ ap (λ x. record (attempt h x) { is_stamped = true; version = l.helping; load = g.loaded; at = length h.log }) (sym i))
    which (inr d) = stays (attempt_left h h' e p (Stamps q l.helping g.loaded) d n w)
attempt_over h h' e z v s choice l g o a c (makes_lose j cell q y m k) n p w = which (cases_eq p q)
  where
    which : (p ≡ q) ⊎ (p ≡ q → ⊥) → AttemptOver v h h' s l g o (Activity.Rebalance (Rebalance.Freeze (Freeze.Entry j))) p
    which (inl i) = is_lost j cell refl y (k ∙ ap Some (sym i)) m (set_now h h' p q _ (ap (λ (x : History). x.attempts) n) i w ∙ ap (λ x. record (attempt h x) { is_lost = true }) (sym i))
    which (inr d) = stays (attempt_left h h' e p (Loses q) d n w)
attempt_over h h' e z v s choice l g o a c (makes_end answer) n p w = stays (attempt_left h h' e p (Ends g.call (reply_of answer l.pairs) (answering l.call l g) (drawing answer l g)) tt n w)

-- all of a call but its put is as it was
pub record SameLog (c d : CallLog) : Type 0 where
  pub seat : d.seat ≡ c.seat
  pub number : d.number ≡ c.number
  pub call : d.call ≡ c.call
  pub first : d.first ≡ c.first
  pub end : d.end ≡ c.end
  pub answer : d.answer ≡ c.answer
  pub draw : d.draw ≡ c.draw

-- the same call
same_log : (c d : CallLog) → d ≡ c → SameLog c d
same_log c d e = record { seat = ap (λ (q : CallLog). q.seat) e; number = ap (λ (q : CallLog). q.number) e; call = ap (λ (q : CallLog). q.call) e; first = ap (λ (q : CallLog). q.first) e; end = ap (λ (q : CallLog). q.end) e; answer = ap (λ (q : CallLog). q.answer) e; draw = ap (λ (q : CallLog). q.draw) e }

-- a call over an event of seat s: it goes on, maybe with a put; or it is the seat's, and ends
pub data CallOver (h h' : History) (l : Local) (g : SeatLog) (a : Activity) (x : ℕ) : Type 0 where
  goes_on : SameLog (called h x) (called h' x) → CallOver h h' l g a x
  is_ended : (answer : Answer) → a ≡ Activity.Leave answer → x ≡ g.call →
      called h' x ≡ record (called h x) { end = Some (record { at = length h.log; reply = reply_of answer l.pairs }); answer = answering l.call l g; draw = drawing answer l g } → CallOver h h' l g a x

-- a call that may get a put
with_put : (h h' : History) (x y : ℕ) (put : Option ℕ) → h'.calls ≡ set h.calls y (record (called h y) { put = put }) → x < length h.calls → SameLog (called h x) (called h' x)
with_put h h' x y put e w = which (cases_eq x y)
  where
    which : (x ≡ y) ⊎ (x ≡ y → ⊥) → SameLog (called h x) (called h' x)
    which (inl i) =
        let f : called h' y ≡ record (called h y) { put = put } = called_set_same h h' y _ e (subst (λ q. q < length h.calls) i w) in
        subst (λ q. SameLog (called h q) (called h' q)) (sym i) (rw f (record { seat = refl; number = refl; call = refl; first = refl; end = refl; answer = refl; draw = refl }))
    which (inr d) = same_log (called h x) (called h' x) (called_set_other h h' y x _ e d)

pub call_over : (h h' : History) (e : Logged) (z : Sizes) (v : Words) (s : ℕ) (choice : Choice) (l : Local) (g : SeatLog) (o : Origins) (a : Activity) (c : Change) → Makes z v s choice l g o a c → h' ≡ noted h e c → (x : ℕ) → x < length h.calls → CallOver h h' l g a x
call_over h h' e z v s choice l g o a c (makes_nothing b) n x w = goes_on (same_log _ _ (called_same h h' x (ap (λ (y : History). y.calls) n)))
call_over h h' e z v s choice l g o a c (makes_begin call m) n x w = goes_on (same_log _ _ (called_push_old h h' x _ (ap (λ (y : History). y.calls) n) w))
call_over h h' e z v s choice l g o a c (makes_add m) n x w = goes_on (same_log _ _ (called_same h h' x (ap (λ (y : History). y.calls) n)))
call_over h h' e z v s choice l g o a c (makes_announce m) n x w = goes_on (same_log _ _ (called_same h h' x (ap (λ (y : History). y.calls) n)))
call_over h h' e z v s choice l g o a c (makes_stamp m) n x w = goes_on (with_put h h' x _ _ (ap (λ (y : History). y.calls) n) w)
call_over h h' e z v s choice l g o a c (makes_help q m k) n x w = goes_on (with_put h h' x _ _ (ap (λ (y : History). y.calls) n) w)
call_over h h' e z v s choice l g o a c (makes_lose j cell q y m k) n x w = goes_on (same_log _ _ (called_same h h' x (ap (λ (y : History). y.calls) n)))
call_over h h' e z v s choice l g o a c (makes_end answer) n x w = which (cases_eq x g.call)
  where
    which : (x ≡ g.call) ⊎ (x ≡ g.call → ⊥) → CallOver h h' l g (Activity.Leave answer) x
    which (inl i) =
        let f : called h' g.call ≡ record (called h g.call) { end = Some (record { at = length h.log; reply = reply_of answer l.pairs }); answer = answering l.call l g; draw = drawing answer l g } = called_set_same h h' g.call _ (ap (λ (y : History). y.calls) n) (subst (λ q. q < length h.calls) i w) in
        is_ended answer refl i (subst (λ q. called h' q ≡ record (called h q) { end = Some (record { at = length h.log; reply = reply_of answer l.pairs }); answer = answering l.call l g; draw = drawing answer l g }) (sym i) f)
    which (inr d) = goes_on (same_log _ _ (called_set_other h h' g.call x _ (ap (λ (y : History). y.calls) n) d))

-- a call that was not there begins now, with the event
pub record IsCallNow (h h' : History) (s : ℕ) (choice : Choice) (l : Local) (a : Activity) (x : ℕ) : Type 0 where
  pub idle : a ≡ Activity.Idle
  pub call : Call
  pub begins : choice ≡ Begin call
  pub place : x ≡ length h.calls
  pub is : called h' x ≡ record { seat = s; number = l.number + 1; call = call; first = length h.log; end = None; put = None; answer = None; draw = None }

pub call_was : (h h' : History) (e : Logged) (z : Sizes) (v : Words) (s : ℕ) (choice : Choice) (l : Local) (g : SeatLog) (o : Origins) (a : Activity) (c : Change) → Makes z v s choice l g o a c → h' ≡ noted h e c → (x : ℕ) → x < length h'.calls → (x < length h.calls) ⊎ IsCallNow h h' s choice l a x
call_was h h' e z v s choice l g o a c (makes_begin call m) n x w = which (cases_lt x (length h.calls))
  where
    cs : h'.calls ≡ h.calls ++ record { seat = s; number = l.number + 1; call = call; first = length h.log; end = None; put = None; answer = None; draw = None } ∷ []
    cs = ap (λ (y : History). y.calls) n

    which : (x < length h.calls) ⊎ (length h.calls ≤ x) → (x < length h.calls) ⊎ IsCallNow h h' s choice l Activity.Idle x
    which (inl i) = inl i
    which (inr i) =
        let f : x ≡ length h.calls = omega (arith, i, w, ap length cs, length-append h.calls (record { seat = s; number = l.number + 1; call = call; first = length h.log; end = None; put = None; answer = None; draw = None } ∷ [])) in
        inr (record { idle = refl; call = call; begins = m; place = f; is = called_push_new h h' x _ cs f })
call_was h h' e z v s choice l g o a c (makes_nothing b) n x w = inl (omega (arith, w, ap (λ (y : History). length y.calls) n))
call_was h h' e z v s choice l g o a c (makes_add m) n x w = inl (omega (arith, w, ap (λ (y : History). length y.calls) n))
call_was h h' e z v s choice l g o a c (makes_announce m) n x w = inl (omega (arith, w, ap (λ (y : History). length y.calls) n))
call_was h h' e z v s choice l g o a c (makes_stamp m) n x w = inl (omega (arith, w, ap (λ (y : History). length y.calls) n, length-set {A = CallLog}))
call_was h h' e z v s choice l g o a c (makes_help q m k) n x w = inl (omega (arith, w, ap (λ (y : History). length y.calls) n, length-set {A = CallLog}))
call_was h h' e z v s choice l g o a c (makes_lose j cell q y m k) n x w = inl (omega (arith, w, ap (λ (y : History). length y.calls) n))
call_was h h' e z v s choice l g o a c (makes_end answer) n x w = inl (omega (arith, w, ap (λ (y : History). length y.calls) n, length-set {A = CallLog}))
