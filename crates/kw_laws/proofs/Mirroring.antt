-- What is kept along a list so that the record mirrors its events, and an event as this sees it:
-- where it stands and what it is.
use Rattle.std.proofs.Common.{ℕ, ◌≡◌, ◌⊎◌, inl, inr, ◌<◌, Bool, true, false, if◌then◌else◌, nat_lt, Some, None, List, [], ◌∷◌, ◌++◌, arith, refl, sym, ◌∙◌, ap, subst, length, slice_get, length-append}
use Rattle.std.proofs.lemmas.Option.{same_Some}
use Rattle.kw_words.specs.declared.kind.Kind.TheVariants as kind
use Rattle.kw_words.specs.declared.layout.Name.TheVariants as name
use Rattle.kw_model.specs.declared.call.Call.{Call}
use Rattle.kw_model.specs.declared.call.Reply.{Reply}
use Rattle.kw_world.specs.declared.answer.Answer.{Answer}
use Rattle.kw_world.specs.Answers.{reply_of}
use Rattle.kw_world.specs.declared.activity.Activity.{Activity}
use Rattle.kw_world.specs.declared.activity.look.Look.TheVariants as Look
use Rattle.kw_world.specs.declared.activity.put.Put.TheVariants as Put
use Rattle.kw_world.specs.declared.local.Local.{Local}
use Rattle.kw_world.specs.declared.event.Choice.{Choice}
use Rattle.kw_world.specs.declared.event.Choice.TheVariants.{Begin, Go, Guess, Stop}
use Rattle.kw_world.specs.declared.event.Event.{Event}
use Rattle.kw_world.specs.declared.event.StepDone.TheVariants.{Ended}
use Rattle.kw_world.specs.declared.opening.Opening.{Opening}
use Rattle.kw_world.specs.declared.operation.Action.TheVariants.{Load}
use Rattle.kw_world.specs.declared.operation.Operation.{Operation}
use Rattle.kw_world.specs.Operation.{told_by}
use Rattle.kw_world.specs.Sizes.{Sizes}
use Rattle.kw_world.specs.WorldView.{WorldView}
use Rattle.kw_world.specs.Transition.{Transition}
use Rattle.kw_world.specs.WalkTransitions.{offered}
use Rattle.kw_world.specs.Table.{transition}
use Rattle.kw_world.specs.Step.{word, transition_at, step, Stepped, is_skipped, followed, kind_of}
use Rattle.kw_world.proofs.Steps.{step-moved, kind_of-moved, transition_of-transition}
use Rattle.kw_core.specs.Events.{world, event}
use Rattle.kw_core.specs.declared.history.Logged.{Logged}
use Rattle.kw_core.specs.declared.history.CallLog.{CallLog}
use Rattle.kw_core.specs.History.{called}
use Rattle.kw_core.specs.Noted.{noted}
use Rattle.kw_core.specs.Run.{Run, logged, change_of}
use Rattle.kw_core.specs.Stages.{IsBusy, IsStamp, IsHelp}
use Rattle.kw_laws.specs.Mirror.{Occurs, Acts, IsLogged, NoLoad, Mirrors, operation, begun}
use Rattle.kw_core.proofs.NotedLaws.{called_set_same}
use Rattle.kw_core.proofs.Happens.{Happens, found_at}
use Rattle.kw_laws.proofs.Occurs.{occurs_now, logged_lasts, get_was}
use Rattle.kw_world.proofs.GoingOn.{ends_leaving}

-- the record mirrors the events; a seat's number counts the calls that it began; a call that runs
-- is its seat's present one; no seat has loaded the clock since it is said to; and a seat that is
-- to stamp, or to help, loaded there the version that it has in hand
pub record Kept (z : Sizes) (o : Opening) (es : List Event) (r : Run) : Type 0 where
  pub world : world z o es ≡ r.world
  pub mirrors : Mirrors z o es r.history
  pub numbers : (t : ℕ) (l : Local) → slice_get r.world.locals t ≡ Some l → l.number ≡ begun z o t es
  pub running : (x t : ℕ) (l : Local) → x < length r.history.calls → (called r.history x).end ≡ None → (called r.history x).seat ≡ t → slice_get r.world.locals t ≡ Some l → IsBusy l.activity × ((r.seats t).call ≡ x)
  pub loads : (t : ℕ) → NoLoad z o es t (r.seats t).loaded (length es)
  pub stamp : (t : ℕ) (l : Local) → slice_get r.world.locals t ≡ Some l → IsStamp l.activity → Acts z o es (r.seats t).loaded t (Activity.Put Put.Clock) (operation kind.LoadClock name.Clock Load) l.version
  pub help : (t : ℕ) (l : Local) → slice_get r.world.locals t ≡ Some l → IsHelp l.activity → Acts z o es (r.seats t).loaded t (Activity.Look Look.Clock) (operation kind.LoadClock name.Clock Load) l.helping

-- The choice that was offered.

-- a call that is offered was chosen
pub chosen_call : (rows : ℕ) (choice : Choice) (call : Call) → offered rows choice ≡ Begin call → choice ≡ Begin call
chosen_call rows (Begin other) call e = e
chosen_call rows Go call e = let x : Go ≡ Begin call = e in absurd (cc)
chosen_call rows (Guess q) call e = saw (nat_lt q rows) e
  where
    saw : (b : Bool) → (if b then Guess q else Go) ≡ Begin call → Guess q ≡ Begin call
    saw true x = let y : Guess q ≡ Begin call = x in absurd (cc)
    saw false x = let y : Go ≡ Begin call = x in absurd (cc)
chosen_call rows Stop call e = let x : Stop ≡ Begin call = e in absurd (cc)

-- One more event of a list, of a seat that knows l and is at the activity a.

module _ (z : Sizes) (o : Opening) (es : List Event) (e : Event) (r r' : Run) (l l' : Local) (a : Activity) (h : Happens z r r' e.seat (offered r.world.rows e.choice) l l' a) (k : Kept z o es r) where
  -- it stands at the end, where the record is now
  pub occurs_here : Occurs z o (es ++ e ∷ []) (length r.history.log) r.world e
  occurs_here =
      let t = occurs_now z o es e in
      subst (λ x. Occurs z o (es ++ e ∷ []) x r.world e) (sym k.mirrors.events) (record { stands = t.stands; before = t.before ∙ k.world })

  -- what its seat knows
  pub acting_local : (w : WorldView) (s : ℕ) (choice : Choice) (m : Local) → e ≡ event s choice → world z o es ≡ w → slice_get w.locals s ≡ Some m → l ≡ m
  acting_local w s choice m f g n =
      let x : slice_get r.world.locals e.seat ≡ Some m = subst (λ (q : WorldView). slice_get q.locals e.seat ≡ Some m) (sym g ∙ k.world) (subst (λ (q : Event). slice_get w.locals q.seat ≡ Some m) (sym f) n) in
      same_Some l m (sym h.knows ∙ x)

  -- its line
  pub transition_here : transition_at z r.world e l ≡ transition z a e.seat (offered r.world.rows e.choice) l
  transition_here = transition_of-transition z e.seat (offered r.world.rows e.choice) l ∙ ap (λ b. transition z b e.seat (offered r.world.rows e.choice) l) h.activity

  -- it makes the operation of its line
  pub acts_here : (b : Activity) (op : Operation) (found : ℕ) → a ≡ b → (transition z b e.seat (offered r.world.rows e.choice) l).operation ≡ op → word z r.world op.name ≡ found → Acts z o (es ++ e ∷ []) (length r.history.log) e.seat b op found
  acts_here b op found is f g = record {
    before = r.world;
    choice = e.choice;
    local = l;
    occurs = occurs_here;
    knows = h.knows;
    activity = h.activity ∙ is;
    operates = ap (λ (x : Transition). x.operation) (transition_here ∙ ap (λ b. transition z b e.seat (offered r.world.rows e.choice) l) is) ∙ f;
    finds = g;
  }

  -- it is not skipped
  pub moves_here : is_skipped l.activity e.choice ≡ false
  moves_here = moved l.activity e.choice (subst (λ b. is_skipped b (offered r.world.rows e.choice) ≡ false) (sym h.activity) h.moves)
    where
      moved : (b : Activity) (choice : Choice) → is_skipped b (offered r.world.rows choice) ≡ false → is_skipped b choice ≡ false
      moved b (Begin call) g = g
      moved b Go g = g
      moved b (Guess q) g = saw b (nat_lt q r.world.rows) g
        where
          saw : (b : Activity) (c : Bool) → is_skipped b (if c then Guess q else Go) ≡ false → is_skipped b (Guess q) ≡ false
          saw b true x = x
          saw b false x = other b x
            where
              other : (b : Activity) → is_skipped b Go ≡ false → is_skipped b (Guess q) ≡ false
              other Activity.Idle x = x
              other _ x = refl
      moved b Stop g = g

  -- what it answers is what its line says
  pub step_here : (step z r.world e).done ≡ (followed r.world.rows (transition z a e.seat (offered r.world.rows e.choice) l) (found_at z (word z r.world) a e.seat (offered r.world.rows e.choice) l)).done
  step_here = ap (λ (x : Stepped). x.done) (step-moved z r.world e l h.knows moves_here) ∙ ap (λ (x : Transition). (followed r.world.rows x (word z r.world x.operation.name)).done) transition_here

  -- its kind
  pub kind_here : kind_of z r.world e ≡ Some (transition z a e.seat (offered r.world.rows e.choice) l).operation.kind
  kind_here = kind_of-moved z r.world e l h.knows moves_here ∙ ap (λ (x : Transition). Some x.operation.kind) transition_here

  -- an event that ends a call is of a seat that was about to leave
  pub leaves_here : (reply : Reply) → (step z r.world e).done ≡ Ended reply → (answer : Answer) × (a ≡ Activity.Leave answer) × (reply ≡ reply_of answer l.pairs)
  leaves_here reply d = ends_leaving z a e.seat (offered r.world.rows e.choice) l r.world.rows (told_by (transition z a e.seat (offered r.world.rows e.choice) l).operation.action (found_at z (word z r.world) a e.seat (offered r.world.rows e.choice) l)) reply h.moves (sym step_here ∙ d)

  -- the event of a seat that was about to leave ends its call
  pub ends_here : (answer : Answer) → a ≡ Activity.Leave answer → (step z r.world e).done ≡ Ended (reply_of answer l.pairs)
  ends_here answer is = step_here ∙ ap (λ b. (followed r.world.rows (transition z b e.seat (offered r.world.rows e.choice) l) (found_at z (word z r.world) b e.seat (offered r.world.rows e.choice) l)).done) is

  -- and the seat's call has ended then
  pub ended_here : (answer : Answer) → a ≡ Activity.Leave answer → (r.seats e.seat).call < length r.history.calls → (called r'.history (r.seats e.seat).call).end ≡ Some (record { at = length r.history.log; reply = reply_of answer l.pairs })
  ended_here answer is w =
      let f = subst (λ b. r'.history ≡ noted r.history (logged e.seat (transition z a e.seat (offered r.world.rows e.choice) l).operation.kind (word z r.world name.Clock)) (change_of z b e.seat (offered r.world.rows e.choice) l (found_at z (word z r.world) a e.seat (offered r.world.rows e.choice) l) (r.seats e.seat) r.origin)) is h.history in
      ap (λ (c : CallLog). c.end) (called_set_same r.history r'.history (r.seats e.seat).call _ (ap (λ x. x.calls) f) w)

  -- The log.

  -- one entry more for one event more
  pub events_keep : length r'.history.log ≡ length (es ++ e ∷ [])
  events_keep =
      let x = ap (λ x. length x.log) h.history in
      omega (arith, x, length-append r.history.log (logged e.seat (transition z a e.seat (offered r.world.rows e.choice) l).operation.kind (word z r.world name.Clock) ∷ []), length-append es (e ∷ []), k.mirrors.events)

  -- each entry is that of its event
  pub log_keeps : (x : ℕ) (q : Logged) → slice_get r'.history.log x ≡ Some q → IsLogged z o (es ++ e ∷ []) x q
  unfolding acts_here word
  log_keeps x q g = which (get_was r.history.log _ x q (subst (λ qs. slice_get qs x ≡ Some q) (ap (λ x. x.log) h.history) g))
    where
      it : Logged
      it = logged e.seat (transition z a e.seat (offered r.world.rows e.choice) l).operation.kind (word z r.world name.Clock)

      which : (slice_get r.history.log x ≡ Some q) ⊎ ((x ≡ length r.history.log) × (it ≡ q)) → IsLogged z o (es ++ e ∷ []) x q
      which (inl f) = logged_lasts z o es e x q (k.mirrors.log x q f)
      which (inr f) = subst (λ y. IsLogged z o (es ++ e ∷ []) y q) (sym f.0) (subst (IsLogged z o (es ++ e ∷ []) (length r.history.log)) f.1 (record {
        activity = a;
        op = (transition z a e.seat (offered r.world.rows e.choice) l).operation;
        found = found_at z (word z r.world) a e.seat (offered r.world.rows e.choice) l;
        acts = acts_here a _ _ refl refl refl;
        kind = refl;
        clock = refl;
      }))
