-- The record may note every event: what its laws ask of the log and of the change holds where the
-- event happens.
use Rattle.std.proofs.Common.{ℕ, suc, ◌≡◌, ◌⊎◌, inl, inr, ◌+◌, ◌<◌, List, [], ◌∷◌, Option, Some, None, true, false, arith, refl, sym, ◌∙◌, ap, subst, length, slice_get}
use Rattle.kw_words.specs.declared.layout.Name.TheVariants as name
use Rattle.kw_world.specs.declared.answer.Answer.{Answer}
use Rattle.kw_world.specs.Answers.{reply_of}
use Rattle.kw_world.specs.declared.activity.Activity.{Activity}
use Rattle.kw_world.specs.declared.local.Local.{Local}
use Rattle.kw_world.specs.declared.event.Choice.{Choice}
use Rattle.kw_world.specs.Sizes.{Sizes}
use Rattle.kw_world.specs.Sane.{IsActivity}
use Rattle.kw_world.specs.Step.{word}
use Rattle.kw_core.specs.History.{attempt, called, Stands}
use Rattle.kw_core.specs.declared.history.Change.{Change}
use Rattle.kw_core.specs.Noted.{MayNote}
use Rattle.kw_core.specs.Step.{Step}
use Rattle.kw_words.proofs.Refusals.{none_unless}
use Rattle.kw_model.specs.declared.call.Call.{Call}
use Rattle.kw_model.specs.declared.call.Call.TheVariants.{Put, Del, Get, Scan, Pin, ScanAt, Unpin}
use Rattle.kw_world.specs.declared.answer.Answer.TheVariants.{Done, Value, Absent, Pairs, NoRows, Spent, Stopped, Held, NotPinned}
use Rattle.kw_world.specs.Calls.{first_key, last_key, put_value, is_scan}
use Rattle.kw_core.specs.declared.history.Drawn.{Drawn}
use Rattle.kw_core.specs.History.{LoadClock}
use Rattle.kw_core.specs.HistoryLaws.{Makes, Answers, DrawLogged, RisesWithin}
use Rattle.kw_core.specs.Noted.{MayStamp}
use Rattle.kw_core.specs.Step.{MayEnd}
use Rattle.kw_core.specs.Stages.{IsBalancing, IsBusy, IsPutting, IsFresh, IsStamp, HasSeenPending, IsHelp, IsPublished, IsDone, HasDrawn}
use Rattle.kw_shape.specs.Shape.{IsPutCall, IsAnswerOf, IsKind}
use Rattle.kw_reads.specs.Replies.{RisesBelow, IsCovered, IsAnswered, Covers}
use Rattle.std.proofs.lemmas.Option.{same_Some}
use Rattle.kw_puts.proofs.Owners.{true_false, pending_own, pending_kept, pending_entry, published_puts, puts_busy, entry_owner, pending_cell}
use Rattle.kw_core.proofs.Changes as changes
use Rattle.kw_core.proofs.Changes.{made, makes_nothing, makes_begin, makes_add, makes_announce, makes_stamp, makes_help, makes_lose, makes_end}
use Rattle.kw_core.specs.Run.{Run, change_of, answering, drawing}
use Rattle.kw_reads.specs.Inv.{Inv, lower}
use Rattle.kw_world.specs.declared.event.Event.{Event}
use Rattle.kw_world.specs.declared.opening.Opening.{Opening}
use Rattle.kw_world.specs.WalkTransitions.{offered}
use Rattle.kw_world.specs.Step.{transition_of}
use Rattle.kw_core.specs.Events.{may_step}
use Rattle.kw_core.specs.Happenings.{happening_at, logged_of}
use Rattle.kw_core.specs.Run.{found_by, noted_by}
use Rattle.kw_core.proofs.Events.{may_come}
use Rattle.kw_core.proofs.Happens.{happens}
use Rattle.kw_puts.specs.Below.{MayTake}
use Rattle.kw_puts.proofs.PutsHold.{noted_is_step}
use Rattle.kw_core.proofs.Happens.{Happens, log_entry, change_at}

-- The call and the attempt of the acting seat.

module _ (z : Sizes) (r r' : Run) (s : ℕ) (choice : Choice) (l l' : Local) (i : Inv z r) where
  -- an attempt that is stamped with a clock that was loaded after its announcement
  may_stamp : (p version load : ℕ) → p < length r.history.attempts → (attempt r.history p).is_announced ≡ true → (attempt r.history p).is_stamped ≡ false → (attempt r.history p).is_lost ≡ false →
      (called r.history (attempt r.history p).call).end ≡ None → ((q : ℕ) → (called r.history (attempt r.history p).call).put ≡ Some q → p ≡ q) → (attempt r.history p).announced < load → Stands r.history load LoadClock version → MayStamp r.history p version load
  may_stamp p version load w a n k e c b t = record {
    within = w;
    is_announced = a;
    not_stamped = n;
    not_lost = k;
    runs = e;
    no_put = none_unless _ (λ q u. true_false (subst (λ j. (attempt r.history j).is_stamped ≡ true) (sym (c q u)) (i.history.laws.is_put _ q u).0) n);
    after = b;
    stands = t;
  }

  -- a call that ends is answered as its kind is
  answers_call : (c : Call) (answer : Answer) (pairs : List (ℕ × ℕ)) (put : Option ℕ) → IsAnswerOf (Some c) answer → (IsDone (Activity.Leave answer) → (p : ℕ) × (put ≡ Some p)) → ((p : ℕ) → put ≡ Some p → IsDone (Activity.Leave answer)) → Answers c put (reply_of answer pairs)
  answers_call (Put key value) Done pairs put f d n = d tt
  answers_call (Put key value) NoRows pairs put f d n = none_unless put (λ p e. n p e)
  answers_call (Put key value) Spent pairs put f d n = none_unless put (λ p e. n p e)
  answers_call (Put key value) (Value x) pairs put f d n = absurd f
  answers_call (Put key value) Absent pairs put f d n = absurd f
  answers_call (Put key value) Pairs pairs put f d n = absurd f
  answers_call (Put key value) Stopped pairs put f d n = absurd f
  answers_call (Put key value) Held pairs put f d n = absurd f
  answers_call (Put key value) NotPinned pairs put f d n = absurd f
  answers_call (Del key) Done pairs put f d n = d tt
  answers_call (Del key) NoRows pairs put f d n = none_unless put (λ p e. n p e)
  answers_call (Del key) Spent pairs put f d n = none_unless put (λ p e. n p e)
  answers_call (Del key) (Value x) pairs put f d n = absurd f
  answers_call (Del key) Absent pairs put f d n = absurd f
  answers_call (Del key) Pairs pairs put f d n = absurd f
  answers_call (Del key) Stopped pairs put f d n = absurd f
  answers_call (Del key) Held pairs put f d n = absurd f
  answers_call (Del key) NotPinned pairs put f d n = absurd f
  answers_call (Get key) Done pairs put f d n = absurd f
  answers_call (Get key) NoRows pairs put f d n = absurd f
  answers_call (Get key) Spent pairs put f d n = absurd f
  answers_call (Get key) (Value x) pairs put f d n = tt
  answers_call (Get key) Absent pairs put f d n = tt
  answers_call (Get key) Pairs pairs put f d n = absurd f
  answers_call (Get key) Stopped pairs put f d n = absurd f
  answers_call (Get key) Held pairs put f d n = absurd f
  answers_call (Get key) NotPinned pairs put f d n = absurd f
  answers_call (Scan from upto) Done pairs put f d n = absurd f
  answers_call (Scan from upto) NoRows pairs put f d n = absurd f
  answers_call (Scan from upto) Spent pairs put f d n = tt
  answers_call (Scan from upto) (Value x) pairs put f d n = absurd f
  answers_call (Scan from upto) Absent pairs put f d n = absurd f
  answers_call (Scan from upto) Pairs pairs put f d n = tt
  answers_call (Scan from upto) Stopped pairs put f d n = tt
  answers_call (Scan from upto) Held pairs put f d n = absurd f
  answers_call (Scan from upto) NotPinned pairs put f d n = absurd f
  answers_call Pin answer pairs put f d n = absurd f
  answers_call (ScanAt from upto) answer pairs put f d n = absurd f
  answers_call Unpin answer pairs put f d n = absurd f

-- a call of this kind makes the attempt
makes_call : (c : Call) → IsPutCall (Some c) → Makes c (first_key (Some c)) (put_value (Some c))
makes_call (Put key value) h = (refl, refl)
makes_call (Del key) h = (refl, refl)
makes_call (Get key) h = absurd h
makes_call (Scan from upto) h = absurd h
makes_call Pin h = absurd h
makes_call (ScanAt from upto) h = absurd h
makes_call Unpin h = absurd h

-- pairs below a bound lie up to the number before it
rises_within : (low upto : ℕ) (pairs : List (ℕ × ℕ)) → RisesBelow low (upto + 1) pairs → RisesWithin low upto pairs
rises_within low upto [] h = tt
rises_within low upto (p ∷ pairs) h = (h.0, omega (arith, h.1), rises_within (suc p.0) upto pairs h.2)

-- what is known of a call where it ends
may_end : (z : Sizes) (r : Run) (s : ℕ) (l : Local) → Inv z r → slice_get r.world.locals s ≡ Some l → (c : Call) (answer : Answer) → l.activity ≡ Activity.Leave answer → l.call ≡ Some c → MayEnd r.history c (called r.history (r.seats s).call).first (reply_of answer l.pairs) (answering (Some c) l (r.seats s)) (drawing answer l (r.seats s))
may_end z r s l i k (Put key value) answer a e = tt
may_end z r s l i k (Del key) answer a e = tt
may_end z r s l i k (Get key) answer a e =
    let x = i.replies.answers s l k in
    let y : IsAnswered (Activity.Leave answer) (Some (Get key)) r.history l (r.seats s) = subst (λ q. IsAnswered (Activity.Leave answer) q r.history l (r.seats s)) e (subst (λ q. IsAnswered q l.call r.history l (r.seats s)) a x) in
    (y.gap, y.knows, y.answer)
may_end z r s l i k (Scan from upto) Pairs a e =
    let x : IsCovered (Activity.Leave Pairs) r.history l (r.seats s) = subst (λ q. IsCovered q r.history l (r.seats s)) a (i.replies.pairs s l k).covered in
    let y : Covers r.history from l.version (r.seats s).drawn (upto + 1) l.pairs = subst (λ q. Covers r.history (first_key q) l.version (r.seats s).drawn (last_key q + 1) l.pairs) e x in
    (record { at = (r.seats s).drawn; version = l.version }, refl, (i.positions.draws s l k).drawn_first (ap is_scan e) (subst HasDrawn (sym a) tt), rises_within from upto l.pairs y.rises, λ key o w. y.keys key o (omega (arith, w)))
may_end z r s l i k (Scan from upto) Done a e = tt
may_end z r s l i k (Scan from upto) (Value x) a e = tt
may_end z r s l i k (Scan from upto) Absent a e = tt
may_end z r s l i k (Scan from upto) NoRows a e = tt
may_end z r s l i k (Scan from upto) Spent a e = tt
may_end z r s l i k (Scan from upto) Stopped a e = tt
may_end z r s l i k (Scan from upto) Held a e = tt
may_end z r s l i k (Scan from upto) NotPinned a e = tt
may_end z r s l i k Pin answer a e = tt
may_end z r s l i k (ScanAt from upto) answer a e = tt
may_end z r s l i k Unpin answer a e = tt

-- pairs are the answer of a scan
pairs_of_scan : (c : Option Call) → IsAnswerOf c Pairs → is_scan c ≡ true
pairs_of_scan (Some (Put key value)) h = absurd h
pairs_of_scan (Some (Del key)) h = absurd h
pairs_of_scan (Some (Get key)) h = absurd h
pairs_of_scan (Some (Scan from upto)) h = refl
pairs_of_scan (Some Pin) h = absurd h
pairs_of_scan (Some (ScanAt from upto)) h = absurd h
pairs_of_scan (Some Unpin) h = absurd h
pairs_of_scan None h = absurd h

-- where a scan that ends with pairs drew
may_draw : (z : Sizes) (r : Run) (s : ℕ) (l : Local) → Inv z r → slice_get r.world.locals s ≡ Some l → (answer : Answer) → l.activity ≡ Activity.Leave answer → (d : Drawn) → drawing answer l (r.seats s) ≡ Some d → DrawLogged r.history d × (d.version < word z r.world name.Clock)
may_draw z r s l i k Pairs a d e =
    let x = i.positions.draws s l k in
    let scan = pairs_of_scan l.call (subst (λ q. IsKind q l) a (i.shape.kinds s l k).kind) in
    let t = x.drawn scan (subst HasDrawn (sym a) tt) in
    subst (λ (q : Drawn). DrawLogged r.history q × (q.version < word z r.world name.Clock)) (same_Some _ d e)
    (record { kind = t.kind; is_draw = t.is_draw; stands = t.stands; later = λ y j c o u. i.positions.clocked.rises _ y t.kind j l.version c t.is_draw t.stands u o }, i.positions.clocked.drawn _ t.kind l.version t.is_draw t.stands)
may_draw z r s l i k Done a d e = let x : None ≡ Some d = e in absurd (cc)
may_draw z r s l i k (Value v) a d e = let x : None ≡ Some d = e in absurd (cc)
may_draw z r s l i k Absent a d e = let x : None ≡ Some d = e in absurd (cc)
may_draw z r s l i k NoRows a d e = let x : None ≡ Some d = e in absurd (cc)
may_draw z r s l i k Spent a d e = let x : None ≡ Some d = e in absurd (cc)
may_draw z r s l i k Stopped a d e = let x : None ≡ Some d = e in absurd (cc)
may_draw z r s l i k Held a d e = let x : None ≡ Some d = e in absurd (cc)
may_draw z r s l i k NotPinned a d e = let x : None ≡ Some d = e in absurd (cc)

-- the change of every event may happen there
may_make : (z : Sizes) (r r' : Run) (s : ℕ) (choice : Choice) (l : Local) (a : Activity) (l' : Local) (c : Change) → changes.Makes z (word z r.world) s choice l (r.seats s) r.origin a c → Happens z r r' s choice l l' a → Inv z r →
    MayNote r.history (log_entry z r a s choice l) c
may_make z r r' s choice l a l' c (makes_nothing b) h i = tt
may_make z r r' s choice l a l' c (makes_begin call e) h i = (refl, λ y o e n. absurd (omega (arith, n, i.positions.numbers s l h.knows y o e)))
may_make z r r' s choice l a l' c (makes_add m) h i =
    let x = i.positions.calling s l h.knows (subst IsBusy (sym h.activity) tt) in
    let kind : IsPutCall l.call = subst (λ q. IsKind q l) h.activity (i.shape.kinds s l h.knows).kind in
    (x.within, x.seat, subst (λ q. Makes (called r.history (r.seats s).call).call (first_key q) (put_value q)) (sym x.call) (makes_call (called r.history (r.seats s).call).call (subst IsPutCall x.call kind)))
may_make z r r' s choice l a l' c (makes_announce e) h i =
    let own = i.puts.owns s l h.knows (subst IsPutting (sym h.activity) tt) in
    (own.within, own.unannounced (subst IsFresh (sym h.activity) tt))
may_make z r r' s choice l a l' c (makes_stamp e) h i =
    let own = i.puts.owns s l h.knows (subst IsPutting (sym h.activity) tt) in
    let x = i.positions.calling s l h.knows (subst IsBusy (sym h.activity) tt) in
    let y : IsPublished l.activity = subst IsPublished (sym h.activity) tt in
    let st = pending_entry (attempt r.history (r.seats s).own) l.cell (sym (own.entry y) ∙ e) in
    may_stamp z r r' s choice l l' i (r.seats s).own l.version (r.seats s).loaded own.within (own.announced y) st.0 (pending_kept (attempt r.history (r.seats s).own) l.cell (sym (own.entry y) ∙ e)) (rw own.call x.runs) (rw own.call x.own) (own.after (subst IsStamp (sym h.activity) tt)) (own.loaded (subst IsStamp (sym h.activity) tt))
may_make z r r' s choice l a l' c (makes_help p e f) h i =
    let helper = i.puts.helps s l h.knows (subst HasSeenPending (sym h.activity) tt) in
    let known = i.shape.sane.locals s l h.knows in
    let w = entry_owner i.puts l.row l.looked l.saw known.below.row known.ranges.looked e in
    let puts = published_puts w.local.activity w.published in
    let own = i.puts.owns l.looked w.local w.knows puts in
    let x = i.positions.calling l.looked w.local w.knows (puts_busy w.local.activity puts) in
    let place = pending_cell i.puts l.row l.looked l.saw p known.below.row known.ranges.looked e f in
    let same : p ≡ (r.seats l.looked).own = pending_own i.puts l.row l.looked l.saw p known.below.row known.ranges.looked e f in
    let is_put : helper.put ≡ p = same_Some helper.put p (sym helper.origin ∙ f) in
    may_stamp z r r' s choice l l' i p l.helping (r.seats s).loaded place.within
    (subst (λ q. (attempt r.history q).is_announced ≡ true) is_put helper.announced)
    (rw same w.unstamped) (rw same w.kept) (rw (same, own.call) x.runs) (rw (same, own.call) x.own)
    (subst (λ q. (attempt r.history q).announced < (r.seats s).loaded) is_put (helper.after (subst IsHelp (sym h.activity) tt)))
    (helper.loaded (subst IsHelp (sym h.activity) tt))
may_make z r r' s choice l a l' c (makes_lose j cell p x e f) h i =
    let known = i.shape.sane.locals s l h.knows in
    let w = entry_owner i.puts l.rebalance.hand j cell known.below.rebalance.hand (subst (IsActivity z) h.activity known.ranges.activity) e in
    let place = pending_cell i.puts l.rebalance.hand j cell p known.below.rebalance.hand (subst (IsActivity z) h.activity known.ranges.activity) e f in
    let same : p ≡ (r.seats j).own = pending_own i.puts l.rebalance.hand j cell p known.below.rebalance.hand (subst (IsActivity z) h.activity known.ranges.activity) e f in
    (place.within, rw same w.unstamped)
may_make z r r' s choice l a l' c (makes_end answer) h i =
    let x = i.positions.calling s l h.knows (subst IsBusy (sym h.activity) tt) in
    let kind : IsAnswerOf l.call answer = subst (λ q. IsKind q l) h.activity (i.shape.kinds s l h.knows).kind in (
      x.within,
      x.runs,
      answers_call z r r' s choice l l' i (called r.history (r.seats s).call).call answer l.pairs (called r.history (r.seats s).call).put (subst (λ q. IsAnswerOf q answer) x.call kind)
          (λ y. x.done (inl (subst IsDone (sym h.activity) y)))
          (λ p y. leave_done (x.published p y)),
      λ d y. may_draw z r s l i h.knows answer h.activity d y,
      subst (λ q. MayEnd r.history (called r.history (r.seats s).call).call (called r.history (r.seats s).call).first (reply_of answer l.pairs) (answering q l (r.seats s)) (drawing answer l (r.seats s))) (sym x.call) (may_end z r s l i h.knows (called r.history (r.seats s).call).call answer h.activity x.call),
    )
  where
    tidied : IsBalancing l.activity ⊎ IsDone l.activity → IsDone (Activity.Leave answer)
    tidied (inl y) = let x : IsBalancing (Activity.Leave answer) = subst IsBalancing h.activity y in absurd x
    tidied (inr y) = subst IsDone h.activity y

    leave_done : IsPublished l.activity ⊎ IsDone l.activity ⊎ (l.tidies ≡ true) → IsDone (Activity.Leave answer)
    leave_done (inl y) = let x : IsPublished (Activity.Leave answer) = subst IsPublished h.activity y in absurd x
    leave_done (inr (inl y)) = subst IsDone h.activity y
    leave_done (inr (inr y)) = tidied (i.shape.tidies s l h.knows y)

pub may_note : (z : Sizes) (r r' : Run) (s : ℕ) (choice : Choice) (l : Local) (a : Activity) (l' : Local) → Happens z r r' s choice l l' a → Inv z r →
    MayNote r.history (log_entry z r a s choice l) (change_at z r a s choice l)
may_note z r r' s choice l a l' h i = may_make z r r' s choice l a l' _ (made z (word z r.world) s choice l (r.seats s) r.origin a) h i

-- one event of the record
pub history_step : (z : Sizes) (r r' : Run) (s : ℕ) (choice : Choice) (l : Local) (a : Activity) (l' : Local) → Happens z r r' s choice l l' a → Inv z r → Step r.history r'.history (log_entry z r a s choice l)
history_step z r r' s choice l a l' h i = noted_is_step z r r' s choice l a l' h (lower i) (may_note z r r' s choice l a l' h i)

-- the record may note the event that comes
pub may_take : (z : Sizes) (o : Opening) (r : Run) (e : Event) → Inv z r → may_step o r.world e ≡ true → MayTake z r e
unfolding transition_of
may_take z o r e i may l knows =
    let c = may_come o r.world e may in
    let same : c.local ≡ l = same_Some c.local l (sym c.knows ∙ knows) in
    subst (λ (x : Local). MayNote r.history (logged_of (happening_at z r.world e x)) (change_of z x.activity e.seat (offered r.world.rows e.choice) x (found_by z r.world e x) (r.seats e.seat) r.origin)) same
    (may_note z r (noted_by z r e c.local) e.seat (offered r.world.rows e.choice) c.local c.local.activity _ (happens z r e c.local i.shape.sane c.begins c.knows c.moves) i)
