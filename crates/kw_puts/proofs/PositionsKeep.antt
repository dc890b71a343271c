-- Every event keeps what holds of the clock, the running calls and the scans.
use Rattle.std.proofs.Common.{ℕ, ◌≡◌, ◌⊎◌, inl, inr, ◌+◌, ◌<◌, ◌≤◌, Bool, true, false, Option, Some, None, [], ◌∷◌, arith, refl, sym, ◌∙◌, ap, subst, length}
use Rattle.kw_words.specs.declared.layout.Name.TheVariants as name
use Rattle.kw_world.specs.declared.activity.Activity.{Activity}
use Rattle.kw_world.specs.declared.activity.draw.Draw.TheVariants as Draw
use Rattle.kw_world.specs.declared.activity.rebalance.freeze.Freeze.TheVariants as Freeze
use Rattle.kw_world.specs.declared.activity.look.Look.TheVariants as Look
use Rattle.kw_world.specs.declared.activity.put.Put.TheVariants as Put
use Rattle.kw_world.specs.declared.activity.read.Read.TheVariants as Read
use Rattle.kw_world.specs.declared.activity.rebalance.Rebalance.TheVariants as Rebalance
use Rattle.kw_world.specs.declared.activity.rebalance.replace.Replace.TheVariants as Replace
use Rattle.kw_world.specs.declared.activity.rebalance.seek.Seek.TheVariants as Seek
use Rattle.kw_world.specs.declared.activity.walk.Walk.TheVariants as Walk
use Rattle.kw_world.specs.declared.activity.rebalance.claim.Claim.TheVariants as Claim
use Rattle.kw_world.specs.declared.activity.rebalance.engage.Engage.TheVariants as Engage
use Rattle.kw_world.specs.declared.activity.rebalance.left.Left.TheVariants as Left
use Rattle.kw_world.specs.declared.activity.enter.Enter.TheVariants as Enter
use Rattle.kw_world.specs.declared.activity.rebalance.gather.Gather.TheVariants as Gather
use Rattle.kw_world.specs.declared.activity.insert.Insert.TheVariants as Insert
use Rattle.kw_world.specs.declared.activity.rebalance.write.Write.TheVariants as Write
use Rattle.kw_world.specs.declared.local.Local.{Local}
use Rattle.kw_world.specs.declared.event.Choice.{Choice}
use Rattle.kw_world.specs.Sizes.{Sizes}
use Rattle.kw_words.specs.declared.scan.ScanWord.TheVariants.{Quiet, Waiting, Drawn}
use Rattle.kw_words.specs.Scan.{scan_word}
use Rattle.kw_world.specs.Step.{word}
use Rattle.kw_core.specs.History.{History, called, Stands}
use Rattle.kw_core.specs.Step.{Keeps}
use Rattle.kw_core.specs.Run.{Run, Origins, log_settled}
use Rattle.kw_core.specs.declared.seat_log.SeatLog.{SeatLog}
use Rattle.std.proofs.Common.{◌==◌, if◌then◌else◌}
use Rattle.std.proofs.lemmas.Bool.{cases_lt, cases_eq}
use Rattle.kw_words.specs.Count.{count_of}
use Rattle.kw_world.specs.declared.event.Choice.TheVariants.{Begin, Go, Guess, Stop}
use Rattle.kw_world.specs.PutTransitions.{has_room}
use Rattle.kw_core.specs.Run.{seat_after, log_begun, log_gathered, index_gathered, is_at_cell}
use Rattle.kw_core.proofs.Happens.{found_at}
use Rattle.std.proofs.lemmas.Option.{same_Some}
use Rattle.kw_core.specs.History.{Draw}
use Rattle.kw_core.specs.Stages.{IsBalancing, IsBusy, IsPublished, IsUnstamped, IsDone, IsSettling, HasDrawn, IsReading, IsWaiting}
use Rattle.kw_core.specs.Words.{Words}
use Rattle.kw_shape.specs.Shape.{Shape}
use Rattle.kw_puts.specs.Puts.{Puts}
use Rattle.kw_puts.specs.Positions.{Clocked, Calling, Numbers, IsScanning, Draws, Positions, IsHelped}
use Rattle.kw_puts.specs.Below.{Below}
use Rattle.kw_core.proofs.Happens.{Happens, each_seat}
use Rattle.kw_core.proofs.Building.{IsBuilding}
use Rattle.kw_puts.proofs.BuiltStages.{building_underway}
use Rattle.kw_core.proofs.Arrows.{builds, Arrow}
use Rattle.kw_core.proofs.SeatLogs.{settle_kept}
use Rattle.std.proofs.Common.{length-append, length-set}
use Rattle.kw_words.specs.declared.kind.Kind.{Kind}
use Rattle.kw_world.specs.ListTransitions.{cell_guess, first_operation}
use Rattle.kw_world.specs.WalkTransitions.{start_transition, walk_transition, is_stopped}
use Rattle.kw_world.specs.SeekTransitions.{seek_first_transition}
use Rattle.kw_world.specs.LeftTransitions.{left_transition}
use Rattle.kw_world.specs.ReplaceTransitions.{before_transition}
use Rattle.kw_world.specs.Table.{transition}
use Rattle.kw_core.specs.declared.history.Logged.{Logged}
use Rattle.kw_core.specs.declared.history.CallLog.{CallLog}
use Rattle.kw_core.specs.HistoryLaws.{IsDraw}
use Rattle.kw_core.specs.declared.history.Change.{Change}
use Rattle.kw_core.specs.Noted.{noted}
use Rattle.kw_core.specs.Step.{Step, now}
use Rattle.kw_core.proofs.NotedLaws.{called_push_new}
use Rattle.kw_core.proofs.Steps.{stands_was, stands_before}
use Rattle.kw_core.proofs.FreezeFrame.{clock_never_falls}
use Rattle.kw_core.proofs.Changes.{Makes, made, makes_nothing, makes_begin, makes_add, makes_announce, makes_stamp, makes_help, makes_end, makes_lose}
use Rattle.kw_core.proofs.Happens.{log_entry}
use Rattle.kw_core.proofs.Arrows.{begins, leaves}
use Rattle.kw_puts.proofs.Callings.{calling_begins, calling_goes_on}
use Rattle.kw_puts.proofs.OwnScans.{scan_is_set, draws_after, settling_waits, drawn_lasts}
use Rattle.kw_shape.proofs.NextCalls.{arrow_number}
use Rattle.kw_puts.proofs.Rely.{RelyEntry, as_it_was, is_helped, is_frozen, Rely, RelyScan, scan_stays, is_settled}
use Rattle.kw_puts.proofs.Helpers.{waiting_keeps, helping_keeps}
use Rattle.kw_puts.proofs.RelyProof.{rely, goes_on_by}

-- What survives every event of another seat.

-- a put that is not stamped has announced its cell
unstamped_published : (a : Activity) → IsUnstamped a → IsPublished a
unstamped_published (Activity.Put Put.Clock) x = tt
unstamped_published (Activity.Put Put.Stamp) x = tt
unstamped_published _ x = absurd x

-- an idle seat does not tidy
idle_rests : ⊥ ⊎ ⊥ → ⊥
idle_rests (inl x) = x
idle_rests (inr x) = x

-- the call of a busy seat
pub calling_stable : (z : Sizes) (r r' : Run) (t : ℕ) (k : Local) → Rely z r r' t k → IsBusy k.activity → Calling r.history t k.activity k (r.seats t) → Calling r'.history t k.activity k (r'.seats t)
calling_stable z r r' t k y b c = subst (λ g. Calling r'.history t k.activity k g) (sym y.log)
    (let same = y.goes_on.calls (r.seats t).call c.within in
    record {
      within = omega (arith, c.within, y.goes_on.more_calls);
      seat = same.seat ∙ c.seat;
      number = same.number ∙ c.number;
      call = c.call ∙ ap Some (sym same.call);
      runs = y.history.runs (r.seats t).call c.within c.seat ∙ c.runs;
      own = own c y.entry;
      published = published c y.entry;
      done = done c y.entry;
    })
  where
    own : Calling r.history t k.activity k (r.seats t) → RelyEntry (word z r.world) (word z r'.world) r.history r'.history t k.activity k (r.seats t) → (p : ℕ) → (called r'.history (r.seats t).call).put ≡ Some p → (r.seats t).own ≡ p
    own c (as_it_was e f u) p q = c.own p (sym (u b) ∙ q)
    own c (is_helped version load x before after n f e put) p q = same_Some _ p (sym put ∙ q)
    own c (is_frozen e f u) p q = c.own p (sym u ∙ q)

    published : Calling r.history t k.activity k (r.seats t) → RelyEntry (word z r.world) (word z r'.world) r.history r'.history t k.activity k (r.seats t) → (p : ℕ) → (called r'.history (r.seats t).call).put ≡ Some p → IsPublished k.activity ⊎ IsDone k.activity ⊎ (k.tidies ≡ true)
    published c (as_it_was e f u) p q = c.published p (sym (u b) ∙ q)
    published c (is_helped version load x before after n f e put) p q = inl (unstamped_published k.activity x)
    published c (is_frozen e f u) p q = c.published p (sym u ∙ q)

    done : Calling r.history t k.activity k (r.seats t) → RelyEntry (word z r.world) (word z r'.world) r.history r'.history t k.activity k (r.seats t) → IsDone k.activity ⊎ (k.tidies ≡ true) → (p : ℕ) × ((called r'.history (r.seats t).call).put ≡ Some p)
    done c (as_it_was e f u) a = let x = c.done a in (x.0, u b ∙ x.1)
    done c (is_helped version load x before after n f e put) a = (_, put)
    done c (is_frozen e f u) a = let x = c.done a in (x.0, u ∙ x.1)

-- the numbers of a seat's calls
pub numbers_stable : (z : Sizes) (r r' : Run) (t : ℕ) (k : Local) → Rely z r r' t k → Numbers r.history t k → Numbers r'.history t k
numbers_stable z r r' t k y n = λ x w e. which x w e (cases_lt x (length r.history.calls))
  where
    which : (x : ℕ) → x < length r'.history.calls → (called r'.history x).seat ≡ t → (x < length r.history.calls) ⊎ (length r.history.calls ≤ x) → (called r'.history x).number ≤ k.number
    which x w e (inl o) = let same = y.goes_on.calls x o in omega (arith, same.number, n x o (sym same.seat ∙ e))
    which x w e (inr o) = absurd (y.history.begun x o w e)

-- a scan that is to settle is busy
settling_busy : (a : Activity) → IsSettling a → IsBusy a
settling_busy (Activity.Draw Draw.Settle) x = tt
settling_busy _ x = absurd x

-- a scan with a version is busy
drawn_busy : (a : Activity) → HasDrawn a → IsBusy a
drawn_busy Activity.Idle x = x
drawn_busy _ x = tt

-- a reader is busy
reading_busy : (a : Activity) → IsReading a → IsBusy a
reading_busy Activity.Idle x = x
reading_busy _ x = tt

-- a waiting scan is busy
waiting_busy : (a : Activity) → IsWaiting a → IsBusy a
waiting_busy (Activity.Draw Draw.Version) x = tt
waiting_busy (Activity.Draw Draw.Settle) x = tt
waiting_busy _ x = absurd x

-- a scan that waits waits on, or is helped, and one that was helped is left alone
waits_stable : (z : Sizes) (r r' : Run) (t : ℕ) (k : Local) → Rely z r r' t k → (word z r.world (name.Scan t) ≡ scan_word (Waiting k.waiting)) ⊎ IsHelped (word z r.world) r.history t (r.ledger.waits t) (r.settled t) → (word z r'.world (name.Scan t) ≡ scan_word (Waiting k.waiting)) ⊎ IsHelped (word z r'.world) r'.history t (r'.ledger.waits t) (r'.settled t)
waits_stable z r r' t k y x = which y.scan x
  where
    which : RelyScan (word z r.world) (word z r'.world) r'.history t (r.ledger.waits t) (r.settled t) (r'.settled t) → (word z r.world (name.Scan t) ≡ scan_word (Waiting k.waiting)) ⊎ IsHelped (word z r.world) r.history t (r.ledger.waits t) (r.settled t) → (word z r'.world (name.Scan t) ≡ scan_word (Waiting k.waiting)) ⊎ IsHelped (word z r'.world) r'.history t (r'.ledger.waits t) (r'.settled t)
    which (scan_stays e s) (inl w) = inl (e ∙ w)
    which (scan_stays e s) (inr n) = inr (record { version = n.version; range = n.range; word = e ∙ n.word; drawn = rw s (drawn_lasts r.history r'.history y.goes_on.stands n.drawn); after = omega (arith, n.after, s, y.since) })
    which (is_settled clock version w w' range drawn after) _ = inr (record { version = version; range = range; word = w'; drawn = drawn; after = omega (arith, after, y.since) })

-- the word of a scan that is settled is left alone
settled_stable : (z : Sizes) (r r' : Run) (t : ℕ) (k : Local) → Rely z r r' t k → word z r.world (name.Scan t) ≡ scan_word (Drawn k.version) → word z r'.world (name.Scan t) ≡ scan_word (Drawn k.version)
settled_stable z r r' t k y x = which y.scan
  where
    which : RelyScan (word z r.world) (word z r'.world) r'.history t (r.ledger.waits t) (r.settled t) (r'.settled t) → word z r'.world (name.Scan t) ≡ scan_word (Drawn k.version)
    which (scan_stays e s) = e ∙ x
    which (is_settled clock version w w' range drawn after) = let f : scan_word (Waiting clock) ≡ scan_word (Drawn k.version) = sym w ∙ x in absurd (omega (arith, f))

-- a quiet scan is left alone
quiet_stable : (z : Sizes) (r r' : Run) (t : ℕ) (k : Local) → Rely z r r' t k → word z r.world (name.Scan t) ≡ scan_word Quiet → word z r'.world (name.Scan t) ≡ scan_word Quiet
quiet_stable z r r' t k y x = which y.scan
  where
    which : RelyScan (word z r.world) (word z r'.world) r'.history t (r.ledger.waits t) (r.settled t) (r'.settled t) → word z r'.world (name.Scan t) ≡ scan_word Quiet
    which (scan_stays e s) = e ∙ x
    which (is_settled clock version w w' range drawn after) = let f : scan_word (Waiting clock) ≡ scan_word Quiet = sym w ∙ x in absurd (omega (arith, f))

-- where it drew and looked
pub draws_stable : (z : Sizes) (r r' : Run) (t : ℕ) (k : Local) → Rely z r r' t k → (IsBusy k.activity → Calling r.history t k.activity k (r.seats t)) → Draws (word z r.world) r.history t (r.ledger.waits t) (r.settled t) k.activity k (r.seats t) → Draws (word z r'.world) r'.history t (r'.ledger.waits t) (r'.settled t) k.activity k (r'.seats t)
draws_stable z r r' t k y c n = subst (λ g. Draws (word z r'.world) r'.history t (r'.ledger.waits t) (r'.settled t) k.activity k g) (sym y.log) (record {
  waits = λ a. waits_stable z r r' t k y (n.waits a);
  began = λ a. let x = n.began a in (omega (arith, x.0, first (waiting_busy k.activity a), y.since), omega (arith, x.1, y.since, y.goes_on.now));
  loaded = λ a. omega (arith, n.loaded a, y.words.clock);
  least = n.least;
  settling = λ a. y.goes_on.stands _ Draw _ (n.settling a);
  settling_first = λ a. omega (arith, n.settling_first a, first (settling_busy k.activity a));
  settled = λ e a. settled_stable z r r' t k y (n.settled e a);
  drawn = λ e a. drawn_lasts r.history r'.history y.goes_on.stands (n.drawn e a);
  drawn_first = λ e a. omega (arith, n.drawn_first e a, first (drawn_busy k.activity a));
  looked_first = λ a. omega (arith, n.looked_first a, first (reading_busy k.activity a));
  looked = λ a. omega (arith, n.looked a, y.goes_on.now);
  looked_after = n.looked_after;
})
  where
    first : IsBusy k.activity → (called r'.history (r.seats t).call).first ≡ (called r.history (r.seats t).call).first
    first b = (y.goes_on.calls (r.seats t).call (c b).within).first

-- The acting seat.

-- the first event of a walk along a list draws nothing
pub first_draws_none : (l : Local) (g : Option ℕ) → IsDraw (first_operation g l).kind → ⊥
first_draws_none l (Some cell) x = x
first_draws_none l None x = x

-- the event of a draw raises the clock
draw_raises : (z : Sizes) (r r' : Run) (s : ℕ) (choice : Choice) (l l' : Local) (a : Activity) → Happens z r r' s choice l l' a → IsDraw (transition z a s choice l).operation.kind → word z r.world name.Clock < word z r'.world name.Clock
draw_raises z r r' s choice l l' (Activity.Draw Draw.Version) h d = omega (arith, h.changed.same)
draw_raises z r r' s choice l l' (Activity.Walk Walk.Start) h d = absurd (starts choice d)
  where
    starts : (c : Choice) → IsDraw (start_transition c l).operation.kind → ⊥
    starts (Begin call) x = x
    starts Go x = x
    starts (Guess q) x = x
    starts Stop x = x
draw_raises z r r' s choice l l' (Activity.Walk Walk.Next) h d = absurd (walks (is_stopped choice l) d)
  where
    walks : (b : Bool) → IsDraw (walk_transition b s l).operation.kind → ⊥
    walks true x = x
    walks false x = x
draw_raises z r r' s choice l l' (Activity.Rebalance (Rebalance.Freeze (Freeze.Draw i))) h d = omega (arith, h.changed.same)
draw_raises z r r' s choice l l' (Activity.Rebalance (Rebalance.Seek Seek.First)) h d = absurd (seeks choice d)
  where
    seeks : (c : Choice) → IsDraw (seek_first_transition c l).operation.kind → ⊥
    seeks (Begin call) x = x
    seeks Go x = x
    seeks (Guess q) x = x
    seeks Stop x = x
draw_raises z r r' s choice l l' (Activity.Rebalance (Rebalance.Replace Replace.Start)) h d = absurd (begins choice d)
  where
    begins : (c : Choice) → IsDraw (before_transition c l).operation.kind → ⊥
    begins (Begin call) x = x
    begins Go x = x
    begins (Guess q) x = x
    begins Stop x = x
draw_raises z r r' s choice l l' (Activity.Rebalance (Rebalance.Left Left.Start)) h d = absurd (goes choice d)
  where
    goes : (c : Choice) → IsDraw (left_transition c l).operation.kind → ⊥
    goes (Begin call) x = x
    goes Go x = x
    goes (Guess q) x = x
    goes Stop x = x
draw_raises z r r' s choice l l' (Activity.Enter Enter.Announce) h d = absurd d
draw_raises z r r' s choice l l' (Activity.Look Look.Key) h d = absurd d
draw_raises z r r' s choice l l' (Activity.Read Read.Start) h d = absurd (first_draws_none l (cell_guess choice l) d)
draw_raises z r r' s choice l l' (Activity.Read Read.Link) h d = absurd d
draw_raises z r r' s choice l l' (Activity.Put Put.Count) h d = absurd d
draw_raises z r r' s choice l l' (Activity.Insert Insert.Start) h d = absurd (first_draws_none l (cell_guess choice l) d)
draw_raises z r r' s choice l l' (Activity.Insert Insert.Link) h d = absurd d
draw_raises z r r' s choice l l' (Activity.Rebalance (Rebalance.Engage Engage.Clock)) h d = absurd d
draw_raises z r r' s choice l l' (Activity.Rebalance (Rebalance.Claim Claim.Count)) h d = absurd d
draw_raises z r r' s choice l l' (Activity.Rebalance (Rebalance.Gather Gather.Link)) h d = absurd d
draw_raises z r r' s choice l l' (Activity.Rebalance (Rebalance.Write Write.Count)) h d = absurd d
draw_raises z r r' s choice l l' a h d = absurd d

-- the clock over the log
pub clocked_keeps : (z : Sizes) (r r' : Run) (s : ℕ) (choice : Choice) (l : Local) (a : Activity) (l' : Local) → Arrow z (word z r.world) s choice l a l' → Happens z r r' s choice l l' a → Below z r → Step r.history r'.history (log_entry z r a s choice l) → Clocked (word z r'.world) r'.history
clocked_keeps z r r' s choice l a l' b h i st = record {
  positive = λ x k c t. positive c (was x k c t);
  past = λ x k c t. past c (was x k c t);
  drawn = λ x k c d t. drawn x k c d (was x k c t);
  rises = λ x y k j c d e t u w. rises x y k j c d e w (was x k c t) (was y j d u);
}
  where
    e : Logged
    e = log_entry z r a s choice l

    step : Step r.history r'.history e
    step = st

    was : (x : ℕ) (k : Kind) (c : ℕ) → Stands r'.history x k c → Stands r.history x k c ⊎ ((x ≡ now r.history) × (k ≡ e.kind) × (c ≡ e.clock))
    was x k c t = stands_was r.history r'.history e step x k c t

    grows : word z r.world name.Clock ≤ word z r'.world name.Clock
    grows = clock_never_falls a h

    positive : {x : ℕ} {k : Kind} (c : ℕ) → Stands r.history x k c ⊎ ((x ≡ now r.history) × (k ≡ e.kind) × (c ≡ e.clock)) → 1 ≤ c
    positive {x} {k} c (inl t) = i.positions.clocked.positive x k c t
    positive c (inr t) = omega (arith, t.2, (i.shape.sane.each name.Clock tt).0)

    past : {x : ℕ} {k : Kind} (c : ℕ) → Stands r.history x k c ⊎ ((x ≡ now r.history) × (k ≡ e.kind) × (c ≡ e.clock)) → c ≤ word z r'.world name.Clock
    past {x} {k} c (inl t) = omega (arith, i.positions.clocked.past x k c t, grows)
    past c (inr t) = omega (arith, t.2, grows)

    drawn : (x : ℕ) (k : Kind) (c : ℕ) → IsDraw k → Stands r.history x k c ⊎ ((x ≡ now r.history) × (k ≡ e.kind) × (c ≡ e.clock)) → c < word z r'.world name.Clock
    drawn x k c d (inl t) = omega (arith, i.positions.clocked.drawn x k c d t, grows)
    drawn x k c d (inr t) = omega (arith, t.2, draw_raises z r r' s choice l l' a h (subst IsDraw t.1 d))

    rises : (x y : ℕ) (k j : Kind) (c d : ℕ) → IsDraw k → x < y → Stands r.history x k c ⊎ ((x ≡ now r.history) × (k ≡ e.kind) × (c ≡ e.clock)) → Stands r.history y j d ⊎ ((y ≡ now r.history) × (j ≡ e.kind) × (d ≡ e.clock)) → c < d
    rises x y k j c d q w (inl t) (inl u) = i.positions.clocked.rises x y k j c d q t u w
    rises x y k j c d q w (inl t) (inr u) = omega (arith, u.2, i.positions.clocked.drawn x k c q t)
    rises x y k j c d q w (inr t) (inl u) = absurd (omega (arith, w, t.0, stands_before r.history y j d u))
    rises x y k j c d q w (inr t) (inr u) = absurd (omega (arith, w, t.0, u.0))

-- the calls after an event: those that were there, and one that begins
new_call : (h h' : History) (e : Logged) (z : Sizes) (v : Words) (s : ℕ) (choice : Choice) (l : Local) (g : SeatLog) (o : Origins) (a : Activity) (c : Change) → Makes z v s choice l g o a c → h' ≡ noted h e c → (x : ℕ) → x < length h'.calls → length h.calls ≤ x → (x ≡ length h.calls) × ((called h' x).number ≡ l.number + 1) × (a ≡ Activity.Idle)
new_call h h' e z v s choice l g o a c (makes_begin call m) n x w f =
    let cs = ap (λ (y : History). y.calls) n in
    let last : x ≡ length h.calls = omega (arith, w, f, ap length cs, length-append h.calls (record { seat = s; number = l.number + 1; call = call; first = length h.log; end = None; put = None; answer = None; draw = None } ∷ [])) in
    (last, ap (λ (q : CallLog). q.number) (called_push_new h h' x _ cs last), refl)
new_call h h' e z v s choice l g o a c (makes_nothing b) n x w f = absurd (omega (arith, w, f, ap (λ (y : History). length y.calls) n))
new_call h h' e z v s choice l g o a c (makes_add m) n x w f = absurd (omega (arith, w, f, ap (λ (y : History). length y.calls) n))
new_call h h' e z v s choice l g o a c (makes_announce m) n x w f = absurd (omega (arith, w, f, ap (λ (y : History). length y.calls) n))
new_call h h' e z v s choice l g o a c (makes_stamp m) n x w f = absurd (omega (arith, w, f, ap (λ (y : History). length y.calls) n, length-set {A = CallLog}))
new_call h h' e z v s choice l g o a c (makes_help q m k) n x w f = absurd (omega (arith, w, f, ap (λ (y : History). length y.calls) n, length-set {A = CallLog}))
new_call h h' e z v s choice l g o a c (makes_lose i cell q y m k) n x w f = absurd (omega (arith, w, f, ap (λ (y : History). length y.calls) n))
new_call h h' e z v s choice l g o a c (makes_end answer) n x w f = absurd (omega (arith, w, f, ap (λ (y : History). length y.calls) n, length-set {A = CallLog}))

-- a call that begins is counted
idle_number : (z : Sizes) (v : Words) (s : ℕ) (choice : Choice) (l : Local) (a : Activity) (k : Local) → Arrow z v s choice l a k → a ≡ Activity.Idle → k.number ≡ l.number + 1
idle_number z v s choice l a k (builds b next y t) f = absurd (subst IsBuilding f y)
idle_number z v s choice l a k (begins call e b) f = refl
idle_number z v s choice l a k _ f = absurd (cc)

-- the numbers of the seat's calls
pub numbers_own : (z : Sizes) (r r' : Run) (s : ℕ) (choice : Choice) (l : Local) (a : Activity) (l' : Local) → Arrow z (word z r.world) s choice l a l' → Happens z r r' s choice l l' a → Below z r → Step r.history r'.history (log_entry z r a s choice l) → Numbers r'.history s l'
numbers_own z r r' s choice l a l' b h i st = λ x w e. which x w e (cases_lt x (length r.history.calls))
  where
    which : (x : ℕ) → x < length r'.history.calls → (called r'.history x).seat ≡ s → (x < length r.history.calls) ⊎ (length r.history.calls ≤ x) → (called r'.history x).number ≤ l'.number
    which x w e (inl o) =
        let same = (goes_on_by z r r' s choice l a l' h i st).calls x o in
        omega (arith, same.number, i.positions.numbers s l h.knows x o (sym same.seat ∙ e), arrow_number z (word z r.world) s choice l a l' b)
    which x w e (inr o) =
        let n = new_call r.history r'.history _ z (word z r.world) s choice l (r.seats s) r.origin a _ (made z (word z r.world) s choice l (r.seats s) r.origin a) h.history x w o in
        omega (arith, n.1, idle_number z (word z r.world) s choice l a l' b n.2)

-- the seat's call
pub calling_own : (z : Sizes) (r r' : Run) (s : ℕ) (choice : Choice) (l : Local) (a : Activity) (l' : Local) → Arrow z (word z r.world) s choice l a l' → Happens z r r' s choice l l' a → Below z r → Step r.history r'.history (log_entry z r a s choice l) → Keeps r'.history → IsBusy l'.activity → Calling r'.history s l'.activity l' (r'.seats s)
calling_own z r r' s choice l a l' (builds b next y t) h i st k p = calling_goes_on z r r' s choice l b next (builds b next y t) h i st k (building_underway b y)
calling_own z r r' s choice l a l' (begins call e m) h i st k p = calling_begins z r r' s choice l _ call e refl refl refl (λ y. idle_rests (subst (λ c. IsBalancing c ⊎ IsDone c) h.activity (i.shape.tidies s l h.knows y))) h
calling_own z r r' s choice l a l' (leaves answer) h i st k p = absurd p
calling_own z r r' s choice l a l' b h i st k p = calling_goes_on z r r' s choice l _ l' b h i st k tt

-- the word of the seat's scan
pub scans_own : (z : Sizes) (r r' : Run) (s : ℕ) (choice : Choice) (l : Local) (a : Activity) (l' : Local) → Arrow z (word z r.world) s choice l a l' → Happens z r r' s choice l l' a → Below z r → IsScanning l'.activity l' ⊎ (word z r'.world (name.Scan s) ≡ scan_word Quiet)
scans_own z r r' s choice l a l' b h i = scan_is_set z r r' s choice l a l' b h i

-- where the seat drew and looked
pub draws_own : (z : Sizes) (r r' : Run) (s : ℕ) (choice : Choice) (l : Local) (a : Activity) (l' : Local) → Arrow z (word z r.world) s choice l a l' → Happens z r r' s choice l l' a → Below z r → Step r.history r'.history (log_entry z r a s choice l) → Shape z r' → Draws (word z r'.world) r'.history s (r'.ledger.waits s) (r'.settled s) l'.activity l' (r'.seats s)
draws_own z r r' s choice l a l' b h i st after = draws_after z r r' s choice l a l' b h i st

-- where each seat looked and drew last: a scan that settles does it by its own exchange, or has a
-- draw of before
log_within : (z : Sizes) (a : Activity) (choice : Choice) (l : Local) (found : ℕ) (next : Activity) (g : SeatLog) (o : Origins) (h : History) (settled : ℕ) → (IsSettling a → (found ≡ scan_word (Waiting l.waiting)) ⊎ (settled ≤ length h.log)) → g.looked ≤ length h.log → g.drawn ≤ length h.log → ((seat_after z a choice l found next g o h settled).looked ≤ length h.log) × ((seat_after z a choice l found next g o h settled).drawn ≤ length h.log)
log_within z Activity.Idle choice l found next g o h settled f x y = begun choice
  where
    begun : (c : Choice) → ((log_begun c (length h.calls) g).looked ≤ length h.log) × ((log_begun c (length h.calls) g).drawn ≤ length h.log)
    begun (Begin call) = (x, y)
    begun Go = (x, y)
    begun (Guess q) = (x, y)
    begun Stop = (x, y)
log_within z (Activity.Draw Draw.Version) choice l found next g o h settled f x y = (x, omega arith)
log_within z (Activity.Draw Draw.Settle) choice l found next g o h settled f x y = tried (f tt)
  where
    tried : (found ≡ scan_word (Waiting l.waiting)) ⊎ (settled ≤ length h.log) → ((log_settled l.waiting found settled g).looked ≤ length h.log) × ((log_settled l.waiting found settled g).drawn ≤ length h.log)
    tried (inl e) = rw (settle_kept z choice l found next g o h settled e) (x, y)
    tried (inr w) = saw (found == scan_word (Waiting l.waiting))
      where
        saw : (b : Bool) → let g' : SeatLog = if b then g else record g { drawn = settled } in (g'.looked ≤ length h.log) × (g'.drawn ≤ length h.log)
        saw true = (x, y)
        saw false = (x, w)
log_within z (Activity.Look (Look.Entry j)) choice l found next g o h settled f x y = saw (j == 0)
  where
    saw : (b : Bool) → let g' : SeatLog = if b then record g { looked = length h.log; ids = []; read = None } else g in (g'.looked ≤ length h.log) × (g'.drawn ≤ length h.log)
    saw true = (omega arith, y)
    saw false = (x, y)
log_within z (Activity.Read Read.Start) choice l found next g o h settled f x y = read (is_at_cell next)
  where
    read : (b : Bool) → let g' : SeatLog = if b then g else record g { read = Some l.row } in (g'.looked ≤ length h.log) × (g'.drawn ≤ length h.log)
    read true = (x, y)
    read false = (x, y)
log_within z (Activity.Read Read.Link) choice l found next g o h settled f x y = read (is_at_cell next)
  where
    read : (b : Bool) → let g' : SeatLog = if b then g else record g { read = Some l.row } in (g'.looked ≤ length h.log) × (g'.drawn ≤ length h.log)
    read true = (x, y)
    read false = (x, y)
log_within z (Activity.Read Read.Key) choice l found next g o h settled f x y = read (is_at_cell next)
  where
    read : (b : Bool) → let g' : SeatLog = if b then g else record g { read = Some l.row } in (g'.looked ≤ length h.log) × (g'.drawn ≤ length h.log)
    read true = (x, y)
    read false = (x, y)
log_within z (Activity.Read Read.LeftOverKey) choice l found next g o h settled f x y = read (is_at_cell next)
  where
    read : (b : Bool) → let g' : SeatLog = if b then g else record g { read = Some l.row } in (g'.looked ≤ length h.log) × (g'.drawn ≤ length h.log)
    read true = (x, y)
    read false = (x, y)
log_within z (Activity.Read Read.LeftOverValue) choice l found next g o h settled f x y = read (is_at_cell next)
  where
    gathered : SeatLog
    gathered = log_gathered (o l.row l.place) (index_gathered l found) g

    read : (b : Bool) → let g' : SeatLog = if b then gathered else record gathered { read = Some l.row } in (g'.looked ≤ length h.log) × (g'.drawn ≤ length h.log)
    read true = (x, y)
    read false = (x, y)
log_within z (Activity.Put Put.Add) choice l found next g o h settled f x y = saw (has_room z (count_of found))
  where
    saw : (b : Bool) → let g' : SeatLog = if b then record g { own = length h.attempts } else g in (g'.looked ≤ length h.log) × (g'.drawn ≤ length h.log)
    saw true = (x, y)
    saw false = (x, y)
log_within z (Activity.Rebalance (Rebalance.Freeze (Freeze.Draw i))) choice l found next g o h settled f x y = (x, omega arith)
log_within z (Activity.Enter Enter.Announce) choice l found next g o h settled f x y = (x, y)
log_within z (Activity.Walk Walk.First) choice l found next g o h settled f x y = (x, y)
log_within z (Activity.Insert Insert.Link) choice l found next g o h settled f x y = (x, y)
log_within z (Activity.Rebalance (Rebalance.Engage Engage.Clock)) choice l found next g o h settled f x y = (x, y)
log_within z (Activity.Rebalance (Rebalance.Gather Gather.Link)) choice l found next g o h settled f x y = (x, y)
log_within z (Activity.Rebalance (Rebalance.Seek Seek.Next)) choice l found next g o h settled f x y = (x, y)
log_within z (Activity.Rebalance (Rebalance.Write Write.Count)) choice l found next g o h settled f x y = (x, y)
log_within z (Activity.Rebalance (Rebalance.Replace Replace.First)) choice l found next g o h settled f x y = (x, y)
log_within z _ choice l found next g o h settled f x y = (x, y)

-- what a scan that settles finds is its own word
settling_finds : (z : Sizes) (v : Words) (s : ℕ) (choice : Choice) (l : Local) (a : Activity) → IsSettling a → v (name.Scan s) ≡ scan_word (Waiting l.waiting) → found_at z v a s choice l ≡ scan_word (Waiting l.waiting)
settling_finds z v s choice l (Activity.Draw Draw.Settle) y e = e
settling_finds z v s choice l _ y e = absurd y

-- no seat looked or drew later than now
both_keep : (z : Sizes) (r r' : Run) (s : ℕ) (choice : Choice) (l : Local) (a : Activity) (l' : Local) → Happens z r r' s choice l l' a → Below z r → Step r.history r'.history (log_entry z r a s choice l) → (t : ℕ) → ((r'.seats t).looked ≤ length r'.history.log) × ((r'.seats t).drawn ≤ length r'.history.log)
both_keep z r r' s choice l a l' h i st t = which (cases_eq t s)
  where
    now : length r.history.log < length r'.history.log
    now = (goes_on_by z r r' s choice l a l' h i st).now

    found : IsSettling a → (word z r.world (name.Scan s) ≡ scan_word (Waiting l.waiting)) ⊎ IsHelped (word z r.world) r.history s (r.ledger.waits s) (r.settled s) → (found_at z (word z r.world) a s choice l ≡ scan_word (Waiting l.waiting)) ⊎ (r.settled s ≤ length r.history.log)
    found y (inl e) = inl (settling_finds z (word z r.world) s choice l a y e)
    found y (inr n) = inr (omega (arith, stands_before r.history (r.settled s) n.drawn.kind n.version n.drawn.stands))

    which : (t ≡ s) ⊎ (t ≡ s → ⊥) → ((r'.seats t).looked ≤ length r'.history.log) × ((r'.seats t).drawn ≤ length r'.history.log)
    which (inl e) =
        let x = log_within z a choice l (found_at z (word z r.world) a s choice l) l'.activity (r.seats s) r.origin r.history (r.settled s) (λ y. found y ((i.positions.draws s l h.knows).waits (subst IsWaiting (sym h.activity) (settling_waits a y)))) (i.positions.looks s) (i.positions.drew s) in
        rw (e, h.log) (omega (arith, x.0, now), omega (arith, x.1, now))
    which (inr d) = rw (h.logs t d) (omega (arith, i.positions.looks t, now), omega (arith, i.positions.drew t, now))

-- a scan that is at work is so, whatever becomes of its word
still : {A B C : Type 0} → (B → C) → A ⊎ B → A ⊎ C
still f (inl x) = inl x
still f (inr y) = inr (f y)

-- The group.

pub positions_keep : (z : Sizes) (r r' : Run) (s : ℕ) (choice : Choice) (l : Local) (a : Activity) (l' : Local) → Happens z r r' s choice l l' a → Below z r → Step r.history r'.history (log_entry z r a s choice l) → Shape z r' → Keeps r'.history → Puts z r' → Positions z r'
positions_keep z r r' s choice l a l' h i st after k puts = record {
  clocked = clocked_keeps z r r' s choice l a l' h.arrow h i st;
  calling = each_seat h (λ t k. IsBusy k.activity → Calling r'.history t k.activity k (r'.seats t))
      (calling_own z r r' s choice l a l' h.arrow h i st k)
      (λ t k d g p. calling_stable z r r' t k (rely z r r' s choice l a l' h i st t k d g) p (i.positions.calling t k g p));
  numbers = each_seat h (λ t k. Numbers r'.history t k)
      (numbers_own z r r' s choice l a l' h.arrow h i st)
      (λ t k d g. numbers_stable z r r' t k (rely z r r' s choice l a l' h i st t k d g) (i.positions.numbers t k g));
  scans = each_seat h (λ t k. IsScanning k.activity k ⊎ (word z r'.world (name.Scan t) ≡ scan_word Quiet))
      (scans_own z r r' s choice l a l' h.arrow h i)
      (λ t k d g. still (quiet_stable z r r' t k (rely z r r' s choice l a l' h i st t k d g)) (i.positions.scans t k g));
  looks = λ t. (both_keep z r r' s choice l a l' h i st t).0;
  drew = λ t. (both_keep z r r' s choice l a l' h i st t).1;
  waiting = waiting_keeps z r r' s choice l a l' h i st;
  helping = helping_keeps z r r' s choice l a l' h i st;
  draws = each_seat h (λ t k. Draws (word z r'.world) r'.history t (r'.ledger.waits t) (r'.settled t) k.activity k (r'.seats t))
      (draws_own z r r' s choice l a l' h.arrow h i st after)
      (λ t k d g. draws_stable z r r' t k (rely z r r' s choice l a l' h i st t k d g) (i.positions.calling t k g) (i.positions.draws t k g));
}
