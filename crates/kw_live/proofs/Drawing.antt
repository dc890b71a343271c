-- The first events of a call, and those by which a scan gets its version or is stopped, as code
-- makes them.
use Rattle.std.proofs.Common.{ℕ, ◌≡◌, ◌<◌, ◌≤◌, ◌↔◌, ◌⊎◌, inl, inr, Bool, true, false, nat_le, nat_lt, if◌then◌else◌, Option, Some, None, refl, sym, ◌∙◌, ap, subst, arith}
use Rattle.std.proofs.lemmas.Bool.Decides.{nat_tests}
use Rattle.std.specs.Prelude.{IfSome}
use mathlib.Core.List.{IsPrefix}
use Rattle.kw_words.specs.declared.sizes.TheConstants.{SPENT}
use Rattle.kw_words.specs.Scan.{scan_of}
use Rattle.kw_model.specs.declared.call.Call.{Call}
use Rattle.kw_model.specs.declared.call.Call.TheVariants.{Put, Del, Get, Scan, Pin, ScanAt, Unpin}
use Rattle.kw_world.specs.declared.answer.Answer.{Answer}
use Rattle.kw_world.specs.declared.answer.Answer.TheVariants.{Pairs, Spent, Stopped}
use Rattle.kw_world.specs.declared.activity.Activity.{Activity}
use Rattle.kw_world.specs.declared.activity.draw.Draw.{Draw}
use Rattle.kw_world.specs.declared.activity.enter.Enter.TheVariants as Enter
use Rattle.kw_world.specs.declared.activity.walk.Walk.TheVariants as Walk
use Rattle.kw_world.specs.declared.event.Choice.{Choice}
use Rattle.kw_world.specs.declared.event.Choice.TheVariants.{Go, Stop}
use Rattle.kw_world.specs.declared.event.StepDone.TheVariants.{Moved}
use Rattle.kw_world.specs.declared.local.Local.{Local}
use Rattle.kw_core.specs.Events.{is_call_in_range}
use Rattle.kw_world.specs.Calls.{is_range_empty, is_pin, is_scan}
use Rattle.kw_world.specs.Transition.{Outcome, leave, outcome, to}
use Rattle.kw_world.specs.ScanTransitions.{entered, to_start, version_settled}
use Rattle.kw_world.specs.WalkTransitions.{is_stopped, walk_transition}
use Rattle.kw_world.specs.Sizes.{product}
use Rattle.kw_world.specs.Step.{next_of, transition_of}
use Rattle.kw_world.specs.Table.{transition}
use Rattle.kw_table.specs.declared.pass.Pass.{Pass}
use Rattle.kw_table.specs.declared.shared.Shared.{Shared}
use Rattle.kw_table.specs.Passes.{view}
use Rattle.kw_follow.specs.Following.{Follows, GoesTo, activity_in}
use Rattle.kw_follow.proofs.OneEvent.{same_activity}
use Rattle.kw_follow.specs.OwnEvents.{Saw, SawAs}
use Rattle.kw_follow.proofs.OwnEvents.{saw_later, saw_earlier}
use Rattle.kw_live.specs.Sights.{SawClock}
use Rattle.kw_live.specs.Stages.{HasEntered}

-- Where an event was seen.

-- the load of a scan's first clock
pub saw_clock : {p q r : Pass} {l : Local} {clock : ℕ} → l.activity ≡ Activity.Draw Draw.Clock → SawAs p q l Go clock → IsPrefix (view q).seen (view r).seen → SawClock p r clock
saw_clock {p} {q} {r} {l} {clock} is m more = record { saw = saw_later p q r (subst (λ a. Saw p q a Go clock) is m.saw) more }

pub saw_clock_earlier : {s : Shared} {p q r : Pass} {clock : ℕ} → GoesTo s p q → SawClock q r clock → SawClock p r clock
saw_clock_earlier {s} {p} {q} {r} goes m = record { saw = saw_earlier s p q r goes m.saw }

-- The events, by their activity.

-- in a table of so many rows code went on from l to m, and was told this
abbrev pub IsLine : ℕ → Choice → Local → Local → ℕ → Type 0
IsLine rows c l m told = outcome m Moved ≡ next_of product rows c l told

pub by_transition : (rows : ℕ) (a : Activity) (c : Choice) (l m : Local) (told : ℕ) → l.activity ≡ a → IsLine rows c l m told → m ≡ ((transition product a 0 c l).next rows told).local
unfolding transition_of
by_transition rows a c l m told is line = ap (λ (x : Outcome). x.local) (line ∙ ap (λ b. (transition product b 0 c l).next rows told) is)

pub waits : (rows : ℕ) (l m : Local) (told : ℕ) → l.activity ≡ Activity.Draw Draw.Wait → IsLine rows Go l m told → m ≡ record l { activity = Activity.Draw Draw.Version }
waits rows l m told is line = by_transition rows (Activity.Draw Draw.Wait) Go l m told is line

pub draws : (rows : ℕ) (l m : Local) (told : ℕ) → l.activity ≡ Activity.Draw Draw.Version → IsLine rows Go l m told → m ≡ record l { drawn = told; activity = Activity.Draw Draw.Settle }
draws rows l m told is line = by_transition rows (Activity.Draw Draw.Version) Go l m told is line

-- A scan gets its version.

-- a scan that found the versions spent has entered
spent_entered : (call : Option Call) → is_scan call ≡ true → IfSome call (λ c. HasEntered c (Activity.Leave Spent))
spent_entered (Some (Put key value)) e = let x : false ≡ true = e in absurd (cc)
spent_entered (Some (Del key)) e = let x : false ≡ true = e in absurd (cc)
spent_entered (Some (Get key)) e = let x : false ≡ true = e in absurd (cc)
spent_entered (Some (Scan from upto)) e = tt
spent_entered (Some Pin) e = let x : false ≡ true = e in absurd (cc)
spent_entered (Some (ScanAt from upto)) e = let x : false ≡ true = e in absurd (cc)
spent_entered (Some Unpin) e = let x : false ≡ true = e in absurd (cc)
spent_entered None e = let x : false ≡ true = e in absurd (cc)

-- from l, which is to load the clock, to m, where that was the clock
pub record Settles (l m : Local) (clock : ℕ) : Type 0 where
  pub call : m.call ≡ l.call
  pub has_read : m.has_read ≡ l.has_read
  pub entered : is_scan l.call ≡ true → IfSome l.call (λ c. HasEntered c m.activity)
  pub spent : (m.activity ≡ Activity.Leave Spent) ↔ (SPENT ≤ clock)

-- at the end, where it does not wait
pub settles_spent : (rows : ℕ) (l m : Local) (clock : ℕ) → l.activity ≡ Activity.Draw Draw.Clock → IsLine rows Go l m clock → (m.activity ≡ Activity.Draw Draw.Wait → ⊥) → Settles l m clock
settles_spent rows l m clock is line leaves = saw (nat_le SPENT clock) refl (by_transition rows (Activity.Draw Draw.Clock) Go l m clock is line)
  where
    saw : (b : Bool) → nat_le SPENT clock ≡ b → m ≡ (let x : Outcome = if b then leave Spent l else to (Activity.Draw Draw.Wait) (record l { waiting = clock }) in x).local → Settles l m clock
    saw true e i = subst (λ k. Settles l k clock) (sym i) (record { call = refl; has_read = refl; entered = spent_entered l.call; spent = (λ x. grind (arith, nat_tests), λ x. refl) })
    saw false e i = absurd (leaves (ap (λ (k : Local). k.activity) i))

-- where it is still to draw, it waits
pub still_waits : (rows : ℕ) (l m : Local) (clock : ℕ) (d : Draw) → l.activity ≡ Activity.Draw Draw.Clock → IsLine rows Go l m clock → m.activity ≡ Activity.Draw d → m.activity ≡ Activity.Draw Draw.Wait
still_waits rows l m clock d is line drawing = saw (nat_le SPENT clock) (by_transition rows (Activity.Draw Draw.Clock) Go l m clock is line)
  where
    saw : (b : Bool) → m ≡ (let x : Outcome = if b then leave Spent l else to (Activity.Draw Draw.Wait) (record l { waiting = clock }) in x).local → m.activity ≡ Activity.Draw Draw.Wait
    saw true i = let x : (Activity.Leave Spent) ≡ (Activity.Draw d) = sym (ap (λ (k : Local). k.activity) i) ∙ drawing in absurd (cc)
    saw false i = ap (λ (k : Local). k.activity) i

-- the clock is below the end where it does
waits_below : (rows : ℕ) (l m : Local) (clock : ℕ) → l.activity ≡ Activity.Draw Draw.Clock → IsLine rows Go l m clock → m.activity ≡ Activity.Draw Draw.Wait → (clock < SPENT) × (m ≡ record l { waiting = clock; activity = Activity.Draw Draw.Wait })
waits_below rows l m clock is line waiting = saw (nat_le SPENT clock) refl (by_transition rows (Activity.Draw Draw.Clock) Go l m clock is line)
  where
    saw : (b : Bool) → nat_le SPENT clock ≡ b → m ≡ (let x : Outcome = if b then leave Spent l else to (Activity.Draw Draw.Wait) (record l { waiting = clock }) in x).local → (clock < SPENT) × (m ≡ record l { waiting = clock; activity = Activity.Draw Draw.Wait })
    saw true e i = let x : (Activity.Leave Spent) ≡ (Activity.Draw Draw.Wait) = sym (ap (λ (k : Local). k.activity) i) ∙ waiting in absurd (cc)
    saw false e i = (grind (arith, nat_tests), i)

-- what a settled scan has
pub record Settled (l m : Local) : Type 0 where
  pub call : m.call ≡ l.call
  pub has_read : m.has_read ≡ l.has_read
  pub at : ((m.activity ≡ Activity.EndScan Pairs) × (is_range_empty l.call ≡ true)) ⊎ ((m.activity ≡ Activity.Walk Walk.Start) × (is_range_empty l.call ≡ false))

-- a scan is no pin
no_pin : (call : Option Call) → is_scan call ≡ true → is_pin call ≡ false
no_pin (Some Pin) e = let x : false ≡ true = e in absurd (cc)
no_pin (Some (Put key value)) e = refl
no_pin (Some (Del key)) e = refl
no_pin (Some (Get key)) e = refl
no_pin (Some (Scan from upto)) e = refl
no_pin (Some (ScanAt from upto)) e = refl
no_pin (Some Unpin) e = refl
no_pin None e = refl

settles : (rows : ℕ) (l m : Local) (told : ℕ) → is_pin l.call ≡ false → l.activity ≡ Activity.Draw Draw.Settle → IsLine rows Go l m told → Settled l m
settles rows l m told p is line = whole (is_pin l.call) p (by_transition rows (Activity.Draw Draw.Settle) Go l m told is line)
  where
    saw : (b : Bool) → is_range_empty l.call ≡ b
        → m ≡ (let x : Outcome = if b then to (Activity.EndScan Pairs) (record l { version = version_settled (scan_of told) l.drawn }) else to_start (record l { version = version_settled (scan_of told) l.drawn }) in x).local → Settled l m
    saw true e i = subst (Settled l) (sym i) (record { call = refl; has_read = refl; at = inl (refl, e) })
    saw false e i = subst (Settled l) (sym i) (record { call = refl; has_read = refl; at = inr (refl, e) })

    whole : (b : Bool) → b ≡ false
        → m ≡ (let x : Outcome = if b then to (Activity.Draw Draw.Pin) (record l { version = version_settled (scan_of told) l.drawn }) else if is_range_empty l.call then to (Activity.EndScan Pairs) (record l { version = version_settled (scan_of told) l.drawn }) else to_start (record l { version = version_settled (scan_of told) l.drawn }) in x).local → Settled l m
    whole true e i = let x : true ≡ false = e in absurd (cc)
    whole false e i = saw (is_range_empty l.call) refl i

settled_entered : (call : Option Call) (a : Activity) → is_scan call ≡ true → ((a ≡ Activity.EndScan Pairs) × (is_range_empty call ≡ true)) ⊎ ((a ≡ Activity.Walk Walk.Start) × (is_range_empty call ≡ false)) → IfSome call (λ c. HasEntered c a)
settled_entered (Some (Put key value)) a e h = let x : false ≡ true = e in absurd (cc)
settled_entered (Some (Del key)) a e h = let x : false ≡ true = e in absurd (cc)
settled_entered (Some (Get key)) a e h = let x : false ≡ true = e in absurd (cc)
settled_entered (Some (Scan from upto)) a e (inl h) = subst (HasEntered (Scan from upto)) (sym h.0) (let n : nat_lt upto from ≡ true = h.1 in grind (arith, nat_tests))
settled_entered (Some (Scan from upto)) a e (inr h) = subst (HasEntered (Scan from upto)) (sym h.0) (let n : nat_lt upto from ≡ false = h.1 in grind (arith, nat_tests))
settled_entered (Some Pin) a e h = let x : false ≡ true = e in absurd (cc)
settled_entered (Some (ScanAt from upto)) a e h = let x : false ≡ true = e in absurd (cc)
settled_entered (Some Unpin) a e h = let x : false ≡ true = e in absurd (cc)
settled_entered None a e h = let x : false ≡ true = e in absurd (cc)

not_spent : (a : Activity) (call : Option Call) → ((a ≡ Activity.EndScan Pairs) × (is_range_empty call ≡ true)) ⊎ ((a ≡ Activity.Walk Walk.Start) × (is_range_empty call ≡ false)) → a ≡ Activity.Leave Spent → ⊥
not_spent a call (inl h) e = let x : (Activity.EndScan Pairs) ≡ (Activity.Leave Spent) = sym h.0 ∙ e in absurd (cc)
not_spent a call (inr h) e = let x : (Activity.Walk Walk.Start) ≡ (Activity.Leave Spent) = sym h.0 ∙ e in absurd (cc)

-- from the load of the clock to the version, where it waits
pub settles_on : (r s t u : ℕ) (k l m n o : Local) (clock b c d : ℕ) → is_scan k.call ≡ true → k.activity ≡ Activity.Draw Draw.Clock → IsLine r Go k l clock → l.activity ≡ Activity.Draw Draw.Wait → IsLine s Go l m b → IsLine t Go m n c → IsLine u Go n o d → Settles k o clock
settles_on r s t u k l m n o clock b c d scan is first waiting second third fourth =
    let w = waits_below r k l clock is first waiting in
    let x : m ≡ record l { activity = Activity.Draw Draw.Version } = waits s l m b waiting second in
    let y : n ≡ record m { drawn = c; activity = Activity.Draw Draw.Settle } = draws t m n c (ap (λ (i : Local). i.activity) x) third in
    let call : n.call ≡ k.call = ap (λ (i : Local). i.call) y ∙ (ap (λ (i : Local). i.call) x ∙ ap (λ (i : Local). i.call) w.1) in
    let z : Settled n o = settles u n o d (ap is_pin call ∙ no_pin k.call scan) (ap (λ (i : Local). i.activity) y) fourth in
    let has_read : n.has_read ≡ k.has_read = ap (λ (i : Local). i.has_read) y ∙ (ap (λ (i : Local). i.has_read) x ∙ ap (λ (i : Local). i.has_read) w.1) in
    record {
      call = z.call ∙ call;
      has_read = z.has_read ∙ has_read;
      entered = λ e. settled_entered k.call o.activity e (subst (λ i. ((o.activity ≡ Activity.EndScan Pairs) × (is_range_empty i ≡ true)) ⊎ ((o.activity ≡ Activity.Walk Walk.Start) × (is_range_empty i ≡ false))) call z.at);
      spent = (λ e. absurd (not_spent o.activity n.call z.at e), λ e. absurd (omega (arith, e, w.0)));
    }

-- A call enters.

-- code has announced the epoch for this call
pub record Entered (call : Call) (m : Local) : Type 0 where
  pub call_is : m.call ≡ Some call
  pub unread : m.has_read ≡ false
  pub scan : (d : Draw) → m.activity ≡ Activity.Draw d → (m.activity ≡ Activity.Draw Draw.Clock) × (is_scan (Some call) ≡ true)
  pub starts : ((d : Draw) → m.activity ≡ Activity.Draw d → ⊥) → (is_scan (Some call) ≡ false) × HasEntered call m.activity

pub enters : (rows : ℕ) (call : Call) (l m : Local) (told : ℕ) → is_call_in_range call ≡ true → l.activity ≡ Activity.Enter Enter.Announce → l.call ≡ Some call → l.has_read ≡ false → IsLine rows Go l m told → Entered call m
enters rows call l m told ranged is e u line = saw call ranged e (by_transition rows (Activity.Enter Enter.Announce) Go l m told is line ∙ ap (λ c. (entered c l).local) e)
  where
    saw : (c : Call) → is_call_in_range c ≡ true → l.call ≡ Some c → m ≡ (entered (Some c) l).local → Entered c m
    saw (Put key value) o e i = subst (Entered (Put key value)) (sym i) (record { call_is = e; unread = u; scan = λ d h. let x : (Activity.Walk Walk.Start) ≡ (Activity.Draw d) = h in absurd (cc); starts = λ n. (refl, tt) })
    saw (Del key) o e i = subst (Entered (Del key)) (sym i) (record { call_is = e; unread = u; scan = λ d h. let x : (Activity.Walk Walk.Start) ≡ (Activity.Draw d) = h in absurd (cc); starts = λ n. (refl, tt) })
    saw (Get key) o e i = subst (Entered (Get key)) (sym i) (record { call_is = e; unread = u; scan = λ d h. let x : (Activity.Walk Walk.Start) ≡ (Activity.Draw d) = h in absurd (cc); starts = λ n. (refl, tt) })
    saw (Scan from upto) o e i = subst (Entered (Scan from upto)) (sym i) (record { call_is = e; unread = u; scan = λ d h. (refl, refl); starts = λ n. absurd (n Draw.Clock refl) })
    saw Pin o e i = let x : false ≡ true = o in absurd (cc)
    saw (ScanAt from upto) o e i = let x : false ≡ true = o in absurd (cc)
    saw Unpin o e i = let x : false ≡ true = o in absurd (cc)

-- A scan is stopped.

-- a scan that has not all its pairs walks, and has read a row
pub walking : {a : Activity} {read : Bool} → ((a ≡ Activity.Walk Walk.Next) × (read ≡ true)) ⊎ ((answer : Answer) × (a ≡ Activity.EndScan answer)) → ((answer : Answer) → a ≡ Activity.EndScan answer → ⊥) → (a ≡ Activity.Walk Walk.Next) × (read ≡ true)
walking (inl h) n = h
walking (inr h) n = absurd (n h.0 h.1)

-- it is then about to leave
pub stops : (rows : ℕ) (l m : Local) (told : ℕ) → l.activity ≡ Activity.Walk Walk.Next → is_scan l.call ≡ true → l.has_read ≡ true → IsLine rows Stop l m told → m.activity ≡ Activity.Leave Stopped
stops rows l m told is scan read line =
    let stopped : is_stopped Stop l ≡ true = rw (scan, read) refl in
    ap (λ (k : Local). k.activity) (by_transition rows (Activity.Walk Walk.Next) Stop l m told is line) ∙ ap (λ b. ((walk_transition b 0 l).next rows told).local.activity) stopped

-- a pass does so where code does
pub stopping_in : {s : Shared} {p : Pass} {l : Local} → Follows s p l → l.activity ≡ Activity.Leave Stopped → activity_in p ≡ Activity.Leave Stopped
stopping_in {s} {p} {l} f is = same_activity s p l f ∙ is
