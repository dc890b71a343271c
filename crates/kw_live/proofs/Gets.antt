-- How a get goes on that leaves its local at rest, event by event, and how it ends.
use Rattle.std.proofs.Common.{◌≡◌, inl, inr, ℕ, ◌<◌, ◌≤◌, Bool, true, false, nat_le, if◌then◌else◌, Option, Some, None, List, [], arith, refl, sym, ◌∙◌, ap, subst}
use Rattle.std.proofs.lemmas.Bool.Decides.{nat_tests}
use Rattle.kw_words.specs.declared.state.State.{State}
use Rattle.kw_words.specs.declared.state.State.TheVariants.{Free, Infant, Normal, Leader, Follower, Retired}
use Rattle.kw_words.specs.Link.{link_of}
use Rattle.kw_words.specs.Plain.{built_of_word, key_of_word}
use Rattle.kw_words.specs.State.{state_of}
use Rattle.kw_cells.specs.Cells.{shown_at}
use Rattle.kw_model.specs.declared.call.Call.{Call}
use Rattle.kw_model.specs.declared.call.Call.TheVariants.{Get}
use Rattle.kw_model.specs.declared.call.Reply.{Reply}
use Rattle.kw_model.specs.declared.call.Reply.TheVariants.{Value, Absent}
use Rattle.kw_model.specs.Map.{found}
use Rattle.kw_world.specs.declared.activity.Activity.{Activity}
use Rattle.kw_world.specs.declared.activity.look.Look.TheVariants as Look
use Rattle.kw_world.specs.declared.activity.walk.Walk.TheVariants as Walk
use Rattle.kw_world.specs.declared.event.Choice.TheVariants.{Go, Guess}
use Rattle.kw_world.specs.declared.event.StepDone.TheVariants.{Moved}
use Rattle.kw_world.specs.declared.limits.TheConstants.{NEWEST}
use Rattle.kw_world.specs.declared.local.Local.{Local}
use Rattle.kw_world.specs.declared.answer.Answer.{Answer}
use Rattle.kw_world.specs.Answers.{answer_found, reply_of}
use Rattle.kw_world.specs.Sizes.{product}
use Rattle.kw_world.specs.Step.{next_of}
use Rattle.kw_world.specs.Transition.{Outcome, outcome, row_linked, to}
use Rattle.kw_world.specs.WalkTransitions.{arrive, guess_seen, link_reached, offered}
use Rattle.kw_world.proofs.Replies.{reply_of-found}
use Rattle.kw_core.specs.Stages.{is_walking}
use Rattle.kw_laws.specs.SeatCalls.{begun_at}
use Rattle.kw_puts.proofs.Owners.{true_false}
use Rattle.kw_table.specs.declared.pass.Pass.{Pass}
use Rattle.kw_table.specs.declared.shared.Shared.{Shared}
use Rattle.kw_table.specs.Passes.{Makes}
use Rattle.kw_follow.specs.declared.way.Way.{Way}
use Rattle.kw_follow.specs.Calling.{Calls, Closes, KeepsCalls, Opens, calls_in}
use Rattle.kw_follow.specs.Following.{Follows, activity_in}
use Rattle.kw_follow.specs.Ways.{on_way}
use Rattle.kw_follow.proofs.Carrying.{IsGoingOn}
use Rattle.kw_follow.proofs.OneEvent.{same_activity, went}
use Rattle.kw_follow.proofs.OwnEvents.{goes_trans}
use Rattle.kw_follow.proofs.PutEvents.{next_at}
use Rattle.kw_follow.proofs.Reaching.{reaches_by, went_by}
use Rattle.kw_follow.proofs.WayEvents.{next_guess}
use Rattle.kw_follow.specs.Reaching.{Reaches}
use Rattle.kw_live.specs.Getting.{HasGot, is_normal}
use Rattle.kw_live.specs.Reading.{HasRead, HasReadAs, LooksFurther}
use Rattle.kw_live.specs.Walking.{IsUnderWay}

-- The walk to the row.

-- a row that is not in use sends the walk to the first row
refused : (r : ℕ) (state : Option State) (l : Local) → is_normal state ≡ false → to (Activity.Walk Walk.First) l ≡ guess_seen r state l
refused r (Some Free) l u = refl
refused r (Some (Infant seat)) l u = refl
refused r (Some Normal) l u = true_false refl u
refused r (Some (Leader count)) l u = refl
refused r (Some (Follower leader)) l u = refl
refused r (Some (Retired number)) l u = refl
refused r None l u = refl

taken : (r : ℕ) (state : Option State) (l : Local) → is_normal state ≡ true → to (Activity.Walk Walk.GuessedLeast) (record l { row = r }) ≡ guess_seen r state l
taken r (Some Normal) l u = refl
taken r (Some Free) l u = true_false u refl
taken r (Some (Infant seat)) l u = true_false u refl
taken r (Some (Leader count)) l u = true_false u refl
taken r (Some (Follower leader)) l u = true_false u refl
taken r (Some (Retired number)) l u = true_false u refl
taken r None l u = true_false u refl

module _ {s : Shared} {p q : Pass} {told : ℕ} (w : Way) where
  -- the state of the guessed row was told
  module _ (r : ℕ) (inside : r < s.opening.rows) (f : Follows s p (on_way (Activity.Walk Walk.Start) w)) (makes : Makes s p (Guess r) told q) where
    guessed : (m : Local) → outcome m Moved ≡ guess_seen r (state_of told) (on_way (Activity.Walk Walk.Start) w) → Reaches s p q m
    guessed m line = reaches_by (went s p q (Guess r) (on_way (Activity.Walk Walk.Start) w) m Moved told s.opening.rows (offered s.opening.rows (Guess r)) f makes refl refl (line ∙ next_guess s.opening.rows r (on_way (Activity.Walk Walk.Start) w) told refl inside)) tt

    -- it is not in use
    pub row_refused : is_normal (state_of told) ≡ false → Reaches s p q (on_way (Activity.Walk Walk.First) w)
    row_refused u = guessed (on_way (Activity.Walk Walk.First) w) (refused r (state_of told) (on_way (Activity.Walk Walk.Start) w) u)

    -- it is
    pub row_taken : is_normal (state_of told) ≡ true → Reaches s p q (on_way (Activity.Walk Walk.GuessedLeast) (record w { row = r }))
    row_taken u = guessed (on_way (Activity.Walk Walk.GuessedLeast) (record w { row = r })) (taken r (state_of told) (on_way (Activity.Walk Walk.Start) w) u)

  -- any later event of the walk
  walked : (a : Activity) (m : Local) (line : outcome m Moved ≡ next_of product s.opening.rows Go (on_way a w) told) → IsGoingOn a → Follows s p (on_way a w) → Makes s p Go told q → Reaches s p q m
  walked a m line going f makes = reaches_by (went_by (on_way a w) m Moved f makes line) going

  -- the least key of the guessed row was told, and is above the key
  pub least_above : (least : ℕ) → least ≡ key_of_word told → w.key < least → Follows s p (on_way (Activity.Walk Walk.GuessedLeast) w) → Makes s p Go told q → Reaches s p q (on_way (Activity.Walk Walk.First) w)
  least_above least keyed above f makes =
      let beyond : nat_le (key_of_word told) w.key ≡ false = grind (arith, nat_tests) in
      walked (Activity.Walk Walk.GuessedLeast) (on_way (Activity.Walk Walk.First) w)
      (ap (λ (b : Bool). let o : Outcome = if b then to (Activity.Walk Walk.Next) (record (on_way (Activity.Walk Walk.GuessedLeast) w) { lower = key_of_word told; built = built_of_word told }) else to (Activity.Walk Walk.First) (on_way (Activity.Walk Walk.GuessedLeast) w) in o) (sym beyond)
      ∙ next_at s.opening.rows (Activity.Walk Walk.GuessedLeast) (on_way (Activity.Walk Walk.GuessedLeast) w) told refl)
      tt f makes

  -- or is not
  pub least_below : (least built : ℕ) → least ≡ key_of_word told → built ≡ built_of_word told → least ≤ w.key → Follows s p (on_way (Activity.Walk Walk.GuessedLeast) w) → Makes s p Go told q → Reaches s p q (on_way (Activity.Walk Walk.Next) (record w { lower = least; built = built }))
  least_below least built keyed counted below f makes =
      let within : nat_le least w.key ≡ true = grind (arith, nat_tests) in
      walked (Activity.Walk Walk.GuessedLeast) (on_way (Activity.Walk Walk.Next) (record w { lower = least; built = built }))
      (ap (λ (b : Bool). let o : Outcome = if b then to (Activity.Walk Walk.Next) (record (on_way (Activity.Walk Walk.GuessedLeast) w) { lower = least; built = built }) else to (Activity.Walk Walk.First) (on_way (Activity.Walk Walk.GuessedLeast) w) in o) (sym within)
      ∙ (ap (λ n. let o : Outcome = if nat_le n w.key then to (Activity.Walk Walk.Next) (record (on_way (Activity.Walk Walk.GuessedLeast) w) { lower = n; built = built }) else to (Activity.Walk Walk.First) (on_way (Activity.Walk Walk.GuessedLeast) w) in o) keyed
      ∙ (ap (λ n. let o : Outcome = if nat_le (key_of_word told) w.key then to (Activity.Walk Walk.Next) (record (on_way (Activity.Walk Walk.GuessedLeast) w) { lower = key_of_word told; built = n }) else to (Activity.Walk Walk.First) (on_way (Activity.Walk Walk.GuessedLeast) w) in o) counted
      ∙ next_at s.opening.rows (Activity.Walk Walk.GuessedLeast) (on_way (Activity.Walk Walk.GuessedLeast) w) told refl)))
      tt f makes

  -- the link after the row was told, and leads to none: the get is at its row
  pub links_none : row_linked (link_of told) ≡ None → Follows s p (on_way (Activity.Walk Walk.Next) w) → Makes s p Go told q → Reaches s p q (on_way (Activity.Look (Look.Entry 0)) (record w { next = None; upper = 0 }))
  links_none none f makes =
      walked (Activity.Walk Walk.Next) (on_way (Activity.Look (Look.Entry 0)) (record w { next = None; upper = 0 }))
      (ap (λ (o : Option ℕ). link_reached o (on_way (Activity.Walk Walk.Next) w)) (sym none) ∙ next_at s.opening.rows (Activity.Walk Walk.Next) (on_way (Activity.Walk Walk.Next) w) told refl)
      tt f makes

  -- or leads to a row
  pub links_row : (r : ℕ) → row_linked (link_of told) ≡ Some r → Follows s p (on_way (Activity.Walk Walk.Next) w) → Makes s p Go told q → Reaches s p q (on_way (Activity.Walk Walk.NextLeast) (record w { candidate = r }))
  links_row r leads f makes =
      walked (Activity.Walk Walk.Next) (on_way (Activity.Walk Walk.NextLeast) (record w { candidate = r }))
      (ap (λ (o : Option ℕ). link_reached o (on_way (Activity.Walk Walk.Next) w)) (sym leads) ∙ next_at s.opening.rows (Activity.Walk Walk.Next) (on_way (Activity.Walk Walk.Next) w) told refl)
      tt f makes

  -- whose least key is not above the key: the walk goes on there
  pub next_below : (least built : ℕ) → least ≡ key_of_word told → built ≡ built_of_word told → least ≤ w.key → Follows s p (on_way (Activity.Walk Walk.NextLeast) w) → Makes s p Go told q → Reaches s p q (on_way (Activity.Walk Walk.Next) (record w { row = w.candidate; lower = least; built = built }))
  next_below least built keyed counted below f makes =
      let l : Local = on_way (Activity.Walk Walk.NextLeast) w in
      let within : nat_le least w.key ≡ true = grind (arith, nat_tests) in
      walked (Activity.Walk Walk.NextLeast) (on_way (Activity.Walk Walk.Next) (record w { row = w.candidate; lower = least; built = built }))
      (ap (λ (b : Bool). let o : Outcome = if b then to (Activity.Walk Walk.Next) (record l { row = w.candidate; lower = least; built = built }) else arrive l.call (record l { next = Some w.candidate; upper = least }) in o) (sym within)
      ∙ (ap (λ n. let o : Outcome = if nat_le n w.key then to (Activity.Walk Walk.Next) (record l { row = w.candidate; lower = n; built = built }) else arrive l.call (record l { next = Some w.candidate; upper = n }) in o) keyed
      ∙ (ap (λ n. let o : Outcome = if nat_le (key_of_word told) w.key then to (Activity.Walk Walk.Next) (record l { row = w.candidate; lower = key_of_word told; built = n }) else arrive l.call (record l { next = Some w.candidate; upper = key_of_word told }) in o) counted
      ∙ next_at s.opening.rows (Activity.Walk Walk.NextLeast) l told refl)))
      tt f makes

  -- or is: the get is at its row
  pub next_above : (least : ℕ) → least ≡ key_of_word told → w.key < least → Follows s p (on_way (Activity.Walk Walk.NextLeast) w) → Makes s p Go told q → Reaches s p q (on_way (Activity.Look (Look.Entry 0)) (record w { next = Some w.candidate; upper = least }))
  next_above least keyed above f makes =
      let l : Local = on_way (Activity.Walk Walk.NextLeast) w in
      let beyond : nat_le least w.key ≡ false = grind (arith, nat_tests) in
      walked (Activity.Walk Walk.NextLeast) (on_way (Activity.Look (Look.Entry 0)) (record w { next = Some w.candidate; upper = least }))
      (ap (λ (b : Bool). let o : Outcome = if b then to (Activity.Walk Walk.Next) (record l { row = w.candidate; lower = least; built = built_of_word told }) else arrive l.call (record l { next = Some w.candidate; upper = least }) in o) (sym beyond)
      ∙ (ap (λ n. let o : Outcome = if nat_le n w.key then to (Activity.Walk Walk.Next) (record l { row = w.candidate; lower = n; built = built_of_word told }) else arrive l.call (record l { next = Some w.candidate; upper = n }) in o) keyed
      ∙ next_at s.opening.rows (Activity.Walk Walk.NextLeast) l told refl))
      tt f makes

-- The whole call.

-- a call that begins, goes on and ends is a whole call
pub whole : {p q r t : Pass} {call : Call} {reply : Reply} → Opens p q call → KeepsCalls q r → Closes r t reply → Calls p t call reply
whole {p} {q} {r} {t} {call} {reply} o k c = record {
  first = o.first;
  last = c.last;
  number = o.number;
  begins = o.begins;
  ends = c.ends;
  calls = c.calls (calls_in p) (begun_at o.first o.number call) (k ∙ o.calls);
}

-- code that is about to leave with an answer follows a seat that is about to leave with it
pub leaves_with : {s : Shared} {p : Pass} {l : Local} (answer : Answer) → Follows s p l → l.activity ≡ Activity.Leave answer → activity_in p ≡ Activity.Leave answer
leaves_with {s} {p} {l} answer f is = same_activity s p l f ∙ is

-- the end of a get: code replies what the seat does, since neither has pairs
pub get_closes : {p q : Pass} (x : Option ℕ) (pairs : List (ℕ × ℕ)) → Closes p q (reply_of (answer_found x) pairs) → Closes p q (found x)
get_closes {p} {q} x pairs e = subst (Closes p q) (reply_of-found x pairs) e

pub get_replies : {p q : Pass} (x : Option ℕ) (pairs : List (ℕ × ℕ)) (reply : Reply) → Closes p q (reply_of (answer_found x) pairs) × (reply ≡ reply_of (answer_found x) []) → Closes p q reply
get_replies {p} {q} x pairs reply e = subst (Closes p q) (reply_of-found x pairs ∙ (sym (reply_of-found x []) ∙ sym e.1)) e.0

-- a get that has read its row is about to leave with what the row shows
pub get_reads : (key : ℕ) (l m : Local) (before after : List (ℕ × ℕ)) → l.call ≡ Some (Get key) → HasRead l m before after → m.activity ≡ Activity.Leave (answer_found (shown_at m.gathered NEWEST key))
get_reads key l m before after is read = (subst (λ c. HasReadAs c l.want l.version m before after) is read).0

-- and where that is no value, it is that there is none
pub get_absent : (x : Option ℕ) (reply : Reply) → reply ≡ reply_of (answer_found x) [] → ((value : ℕ) → reply ≡ Value value → ⊥) → reply ≡ Absent
get_absent (Some value) reply e none = absurd (none value e)
get_absent None reply e none = e

-- a get that is at its row looks at its first entry next, and one that is not is still on its way
pub at_row : (key i : ℕ) (a : Activity) → IsUnderWay (Some (Get key)) a → a ≡ Activity.Look (Look.Entry i) → a ≡ Activity.Look (Look.Entry 0)
at_row key i a (inl walks) is = true_false walks (ap is_walking is)
at_row key i a (inr e) is = e

pub walks_still : (key : ℕ) (a : Activity) → IsUnderWay (Some (Get key)) a → ((i : ℕ) → a ≡ Activity.Look (Look.Entry i) → ⊥) → is_walking a ≡ true
walks_still key a (inl walks) none = walks
walks_still key a (inr e) none = absurd (none 0 e)

-- a get that goes on and then ends
pub got_after : {s : Shared} {p q r : Pass} {m n : Local} {value : Option ℕ} → Reaches s p q m → HasGot s q r value n → HasGot s p r value n
got_after {s} {p} {q} {r} {m} {n} {value} gets got = record {
  goes = goes_trans s p q r gets.goes got.goes;
  idle = got.idle;
  rests = got.rests;
  before = got.before;
  calls = got.calls ∙ gets.calls;
  closes = got.closes;
}

-- a get that has looked at the entries of its row goes on
pub looks_done : {s : Shared} {p q : Pass} {l m : Local} → LooksFurther s p l q m → Reaches s p q m
looks_done more = record { goes = more.goes; follows = more.follows; calls = more.calls }
