-- How a walk goes from row to row: each of its events takes it on, and the least keys that it knows
-- rise.
use Rattle.std.proofs.Common.{◌≡◌, ◌⊎◌, List, ℕ, ◌+◌, ◌*◌, ◌-◌, ◌<◌, ◌≤◌, Bool, true, false, nat_le, nat_lt, if◌then◌else◌, Option, Some, None, arith, refl, sym, ◌∙◌, ap, subst, inl, inr}
use Rattle.kw_words.specs.declared.layout.Name.TheVariants as name
use Rattle.kw_words.specs.Link.{link_of}
use Rattle.kw_words.specs.Plain.{built_of_word, key_of_word}
use Rattle.kw_words.specs.State.{state_of}
use Rattle.kw_words.specs.declared.state.State.{State}
use Rattle.kw_words.specs.declared.state.State.TheVariants.{Free, Infant, Normal, Leader, Follower, Retired}
use Rattle.kw_cells.specs.declared.cell.Cell.{Cell}
use Rattle.kw_model.specs.declared.call.Call.{Call}
use Rattle.kw_model.specs.declared.call.Call.TheVariants.{Put, Del, Get, Scan, Pin, ScanAt, Unpin}
use Rattle.kw_world.specs.declared.activity.Activity.{Activity}
use Rattle.kw_world.specs.declared.activity.look.Look.TheVariants as Look
use Rattle.kw_world.specs.declared.activity.walk.Walk.TheVariants as Walk
use Rattle.kw_world.specs.declared.activity.rebalance.Rebalance.TheVariants as Rebalance
use Rattle.kw_world.specs.declared.activity.rebalance.replace.Replace.TheVariants as Replace
use Rattle.kw_world.specs.declared.event.Choice.{Choice}
use Rattle.kw_world.specs.declared.event.Choice.TheVariants.{Go, Guess}
use Rattle.kw_world.specs.declared.event.StepDone.{StepDone}
use Rattle.kw_world.specs.declared.event.StepDone.TheVariants.{Moved}
use Rattle.kw_world.specs.declared.local.Local.{Local}
use Rattle.kw_core.specs.Stages.{is_walking}
use Rattle.kw_world.specs.Transition.{Outcome, outcome, to, row_linked, row_or_first}
use Rattle.kw_world.specs.WalkTransitions.{arrive, guess_seen, link_reached, offered, walk_least}
use Rattle.kw_world.specs.Sizes.{product}
use Rattle.kw_world.specs.Step.{next_of, transition_of, word}
use Rattle.kw_world.specs.Table.{transition}
use Rattle.kw_core.specs.Run.{history}
use Rattle.kw_core.proofs.Arrows.{at_most}
use Rattle.kw_puts.proofs.Owners.{true_false}
use Rattle.kw_table.specs.declared.pass.Pass.{Pass}
use Rattle.kw_table.specs.declared.shared.Shared.{Shared}
use Rattle.kw_table.specs.Passes.{view, Makes}
use Rattle.kw_table.proofs.Prefixes.{prefix_self, prefix_trans}
use Rattle.kw_follow.specs.Calling.{KeepsCalls}
use Rattle.kw_follow.specs.Following.{Follows, GoesTo, held}
use Rattle.kw_follow.specs.OwnEvents.{Saw, SawAs}
use Rattle.kw_follow.specs.Within.{IsWithinCall, walking}
use Rattle.kw_follow.proofs.Carrying.{IsGoingOn}
use Rattle.kw_follow.proofs.OneEvent.{Went, went_held, went_line, went_saw, within_goes}
use Rattle.kw_follow.proofs.OwnEvents.{goes_trans}
use Rattle.kw_follow.proofs.PutEvents.{next_at}
use Rattle.kw_follow.proofs.Reaching.{reaches_by, went_by}
use Rattle.kw_live.specs.Sights.{BeginsWith}
use Rattle.kw_live.specs.Reading.{is_looking}
use Rattle.kw_live.specs.Stages.{arrived, guessing}
use Rattle.kw_live.specs.Walking.{IsUnderWay, WalksFurther, WalksOn, walk_ahead, walks_ahead}
use Rattle.kw_follow.proofs.Fronts.{saw_laws, saw_local, saw_told, local_at}

-- the event took the walk on, and it has fewer to make
pub record Climbs (l m : Local) (ahead : ℕ) : Type 0 where
  pub walks : WalksOn l m
  pub fewer : walk_ahead m.activity m.lower m.want < ahead

-- what follows from an event, by its activity
after_is : (rows : ℕ) (a : Activity) (choice : Choice) (l m : Local) (told : ℕ) → l.activity ≡ a → outcome m Moved ≡ next_of product rows choice l told → m ≡ ((transition product a 0 choice l).next rows told).local
unfolding transition_of
after_is rows a choice l m told is line = ap (λ (x : Outcome). x.local) (line ∙ ap (λ b. (transition product b 0 choice l).next rows told) is)

on : (l m x : Local) (ahead : ℕ) → m ≡ x → Climbs l x ahead → Climbs l m ahead
on l m x ahead is w = subst (λ y. Climbs l y ahead) (sym is) w

-- the arrival
arrives : (l x : Local) (call : Option Call) (ahead : ℕ) → x.call ≡ l.call → x.want ≡ l.want → x.version ≡ l.version → x.has_read ≡ l.has_read → call ≡ l.call → 0 < ahead → Climbs l (arrive call x).local ahead
arrives l x (Some (Put key value)) ahead a b c d is more = record { walks = record { call = a; want = b; version = c; has_read = d; stage = inr (ap arrived is) }; fewer = more }
arrives l x (Some (Del key)) ahead a b c d is more = record { walks = record { call = a; want = b; version = c; has_read = d; stage = inr (ap arrived is) }; fewer = more }
arrives l x (Some (Get key)) ahead a b c d is more = record { walks = record { call = a; want = b; version = c; has_read = d; stage = inr (ap arrived is) }; fewer = more }
arrives l x (Some (Scan from upto)) ahead a b c d is more = record { walks = record { call = a; want = b; version = c; has_read = d; stage = inr (ap arrived is) }; fewer = more }
arrives l x (Some Pin) ahead a b c d is more = record { walks = record { call = a; want = b; version = c; has_read = d; stage = inr (ap arrived is) }; fewer = more }
arrives l x (Some (ScanAt from upto)) ahead a b c d is more = record { walks = record { call = a; want = b; version = c; has_read = d; stage = inr (ap arrived is) }; fewer = more }
arrives l x (Some Unpin) ahead a b c d is more = record { walks = record { call = a; want = b; version = c; has_read = d; stage = inr (ap arrived is) }; fewer = more }
arrives l x None ahead a b c d is more = record { walks = record { call = a; want = b; version = c; has_read = d; stage = inr (ap arrived is) }; fewer = more }

-- the walk begins at the first row, or tries the guessed one
from_head : (l : Local) (w ahead : ℕ) → 2 * (l.want + 1) + 2 < ahead → Climbs l (record l { row = w; lower = 0; built = 0; activity = Activity.Walk Walk.Next }) ahead
from_head l w ahead more = record { walks = record { call = refl; want = refl; version = refl; has_read = refl; stage = inl refl }; fewer = omega (arith, more) }

guesses : (l : Local) (r : ℕ) (state : Option State) (ahead : ℕ) → 2 * (l.want + 1) + 4 < ahead → Climbs l (guess_seen r state l).local ahead
guesses l r (Some Free) ahead more = record { walks = record { call = refl; want = refl; version = refl; has_read = refl; stage = inl refl }; fewer = omega (arith, more) }
guesses l r (Some (Infant seat)) ahead more = record { walks = record { call = refl; want = refl; version = refl; has_read = refl; stage = inl refl }; fewer = omega (arith, more) }
guesses l r (Some Normal) ahead more = record { walks = record { call = refl; want = refl; version = refl; has_read = refl; stage = inl refl }; fewer = omega (arith, more) }
guesses l r (Some (Leader count)) ahead more = record { walks = record { call = refl; want = refl; version = refl; has_read = refl; stage = inl refl }; fewer = omega (arith, more) }
guesses l r (Some (Follower leader)) ahead more = record { walks = record { call = refl; want = refl; version = refl; has_read = refl; stage = inl refl }; fewer = omega (arith, more) }
guesses l r (Some (Retired number)) ahead more = record { walks = record { call = refl; want = refl; version = refl; has_read = refl; stage = inl refl }; fewer = omega (arith, more) }
guesses l r None ahead more = record { walks = record { call = refl; want = refl; version = refl; has_read = refl; stage = inl refl }; fewer = omega (arith, more) }

-- the guessed row serves, or does not
least_seen : (l : Local) (least built : ℕ) (b : Bool) → Climbs l (let x : Outcome = if b then to (Activity.Walk Walk.Next) (record l { lower = least; built = built }) else to (Activity.Walk Walk.First) l in x).local (2 * (l.want + 1) + 4)
least_seen l least built true = record { walks = record { call = refl; want = refl; version = refl; has_read = refl; stage = inl refl }; fewer = omega arith }
least_seen l least built false = record { walks = record { call = refl; want = refl; version = refl; has_read = refl; stage = inl refl }; fewer = omega arith }

-- the row is the last one, or there is one after it
links : (l : Local) (next : Option ℕ) → Climbs l (link_reached next l).local (2 * (l.want + 1 - l.lower) + 2)
links l None = arrives l (record l { next = None; upper = 0 }) l.call _ refl refl refl refl refl (omega arith)
links l (Some r) = record { walks = record { call = refl; want = refl; version = refl; has_read = refl; stage = inl refl }; fewer = omega arith }

-- the row after it is taken, whose least key is greater and at most the wanted one, or the walk has
-- arrived
climbs : (l : Local) (least built : ℕ) → l.lower < least → (b : Bool) → nat_le least l.want ≡ b
    → Climbs l (let x : Outcome = if b then to (Activity.Walk Walk.Next) (record l { row = l.candidate; lower = least; built = built }) else arrive l.call (record l { next = Some l.candidate; upper = least }) in x).local (2 * (l.want + 1 - l.lower) + 1)
climbs l least built above true h = record { walks = record { call = refl; want = refl; version = refl; has_read = refl; stage = inl refl }; fewer = let below = at_most least l.want h in omega (arith, above, below) }
climbs l least built above false h = arrives l (record l { next = Some l.candidate; upper = least }) l.call _ refl refl refl refl refl (omega arith)

module _ (s : Shared) (p q : Pass) (l m : Local) (rows told : ℕ) (goes : GoesTo s p q) (saw : SawAs p q l Go told) (line : outcome m Moved ≡ next_of product rows Go l told) where
  -- the event at this activity
  here : (a : Activity) → l.activity ≡ a → Saw p q a Go told
  here a is = record { front = saw.saw.front; later = saw.saw.later; here = saw.saw.here; activity = saw.saw.activity ∙ is; tells = saw.saw.tells }

  -- the row after has a greater least key
  above : l.activity ≡ Activity.Walk Walk.NextLeast → l.lower < key_of_word told
  unfolding here
  above is =
      let x = here (Activity.Walk Walk.NextLeast) is in
      let rises = (saw_laws s p q (Activity.Walk Walk.NextLeast) Go told goes x).climbs (view p).number (local_at p x.front) (saw_local p q (Activity.Walk Walk.NextLeast) Go told x) x.activity in
      let least : ℕ = key_of_word (word product (history product (view p).opening x.front).world (name.Least (local_at p x.front).candidate)) in
      let more : l.lower < least = subst (λ n. n < least) (ap (λ (k : Local). k.lower) saw.knew) rises in
      subst (λ w. l.lower < key_of_word w) (sym (saw_told p q (Activity.Walk Walk.NextLeast) Go told x _ refl)) more

  event : (a : Activity) → l.activity ≡ a → is_walking a ≡ true → Climbs l m (walk_ahead a l.lower l.want)
  event (Activity.Walk Walk.Start) is w = on l m _ _ (after_is rows (Activity.Walk Walk.Start) Go l m told is line) (from_head l (row_or_first (row_linked (link_of told))) _ (omega arith))
  event (Activity.Walk Walk.First) is w = on l m _ _ (after_is rows (Activity.Walk Walk.First) Go l m told is line) (from_head l (row_or_first (row_linked (link_of told))) _ (omega arith))
  event (Activity.Walk Walk.GuessedLeast) is w = on l m _ _ (after_is rows (Activity.Walk Walk.GuessedLeast) Go l m told is line) (least_seen l (key_of_word told) (built_of_word told) (nat_le (key_of_word told) l.want))
  event (Activity.Walk Walk.Next) is w = on l m _ _ (after_is rows (Activity.Walk Walk.Next) Go l m told is line) (links l (row_linked (link_of told)))
  event (Activity.Walk Walk.NextLeast) is w = on l m _ _ (after_is rows (Activity.Walk Walk.NextLeast) Go l m told is line) (climbs l (key_of_word told) (built_of_word told) (above is) (nat_le (key_of_word told) l.want) refl)
  event _ is w = true_false w refl

  -- each event of a walk takes it on
  pub walk_goes : is_walking l.activity ≡ true → Climbs l m (walk_ahead l.activity l.lower l.want)
  walk_goes = event l.activity refl

-- The first event of a walk, with the choice that a guess makes.
pub sets_out : (l m : Local) (told rows : ℕ) (guess : Option ℕ) → l.activity ≡ Activity.Walk Walk.Start → outcome m Moved ≡ next_of product rows (offered rows (guessing guess)) l told → WalksOn l m
sets_out l m told rows None is line = (on l m _ _ (after_is rows (Activity.Walk Walk.Start) Go l m told is line) (from_head l (row_or_first (row_linked (link_of told))) (2 * (l.want + 1) + 3) (omega arith))).walks
sets_out l m told rows (Some r) is line = saw (nat_lt r rows) line
  where
    saw : (b : Bool) → outcome m Moved ≡ next_of product rows (if b then Guess r else Go) l told → WalksOn l m
    saw true e = (on l m _ _ (after_is rows (Activity.Walk Walk.Start) (Guess r) l m told is e) (guesses l r (state_of told) (2 * (l.want + 1) + 5) (omega arith))).walks
    saw false e = (on l m _ _ (after_is rows (Activity.Walk Walk.Start) Go l m told is e) (from_head l (row_or_first (row_linked (link_of told))) (2 * (l.want + 1) + 3) (omega arith))).walks

-- one walk after the other
pub walks_trans : (l m n : Local) → WalksOn l m → WalksOn m n → WalksOn l n
walks_trans l m n a b = record {
  call = b.call ∙ a.call;
  want = b.want ∙ a.want;
  version = b.version ∙ a.version;
  has_read = b.has_read ∙ a.has_read;
  stage = subst (λ c. IsUnderWay c n.activity) a.call b.stage;
}

-- One event of a pass, and of code that follows it.

-- a call that walks is in the middle
walking_within : (a : Activity) → is_walking a ≡ true → IsWithinCall a
walking_within (Activity.Walk _) u = tt
walking_within (Activity.Rebalance (Rebalance.Replace Replace.First)) u = true_false u refl
walking_within _ u = true_false u refl

module _ {s : Shared} {p q : Pass} {told : ℕ} (l m : Local) (done : StepDone) (f : Follows s p l) (makes : Makes s p Go told q) (u : is_walking l.activity ≡ true) (line : outcome m done ≡ next_of product s.opening.rows Go l told) where
  -- code goes on by the table
  went_on : Went s p q Go l m done told
  went_on = went_by l m done f makes line

  within : IsWithinCall l.activity
  within = walking_within l.activity u

  going : IsGoingOn l.activity
  going = within_goes l.activity within

  pub walks_by : WalksFurther s p l q m
  walks_by =
      let on = reaches_by went_on going in
      let climbed = walk_goes s p q l m (view p).opening.rows told on.goes (went_saw went_on within) (went_line went_on going) u in
      record { goes = on.goes; follows = on.follows; calls = on.calls; held = went_held went_on going refl; walks = climbed.walks; fewer = climbed.fewer }

-- The events by which a walk goes from row to row.

module _ {s : Shared} {p q : Pass} {told : ℕ} (l : Local) where
  -- the link led to a row
  pub link_led : (r : ℕ) → row_linked (link_of told) ≡ Some r → Follows s p (walking (Activity.Walk Walk.Next) l) → Makes s p Go told q → WalksFurther s p (walking (Activity.Walk Walk.Next) l) q (walking (Activity.Walk Walk.NextLeast) (record l { candidate = r }))
  link_led r leads f makes =
      walks_by (walking (Activity.Walk Walk.Next) l) (walking (Activity.Walk Walk.NextLeast) (record l { candidate = r })) Moved f makes refl
      (ap (λ o. link_reached o (walking (Activity.Walk Walk.Next) l)) (sym leads) ∙ next_at _ (Activity.Walk Walk.Next) (walking (Activity.Walk Walk.Next) l) told refl)

  -- what follows from a link that was told
  pub link_told : (m : Local) (done : StepDone) → outcome m done ≡ link_reached (row_linked (link_of told)) (walking (Activity.Walk Walk.Next) l) → Follows s p (walking (Activity.Walk Walk.Next) l) → Makes s p Go told q → WalksFurther s p (walking (Activity.Walk Walk.Next) l) q m
  link_told m done line f makes = walks_by (walking (Activity.Walk Walk.Next) l) m done f makes refl (line ∙ next_at _ (Activity.Walk Walk.Next) (walking (Activity.Walk Walk.Next) l) told refl)

  -- the row's least key is not above the wanted one: it is taken
  pub row_taken : (key built : ℕ) → key ≡ key_of_word told → built ≡ built_of_word told → key ≤ l.want → Follows s p (walking (Activity.Walk Walk.NextLeast) l) → Makes s p Go told q → WalksFurther s p (walking (Activity.Walk Walk.NextLeast) l) q (walking (Activity.Walk Walk.Next) (record l { row = l.candidate; lower = key; built = built }))
  row_taken key built keyed counted serves f makes =
      let under : key_of_word told ≤ l.want = subst (λ n. n ≤ l.want) keyed serves in
      let below : nat_le (key_of_word told) l.want ≡ true = grind (arith) in
      subst (λ n. WalksFurther s p (walking (Activity.Walk Walk.NextLeast) l) q (walking (Activity.Walk Walk.Next) (record l { row = l.candidate; lower = n; built = built }))) (sym keyed)
      (subst (λ n. WalksFurther s p (walking (Activity.Walk Walk.NextLeast) l) q (walking (Activity.Walk Walk.Next) (record l { row = l.candidate; lower = key_of_word told; built = n }))) (sym counted)
      (walks_by (walking (Activity.Walk Walk.NextLeast) l) (walking (Activity.Walk Walk.Next) (record l { row = l.candidate; lower = key_of_word told; built = built_of_word told })) Moved f makes refl
      (ap (λ (b : Bool). let o : Outcome = if b then to (Activity.Walk Walk.Next) (record (walking (Activity.Walk Walk.NextLeast) l) { row = l.candidate; lower = key_of_word told; built = built_of_word told }) else arrive l.call (record (walking (Activity.Walk Walk.NextLeast) l) { next = Some l.candidate; upper = key_of_word told }) in o) (sym below)
      ∙ next_at _ (Activity.Walk Walk.NextLeast) (walking (Activity.Walk Walk.NextLeast) l) told refl)))

  -- what follows from a least key that was told
  pub least_told : (m : Local) (done : StepDone) → outcome m done ≡ walk_least (key_of_word told) (built_of_word told) (walking (Activity.Walk Walk.NextLeast) l) → Follows s p (walking (Activity.Walk Walk.NextLeast) l) → Makes s p Go told q → WalksFurther s p (walking (Activity.Walk Walk.NextLeast) l) q m
  least_told m done line f makes = walks_by (walking (Activity.Walk Walk.NextLeast) l) m done f makes refl (line ∙ next_at _ (Activity.Walk Walk.NextLeast) (walking (Activity.Walk Walk.NextLeast) l) told refl)

-- What stays through all events of a walk.
pub record IsWalkingOn (s : Shared) (o : Pass) (l : Local) (p : Pass) (m : Local) : Type 0 where
  pub goes : GoesTo s o p
  pub follows : Follows s p m
  pub calls : KeepsCalls o p
  pub held : held p ≡ held o
  pub walks : WalksOn l m
  pub fewer : walks_ahead m ≤ walks_ahead l

-- a walk that begins to go from row to row
pub begins_walking : (s : Shared) (p : Pass) (l : Local) → Follows s p l → l.activity ≡ Activity.Walk Walk.Next → IsWalkingOn s p l p (walking (Activity.Walk Walk.Next) l)
begins_walking s p l f is = record {
  goes = record { of_table = f.of_table; number = refl; opening = refl; seen = prefix_self _ };
  follows = subst (λ (a : Activity). Follows s p (walking a l)) is f;
  calls = refl;
  held = refl;
  walks = record { call = refl; want = refl; version = refl; has_read = refl; stage = inl refl };
  fewer = subst (λ (a : Activity). walk_ahead (Activity.Walk Walk.Next) l.lower l.want ≤ walk_ahead a l.lower l.want) (sym is) (omega (arith));
}

-- two parts of a walk
pub further_trans : (s : Shared) (p q r : Pass) (l m n : Local) → WalksFurther s p l q m → WalksFurther s q m r n → WalksFurther s p l r n
further_trans s p q r l m n a b = record {
  goes = goes_trans s p q r a.goes b.goes;
  follows = b.follows;
  calls = b.calls ∙ a.calls;
  held = b.held ∙ a.held;
  walks = walks_trans l m n a.walks b.walks;
  fewer = omega (arith, a.fewer, b.fewer);
}

module _ {s : Shared} {o p q : Pass} {l m n : Local} (before : IsWalkingOn s o l p m) (more : WalksFurther s p m q n) where
  -- a part more, after which the walk may go on
  pub walking_on : IsWalkingOn s o l q n
  walking_on = record {
    goes = goes_trans s o p q before.goes more.goes;
    follows = more.follows;
    calls = more.calls ∙ before.calls;
    held = more.held ∙ before.held;
    walks = walks_trans l m n before.walks more.walks;
    fewer = omega (arith, before.fewer, more.fewer);
  }

  -- all of it together
  pub walked_on : WalksFurther s o l q n
  walked_on = record {
    goes = goes_trans s o p q before.goes more.goes;
    follows = more.follows;
    calls = more.calls ∙ before.calls;
    held = more.held ∙ before.held;
    walks = walks_trans l m n before.walks more.walks;
    fewer = omega (arith, before.fewer, more.fewer);
  }

-- what a pass began with it has begun with later too
pub begins_on : (s : Shared) (p q r : Pass) (c : Choice) → GoesTo s q r → BeginsWith p q c → BeginsWith p r c
begins_on s p q r c goes b = record { front = b.front; later = b.later; first = b.first; here = prefix_trans _ _ _ b.here goes.seen }

-- Rows that are gone by while code may lack what the seat gathered in the row before, which the
-- walk forgets.

-- so far the walk went, and the seat has gathered these cells: code has them too, or the walk is to
-- forget them
pub record IsGoingBy (s : Shared) (o : Pass) (l : Local) (p : Pass) (m : Local) : Type 0 where
  pub cells : List Cell
  pub on : IsWalkingOn s o l p (walking (Activity.Walk Walk.Next) (record m { gathered = cells }))
  pub forgets : (arrived m.call ≡ Activity.Look (Look.Entry 0)) ⊎ (cells ≡ m.gathered)

-- it begins
pub begins_going_by : (s : Shared) (p : Pass) (l : Local) → (cells : List Cell) × Follows s p (record l { gathered = cells }) → (arrived l.call ≡ Activity.Look (Look.Entry 0)) ⊎ Follows s p l → l.activity ≡ Activity.Walk Walk.Next → IsGoingBy s p l p l
begins_going_by s p l beside (inl look) is =
    let on = begins_walking s p (record l { gathered = beside.0 }) beside.1 is in
    record {
      cells = beside.0;
      on = record {
        goes = on.goes;
        follows = on.follows;
        calls = on.calls;
        held = on.held;
        walks = record { call = refl; want = refl; version = refl; has_read = refl; stage = inl refl };
        fewer = on.fewer;
      };
      forgets = inl look;
    }
begins_going_by s p l beside (inr f) is = record { cells = l.gathered; on = begins_walking s p l f is; forgets = inr refl }

-- the arrival is the same whatever was gathered, where the walk forgets it
arrive_over : (call : Option Call) (l : Local) (cells : List Cell) → (arrived call ≡ Activity.Look (Look.Entry 0)) ⊎ (cells ≡ l.gathered) → arrive call (record l { gathered = cells }) ≡ arrive call l
arrive_over call l cells (inr e) = ap (λ (kept : List Cell). arrive call (record l { gathered = kept })) e
arrive_over (Some (Put key value)) l cells (inl e) = true_false (ap is_looking e) refl
arrive_over (Some (Del key)) l cells (inl e) = true_false (ap is_looking e) refl
arrive_over (Some (Get key)) l cells (inl e) = refl
arrive_over (Some (Scan from upto)) l cells (inl e) = refl
arrive_over (Some Pin) l cells (inl e) = refl
arrive_over (Some (ScanAt from upto)) l cells (inl e) = refl
arrive_over (Some Unpin) l cells (inl e) = refl
arrive_over None l cells (inl e) = refl

-- where a call stands after the arrival
arrive_at : (call : Option Call) (l : Local) → (arrive call l).local.activity ≡ arrived call
arrive_at (Some (Put key value)) l = refl
arrive_at (Some (Del key)) l = refl
arrive_at (Some (Get key)) l = refl
arrive_at (Some (Scan from upto)) l = refl
arrive_at (Some Pin) l = refl
arrive_at (Some (ScanAt from upto)) l = refl
arrive_at (Some Unpin) l = refl
arrive_at None l = refl

-- a row whose least key is above the wanted one ends the walk
stops_before : (least built : ℕ) (l : Local) → nat_le least l.want ≡ false → walk_least least built l ≡ arrive l.call (record l { next = Some l.candidate; upper = least })
stops_before least built l h = ap (λ (b : Bool). let o : Outcome = if b then to (Activity.Walk Walk.Next) (record l { row = l.candidate; lower = least; built = built }) else arrive l.call (record l { next = Some l.candidate; upper = least }) in o) h

-- all of the walk, which has arrived
pub record HasArrived (s : Shared) (o : Pass) (l : Local) (p : Pass) (m : Local) : Type 0 where
  pub walks : WalksFurther s o l p m
  pub arrived : m.activity ≡ arrived l.call

module _ {s : Shared} {o p q : Pass} {told : ℕ} {first : Local} (l : Local) (x : IsGoingBy s o first p l) (makes : Makes s p Go told q) where
  -- the link led to a row
  pub going_by_led : (r : ℕ) → row_linked (link_of told) ≡ Some r → WalksFurther s p (walking (Activity.Walk Walk.Next) (record l { gathered = x.cells })) q (walking (Activity.Walk Walk.NextLeast) (record l { gathered = x.cells; candidate = r }))
  going_by_led r leads = link_led (record l { gathered = x.cells }) r leads x.on.follows makes

  -- there is no row after this one
  pub arrives_last : (m : Local) (done : StepDone) → row_linked (link_of told) ≡ None → outcome m done ≡ link_reached (row_linked (link_of told)) (walking (Activity.Walk Walk.Next) l) → HasArrived s o first q m
  arrives_last m done leads line =
      let there : Local = record (walking (Activity.Walk Walk.Next) l) { next = None; upper = 0 } in
      let saw : outcome m done ≡ arrive l.call there = line ∙ ap (λ n. link_reached n (walking (Activity.Walk Walk.Next) l)) leads in
      record {
        walks = walked_on x.on (link_told (record l { gathered = x.cells }) m done (saw ∙ sym (arrive_over l.call there x.cells x.forgets) ∙ ap (λ n. link_reached n (walking (Activity.Walk Walk.Next) (record l { gathered = x.cells }))) (sym leads)) x.on.follows makes);
        arrived = ap (λ (y : Outcome). y.local.activity) saw ∙ arrive_at l.call there ∙ ap arrived x.on.walks.call;
      }

module _ {s : Shared} {o p q r : Pass} {link told : ℕ} {first : Local} (l : Local) (x : IsGoingBy s o first p l) (row : ℕ) (leads : row_linked (link_of link) ≡ Some row) (makes : Makes s p Go link q) (makes_next : Makes s q Go told r) where
  -- the row after is taken
  pub going_by_taken : (key built : ℕ) → key ≡ key_of_word told → built ≡ built_of_word told → key ≤ l.want → WalksFurther s p (walking (Activity.Walk Walk.Next) (record l { gathered = x.cells })) r (walking (Activity.Walk Walk.Next) (record l { gathered = x.cells; candidate = row; row = row; lower = key; built = built }))
  going_by_taken key built keyed counted serves =
      let led = going_by_led l x makes row leads in
      further_trans _ _ _ _ _ _ _ led (row_taken (record l { gathered = x.cells; candidate = row }) key built keyed counted serves led.follows makes_next)

  -- and the walk goes on from it
  pub going_by_on : (key built : ℕ) → key ≡ key_of_word told → built ≡ built_of_word told → key ≤ l.want → IsGoingBy s o first r (record l { candidate = row; row = row; lower = key; built = built })
  going_by_on key built keyed counted serves = record { cells = x.cells; on = walking_on x.on (going_by_taken key built keyed counted serves); forgets = x.forgets }

  -- the row after begins above the wanted key
  pub arrives_before : (key : ℕ) → key ≡ key_of_word told → l.want < key → (m : Local) (done : StepDone) → outcome m done ≡ walk_least (key_of_word told) (built_of_word told) (walking (Activity.Walk Walk.NextLeast) (record l { candidate = row })) → HasArrived s o first r m
  arrives_before key keyed over m done line =
      let beyond : l.want < key_of_word told = subst (λ n. l.want < n) keyed over in
      let above : nat_le (key_of_word told) l.want ≡ false = grind (arith) in
      let here : Local = walking (Activity.Walk Walk.NextLeast) (record l { candidate = row }) in
      let there : Local = record here { next = Some row; upper = key_of_word told } in
      let saw : outcome m done ≡ arrive l.call there = line ∙ stops_before (key_of_word told) (built_of_word told) here above in
      let led = going_by_led l x makes row leads in
      record {
        walks = walked_on x.on (further_trans _ _ _ _ _ _ _ led (least_told (record l { gathered = x.cells; candidate = row }) m done (saw ∙ sym (arrive_over l.call there x.cells x.forgets) ∙ sym (stops_before (key_of_word told) (built_of_word told) (walking (Activity.Walk Walk.NextLeast) (record l { gathered = x.cells; candidate = row })) above)) led.follows makes_next));
        arrived = ap (λ (y : Outcome). y.local.activity) saw ∙ arrive_at l.call there ∙ ap arrived x.on.walks.call;
      }
