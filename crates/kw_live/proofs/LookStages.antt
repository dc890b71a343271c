-- How a reader looks at the entries of a row, one after the other.
use Rattle.std.proofs.Common.{◌≡◌, ℕ, ◌+◌, ◌*◌, ◌-◌, ◌<◌, ◌≤◌, Bool, true, false, nat_lt, ◌==◌, if◌then◌else◌, Option, Some, None, arith, refl, sym, ◌∙◌, ap, subst}
use Rattle.std.proofs.lemmas.Bool.{lt-ltb}
use Rattle.std.proofs.lemmas.Bool.Decides.{nat_tests}
use Rattle.kw_words.specs.declared.pend.Pend.{Pend}
use Rattle.kw_words.specs.declared.pend.Pend.TheVariants.{Idle, Pending, Stamped, Frozen}
use Rattle.kw_words.specs.Pend.{pend_of}
use Rattle.kw_words.specs.Plain.{key_of_word}
use Rattle.kw_world.specs.declared.activity.Activity.{Activity}
use Rattle.kw_world.specs.declared.activity.look.Look.TheVariants as Look
use Rattle.kw_world.specs.declared.activity.read.Read.TheVariants as Read
use Rattle.kw_world.specs.declared.event.Choice.TheVariants.{Go}
use Rattle.kw_world.specs.declared.event.StepDone.{StepDone}
use Rattle.kw_world.specs.declared.event.StepDone.TheVariants.{Moved}
use Rattle.kw_world.specs.declared.local.Local.{Local}
use Rattle.kw_world.specs.Calls.{is_in_range}
use Rattle.kw_world.specs.Transition.{Outcome, outcome, to}
use Rattle.kw_world.specs.ReadTransitions.{to_look, look_seen, help_seen, remembering}
use Rattle.kw_world.specs.Sizes.{Sizes, product}
use Rattle.kw_world.specs.Step.{next_of, transition_of}
use Rattle.kw_world.specs.Table.{transition}
use Rattle.kw_puts.proofs.Owners.{true_false}
use Rattle.kw_table.specs.declared.pass.Pass.{Pass}
use Rattle.kw_table.specs.declared.shared.Shared.{Shared}
use Rattle.kw_table.specs.Passes.{view, Makes}
use Rattle.kw_table.proofs.Prefixes.{prefix_self}
use Rattle.kw_follow.specs.Following.{Follows}
use Rattle.kw_follow.specs.Within.{IsWithinCall, looking}
use Rattle.kw_follow.proofs.Carrying.{IsGoingOn}
use Rattle.kw_follow.proofs.OneEvent.{Went, went_held, went_line, within_goes}
use Rattle.kw_follow.proofs.OwnEvents.{goes_trans}
use Rattle.kw_follow.proofs.PutEvents.{next_at}
use Rattle.kw_follow.proofs.Reaching.{reaches_by, went_by}
use Rattle.kw_live.specs.Reading.{IsLookingOn, LooksFurther, LooksOn, LooksUpTo, is_idle, is_looking, look_ahead}

-- the event was a look, and there are fewer to make
pub record Looked (z : Sizes) (l m : Local) (ahead : ℕ) : Type 0 where
  pub looks : LooksOn l m
  pub fewer : look_ahead z m.activity m.looked < ahead

-- the next entry is looked at, or the list is gone along, where there is none
goes_on : (z : Sizes) (l x : Local) (i ahead : ℕ) → x.call ≡ l.call → x.want ≡ l.want → x.version ≡ l.version → 0 < ahead → (i < z.seats → 4 * (z.seats - i) + 4 < ahead) → Looked z l (to_look z i x).local ahead
goes_on z l x i ahead a b c some fewer = saw (nat_lt i z.seats) refl
  where
    saw : (e : Bool) → nat_lt i z.seats ≡ e → Looked z l (let o : Outcome = if e then to (Activity.Look (Look.Entry i)) x else to (Activity.Read Read.Start) x in o).local ahead
    saw true h = record { looks = record { call = a; want = b; version = c; stage = λ f. true_false refl f }; fewer = fewer (grind (arith, nat_tests)) }
    saw false h = record { looks = record { call = a; want = b; version = c; stage = λ f. refl }; fewer = some }

-- an entry is seen
sees : (z : Sizes) (l : Local) (i : ℕ) (e : Option Pend) → Looked z l (look_seen z i e l).local (4 * (z.seats - i) + 4)
sees z l i (Some Idle) = goes_on z l l (i + 1) _ refl refl refl (omega arith) (λ h. omega (arith, h))
sees z l i (Some (Pending cell)) = record { looks = record { call = refl; want = refl; version = refl; stage = λ f. true_false refl f }; fewer = omega arith }
sees z l i (Some (Stamped cell version)) = goes_on z l (remembering cell version l) (i + 1) _ refl refl refl (omega arith) (λ h. omega (arith, h))
sees z l i (Some Frozen) = goes_on z l l (i + 1) _ refl refl refl (omega arith) (λ h. omega (arith, h))
sees z l i None = goes_on z l l (i + 1) _ refl refl refl (omega arith) (λ h. omega (arith, h))

-- its cell's key is read
keys : (z : Sizes) (l : Local) (b : Bool) → Looked z l (let o : Outcome = if b then to (Activity.Look Look.Clock) l else to_look z (l.looked + 1) l in o).local (4 * (z.seats - l.looked) + 3)
keys z l true = record { looks = record { call = refl; want = refl; version = refl; stage = λ f. true_false refl f }; fewer = omega arith }
keys z l false = goes_on z l l (l.looked + 1) _ refl refl refl (omega arith) (λ h. omega (arith, h))

-- its put is helped
helps : (z : Sizes) (l : Local) (e : Option Pend) → Looked z l (help_seen z e l).local (4 * (z.seats - l.looked) + 1)
helps z l (Some Idle) = goes_on z l l (l.looked + 1) _ refl refl refl (omega arith) (λ h. omega (arith, h))
helps z l (Some (Pending cell)) = own (cell == l.saw)
  where
    own : (b : Bool) → Looked z l (to_look z (l.looked + 1) (if b then remembering cell l.helping l else l)).local (4 * (z.seats - l.looked) + 1)
    own true = goes_on z l (remembering cell l.helping l) (l.looked + 1) _ refl refl refl (omega arith) (λ h. omega (arith, h))
    own false = goes_on z l l (l.looked + 1) _ refl refl refl (omega arith) (λ h. omega (arith, h))
helps z l (Some (Stamped cell version)) = goes_on z l (remembering cell version l) (l.looked + 1) _ refl refl refl (omega arith) (λ h. omega (arith, h))
helps z l (Some Frozen) = goes_on z l l (l.looked + 1) _ refl refl refl (omega arith) (λ h. omega (arith, h))
helps z l None = goes_on z l l (l.looked + 1) _ refl refl refl (omega arith) (λ h. omega (arith, h))

-- the event, by its activity
event : (z : Sizes) (a : Activity) (l : Local) (rows told : ℕ) → is_looking a ≡ true → Looked z l ((transition z a 0 Go l).next rows told).local (look_ahead z a l.looked)
event z (Activity.Look (Look.Entry i)) l rows told u = sees z l i (pend_of told)
event z (Activity.Look Look.Key) l rows told u = keys z l (is_in_range l.call (key_of_word told))
event z (Activity.Look Look.Clock) l rows told u = record { looks = record { call = refl; want = refl; version = refl; stage = λ f. true_false refl f }; fewer = omega arith }
event z (Activity.Look Look.Help) l rows told u = helps z l (pend_of told)
event z _ l rows told u = true_false u refl

-- each event of looking takes the reader on
pub look_goes : (l m : Local) (rows told : ℕ) → outcome m Moved ≡ next_of product rows Go l told → is_looking l.activity ≡ true → Looked product l m (look_ahead product l.activity l.looked)
unfolding transition_of
look_goes l m rows told line u = subst (λ k. Looked product l k (look_ahead product l.activity l.looked)) (sym (ap (λ (x : Outcome). x.local) line)) (event product l.activity l rows told u)

-- one look after the other
pub looks_trans : (l m n : Local) → LooksOn l m → LooksOn m n → LooksOn l n
looks_trans l m n a b = record { call = b.call ∙ a.call; want = b.want ∙ a.want; version = b.version ∙ a.version; stage = b.stage }

-- One event of a pass, and of code that follows it.

-- a reader that looks is in the middle of its call
looking_within : (a : Activity) → is_looking a ≡ true → IsWithinCall a
looking_within (Activity.Look _) u = tt
looking_within _ u = true_false u refl

module _ {s : Shared} {p q : Pass} {told : ℕ} (l m : Local) (done : StepDone) (f : Follows s p l) (makes : Makes s p Go told q) (u : is_looking l.activity ≡ true) (line : outcome m done ≡ next_of product s.opening.rows Go l told) where
  -- code goes on by the table
  went_on : Went s p q Go l m done told
  went_on = went_by l m done f makes line

  going : IsGoingOn l.activity
  going = within_goes l.activity (looking_within l.activity u)

  pub looks_by : LooksFurther s p l q m
  looks_by =
      let on = reaches_by went_on going in
      let looked = look_goes l m (view p).opening.rows told (went_line went_on going) u in
      record { goes = on.goes; follows = on.follows; calls = on.calls; held = went_held went_on going refl; looks = looked.looks; fewer = looked.fewer }

-- The looks at entries at which nothing is announced.

module _ {s : Shared} {p q : Pass} {told : ℕ} (l : Local) (i : ℕ) (f : Follows s p (looking i l)) (makes : Makes s p Go told q) where
  -- the next entry is looked at
  idle_line : pend_of told ≡ Some Idle → i + 1 < product.seats → outcome (looking (i + 1) l) Moved ≡ look_seen product i (pend_of told) (looking i l)
  idle_line idle more =
      ap (λ (b : Bool). let o : Outcome = if b then to (Activity.Look (Look.Entry (i + 1))) (looking i l) else to (Activity.Read Read.Start) (looking i l) in o) (sym (lt-ltb (i + 1) product.seats more))
      ∙ ap (λ (e : Option Pend). look_seen product i e (looking i l)) (sym idle)

  pub goes_by_idle : pend_of told ≡ Some Idle → i + 1 < product.seats → LooksFurther s p (looking i l) q (looking (i + 1) l)
  goes_by_idle idle more = looks_by (looking i l) (looking (i + 1) l) Moved f makes refl (idle_line idle more ∙ next_at _ (Activity.Look (Look.Entry i)) (looking i l) told refl)

  pub sees_entry : (m : Local) (done : StepDone) → outcome m done ≡ look_seen product i (pend_of told) (looking i l) → LooksFurther s p (looking i l) q m
  sees_entry m done line = looks_by (looking i l) m done f makes refl (line ∙ next_at _ (Activity.Look (Look.Entry i)) (looking i l) told refl)

-- All of them.

-- an entry at which nothing is announced
pub idle_is : (e : Option Pend) → is_idle e ≡ true → e ≡ Some Idle
idle_is (Some Idle) u = refl
idle_is (Some (Pending cell)) u = true_false u refl
idle_is (Some (Stamped cell version)) u = true_false u refl
idle_is (Some Frozen) u = true_false u refl
idle_is None u = true_false u refl

-- code that follows a reader at an entry looks at it next
pub looks_here : (s : Shared) (p : Pass) (l : Local) (i : ℕ) → Follows s p l → l.activity ≡ Activity.Look (Look.Entry i) → Follows s p (looking i l)
looks_here s p l i f is = subst (λ (a : Activity). Follows s p (record l { activity = a })) is f

-- a reader begins to look at an entry
pub begins_looking : (s : Shared) (p : Pass) (l : Local) (i : ℕ) → Follows s p l → l.activity ≡ Activity.Look (Look.Entry i) → IsLookingOn s p l p (looking i l)
begins_looking s p l i f is = record {
  goes = record { of_table = f.of_table; number = refl; opening = refl; seen = prefix_self _ };
  follows = subst (λ (a : Activity). Follows s p (record l { activity = a })) is f;
  calls = refl;
  held = refl;
  looks = record { call = refl; want = refl; version = refl; stage = λ e. true_false refl e };
  fewer = subst (λ (a : Activity). look_ahead product (Activity.Look (Look.Entry i)) l.looked ≤ look_ahead product a l.looked) (sym is) (omega (arith));
}

module _ {s : Shared} {o p q : Pass} {l m n : Local} (before : IsLookingOn s o l p m) (more : LooksFurther s p m q n) where
  -- looks more, after which the reader may have more to make
  pub looking_on : IsLookingOn s o l q n
  looking_on = record {
    goes = goes_trans s o p q before.goes more.goes;
    follows = more.follows;
    calls = more.calls ∙ before.calls;
    held = more.held ∙ before.held;
    looks = looks_trans l m n before.looks more.looks;
    fewer = omega (arith, before.fewer, more.fewer);
  }

  -- all of them together
  pub looked_on : LooksFurther s o l q n
  looked_on = record {
    goes = goes_trans s o p q before.goes more.goes;
    follows = more.follows;
    calls = more.calls ∙ before.calls;
    held = more.held ∙ before.held;
    looks = looks_trans l m n before.looks more.looks;
    fewer = omega (arith, before.fewer, more.fewer);
  }

-- looks up to an entry, and what follows from it
pub looked_from : {s : Shared} {p q : Pass} {l m : Local} {from entry told : ℕ} {done : StepDone} → l.activity ≡ Activity.Look (Look.Entry from) → LooksUpTo s p l from entry told q → outcome m done ≡ look_seen product entry (pend_of told) (looking entry l) → LooksFurther s p l q m
looked_from {s} {p} {q} {l} {m} {from} {entry} {told} {done} is up line =
    subst (λ (a : Activity). LooksFurther s p (record l { activity = a }) q m) (sym is)
    (looked_on up.on (sees_entry l entry up.on.follows up.makes m done line))

-- after the last entry, at which nothing is announced, the list is gone along
pub last_line : (l : Local) (i told : ℕ) → is_idle (pend_of told) ≡ true → product.seats ≤ i + 1 → outcome (record l { activity = Activity.Read Read.Start }) Moved ≡ look_seen product i (pend_of told) (looking i l)
last_line l i told idle last =
    let over : nat_lt (i + 1) product.seats ≡ false = grind (arith, nat_tests) in
    ap (λ (b : Bool). let o : Outcome = if b then to (Activity.Look (Look.Entry (i + 1))) (looking i l) else to (Activity.Read Read.Start) (looking i l) in o) (sym over)
    ∙ ap (λ (e : Option Pend). look_seen product i e (looking i l)) (sym (idle_is (pend_of told) idle))
