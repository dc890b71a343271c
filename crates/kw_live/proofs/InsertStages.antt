-- How a put goes along the list of its row with its local left as it is: what follows each event,
-- and what they come to.
use Rattle.std.proofs.Common.{◌≡◌, ℕ, ◌<◌, ◌≤◌, Bool, true, false, nat_lt, ◌==◌, if◌then◌else◌, Option, Some, None, arith, refl, sym, ◌∙◌, ap, subst}
use Rattle.std.proofs.lemmas.Bool.{lt-ltb}
use Rattle.kw_model.specs.declared.call.Call.{Call}
use Rattle.kw_words.specs.Plain.{cell_of_link_word, key_of_word}
use Rattle.kw_words.specs.declared.sizes.TheConstants.{CELLS}
use Rattle.kw_world.specs.declared.activity.Activity.{Activity}
use Rattle.kw_world.specs.declared.activity.insert.Insert.TheVariants as Insert
use Rattle.kw_world.specs.declared.event.Choice.TheVariants.{Go}
use Rattle.kw_world.specs.declared.event.StepDone.{StepDone}
use Rattle.kw_world.specs.declared.event.StepDone.TheVariants.{Moved}
use Rattle.kw_world.specs.declared.local.Local.{Local}
use Rattle.kw_world.specs.Calls.{first_key}
use Rattle.kw_world.specs.ListTransitions.{insert_from, insert_key, insert_past}
use Rattle.kw_world.specs.Sizes.{product}
use Rattle.kw_world.specs.Step.{next_of}
use Rattle.kw_world.specs.Transition.{Outcome, outcome, to}
use Rattle.kw_core.specs.Stages.{IsAtInsertLink, IsInserting}
use Rattle.kw_table.specs.declared.pass.Pass.{Pass}
use Rattle.kw_table.specs.declared.shared.Shared.{Shared}
use Rattle.kw_table.specs.Passes.{view, Makes}
use Rattle.kw_table.specs.Views.{local_in}
use Rattle.kw_follow.specs.declared.cursor.Cursor.{Cursor}
use Rattle.kw_follow.specs.Calling.{KeepsCalls}
use Rattle.kw_follow.specs.Cursors.{holding, past, reached, with_cursor}
use Rattle.kw_follow.specs.Following.{Follows, GoesTo, held}
use Rattle.kw_follow.specs.Within.{IsWithinCall}
use Rattle.kw_follow.proofs.Carrying.{IsGoingOn}
use Rattle.kw_follow.proofs.OneEvent.{Went, went_held, went_line, went_saw, within_goes}
use Rattle.kw_follow.proofs.OwnEvents.{goes_trans}
use Rattle.kw_follow.proofs.PutEvents.{next_at, put_within}
use Rattle.kw_follow.proofs.Reaching.{reaches_by, reaches_none, went_by}
use Rattle.kw_follow.proofs.Resting.{stands}
use Rattle.kw_live.specs.Beginning.{BeginsInsert}
use Rattle.kw_live.specs.Putting.{InsertsFurther, is_trying, put_ahead}
use Rattle.kw_live.proofs.PutStages.{put_goes, trying_puts}
use Rattle.kw_live.proofs.ReadEvent.{laws_in}

-- a put that stands at a link has reached fewer cells than there are
pub put_counts : (s : Shared) (p : Pass) (l : Local) (w : Cursor) (a : Activity) → IsAtInsertLink a → Follows s p (with_cursor a w l) → w.walked < CELLS
put_counts s p l w a at f =
    let k : Local = local_in (view p) in
    subst (λ (x : Local). x.walked < CELLS) (sym f.carries)
    ((laws_in p).walked (view p).number k (stands p) (subst IsAtInsertLink (ap (λ (x : Local). x.activity) f.carries) at))

-- it is in its row, and not done
link_puts : (a : Activity) → IsAtInsertLink a → is_trying a ≡ true
link_puts (Activity.Insert _) at = refl
link_puts _ at = absurd at

-- what follows from the load of the link
insert_line : (rows : ℕ) (a : Activity) (k : Local) (told : ℕ) → k.activity ≡ a → IsAtInsertLink a → insert_from product (cell_of_link_word told) k ≡ next_of product rows Go k told
insert_line rows (Activity.Insert Insert.Start) k told is at = next_at rows (Activity.Insert Insert.Start) k told is
insert_line rows (Activity.Insert Insert.Link) k told is at = next_at rows (Activity.Insert Insert.Link) k told is
insert_line rows _ k told is at = absurd at

-- and it does not depend on where the walk stood
insert_any : (a : Activity) (cell : Option ℕ) (l : Local) → insert_from product cell (record l { activity = a }) ≡ insert_from product cell l
insert_any a (Some cell) l = refl
insert_any a None l = refl

-- One event of a pass, and of code that follows it.

module _ {s : Shared} {p q : Pass} {told : ℕ} (l m : Local) (done : StepDone) (f : Follows s p l) (makes : Makes s p Go told q) (put : is_trying l.activity ≡ true) (line : outcome m done ≡ next_of product s.opening.rows Go l told) where
  -- code goes on by the table
  went_on : Went s p q Go l m done told
  went_on = went_by l m done f makes line

  -- it is in the middle of its call
  within : IsWithinCall l.activity
  within = put_within l.activity (trying_puts l.activity put)

  going : IsGoingOn l.activity
  going = within_goes l.activity within

  -- a put that still inserts its cell is further
  pub inserts_by : IsInserting m.activity → InsertsFurther s p l q m
  inserts_by inserting =
      let on = reaches_by went_on going in
      let put_on = put_goes s p p q l m (view p).opening.rows told (reaches_none f).goes on.goes (went_saw went_on within) (went_line went_on going) put in
      record { goes = on.goes; follows = on.follows; calls = on.calls; held = went_held went_on going refl; inserting = inserting; fewer = put_on.fewer }

-- The put still inserts its cell.

-- once it was told a link
from_link : (cell : Option ℕ) (l : Local) → IsInserting (insert_from product cell l).local.activity
from_link (Some cell) l = tt
from_link None l = tt

-- once it was told a key
from_key : (key : ℕ) (l : Local) → IsInserting (insert_key key l).local.activity
from_key key l = saw (nat_lt key (first_key l.call)) (key == first_key l.call)
  where
    saw : (b c : Bool) → IsInserting (let x : Outcome = if b then insert_past l else if c then to (Activity.Insert Insert.Version) l else to (Activity.Insert Insert.Set) l in x).local.activity
    saw true c = tt
    saw false true = tt
    saw false false = tt

-- One event, of a put whose cursor is here.

module _ {s : Shared} {p q : Pass} {told : ℕ} (l : Local) (w : Cursor) (a : Activity) (at : IsAtInsertLink a) where
  -- the link led to a cell
  pub link_reached : (x : Cursor) (m : Local) (cell : ℕ) → x ≡ reached cell w → m ≡ holding cell l → cell_of_link_word told ≡ Some cell → Follows s p (with_cursor a w l) → Makes s p Go told q → InsertsFurther s p (with_cursor a w l) q (with_cursor (Activity.Insert Insert.Key) x m)
  link_reached x m cell is left leads f makes =
      let k : Local = with_cursor a w l in
      let line : outcome (with_cursor (Activity.Insert Insert.Key) (reached cell w) (holding cell l)) Moved ≡ insert_from product (cell_of_link_word told) k = ap (λ (o : Option ℕ). insert_from product o k) (sym leads) in
      let on : InsertsFurther s p k q (with_cursor (Activity.Insert Insert.Key) (reached cell w) (holding cell l)) = inserts_by k (with_cursor (Activity.Insert Insert.Key) (reached cell w) (holding cell l)) Moved f makes (link_puts a at) (line ∙ insert_line _ a k told refl at) tt in
      subst (λ (y : Cursor). InsertsFurther s p (with_cursor a w l) q (with_cursor (Activity.Insert Insert.Key) y m)) (sym is)
      (subst (λ (n : Local). InsertsFurther s p (with_cursor a w l) q (with_cursor (Activity.Insert Insert.Key) (reached cell w) n)) (sym left) on)

  -- the walk is left at the link
  pub link_left : (k m : Local) (done : StepDone) → k ≡ with_cursor (Activity.Insert Insert.Link) w l → outcome m done ≡ insert_from product (cell_of_link_word told) k → Follows s p (with_cursor a w l) → Makes s p Go told q → InsertsFurther s p (with_cursor a w l) q m
  link_left k m done written on f makes =
      let line : outcome m done ≡ insert_from product (cell_of_link_word told) (with_cursor a w l) = on ∙ ap (λ (n : Local). insert_from product (cell_of_link_word told) n) written ∙ insert_any (Activity.Insert Insert.Link) (cell_of_link_word told) (with_cursor a w l) in
      inserts_by (with_cursor a w l) m done f makes (link_puts a at) (line ∙ insert_line _ a (with_cursor a w l) told refl at)
      (subst (λ (o : Outcome). IsInserting o.local.activity) (sym line) (from_link (cell_of_link_word told) (with_cursor a w l)))

module _ {s : Shared} {p q : Pass} {told : ℕ} (l : Local) (w : Cursor) where
  -- the key of the cell is below the own one: it is gone by
  pub key_gone_by : (x : Cursor) → x ≡ past w → key_of_word told < first_key l.call → Follows s p (with_cursor (Activity.Insert Insert.Key) w l) → Makes s p Go told q → InsertsFurther s p (with_cursor (Activity.Insert Insert.Key) w l) q (with_cursor (Activity.Insert Insert.Link) x l)
  key_gone_by x is below f makes =
      let k : Local = with_cursor (Activity.Insert Insert.Key) w l in
      let line : outcome (with_cursor (Activity.Insert Insert.Link) (past w) l) Moved ≡ insert_key (key_of_word told) k =
      ap (λ (b : Bool). let o : Outcome = if b then insert_past k else if key_of_word told == first_key k.call then to (Activity.Insert Insert.Version) k else to (Activity.Insert Insert.Set) k in o) (sym (lt-ltb (key_of_word told) (first_key l.call) below))
      in
      subst (λ (y : Cursor). InsertsFurther s p (with_cursor (Activity.Insert Insert.Key) w l) q (with_cursor (Activity.Insert Insert.Link) y l)) (sym is)
      (inserts_by k (with_cursor (Activity.Insert Insert.Link) (past w) l) Moved f makes refl (line ∙ next_at _ (Activity.Insert Insert.Key) k told refl) tt)

  -- the walk is left at the cell
  pub key_left : (k m : Local) (done : StepDone) → k ≡ with_cursor (Activity.Insert Insert.Key) w l → outcome m done ≡ insert_key (key_of_word told) k → Follows s p (with_cursor (Activity.Insert Insert.Key) w l) → Makes s p Go told q → InsertsFurther s p (with_cursor (Activity.Insert Insert.Key) w l) q m
  key_left k m done written on f makes =
      let line : outcome m done ≡ insert_key (key_of_word told) (with_cursor (Activity.Insert Insert.Key) w l) = on ∙ ap (λ (n : Local). insert_key (key_of_word told) n) written in
      inserts_by (with_cursor (Activity.Insert Insert.Key) w l) m done f makes refl (line ∙ next_at _ (Activity.Insert Insert.Key) (with_cursor (Activity.Insert Insert.Key) w l) told refl)
      (subst (λ (o : Outcome). IsInserting o.local.activity) (sym line) (from_key (key_of_word told) (with_cursor (Activity.Insert Insert.Key) w l)))

-- One event after the other.

-- one walk, and then another one
pub inserts_trans : {s : Shared} {p q r : Pass} (l m n : Local) → InsertsFurther s p l q m → InsertsFurther s q m r n → InsertsFurther s p l r n
inserts_trans {s} {p} {q} {r} l m n a b = record {
  goes = goes_trans s p q r a.goes b.goes;
  follows = b.follows;
  calls = b.calls ∙ a.calls;
  held = b.held ∙ a.held;
  inserting = b.inserting;
  fewer = omega (arith, a.fewer, b.fewer);
}

-- A cell that the link led to.

module _ {s : Shared} {p q r : Pass} {link word : ℕ} (l m : Local) (w x : Cursor) (a : Activity) (at : IsAtInsertLink a) (cell : ℕ) (is : x ≡ reached cell w) (left : m ≡ holding cell l) (leads : cell_of_link_word link ≡ Some cell) (f : Follows s p (with_cursor a w l)) (first : Makes s p Go link q) (second : Makes s q Go word r) where
  -- the put has reached it
  saw : InsertsFurther s p (with_cursor a w l) q (with_cursor (Activity.Insert Insert.Key) x m)
  saw = link_reached l w a at x m cell is left leads f first

  -- the call is as it was
  call_stays : m.call ≡ l.call
  call_stays = ap (λ (k : Local). k.call) left

  -- it is gone by
  pub cell_gone_by : (y : Cursor) (key own : ℕ) (call : Option Call) → y ≡ past x → key ≡ key_of_word word → own ≡ first_key call → l.call ≡ call → key < own → InsertsFurther s p (with_cursor a w l) r (with_cursor (Activity.Insert Insert.Link) y m)
  cell_gone_by y key own call passes keyed has same below =
      let bound : own ≡ first_key m.call = has ∙ ap first_key (sym (call_stays ∙ same)) in
      let under : key_of_word word < first_key m.call = subst (λ n. n < first_key m.call) keyed (subst (λ n. key < n) bound below) in
      inserts_trans _ _ _ saw (key_gone_by m x y passes under saw.follows second)

  -- the walk is left there
  pub cell_left : (k n : Local) (done : StepDone) → k ≡ with_cursor (Activity.Insert Insert.Key) x m → outcome n done ≡ insert_key (key_of_word word) k → InsertsFurther s p (with_cursor a w l) r n
  cell_left k n done written on = inserts_trans _ _ _ saw (key_left m x k n done written on saw.follows second)

-- What stays while a cursor goes along the list.

pub record IsInsertingOn (s : Shared) (o : Pass) (l : Local) (p : Pass) (m : Local) : Type 0 where
  pub goes : GoesTo s o p
  pub follows : Follows s p m
  pub calls : KeepsCalls o p
  pub call : m.call ≡ l.call
  pub held : held p ≡ held o
  pub fewer : put_ahead m.activity m.walked m.lost ≤ put_ahead l.activity l.walked l.lost

module _ {s : Shared} {o p q : Pass} {l m n : Local} (before : IsInsertingOn s o l p m) (more : InsertsFurther s p m q n) where
  -- the walk goes on
  pub inserts_on : n.call ≡ m.call → IsInsertingOn s o l q n
  inserts_on same = record {
    goes = goes_trans s o p q before.goes more.goes;
    follows = more.follows;
    calls = more.calls ∙ before.calls;
    call = same ∙ before.call;
    held = more.held ∙ before.held;
    fewer = omega (arith, before.fewer, more.fewer);
  }

  -- the walk is over
  pub inserts_to : InsertsFurther s o l q n
  inserts_to = record {
    goes = goes_trans s o p q before.goes more.goes;
    follows = more.follows;
    calls = more.calls ∙ before.calls;
    held = more.held ∙ before.held;
    inserting = more.inserting;
    fewer = omega (arith, before.fewer, more.fewer);
  }

-- how many events are ahead is the same where the walk begins as at its link
link_ahead : (a : Activity) (walked lost : ℕ) → IsAtInsertLink a → put_ahead a walked lost ≡ put_ahead (Activity.Insert Insert.Link) walked lost
link_ahead (Activity.Insert Insert.Start) walked lost at = refl
link_ahead (Activity.Insert Insert.Link) walked lost at = refl
link_ahead _ walked lost at = absurd at

-- a put that begins a walk along the list, or has begun it, with its cursor here
pub record IsInsertingAlong (s : Shared) (o : Pass) (l : Local) (p : Pass) (w : Cursor) (m : Local) : Type 0 where
  pub activity : Activity
  pub loads : IsAtInsertLink activity
  pub inserts : IsInsertingOn s o l p (with_cursor activity w m)

-- the cursor of a local
abbrev own_cursor : Local → Cursor
own_cursor l = record { row = l.row; link = l.link; place = l.place; walked = l.walked; key = l.place_key; version = l.place_version }

-- where it has begun
pub begins_inserting : {s : Shared} {p q : Pass} {l : Local} {x : Cursor} → IsAtInsertLink l.activity → ((w : Cursor) → with_cursor l.activity w l ≡ l → BeginsInsert s p l w q x) → IsInsertingAlong s p l q x l
begins_inserting {s} {p} {q} {l} {x} at begun = record {
  activity = b.activity;
  loads = b.loads;
  inserts = record {
    goes = b.goes;
    follows = b.follows;
    calls = b.calls;
    call = refl;
    held = b.held;
    fewer =
        let ahead : put_ahead b.activity x.walked l.lost ≡ put_ahead l.activity l.walked l.lost = link_ahead b.activity x.walked l.lost b.loads ∙ (ap (λ n. put_ahead (Activity.Insert Insert.Link) n l.lost) b.walked ∙ sym (link_ahead l.activity l.walked l.lost at)) in
        omega (arith, ahead);
  };
}
  where
    b : BeginsInsert s p l (own_cursor l) q x
    b = begun (own_cursor l) refl

module _ {s : Shared} {o p q : Pass} {l m : Local} (n : Local) {w x : Cursor} (before : IsInsertingAlong s o l p w m) (more : InsertsFurther s p (with_cursor before.activity w m) q (with_cursor (Activity.Insert Insert.Link) x n)) where
  -- the walk is further
  pub inserts_along : n.call ≡ m.call → IsInsertingAlong s o l q x n
  inserts_along same = record { activity = Activity.Insert Insert.Link; loads = tt; inserts = inserts_on before.inserts more same }

  -- and has fewer events ahead
  pub inserts_along_fewer : put_ahead (Activity.Insert Insert.Link) x.walked n.lost < put_ahead (Activity.Insert Insert.Link) w.walked m.lost
  inserts_along_fewer = subst (λ k. put_ahead (Activity.Insert Insert.Link) x.walked n.lost < k) (link_ahead before.activity w.walked m.lost before.loads) more.fewer
