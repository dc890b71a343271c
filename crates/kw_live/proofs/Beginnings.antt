-- How a walk along the list of a row begins, by one event or by none.
use Rattle.std.proofs.Common.{◌≡◌, ℕ, ◌<◌, ◌≤◌, Bool, true, false, nat_lt, if◌then◌else◌, Option, Some, None, List, arith, refl, sym, ◌∙◌, ap, subst}
use Rattle.std.proofs.lemmas.Bool.{lt-ltb}
use Rattle.kw_words.specs.Plain.{key_of_word}
use Rattle.kw_words.specs.declared.sizes.TheConstants.{CELLS}
use Rattle.kw_world.specs.declared.activity.Activity.{Activity}
use Rattle.kw_world.specs.declared.activity.insert.Insert.TheVariants as Insert
use Rattle.kw_world.specs.declared.activity.read.Read.TheVariants as Read
use Rattle.kw_world.specs.declared.event.Choice.{Choice}
use Rattle.kw_world.specs.declared.event.Choice.TheVariants.{Guess}
use Rattle.kw_world.specs.declared.event.StepDone.TheVariants.{Moved}
use Rattle.kw_world.specs.declared.local.Local.{Local}
use Rattle.kw_world.specs.declared.opening.Opening.{Opening}
use Rattle.kw_world.specs.Calls.{first_key}
use Rattle.kw_world.specs.ListTransitions.{behind_cell, cell_guess, insert_guessed, insert_started}
use Rattle.kw_world.specs.ReadTransitions.{list_guessed, list_started}
use Rattle.kw_world.specs.Sizes.{product}
use Rattle.kw_world.specs.Transition.{Outcome, outcome, to}
use Rattle.kw_world.specs.WalkTransitions.{offered}
use Rattle.kw_table.specs.declared.pass.Pass.{Pass}
use Rattle.kw_table.specs.declared.shared.Shared.{Shared}
use Rattle.kw_table.specs.Passes.{view, Makes}
use Rattle.kw_table.specs.Views.{local_in}
use Rattle.kw_follow.specs.declared.cursor.Cursor.{Cursor}
use Rattle.kw_follow.specs.Cursors.{with_cursor}
use Rattle.kw_follow.specs.Following.{Follows, carried}
use Rattle.kw_follow.proofs.Growing.{keeps}
use Rattle.kw_follow.specs.Reaching.{Reaches}
use Rattle.kw_follow.proofs.OneEvent.{Went, follows_ranges, same_activity, went, went_held}
use Rattle.kw_follow.proofs.PutEvents.{next_chosen}
use Rattle.kw_follow.proofs.ReadEvents.{choice_follows, goes_by, seat_chooses, taking_stays}
use Rattle.kw_follow.proofs.Reaching.{reaches_by, reaches_none}
use Rattle.kw_follow.proofs.WayEvents.{offered_guess}
use Rattle.kw_core.specs.Stages.{IsAtInsertLink, IsTaking}
use Rattle.kw_live.specs.Beginning.{BeginsAt, BeginsInsert, BeginsList, is_insert_start}

-- What code has for the local of a reader or a put that is to begin its walk.
pub begins_here : {s : Shared} {p : Pass} {a : Activity} {w : Cursor} {built first : ℕ} (l : Local) → Follows s p l → l.activity ≡ a → with_cursor l.activity w l ≡ l → built ≡ l.built → first ≡ first_key l.call → BeginsAt s p a l w built first
begins_here {s} {p} {a} {w} l f is own counted least = record { follows = subst (λ (b : Activity). Follows s p (with_cursor b w l)) is (subst (Follows s p) (sym own) f); counted = counted; least = least }

-- no more cells were built than there are
pub built_few : {s : Shared} {p : Pass} {a : Activity} {l : Local} {w : Cursor} {built first : ℕ} → BeginsAt s p a l w built first → built ≤ CELLS
built_few {s} {p} {a} {l} {w} b = let few = (follows_ranges s p (with_cursor a w l) b.follows).built in omega (arith, b.counted, few)

-- a guess that is offered is the one that is made
guess_is : (rows cell : ℕ) (l : Local) → cell < rows → cell < l.built → cell_guess (offered rows (Guess cell)) l ≡ Some cell
guess_is rows cell l below inside =
    ap (λ (c : Choice). cell_guess c l) (offered_guess rows cell below) ∙ ap (λ (b : Bool). let o : Option ℕ = if b then Some cell else None in o) (lt-ltb cell l.built inside)

-- The walk begins by no event.

pub list_begins_none : {s : Shared} {p : Pass} {l : Local} {w : Cursor} {built first : ℕ} → BeginsAt s p (Activity.Read Read.Start) l w built first → BeginsList s p l w p w
list_begins_none b = record { activity = Activity.Read Read.Start; loads = tt; goes = (reaches_none b.follows).goes; follows = b.follows; calls = refl; held = refl; walked = refl }

pub insert_begins_none : {s : Shared} {p : Pass} {l : Local} {w : Cursor} {built first : ℕ} → BeginsAt s p (Activity.Insert Insert.Start) l w built first → BeginsInsert s p l w p w
insert_begins_none b = record { activity = Activity.Insert Insert.Start; loads = tt; goes = (reaches_none b.follows).goes; follows = b.follows; calls = refl; held = refl; walked = refl }

-- It begins by the load of the key of a cell.

-- the cursor after it: behind that cell, where its key is below the own
abbrev pub cursor_after : Bool → ℕ → Cursor → Cursor
cursor_after b cell w = if b then record w { link = Some cell } else w

-- so it has reached as many
after_walked : (b : Bool) (cell : ℕ) (w : Cursor) → (cursor_after b cell w).walked ≡ w.walked
after_walked true cell w = refl
after_walked false cell w = refl

-- the pairs of a reader stay
guessed_pairs : (cell key : ℕ) (l : Local) → (list_guessed cell key l).local.pairs ≡ l.pairs
guessed_pairs cell key l = saw (nat_lt key (first_key l.call))
  where
    saw : (b : Bool) → (let o : Outcome = if b then to (Activity.Read Read.Link) (behind_cell cell l) else to (Activity.Read Read.Link) l in o).local.pairs ≡ l.pairs
    saw true = refl
    saw false = refl

-- a cell with which the row was built is one as far as the seat knows
knows_built : {s : Shared} {p : Pass} {a : Activity} {l : Local} {w : Cursor} {built first : ℕ} (cell : ℕ) → cell < built → BeginsAt s p a l w built first → cell < l.built
knows_built cell inside b = omega (arith, inside, b.counted)

-- the number of a row of the table is so for the pass too
in_rows : {s : Shared} {p : Pass} {a : Activity} {l : Local} {w : Cursor} {built first : ℕ} (cell : ℕ) → cell < s.opening.rows → BeginsAt s p a l w built first → cell < (view p).opening.rows
in_rows cell below b = subst (λ n. cell < n) (ap (λ (q : Opening). q.rows) (sym b.follows.of_table.1)) below

module _ {s : Shared} {p q : Pass} {l : Local} {w : Cursor} {built first told : ℕ} (cell : ℕ) (inside : cell < built) (below : cell < s.opening.rows) where
  -- a reader
  pub list_begins : (b : Bool) → BeginsAt s p (Activity.Read Read.Start) l w built first → Makes s p (Guess cell) told q → nat_lt (key_of_word told) first ≡ b → BeginsList s p l w q (cursor_after b cell w)
  list_begins b at makes test = record {
    activity = Activity.Read Read.Link;
    loads = tt;
    goes = goes_by s p q (Guess cell) told makes;
    follows = choice_follows s p q here (with_cursor (Activity.Read Read.Link) (cursor_after b cell w) l) (Guess cell) told (Activity.Read Read.Start) at.follows makes refl (record { carries = carries; number = refl; pairs = refl });
    calls = keeps makes (taking_stays _ (subst IsTaking (sym (same_activity s p here at.follows)) tt));
    held =
        ap (λ (x : Local). x.pairs) (seat_chooses s p q (Guess cell) told makes)
        ∙ (ap (λ (o : Outcome). o.local.pairs) (sym (next_chosen rows (offered rows (Guess cell)) (Activity.Read Read.Start) (local_in (view p)) told (same_activity s p here at.follows)))
        ∙ (ap (λ g. (list_started product (local_in (view p)) g told).local.pairs) (guess_is rows cell (local_in (view p)) (in_rows cell below at) (subst (λ (x : Local). cell < x.built) at.follows.carries (knows_built cell inside at)))
        ∙ guessed_pairs cell (key_of_word told) (local_in (view p))));
    walked = after_walked b cell w;
  }
    where
      here : Local
      here = with_cursor (Activity.Read Read.Start) w l

      rows : ℕ
      rows = (view p).opening.rows

      -- the test, as the seat makes it
      tests : nat_lt (key_of_word told) (first_key l.call) ≡ b
      tests = ap (λ n. nat_lt (key_of_word told) n) (sym at.least) ∙ test

      guessed : (b : Bool) (begun : ℕ) (added : List (ℕ × ℕ)) → nat_lt (key_of_word told) (first_key l.call) ≡ b → carried (with_cursor (Activity.Read Read.Link) (cursor_after b cell w) l) ≡ carried (list_guessed cell (key_of_word told) (record here { number = begun; pairs = added })).local
      guessed true begun added e = ap (λ (c : Bool). let o : Outcome = if c then to (Activity.Read Read.Link) (behind_cell cell (record here { number = begun; pairs = added })) else to (Activity.Read Read.Link) (record here { number = begun; pairs = added }) in carried o.local) (sym e)
      guessed false begun added e = ap (λ (c : Bool). let o : Outcome = if c then to (Activity.Read Read.Link) (behind_cell cell (record here { number = begun; pairs = added })) else to (Activity.Read Read.Link) (record here { number = begun; pairs = added }) in carried o.local) (sym e)

      carries : (begun : ℕ) (added : List (ℕ × ℕ)) → carried (with_cursor (Activity.Read Read.Link) (cursor_after b cell w) l) ≡ carried (list_started product (record here { number = begun; pairs = added }) (cell_guess (offered rows (Guess cell)) (record here { number = begun; pairs = added })) told).local
      carries begun added = guessed b begun added tests ∙ ap (λ g. carried (list_started product (record here { number = begun; pairs = added }) g told).local) (sym (guess_is rows cell (record here { number = begun; pairs = added }) (in_rows cell below at) (knows_built cell inside at)))

  -- a put
  pub insert_begins : (b : Bool) → BeginsAt s p (Activity.Insert Insert.Start) l w built first → Makes s p (Guess cell) told q → nat_lt (key_of_word told) first ≡ b → BeginsInsert s p l w q (cursor_after b cell w)
  insert_begins b at makes test = record {
    activity = Activity.Insert Insert.Link;
    loads = tt;
    goes = on.goes;
    follows = on.follows;
    calls = on.calls;
    held = went_held goes tt refl;
    walked = after_walked b cell w;
  }
    where
      here : Local
      here = with_cursor (Activity.Insert Insert.Start) w l

      there : Local
      there = with_cursor (Activity.Insert Insert.Link) (cursor_after b cell w) l

      tests : nat_lt (key_of_word told) (first_key l.call) ≡ b
      tests = ap (λ n. nat_lt (key_of_word told) n) (sym at.least) ∙ test

      guessed : (b : Bool) → nat_lt (key_of_word told) (first_key l.call) ≡ b → outcome (with_cursor (Activity.Insert Insert.Link) (cursor_after b cell w) l) Moved ≡ insert_guessed cell (key_of_word told) here
      guessed true e = ap (λ (c : Bool). let o : Outcome = if c then to (Activity.Insert Insert.Link) (behind_cell cell here) else to (Activity.Insert Insert.Link) here in o) (sym e)
      guessed false e = ap (λ (c : Bool). let o : Outcome = if c then to (Activity.Insert Insert.Link) (behind_cell cell here) else to (Activity.Insert Insert.Link) here in o) (sym e)

      goes : Went s p q (Guess cell) here there Moved told
      goes = went s p q (Guess cell) here there Moved told s.opening.rows (offered s.opening.rows (Guess cell)) at.follows makes refl refl
          (guessed b tests
          ∙ (ap (λ g. insert_started product here g told) (sym (guess_is s.opening.rows cell here below (knows_built cell inside at)))
          ∙ next_chosen s.opening.rows (offered s.opening.rows (Guess cell)) (Activity.Insert Insert.Start) here told refl))

      on : Reaches s p q there
      on = reaches_by goes tt

-- A put that is about to begin its walk, or has begun it.

-- it has reached as many cells, whichever cursor its local has
insert_from_own : {s : Shared} {p q : Pass} {l : Local} {v w x : Cursor} → with_cursor l.activity v l ≡ l → with_cursor l.activity w l ≡ l → BeginsInsert s p l v q x → BeginsInsert s p l w q x
insert_from_own own other b = record { activity = b.activity; loads = b.loads; goes = b.goes; follows = b.follows; calls = b.calls; held = b.held; walked = b.walked ∙ ap (λ (k : Local). k.walked) own ∙ sym (ap (λ (k : Local). k.walked) other) }

-- it begins
pub own_begins : {s : Shared} {p q : Pass} {l : Local} {v w x : Cursor} → with_cursor l.activity v l ≡ l → BeginsInsert s p l v q x → with_cursor l.activity w l ≡ l → BeginsInsert s p l w q x
own_begins own b other = insert_from_own own other b

-- or is at a link
pub own_begun : {s : Shared} {p : Pass} {l : Local} {v w : Cursor} → Follows s p l → IsAtInsertLink l.activity → with_cursor l.activity v l ≡ l → with_cursor l.activity w l ≡ l → BeginsInsert s p l w p v
own_begun {s} {p} {l} {v} {w} f at own other = insert_from_own own other (record { activity = l.activity; loads = at; goes = (reaches_none f).goes; follows = subst (Follows s p) (sym own) f; calls = refl; held = refl; walked = refl })

-- where the test holds, it begins
pub start_is : (a : Activity) → is_insert_start a ≡ true → a ≡ Activity.Insert Insert.Start
start_is (Activity.Insert Insert.Start) e = refl
start_is (Activity.Insert Insert.Link) e = let x : false ≡ true = e in absurd (cc)
start_is (Activity.Insert Insert.Key) e = let x : false ≡ true = e in absurd (cc)
start_is (Activity.Insert Insert.Version) e = let x : false ≡ true = e in absurd (cc)
start_is (Activity.Insert Insert.Set) e = let x : false ≡ true = e in absurd (cc)
start_is (Activity.Insert Insert.Exchange) e = let x : false ≡ true = e in absurd (cc)
start_is _ e = let x : false ≡ true = e in absurd (cc)
