-- What every line of the table keeps to: its word is one of the table, its action can happen, and a
-- store tells nothing.
use Rattle.std.proofs.Common.{ℕ, ◌≡◌, ◌+◌, ◌<◌, ◌≤◌, ◌^◌, Option, Some, None, Bool, true, false, nat_lt, if◌then◌else◌, arith, refl, sym, subst, ap, length, slice_get, zero, suc, List, [], ◌∷◌, All, slice_index}
use Rattle.std.proofs.lemmas.Bool.Decides.{nat_tests}
use Rattle.std.proofs.lemmas.List.Elements.{All-head, All-tail}
use Rattle.kw_words.specs.declared.count.Count.{Count as Counted}
use Rattle.kw_words.specs.Layout.{IsWithin}
use Rattle.kw_words.specs.Count.{count_of}
use Rattle.kw_world.specs.declared.activity.Activity.{Activity}
use Rattle.kw_world.specs.declared.activity.draw.Draw.TheVariants as Draw
use Rattle.kw_world.specs.declared.activity.rebalance.claim.Claim.TheVariants as Claim
use Rattle.kw_world.specs.declared.activity.rebalance.engage.Engage.TheVariants as Engage
use Rattle.kw_world.specs.declared.activity.enter.Enter.TheVariants as Enter
use Rattle.kw_world.specs.declared.activity.rebalance.freeze.Freeze.TheVariants as Freeze
use Rattle.kw_world.specs.declared.activity.rebalance.gather.Gather.TheVariants as Gather
use Rattle.kw_world.specs.declared.activity.rebalance.left.Left.TheVariants as Left
use Rattle.kw_world.specs.declared.activity.insert.Insert.TheVariants as Insert
use Rattle.kw_world.specs.declared.activity.look.Look.TheVariants as Look
use Rattle.kw_world.specs.declared.activity.put.Put.TheVariants as Put
use Rattle.kw_world.specs.declared.activity.read.Read.TheVariants as Read
use Rattle.kw_world.specs.declared.activity.rebalance.Rebalance.TheVariants as Rebalance
use Rattle.kw_world.specs.declared.activity.rebalance.replace.Replace.TheVariants as Replace
use Rattle.kw_world.specs.declared.activity.rebalance.seek.Seek.TheVariants as Seek
use Rattle.kw_world.specs.declared.activity.walk.Walk.TheVariants as Walk
use Rattle.kw_world.specs.declared.activity.rebalance.write.Write.TheVariants as Write
use Rattle.kw_world.specs.declared.local.Local.{Local}
use Rattle.kw_world.specs.declared.event.Event.{Event}
use Rattle.kw_world.specs.declared.event.Choice.{Choice}
use Rattle.kw_world.specs.declared.event.Choice.TheVariants.{Begin, Go, Guess, Stop}
use Rattle.kw_world.specs.Sizes.{Sizes}
use Rattle.kw_world.specs.WorldView.{WorldView}
use Rattle.kw_world.specs.Operation.{CanHappen}
use Rattle.kw_world.specs.declared.operation.Action.TheVariants.{Load}
use Rattle.kw_world.specs.WalkTransitions.{offered, start_transition, walk_transition, is_stopped}
use Rattle.kw_world.specs.Parts.{part_of, part_at}
use Rattle.kw_world.specs.SeekTransitions.{seek_first_transition}
use Rattle.kw_world.specs.LeftTransitions.{left_transition}
use Rattle.kw_world.specs.ReplaceTransitions.{before_transition, replaced_link}
use Rattle.kw_world.specs.Table.{transition}
use Rattle.kw_world.specs.Transition.{Outcome, row_or_first}
use Rattle.kw_world.specs.Step.{word, transition_of, transition_at, next_of}
use Rattle.kw_world.specs.ListTransitions.{link_name, cell_guess, first_operation}
use Rattle.kw_world.specs.Sane.{IsLocal, IsLocalBelow, IsCellBelow, IsRowBelow, IsActivity, IsWord, IsGiven, IsSane, IsOffered, IsStore}

-- a guess that is offered is at a row of the table
pub offered_below : (rows : ℕ) (choice : Choice) → IsOffered rows (offered rows choice)
offered_below rows (Begin call) = tt
offered_below rows Go = tt
offered_below rows (Guess r) = saw (nat_lt r rows) refl
  where
    saw : (b : Bool) → nat_lt r rows ≡ b → IsOffered rows (if b then Guess r else Go)
    saw true e = grind (arith, nat_tests)
    saw false e = tt
offered_below rows Stop = tt

-- which part an event is of does not depend on whether a guess is offered
pub part-offered : (rows : ℕ) (choice : Choice) (l : Local) → part_of (offered rows choice) l ≡ part_of choice l
part-offered rows (Begin call) l = refl
part-offered rows Go l = refl
part-offered rows (Guess r) l = saw (nat_lt r rows)
  where
    saw : (b : Bool) → part_of (if b then Guess r else Go) l ≡ part_of (Guess r) l
    saw true = refl
    saw false = elsewhere l.activity
      where
        elsewhere : (a : Activity) → part_at a Go l ≡ part_at a (Guess r) l
        elsewhere (Activity.Walk Walk.Next) = refl
        elsewhere (Activity.Enter Enter.Announce) = refl
        elsewhere _ = refl
part-offered rows Stop l = refl

-- a link of a row's list is one of the table
pub link_within : (z : Sizes) (rows r : ℕ) (link : Option ℕ) → IsCellBelow z.cells link → r < rows → IsWithin z.seats z.cells rows (link_name r link)
link_within z rows r (Some cell) h b = (b, h)
link_within z rows r None h b = b

-- a guessed cell is one with which the row was built
pub guessed_below : (choice : Choice) (l : Local) (cell : ℕ) → cell_guess choice l ≡ Some cell → cell < l.built
guessed_below (Begin call) l cell e = let x : None ≡ Some cell = e in absurd (cc)
guessed_below Go l cell e = let x : None ≡ Some cell = e in absurd (cc)
guessed_below (Guess c) l cell e = saw (nat_lt c l.built) refl e
  where
    saw : (b : Bool) → nat_lt c l.built ≡ b → (let x : Option ℕ = if b then Some c else None in x) ≡ Some cell → cell < l.built
    saw true t f = let x : Some c ≡ Some cell = f in let same : c ≡ cell = cc in grind (arith, nat_tests)
    saw false t f = let x : None ≡ Some cell = f in absurd (cc)
guessed_below Stop l cell e = let x : None ≡ Some cell = e in absurd (cc)

-- the word with which a walk along a row's list begins is one of the table, and it is loaded
first_within : (z : Sizes) (rows : ℕ) (guess : Option ℕ) (l : Local) → IsCellBelow z.cells guess → IsLocal z l → l.row < rows → IsWithin z.seats z.cells rows (first_operation guess l).name
first_within z rows (Some cell) l o i b = (b, o)
first_within z rows None l o i b = link_within z rows l.row l.link i.link b

pub first_loads : (guess : Option ℕ) (l : Local) → (first_operation guess l).action ≡ Load
first_loads (Some cell) l = refl
first_loads None l = refl

-- a guessed cell is one of the row's
pub guess_below : (z : Sizes) (choice : Choice) (l : Local) → l.built ≤ z.cells → IsCellBelow z.cells (cell_guess choice l)
guess_below z choice l o = saw (cell_guess choice l) refl
  where
    saw : (g : Option ℕ) → cell_guess choice l ≡ g → IsCellBelow z.cells g
    saw (Some cell) e = omega (arith, o, guessed_below choice l cell e)
    saw None e = tt

-- a seat's row is one of the table's, so that there is one
first_row : (rows : ℕ) (l : Local) → IsLocalBelow rows l → 0 < rows
first_row rows l b = omega (arith, b.row)

-- a row that is one of the table's, if there is one, and else the first one
pub row_within : (rows : ℕ) (r : Option ℕ) → 0 < rows → IsRowBelow rows r → row_or_first r < rows
row_within rows (Some r) some h = h
row_within rows None some h = some

-- so is an element of a list of such rows, and row 0 where the list has none there
pub taken_within : (rows : ℕ) (taken : List ℕ) (i : ℕ) → 0 < rows → All (λ r. r < rows) taken → slice_index taken i < rows
taken_within rows [] i some h = some
taken_within rows (r ∷ taken) zero some h = All-head (λ q. q < rows) r taken h
taken_within rows (r ∷ taken) (suc i) some h = taken_within rows taken i some (All-tail (λ q. q < rows) r taken h)

-- the link that leads to a full row is one of the table
replaced_within : (z : Sizes) (rows : ℕ) (r : Option ℕ) → IsRowBelow rows r → IsWithin z.seats z.cells rows (replaced_link r)
replaced_within z rows (Some r) h = h
replaced_within z rows None h = tt

-- the word of a line is one of the table
pub within : (z : Sizes) (a : Activity) (rows s : ℕ) (choice : Choice) (l : Local) → IsLocal z l → IsLocalBelow rows l → s < z.seats → IsActivity z a → IsOffered rows choice → IsWithin z.seats z.cells rows (transition z a s choice l).operation.name
within z Activity.Idle rows s choice l i b t o g = tt
within z (Activity.Enter Enter.Announce) rows s choice l i b t o g = t
within z (Activity.Draw Draw.Clock) rows s choice l i b t o g = tt
within z (Activity.Draw Draw.Wait) rows s choice l i b t o g = t
within z (Activity.Draw Draw.Version) rows s choice l i b t o g = tt
within z (Activity.Draw Draw.Settle) rows s choice l i b t o g = t
within z (Activity.Draw Draw.Pin) rows s choice l i b t o g = t
within z (Activity.Walk Walk.Start) rows s choice l i b t o g = starts choice g
  where
    starts : (c : Choice) → IsOffered rows c → IsWithin z.seats z.cells rows (start_transition c l).operation.name
    starts (Begin call) h = tt
    starts Go h = tt
    starts (Guess r) h = h
    starts Stop h = tt
within z (Activity.Walk Walk.First) rows s choice l i b t o g = tt
within z (Activity.Walk Walk.GuessedLeast) rows s choice l i b t o g = b.row
within z (Activity.Walk Walk.Next) rows s choice l i b t o g = walks (is_stopped choice l)
  where
    walks : (c : Bool) → IsWithin z.seats z.cells rows (walk_transition c s l).operation.name
    walks true = t
    walks false = b.row
within z (Activity.Walk Walk.NextLeast) rows s choice l i b t o g = b.candidate
within z (Activity.Look (Look.Entry k)) rows s choice l i b t o g = (b.row, o)
within z (Activity.Look Look.Key) rows s choice l i b t o g = (b.row, i.saw)
within z (Activity.Look Look.Clock) rows s choice l i b t o g = tt
within z (Activity.Look Look.Help) rows s choice l i b t o g = (b.row, i.looked)
within z (Activity.Read Read.Start) rows s choice l i b t o g = first_within z rows (cell_guess choice l) l (guess_below z choice l i.built) i b.row
within z (Activity.Read Read.Link) rows s choice l i b t o g = link_within z rows l.row l.link i.link b.row
within z (Activity.Read _) rows s choice l i b t o g = (b.row, i.place)
within z (Activity.EndScan answer) rows s choice l i b t o g = t
within z Activity.ClearPin rows s choice l i b t o g = t
within z (Activity.Put Put.Count) rows s choice l i b t o g = b.row
within z (Activity.Put Put.Add) rows s choice l i b t o g = b.row
within z (Activity.Put Put.Announce) rows s choice l i b t o g = (b.row, t)
within z (Activity.Put Put.Clock) rows s choice l i b t o g = tt
within z (Activity.Put Put.Stamp) rows s choice l i b t o g = (b.row, t)
within z (Activity.Insert Insert.Start) rows s choice l i b t o g = first_within z rows (cell_guess choice l) l (guess_below z choice l i.built) i b.row
within z (Activity.Insert Insert.Link) rows s choice l i b t o g = link_within z rows l.row l.link i.link b.row
within z (Activity.Insert Insert.Key) rows s choice l i b t o g = (b.row, i.place)
within z (Activity.Insert Insert.Version) rows s choice l i b t o g = (b.row, i.place)
within z (Activity.Insert Insert.Set) rows s choice l i b t o g = (b.row, i.cell)
within z (Activity.Insert Insert.Exchange) rows s choice l i b t o g = link_within z rows l.row l.link i.link b.row
within z (Activity.Put Put.Clear) rows s choice l i b t o g = (b.row, t)
within z (Activity.Put _) rows s choice l i b t o g = (b.row, i.cell)
within z (Activity.Leave answer) rows s choice l i b t o g = t
within z Activity.Retry rows s choice l i b t o g = t
within z (Activity.Enter Enter.LoadEpoch) rows s choice l i b t o g = tt
within z (Activity.Rebalance (Rebalance.Engage Engage.Clock)) rows s choice l i b t o g = tt
within z (Activity.Rebalance (Rebalance.Engage Engage.Epoch)) rows s choice l i b t o g = tt
within z (Activity.Rebalance (Rebalance.Engage _)) rows s choice l i b t o g = b.row
within z (Activity.Rebalance (Rebalance.Claim Claim.Count)) rows s choice l i b t o g = row_within rows l.rebalance.after (first_row rows l b) b.rebalance.after
within z (Activity.Rebalance (Rebalance.Claim _)) rows s choice l i b t o g = row_within rows l.rebalance.after (first_row rows l b) b.rebalance.after
within z (Activity.Rebalance (Rebalance.Left Left.Start)) rows s choice l i b t o g = begins choice
  where
    begins : (c : Choice) → IsWithin z.seats z.cells rows (left_transition c l).operation.name
    begins (Begin call) = tt
    begins Go = tt
    begins (Guess r) = row_within rows l.rebalance.before (first_row rows l b) b.rebalance.before
    begins Stop = tt
within z (Activity.Rebalance (Rebalance.Left Left.Next)) rows s choice l i b t o g = row_within rows l.rebalance.before (first_row rows l b) b.rebalance.before
within z (Activity.Rebalance (Rebalance.Left Left.NextLeast)) rows s choice l i b t o g = b.candidate
within z (Activity.Rebalance (Rebalance.Freeze Freeze.Count)) rows s choice l i b t o g = b.rebalance.hand
within z (Activity.Rebalance (Rebalance.Freeze (Freeze.Look k))) rows s choice l i b t o g = (b.rebalance.hand, o)
within z (Activity.Rebalance (Rebalance.Freeze (Freeze.Entry k))) rows s choice l i b t o g = (b.rebalance.hand, o)
within z (Activity.Rebalance (Rebalance.Freeze (Freeze.Scan k))) rows s choice l i b t o g = o
within z (Activity.Rebalance (Rebalance.Freeze (Freeze.Draw k))) rows s choice l i b t o g = tt
within z (Activity.Rebalance (Rebalance.Freeze (Freeze.Settle k))) rows s choice l i b t o g = o
within z (Activity.Rebalance (Rebalance.Freeze (Freeze.Pin k))) rows s choice l i b t o g = o
within z (Activity.Rebalance (Rebalance.Gather Gather.Link)) rows s choice l i b t o g = link_within z rows l.rebalance.hand l.link i.link b.rebalance.hand
within z (Activity.Rebalance (Rebalance.Gather _)) rows s choice l i b t o g = (b.rebalance.hand, i.place)
within z (Activity.Rebalance (Rebalance.Seek Seek.First)) rows s choice l i b t o g = seeks choice g
  where
    seeks : (c : Choice) → IsOffered rows c → IsWithin z.seats z.cells rows (seek_first_transition c l).operation.name
    seeks (Begin call) h = b.rebalance.sought
    seeks Go h = b.rebalance.sought
    seeks (Guess r) h = h
    seeks Stop h = b.rebalance.sought
within z (Activity.Rebalance (Rebalance.Seek Seek.Next)) rows s choice l i b t o g = b.rebalance.sought
within z (Activity.Rebalance (Rebalance.Seek (Seek.Pass k))) rows s choice l i b t o g = o
within z (Activity.Rebalance (Rebalance.Seek Seek.Reclaim)) rows s choice l i b t o g = b.rebalance.sought
within z (Activity.Rebalance (Rebalance.Seek Seek.Take)) rows s choice l i b t o g = b.rebalance.sought
within z (Activity.Rebalance (Rebalance.Seek Seek.GiveBack)) rows s choice l i b t o g = taken_within rows l.rebalance.taken l.rebalance.at (first_row rows l b) b.rebalance.taken
within z (Activity.Rebalance (Rebalance.Write Write.Count)) rows s choice l i b t o g = taken_within rows l.rebalance.taken l.rebalance.at (first_row rows l b) b.rebalance.taken
within z (Activity.Rebalance (Rebalance.Write Write.Least)) rows s choice l i b t o g = taken_within rows l.rebalance.taken l.rebalance.at (first_row rows l b) b.rebalance.taken
within z (Activity.Rebalance (Rebalance.Write Write.Next)) rows s choice l i b t o g = taken_within rows l.rebalance.taken l.rebalance.at (first_row rows l b) b.rebalance.taken
within z (Activity.Rebalance (Rebalance.Write Write.First)) rows s choice l i b t o g = taken_within rows l.rebalance.taken l.rebalance.at (first_row rows l b) b.rebalance.taken
within z (Activity.Rebalance (Rebalance.Write _)) rows s choice l i b t o g = (taken_within rows l.rebalance.taken l.rebalance.at (first_row rows l b) b.rebalance.taken, o)
within z (Activity.Rebalance (Rebalance.Replace Replace.Start)) rows s choice l i b t o g = begins choice g
  where
    begins : (c : Choice) → IsOffered rows c → IsWithin z.seats z.cells rows (before_transition c l).operation.name
    begins (Begin call) h = tt
    begins Go h = tt
    begins (Guess r) h = h
    begins Stop h = tt
within z (Activity.Rebalance (Rebalance.Replace Replace.GuessedLeast)) rows s choice l i b t o g = row_within rows l.rebalance.before (first_row rows l b) b.rebalance.before
within z (Activity.Rebalance (Rebalance.Replace Replace.First)) rows s choice l i b t o g = tt
within z (Activity.Rebalance (Rebalance.Replace Replace.Next)) rows s choice l i b t o g = row_within rows l.rebalance.before (first_row rows l b) b.rebalance.before
within z (Activity.Rebalance (Rebalance.Replace Replace.NextLeast)) rows s choice l i b t o g = b.candidate
within z (Activity.Rebalance (Rebalance.Replace Replace.Exchange)) rows s choice l i b t o g = replaced_within z rows l.rebalance.before b.rebalance.before
within z (Activity.Rebalance (Rebalance.Replace Replace.Normalise)) rows s choice l i b t o g = taken_within rows l.rebalance.taken l.rebalance.at (first_row rows l b) b.rebalance.taken
within z (Activity.Rebalance (Rebalance.Replace Replace.Number)) rows s choice l i b t o g = tt
within z (Activity.Rebalance (Rebalance.Replace Replace.Retire)) rows s choice l i b t o g = b.rebalance.hand

-- a count in range lets one more be added
added : (w : ℕ) (c : Option Counted) → count_of w ≡ c → IsGiven c → w + 1 < 2 ^ 64
unfolding count_of
added w (Some c) e h = grind (arith, nat_tests)
added w None e h = absurd h

-- the action of a line can happen where the word is in range
pub can_happen : (z : Sizes) (a : Activity) (s : ℕ) (choice : Choice) (l : Local) (w : ℕ) → IsWord z (transition z a s choice l).operation.name w → CanHappen (transition z a s choice l).operation.action w
can_happen z (Activity.Draw Draw.Version) s choice l w o = omega (arith, o.1)
can_happen z (Activity.Put Put.Add) s choice l w o = added w (count_of w) refl o
can_happen z (Activity.Rebalance (Rebalance.Freeze (Freeze.Draw i))) s choice l w o = omega (arith, o.1)
can_happen z (Activity.Rebalance (Rebalance.Replace Replace.Number)) s choice l w o = omega (arith, o.1)
can_happen z (Activity.Rebalance (Rebalance.Seek Seek.First)) s choice l w o = seeks choice
  where
    seeks : (c : Choice) → CanHappen (seek_first_transition c l).operation.action w
    seeks (Begin call) = tt
    seeks Go = tt
    seeks (Guess r) = tt
    seeks Stop = tt
can_happen z (Activity.Rebalance (Rebalance.Replace Replace.Start)) s choice l w o = begins choice
  where
    begins : (c : Choice) → CanHappen (before_transition c l).operation.action w
    begins (Begin call) = tt
    begins Go = tt
    begins (Guess r) = tt
    begins Stop = tt
can_happen z (Activity.Rebalance (Rebalance.Left Left.Start)) s choice l w o = begins choice
  where
    begins : (c : Choice) → CanHappen (left_transition c l).operation.action w
    begins (Begin call) = tt
    begins Go = tt
    begins (Guess r) = tt
    begins Stop = tt
can_happen z (Activity.Rebalance (Rebalance.Claim Claim.Count)) s choice l w o = tt
can_happen z (Activity.Walk Walk.Start) s choice l w o = starts choice
  where
    starts : (c : Choice) → CanHappen (start_transition c l).operation.action w
    starts (Begin call) = tt
    starts Go = tt
    starts (Guess r) = tt
    starts Stop = tt
can_happen z (Activity.Walk Walk.Next) s choice l w o = walks (is_stopped choice l)
  where
    walks : (c : Bool) → CanHappen (walk_transition c s l).operation.action w
    walks true = tt
    walks false = tt
can_happen z (Activity.Read Read.Start) s choice l w o = subst (λ x. CanHappen x w) (sym (first_loads (cell_guess choice l) l)) tt
can_happen z (Activity.Insert Insert.Start) s choice l w o = subst (λ x. CanHappen x w) (sym (first_loads (cell_guess choice l) l)) tt
can_happen z (Activity.Enter Enter.Announce) s choice l w o = tt
can_happen z (Activity.Look Look.Key) s choice l w o = tt
can_happen z (Activity.Read Read.Link) s choice l w o = tt
can_happen z (Activity.Insert Insert.Link) s choice l w o = tt
can_happen z (Activity.Rebalance (Rebalance.Engage Engage.Clock)) s choice l w o = tt
can_happen z (Activity.Rebalance (Rebalance.Gather Gather.Link)) s choice l w o = tt
can_happen z (Activity.Rebalance (Rebalance.Write Write.Count)) s choice l w o = tt
can_happen z _ s choice l w o = tt

-- what follows from an event does not depend on the number of the seat
pub next_of-seat : (z : Sizes) (a : Activity) (s t : ℕ) (choice : Choice) (l : Local) → (transition z a s choice l).next ≡ (transition z a t choice l).next
next_of-seat z (Activity.Walk Walk.Next) s t choice l = walks (is_stopped choice l)
  where
    walks : (c : Bool) → (walk_transition c s l).next ≡ (walk_transition c t l).next
    walks true = refl
    walks false = refl
next_of-seat z (Activity.Enter Enter.Announce) s t choice l = refl
next_of-seat z (Activity.Draw Draw.Clock) s t choice l = refl
next_of-seat z (Activity.Look Look.Key) s t choice l = refl
next_of-seat z (Activity.Read Read.Link) s t choice l = refl
next_of-seat z (Activity.Put Put.Count) s t choice l = refl
next_of-seat z (Activity.Insert Insert.Link) s t choice l = refl
next_of-seat z (Activity.Rebalance (Rebalance.Engage Engage.Clock)) s t choice l = refl
next_of-seat z (Activity.Rebalance (Rebalance.Claim Claim.Count)) s t choice l = refl
next_of-seat z (Activity.Rebalance (Rebalance.Left Left.Start)) s t choice l = refl
next_of-seat z (Activity.Rebalance (Rebalance.Freeze Freeze.Count)) s t choice l = refl
next_of-seat z (Activity.Rebalance (Rebalance.Gather Gather.Link)) s t choice l = refl
next_of-seat z (Activity.Rebalance (Rebalance.Seek Seek.Next)) s t choice l = refl
next_of-seat z (Activity.Rebalance (Rebalance.Write Write.Count)) s t choice l = refl
next_of-seat z (Activity.Rebalance (Rebalance.Replace Replace.First)) s t choice l = refl
next_of-seat z _ s t choice l = refl

-- what follows from a store does not depend on the word that it overwrote
pub store_blind : (z : Sizes) (a : Activity) (s : ℕ) (choice : Choice) (l : Local) (v w : ℕ) → IsStore (transition z a s choice l).operation.action → (rows : ℕ) → (transition z a s choice l).next rows v ≡ (transition z a s choice l).next rows w
store_blind z Activity.Idle s choice l v w h rows = absurd h
store_blind z (Activity.Enter Enter.Announce) s choice l v w h rows = refl
store_blind z (Activity.Draw Draw.Wait) s choice l v w h rows = refl
store_blind z (Activity.Draw Draw.Pin) s choice l v w h rows = refl
store_blind z (Activity.Draw _) s choice l v w h rows = absurd h
store_blind z (Activity.Walk Walk.Start) s choice l v w h rows = absurd (starts choice h)
  where
    starts : (c : Choice) → IsStore (start_transition c l).operation.action → ⊥
    starts (Begin call) h = h
    starts Go h = h
    starts (Guess r) h = h
    starts Stop h = h
store_blind z (Activity.Walk Walk.First) s choice l v w h rows = absurd h
store_blind z (Activity.Walk Walk.GuessedLeast) s choice l v w h rows = absurd h
store_blind z (Activity.Walk Walk.Next) s choice l v w h rows = walks (is_stopped choice l) h
  where
    walks : (c : Bool) → IsStore (walk_transition c s l).operation.action → (walk_transition c s l).next rows v ≡ (walk_transition c s l).next rows w
    walks true h = refl
    walks false h = absurd h
store_blind z (Activity.Walk Walk.NextLeast) s choice l v w h rows = absurd h
store_blind z (Activity.Look Look.Key) s choice l v w h rows = absurd h
store_blind z (Activity.Look _) s choice l v w h rows = absurd h
store_blind z (Activity.Read Read.Start) s choice l v w h rows = absurd (subst IsStore (first_loads (cell_guess choice l) l) h)
store_blind z (Activity.Read Read.Link) s choice l v w h rows = absurd h
store_blind z (Activity.Read _) s choice l v w h rows = absurd h
store_blind z (Activity.EndScan answer) s choice l v w h rows = refl
store_blind z Activity.ClearPin s choice l v w h rows = refl
store_blind z (Activity.Put Put.Key) s choice l v w h rows = refl
store_blind z (Activity.Put Put.Value) s choice l v w h rows = refl
store_blind z (Activity.Put Put.Version) s choice l v w h rows = refl
store_blind z (Activity.Insert Insert.Start) s choice l v w h rows = absurd (subst IsStore (first_loads (cell_guess choice l) l) h)
store_blind z (Activity.Insert Insert.Set) s choice l v w h rows = refl
store_blind z (Activity.Insert _) s choice l v w h rows = absurd h
store_blind z (Activity.Put Put.Clear) s choice l v w h rows = refl
store_blind z (Activity.Put _) s choice l v w h rows = absurd h
store_blind z (Activity.Leave answer) s choice l v w h rows = refl
store_blind z Activity.Retry s choice l v w h rows = refl
store_blind z (Activity.Enter Enter.LoadEpoch) s choice l v w h rows = absurd h
store_blind z (Activity.Rebalance (Rebalance.Engage Engage.Clock)) s choice l v w h rows = absurd h
store_blind z (Activity.Rebalance (Rebalance.Engage _)) s choice l v w h rows = absurd h
store_blind z (Activity.Rebalance (Rebalance.Claim Claim.Count)) s choice l v w h rows = absurd h
store_blind z (Activity.Rebalance (Rebalance.Claim _)) s choice l v w h rows = absurd h
store_blind z (Activity.Rebalance (Rebalance.Left Left.Start)) s choice l v w h rows = absurd (begins choice h)
  where
    begins : (c : Choice) → IsStore (left_transition c l).operation.action → ⊥
    begins (Begin call) h = h
    begins Go h = h
    begins (Guess r) h = h
    begins Stop h = h
store_blind z (Activity.Rebalance (Rebalance.Left Left.Next)) s choice l v w h rows = absurd h
store_blind z (Activity.Rebalance (Rebalance.Left Left.NextLeast)) s choice l v w h rows = absurd h
store_blind z (Activity.Rebalance (Rebalance.Freeze Freeze.Count)) s choice l v w h rows = absurd h
store_blind z (Activity.Rebalance (Rebalance.Freeze _)) s choice l v w h rows = absurd h
store_blind z (Activity.Rebalance (Rebalance.Gather Gather.Link)) s choice l v w h rows = absurd h
store_blind z (Activity.Rebalance (Rebalance.Gather _)) s choice l v w h rows = absurd h
store_blind z (Activity.Rebalance (Rebalance.Seek Seek.First)) s choice l v w h rows = absurd (seeks choice h)
  where
    seeks : (c : Choice) → IsStore (seek_first_transition c l).operation.action → ⊥
    seeks (Begin call) h = h
    seeks Go h = h
    seeks (Guess r) h = h
    seeks Stop h = h
store_blind z (Activity.Rebalance (Rebalance.Seek Seek.Next)) s choice l v w h rows = absurd h
store_blind z (Activity.Rebalance (Rebalance.Seek (Seek.Pass k))) s choice l v w h rows = absurd h
store_blind z (Activity.Rebalance (Rebalance.Seek Seek.Reclaim)) s choice l v w h rows = absurd h
store_blind z (Activity.Rebalance (Rebalance.Seek Seek.Take)) s choice l v w h rows = absurd h
store_blind z (Activity.Rebalance (Rebalance.Seek Seek.GiveBack)) s choice l v w h rows = refl
store_blind z (Activity.Rebalance (Rebalance.Write Write.Count)) s choice l v w h rows = refl
store_blind z (Activity.Rebalance (Rebalance.Write _)) s choice l v w h rows = refl
store_blind z (Activity.Rebalance (Rebalance.Replace Replace.Start)) s choice l v w h rows = absurd (begins choice h)
  where
    begins : (c : Choice) → IsStore (before_transition c l).operation.action → ⊥
    begins (Begin call) h = h
    begins Go h = h
    begins (Guess r) h = h
    begins Stop h = h
store_blind z (Activity.Rebalance (Rebalance.Replace Replace.GuessedLeast)) s choice l v w h rows = absurd h
store_blind z (Activity.Rebalance (Rebalance.Replace Replace.First)) s choice l v w h rows = absurd h
store_blind z (Activity.Rebalance (Rebalance.Replace Replace.Next)) s choice l v w h rows = absurd h
store_blind z (Activity.Rebalance (Rebalance.Replace Replace.NextLeast)) s choice l v w h rows = absurd h
store_blind z (Activity.Rebalance (Rebalance.Replace Replace.Exchange)) s choice l v w h rows = absurd h
store_blind z (Activity.Rebalance (Rebalance.Replace Replace.Normalise)) s choice l v w h rows = absurd h
store_blind z (Activity.Rebalance (Rebalance.Replace Replace.Number)) s choice l v w h rows = absurd h
store_blind z (Activity.Rebalance (Rebalance.Replace Replace.Retire)) s choice l v w h rows = refl

-- the word of an event is one of the table
pub in_table : (z : Sizes) (w : WorldView) (e : Event) (l : Local) → IsSane z w → e.seat < length w.locals → slice_get w.locals e.seat ≡ Some l → IsWithin z.seats z.cells w.rows (transition_at z w e l).operation.name
unfolding transition_of
in_table z w e l sane t h =
    let k = sane.locals e.seat l h in
    within z l.activity w.rows e.seat (offered w.rows e.choice) l k.ranges k.below (omega (arith, sane.seats)) k.ranges.activity (offered_below w.rows e.choice)

-- what follows from the event of a seat, where it is told this
pub transition_of-next : (z : Sizes) (rows s : ℕ) (choice : Choice) (l : Local) (told : ℕ) → (transition_of z s choice l).next rows told ≡ next_of z rows choice l told
unfolding transition_of
transition_of-next z rows s choice l told = ap (λ (f : ℕ → ℕ → Outcome). f rows told) (next_of-seat z l.activity s 0 choice l)

-- the action of an event can happen
pub event_can_happen : (z : Sizes) (w : WorldView) (e : Event) (l : Local) → IsSane z w → e.seat < length w.locals → slice_get w.locals e.seat ≡ Some l → CanHappen (transition_at z w e l).operation.action (word z w (transition_at z w e l).operation.name)
unfolding transition_of
event_can_happen z w e l sane t h = can_happen z l.activity e.seat (offered w.rows e.choice) l _ (sane.each _ (in_table z w e l sane t h))
