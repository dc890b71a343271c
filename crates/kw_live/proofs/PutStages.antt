-- How a put or a delete goes through its row, event by event: what it has found by then, and that
-- each event takes it on.
use Rattle.std.proofs.lemmas.Bool.Decides.{nat_tests}
use Rattle.std.proofs.Common.{◌≡◌, ◌≢◌, ◌⊎◌, ℕ, ◌<◌, Bool, true, false, nat_lt, ◌==◌, if◌then◌else◌, Option, Some, None, unwrap_or, arith, refl, sym, ◌∙◌, ap, subst, inl, inr, eq-eqb}
use Rattle.kw_words.specs.declared.layout.Name.TheVariants as name
use Rattle.kw_words.specs.declared.count.Count.{Count}
use Rattle.kw_words.specs.declared.pend.Pend.{Pend}
use Rattle.kw_words.specs.declared.pend.Pend.TheVariants.{Idle, Pending, Stamped, Frozen}
use Rattle.kw_words.specs.declared.sizes.TheConstants.{CELLS}
use Rattle.kw_words.specs.Count.{count_of}
use Rattle.kw_words.specs.Pend.{pend_of, pend_word}
use Rattle.kw_words.proofs.PendWords.{pend_word_of}
use Rattle.kw_world.specs.declared.answer.Answer.TheVariants as answer
use Rattle.kw_world.specs.declared.activity.Activity.{Activity}
use Rattle.kw_world.specs.declared.activity.rebalance.engage.Engage.TheVariants as Engage
use Rattle.kw_world.specs.declared.activity.insert.Insert.TheVariants as Insert
use Rattle.kw_world.specs.declared.activity.put.Put.TheVariants as Put
use Rattle.kw_world.specs.declared.activity.rebalance.Rebalance.{Rebalance}
use Rattle.kw_world.specs.declared.activity.draw.Draw.TheVariants as Draw
use Rattle.kw_world.specs.declared.activity.enter.Enter.TheVariants as Enter
use Rattle.kw_world.specs.declared.activity.rebalance.freeze.Freeze.TheVariants as Freeze
use Rattle.kw_world.specs.declared.activity.rebalance.gather.Gather.TheVariants as Gather
use Rattle.kw_world.specs.declared.activity.look.Look.TheVariants as Look
use Rattle.kw_world.specs.declared.activity.read.Read.TheVariants as Read
use Rattle.kw_world.specs.declared.activity.rebalance.replace.Replace.TheVariants as Replace
use Rattle.kw_world.specs.declared.activity.rebalance.seek.Seek.TheVariants as Seek
use Rattle.kw_world.specs.declared.activity.walk.Walk.TheVariants as Walk
use Rattle.kw_world.specs.declared.activity.rebalance.write.Write.TheVariants as Write
use Rattle.kw_world.specs.declared.event.Choice.{Choice}
use Rattle.kw_world.specs.declared.event.Choice.TheVariants.{Go}
use Rattle.kw_world.specs.declared.event.StepDone.TheVariants.{Moved}
use Rattle.kw_world.specs.declared.local.Local.{Local}
use Rattle.kw_world.specs.Transition.{Outcome, leave, outcome, to}
use Rattle.kw_words.specs.Plain.{key_of_word, version_of_word, cell_of_link_word, cell_link_word}
use Rattle.kw_world.specs.Calls.{first_key}
use Rattle.kw_world.specs.ListTransitions.{insert_from, insert_past, insert_tried, is_newer}
use Rattle.kw_core.specs.Stages.{IsBalancing, IsDone, IsInserting}
use Rattle.kw_world.specs.EngageTransitions.{to_rebalance}
use Rattle.kw_world.specs.PutTransitions.{has_room, given_of, stamp_seen, tidies_row}
use Rattle.kw_world.specs.Sane.{IsGiven}
use Rattle.kw_world.specs.Sizes.{product}
use Rattle.kw_world.specs.Step.{word, next_of, transition_of}
use Rattle.kw_world.specs.Table.{transition}
use Rattle.kw_laws.specs.Laws.{HasCellOrFrozen, IsIdleOrFrozen}
use Rattle.kw_core.specs.Run.{history}
use Rattle.kw_puts.proofs.Owners.{true_false}
use Rattle.kw_table.specs.declared.pass.Pass.{Pass}
use Rattle.kw_table.specs.declared.shared.Shared.{Shared}
use Rattle.kw_table.specs.Passes.{view}
use Rattle.kw_follow.specs.Calling.{KeepsCalls}
use Rattle.kw_follow.specs.Following.{Follows, GoesTo, held}
use Rattle.kw_follow.specs.Moving.{WentOn}
use Rattle.kw_follow.specs.OwnEvents.{Saw, SawAs}
use Rattle.kw_follow.specs.Reaching.{Advances}
use Rattle.kw_live.specs.Sights.{IsFullCount, SawFull, TellsFull}
use Rattle.kw_world.specs.WalkTransitions.{offered}
use Rattle.kw_live.specs.declared.putting.TryPut.TheVariants.{Done, Tidies}
use Rattle.kw_live.specs.Putting.{InsertsFurther, is_trying, put_ahead, stands_after}
use Rattle.kw_core.specs.Stages.{IsAtInsertLink, is_putting}
use Rattle.kw_follow.proofs.OwnEvents.{goes_trans, saw_earlier}
use Rattle.kw_follow.proofs.Reaching.{reaches_none}
use Rattle.kw_follow.proofs.Untidied.{keeps, untidied}
use Rattle.kw_follow.proofs.Fronts.{saw_laws, saw_local, saw_told, saw_row_below, local_at}

-- a put that is not done is at its row
pub trying_puts : (a : Activity) → is_trying a ≡ true → is_putting a ≡ true
trying_puts (Activity.Put _) t = refl
trying_puts (Activity.Insert _) t = refl
trying_puts _ t = true_false t refl

-- What a put has found.

-- what it has found where it stands: that its row is full, if it is about to rebalance it. Else it
-- is still at its row
abbrev pub HasFound : Pass → Pass → Activity → Type 0
HasFound p q (Activity.Rebalance (Rebalance.Engage Engage.Clock)) = SawFull p q
HasFound p q a = is_putting a ≡ true

-- What the events of a put find.

-- a count that has no room is full
full_count : (c : Option Count) → IsGiven c → has_room product c ≡ false → IsFullCount c
full_count (Some c) g h = saw c.frozen refl h
  where
    saw : (b : Bool) → c.frozen ≡ b → (if b then false else nat_lt c.given CELLS) ≡ false → IsFullCount (Some c)
    saw true e x = inl e
    saw false e x = inr (grind (arith, nat_tests))
full_count None g h = absurd g

-- so is the count of its row, where a put finds none
counted : (s : Shared) (p q : Pass) (a : Activity) (told : ℕ) → GoesTo s p q → (m : Saw p q a Go told) → told ≡ word product (history product (view p).opening m.front).world (name.Count (local_at p m.front).row)
    → has_room product (count_of told) ≡ false → IsFullCount (count_of told)
counted s p q a told goes m is none =
    full_count (count_of told) (subst (λ w. IsGiven (count_of w)) (sym is) ((saw_laws s p q a Go told goes m).sane.each (name.Count (local_at p m.front).row) (saw_row_below s p q a Go told goes m))) none

-- an entry that is idle or frozen, and not idle
frozen_else : (told : ℕ) (e : Option Pend) → pend_of told ≡ e → IsIdleOrFrozen e → told ≢ pend_word Idle → told ≡ pend_word Frozen
frozen_else told (Some Idle) f h n = absurd (n (sym (pend_word_of told Idle f)))
frozen_else told (Some (Pending cell)) f h n = absurd h
frozen_else told (Some (Stamped cell version)) f h n = absurd h
frozen_else told (Some Frozen) f h n = sym (pend_word_of told Frozen f)
frozen_else told None f h n = absurd h

-- a put that is to announce, and does not find its entry idle, finds it frozen
announced : (s : Shared) (p q : Pass) (told : ℕ) → GoesTo s p q → (m : Saw p q (Activity.Put Put.Announce) Go told) → told ≢ pend_word Idle → told ≡ pend_word Frozen
announced s p q told goes m n =
    let is = saw_told p q (Activity.Put Put.Announce) Go told m _ refl in
    frozen_else told (pend_of told) refl (subst (λ w. IsIdleOrFrozen (pend_of w)) (sym is) ((saw_laws s p q (Activity.Put Put.Announce) Go told goes m).announces (view p).number (local_at p m.front) (saw_local p q (Activity.Put Put.Announce) Go told m) m.activity)) n

-- a put that is to stamp finds its entry with its own cell, or frozen
stamped : (s : Shared) (p q : Pass) (told : ℕ) → GoesTo s p q → (m : Saw p q (Activity.Put Put.Stamp) Go told) → HasCellOrFrozen (local_at p m.front).cell (pend_of told)
stamped s p q told goes m =
    let is = saw_told p q (Activity.Put Put.Stamp) Go told m _ refl in
    subst (λ w. HasCellOrFrozen (local_at p m.front).cell (pend_of w)) (sym is) ((saw_laws s p q (Activity.Put Put.Stamp) Go told goes m).stamps (view p).number (local_at p m.front) (saw_local p q (Activity.Put Put.Stamp) Go told m) m.activity)

-- One event.

-- the put has found what it needs where it now stands, and has fewer events to make
pub record GoesOn (p q : Pass) (m : Local) (ahead : ℕ) : Type 0 where
  pub found : HasFound p q m.activity
  pub fewer : put_ahead m.activity m.walked m.lost < ahead

goes_on : (p q : Pass) (m : Local) (b : Activity) (ahead : ℕ) → m.activity ≡ b → HasFound p q b → put_ahead b m.walked m.lost < ahead → GoesOn p q m ahead
goes_on p q m b ahead is found fewer = record { found = subst (HasFound p q) (sym is) found; fewer = subst (λ a. put_ahead a m.walked m.lost < ahead) (sym is) fewer }

-- what follows from the event, by its activity
local_is : (rows : ℕ) (a : Activity) (l m : Local) (told : ℕ) → l.activity ≡ a → outcome m Moved ≡ next_of product rows Go l told → m ≡ ((transition product a 0 Go l).next rows told).local
unfolding transition_of
local_is rows a l m told is line = ap (λ (x : Outcome). x.local) (line ∙ ap (λ b. (transition product b 0 Go l).next rows told) is)

next_is : (rows : ℕ) (a : Activity) (l m : Local) (told : ℕ) → l.activity ≡ a → outcome m Moved ≡ next_of product rows Go l told → m.activity ≡ ((transition product a 0 Go l).next rows told).local.activity
next_is rows a l m told is line = ap (λ (x : Local). x.activity) (local_is rows a l m told is line)

module _ (s : Shared) (o p q : Pass) (l m : Local) (rows told : ℕ) (was : GoesTo s o p) (goes : GoesTo s p q) (saw : SawAs p q l Go told) (line : outcome m Moved ≡ next_of product rows Go l told) where
  -- the event, by its activity
  here : (a : Activity) → l.activity ≡ a → Saw p q a Go told
  here a is = record { front = saw.saw.front; later = saw.saw.later; here = saw.saw.here; activity = saw.saw.activity ∙ is; tells = saw.saw.tells }

  -- the row is full by this event
  fills : (a : Activity) (ahead : ℕ) → l.activity ≡ a → TellsFull a told → 0 < ahead → m.activity ≡ (to_rebalance l).local.activity → GoesOn o q m ahead
  fills a ahead is found more next = goes_on o q m (Activity.Rebalance (Rebalance.Engage Engage.Clock)) ahead next (record { activity = a; told = told; saw = saw_earlier s o p q was (here a is); full = found }) more

  asks : (b : Bool) → has_room product (count_of told) ≡ b → l.activity ≡ Activity.Put Put.Count → m.activity ≡ (let x : Outcome = if b then to (Activity.Put Put.Add) l else to_rebalance l in x).local.activity → GoesOn o q m (put_ahead (Activity.Put Put.Count) l.walked l.lost)
  asks true h is next = goes_on o q m (Activity.Put Put.Add) _ next refl (omega arith)
  asks false h is next = fills (Activity.Put Put.Count) _ is (counted s p q (Activity.Put Put.Count) told goes (here (Activity.Put Put.Count) is) (saw_told p q (Activity.Put Put.Count) Go told (here (Activity.Put Put.Count) is) _ refl) h) (omega arith) next

  adds : (b : Bool) → has_room product (count_of told) ≡ b → l.activity ≡ Activity.Put Put.Add → m.activity ≡ (let x : Outcome = if b then to (Activity.Put Put.Key) (record l { cell = given_of (count_of told) }) else to_rebalance l in x).local.activity → GoesOn o q m (put_ahead (Activity.Put Put.Add) l.walked l.lost)
  adds true h is next = goes_on o q m (Activity.Put Put.Key) _ next refl (omega arith)
  adds false h is next = fills (Activity.Put Put.Add) _ is (counted s p q (Activity.Put Put.Add) told goes (here (Activity.Put Put.Add) is) (saw_told p q (Activity.Put Put.Add) Go told (here (Activity.Put Put.Add) is) _ refl) h) (omega arith) next

  announces : (b : Bool) → (told == pend_word Idle) ≡ b → l.activity ≡ Activity.Put Put.Announce → m.activity ≡ (let x : Outcome = if b then to (Activity.Put Put.Clock) l else to_rebalance l in x).local.activity → GoesOn o q m (put_ahead (Activity.Put Put.Announce) l.walked l.lost)
  announces true h is next = goes_on o q m (Activity.Put Put.Clock) _ next refl (omega arith)
  announces false h is next = fills (Activity.Put Put.Announce) _ is (announced s p q told goes (here (Activity.Put Put.Announce) is) (λ e. true_false (eq-eqb told (pend_word Idle) e) h)) (omega arith) next

  -- its own cell is stamped, or the entry was frozen
  stamps : (e : Option Pend) → pend_of told ≡ e → l.activity ≡ Activity.Put Put.Stamp → HasCellOrFrozen l.cell e → m.activity ≡ (stamp_seen e l).local.activity → GoesOn o q m (put_ahead (Activity.Put Put.Stamp) l.walked l.lost)
  stamps (Some Idle) f is own next = absurd own
  stamps (Some (Pending cell)) f is own next = goes_on o q m (Activity.Put Put.Version) _ (next ∙ rw (eq-eqb cell l.cell own) refl) refl (omega arith)
  stamps (Some (Stamped cell version)) f is own next = goes_on o q m (Activity.Put Put.Version) _ (next ∙ rw (eq-eqb cell l.cell own) refl) refl (omega arith)
  stamps (Some Frozen) f is own next = fills (Activity.Put Put.Stamp) _ is (sym (pend_word_of told Frozen f)) (omega arith) next
  stamps None f is own next = absurd own

  -- on its walk the put has reached fewer cells than there are, and has lost fewer exchanges
  has_walked : IsAtInsertLink l.activity → l.walked < CELLS
  has_walked at =
      let x : Saw p q l.activity Go told = saw.saw in
      let laws = saw_laws s p q l.activity Go told goes x in
      subst (λ n. n < CELLS) (ap (λ (k : Local). k.walked) saw.knew) (laws.walked (view p).number (local_at p x.front) (saw_local p q l.activity Go told x) (subst IsAtInsertLink (sym x.activity) at))

  has_lost : l.activity ≡ Activity.Insert Insert.Exchange → l.lost < CELLS
  unfolding here
  has_lost is =
      let x = here (Activity.Insert Insert.Exchange) is in
      let laws = saw_laws s p q (Activity.Insert Insert.Exchange) Go told goes x in
      subst (λ n. n < CELLS) (ap (λ (k : Local). k.lost) saw.knew) (laws.lost (view p).number (local_at p x.front) (saw_local p q (Activity.Insert Insert.Exchange) Go told x) (subst IsInserting (sym x.activity) tt))

  -- the link leads to a cell, or to none
  from_link : (x : Option ℕ) → IsAtInsertLink l.activity → m ≡ (insert_from product x l).local → GoesOn o q m (put_ahead (Activity.Insert Insert.Link) l.walked l.lost)
  from_link (Some c) is e = goes_on o q m (Activity.Insert Insert.Key) _ (ap (λ (x : Local). x.activity) e) refl (omega (arith, has_walked is, ap (λ (x : Local). x.walked) e, ap (λ (x : Local). x.lost) e))
  from_link None is e = goes_on o q m (Activity.Insert Insert.Set) _ (ap (λ (x : Local). x.activity) e) refl (omega (arith, ap (λ (x : Local). x.lost) e))

  -- the cell is gone by, or not
  from_key : (b c : Bool) → m ≡ (let x : Outcome = if b then insert_past l else if c then to (Activity.Insert Insert.Version) l else to (Activity.Insert Insert.Set) l in x).local → GoesOn o q m (put_ahead (Activity.Insert Insert.Key) l.walked l.lost)
  from_key true c e = goes_on o q m (Activity.Insert Insert.Link) _ (ap (λ (x : Local). x.activity) e) refl (omega (arith, ap (λ (x : Local). x.walked) e, ap (λ (x : Local). x.lost) e))
  from_key false true e = goes_on o q m (Activity.Insert Insert.Version) _ (ap (λ (x : Local). x.activity) e) refl (omega (arith, ap (λ (x : Local). x.walked) e, ap (λ (x : Local). x.lost) e))
  from_key false false e = goes_on o q m (Activity.Insert Insert.Set) _ (ap (λ (x : Local). x.activity) e) refl (omega (arith, ap (λ (x : Local). x.lost) e))

  from_version : (b : Bool) → m ≡ (let x : Outcome = if b then insert_past l else to (Activity.Insert Insert.Set) l in x).local → GoesOn o q m (put_ahead (Activity.Insert Insert.Version) l.walked l.lost)
  from_version true e = goes_on o q m (Activity.Insert Insert.Link) _ (ap (λ (x : Local). x.activity) e) refl (omega (arith, ap (λ (x : Local). x.walked) e, ap (λ (x : Local). x.lost) e))
  from_version false e = goes_on o q m (Activity.Insert Insert.Set) _ (ap (λ (x : Local). x.activity) e) refl (omega (arith, ap (λ (x : Local). x.lost) e))

  -- the exchange is made, or lost
  from_exchange : (b : Bool) → l.activity ≡ Activity.Insert Insert.Exchange → m ≡ (insert_tried product b l).local → GoesOn o q m (put_ahead (Activity.Insert Insert.Exchange) l.walked l.lost)
  from_exchange true is e = goes_on o q m (Activity.Put Put.Clear) _ (ap (λ (x : Local). x.activity) e) refl (omega arith)
  from_exchange false is e = goes_on o q m (Activity.Insert Insert.Start) _ (ap (λ (x : Local). x.activity) e) refl (omega (arith, has_lost is, ap (λ (x : Local). x.walked) e, ap (λ (x : Local). x.lost) e))

  -- an event of a put that is not done takes it on
  event : (a : Activity) → l.activity ≡ a → is_trying a ≡ true → GoesOn o q m (put_ahead a l.walked l.lost)
  unfolding here
  event (Activity.Put Put.Count) is put = asks (has_room product (count_of told)) refl is (next_is rows (Activity.Put Put.Count) l m told is line)
  event (Activity.Put Put.Add) is put = adds (has_room product (count_of told)) refl is (next_is rows (Activity.Put Put.Add) l m told is line)
  event (Activity.Put Put.Key) is put = goes_on o q m (Activity.Put Put.Value) _ (next_is rows (Activity.Put Put.Key) l m told is line) refl (omega arith)
  event (Activity.Put Put.Value) is put = goes_on o q m (Activity.Put Put.Announce) _ (next_is rows (Activity.Put Put.Value) l m told is line) refl (omega arith)
  event (Activity.Put Put.Announce) is put = announces (told == pend_word Idle) refl is (next_is rows (Activity.Put Put.Announce) l m told is line)
  event (Activity.Put Put.Clock) is put = goes_on o q m (Activity.Put Put.Stamp) _ (next_is rows (Activity.Put Put.Clock) l m told is line) refl (omega arith)
  event (Activity.Put Put.Stamp) is put = stamps (pend_of told) refl is (subst (λ n. HasCellOrFrozen n (pend_of told)) (ap (λ (k : Local). k.cell) saw.knew) (stamped s p q told goes (here (Activity.Put Put.Stamp) is))) (next_is rows (Activity.Put Put.Stamp) l m told is line)
  event (Activity.Put Put.Version) is put = goes_on o q m (Activity.Insert Insert.Start) _ (next_is rows (Activity.Put Put.Version) l m told is line) refl
      (omega (arith, ap (λ (x : Local). x.walked) (local_is rows (Activity.Put Put.Version) l m told is line), ap (λ (x : Local). x.lost) (local_is rows (Activity.Put Put.Version) l m told is line)))
  event (Activity.Insert Insert.Start) is put = from_link (cell_of_link_word told) (subst IsAtInsertLink (sym is) tt) (local_is rows (Activity.Insert Insert.Start) l m told is line)
  event (Activity.Insert Insert.Link) is put = from_link (cell_of_link_word told) (subst IsAtInsertLink (sym is) tt) (local_is rows (Activity.Insert Insert.Link) l m told is line)
  event (Activity.Insert Insert.Key) is put = from_key (nat_lt (key_of_word told) (first_key l.call)) (key_of_word told == first_key l.call) (local_is rows (Activity.Insert Insert.Key) l m told is line)
  event (Activity.Insert Insert.Version) is put = from_version (is_newer (unwrap_or (version_of_word told) 0) l.place l) (local_is rows (Activity.Insert Insert.Version) l m told is line)
  event (Activity.Insert Insert.Set) is put = goes_on o q m (Activity.Insert Insert.Exchange) _ (next_is rows (Activity.Insert Insert.Set) l m told is line) refl (omega (arith, ap (λ (x : Local). x.lost) (local_is rows (Activity.Insert Insert.Set) l m told is line)))
  event (Activity.Insert Insert.Exchange) is put = from_exchange (told == cell_link_word l.held) is (local_is rows (Activity.Insert Insert.Exchange) l m told is line)
  event _ is put = true_false put refl

  -- nor does the put tidy by it
  work : (a : Activity) → is_trying a ≡ true → ((transition product a 0 Go l).next rows told).local.tidies ≡ l.tidies
  work (Activity.Put Put.Count) put = keeps product (Activity.Put Put.Count) 0 Go l rows told tt
  work (Activity.Put Put.Add) put = keeps product (Activity.Put Put.Add) 0 Go l rows told tt
  work (Activity.Put Put.Announce) put = keeps product (Activity.Put Put.Announce) 0 Go l rows told tt
  work (Activity.Put Put.Stamp) put = keeps product (Activity.Put Put.Stamp) 0 Go l rows told tt
  work (Activity.Insert Insert.Start) put = keeps product (Activity.Insert Insert.Start) 0 Go l rows told tt
  work (Activity.Insert Insert.Link) put = keeps product (Activity.Insert Insert.Link) 0 Go l rows told tt
  work (Activity.Insert Insert.Key) put = keeps product (Activity.Insert Insert.Key) 0 Go l rows told tt
  work (Activity.Insert Insert.Version) put = keeps product (Activity.Insert Insert.Version) 0 Go l rows told tt
  work (Activity.Insert Insert.Set) put = refl
  work (Activity.Insert Insert.Exchange) put = keeps product (Activity.Insert Insert.Exchange) 0 Go l rows told tt
  work (Activity.Put _) put = refl
  work (Activity.Enter Enter.Announce) put = true_false put refl
  work (Activity.Draw Draw.Clock) put = true_false put refl
  work (Activity.Walk Walk.First) put = true_false put refl
  work (Activity.Look Look.Key) put = true_false put refl
  work (Activity.Read Read.Link) put = true_false put refl
  work (Activity.Rebalance (Rebalance.Engage Engage.Clock)) put = true_false put refl
  work (Activity.Rebalance (Rebalance.Freeze Freeze.Count)) put = true_false put refl
  work (Activity.Rebalance (Rebalance.Gather Gather.Link)) put = true_false put refl
  work (Activity.Rebalance (Rebalance.Seek Seek.Next)) put = true_false put refl
  work (Activity.Rebalance (Rebalance.Write Write.Count)) put = true_false put refl
  work (Activity.Rebalance (Rebalance.Replace Replace.First)) put = true_false put refl
  work _ put = true_false put refl

  pub put_tidies : is_trying l.activity ≡ true → m.tidies ≡ l.tidies
  put_tidies put = ap (λ (k : Local). k.tidies) (local_is rows l.activity l m told refl line) ∙ work l.activity put

  -- the same, at the activity where it is
  pub put_goes : is_trying l.activity ≡ true → GoesOn o q m (put_ahead l.activity l.walked l.lost)
  put_goes = event l.activity refl

-- Where a put stands that tries no more.

-- at its row, and done
pub is_cleared : (p q : Pass) (a : Activity) → HasFound p q a → is_trying a ≡ false → ((x : Rebalance) → a ≡ Activity.Rebalance x → ⊥) → a ≡ Activity.Put Put.Clear
is_cleared p q (Activity.Put Put.Clear) h over stays = refl
is_cleared p q (Activity.Put _) h over stays = true_false refl over
is_cleared p q (Activity.Insert _) h over stays = true_false refl over
is_cleared p q (Activity.Rebalance x) h over stays = absurd (stays x refl)
is_cleared p q _ h over stays = true_false h refl

-- or about to rebalance it, and it has found it full
pub stands_full : (p q : Pass) (a : Activity) (x : Rebalance) → HasFound p q a → a ≡ Activity.Rebalance x → (a ≡ Activity.Rebalance (Rebalance.Engage Engage.Clock)) × SawFull p q
stands_full p q a x h is = (is ∙ ap Activity.Rebalance (at x g), saw x g)
  where
    g : HasFound p q (Activity.Rebalance x)
    g = subst (HasFound p q) is h

    at : (x : Rebalance) → HasFound p q (Activity.Rebalance x) → x ≡ Rebalance.Engage Engage.Clock
    at (Rebalance.Engage Engage.Clock) h = refl
    at _ h = true_false h refl

    saw : (x : Rebalance) → HasFound p q (Activity.Rebalance x) → SawFull p q
    saw (Rebalance.Engage Engage.Clock) h = h
    saw _ h = true_false h refl

-- By its last event at its row it leaves, or tidies its row.

-- a put that is to clear its entry does not tidy
pub clears_untidied : (s : Shared) (p : Pass) (l : Local) → Follows s p l → l.activity ≡ Activity.Put Put.Clear → l.tidies ≡ false
clears_untidied s p l f is = untidied s p l f puts
  where
    puts : IsBalancing l.activity ⊎ IsDone l.activity → ⊥
    puts (inl b) = subst IsBalancing is b
    puts (inr d) = subst IsDone is d

pub clears : {s : Shared} {p q : Pass} {l m : Local} {c : Choice} → Follows s p l → l.activity ≡ Activity.Put Put.Clear → WentOn s p l c q m → m.activity ≡ stands_after (if m.tidies then Tidies else Done)
unfolding transition_of
clears {s} {p} {q} {l} {m} {c} f is w =
    by (tidies_row (view p).opening.rows (offered (view p).opening.rows c) l)
    (ap (λ (x : Outcome). x.local) (w.line ∙ ap (λ b. (transition product b 0 (offered (view p).opening.rows c) l).next (view p).opening.rows w.told) is))
  where
    by : (b : Bool) → m ≡ (let x : Outcome = if b then to_rebalance (record l { tidies = true }) else leave answer.Done l in x).local → m.activity ≡ stands_after (if m.tidies then Tidies else Done)
    by true e = ap (λ (k : Local). k.activity) e ∙ sym (ap (λ (k : Local). stands_after (if k.tidies then Tidies else Done)) e)
    by false e = ap (λ (k : Local). k.activity) e ∙ sym (ap (λ (k : Local). stands_after (if k.tidies then Tidies else Done)) e ∙ ap (λ b. stands_after (if b then Tidies else Done)) (clears_untidied s p l f is))

-- What stays through all events of a put.
pub record IsTrying (s : Shared) (o p : Pass) (l : Local) : Type 0 where
  pub goes : GoesTo s o p
  pub follows : Follows s p l
  pub calls : KeepsCalls o p
  pub held : held p ≡ held o
  pub found : HasFound o p l.activity
  pub untidied : l.tidies ≡ false

-- a put that has come to its row has found nothing yet
pub tries_first : (s : Shared) (p : Pass) (l : Local) → Follows s p l → l.activity ≡ Activity.Put Put.Count → IsTrying s p p l
tries_first s p l f is = record {
  goes = (reaches_none f).goes;
  follows = f;
  calls = refl;
  held = refl;
  found = subst (HasFound p p) (sym is) refl;
  untidied = untidied s p l f puts;
}
  where
    puts : IsBalancing l.activity ⊎ IsDone l.activity → ⊥
    puts (inl b) = subst IsBalancing is b
    puts (inr d) = subst IsDone is d

-- the put is still trying after an event, and has fewer to make
pub record Tries (s : Shared) (o q : Pass) (m : Local) (ahead : ℕ) : Type 0 where
  pub trying : IsTrying s o q m
  pub fewer : put_ahead m.activity m.walked m.lost < ahead

pub tries_on : {s : Shared} {o p q : Pass} {l m : Local} → IsTrying s o p l → is_trying l.activity ≡ true → WentOn s p l Go q m → Tries s o q m (put_ahead l.activity l.walked l.lost)
tries_on {s} {o} {p} {q} {l} {m} t put w =
    let on = put_goes s o p q l m (view p).opening.rows w.told t.goes w.goes w.saw w.line put in
    record {
      trying = record { goes = goes_trans s o p q t.goes w.goes; follows = w.follows; calls = w.calls ∙ t.calls; held = w.held refl ∙ t.held; found = on.found; untidied = put_tidies s o p q l m (view p).opening.rows w.told t.goes w.goes w.saw w.line put ∙ t.untidied };
      fewer = on.fewer;
    }

-- a put that inserts its cell has found nothing yet by which its row is full
inserting_found : (o q : Pass) (a : Activity) → IsInserting a → HasFound o q a
inserting_found o q (Activity.Insert _) i = refl
inserting_found o q _ i = absurd i

-- and neither rebalances nor is done
inserting_on : (a : Activity) → IsInserting a → IsBalancing a ⊎ IsDone a → ⊥
inserting_on a i (inl b) = inserting_works a i b
  where
    inserting_works : (a : Activity) → IsInserting a → IsBalancing a → ⊥
    inserting_works (Activity.Insert _) i b = b
    inserting_works _ i b = i
inserting_on a i (inr d) = inserting_stays a i d
  where
    inserting_stays : (a : Activity) → IsInserting a → IsDone a → ⊥
    inserting_stays (Activity.Leave x) i d = i
    inserting_stays _ i d = d

-- so is it after the events of a walk along the list
pub tries_further : (s : Shared) (o p q : Pass) (l m : Local) → IsTrying s o p l → InsertsFurther s p l q m → Tries s o q m (put_ahead l.activity l.walked l.lost)
tries_further s o p q l m t more = record {
  trying = record {
    goes = goes_trans s o p q t.goes more.goes;
    follows = more.follows;
    calls = more.calls ∙ t.calls;
    held = more.held ∙ t.held;
    found = inserting_found o q m.activity more.inserting;
    untidied = untidied s q m more.follows (inserting_on m.activity more.inserting);
  };
  fewer = more.fewer;
}

-- an event behind the last of them goes on from its beginning
pub tried_on : {s : Shared} {o p q : Pass} {l m : Local} → IsTrying s o p l → Advances s p q m → Advances s o q m
tried_on {s} {o} {p} {q} t on = record { goes = goes_trans s o p q t.goes on.goes; follows = on.follows; calls = on.calls ∙ t.calls; held = on.held ∙ t.held }
