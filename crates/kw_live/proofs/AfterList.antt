-- Where a reader stands once it has left the list of its row: at a cell that it remembers, or past
-- the row.
use Rattle.std.proofs.Common.{◌≡◌, ℕ, Bool, true, false, nat_lt, if◌then◌else◌, Option, Some, None, [], refl, sym, ◌∙◌, ap}
use Rattle.kw_words.specs.Plain.{key_of_word, value_of_word}
use Rattle.kw_model.specs.declared.call.Call.{Call}
use Rattle.kw_model.specs.declared.call.Call.TheVariants.{Put, Del, Get, Scan, Pin, ScanAt, Unpin}
use Rattle.kw_world.specs.declared.activity.Activity.{Activity}
use Rattle.kw_world.specs.declared.activity.read.Read.TheVariants as Read
use Rattle.kw_world.specs.declared.activity.walk.Walk.TheVariants as Walk
use Rattle.kw_world.specs.declared.activity.draw.Draw.TheVariants as Draw
use Rattle.kw_world.specs.declared.activity.rebalance.engage.Engage.TheVariants as Engage
use Rattle.kw_world.specs.declared.activity.enter.Enter.TheVariants as Enter
use Rattle.kw_world.specs.declared.activity.rebalance.freeze.Freeze.TheVariants as Freeze
use Rattle.kw_world.specs.declared.activity.rebalance.gather.Gather.TheVariants as Gather
use Rattle.kw_world.specs.declared.activity.insert.Insert.TheVariants as Insert
use Rattle.kw_world.specs.declared.activity.look.Look.TheVariants as Look
use Rattle.kw_world.specs.declared.activity.put.Put.TheVariants as Put
use Rattle.kw_world.specs.declared.activity.rebalance.Rebalance.TheVariants as Rebalance
use Rattle.kw_world.specs.declared.activity.rebalance.replace.Replace.TheVariants as Replace
use Rattle.kw_world.specs.declared.activity.rebalance.seek.Seek.TheVariants as Seek
use Rattle.kw_world.specs.declared.activity.rebalance.write.Write.TheVariants as Write
use Rattle.kw_world.specs.declared.event.Choice.TheVariants.{Go}
use Rattle.kw_world.specs.declared.local.Local.{Local}
use Rattle.kw_world.specs.declared.marks.Mark.{Mark}
use Rattle.kw_world.specs.Calls.{is_in_range}
use Rattle.kw_world.specs.Marks.{least_mark}
use Rattle.kw_world.specs.ReadTransitions.{gathering, left_over_key, left_over_of, row_read, scan_ended, scan_on, to_left_over, with_pairs}
use Rattle.kw_world.specs.Sizes.{Sizes, product}
use Rattle.kw_world.specs.Step.{next_of, transition_of}
use Rattle.kw_world.specs.Table.{transition}
use Rattle.kw_world.specs.Transition.{Outcome, to}
use Rattle.kw_puts.proofs.Owners.{true_false}
use Rattle.kw_table.specs.declared.pass.Pass.{Pass}
use Rattle.kw_table.specs.declared.shared.Shared.{Shared}
use Rattle.kw_table.specs.Passes.{view}
use Rattle.kw_table.specs.Views.{local_in}
use Rattle.kw_follow.specs.Following.{CarriesOn, Follows}
use Rattle.kw_follow.specs.Within.{IsAtRemembered}
use Rattle.kw_live.specs.Reading.{ReadsOn, is_at_remembered, is_listing, is_reading_list}

-- Where a reader is.

-- at a cell that it remembers it still reads the row
pub remembered_reads : (a : Activity) → is_at_remembered a ≡ true → is_reading_list a ≡ true
remembered_reads (Activity.Read Read.LeftOverKey) u = refl
remembered_reads (Activity.Read Read.LeftOverValue) u = refl
remembered_reads _ u = true_false u refl

-- and makes the event of such a cell
pub remembered_at : (a : Activity) → is_at_remembered a ≡ true → IsAtRemembered a
remembered_at (Activity.Read Read.LeftOverKey) u = tt
remembered_at (Activity.Read Read.LeftOverValue) u = tt
remembered_at _ u = true_false u refl

-- where it is neither in the list nor at such a cell, it has read the row
pub neither_reads : (a : Activity) → is_listing a ≡ false → is_at_remembered a ≡ false → is_reading_list a ≡ false
neither_reads (Activity.Read Read.LeftOverKey) u v = true_false refl v
neither_reads (Activity.Read Read.LeftOverValue) u v = true_false refl v
neither_reads (Activity.Read _) u v = true_false refl u
neither_reads _ u v = refl

-- What leads out of the list, and not back to it.

-- a scan at the end of a row
scan_leaves : (next : Option ℕ) (upto : ℕ) (l : Local) → is_listing (scan_on next upto l).local.activity ≡ false
scan_leaves None upto l = refl
scan_leaves (Some r) upto l = saw (nat_lt upto l.upper)
  where
    saw : (b : Bool) → is_listing (if b then scan_ended l else to (Activity.Walk Walk.Next) (record l { row = r; lower = l.upper; built = 0; want = l.upper; next = None; upper = 0 })).local.activity ≡ false
    saw true = refl
    saw false = refl

-- any call at the end of a row
row_leaves : (call : Option Call) (l : Local) → is_listing (row_read call l).local.activity ≡ false
row_leaves (Some (Put key value)) l = refl
row_leaves (Some (Del key)) l = refl
row_leaves (Some (Get key)) l = refl
row_leaves (Some (Scan from upto)) l = scan_leaves l.next upto (with_pairs upto l)
row_leaves (Some Pin) l = refl
row_leaves (Some (ScanAt from upto)) l = refl
row_leaves (Some Unpin) l = refl
row_leaves None l = refl

-- a reader that goes on to what it remembers
left_over_leaves : (l : Local) → is_listing (to_left_over l).local.activity ≡ false
left_over_leaves l = saw (least_mark l.remembered)
  where
    saw : (o : Option Mark) → is_listing (left_over_of o l).local.activity ≡ false
    saw (Some m) = refl
    saw None = row_leaves l.call l

-- one that was told the key of a remembered cell
left_over_key_leaves : (key : ℕ) (l : Local) → is_listing (left_over_key key l).local.activity ≡ false
left_over_key_leaves key l = saw (is_in_range l.call key)
  where
    saw : (b : Bool) → is_listing (if b then to (Activity.Read Read.LeftOverValue) (record l { place_key = key }) else to_left_over l).local.activity ≡ false
    saw true = refl
    saw false = left_over_leaves l

-- each event at such a cell
event_leaves : (z : Sizes) (a : Activity) (k : Local) (rows told : ℕ) → is_at_remembered a ≡ true → is_listing ((transition z a 0 Go k).next rows told).local.activity ≡ false
event_leaves z (Activity.Read Read.LeftOverKey) k rows told u = left_over_key_leaves (key_of_word told) k
event_leaves z (Activity.Read Read.LeftOverValue) k rows told u = left_over_leaves (gathering z (value_of_word told) k)
event_leaves z (Activity.Enter Enter.Announce) k rows told u = true_false u refl
event_leaves z (Activity.Draw Draw.Clock) k rows told u = true_false u refl
event_leaves z (Activity.Walk Walk.First) k rows told u = true_false u refl
event_leaves z (Activity.Look Look.Key) k rows told u = true_false u refl
event_leaves z (Activity.Put Put.Count) k rows told u = true_false u refl
event_leaves z (Activity.Insert Insert.Start) k rows told u = true_false u refl
event_leaves z (Activity.Read Read.Start) k rows told u = true_false u refl
event_leaves z (Activity.Insert Insert.Link) k rows told u = true_false u refl
event_leaves z (Activity.Rebalance (Rebalance.Engage Engage.Clock)) k rows told u = true_false u refl
event_leaves z (Activity.Rebalance (Rebalance.Freeze Freeze.Count)) k rows told u = true_false u refl
event_leaves z (Activity.Rebalance (Rebalance.Gather Gather.Link)) k rows told u = true_false u refl
event_leaves z (Activity.Rebalance (Rebalance.Seek Seek.Next)) k rows told u = true_false u refl
event_leaves z (Activity.Rebalance (Rebalance.Write Write.Count)) k rows told u = true_false u refl
event_leaves z (Activity.Rebalance (Rebalance.Replace Replace.First)) k rows told u = true_false u refl
event_leaves z _ k rows told u = true_false u refl

-- Code that follows.

-- it made the event at a remembered cell
pub remembered_over : (s : Shared) (p q : Pass) (l m : Local) (told : ℕ) → Follows s p l → Follows s q m → local_in (view q) ≡ (next_of product (view p).opening.rows Go (local_in (view p)) told).local → is_at_remembered l.activity ≡ true → is_listing m.activity ≡ false
unfolding transition_of
remembered_over s p q l m told f after seat at =
    let k : Local = local_in (view p) in
    ap (λ (x : Local). is_listing x.activity) after.carries
    ∙ (ap (λ (x : Local). is_listing x.activity) seat
    ∙ event_leaves product k.activity k (view p).opening.rows told (sym (ap (λ (x : Local). is_at_remembered x.activity) f.carries) ∙ at))

-- what follows a walk along the list does not depend on where in it the reader stood
row_read_any : (a : Activity) (call : Option Call) (l : Local) → row_read call (record l { activity = a }) ≡ row_read call l
row_read_any a (Some (Put key value)) l = refl
row_read_any a (Some (Del key)) l = refl
row_read_any a (Some (Get key)) l = refl
row_read_any a (Some Pin) l = refl
row_read_any a (Some (ScanAt from upto)) l = refl
row_read_any a (Some Unpin) l = refl
row_read_any a (Some (Scan from upto)) l = on l.next
  where
    saw : (r : ℕ) (b : Bool) → (let o : Outcome = if b then scan_ended (with_pairs upto (record l { activity = a })) else to (Activity.Walk Walk.Next) (record (with_pairs upto (record l { activity = a })) { row = r; lower = l.upper; built = 0; want = l.upper; next = None; upper = 0 }) in o) ≡
        (if b then scan_ended (with_pairs upto l) else to (Activity.Walk Walk.Next) (record (with_pairs upto l) { row = r; lower = l.upper; built = 0; want = l.upper; next = None; upper = 0 }))
    saw r true = refl
    saw r false = refl

    on : (next : Option ℕ) → scan_on next upto (with_pairs upto (record l { activity = a })) ≡ scan_on next upto (with_pairs upto l)
    on None = refl
    on (Some r) = saw r (nat_lt upto l.upper)
row_read_any a None l = refl

pub left_over_any : (a : Activity) (l : Local) → to_left_over (record l { activity = a }) ≡ to_left_over l
left_over_any a l = saw (least_mark l.remembered)
  where
    saw : (o : Option Mark) → left_over_of o (record l { activity = a }) ≡ left_over_of o l
    saw (Some m) = refl
    saw None = row_read_any a l.call l

-- its walk along the list is over
pub listing_over : (k m : Local) → CarriesOn to_left_over k m → is_listing m.activity ≡ false
listing_over k m on = ap (λ (y : Local). is_listing y.activity) (on.carries 0 []) ∙ left_over_leaves (record k { number = 0; pairs = [] })

-- What stays while a reader reads what it remembers: it has gone on since it came to the list, and
-- is not in it any more.
pub record IsOver (s : Shared) (o : Pass) (l : Local) (p : Pass) (m : Local) : Type 0 where
  pub reads : ReadsOn s o l p m
  pub over : is_listing m.activity ≡ false
