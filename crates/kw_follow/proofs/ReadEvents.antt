-- The events of a reader at its row: what each asks, and what follows for the seat and for code,
-- which keeps no pairs.
use Rattle.std.proofs.Common.{ℕ, ◌≡◌, ◌<◌, Bool, true, false, nat_lt, nat_le, if◌then◌else◌, Option, Some, None, [], refl, sym, ◌∙◌, ap, subst}
use Rattle.std.proofs.lemmas.Bool.{lt-ltb}
use Rattle.kw_words.specs.declared.kind.Kind.TheVariants as kind
use Rattle.kw_words.specs.Plain.{cell_of_link_word}
use Rattle.kw_words.specs.declared.layout.Name.{Name}
use Rattle.kw_model.specs.declared.call.Call.{Call}
use Rattle.kw_model.specs.declared.call.Call.TheVariants.{Put, Del, Get, Scan, Pin, ScanAt, Unpin}
use Rattle.kw_world.specs.declared.activity.Activity.{Activity}
use Rattle.kw_world.specs.declared.activity.insert.Insert.TheVariants as Insert
use Rattle.kw_world.specs.declared.activity.read.Read.TheVariants as Read
use Rattle.kw_world.specs.declared.activity.rebalance.Rebalance.TheVariants as Rebalance
use Rattle.kw_world.specs.declared.activity.rebalance.seek.Seek.TheVariants as Seek
use mathlib.Core.List.{IsPrefix}
use Rattle.kw_world.specs.declared.event.Choice.{Choice}
use Rattle.kw_world.specs.declared.event.Choice.TheVariants.{Go}
use Rattle.kw_world.specs.declared.local.Local.{Local}
use Rattle.kw_world.specs.declared.operation.Action.TheVariants.{Load}
use Rattle.kw_world.specs.Calls.{first_key, last_key, is_scan}
use Rattle.kw_world.specs.ListTransitions.{link_name}
use Rattle.kw_world.specs.ReadTransitions.{gathering, get_answered, list_key, list_past, list_reached, row_read, to_left_over}
use Rattle.kw_world.specs.WalkTransitions.{offered}
use Rattle.kw_world.specs.Sizes.{product}
use Rattle.kw_world.specs.Step.{next_of}
use Rattle.kw_world.specs.Table.{transition}
use Rattle.kw_world.specs.Transition.{Outcome, to}
use Rattle.kw_world.proofs.Transitions.{transition_of-next}
use Rattle.kw_core.specs.Stages.{IsAtReadLink, IsTaking}
use Rattle.kw_table.specs.declared.pass.Pass.{Pass}
use Rattle.kw_table.specs.declared.shared.Shared.{Shared}
use Rattle.kw_table.specs.Passes.{view, operation, Asks, Makes}
use Rattle.kw_table.specs.Views.{local_in}
use Rattle.kw_table.proofs.Prefixes.{prefix_longer}
use Rattle.kw_follow.specs.Cursors.{ReadsLeftOver, ReadsWord}
use Rattle.kw_follow.specs.Following.{CarriesOn, Follows, GoesTo, carried}
use Rattle.kw_follow.specs.Moving.{FollowsAt}
use Rattle.kw_follow.specs.Within.{IsAtRemembered}
use Rattle.kw_follow.proofs.Growing.{IsStaying, keeps}
use Rattle.kw_follow.proofs.OneEvent.{follows_from, makes_saw, same_activity}
use Rattle.kw_follow.proofs.PutEvents.{asks_at, next_chosen}

-- Where a reader is.

pub taking_stays : (a : Activity) → IsTaking a → IsStaying a
taking_stays (Activity.Read _) m = tt
taking_stays (Activity.Rebalance (Rebalance.Seek Seek.Next)) m = absurd m
taking_stays _ m = absurd m

-- it reads the row also at a cell that it remembers
pub remembered_taking : (a : Activity) → IsAtRemembered a → IsTaking a
remembered_taking (Activity.Read Read.LeftOverKey) m = tt
remembered_taking (Activity.Read Read.LeftOverValue) m = tt
remembered_taking _ m = absurd m

-- at a link too
pub link_taking : (a : Activity) → IsAtReadLink a → IsTaking a
link_taking (Activity.Read _) x = tt
link_taking _ x = absurd x

-- the load of a link
pub asks_list_link : (s : Shared) (p : Pass) (l : Local) (n : Name) → Follows s p l → IsAtReadLink l.activity → n ≡ link_name l.row l.link → Asks s p Go (operation kind.LoadAfter n Load)
asks_list_link s p l n f at name = subst (λ (m : Name). Asks s p Go (operation kind.LoadAfter m Load)) (sym name) (loads l.activity refl at)
  where
    loads : (a : Activity) → l.activity ≡ a → IsAtReadLink a → Asks s p Go (operation kind.LoadAfter (link_name l.row l.link) Load)
    loads (Activity.Read Read.Start) is x = asks_at s p l (Activity.Read Read.Start) f is tt
    loads (Activity.Read Read.Link) is x = asks_at s p l (Activity.Read Read.Link) f is tt
    loads _ is x = absurd x

-- and what follows from it
pub link_line : (a : Activity) (k : Local) (rows told : ℕ) → IsAtReadLink a → (transition product a 0 Go k).next rows told ≡ list_reached product (cell_of_link_word told) k
link_line (Activity.Read Read.Start) k rows told x = refl
link_line (Activity.Read Read.Link) k rows told x = refl
link_line (Activity.Insert Insert.Link) k rows told x = absurd x
link_line _ k rows told x = absurd x

-- One event of a pass, and of code that follows it.

-- the seat goes on by the table
pub seat_chooses : (s : Shared) (p q : Pass) (c : Choice) (told : ℕ) → Makes s p c told q → local_in (view q) ≡ (next_of product (view p).opening.rows (offered (view p).opening.rows c) (local_in (view p)) told).local
seat_chooses s p q c told makes = makes.step.local ∙ ap (λ (x : Outcome). x.local) (transition_of-next product (view p).opening.rows (view p).number (offered (view p).opening.rows c) (local_in (view p)) told)

pub seat_reads : (s : Shared) (p q : Pass) (told : ℕ) → Makes s p Go told q → local_in (view q) ≡ (next_of product (view p).opening.rows Go (local_in (view p)) told).local
seat_reads s p q told makes = seat_chooses s p q Go told makes

-- a local that has what code has in place of its calls and pairs carries itself
carries_itself : (m : Local) → m.number ≡ 1 → m.pairs ≡ [] → m ≡ carried m
carries_itself m begun added = ap (λ n. record m { number = n }) begun ∙ ap (λ ps. record m { number = 1; pairs = ps }) added

-- code that carries on by the line of its activity follows the pass after the event
pub choice_follows : (s : Shared) (p q : Pass) (l m : Local) (c : Choice) (told : ℕ) (a : Activity) → Follows s p l → Makes s p c told q → l.activity ≡ a → CarriesOn (λ k. (transition product a 0 (offered (view p).opening.rows c) k).next (view p).opening.rows told) l m → Follows s q m
choice_follows s p q l m c told a f makes is on =
    let k : Local = local_in (view p) in
    let rows : ℕ = (view p).opening.rows in
    let seat : record l { number = k.number; pairs = k.pairs } ≡ k = ap (λ (x : Local). record x { number = k.number; pairs = k.pairs }) f.carries in
    let own : m ≡ carried m = carries_itself m (on.number ∙ ap (λ (x : Local). x.number) f.carries) (on.pairs ∙ ap (λ (x : Local). x.pairs) f.carries) in
    follows_from s q m makes.of_table
    (own
    ∙ (on.carries k.number k.pairs
    ∙ (ap (λ (x : Local). carried ((transition product a 0 (offered rows c) x).next rows told).local) seat
    ∙ (ap (λ (x : Outcome). carried x.local) (next_chosen rows (offered rows c) a k told (same_activity s p l f ∙ is))
    ∙ ap carried (sym (seat_chooses s p q c told makes))))))

pub read_follows : (s : Shared) (p q : Pass) (l m : Local) (told : ℕ) (a : Activity) → Follows s p l → Makes s p Go told q → l.activity ≡ a → CarriesOn (λ k. (transition product a 0 Go k).next (view p).opening.rows told) l m → Follows s q m
read_follows s p q l m told a f makes is on = choice_follows s p q l m Go told a f makes is on

-- and the pass has gone on by it
pub goes_by : (s : Shared) (p q : Pass) (c : Choice) (told : ℕ) → Makes s p c told q → GoesTo s p q
goes_by s p q c told makes = record {
  of_table = makes.of_table;
  number = makes.step.number;
  opening = makes.step.opening;
  seen = subst (λ es. IsPrefix (view p).seen es) (sym makes.step.seen) (prefix_longer _ _ _ makes.step.later);
}

-- a reader along its row's list was told a word
pub reads_word : (s : Shared) (p q : Pass) (l : Local) (told : ℕ) → Follows s p l → Makes s p Go told q → IsTaking l.activity → ReadsWord s p l told q
reads_word s p q l told f makes taking = record {
  makes = makes;
  goes = goes_by s p q Go told makes;
  seat = seat_reads s p q told makes;
  saw = makes_saw f makes;
  calls = keeps makes (taking_stays _ (subst IsTaking (sym (same_activity s p l f)) taking));
}

-- a reader was told a word of a cell that it remembers, and code carries on by the line
pub reads_left_over : {s : Shared} {p q : Pass} {m : Local} {told : ℕ} (l : Local) (a : Activity) → FollowsAt s p l a → IsAtRemembered a → Makes s p Go told q → CarriesOn (λ k. (transition product a 0 Go k).next (view p).opening.rows told) l m → ReadsLeftOver s p l q m
reads_left_over {s} {p} {q} {m} {told} l a at left makes on = record {
  told = told;
  reads = reads_word s p q l told at.follows makes (subst IsTaking (sym at.activity) (remembered_taking a left));
  follows = read_follows s p q l m told a at.follows makes at.activity on;
}

-- What carries on.

-- a cell is gathered first
pub gathered_on : (next : Local → Outcome) (value : Option ℕ) (l k m : Local) → k ≡ gathering product value l → CarriesOn next k m → CarriesOn (λ x. next (gathering product value x)) l m
gathered_on next value l k m is on =
    let h : CarriesOn next (gathering product value l) m = subst (λ (x : Local). CarriesOn next x m) is on in
    record { carries = h.carries; number = h.number; pairs = h.pairs }

-- a cell below the range is gone by
pub gone_by_on : (key : ℕ) (l m : Local) → key < first_key l.call → CarriesOn list_past l m → CarriesOn (list_key key) l m
gone_by_on key l m below on =
    let lower : nat_lt key (first_key l.call) ≡ true = lt-ltb key (first_key l.call) below in
    record {
      carries = λ begun added. on.carries begun added ∙ ap (λ (b : Bool). carried (if b then list_past (record l { number = begun; pairs = added }) else if nat_le key (last_key l.call) then to (Activity.Read Read.Version) (record l { number = begun; pairs = added; place_key = key }) else to_left_over (record l { number = begun; pairs = added })).local) (sym lower);
      number = on.number;
      pairs = on.pairs;
    }

-- a call other than a scan has its answer at the end of its row
read_by : (call : Option Call) (l : Local) → is_scan call ≡ false → get_answered (first_key call) l ≡ row_read call l
read_by (Some (Put key value)) l other = refl
read_by (Some (Del key)) l other = refl
read_by (Some (Get key)) l other = refl
read_by (Some (Scan from upto)) l other = let x : true ≡ false = other in absurd (cc)
read_by (Some Pin) l other = refl
read_by (Some (ScanAt from upto)) l other = refl
read_by (Some Unpin) l other = refl
read_by None l other = refl

pub answered_on : (l m : Local) (key : ℕ) → is_scan l.call ≡ false → key ≡ first_key l.call → CarriesOn (get_answered key) l m → CarriesOn (λ k. row_read k.call k) l m
answered_on l m key other is on =
    let h : CarriesOn (get_answered (first_key l.call)) l m = subst (λ (n : ℕ). CarriesOn (get_answered n) l m) is on in
    record {
      carries = λ begun added. h.carries begun added ∙ ap (λ (o : Outcome). carried o.local) (read_by l.call (record l { number = begun; pairs = added }) other);
      number = h.number;
      pairs = h.pairs;
    }
