-- What a seat knows once it has replaced its group, and where it moves when it finds the row before
-- its full one marked.
use Rattle.std.proofs.Common.{ℕ, zero, suc, ◌≡◌, ◌≢◌, ◌⊎◌, inl, inr, ◌+◌, ◌<◌, false, true, List, [], ◌∷◌, Option, Some, None, arith, refl, sym, ◌∙◌, ap, subst, length, slice_get}
use Rattle.std.proofs.lemmas.Option.{same_Some}
use Rattle.kw_words.specs.declared.layout.Name.TheVariants as name
use Rattle.kw_words.specs.declared.link.Link.{Link}
use Rattle.kw_words.specs.Link.{link_of, link_word}
use Rattle.kw_words.proofs.LinkWords.{link_word_of}
use Rattle.kw_rows.specs.Events.{IsIn}
use Rattle.kw_rows.specs.Ledger.{Fate, IsDead, IsFresh, IsHeld, Ledger}
use Rattle.kw_rows.specs.Rows.{WasLinked}
use Rattle.kw_rows.specs.States.{IsNumbered}
use Rattle.kw_rows.proofs.Named.{held_by}
use Rattle.kw_world.specs.declared.activity.Activity.{Activity}
use Rattle.kw_world.specs.declared.activity.rebalance.engage.Engage.TheVariants as Engage
use Rattle.kw_world.specs.declared.activity.rebalance.Rebalance.TheVariants as Rebalance
use Rattle.kw_world.specs.declared.activity.rebalance.replace.Replace.TheVariants as Replace
use Rattle.kw_world.specs.declared.event.Choice.{Choice}
use Rattle.kw_world.specs.declared.local.Local.{Local}
use Rattle.kw_world.specs.declared.rebalance.Afterwards.{Afterwards}
use Rattle.kw_world.specs.declared.rebalance.Afterwards.TheVariants.{TryAgain, Refuse, MoveLeft}
use Rattle.kw_world.specs.GroupPlaces.{at_first_row, at_last_row}
use Rattle.kw_world.specs.ReplaceTransitions.{replaced_link}
use Rattle.kw_world.specs.Sane.{IsHead}
use Rattle.kw_world.specs.SeekTransitions.{at_infant}
use Rattle.kw_world.specs.Sizes.{Sizes}
use Rattle.kw_world.specs.Step.{word}
use Rattle.kw_world.specs.Transition.{row_or_first}
use Rattle.kw_world.specs.WriteTransitions.{unmarked_link}
use Rattle.kw_core.specs.Run.{Run}
use Rattle.kw_core.specs.Stages.{IsBalancing, IsVisiting}
use Rattle.kw_core.specs.Words.{Words, least_in}
use Rattle.kw_core.proofs.Arrows.{Arrow}
use Rattle.kw_core.proofs.Building.{Building, first_is_taken, sought_is_taken, pass_is_old, pass_is_young, takes_row, loses_row, gives_last_back, writes_first, writes_entry, writes_no_cell, writes_after, begins_before, takes_head_before, leads_on_marked, leads_nowhere, walks_past, replaces_row, is_marked_before, is_replaced, makes_normal, makes_last_normal, draws_number, retires_ahead, marked_link}
use Rattle.kw_core.proofs.Fates.{fate_of_full, fate_of_new, number_of_drawn}
use Rattle.kw_core.proofs.Happens.{Happens}
use Rattle.kw_core.proofs.NextBuilt.{GivenBack, is_refused_rows, moves_left, tries_again, NextBack, gives_back, has_none, NextPass, has_looked, looks_on, NextSeek, asks, has_asked, NextTaken, has_enough, wants_more, NextNewCell, empties, fills, has_cells, NextNewEntry, has_entries, writes_idle, NextNewRow, has_written, writes_row, NextBefore, is_behind, is_first, was_done, was_served}
use Rattle.kw_shape.proofs.Comings.{Comes, comes, goes_on, seeks, stays_out, won_builds}
use Rattle.kw_shape.proofs.Hands.{in_group, of_group, same_group}
use Rattle.kw_shape.proofs.InfantsRely.{linked_not_infant}
use Rattle.kw_shape.proofs.LinkedRows.{fresh_linked, held_dead, infants_at, linked_keeps, named_of_group, named_to_retire, retire_fresh}
use Rattle.kw_shape.proofs.RowsKeep.{own_rely, others_kept, rely_rows, won_at}
use Rattle.kw_shape.proofs.VisitsKeep.{old_number}
use Rattle.kw_shape.specs.Hands.{IsOfGroup, IsToRetire}
use Rattle.kw_shape.specs.Infants.{Infants}
use Rattle.kw_shape.specs.RowsIn.{has_mark}
use Rattle.kw_shape.specs.Search.{Search}
use Rattle.kw_shape.specs.Shape.{Shape}
use Rattle.kw_shape.specs.Won.{HasWon, IsNormalising, IsRetiring, Won}

-- the seat begins to rebalance a row
abbrev IsClock : Activity → Type 0
IsClock (Activity.Rebalance (Rebalance.Engage Engage.Clock)) = Unit {0}
IsClock _ = ⊥

-- the seat neither moves to another row nor has replaced its own
abbrev IsPlain : Activity → Type 0
IsPlain a = (IsClock a → ⊥) × (HasWon a → ⊥)

-- Where a part of the building has no event of its own, a seat that is not to move does neither.

given_plain : (c : Afterwards) (k next : Local) → (c ≡ MoveLeft → ⊥) → GivenBack k c next → IsPlain next.activity
given_plain c k next n (tries_again nd) = (λ x. x, λ x. x)
given_plain c k next n (was_done dn) = (λ x. x, λ x. x)
given_plain c k next n (is_refused_rows nd) = (λ x. x, λ x. x)
given_plain c k next n (was_served dn) = (λ x. x, λ x. x)
given_plain c k next n moves_left = absurd (n refl)

back_plain : (c : Afterwards) (k next : Local) → (c ≡ MoveLeft → ⊥) → NextBack c k next → IsPlain next.activity
back_plain c k next n (gives_back o) = (λ x. x, λ x. x)
back_plain c k next n (has_none m o y) = given_plain c k next n y

seek_plain : (rows : ℕ) (k next : Local) → NextSeek rows k next → IsPlain next.activity
seek_plain rows k next (asks o) = (λ x. x, λ x. x)
seek_plain rows k next (has_asked m o y) = back_plain Refuse k next (λ e. cc) y

pass_plain : (z : Sizes) (i : ℕ) (k next : Local) → NextPass z i k next → IsPlain next.activity
pass_plain z i k next (looks_on o) = (λ x. x, λ x. x)
pass_plain z i k next (has_looked o) = (λ x. x, λ x. x)

taken_plain : (rows : ℕ) (k next : Local) → NextTaken rows k next → IsPlain next.activity
taken_plain rows k next (wants_more m o y) = seek_plain rows k next y
taken_plain rows k next (has_enough o) = (λ x. x, λ x. x)

row_plain : (k next : Local) → NextNewRow k next → IsPlain next.activity
row_plain k next (writes_row o) = (λ x. x, λ x. x)
row_plain k next (has_written o) = (λ x. x, λ x. x)

cell_plain : (z : Sizes) (j : ℕ) (k next : Local) → NextNewCell z j k next → IsPlain next.activity
cell_plain z j k next (fills o p) = (λ x. x, λ x. x)
cell_plain z j k next (empties o p) = (λ x. x, λ x. x)
cell_plain z j k next (has_cells m o y) = row_plain k next y

entry_plain : (z : Sizes) (i : ℕ) (k next : Local) → NextNewEntry z i k next → IsPlain next.activity
entry_plain z i k next (writes_idle o) = (λ x. x, λ x. x)
entry_plain z i k next (has_entries m o y) = cell_plain z 0 k next y

before_plain : (q : ℕ) (k next : Local) → NextBefore q k next → IsPlain next.activity
before_plain q k next (is_first e) = (λ x. x, λ x. x)
before_plain q k next (is_behind d) = (λ x. x, λ x. x)

-- a seat that has given all rows back to move has not replaced its row
given_unwon : (c : Afterwards) (k next : Local) → GivenBack k c next → HasWon next.activity → ⊥
given_unwon c k next (tries_again nd) x = x
given_unwon c k next (was_done dn) x = x
given_unwon c k next (is_refused_rows nd) x = x
given_unwon c k next (was_served dn) x = x
given_unwon c k next moves_left x = x

back_unwon : (c : Afterwards) (k next : Local) → NextBack c k next → HasWon next.activity → ⊥
back_unwon c k next (gives_back o) x = x
back_unwon c k next (has_none m o y) x = given_unwon c k next y x

-- The row to which a seat moves.

-- it may name the row, and knows its least key; no row goes along with it as yet
pub record Moves (v : Words) (g : Ledger) (t : ℕ) (k : Local) : Type 0 where
  pub fresh : IsFresh g t k.row
  pub lower : k.lower ≡ least_in v k.row
  pub alone : k.rebalance.second ≡ None

module _ (v : Words) (g : Ledger) (t : ℕ) (l : Local) where
  -- it is the one before the full row
  arrives : (p : ℕ) → l.rebalance.before ≡ Some p → IsFresh g t p → l.rebalance.least ≡ least_in v p → (next : Local) → GivenBack l MoveLeft next → Moves v g t next
  arrives p e f m next moves_left = record { fresh = subst (λ b. IsFresh g t (row_or_first b)) (sym e) f; lower = m ∙ ap (λ b. least_in v (row_or_first b)) (sym e); alone = refl }

  back_moves : (p : ℕ) → l.rebalance.before ≡ Some p → IsFresh g t p → l.rebalance.least ≡ least_in v p → (next : Local) → NextBack MoveLeft l next → IsClock next.activity → Moves v g t next
  back_moves p e f m next (gives_back o) x = absurd x
  back_moves p e f m next (has_none k o y) x = arrives p e f m next y

  given_moves : (c : Afterwards) → l.rebalance.afterwards ≡ c → (next : Local) → GivenBack l c next → IsClock next.activity → (c ≡ MoveLeft → Moves v g t next) → Moves v g t next
  given_moves c e next (tries_again nd) x f = absurd x
  given_moves c e next (was_done dn) x f = absurd x
  given_moves c e next (is_refused_rows nd) x f = absurd x
  given_moves c e next (was_served dn) x f = absurd x
  given_moves c e next moves_left x f = f refl

  -- a mark in the link of the head is seen nowhere
  marked_moves : (b : Option ℕ) → l.rebalance.before ≡ b → link_of (v (replaced_link b)) ≡ Some (marked_link (Some l.row)) → (link_of (v name.Head) ≡ Some (marked_link (Some l.row)) → ⊥) → Search v g t (Activity.Rebalance (Rebalance.Replace Replace.Exchange)) l → (next : Local) → NextBack MoveLeft l next → IsClock next.activity → Moves v g t next
  marked_moves (Some p) e k head s next y x = back_moves p e (s.fresh p tt e) (s.least p tt e) next y x
  marked_moves None e k head s next y x = absurd (head k)

  pub moves_by : (z : Sizes) (choice : Choice) (a : Activity) (k : Local) → Building z v choice l a k → (link_of (v name.Head) ≡ Some (marked_link (Some l.row)) → ⊥) → Search v g t a l → k.activity ≡ Activity.Rebalance (Rebalance.Engage Engage.Clock) → Moves v g t k
  moves_by z choice a k b head s e = by b s (subst IsClock (sym e) tt)
    where
      by : {c : Activity} {m : Local} → Building z v choice l c m → Search v g t c l → IsClock m.activity → Moves v g t m
      by (first_is_taken q rows next f n y) s x = absurd ((seek_plain rows _ next y).0 x)
      by (sought_is_taken rows next n y) s x = absurd ((seek_plain rows _ next y).0 x)
      by (pass_is_old i epoch rows next f o y) s x = absurd ((seek_plain rows _ next y).0 x)
      by (pass_is_young i next o y) s x = absurd ((pass_plain z _ l next y).0 x)
      by (takes_row rows next f y) s x = absurd ((taken_plain rows _ next y).0 x)
      by (loses_row rows next d y) s x = absurd ((seek_plain rows _ next y).0 x)
      by (gives_last_back next o y) s x = given_moves l.rebalance.afterwards refl next y x (λ f. let p = s.some f in arrives p.0 p.1 (s.fresh p.0 f p.1) (s.least p.0 f p.1) next (subst (λ c. GivenBack l c next) f y))
      by (writes_first next y) s x = absurd ((entry_plain z 0 l next y).0 x)
      by (writes_entry j next y) s x = absurd ((entry_plain z (j + 1) l next y).0 x)
      by (writes_no_cell j next o y) s x = absurd ((cell_plain z (j + 1) l next y).0 x)
      by (writes_after j next y) s x = absurd ((cell_plain z (j + 1) l next y).0 x)
      by (begins_before next y) s x = absurd ((before_plain _ l next y).0 x)
      by (takes_head_before next y) s x = absurd ((before_plain _ l next y).0 x)
      by (leads_on_marked next f y) s x = let p = s.some tt in back_moves p.0 p.1 (s.fresh p.0 tt p.1) (s.least p.0 tt p.1) next y x
      by (leads_nowhere next f y) s x = absurd ((back_plain TryAgain l next (λ c. cc) y).0 x)
      by (walks_past next o y) s x = absurd ((back_plain TryAgain l next (λ c. cc) y).0 x)
      by (is_marked_before next f y) s x = marked_moves l.rebalance.before refl f head s next y x
      by (is_replaced next d y) s x = absurd ((back_plain TryAgain l next (λ c. cc) y).0 x)
      by _ s x = absurd x

-- the link of the head is not marked
unmarked_head : (rows q : ℕ) (x : Option Link) → IsHead rows x → x ≡ Some (marked_link (Some q)) → ⊥
unmarked_head rows q (Some link) h e = let c : true ≡ false = sym (ap has_mark e) ∙ h.1 in cc
unmarked_head rows q None h e = h

pub head_open : (z : Sizes) (r : Run) → Shape z r → (q : ℕ) → link_of (word z r.world name.Head) ≡ Some (marked_link (Some q)) → ⊥
head_open z r i q e = unmarked_head r.world.rows q _ (i.sane.led name.Head tt) e

-- What a seat knows of the rows that it has replaced.

normal_won : (a : Activity) → IsNormalising a → HasWon a
normal_won (Activity.Rebalance (Rebalance.Replace Replace.Normalise)) x = tt
normal_won _ x = absurd x

retire_won : (a : Activity) → IsRetiring a → HasWon a
retire_won (Activity.Rebalance (Rebalance.Replace Replace.Retire)) x = tt
retire_won _ x = absurd x

won_visits : (a : Activity) → HasWon a → IsVisiting a
won_visits (Activity.Rebalance (Rebalance.Replace Replace.Normalise)) x = tt
won_visits (Activity.Rebalance (Rebalance.Replace Replace.Number)) x = tt
won_visits (Activity.Rebalance (Rebalance.Replace Replace.Retire)) x = tt
won_visits _ x = absurd x

-- it rebalances its row
pub won_balances : (a : Activity) → HasWon a → IsBalancing a
won_balances (Activity.Rebalance (Rebalance.Replace Replace.Normalise)) x = tt
won_balances (Activity.Rebalance (Rebalance.Replace Replace.Number)) x = tt
won_balances (Activity.Rebalance (Rebalance.Replace Replace.Retire)) x = tt
won_balances _ x = absurd x

-- it has some still to retire: the one at hand, as soon as that has its number
pub to_retire_won : (a : Activity) (k : Local) (q : ℕ) → IsToRetire a k q → HasWon a
to_retire_won (Activity.Rebalance (Rebalance.Replace Replace.Normalise)) k q x = tt
to_retire_won (Activity.Rebalance (Rebalance.Replace Replace.Number)) k q x = tt
to_retire_won (Activity.Rebalance (Rebalance.Replace Replace.Retire)) k q x = tt
to_retire_won _ k q x = absurd x

hand_to_retire : (a : Activity) (k : Local) → IsRetiring a → IsToRetire a k k.rebalance.hand
hand_to_retire (Activity.Rebalance (Rebalance.Replace Replace.Retire)) k x = inl refl
hand_to_retire _ k x = absurd x

-- elsewhere nothing
pub unwon : (g : Ledger) (t : ℕ) (a : Activity) (k : Local) → (HasWon a → ⊥) → Won g t a k
unwon g t a k n = record { hand = λ x. absurd (n (normal_won a x)); fresh = λ x. absurd (n (normal_won a x)); dead = λ q x. absurd (n (to_retire_won a k q x)); owner = λ q x. absurd (n (to_retire_won a k q x)); number = λ x. absurd (n (retire_won a x)) }

-- a row that stands at some place of a list is in it
pub in_list : (xs : List ℕ) (i q : ℕ) → slice_get xs i ≡ Some q → IsIn xs q
in_list [] zero q e = let x : None ≡ Some q = e in absurd (cc)
in_list [] (suc i) q e = let x : None ≡ Some q = e in absurd (cc)
in_list (x ∷ xs) zero q e = inl (sym (same_Some x q e))
in_list (x ∷ xs) (suc i) q e = inr (in_list xs i q e)

-- a seat has replaced its group, or has not
has_won : (a : Activity) → HasWon a ⊎ (HasWon a → ⊥)
has_won (Activity.Rebalance (Rebalance.Replace Replace.Normalise)) = inl tt
has_won (Activity.Rebalance (Rebalance.Replace Replace.Number)) = inl tt
has_won (Activity.Rebalance (Rebalance.Replace Replace.Retire)) = inl tt
has_won _ = inr (λ x. x)

-- how it comes to that: it does so now, or it goes on from there
pub data WonBy (v : Words) (l : Local) : Activity → Local → Type 0 where
  wins_now : link_of (v (replaced_link l.rebalance.before)) ≡ Some (unmarked_link (Some l.row)) → WonBy v l (Activity.Rebalance (Rebalance.Replace Replace.Exchange)) (record (at_infant 0 l) { activity = Activity.Rebalance (Rebalance.Replace Replace.Normalise) })
  has_next : l.rebalance.at + 1 < length l.rebalance.taken → WonBy v l (Activity.Rebalance (Rebalance.Replace Replace.Normalise)) (record (at_infant (l.rebalance.at + 1) l) { activity = Activity.Rebalance (Rebalance.Replace Replace.Normalise) })
  was_last : WonBy v l (Activity.Rebalance (Rebalance.Replace Replace.Normalise)) (record (at_first_row l) { activity = Activity.Rebalance (Rebalance.Replace Replace.Number) })
  has_number : WonBy v l (Activity.Rebalance (Rebalance.Replace Replace.Number)) (record l { rebalance = record l.rebalance { number = v name.Epoch }; activity = Activity.Rebalance (Rebalance.Replace Replace.Retire) })
  has_ahead : (q : ℕ) → l.rebalance.ahead ≡ Some q → WonBy v l (Activity.Rebalance (Rebalance.Replace Replace.Retire)) (record (at_last_row q l) { activity = Activity.Rebalance (Rebalance.Replace Replace.Number) })

pub won_by : (z : Sizes) (v : Words) (choice : Choice) (l : Local) (a : Activity) (k : Local) → Building z v choice l a k → HasWon k.activity → WonBy v l a k
won_by z v choice l a k (first_is_taken q rows next f n y) x = absurd ((seek_plain rows _ next y).1 x)
won_by z v choice l a k (sought_is_taken rows next n y) x = absurd ((seek_plain rows _ next y).1 x)
won_by z v choice l a k (pass_is_old j epoch rows next f o y) x = absurd ((seek_plain rows _ next y).1 x)
won_by z v choice l a k (pass_is_young j next o y) x = absurd ((pass_plain z _ l next y).1 x)
won_by z v choice l a k (takes_row rows next f y) x = absurd ((taken_plain rows _ next y).1 x)
won_by z v choice l a k (loses_row rows next d y) x = absurd ((seek_plain rows _ next y).1 x)
won_by z v choice l a k (gives_last_back next o y) x = absurd (given_unwon l.rebalance.afterwards l next y x)
won_by z v choice l a k (writes_first next y) x = absurd ((entry_plain z 0 l next y).1 x)
won_by z v choice l a k (writes_entry j next y) x = absurd ((entry_plain z (j + 1) l next y).1 x)
won_by z v choice l a k (writes_no_cell j next o y) x = absurd ((cell_plain z (j + 1) l next y).1 x)
won_by z v choice l a k (writes_after j next y) x = absurd ((cell_plain z (j + 1) l next y).1 x)
won_by z v choice l a k (begins_before next y) x = absurd ((before_plain _ l next y).1 x)
won_by z v choice l a k (takes_head_before next y) x = absurd ((before_plain _ l next y).1 x)
won_by z v choice l a k (leads_on_marked next f y) x = absurd (back_unwon MoveLeft l next y x)
won_by z v choice l a k (leads_nowhere next f y) x = absurd (back_unwon TryAgain l next y x)
won_by z v choice l a k (walks_past next o y) x = absurd (back_unwon TryAgain l next y x)
won_by z v choice l a k (is_marked_before next f y) x = absurd (back_unwon MoveLeft l next y x)
won_by z v choice l a k (is_replaced next d y) x = absurd (back_unwon TryAgain l next y x)
won_by z v choice l a k (replaces_row e) x = wins_now e
won_by z v choice l a k (makes_normal o) x = has_next o
won_by z v choice l a k (makes_last_normal o) x = was_last
won_by z v choice l a k draws_number x = has_number
won_by z v choice l a k (retires_ahead q e) x = has_ahead q e
won_by z v choice l a k _ x = absurd x

module _ {z : Sizes} {r r' : Run} {s : ℕ} {choice : Choice} {l l' : Local} where
  -- a dead row that some seat may name is as it was
  dead_fate : (a : Activity) → Happens z r r' s choice l l' a → Shape z r → (q : ℕ) → IsHeld r.ledger.rows q → IsDead r.ledger.rows q → r'.ledger.rows.fates q ≡ r.ledger.rows.fates q
  dead_fate a h i q o d = held_dead _ _ r.ledger.rows r'.ledger.rows q o d (linked_keeps a h i q (inr d))

  -- so it is dead still, and has the same owner
  still_dead : (a : Activity) → Happens z r r' s choice l l' a → Shape z r → (q : ℕ) → IsHeld r.ledger.rows q → IsDead r.ledger.rows q → IsDead r'.ledger.rows q
  still_dead a h i q o d = ap (λ (f : Fate). f.status) (dead_fate a h i q o d) ∙ d

  still_owner : (a : Activity) → Happens z r r' s choice l l' a → Shape z r → (t q : ℕ) → IsHeld r.ledger.rows q → IsDead r.ledger.rows q → (r.ledger.rows.fates q).owner ≡ t → (r'.ledger.rows.fates q).owner ≡ t
  still_owner a h i t q o d e = ap (λ (f : Fate). f.owner) (dead_fate a h i q o d) ∙ e

  -- a number that was drawn after it went is so still
  still_numbered : (a : Activity) → Happens z r r' s choice l l' a → Shape z r → (q m : ℕ) → IsHeld r.ledger.rows q → IsDead r.ledger.rows q → IsNumbered r.ledger.rows q m → IsNumbered r'.ledger.rows q m
  still_numbered a h i q m o d n = record { at = n.at; drawn = old_number a h m (i.numbers.below m n.at n.drawn) ∙ n.drawn; after = omega (arith, n.after, ap (λ (f : Fate). f.gone) (dead_fate a h i q o d)) }

  -- so each row that the seat has still to retire is dead still, and its own
  held_to_retire : (a : Activity) → Happens z r r' s choice l l' a → Shape z r → (q : ℕ) → IsToRetire a l q → IsHeld r.ledger.rows q
  held_to_retire a h i q x = held_by r.ledger.rows s q (named_to_retire a h i q x)

  dead_to_retire : (a : Activity) → Happens z r r' s choice l l' a → Shape z r → (q : ℕ) → IsToRetire a l q → IsDead r'.ledger.rows q
  dead_to_retire a h i q x = still_dead a h i q (held_to_retire a h i q x) ((won_at a h i).dead q x)

  owner_to_retire : (a : Activity) → Happens z r r' s choice l l' a → Shape z r → (q : ℕ) → IsToRetire a l q → (r'.ledger.rows.fates q).owner ≡ s
  owner_to_retire a h i q x = still_owner a h i s q (held_to_retire a h i q x) ((won_at a h i).dead q x) ((won_at a h i).owner q x)

  -- the seat that replaces its group knows the new rows, and that its own are dead
  wins : Happens z r r' s choice l l' (Activity.Rebalance (Rebalance.Replace Replace.Exchange)) → Shape z r → link_of (word z r.world (replaced_link l.rebalance.before)) ≡ Some (unmarked_link (Some l.row)) → (k : Local) → k.rebalance.taken ≡ l.rebalance.taken → k.rebalance.at ≡ 0 → k.row ≡ l.row → k.rebalance.second ≡ l.rebalance.second → Won r'.ledger.rows s (Activity.Rebalance (Rebalance.Replace Replace.Normalise)) k
  wins h i e k taken at row second = record {
    hand = λ x. omega (arith, at, ap length taken, (infants.enough tt).0);
    fresh = λ x j q f. fresh j q (subst (λ ys. slice_get ys j ≡ Some q) taken f);
    dead = λ q x. ap (λ (f : Fate). f.status) (fate_of_full h won q (in_group l q (same_group l k row second q x)));
    owner = λ q x. ap (λ (f : Fate). f.owner) (fate_of_full h won q (in_group l q (same_group l k row second q x)));
    number = λ x. absurd x;
  }
    where
      infants : Infants z (word z r.world) r.ledger.rows s (Activity.Rebalance (Rebalance.Replace Replace.Exchange)) l
      infants = infants_at (Activity.Rebalance (Rebalance.Replace Replace.Exchange)) h i

      won : word z r.world (replaced_link l.rebalance.before) ≡ link_word (unmarked_link (Some l.row))
      won = sym (link_word_of (word z r.world (replaced_link l.rebalance.before)) (unmarked_link (Some l.row)) e)

      linked : (q : ℕ) → IsOfGroup l q → WasLinked r.ledger.rows q
      linked q o = fresh_linked r.ledger.rows s q (named_of_group (Activity.Rebalance (Rebalance.Replace Replace.Exchange)) tt h i q o)

      fresh : (j q : ℕ) → slice_get l.rebalance.taken j ≡ Some q → IsFresh r'.ledger.rows s q
      fresh j q f = inl (ap (λ (f : Fate). f.status) (fate_of_new h won q (in_list l.rebalance.taken j q f) (λ c. linked_not_infant r.ledger.rows s q (linked q (of_group l q c)) (infants.owned j q tt f))))

  -- one that makes its new rows normal may name them still
  still_fresh : Happens z r r' s choice l l' (Activity.Rebalance (Rebalance.Replace Replace.Normalise)) → Shape z r → (q : ℕ) → IsFresh r.ledger.rows s q → IsFresh r'.ledger.rows s q
  still_fresh h i q f = (own_rely z r r' s choice l (Activity.Rebalance (Rebalance.Replace Replace.Normalise)) l' h i tt (λ x. x)).fresh q f

  -- by the way that it came
  knows_won : (a : Activity) (k : Local) → WonBy (word z r.world) l a k → Happens z r r' s choice l l' a → Shape z r → Won r'.ledger.rows s k.activity k
  knows_won a k (wins_now e) h i = wins h i e _ refl refl refl refl
  knows_won a k (has_next o) h i = record {
    hand = λ x. o;
    fresh = λ x j q f. still_fresh h i q ((won_at (Activity.Rebalance (Rebalance.Replace Replace.Normalise)) h i).fresh tt j q f);
    dead = dead_to_retire (Activity.Rebalance (Rebalance.Replace Replace.Normalise)) h i;
    owner = owner_to_retire (Activity.Rebalance (Rebalance.Replace Replace.Normalise)) h i;
    number = λ x. absurd x;
  }
  knows_won a k was_last h i = record {
    hand = λ x. absurd x;
    fresh = λ x. absurd x;
    dead = dead_to_retire (Activity.Rebalance (Rebalance.Replace Replace.Normalise)) h i;
    owner = owner_to_retire (Activity.Rebalance (Rebalance.Replace Replace.Normalise)) h i;
    number = λ x. absurd x;
  }
  knows_won a k has_number h i =
      let held = held_to_retire (Activity.Rebalance (Rebalance.Replace Replace.Number)) h i l.rebalance.hand (inl refl) in
      let dead = (won_at (Activity.Rebalance (Rebalance.Replace Replace.Number)) h i).dead l.rebalance.hand (inl refl) in
      record {
        hand = λ x. absurd x;
        fresh = λ x. absurd x;
        dead = dead_to_retire (Activity.Rebalance (Rebalance.Replace Replace.Number)) h i;
        owner = owner_to_retire (Activity.Rebalance (Rebalance.Replace Replace.Number)) h i;
        number = λ x. record { at = length r.history.log; drawn = number_of_drawn h; after = omega (arith, i.rows.past.gone l.rebalance.hand dead, ap (λ (f : Fate). f.gone) (dead_fate (Activity.Rebalance (Rebalance.Replace Replace.Number)) h i l.rebalance.hand held dead)) };
      }
  knows_won a k (has_ahead p e) h i = record {
    hand = λ x. absurd x;
    fresh = λ x. absurd x;
    dead = λ q x. dead_to_retire (Activity.Rebalance (Rebalance.Replace Replace.Retire)) h i q (ahead q x);
    owner = λ q x. owner_to_retire (Activity.Rebalance (Rebalance.Replace Replace.Retire)) h i q (ahead q x);
    number = λ x. absurd x;
  }
    where
      ahead : (q : ℕ) → (q ≡ p) ⊎ (None ≡ Some q) → IsToRetire (Activity.Rebalance (Rebalance.Replace Replace.Retire)) l q
      ahead q (inl f) = inr (e ∙ ap Some (sym f))
      ahead q (inr f) = let x : None ≡ Some q = f in absurd (cc)

  -- so the acting seat knows what it should
  pub won_own : (a : Activity) → Arrow z (word z r.world) s choice l a l' → Happens z r r' s choice l l' a → Shape z r → Won r'.ledger.rows s l'.activity l'
  won_own a b h i = which (comes z (word z r.world) s choice l a l' b)
    where
      which : Comes z (word z r.world) choice l a l' → Won r'.ledger.rows s l'.activity l'
      which (stays_out n) = unwon r'.ledger.rows s l'.activity l' (λ x. n (won_builds l'.activity x))
      which (seeks e t) = unwon r'.ledger.rows s l'.activity l' (λ x. subst HasWon e x)
      which (goes_on o t) = won (has_won l'.activity)
        where
          won : HasWon l'.activity ⊎ (HasWon l'.activity → ⊥) → Won r'.ledger.rows s l'.activity l'
          won (inl x) = knows_won a l' (won_by z (word z r.world) choice l a l' t x) h i
          won (inr n) = unwon r'.ledger.rows s l'.activity l' n

  -- and so does every other one
  pub won_other : (a : Activity) → Happens z r r' s choice l l' a → Shape z r → (t : ℕ) (k : Local) → t ≢ s → slice_get r.world.locals t ≡ Some k → Won r'.ledger.rows t k.activity k
  won_other a h i t k d g = record {
    hand = w.hand;
    fresh = λ x j q f. let p = (i.visits t k g).in_visit (won_visits k.activity (normal_won k.activity x)) in (rely_rows a h i t p.since p.visits (others_kept a h t d ∙ p.visits)).fresh q (w.fresh x j q f);
    dead = λ q x. still_dead a h i q (held q x) (w.dead q x);
    owner = λ q x. still_owner a h i t q (held q x) (w.dead q x) (w.owner q x);
    number = λ x. let y = hand_to_retire k.activity k x in still_numbered a h i k.rebalance.hand k.rebalance.number (held k.rebalance.hand y) (w.dead k.rebalance.hand y) (w.number x);
  }
    where
      w : Won r.ledger.rows t k.activity k
      w = i.won t k g

      held : (q : ℕ) → IsToRetire k.activity k q → IsHeld r.ledger.rows q
      held q x = held_by r.ledger.rows t q (retire_fresh z r i t k g q x)
