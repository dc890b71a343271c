-- How an event changes the stage of a seat that takes, writes or links new rows.
use Rattle.std.proofs.Common.{ℕ, Bool, ◌≡◌, ◌+◌, ◌==◌, true, false, [], ◌∷◌, Option, None, Some, arith, refl, sym, ◌∙◌, ap, length}
use Rattle.std.proofs.lemmas.List.{length-append}
use Rattle.kw_words.specs.declared.layout.Name.TheVariants as name
use Rattle.kw_words.specs.declared.state.State.TheVariants.{Free}
use Rattle.kw_words.specs.declared.link.Link.{Link}
use Rattle.kw_words.specs.Link.{link_of}
use Rattle.kw_words.specs.State.{state_word}
use Rattle.kw_windows.specs.Builders.{Asking, Building, Elsewhere}
use Rattle.kw_world.specs.declared.activity.Activity.{Activity}
use Rattle.kw_world.specs.declared.activity.rebalance.Rebalance.TheVariants as Rebalance
use Rattle.kw_world.specs.declared.activity.rebalance.replace.Replace.TheVariants as Replace
use Rattle.kw_world.specs.declared.activity.rebalance.seek.Seek.{Seek}
use Rattle.kw_world.specs.declared.activity.rebalance.write.Write.{Write}
use Rattle.kw_world.specs.declared.event.Choice.{Choice}
use Rattle.kw_world.specs.declared.local.Local.{Local}
use Rattle.kw_world.specs.declared.rebalance.Afterwards.{Afterwards}
use Rattle.kw_world.specs.declared.rebalance.Afterwards.TheVariants.{MoveLeft, Refuse, TryAgain}
use Rattle.kw_world.specs.ReplaceTransitions.{replaced_link}
use Rattle.kw_world.specs.SeekTransitions.{seeking, with_row}
use Rattle.kw_world.specs.Sizes.{Sizes}
use Rattle.kw_world.specs.Transition.{row_linked, row_or_first}
use Rattle.kw_world.specs.WriteTransitions.{unmarked_link}
use Rattle.kw_core.specs.Stages.{is_put}
use Rattle.kw_core.specs.Words.{Words}
use Rattle.kw_core.proofs.Building as core
use Rattle.kw_core.proofs.Building.{begins_before, first_is_taken, gives_last_back, is_marked_before, is_replaced, leads_nowhere, leads_on_marked, loses_row, pass_is_old, pass_is_young, replaces_row, retires_and_leaves, sought_is_taken, takes_head_before, takes_row, walks_past, writes_after, writes_entry, writes_first, writes_no_cell}
use Rattle.kw_core.proofs.NextBuilt.{GivenBack, NextBack, NextBefore, NextNewCell, NextNewEntry, NextNewRow, NextPass, NextSeek, NextTaken, asks, empties, fills, gives_back, has_asked, has_cells, has_enough, has_entries, has_looked, has_none, has_written, is_behind, is_first, is_refused_rows, looks_on, moves_left, tries_again, wants_more, was_done, was_served, writes_idle, writes_row}
use Rattle.kw_shape.specs.Infants.{HasAll, nursing_of}
use Rattle.kw_shape.specs.Keyed.{IsPlanned}
use Rattle.kw_used.specs.Seats.{building, held_at, refusing, stage_at}

-- its build takes a row, and is at its full row still
pub record TakesOne (l k : Local) : Type 0 where
  pub planned : IsPlanned (nursing_of k.activity)
  pub more : length k.rebalance.taken ≡ length l.rebalance.taken + 1
  pub stays : (wins n : ℕ) → stage_at wins (Some n) k.activity k ≡ Building l.row (n == wins)

-- what becomes of its stage
pub data BuildTurn (v : Words) (wins : ℕ) (begun : Option ℕ) (l : Local) (a : Activity) (k : Local) : Type 0 where
  -- it stays where it is
  builds_on : stage_at wins begun k.activity k ≡ stage_at wins begun a l → held_at (stage_at wins begun k.activity k) (length k.rebalance.taken) ≡ held_at (stage_at wins begun a l) (length l.rebalance.taken) → BuildTurn v wins begun l a k
  -- it takes a row
  takes_one : a ≡ Activity.Rebalance (Rebalance.Seek Seek.Take) → v (name.State l.rebalance.sought) ≡ state_word Free → TakesOne l k → BuildTurn v wins begun l a k
  -- its put was done before
  was_tidy : l.tidies ≡ true → BuildTurn v wins begun l a k
  -- it is refused
  finds_none : stage_at wins begun a l ≡ building wins l.row begun → stage_at wins begun k.activity k ≡ refusing (is_put l.call) → BuildTurn v wins begun l a k
  -- it gives its rows back, and tries again or moves left
  begins_again : a ≡ Activity.Rebalance (Rebalance.Seek Seek.GiveBack) → l.rebalance.afterwards ≡ TryAgain → stage_at wins begun k.activity k ≡ Elsewhere → BuildTurn v wins begun l a k
  moves_on : a ≡ Activity.Rebalance (Rebalance.Seek Seek.GiveBack) → l.rebalance.afterwards ≡ MoveLeft → stage_at wins begun k.activity k ≡ Asking (row_or_first l.rebalance.before) → BuildTurn v wins begun l a k
  -- it has linked no row, which can't be
  has_nothing : HasAll (nursing_of a) → length l.rebalance.taken ≡ 0 → BuildTurn v wins begun l a k
  -- it replaces its row
  wins_row : a ≡ Activity.Rebalance (Rebalance.Replace Replace.Exchange) → link_of (v (replaced_link l.rebalance.before)) ≡ Some (unmarked_link (Some l.row)) → BuildTurn v wins begun l a k

module _ (z : Sizes) (v : Words) (choice : Choice) (wins : ℕ) (begun : Option ℕ) where
  -- Where a part has no event of its own. The seat knew m there, as l but for its search.

  -- it seeks: rows are given back, or none was taken
  refuse_turns : (l m next : Local) (e : Seek) → stage_at wins begun (Activity.Rebalance (Rebalance.Seek e)) l ≡ building wins l.row begun → m.row ≡ l.row → m.call ≡ l.call → m.tidies ≡ l.tidies → m.rebalance.taken ≡ l.rebalance.taken → NextBack Refuse m next → BuildTurn v wins begun l (Activity.Rebalance (Rebalance.Seek e)) next
  refuse_turns l m next e q r c d t (gives_back o) = builds_on (ap (λ x. building wins x begun) r) (rw (r, t) refl)
  refuse_turns l m next e q r c d t (has_none x o (is_refused_rows n)) = finds_none refl (rw c refl)
  refuse_turns l m next e q r c d t (has_none x o (was_served n)) = was_tidy (sym d ∙ n)

  seek_turns : (rows : ℕ) (l m next : Local) (e : Seek) → m.row ≡ l.row → m.call ≡ l.call → m.tidies ≡ l.tidies → m.rebalance.taken ≡ l.rebalance.taken → NextSeek rows m next → BuildTurn v wins begun l (Activity.Rebalance (Rebalance.Seek e)) next
  seek_turns rows l m next e r c d t (asks o) = builds_on (ap (λ x. building wins x begun) r) (rw (r, t) refl)
  seek_turns rows l m next e r c d t (has_asked x o n) = refuse_turns l m x e refl r c d t n

  pass_turns : (i : ℕ) (l next : Local) (e : Seek) → NextPass z i l next → BuildTurn v wins begun l (Activity.Rebalance (Rebalance.Seek e)) next
  pass_turns i l next e (looks_on o) = builds_on refl refl
  pass_turns i l next e (has_looked o) = builds_on refl refl

  -- it takes a row: it has taken one at least
  one_more : (l : Local) → length (with_row l).rebalance.taken ≡ length l.rebalance.taken + 1
  one_more l = length-append l.rebalance.taken (l.rebalance.sought ∷ [])

  full_turns : (l next : Local) → NextBack Refuse (with_row l) next → TakesOne l next
  full_turns l next (gives_back o) = record { planned = tt; more = one_more l; stays = λ w n. refl }
  full_turns l next (has_none x o n) = absurd (omega (arith, one_more l, o))

  row_turns : (rows : ℕ) (l next : Local) → NextSeek rows (with_row l) next → TakesOne l next
  row_turns rows l next (asks o) = record { planned = tt; more = one_more l; stays = λ w n. refl }
  row_turns rows l next (has_asked x o n) = full_turns l x n

  taken_turns : (rows : ℕ) (l next : Local) → NextTaken rows (with_row l) next → TakesOne l next
  taken_turns rows l next (wants_more x o n) = row_turns rows l x n
  taken_turns rows l next (has_enough o) = record { planned = tt; more = one_more l; stays = λ w n. refl }

  -- it writes
  write_row_turns : (l next : Local) (e : Write) → NextNewRow l next → BuildTurn v wins begun l (Activity.Rebalance (Rebalance.Write e)) next
  write_row_turns l next e (writes_row o) = builds_on refl refl
  write_row_turns l next e (has_written o) = builds_on refl refl

  write_cell_turns : (j : ℕ) (l next : Local) (e : Write) → NextNewCell z j l next → BuildTurn v wins begun l (Activity.Rebalance (Rebalance.Write e)) next
  write_cell_turns j l next e (fills o p) = builds_on refl refl
  write_cell_turns j l next e (empties o p) = builds_on refl refl
  write_cell_turns j l next e (has_cells x o n) = write_row_turns l x e n

  write_entry_turns : (i : ℕ) (l next : Local) (e : Write) → NextNewEntry z i l next → BuildTurn v wins begun l (Activity.Rebalance (Rebalance.Write e)) next
  write_entry_turns i l next e (writes_idle o) = builds_on refl refl
  write_entry_turns i l next e (has_entries x o n) = write_cell_turns 0 l x e n

  -- it seeks the row before its own
  head_turns : (q : ℕ) (l next : Local) (a : Activity) → stage_at wins begun a l ≡ building wins l.row begun → NextBefore q l next → BuildTurn v wins begun l a next
  head_turns q l next a e (is_first d) = builds_on (sym e) (ap (λ x. held_at x (length l.rebalance.taken)) (sym e))
  head_turns q l next a e (is_behind d) = builds_on (sym e) (ap (λ x. held_at x (length l.rebalance.taken)) (sym e))

  back_turns : (c : Afterwards) (l next : Local) (a : Activity) → stage_at wins begun a l ≡ building wins l.row begun → HasAll (nursing_of a) → NextBack c l next → BuildTurn v wins begun l a next
  back_turns c l next a e x (gives_back o) = builds_on (sym e) (ap (λ y. held_at y (length l.rebalance.taken)) (sym e))
  back_turns c l next a e x (has_none m o n) = has_nothing x o

  given_turns : (l next : Local) (c : Afterwards) → l.rebalance.afterwards ≡ c → GivenBack l c next → BuildTurn v wins begun l (Activity.Rebalance (Rebalance.Seek Seek.GiveBack)) next
  given_turns l next c e (tries_again n) = begins_again refl e refl
  given_turns l next c e (was_done d) = was_tidy d
  given_turns l next c e (is_refused_rows n) = finds_none refl refl
  given_turns l next c e (was_served d) = was_tidy d
  given_turns l next c e moves_left = moves_on refl e refl

  -- where the row that it tries to take is free
  pub taken_turn : (l k : Local) → core.Building z v choice l (Activity.Rebalance (Rebalance.Seek Seek.Take)) k → v (name.State l.rebalance.sought) ≡ state_word Free → TakesOne l k
  taken_turn l k (takes_row rows next f y) e = taken_turns rows l next y
  taken_turn l k (loses_row rows next d y) e = absurd (d e)

  -- where it finds the link that it is to exchange it replaces its row
  pub won_turn : (l k : Local) → core.Building z v choice l (Activity.Rebalance (Rebalance.Replace Replace.Exchange)) k → link_of (v (replaced_link l.rebalance.before)) ≡ Some (unmarked_link (Some l.row)) → k.activity ≡ Activity.Rebalance (Rebalance.Replace Replace.Normalise)
  won_turn l k (replaces_row f) e = refl
  won_turn l k (is_marked_before next f y) e = let x : Some true ≡ Some false = sym (ap mark f) ∙ ap mark e in absurd (cc)
    where
      mark : Option Link → Option Bool
      mark (Some link) = Some link.marked
      mark None = None
  won_turn l k (is_replaced next d y) e = absurd (d (ap row_linked e))

  -- Each way.
  pub build_turn : (l : Local) (a : Activity) (k : Local) → core.Building z v choice l a k → BuildTurn v wins begun l a k
  build_turn l a k (first_is_taken q rows next f n y) = seek_turns rows l (seeking q l) next _ refl refl refl refl y
  build_turn l a k (sought_is_taken rows next n y) = seek_turns rows l l next _ refl refl refl refl y
  build_turn l a k (pass_is_old i epoch rows next f o y) = seek_turns rows l l next _ refl refl refl refl y
  build_turn l a k (pass_is_young i next o y) = pass_turns _ l next _ y
  build_turn l a k (takes_row rows next f y) = takes_one refl f (taken_turns rows l next y)
  build_turn l a k (loses_row rows next d y) = seek_turns rows l l next _ refl refl refl refl y
  build_turn l a k (gives_last_back next o y) = given_turns l next l.rebalance.afterwards refl y
  build_turn l a k (writes_first next y) = write_entry_turns 0 l next _ y
  build_turn l a k (writes_entry i next y) = write_entry_turns _ l next _ y
  build_turn l a k (writes_no_cell j next o y) = write_cell_turns _ l next _ y
  build_turn l a k (writes_after j next y) = write_cell_turns _ l next _ y
  build_turn l a k (begins_before next y) = head_turns _ l next _ refl y
  build_turn l a k (takes_head_before next y) = head_turns _ l next _ refl y
  build_turn l a k (leads_on_marked next e y) = back_turns MoveLeft l next _ refl tt y
  build_turn l a k (leads_nowhere next e y) = back_turns TryAgain l next _ refl tt y
  build_turn l a k (walks_past next o y) = back_turns TryAgain l next _ refl tt y
  build_turn l a k (replaces_row e) = wins_row refl e
  build_turn l a k (is_marked_before next e y) = back_turns MoveLeft l next _ refl tt y
  build_turn l a k (is_replaced next d y) = back_turns TryAgain l next _ refl tt y
  build_turn l a k (retires_and_leaves n d) = was_tidy d
  build_turn l a k _ = builds_on refl refl
