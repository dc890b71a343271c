-- The lines of a put or a delete at its row, and of the insert of its cell in the row's list.
use Rattle.std.specs.Prelude.{ℕ, Some, ◌==◌, if◌then◌else◌}
use Rattle.kw_words.specs.declared.layout.Name.TheVariants.{Clock, Count, Pend, Key, Value, Version, After}
use Rattle.kw_words.specs.declared.kind.Kind.TheVariants as kind
use Rattle.kw_words.specs.declared.pend.Pend.TheVariants as pend
use Rattle.kw_words.specs.Count.{count_of}
use Rattle.kw_words.specs.Pend.{pend_of, pend_word}
use Rattle.kw_words.specs.Plain.{key_word, key_of_word, value_word, version_word, version_of_word, cell_link_word, cell_of_link_word}
use Rattle.kw_world.specs.declared.activity.Activity.{Activity}
use Rattle.kw_world.specs.declared.local.Local.{Local}
use Rattle.kw_world.specs.declared.event.Choice.{Choice}
use Rattle.kw_world.specs.declared.operation.Action.TheVariants.{Load, Store, Add, Exchange}
use Rattle.kw_world.specs.Sizes.{Sizes}
use Rattle.kw_world.specs.Calls.{first_key, put_value}
use Rattle.kw_world.specs.Transition.{Transition, at, at_rows, to}
use Rattle.kw_world.specs.PutTransitions.{has_room, given_of, stamp_seen, cleared}
use Rattle.kw_world.specs.ListTransitions.{link_name, cell_guess, begins_list, to_insert, insert_started, insert_from, insert_key, insert_version, insert_tried}
use Rattle.kw_world.specs.EngageTransitions.{to_rebalance}
use Rattle.kw_world.specs.declared.activity.put.Put.{Put}
use Rattle.kw_world.specs.declared.activity.insert.Insert.{Insert}

-- the lines of a put at its row
abbrev pub put_lines : Sizes → Put → ℕ → Choice → Local → Transition
put_lines z Put.Count s choice l = at kind.LoadCount (Count l.row) Load (λ w. if has_room z (count_of w) then to (Activity.Put Put.Add) l else to_rebalance l)
put_lines z Put.Add s choice l = at kind.AddCount (Count l.row) (Add 1) (λ w. if has_room z (count_of w) then to (Activity.Put Put.Key) (record l { cell = given_of (count_of w) }) else to_rebalance l)
put_lines z Put.Key s choice l = at kind.StoreKey (Key l.row l.cell) (Store (key_word (first_key l.call))) (λ _. to (Activity.Put Put.Value) l)
put_lines z Put.Value s choice l = at kind.StoreValue (Value l.row l.cell) (Store (value_word (put_value l.call))) (λ _. to (Activity.Put Put.Announce) l)
put_lines z Put.Announce s choice l = at kind.Announce (Pend l.row s) (Exchange (pend_word pend.Idle) (pend_word (pend.Pending l.cell))) (λ w. if w == pend_word pend.Idle then to (Activity.Put Put.Clock) l else to_rebalance l)
put_lines z Put.Clock s choice l = at kind.LoadClock Clock Load (λ v. to (Activity.Put Put.Stamp) (record l { version = v }))
put_lines z Put.Stamp s choice l = at kind.Stamp (Pend l.row s) (Exchange (pend_word (pend.Pending l.cell)) (pend_word (pend.Stamped l.cell l.version))) (λ w. stamp_seen (pend_of w) l)
put_lines z Put.Version s choice l = at kind.StoreVersion (Version l.row l.cell) (Store (version_word (Some l.version))) (λ _. to_insert l)
put_lines z Put.Clear s choice l = at_rows kind.ClearPend (Pend l.row s) (Store (pend_word pend.Idle)) (λ rows _. cleared rows choice l)

-- the lines of the insert of its cell
abbrev pub insert_lines : Sizes → Insert → ℕ → Choice → Local → Transition
insert_lines z Insert.Start s choice l = begins_list (cell_guess choice l) l (insert_started z l)
insert_lines z Insert.Link s choice l = at kind.LoadAfter (link_name l.row l.link) Load (λ w. insert_from z (cell_of_link_word w) l)
insert_lines z Insert.Key s choice l = at kind.LoadKey (Key l.row l.place) Load (λ w. insert_key (key_of_word w) l)
insert_lines z Insert.Version s choice l = at kind.LoadVersion (Version l.row l.place) Load (λ w. insert_version (version_of_word w) l)
insert_lines z Insert.Set s choice l = at kind.StoreAfter (After l.row l.cell) (Store (cell_link_word l.held)) (λ _. to (Activity.Insert Insert.Exchange) l)
insert_lines z Insert.Exchange s choice l = at kind.Insert (link_name l.row l.link) (Exchange (cell_link_word l.held) (cell_link_word (Some l.cell))) (λ w. insert_tried z (w == cell_link_word l.held) l)
