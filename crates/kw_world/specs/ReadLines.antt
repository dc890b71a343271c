-- The lines of a reader at its row: at the entries of the seats, and along the row's list.
use Rattle.std.specs.Prelude.{ℕ, ◌+◌, if◌then◌else◌}
use Rattle.kw_words.specs.declared.layout.Name.TheVariants.{Clock, Pend, Key, Value, Version}
use Rattle.kw_words.specs.declared.kind.Kind.TheVariants as kind
use Rattle.kw_words.specs.declared.pend.Pend.TheVariants as pend
use Rattle.kw_words.specs.Pend.{pend_of, pend_word}
use Rattle.kw_words.specs.Plain.{key_of_word, value_of_word, version_of_word, cell_of_link_word}
use Rattle.kw_world.specs.declared.activity.Activity.{Activity}
use Rattle.kw_world.specs.declared.local.Local.{Local}
use Rattle.kw_world.specs.declared.event.Choice.{Choice}
use Rattle.kw_world.specs.declared.operation.Action.TheVariants.{Load, Exchange}
use Rattle.kw_world.specs.Sizes.{Sizes}
use Rattle.kw_world.specs.Calls.{is_in_range}
use Rattle.kw_world.specs.Transition.{Transition, at, to}
use Rattle.kw_world.specs.ReadTransitions.{to_look, look_seen, help_seen, list_started, list_reached, list_key, list_version, list_past, gathering, left_over_key, to_left_over}
use Rattle.kw_world.specs.ListTransitions.{link_name, cell_guess, begins_list}
use Rattle.kw_world.specs.declared.activity.look.Look.{Look}
use Rattle.kw_world.specs.declared.activity.read.Read.{Read}

-- the lines of a reader at the entries of its row
abbrev pub look_lines : Sizes → Look → ℕ → Choice → Local → Transition
look_lines z (Look.Entry i) s choice l = at kind.LoadPend (Pend l.row i) Load (λ w. look_seen z i (pend_of w) l)
look_lines z Look.Key s choice l = at kind.LoadKey (Key l.row l.saw) Load (λ w. if is_in_range l.call (key_of_word w) then to (Activity.Look Look.Clock) l else to_look z (l.looked + 1) l)
look_lines z Look.Clock s choice l = at kind.LoadClock Clock Load (λ v. to (Activity.Look Look.Help) (record l { helping = v }))
look_lines z Look.Help s choice l = at kind.HelpStamp (Pend l.row l.looked) (Exchange (pend_word (pend.Pending l.saw)) (pend_word (pend.Stamped l.saw l.helping))) (λ w. help_seen z (pend_of w) l)

-- the lines of a reader along the list of its row, and at the cells that it remembers and did not
-- reach
abbrev pub read_lines : Sizes → Read → ℕ → Choice → Local → Transition
read_lines z Read.Start s choice l = begins_list (cell_guess choice l) l (list_started z l)
read_lines z Read.Link s choice l = at kind.LoadAfter (link_name l.row l.link) Load (λ w. list_reached z (cell_of_link_word w) l)
read_lines z Read.Key s choice l = at kind.LoadKey (Key l.row l.place) Load (λ w. list_key (key_of_word w) l)
read_lines z Read.Version s choice l = at kind.LoadVersion (Version l.row l.place) Load (λ w. list_version (version_of_word w) l)
read_lines z Read.Value s choice l = at kind.LoadValue (Value l.row l.place) Load (λ w. list_past (gathering z (value_of_word w) l))
read_lines z Read.LeftOverKey s choice l = at kind.LoadKey (Key l.row l.place) Load (λ w. left_over_key (key_of_word w) l)
read_lines z Read.LeftOverValue s choice l = at kind.LoadValue (Value l.row l.place) Load (λ w. to_left_over (gathering z (value_of_word w) l))
