-- The lines by which the cells of the group's rows are gathered.
use Rattle.std.specs.Prelude.{ℕ}
use Rattle.kw_words.specs.declared.layout.Name.TheVariants.{Key, Value, Version}
use Rattle.kw_words.specs.declared.kind.Kind.TheVariants as kind
use Rattle.kw_words.specs.Plain.{key_of_word, value_of_word, version_of_word, cell_of_link_word}
use Rattle.kw_world.specs.declared.activity.Activity.{Activity}
use Rattle.kw_world.specs.declared.activity.rebalance.Rebalance.TheVariants as Rebalance
use Rattle.kw_world.specs.declared.local.Local.{Local}
use Rattle.kw_world.specs.declared.event.Choice.{Choice}
use Rattle.kw_world.specs.declared.operation.Action.TheVariants.{Load}
use Rattle.kw_world.specs.Sizes.{Sizes}
use Rattle.kw_world.specs.Transition.{Transition, at, to}
use Rattle.kw_world.specs.ListTransitions.{link_name}
use Rattle.kw_world.specs.TakeTransitions.{take_reached, take_version, keeping, take_past, to_left}
use Rattle.kw_world.specs.declared.activity.rebalance.gather.Gather.{Gather}

-- the lines of gathering
abbrev pub gather_lines : Sizes → Gather → ℕ → Choice → Local → Transition
gather_lines z Gather.Link s choice l = at kind.LoadAfter (link_name l.rebalance.hand l.link) Load (λ w. take_reached z (cell_of_link_word w) l)
gather_lines z Gather.Key s choice l = at kind.LoadKey (Key l.rebalance.hand l.place) Load (λ w. to (Activity.Rebalance (Rebalance.Gather Gather.Version)) (record l { place_key = key_of_word w }))
gather_lines z Gather.Version s choice l = at kind.LoadVersion (Version l.rebalance.hand l.place) Load (λ w. take_version (version_of_word w) l)
gather_lines z Gather.Value s choice l = at kind.LoadValue (Value l.rebalance.hand l.place) Load (λ w. take_past (keeping z (value_of_word w) l))
gather_lines z Gather.LeftOverKey s choice l = at kind.LoadKey (Key l.rebalance.hand l.place) Load (λ w. to (Activity.Rebalance (Rebalance.Gather Gather.LeftOverValue)) (record l { place_key = key_of_word w }))
gather_lines z Gather.LeftOverValue s choice l = at kind.LoadValue (Value l.rebalance.hand l.place) Load (λ w. to_left z (keeping z (value_of_word w) l))
