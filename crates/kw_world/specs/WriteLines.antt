-- The lines by which the new rows are written.
use Rattle.std.specs.Prelude.{ℕ, ◌+◌, length, slice_get}
use Rattle.kw_words.specs.declared.layout.Name.TheVariants.{Count, Least, Next, First, Pend, Key, Value, Version, After}
use Rattle.kw_words.specs.declared.kind.Kind.TheVariants as kind
use Rattle.kw_words.specs.declared.pend.Pend.TheVariants as pend
use Rattle.kw_words.specs.Count.{count_word}
use Rattle.kw_words.specs.Link.{link_word}
use Rattle.kw_cells.specs.Cells.{value_in}
use Rattle.kw_words.specs.Pend.{pend_word}
use Rattle.kw_words.specs.Plain.{key_word, least_word, value_word, version_word, cell_link_word}
use Rattle.kw_world.specs.declared.activity.Activity.{Activity}
use Rattle.kw_world.specs.declared.activity.rebalance.Rebalance.TheVariants as Rebalance
use Rattle.kw_world.specs.declared.local.Local.{Local}
use Rattle.kw_world.specs.declared.event.Choice.{Choice}
use Rattle.kw_world.specs.declared.operation.Action.TheVariants.{Store}
use Rattle.kw_world.specs.Sizes.{Sizes}
use Rattle.kw_world.specs.Transition.{Transition, at, to}
use Rattle.kw_world.specs.SeekTransitions.{infant}
use Rattle.kw_world.specs.WriteTransitions.{infant_cells, infant_count, infant_least, infant_link, first_listed, listed_after, key_in, version_in, to_write_entry, to_write_cell, to_write_after}
use Rattle.kw_world.specs.declared.activity.rebalance.write.Write.{Write}

-- the lines of writing
abbrev pub write_lines : Sizes → Write → ℕ → Choice → Local → Transition
write_lines z Write.Count s choice l = at kind.StoreInfant (Count (infant l)) (Store (count_word (infant_count l))) (λ _. to (Activity.Rebalance (Rebalance.Write Write.Least)) l)
write_lines z Write.Least s choice l = at kind.StoreInfant (Least (infant l)) (Store (least_word (infant_least l) (length (infant_cells l)))) (λ _. to (Activity.Rebalance (Rebalance.Write Write.Next)) l)
write_lines z Write.Next s choice l = at kind.StoreInfant (Next (infant l)) (Store (link_word (infant_link l))) (λ _. to (Activity.Rebalance (Rebalance.Write Write.First)) l)
write_lines z Write.First s choice l = at kind.StoreInfant (First (infant l)) (Store (cell_link_word (first_listed (infant_cells l)))) (λ _. to_write_entry z 0 l)
write_lines z (Write.Entry i) s choice l = at kind.StoreInfant (Pend (infant l) i) (Store (pend_word pend.Idle)) (λ _. to_write_entry z (i + 1) l)
write_lines z (Write.Key j) s choice l = at kind.StoreInfant (Key (infant l) j) (Store (key_word (key_in (slice_get (infant_cells l) j)))) (λ _. to (Activity.Rebalance (Rebalance.Write (Write.Value j))) l)
write_lines z (Write.Value j) s choice l = at kind.StoreInfant (Value (infant l) j) (Store (value_word (value_in (slice_get (infant_cells l) j)))) (λ _. to (Activity.Rebalance (Rebalance.Write (Write.Version j))) l)
write_lines z (Write.Version j) s choice l = at kind.StoreInfant (Version (infant l) j) (Store (version_word (version_in (slice_get (infant_cells l) j)))) (λ _. to_write_after z j l)
write_lines z (Write.After j) s choice l = at kind.StoreInfant (After (infant l) j) (Store (cell_link_word (listed_after (infant_cells l) j))) (λ _. to_write_cell z (j + 1) l)
