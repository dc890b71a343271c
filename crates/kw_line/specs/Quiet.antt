-- Which lines of an input have one reply, whatever runs beside them.
use Rattle.std.specs.Prelude.{Bool, true, false, not, ◌||◌, List, map}
use Rattle.std.specs.List.{slice_split, list_any, flat_map}
use Rattle.kw_line.specs.declared.item.Item.{Item}
use Rattle.kw_line.specs.declared.item.Item.TheVariants as item
use Rattle.kw_line.specs.Line.{forms}
use Rattle.kw_line.specs.Answered.{is_update, is_range}

-- the line ends a block
abbrev pub is_wait : Item → Bool
is_wait (item.Call c f) = false
is_wait item.Wait = true

-- the blocks of an input: what stands between its waits
abbrev pub blocks : List Item → List (List Item)
blocks items = slice_split is_wait items

-- of each call of a block, whether it is quiet: it asks for no range, or the block sets no value
-- and takes no key away
abbrev pub quiet_in : List Item → List Bool
quiet_in block = map (λ f. not (is_range f) || not (list_any is_update (forms block))) (forms block)

-- of each call of an input in line order, whether it is quiet
abbrev pub quiet : List Item → List Bool
quiet items = flat_map quiet_in (blocks items)
