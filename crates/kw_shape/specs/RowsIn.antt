-- The rows of a world as the laws of rows see them (`kw_rows`): where the head and each link lead,
-- what is marked and frozen, the least keys, and the states. A word that stands for nothing reads
-- as that of a free row with no next one; a row that the table does not have has words of 0, and so
-- reads as one too.
use Rattle.std.specs.Prelude.{Bool, false, Option, Some, None}
use Rattle.kw_words.specs.declared.layout.Name.TheVariants as name
use Rattle.kw_words.specs.declared.count.Count.{Count}
use Rattle.kw_words.specs.declared.link.Link.{Link}
use Rattle.kw_words.specs.declared.state.State.{State}
use Rattle.kw_words.specs.declared.state.State.TheVariants.{Free, Infant, Normal, Leader, Follower, Retired}
use Rattle.kw_words.specs.Count.{count_of}
use Rattle.kw_words.specs.Link.{link_of}
use Rattle.kw_words.specs.State.{state_of}
use Rattle.kw_rows.specs.RowState as row
use Rattle.kw_rows.specs.Rows.{Rows}
use Rattle.kw_world.specs.Transition.{row_linked}
use Rattle.kw_core.specs.Words.{Words, next_in, least_in}

-- the link is marked
abbrev pub has_mark : Option Link → Bool
has_mark (Some link) = link.marked
has_mark None = false

-- the count is frozen
abbrev pub has_frozen : Option Count → Bool
has_frozen (Some count) = count.frozen
has_frozen None = false

-- the state that stands in a word of a row
abbrev pub state_seen : Option State → row.State
state_seen (Some Free) = row.Free
state_seen (Some (Infant seat)) = row.Infant seat
state_seen (Some Normal) = row.Normal
state_seen (Some (Leader count)) = row.Leader count
state_seen (Some (Follower leader)) = row.Follower leader
state_seen (Some (Retired number)) = row.Retired number
state_seen None = row.Free

-- the rows of a world
abbrev pub rows_in : Words → Rows
rows_in v = record {
  head = row_linked (link_of (v name.Head));
  next = next_in v;
  marked = λ q. has_mark (link_of (v (name.Next q)));
  frozen = λ q. has_frozen (count_of (v (name.Count q)));
  least = least_in v;
  state = λ q. state_seen (state_of (v (name.State q)));
}
