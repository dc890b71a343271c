-- What follows from the events of a walk along a row's list, and of a put that inserts its cell
-- there.
--
-- The cells of a row are linked by rising key, then by falling version, then by falling place. A
-- walk stands at a link, which is the row's first one or that after a cell, and goes from link to
-- link. A put goes on past every cell that stands before its own, and inserts its own cell at the
-- link where it ends.
--
-- The cells with which a row was built stand at its first places, by rising key, and they are all
-- in its list. So a walk may begin behind any of them whose key is below the keys that it looks
-- for: what it looks for stands behind that cell. Which one serves best is a guess, that nobody
-- believes before the key was loaded.
use Rattle.std.specs.Prelude.{ℕ, ◌+◌, Bool, true, false, nat_lt, ◌==◌, ◌&&◌, ◌||◌, if◌then◌else◌, min, Option, Some, None, unwrap_or}
use Rattle.kw_words.specs.declared.layout.Name.{Name}
use Rattle.kw_words.specs.declared.layout.Name.TheVariants.{First, Key, After}
use Rattle.kw_words.specs.declared.kind.Kind.TheVariants as kind
use Rattle.kw_words.specs.Plain.{key_of_word, cell_of_link_word}
use Rattle.kw_world.specs.declared.activity.Activity.TheVariants as Activity
use Rattle.kw_world.specs.declared.activity.insert.Insert.TheVariants as Insert
use Rattle.kw_world.specs.declared.activity.put.Put.TheVariants as Put
use Rattle.kw_world.specs.declared.local.Local.{Local}
use Rattle.kw_world.specs.declared.event.Choice.{Choice}
use Rattle.kw_world.specs.declared.event.Choice.TheVariants.{Begin, Go, Guess, Stop}
use Rattle.kw_world.specs.declared.operation.Action.TheVariants.{Load}
use Rattle.kw_world.specs.declared.operation.Operation.{Operation}
use Rattle.kw_world.specs.Sizes.{Sizes}
use Rattle.kw_world.specs.Calls.{first_key}
use Rattle.kw_world.specs.Transition.{Transition, Outcome, to}

-- the word of a link between the cells of a row: that after a cell, or the row's first
abbrev pub link_name : ℕ → Option ℕ → Name
link_name r (Some cell) = After r cell
link_name r None = First r

-- one more, and never more than there are cells
abbrev pub one_more : Sizes → ℕ → ℕ
one_more z n = min (n + 1) z.cells

-- the walk begins at the row's first link, and has reached no cell
abbrev pub at_first : Local → Local
at_first l = record l { link = None; walked = 0 }

-- the cell behind which a walk is to begin: one of those with which the row was built, as far as
-- the seat knows them; every other choice names none
abbrev pub cell_guess : Choice → Local → Option ℕ
cell_guess (Begin call) l = None
cell_guess Go l = None
cell_guess (Guess cell) l = if nat_lt cell l.built then Some cell else None
cell_guess Stop l = None

-- how a walk along a row's list begins: it loads the key of the guessed cell, or the link at which
-- it stands
abbrev pub first_operation : Option ℕ → Local → Operation
first_operation (Some cell) l = record { kind = kind.LoadKey; name = Key l.row cell; action = Load }
first_operation None l = record { kind = kind.LoadAfter; name = link_name l.row l.link; action = Load }

-- the line of an activity that begins so, with what follows from the guess and the word
abbrev pub begins_list : Option ℕ → Local → (Option ℕ → ℕ → Outcome) → Transition
begins_list guess l next = record { operation = first_operation guess l; next = λ rows. next guess }

-- the walk stands at the link after this cell
abbrev pub behind_cell : ℕ → Local → Local
behind_cell cell l = record l { link = Some cell }

-- the walk has reached this cell behind its link
abbrev pub meeting : Sizes → ℕ → Local → Local
meeting z cell l = record l { held = Some cell; place = cell; walked = one_more z l.walked }

-- the walk stands at the link after the cell that it reached
abbrev pub past_cell : Local → Local
past_cell l = behind_cell l.place l

-- Put::Version: the put begins to insert its cell, and has lost no exchange
abbrev pub to_insert : Local → Outcome
to_insert l = to (Activity.Insert Insert.Start) (record (at_first l) { lost = 0 })

-- Insert::Link: the link leads to a cell, which is reached, or to none, where the own cell is the
-- last
abbrev pub insert_from : Sizes → Option ℕ → Local → Outcome
insert_from z (Some cell) l = to (Activity.Insert Insert.Key) (meeting z cell l)
insert_from z None l = to (Activity.Insert Insert.Set) (record l { held = None })

-- Insert::Start with a guess: behind a cell of a smaller key the walk begins, and else at the row's
-- first link
abbrev pub insert_guessed : ℕ → ℕ → Local → Outcome
insert_guessed cell key l = if nat_lt key (first_key l.call) then to (Activity.Insert Insert.Link) (behind_cell cell l) else to (Activity.Insert Insert.Link) l

-- Insert::Start: without a guess all is as at Insert::Link
abbrev pub insert_started : Sizes → Local → Option ℕ → ℕ → Outcome
insert_started z l (Some cell) w = insert_guessed cell (key_of_word w) l
insert_started z l None w = insert_from z (cell_of_link_word w) l

-- the cell that was reached is gone by
abbrev pub insert_past : Local → Outcome
insert_past l = to (Activity.Insert Insert.Link) (past_cell l)

-- Insert::Key: a cell of a smaller key is gone by, one of the own key is asked for its version, and
-- the own cell stands before one of a greater key
abbrev pub insert_key : ℕ → Local → Outcome
insert_key key l =
    if nat_lt key (first_key l.call) then insert_past l
    else if key == first_key l.call then to (Activity.Insert Insert.Version) l
    else to (Activity.Insert Insert.Set) l

-- a cell of the own key, of this version and at this place, stands before the own: its version is
-- greater, or the same and its place is above the own
abbrev pub is_newer : ℕ → ℕ → Local → Bool
is_newer version place l = nat_lt l.version version || version == l.version && nat_lt l.cell place

-- Insert::Version: a cell that stands before the own is gone by, and the own stands before every
-- other; a cell without a version counts as one of version 0
abbrev pub insert_version : Option ℕ → Local → Outcome
insert_version version l = if is_newer (unwrap_or version 0) l.place l then insert_past l else to (Activity.Insert Insert.Set) l

-- the put has lost an exchange, and walks again from the row's first link
abbrev pub losing : Sizes → Local → Local
losing z l = record (at_first l) { lost = one_more z l.lost }

-- Insert: the own cell is listed, or another one was put behind the link before
abbrev pub insert_tried : Sizes → Bool → Local → Outcome
insert_tried z true l = to (Activity.Put Put.Clear) l
insert_tried z false l = to (Activity.Insert Insert.Start) (losing z l)
