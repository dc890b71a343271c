-- How a walk along the list of a row begins: at the row's first link, or behind a cell with which
-- the row was built.
use Rattle.std.specs.Prelude.{ℕ, ◌≡◌, Bool, true, false}
use Rattle.kw_world.specs.declared.activity.Activity.{Activity}
use Rattle.kw_world.specs.declared.activity.insert.Insert.TheVariants as Insert
use Rattle.kw_world.specs.declared.local.Local.{Local}
use Rattle.kw_world.specs.Calls.{first_key}
use Rattle.kw_core.specs.Stages.{IsAtInsertLink, IsAtReadLink}
use Rattle.kw_table.specs.declared.pass.Pass.{Pass}
use Rattle.kw_table.specs.declared.shared.Shared.{Shared}
use Rattle.kw_follow.specs.declared.cursor.Cursor.{Cursor}
use Rattle.kw_follow.specs.Calling.{KeepsCalls}
use Rattle.kw_follow.specs.Cursors.{with_cursor}
use Rattle.kw_follow.specs.Following.{Follows, GoesTo, held}

-- a put is to begin its walk
abbrev pub is_insert_start : Activity → Bool
is_insert_start (Activity.Insert Insert.Start) = true
is_insert_start _ = false

-- code that has this cursor and these numbers follows a reader that is to begin its walk: with so
-- many cells the row was built, as far as it knows, and this is the least key that it reads
pub record BeginsAt (s : Shared) (p : Pass) (a : Activity) (l : Local) (w : Cursor) (built first : ℕ) : Type 0 where
  pub follows : Follows s p (with_cursor a w l)
  pub counted : built ≡ l.built
  pub least : first ≡ first_key l.call

-- the reader with this local and this cursor begins its walk by one event, or by none, and its
-- cursor is then at this link: it has reached no cell more
pub record BeginsList (s : Shared) (p : Pass) (l : Local) (w : Cursor) (q : Pass) (x : Cursor) : Type 0 where
  pub activity : Activity
  pub loads : IsAtReadLink activity
  pub goes : GoesTo s p q
  pub follows : Follows s q (with_cursor activity x l)
  pub calls : KeepsCalls p q
  pub held : held q ≡ held p
  pub walked : x.walked ≡ w.walked

-- so does a put that inserts its cell
pub record BeginsInsert (s : Shared) (p : Pass) (l : Local) (w : Cursor) (q : Pass) (x : Cursor) : Type 0 where
  pub activity : Activity
  pub loads : IsAtInsertLink activity
  pub goes : GoesTo s p q
  pub follows : Follows s q (with_cursor activity x l)
  pub calls : KeepsCalls p q
  pub held : held q ≡ held p
  pub walked : x.walked ≡ w.walked
