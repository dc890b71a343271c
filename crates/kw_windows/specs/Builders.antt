-- A seat that builds new rows in place of full ones, and what is counted of it between two
-- exchanges that replace a row, in one window. A build is counted in each window in which it takes
-- a row.
use Rattle.std.specs.Prelude.{ℕ, ◌+◌, Bool, true, false}

-- how far the seat is: it is at no full row, and may come to one; it was refused for want of rows;
-- it is at this full row, of which its build has taken none; its build for this row has taken some,
-- one of them in this window or not
pub data Stage : Type 0 where
  Elsewhere : Stage
  Refused : Stage
  Asking : ℕ → Stage
  Building : ℕ → Bool → Stage

-- the seat, with what is counted of it in this window
pub record Builder : Type 0 where
  pub stage : Stage
  -- how many rows its build has taken, in this window and before
  pub held : ℕ
  -- how many builds were for rows that were live, and how many for rows that were not
  pub lives : ℕ
  pub deads : ℕ
  -- how many rows it took
  pub taken : ℕ

-- its build takes one row more, for the full row r
abbrev pub with_row : ℕ → Builder → Builder
with_row r c = record c { stage = Building r true; held = c.held + 1; taken = c.taken + 1 }

-- its build for a live row, or for a dead one, is counted in this window
abbrev pub with_build : Bool → Builder → Builder
with_build true c = record c { lives = c.lives + 1 }
with_build false c = record c { deads = c.deads + 1 }

-- it is elsewhere now, or at a full row of which it has taken none
abbrev pub at_stage : Stage → Builder → Builder
at_stage a c = record c { stage = a; held = 0 }

-- where a build goes on it has taken no row in the next window
abbrev pub stage_anew : Stage → Stage
stage_anew Elsewhere = Elsewhere
stage_anew Refused = Refused
stage_anew (Asking r) = Asking r
stage_anew (Building r begun) = Building r false

-- the seat in the next window, of which nothing is counted yet
abbrev pub anew : Builder → Builder
anew c = record { stage = stage_anew c.stage; held = c.held; lives = 0; deads = 0; taken = 0 }
