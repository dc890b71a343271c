-- The middle of a call, where in it a scan gets its version, and where a reader is at the cells
-- that it remembers or at an entry, and a call on its walk.
use Rattle.std.specs.Prelude.{ℕ}
use Rattle.kw_world.specs.declared.activity.Activity.{Activity}
use Rattle.kw_world.specs.declared.activity.draw.Draw.TheVariants as Draw
use Rattle.kw_world.specs.declared.activity.insert.Insert.TheVariants as Insert
use Rattle.kw_world.specs.declared.activity.look.Look.TheVariants as Look
use Rattle.kw_world.specs.declared.activity.read.Read.TheVariants as Read
use Rattle.kw_world.specs.declared.local.Local.{Local}

-- a walk along the list of a row begins
abbrev pub IsAtStart : Activity → Type 0
IsAtStart (Activity.Read Read.Start) = Unit {0}
IsAtStart (Activity.Insert Insert.Start) = Unit {0}
IsAtStart _ = ⊥

-- the seat is in the middle of a call, and its next event neither ends the call or a scan nor reads
-- a cell
abbrev pub IsWithinCall : Activity → Type 0
IsWithinCall Activity.Idle = ⊥
IsWithinCall (Activity.Read _) = ⊥
IsWithinCall (Activity.EndScan answer) = ⊥
IsWithinCall (Activity.Leave answer) = ⊥
IsWithinCall _ = Unit {0}

-- a scan gets its version
abbrev pub IsDrawing : Activity → Type 0
IsDrawing (Activity.Draw Draw.Pin) = ⊥
IsDrawing (Activity.Draw _) = Unit {0}
IsDrawing _ = ⊥

-- the local of a call that is at this activity of its walk
abbrev pub walking : Activity → Local → Local
walking a l = record l { activity = a }

-- the local of a reader that looks at the entry of this seat next
abbrev pub looking : ℕ → Local → Local
looking i l = record l { activity = Activity.Look (Look.Entry i) }

-- a reader is at a cell that it remembers of the entries and did not reach in the list of its row
abbrev pub IsAtRemembered : Activity → Type 0
IsAtRemembered (Activity.Read Read.LeftOverKey) = Unit {0}
IsAtRemembered (Activity.Read Read.LeftOverValue) = Unit {0}
IsAtRemembered _ = ⊥
