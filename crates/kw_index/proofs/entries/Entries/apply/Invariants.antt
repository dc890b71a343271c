use Rattle.std.proofs.Common.{◌≡◌, take}
use Rattle.kw_index.specs.Changes.{placed_all}
use Rattle.kw_index.proofs.entries.Entries.apply.Given as goal

-- the rows that the loop has gone through are placed, and no others
abbrev pub invariant-loop-entry : goal.invariant-loop-entry
invariant-loop-entry l = l.self ≡ record { rows = l.initial.self.rows; list = placed_all l.initial.self.rows (take l.entry-index l.entry-items) l.initial.self.list }
