use Rattle.std.proofs.Common.{◌≡◌, ℕ, drop}
use Rattle.kw_index.specs.Turns.{IsLogOf}
use Rattle.kw_index.proofs.index.Index.add.Given as goal

-- the base is of the map, and what waits yet is the end of what was to be published
abbrev pub invariant-loop : goal.invariant-loop
invariant-loop l = record {
  base : IsLogOf l.self l.log;
  end : (count : ℕ) × (l.changes.items ≡ drop count l.initial.changes.items);
}
