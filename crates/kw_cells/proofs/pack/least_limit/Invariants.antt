-- All lesser limits give more rows.
use Rattle.std.proofs.Common.{ℕ, length, ◌≡◌, ◌≤◌, ◌<◌, ◌-◌}
use Rattle.kw_cells.specs.Cuts.{starts_at}
use Rattle.kw_words.specs.declared.sizes.TheConstants.{BUILT}
use Rattle.kw_cells.proofs.pack.least_limit.Given as goal

abbrev pub invariant-loop-limit : goal.invariant-loop-limit
invariant-loop-limit l = record {
  rows : l.rows ≡ length (starts_at BUILT l.cells);
  bounded : l.limit ≤ BUILT;
  lower : (q : ℕ) → q < l.limit → length (starts_at BUILT l.cells) < length (starts_at q l.cells);
}

abbrev pub decreases-loop-limit : goal.decreases-loop-limit
decreases-loop-limit l = BUILT - l.limit
