use Rattle.std.proofs.Common.{◌≡◌, ℕ, ◌<◌, get_or, None}
use Rattle.kw_core.proofs.change.id_at.Given as goal

abbrev pub invariant-loop-i : goal.invariant-loop-i
invariant-loop-i l = (k : ℕ) → k < l.i → (get_or l.cells k (record { key = 0; version = 0; place = 0; value = None })).place ≡ l.place → ⊥
