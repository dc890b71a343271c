use Rattle.std.proofs.Common.{◌≡◌, ℕ, ◌<◌, [], vec_len, slice_index_or}
use Rattle.kw_table.specs.Passes.{IsFresh}
use Rattle.kw_table.specs.Views.{rest_view}
use Rattle.kw_table.proofs.shared.Shared.passes.Given as goal

abbrev pub invariant-loop-number : goal.invariant-loop-number
invariant-loop-number l =
    (l.rest.table_id ≡ l.initial.rest.table_id)
    × (l.rest.me ≡ (rest_view l.self.opening l.number, []))
    × (vec_len l.passes ≡ l.number)
    × ((i : ℕ) (d : _) → i < l.number → IsFresh l.self i (slice_index_or l.passes.items i d))
