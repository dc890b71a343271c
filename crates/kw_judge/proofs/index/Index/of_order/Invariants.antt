-- The places so far are in the map, and none of the names so far stands twice.
use Rattle.std.proofs.Common.{ℕ, ◌<◌, ◌≡◌, Some, slice_get}
use Rattle.kw_judge.specs.declared.record.Name.{Name}
use Rattle.kw_judge.specs.Index.{IsIndexBelow}
use Rattle.kw_judge.specs.Verdict.{IsNew}
use Rattle.kw_judge.proofs.index.Index.of_order.Given as goal

abbrev pub invariant-loop-place : goal.invariant-loop-place
invariant-loop-place l = record { indexed : IsIndexBelow l.names l.place l.places; each : (k : ℕ) (name : Name) → k < l.place → slice_get l.names k ≡ Some name → IsNew l.names k name }
