use Rattle.std.proofs.Common.{ℕ, ◌<◌, ◌≤◌, ◌≡◌, slice_index_or}
use Rattle.kw_table.specs.declared.pass.Pass.{Pass}
use Rattle.kw_table.specs.Passes.{view, IsPassOf}
use Rattle.kw_map.specs.Meetings.{MeetsAt}
use Rattle.kw_map.proofs.meeting.follow_each.Given as goal

abbrev pub invariant-loop-pass : goal.invariant-loop-pass
invariant-loop-pass l = record {
  front : IsPassOf l.shared l.front × (view l.front ≡ view l.initial.front);
  done : (k : ℕ) (d e : Pass) → k < l.pass-index → MeetsAt l.shared (view l.front).seen (slice_index_or l.initial.others k d) (slice_index_or l.others k e);
  rest : (k : ℕ) (d : Pass) → l.pass-index ≤ k → slice_index_or l.others k d ≡ slice_index_or l.initial.others k d;
}
