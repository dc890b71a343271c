use Rattle.std.proofs.Common.{◌≡◌, ◌≤◌, ◌+◌, ◌++◌, drop, All}
use Rattle.std.specs.List.{AllWithin}
use Rattle.kw_work.specs.Dealing.{Dealt, IsCall, blocks_of}
use Rattle.kw_work.proofs.Cuts.{lists}
use Rattle.kw_work.proofs.deal.deal.Given as goal

abbrev pub invariant-loop-at : goal.invariant-loop-at
invariant-loop-at l = record {
  begun : l.start ≤ l.at;
  calls : AllWithin IsCall l.items l.start l.at;
  blocks : lists l.blocks.items ++ blocks_of (l.start + 1) (drop l.start l.items) ≡ blocks_of 1 l.items;
  workers : All (λ (b : Dealt). b.workers ≡ l.workers) l.blocks.items;
}
