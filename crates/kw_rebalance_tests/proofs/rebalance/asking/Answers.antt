use Rattle.std.proofs.Common.{◌≡◌, [], arith, ap}
use Rattle.kw_world.specs.declared.local.Local.{Local}
use Rattle.kw_rebalance_tests.proofs.rebalance.asking.Goals as goal

pub returns-clause-room : goal.returns-clause-room
returns-clause-room c =
    let remembered : c.idle-local.result.remembered ≡ [] = ap (λ (l : Local). l.remembered) c.idle-local.ensures in
    let gathered : c.idle-local.result.gathered ≡ [] = ap (λ (l : Local). l.gathered) c.idle-local.ensures in
    let marks : c.idle-local.result.rebalance.marks ≡ [] = ap (λ (l : Local). l.rebalance.marks) c.idle-local.ensures in
    let needed : c.idle-local.result.rebalance.needed ≡ [] = ap (λ (l : Local). l.rebalance.needed) c.idle-local.ensures in
    let taken : c.idle-local.result.rebalance.taken ≡ [] = ap (λ (l : Local). l.rebalance.taken) c.idle-local.ensures in
    let cells : c.idle-local.result.rebalance.gathered ≡ [] = ap (λ (l : Local). l.rebalance.gathered) c.idle-local.ensures in
    record {
      remembered = rw remembered (omega arith);
      gathered = rw gathered (omega arith);
      rebalance = record {
        marks = rw marks (omega arith);
        needed = rw needed (omega arith);
        gathered = rw cells (omega arith);
        taken = λ t. rw (taken, c.of-local.ensures, c.push.ensures.items, c.new-starts.ensures) (omega arith);
      };
    }
