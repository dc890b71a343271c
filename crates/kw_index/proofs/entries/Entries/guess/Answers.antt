use Rattle.std.proofs.Common.{rules, refl, arith}
use Rattle.std.specs.Prelude.{nat_le}
use Rattle.std.proofs.lemmas.List.Sorted.{IsPartitionPoint-from_clause, IsPartitionedBy-leb}
use Rattle.std.proofs.lemmas.Bool.Decides.{nat_tests}
use Rattle.kw_index.proofs.Lawful.{rising_by}
use Rattle.kw_index.proofs.Guessed.{all_above, nearest}
use Rattle.kw_index.proofs.entries.Entries.guess.Goals as goal

-- the first entry is above the key
pub returns-then-at-eq0 : goal.returns-then-at-eq0
returns-then-at-eq0 c =
    let rising = c.self.invariant.lawful.rising in
    let point = IsPartitionPoint-from_clause (λ e. nat_le e.least c.args.key) _ _ c.partition_point-at.ensures.partitioned (rw c.deref.ensures.value (IsPartitionedBy-leb (λ e. e.least) _ c.args.key (rising_by _ rising))) (λ a r q k. search rules) in
    rw (← c.self.view_is, ← c.deref.ensures.value) (all_above _ (rw c.deref.ensures.value rising) c.args.key _ c.partition_point-at.ensures.bound point (grind (arith, nat_tests)))

-- the entry before the first that is above the key
pub returns : goal.returns
returns c =
    let rising = c.self.invariant.lawful.rising in
    let point = IsPartitionPoint-from_clause (λ e. nat_le e.least c.args.key) _ _ c.partition_point-at.ensures.partitioned (rw c.deref.ensures.value (IsPartitionedBy-leb (λ e. e.least) _ c.args.key (rising_by _ rising))) (λ a r q k. search rules) in (
      c.index.result.now,
      rw (← c.self.view_is, ← c.deref.ensures.value) (nearest _ (rw c.deref.ensures.value rising) c.args.key _ c.partition_point-at.ensures.bound point c.index.result.now (grind (arith, nat_tests)) (rw c.deref.ensures.value c.index.ensures)),
      refl,
    )
