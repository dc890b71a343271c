use Rattle.std.proofs.Common.{rules}
use Rattle.std.specs.Prelude.{nat_lt}
use Rattle.std.proofs.lemmas.List.Sorted.{IsPartitionPoint-from_clause, IsPartitionedBy-ltb}
use Rattle.kw_index.proofs.Lawful.{rising_by}
use Rattle.kw_index.proofs.entries.count_below.Goals as goal

-- the least keys rise, so the lesser ones are the first
pub returns-clause-parted : goal.returns-clause-parted
returns-clause-parted c = IsPartitionPoint-from_clause (λ e. nat_lt e.least c.args.least) _ _ c.partition_point.ensures.partitioned (IsPartitionedBy-ltb (λ e. e.least) _ c.args.least (rising_by _ c.requires)) (λ a r q k. search rules)
