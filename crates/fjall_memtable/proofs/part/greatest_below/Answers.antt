use Rattle.std.proofs.Common.{ltb, rules, tests, arith}
use Rattle.std.proofs.lemmas.List.Sorted.{IsPartitionPoint-from_clause}
use Rattle.fjall_memtable.proofs.PartBarriers.{parted, point_none, point_some}
use Rattle.fjall_memtable.proofs.part.greatest_below.Goals as goal

pub returns-in-0 : goal.returns-in-0
returns-in-0 c =
    let t = c.args.instant in
    let xs = c.args.numbers.now in
    let p = IsPartitionPoint-from_clause (λ y. ltb y t) _ _ c.partition_point.ensures.partitioned (parted t xs c.requires) (λ a r f h. search (rules, tests)) in
    point_none t xs c.partition_point.result c.in-0.is p.1

pub returns-in_default : goal.returns-in_default
returns-in_default c =
    let t = c.args.instant in
    let xs = c.args.numbers.now in
    let p = IsPartitionPoint-from_clause (λ y. ltb y t) _ _ c.partition_point.ensures.partitioned (parted t xs c.requires) (λ a r f h. search (rules, tests)) in
    point_some t xs c.partition_point.result c.requires (omega arith) c.partition_point.ensures.bound p.0 p.1
