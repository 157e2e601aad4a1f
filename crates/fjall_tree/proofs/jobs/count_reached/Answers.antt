use Rattle.std.proofs.Common.{leb, rules, tests, take}
use Rattle.std.proofs.lemmas.List.Sorted.{IsPartitionPoint-from_clause}
use Rattle.fjall_tree.proofs.Merged.{ascends_taken, reached_first, removed_reached}
use Rattle.fjall_tree.proofs.jobs.count_reached.Goals as goal

pub returns-clause-reached : goal.returns-clause-reached
returns-clause-reached c =
    let w = c.args.watermark in
    let n = c.args.count in
    let xs = c.args.numbers.now in
    let k = c.partition_point.result in
    let p = IsPartitionPoint-from_clause (λ y. leb y w) _ _ c.partition_point.ensures.partitioned (reached_first w (take n xs) (ascends_taken n xs c.requires.ascend)) (λ a r f h. search (rules, tests)) in
    removed_reached w xs n k p.0 p.1 c.partition_point.ensures.bound
