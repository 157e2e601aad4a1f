use Rattle.std.proofs.Common.{◌++◌, map, take}
use Rattle.fjall_files.specs.Telling.{AreRaised}
use Rattle.fjall_files.proofs.watermarks.Watermarks.raise_batch.Given as goal

abbrev pub invariant-loop-item : goal.invariant-loop-item
invariant-loop-item l = AreRaised (map (λ item. item.keyspace_id) (take l.item-index l.item-items)) l.batch.seqno l.fn.self l.self

abbrev pub invariant-loop-keyspace_id : goal.invariant-loop-keyspace_id
invariant-loop-keyspace_id l =
    AreRaised (map (λ item. item.keyspace_id) l.batch.items.items ++ take l.keyspace_id-index l.keyspace_id-items) l.batch.seqno l.fn.self l.self
