use Rattle.std.proofs.Common.{◌≡◌, map, take}
use Rattle.fjall_compaction.specs.Ingests.{version_of}
use Rattle.fjall_compaction.proofs.ingestion.table.write_items.Given as goal

abbrev pub invariant-loop-item : goal.invariant-loop-item
invariant-loop-item l = l.writer ≡ map (version_of l.number) (take l.item-index l.items)
