use Rattle.std.proofs.Common.{◌≡◌, ◌-◌, ◌^◌, min, take}
use Rattle.fjall_table_reader.specs.Readers.{recent_sizes}
use Rattle.fjall_tree.proofs.counts.bytes_recent.Given as goal

abbrev pub invariant-loop-table : goal.invariant-loop-table
invariant-loop-table l = l.total ≡ min (recent_sizes (take l.table-index l.tables)) (2 ^ 64 - 1)
