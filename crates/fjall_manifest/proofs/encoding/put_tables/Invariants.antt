use Rattle.std.proofs.Common.{◌≡◌, ◌++◌, take}
use Rattle.std.specs.List.{flat_map, AllByRecursion}
use Rattle.fjall_manifest.specs.Records.{table_line, HasRoom}
use Rattle.fjall_manifest.proofs.encoding.put_tables.Given as goal

abbrev pub invariant-loop-table : goal.invariant-loop-table
invariant-loop-table l = record {
  text : l.out.items ≡ l.fn.out.items ++ flat_map table_line (take l.table-index l.tables);
  fits : AllByRecursion HasRoom (take l.table-index l.tables);
}
