use Rattle.std.proofs.Common.{◌≡◌, map, string_bytes, take}
use Rattle.fjall_files.specs.Names.{table_name}
use Rattle.fjall_compaction.proofs.merge.plan.table_files.Given as goal

abbrev pub invariant-loop-table : goal.invariant-loop-table
invariant-loop-table l = map string_bytes l.files.items ≡ map (λ t. table_name l.fn.id t.id) (take l.table-index l.fn.tables)
