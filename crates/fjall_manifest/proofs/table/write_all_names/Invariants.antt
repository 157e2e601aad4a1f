use Rattle.std.proofs.Common.{◌≡◌, ◌++◌, map, take}
use Rattle.fjall_meta.specs.Entries.{name_entry}
use Rattle.fjall_manifest.specs.Catalog.{table_entry}
use Rattle.fjall_manifest.proofs.table.write_all_names.Given as goal

abbrev pub invariant-loop-keyspace : goal.invariant-loop-keyspace
invariant-loop-keyspace l = l.writer ≡ l.initial.writer ++ map table_entry (map name_entry (take l.keyspace-index l.keyspaces))
