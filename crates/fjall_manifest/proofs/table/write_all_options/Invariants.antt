use Rattle.std.proofs.Common.{◌≡◌, ◌++◌, map, take}
use Rattle.std.specs.List.{flat_map}
use Rattle.fjall_meta.specs.Entries.{option_entries}
use Rattle.fjall_manifest.specs.Catalog.{table_entry}
use Rattle.fjall_manifest.proofs.table.write_all_options.Given as goal

abbrev pub invariant-loop-keyspace : goal.invariant-loop-keyspace
invariant-loop-keyspace l = l.writer ≡ l.initial.writer ++ map table_entry (flat_map option_entries (take l.keyspace-index l.keyspaces))
