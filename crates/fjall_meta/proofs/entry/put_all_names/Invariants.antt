use Rattle.std.proofs.Common.{◌≡◌, ◌++◌, map, take}
use Rattle.fjall_meta.specs.Entries.{name_entry}
use Rattle.fjall_meta.proofs.entry.put_all_names.Given as goal

abbrev pub invariant-loop-keyspace : goal.invariant-loop-keyspace
invariant-loop-keyspace l = l.entries.items ≡ l.initial.entries.items ++ map name_entry (take l.keyspace-index l.living)
