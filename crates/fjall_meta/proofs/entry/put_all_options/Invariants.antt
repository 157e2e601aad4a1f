use Rattle.std.proofs.Common.{◌≡◌, ◌++◌, take}
use Rattle.std.specs.List.{flat_map}
use Rattle.fjall_meta.specs.Entries.{option_entries}
use Rattle.fjall_meta.proofs.entry.put_all_options.Given as goal

abbrev pub invariant-loop-keyspace : goal.invariant-loop-keyspace
invariant-loop-keyspace l = l.entries.items ≡ l.initial.entries.items ++ flat_map option_entries (take l.keyspace-index l.living)
