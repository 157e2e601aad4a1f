use Rattle.std.proofs.Common.{◌≡◌, ◌++◌, map, take}
use Rattle.fjall_options.specs.Options.{options_by_name}
use Rattle.fjall_meta.specs.Entries.{option_entry}
use Rattle.fjall_manifest.specs.Catalog.{table_entry}
use Rattle.fjall_manifest.proofs.table.write_options.Given as goal

abbrev pub invariant-loop-option : goal.invariant-loop-option
invariant-loop-option l = l.writer ≡ l.initial.writer ++ map table_entry (map (option_entry l.keyspace) (take l.option-index options_by_name))
