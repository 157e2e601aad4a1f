use Rattle.std.proofs.Common.{◌≡◌, map, take}
use Rattle.fjall_table.specs.Blocks.{seen}
use Rattle.fjall_manifest.specs.Catalog.{table_entry}
use Rattle.fjall_manifest.proofs.table.entries_of.Given as goal

abbrev pub invariant-loop-version : goal.invariant-loop-version
invariant-loop-version l = map table_entry l.entries.items ≡ map seen (take l.version-index l.versions)
