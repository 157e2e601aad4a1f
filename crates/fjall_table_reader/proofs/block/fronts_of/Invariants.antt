use Rattle.std.proofs.Common.{map}
use Rattle.fjall_table.specs.Blocks.{seen}
use Rattle.fjall_table_reader.proofs.Fronted.{Fronting}
use Rattle.fjall_table_reader.proofs.block.fronts_of.Given as goal

abbrev pub invariant-loop-entry : goal.invariant-loop-entry
invariant-loop-entry l = Fronting l.fronts.items l.entry-index (map seen l.entries)
