use Rattle.std.proofs.Common.{map, length}
use Rattle.std.specs.Option.{option_map}
use Rattle.fjall_table.specs.Blocks.{seen}
use Rattle.fjall_table.proofs.BlockParts.{Part}
use Rattle.fjall_table.proofs.block.read_block.Given as goal

abbrev pub invariant-loop-payload : goal.invariant-loop-payload
invariant-loop-payload l = Part l.payload (map seen l.versions.items) (option_map seen l.last) l.rest

abbrev pub decreases-loop-payload : goal.decreases-loop-payload
decreases-loop-payload l = length l.rest
