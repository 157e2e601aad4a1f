use Rattle.std.proofs.Common.{arith}
use Rattle.fjall_table.specs.Blocks.{seen}
use Rattle.fjall_table_reader.proofs.Fronted.{fronting_more}
use Rattle.fjall_table_reader.proofs.Places.{got_or}
use Rattle.fjall_table_reader.proofs.block.fronts_of.Goals as goal

pub loop-entry-preserved : goal.loop-entry-preserved
loop-entry-preserved c =
    rw c.in_ok-push.ensures.items
    (fronting_more _ _ _ _ _ c.loop-entry.invariant (got_or seen c.args.entries.now c.loop-entry.entry-index _ (omega arith)) c.front_of.ensures)
