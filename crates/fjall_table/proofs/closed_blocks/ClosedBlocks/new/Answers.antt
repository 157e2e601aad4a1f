use Rattle.fjall_table.proofs.TableWriting.{none_closed}
use Rattle.fjall_table.proofs.closed_blocks.ClosedBlocks.new.Goals as goal

pub invariant_of-result : goal.invariant_of-result
invariant_of-result c = (none_closed c.new.result.items c.new-2.result.items c.new.ensures.items c.new-2.ensures.items).0

pub returns : goal.returns
returns c = (none_closed c.new.result.items c.new-2.result.items c.new.ensures.items c.new-2.ensures.items).1
