use Rattle.fjall_table.proofs.TableWriting.{emptied}
use Rattle.fjall_table.proofs.open_block.OpenBlock.new.Goals as goal

pub invariant_of-result : goal.invariant_of-result
invariant_of-result c = (emptied c.new.result.items c.new.ensures.items).0

pub returns : goal.returns
returns c = (emptied c.new.result.items c.new.ensures.items).1
