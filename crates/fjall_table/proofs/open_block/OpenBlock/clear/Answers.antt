use Rattle.fjall_table.proofs.TableWriting.{emptied}
use Rattle.fjall_table.proofs.open_block.OpenBlock.clear.Goals as goal

pub invariant_of-self : goal.invariant_of-self
invariant_of-self c = (emptied c.clear.new.self.items c.clear.ensures.items).0

pub returns : goal.returns
returns c = (emptied c.clear.new.self.items c.clear.ensures.items).1
