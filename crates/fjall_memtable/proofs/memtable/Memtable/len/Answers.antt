use Rattle.fjall_memtable.proofs.Orders.{ordered_is}
use Rattle.fjall_memtable.proofs.memtable.Memtable.len.Goals as goal

pub returns-clause-ordered : goal.returns-clause-ordered
returns-clause-ordered c = ordered_is c.args.self.now.text.items c.args.self.now.map.entries c.len.ensures.ordered
