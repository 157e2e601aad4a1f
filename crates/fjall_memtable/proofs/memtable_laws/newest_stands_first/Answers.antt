use Rattle.fjall_memtable.proofs.Newest.{newest_first}
use Rattle.fjall_memtable.proofs.memtable_laws.newest_stands_first.Goals as goal

pub returns : goal.returns
returns c e entries instant older below = newest_first e entries instant older below
