use Rattle.fjall_memtable.proofs.Barriers as Barriers
use Rattle.fjall_memtable.proofs.sorted_laws.a_barrier_stands_for_clears.Goals as goal

pub returns : goal.returns
returns c = Barriers.barrier_stands
