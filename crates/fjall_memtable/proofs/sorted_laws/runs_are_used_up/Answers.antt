use Rattle.fjall_memtable.proofs.Barriers as Barriers
use Rattle.fjall_memtable.proofs.sorted_laws.runs_are_used_up.Goals as goal

pub returns : goal.returns
returns c = Barriers.used_up
