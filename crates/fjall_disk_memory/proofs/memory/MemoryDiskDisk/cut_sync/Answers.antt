use Rattle.fjall_base.proofs.Results.{ok_at}
use Rattle.fjall_disk_memory.proofs.memory.MemoryDiskDisk.cut_sync.Goals as goal

pub returns-clause-ok : goal.returns-clause-ok
returns-clause-ok c = let took = ok_at c.cut.result _ c.if-is_err.ensures.negation c.cut.ensures.ok in record { state = took.state; steps = took.steps }
