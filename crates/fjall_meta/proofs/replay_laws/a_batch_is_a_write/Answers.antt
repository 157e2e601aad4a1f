use Rattle.fjall_meta.proofs.Writes as Writes
use Rattle.fjall_meta.proofs.replay_laws.a_batch_is_a_write.Goals as goal

pub returns-clause-write : goal.returns-clause-write
returns-clause-write c = Writes.batch_command

pub returns-clause-direct : goal.returns-clause-direct
returns-clause-direct c = λ items number. Writes.all_direct items

pub returns-clause-clears : goal.returns-clause-clears
returns-clause-clears c = λ items number. Writes.no_clears items
