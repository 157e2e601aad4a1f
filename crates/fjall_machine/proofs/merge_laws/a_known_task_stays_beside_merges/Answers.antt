use Rattle.fjall_machine.proofs.BesideMerges as Beside
use Rattle.fjall_machine.proofs.merge_laws.a_known_task_stays_beside_merges.Goals as goal

pub returns-clause-begun : goal.returns-clause-begun
returns-clause-begun c = Beside.beside_begun

pub returns-clause-dropped : goal.returns-clause-dropped
returns-clause-dropped c = Beside.beside_dropped

pub returns-clause-finished : goal.returns-clause-finished
returns-clause-finished c = Beside.beside_finished

pub returns-clause-counted : goal.returns-clause-counted
returns-clause-counted c = Beside.beside_counted
