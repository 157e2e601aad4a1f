use Rattle.fjall_memtable.proofs.Taking as Taking
use Rattle.fjall_memtable.proofs.sorted_laws.one_version_is_taken.Goals as goal

pub returns-clause-first : goal.returns-clause-first
returns-clause-first c = Taking.first_taken

pub returns-clause-runs : goal.returns-clause-runs
returns-clause-runs c = Taking.runs_in_turn

pub returns-clause-once : goal.returns-clause-once
returns-clause-once c = Taking.others_once
