use Rattle.fjall_machine.proofs.KnownMerges.{a_known_merge_stays}
use Rattle.fjall_engine.proofs.KeptJobs.{flush_known}
use Rattle.fjall_engine.proofs.laws.a_known_job_stays_known.Goals as goal

pub returns-clause-flush : goal.returns-clause-flush
returns-clause-flush c = flush_known

pub returns-clause-merge : goal.returns-clause-merge
returns-clause-merge c = λ core s t shape reply stands step.
    a_known_merge_stays core.memory core.catalog.next_table_id s stands.remembered shape reply t step
