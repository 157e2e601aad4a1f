use Rattle.fjall_wrong_stories.proofs.Faults.{no_fault_shifts_ids, no_write_behind_a_fault}
use Rattle.fjall_wrong_stories.proofs.laws.a_fault_shifts_the_ids.Goals as goal

pub returns-clause-made : goal.returns-clause-made
returns-clause-made c = no_fault_shifts_ids

pub returns-clause-written : goal.returns-clause-written
returns-clause-written c = no_write_behind_a_fault
