use Rattle.fjall_machine.proofs.Knowing as Knowing
use Rattle.fjall_machine.proofs.laws.a_known_task_stays.Goals as goal

pub returns-clause-change : goal.returns-clause-change
returns-clause-change c = Knowing.after_change

pub returns-clause-creation : goal.returns-clause-creation
returns-clause-creation c = Knowing.after_creation

pub returns-clause-deletion : goal.returns-clause-deletion
returns-clause-deletion c = Knowing.after_deletion

pub returns-clause-retained : goal.returns-clause-retained
returns-clause-retained c = Knowing.after_retained

pub returns-clause-released : goal.returns-clause-released
returns-clause-released c = Knowing.after_released

pub returns-clause-rotated : goal.returns-clause-rotated
returns-clause-rotated c = Knowing.after_rotation

pub returns-clause-journal : goal.returns-clause-journal
returns-clause-journal c = Knowing.after_journal

pub returns-clause-read : goal.returns-clause-read
returns-clause-read c = Knowing.after_read

pub returns-clause-tickets : goal.returns-clause-tickets
returns-clause-tickets c = Knowing.after_tickets

pub returns-clause-begun : goal.returns-clause-begun
returns-clause-begun c = Knowing.after_begun

pub returns-clause-dropped : goal.returns-clause-dropped
returns-clause-dropped c = Knowing.after_dropped

pub returns-clause-finished : goal.returns-clause-finished
returns-clause-finished c = Knowing.after_finished

pub returns-clause-ingested : goal.returns-clause-ingested
returns-clause-ingested c = Knowing.after_ingestion

pub returns-clause-evicted : goal.returns-clause-evicted
returns-clause-evicted c = Knowing.after_evicted

pub returns-clause-poisoned : goal.returns-clause-poisoned
returns-clause-poisoned c = Knowing.after_fault
