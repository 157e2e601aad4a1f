use Rattle.fjall_changes.proofs.CrashedJournals.{rotated_base}
use Rattle.fjall_changes.proofs.StoredJournals.{rotated_batches, rotated_next, rotated_number, rotated_store}
use Rattle.fjall_changes.proofs.sealed_laws.a_rotation_keeps_all.Goals as goal

pub returns-clause-batches : goal.returns-clause-batches
returns-clause-batches c = rotated_batches

pub returns-clause-next : goal.returns-clause-next
returns-clause-next c = rotated_next

pub returns-clause-store : goal.returns-clause-store
returns-clause-store c = rotated_store

pub returns-clause-number : goal.returns-clause-number
returns-clause-number c = rotated_number

pub returns-clause-pending : goal.returns-clause-pending
returns-clause-pending c j t base has sound is = rotated_base t has base j is sound
