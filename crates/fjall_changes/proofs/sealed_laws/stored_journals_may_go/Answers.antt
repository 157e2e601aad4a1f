use Rattle.fjall_changes.proofs.StoredJournals.{evicted_follow, evicted_number, evicted_sound, evicted_store}
use Rattle.fjall_changes.proofs.sealed_laws.stored_journals_may_go.Goals as goal

pub returns-clause-store : goal.returns-clause-store
returns-clause-store c = evicted_store

pub returns-clause-number : goal.returns-clause-number
returns-clause-number c = evicted_number

pub returns-clause-sound : goal.returns-clause-sound
returns-clause-sound c = evicted_sound

pub returns-clause-next : goal.returns-clause-next
returns-clause-next c = evicted_follow
