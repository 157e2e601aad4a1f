use Rattle.fjall_meta.proofs.ContentFaults as Faults
use Rattle.fjall_meta.proofs.Replaying as Replaying
use Rattle.fjall_meta.proofs.replay_laws.replays_follow_one_another.Goals as goal

pub returns-clause-least : goal.returns-clause-least
returns-clause-least c = Faults.least_after-append

pub returns-clause-faults : goal.returns-clause-faults
returns-clause-faults c = Faults.first_fault-append

pub returns-clause-stores : goal.returns-clause-stores
returns-clause-stores c = Replaying.store-append
