use Rattle.fjall_machine.proofs.KnownMerges as Known
use Rattle.fjall_machine.proofs.QuietSteps as Quiet
use Rattle.fjall_machine.proofs.merge_laws.a_known_merge_stays.Goals as goal

pub returns-clause-stays : goal.returns-clause-stays
returns-clause-stays c = Known.a_known_merge_stays

pub returns-clause-quiet : goal.returns-clause-quiet
returns-clause-quiet c = Quiet.quiet_stays
