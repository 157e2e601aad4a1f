use Rattle.fjall_machine.proofs.KnownMerges as Known
use Rattle.fjall_machine.proofs.Merging as Merging
use Rattle.fjall_machine.proofs.merge_laws.a_begun_merge_stands.Goals as goal

pub returns-clause-stands : goal.returns-clause-stands
returns-clause-stands c = Merging.a_begun_merge_stands

pub returns-clause-known : goal.returns-clause-known
returns-clause-known c = Known.a_begun_merge_is_known
