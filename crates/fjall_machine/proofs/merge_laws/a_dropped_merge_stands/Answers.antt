use Rattle.fjall_machine.proofs.Merging as Merging
use Rattle.fjall_machine.proofs.merge_laws.a_dropped_merge_stands.Goals as goal

pub returns : goal.returns
returns c = Merging.a_dropped_merge_stands
