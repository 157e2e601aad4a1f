use Rattle.fjall_machine.proofs.Merging as Merging
use Rattle.fjall_machine.proofs.merge_laws.a_counted_merge_stands.Goals as goal

pub returns : goal.returns
returns c = Merging.a_counted_merge_stands
