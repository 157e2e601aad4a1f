use Rattle.fjall_machine.proofs.Merging as Merging
use Rattle.fjall_machine.proofs.merge_laws.a_finished_merge_stands.Goals as goal

pub returns : goal.returns
returns c m table s stands id target task is same sized each tables clears made k at readers infos = (
  Merging.merged_there m table s stands id target task is tables clears made k at readers infos sized,
  Merging.finished_stands m table s stands id target task is tables clears made k at readers infos each,
)
