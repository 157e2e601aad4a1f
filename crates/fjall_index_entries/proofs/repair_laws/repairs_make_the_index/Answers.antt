use Rattle.fjall_index_entries.proofs.Repairing.{repairs_index}
use Rattle.fjall_index_entries.proofs.repair_laws.repairs_make_the_index.Goals as goal

pub returns : goal.returns
returns c = repairs_index
