use Rattle.fjall_index_entries.proofs.Repairing.{others_stay}
use Rattle.fjall_index_entries.proofs.repair_laws.repairs_leave_the_others.Goals as goal

pub returns : goal.returns
returns c = λ field index pairs found items are. others_stay index items are.alone
