use Rattle.fjall_index_entries.proofs.Repairing.{right_alone}
use Rattle.fjall_index_entries.proofs.repair_laws.a_right_index_is_left_alone.Goals as goal

pub returns : goal.returns
returns c = right_alone
