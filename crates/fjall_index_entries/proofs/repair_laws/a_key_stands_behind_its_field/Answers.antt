use Rattle.fjall_index_entries.proofs.Repairing.{behind_field}
use Rattle.fjall_index_entries.proofs.repair_laws.a_key_stands_behind_its_field.Goals as goal

pub returns : goal.returns
returns c = behind_field
