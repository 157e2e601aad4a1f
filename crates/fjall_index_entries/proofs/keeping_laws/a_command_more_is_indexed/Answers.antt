use Rattle.fjall_index_entries.proofs.Keeps.{change_indexed}
use Rattle.fjall_index_entries.proofs.keeping_laws.a_command_more_is_indexed.Goals as goal

pub returns : goal.returns
returns c = change_indexed
