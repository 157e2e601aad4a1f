use Rattle.fjall_index_entries.proofs.Keeps.{one_more_keeps}
use Rattle.fjall_index_entries.proofs.keeping_laws.one_more_key_keeps_the_index.Goals as goal

pub returns : goal.returns
returns c = one_more_keeps
