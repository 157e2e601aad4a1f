use Rattle.fjall_index_entries.proofs.Index.{index_altered}
use Rattle.fjall_index_entries.proofs.laws.the_index_changes_by_two_entries.Goals as goal

pub returns : goal.returns
returns c = index_altered
