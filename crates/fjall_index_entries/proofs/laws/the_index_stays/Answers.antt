use Rattle.fjall_index_entries.proofs.Index.{index_stays}
use Rattle.fjall_index_entries.proofs.laws.the_index_stays.Goals as goal

pub returns : goal.returns
returns c = index_stays
