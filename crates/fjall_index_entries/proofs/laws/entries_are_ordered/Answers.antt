use Rattle.fjall_index_entries.proofs.Entries.{entries_order}
use Rattle.fjall_index_entries.proofs.laws.entries_are_ordered.Goals as goal

pub returns : goal.returns
returns c = entries_order
