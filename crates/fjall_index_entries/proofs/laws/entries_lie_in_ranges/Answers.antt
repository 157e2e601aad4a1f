use Rattle.fjall_index_entries.proofs.Found.{in_range}
use Rattle.fjall_index_entries.proofs.laws.entries_lie_in_ranges.Goals as goal

pub returns : goal.returns
returns c = in_range
