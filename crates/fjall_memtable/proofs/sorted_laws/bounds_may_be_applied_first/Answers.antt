use Rattle.fjall_memtable.proofs.SortedRanges as Ranges
use Rattle.fjall_memtable.proofs.sorted_laws.bounds_may_be_applied_first.Goals as goal

pub returns : goal.returns
returns c = Ranges.bounds_first
