use Rattle.fjall_memtable.proofs.SortedRanges as Ranges
use Rattle.fjall_memtable.proofs.sorted_laws.the_newest_stands_first.Goals as goal

pub returns : goal.returns
returns c = Ranges.newest_first
