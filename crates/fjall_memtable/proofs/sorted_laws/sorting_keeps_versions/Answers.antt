use Rattle.fjall_memtable.proofs.Sorting as Sorting
use Rattle.fjall_memtable.proofs.sorted_laws.sorting_keeps_versions.Goals as goal

pub returns-clause-ordered : goal.returns-clause-ordered
returns-clause-ordered c = Sorting.sorted_ordered

pub returns-clause-same : goal.returns-clause-same
returns-clause-same c = Sorting.sorted_same

pub returns-clause-already : goal.returns-clause-already
returns-clause-already c = Sorting.sorted_already
