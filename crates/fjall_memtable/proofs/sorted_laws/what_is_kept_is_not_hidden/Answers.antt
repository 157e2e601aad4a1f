use Rattle.fjall_memtable.proofs.Keeping as Keeping
use Rattle.fjall_memtable.proofs.sorted_laws.what_is_kept_is_not_hidden.Goals as goal

pub returns-clause-flushed : goal.returns-clause-flushed
returns-clause-flushed c = Keeping.flush_kept

pub returns-clause-merged : goal.returns-clause-merged
returns-clause-merged c = Keeping.merge_kept

pub returns-clause-ordered : goal.returns-clause-ordered
returns-clause-ordered c = Keeping.kept_ordered
