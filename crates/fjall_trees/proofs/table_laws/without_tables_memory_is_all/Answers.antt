use Rattle.fjall_trees.proofs.Bare as Bare
use Rattle.fjall_trees.proofs.Older as Older
use Rattle.fjall_trees.proofs.table_laws.without_tables_memory_is_all.Goals as goal

pub returns-clause-pairs : goal.returns-clause-pairs
returns-clause-pairs c = Bare.bare_pairs

pub returns-clause-store : goal.returns-clause-store
returns-clause-store c = Bare.bare_store

pub returns-clause-older : goal.returns-clause-older
returns-clause-older c = Older.none_older
