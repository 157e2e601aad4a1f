use Rattle.fjall_trees.proofs.Alike as Alike
use Rattle.fjall_trees.proofs.table_laws.what_leaves_memory_changes_no_map.Goals as goal

pub returns-clause-flush : goal.returns-clause-flush
returns-clause-flush c = Alike.flush_leaves

pub returns-clause-merge : goal.returns-clause-merge
returns-clause-merge c = Alike.merge_leaves

pub returns-clause-forest : goal.returns-clause-forest
returns-clause-forest c = Alike.changed_alike_forest

pub returns-clause-before : goal.returns-clause-before
returns-clause-before c = Alike.changed_alike_before

pub returns-clause-has : goal.returns-clause-has
returns-clause-has c = Alike.changed_alike_has

pub returns-clause-older : goal.returns-clause-older
returns-clause-older c = Alike.changed_alike_older

pub returns-clause-maps : goal.returns-clause-maps
returns-clause-maps c = Alike.changed_alike_pairs

pub returns-clause-store : goal.returns-clause-store
returns-clause-store c = Alike.changed_alike_store
