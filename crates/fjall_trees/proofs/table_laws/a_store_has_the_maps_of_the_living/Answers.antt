use Rattle.fjall_trees.proofs.Stores as Stores
use Rattle.fjall_trees.proofs.table_laws.a_store_has_the_maps_of_the_living.Goals as goal

pub returns-clause-reads : goal.returns-clause-reads
returns-clause-reads c = Stores.reads_by

pub returns-clause-kept : goal.returns-clause-kept
returns-clause-kept c = Stores.kept_by

pub returns-clause-same : goal.returns-clause-same
returns-clause-same c = Stores.same_by
