use Rattle.fjall_trees.proofs.Dropped as Dropped
use Rattle.fjall_trees.proofs.Planted as Planted
use Rattle.fjall_trees.proofs.map_laws.a_deleted_keyspace_is_a_deletion.Goals as goal

pub returns-clause-store : goal.returns-clause-store
returns-clause-store c = Planted.deletion_of_trees

pub returns-clause-dropped : goal.returns-clause-dropped
returns-clause-dropped c = Dropped.dropped_store

pub returns-clause-maps : goal.returns-clause-maps
returns-clause-maps c = Dropped.dropped_pairs

pub returns-clause-forest : goal.returns-clause-forest
returns-clause-forest c = Dropped.dropped_forest
