use Rattle.fjall_trees.proofs.Commands as Commands
use Rattle.fjall_trees.proofs.Dropped as Dropped
use Rattle.fjall_trees.proofs.table_laws.a_deleted_keyspace_with_tables_is_a_deletion.Goals as goal

pub returns-clause-store : goal.returns-clause-store
returns-clause-store c = Commands.deleted_by

pub returns-clause-dropped : goal.returns-clause-dropped
returns-clause-dropped c = Dropped.dropped_store_with

pub returns-clause-maps : goal.returns-clause-maps
returns-clause-maps c = Dropped.dropped_with
