use Rattle.fjall_trees.proofs.Planted as Planted
use Rattle.fjall_trees.proofs.table_laws.a_new_keyspace_beside_tables_is_a_creation.Goals as goal

pub returns-clause-maps : goal.returns-clause-maps
returns-clause-maps c = Planted.planted_with

pub returns-clause-store : goal.returns-clause-store
returns-clause-store c = Planted.creation_with
