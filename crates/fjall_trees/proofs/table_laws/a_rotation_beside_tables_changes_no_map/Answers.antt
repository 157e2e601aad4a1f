use Rattle.fjall_trees.proofs.Rotated as Rotated
use Rattle.fjall_trees.proofs.table_laws.a_rotation_beside_tables_changes_no_map.Goals as goal

pub returns-clause-maps : goal.returns-clause-maps
returns-clause-maps c = Rotated.rotated_with

pub returns-clause-store : goal.returns-clause-store
returns-clause-store c = Rotated.rotated_store_with
