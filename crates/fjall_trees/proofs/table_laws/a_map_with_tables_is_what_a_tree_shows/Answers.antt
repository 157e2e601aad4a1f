use Rattle.fjall_trees.proofs.MapReading as Reading
use Rattle.fjall_trees.proofs.table_laws.a_map_with_tables_is_what_a_tree_shows.Goals as goal

pub returns-clause-view : goal.returns-clause-view
returns-clause-view c = Reading.view_with

pub returns-clause-key : goal.returns-clause-key
returns-clause-key c = Reading.key_with

pub returns-clause-nothing : goal.returns-clause-nothing
returns-clause-nothing c = Reading.nothing_with

pub returns-clause-above : goal.returns-clause-above
returns-clause-above c = Reading.above_with
