use Rattle.fjall_trees.proofs.MapReading as Reading
use Rattle.fjall_trees.proofs.map_laws.a_map_is_what_a_tree_shows.Goals as goal

pub returns-clause-view : goal.returns-clause-view
returns-clause-view c = Reading.is_view

pub returns-clause-key : goal.returns-clause-key
returns-clause-key c = Reading.read_key

pub returns-clause-nothing : goal.returns-clause-nothing
returns-clause-nothing c = Reading.read_nothing

pub returns-clause-above : goal.returns-clause-above
returns-clause-above c = Reading.pairs_above
