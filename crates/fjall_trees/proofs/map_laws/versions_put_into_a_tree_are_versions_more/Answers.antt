use Rattle.fjall_trees.proofs.Pushed as Pushed
use Rattle.fjall_trees.proofs.map_laws.versions_put_into_a_tree_are_versions_more.Goals as goal

pub returns-clause-view : goal.returns-clause-view
returns-clause-view c = Pushed.put_all_shows

pub returns-clause-tree : goal.returns-clause-tree
returns-clause-tree c = Pushed.put_all_tree

pub returns-clause-until : goal.returns-clause-until
returns-clause-until c = Pushed.put_all_until

pub returns-clause-clears : goal.returns-clause-clears
returns-clause-clears c = Pushed.put_all_clears_of

pub returns-clause-tables : goal.returns-clause-tables
returns-clause-tables c = Pushed.put_all_tables
