use Rattle.fjall_trees.proofs.Finished as Finished
use Rattle.fjall_trees.proofs.table_laws.a_finished_merge_changes_no_map.Goals as goal

pub returns-clause-forest : goal.returns-clause-forest
returns-clause-forest c = Finished.merged_forest

pub returns-clause-before : goal.returns-clause-before
returns-clause-before c = Finished.merged_before

pub returns-clause-has : goal.returns-clause-has
returns-clause-has c = Finished.merged_has

pub returns-clause-maps : goal.returns-clause-maps
returns-clause-maps c = Finished.merged_with

pub returns-clause-store : goal.returns-clause-store
returns-clause-store c = Finished.merged_store
