use Rattle.fjall_trees.proofs.Finished as Finished
use Rattle.fjall_trees.proofs.table_laws.a_finished_flush_changes_no_map.Goals as goal

pub returns-clause-forest : goal.returns-clause-forest
returns-clause-forest c = Finished.flushed_forest

pub returns-clause-before : goal.returns-clause-before
returns-clause-before c = Finished.flushed_before

pub returns-clause-has : goal.returns-clause-has
returns-clause-has c = Finished.flushed_has

pub returns-clause-maps : goal.returns-clause-maps
returns-clause-maps c = Finished.flushed_with

pub returns-clause-store : goal.returns-clause-store
returns-clause-store c = Finished.flushed_store
