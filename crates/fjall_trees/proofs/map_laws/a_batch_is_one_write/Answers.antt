use Rattle.fjall_trees.proofs.Pushed as Pushed
use Rattle.fjall_trees.proofs.map_laws.a_batch_is_one_write.Goals as goal

pub returns-clause-forest : goal.returns-clause-forest
returns-clause-forest c = Pushed.pushed_forest

pub returns-clause-before : goal.returns-clause-before
returns-clause-before c = Pushed.pushed_before

pub returns-clause-has : goal.returns-clause-has
returns-clause-has c = Pushed.pushed_has

pub returns-clause-early : goal.returns-clause-early
returns-clause-early c = Pushed.pushed_early

pub returns-clause-late : goal.returns-clause-late
returns-clause-late c = Pushed.pushed_late

pub returns-clause-store : goal.returns-clause-store
returns-clause-store c = Pushed.pushed_store
