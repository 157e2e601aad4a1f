use Rattle.fjall_trees.proofs.Emptied as Emptied
use Rattle.fjall_trees.proofs.map_laws.a_clear_is_the_command.Goals as goal

pub returns-clause-forest : goal.returns-clause-forest
returns-clause-forest c = Emptied.emptied_forest

pub returns-clause-before : goal.returns-clause-before
returns-clause-before c = Emptied.emptied_before

pub returns-clause-has : goal.returns-clause-has
returns-clause-has c = Emptied.emptied_has

pub returns-clause-early : goal.returns-clause-early
returns-clause-early c = Emptied.emptied_early

pub returns-clause-late : goal.returns-clause-late
returns-clause-late c = Emptied.emptied_late

pub returns-clause-store : goal.returns-clause-store
returns-clause-store c = Emptied.emptied_store
