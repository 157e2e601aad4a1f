use Rattle.fjall_trees.proofs.Emptied as Emptied
use Rattle.fjall_trees.proofs.table_laws.a_clear_beside_tables_is_the_command.Goals as goal

pub returns-clause-early : goal.returns-clause-early
returns-clause-early c = Emptied.clear_early

pub returns-clause-late : goal.returns-clause-late
returns-clause-late c = Emptied.clear_late

pub returns-clause-store : goal.returns-clause-store
returns-clause-store c = Emptied.clear_with
