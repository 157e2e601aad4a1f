use Rattle.fjall_trees.proofs.Pushed as Pushed
use Rattle.fjall_trees.proofs.table_laws.a_batch_beside_tables_is_one_write.Goals as goal

pub returns-clause-early : goal.returns-clause-early
returns-clause-early c = Pushed.early_with

pub returns-clause-late : goal.returns-clause-late
returns-clause-late c = Pushed.late_with

pub returns-clause-store : goal.returns-clause-store
returns-clause-store c = Pushed.write_with
