use Rattle.fjall_trees.proofs.Older as Older
use Rattle.fjall_trees.proofs.table_laws.tables_are_older_than_memory.Goals as goal

pub returns-clause-read : goal.returns-clause-read
returns-clause-read c = Older.read_older

pub returns-clause-pushed : goal.returns-clause-pushed
returns-clause-pushed c = Older.pushed_older

pub returns-clause-emptied : goal.returns-clause-emptied
returns-clause-emptied c = Older.emptied_older

pub returns-clause-rotated : goal.returns-clause-rotated
returns-clause-rotated c = Older.rotated_older

pub returns-clause-planted : goal.returns-clause-planted
returns-clause-planted c = Older.planted_older

pub returns-clause-dropped : goal.returns-clause-dropped
returns-clause-dropped c = Older.dropped_older
