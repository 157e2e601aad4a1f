use Rattle.fjall_trees.proofs.Reading as Reading
use Rattle.fjall_trees.proofs.laws.the_tables_stay_read.Goals as goal

pub returns-clause-pushed : goal.returns-clause-pushed
returns-clause-pushed c = Reading.pushed_read

pub returns-clause-emptied : goal.returns-clause-emptied
returns-clause-emptied c = Reading.emptied_read_on

pub returns-clause-rotated : goal.returns-clause-rotated
returns-clause-rotated c = Reading.rotated_read_on

pub returns-clause-added : goal.returns-clause-added
returns-clause-added c = Reading.added_read

pub returns-clause-planted : goal.returns-clause-planted
returns-clause-planted c = Reading.planted_read

pub returns-clause-dropped : goal.returns-clause-dropped
returns-clause-dropped c = Reading.dropped_read

pub returns-clause-flush : goal.returns-clause-flush
returns-clause-flush c = Reading.begun_read_on

pub returns-clause-merge : goal.returns-clause-merge
returns-clause-merge c = Reading.merging_read_on

pub returns-clause-later : goal.returns-clause-later
returns-clause-later c = Reading.all_files_read

pub returns-clause-dropped_flush : goal.returns-clause-dropped_flush
returns-clause-dropped_flush c = Reading.flush_dropped_read

pub returns-clause-dropped_merge : goal.returns-clause-dropped_merge
returns-clause-dropped_merge c = Reading.merge_dropped_read
