use Rattle.fjall_trees.proofs.Reading as Reading
use Rattle.fjall_trees.proofs.laws.finished_jobs_change_one_keyspace.Goals as goal

pub returns-clause-flushed : goal.returns-clause-flushed
returns-clause-flushed c = Reading.flushed_read_on

pub returns-clause-merged : goal.returns-clause-merged
returns-clause-merged c = Reading.merged_read_on

pub returns-clause-here : goal.returns-clause-here
returns-clause-here c = Reading.entries_here

pub returns-clause-others : goal.returns-clause-others
returns-clause-others c = Reading.entries_there
