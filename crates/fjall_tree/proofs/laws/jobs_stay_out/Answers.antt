use Rattle.fjall_tree.proofs.Ingested as Ingested
use Rattle.fjall_tree.proofs.Staying as Staying
use Rattle.fjall_tree.proofs.laws.jobs_stay_out.Goals as goal

pub returns-clause-written : goal.returns-clause-written
returns-clause-written c = Staying.flush_written

pub returns-clause-emptied : goal.returns-clause-emptied
returns-clause-emptied c = Staying.flush_emptied

pub returns-clause-rotated : goal.returns-clause-rotated
returns-clause-rotated c = Staying.flush_rotated

pub returns-clause-merge_written : goal.returns-clause-merge_written
returns-clause-merge_written c = Staying.merge_written

pub returns-clause-merge_emptied : goal.returns-clause-merge_emptied
returns-clause-merge_emptied c = Staying.merge_emptied

pub returns-clause-merge_rotated : goal.returns-clause-merge_rotated
returns-clause-merge_rotated c = Staying.merge_rotated

pub returns-clause-merge_ingested : goal.returns-clause-merge_ingested
returns-clause-merge_ingested c shape entries task is held apart keyspace watermark tables clears made n small until lists at readers =
    Ingested.merge_ingested shape held apart keyspace watermark tables clears made n small until entries lists at readers task is
