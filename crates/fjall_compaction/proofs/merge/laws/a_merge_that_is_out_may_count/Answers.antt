use Rattle.fjall_compaction.proofs.MergeFinishing as Finishing
use Rattle.fjall_compaction.proofs.merge.laws.a_merge_that_is_out_may_count.Goals as goal

pub returns-clause-last : goal.returns-clause-last
returns-clause-last c = Finishing.last_is

pub returns-clause-at : goal.returns-clause-at
returns-clause-at c = Finishing.at

pub returns-clause-right : goal.returns-clause-right
returns-clause-right c = Finishing.right

pub returns-clause-counts : goal.returns-clause-counts
returns-clause-counts c j t trees entries records k task can target tables clears made h home = Finishing.counts j t trees entries records k task can h home target tables clears made
