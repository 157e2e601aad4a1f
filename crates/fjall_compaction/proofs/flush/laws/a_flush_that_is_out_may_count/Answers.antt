use Rattle.fjall_compaction.proofs.FlushFinishing as Finishing
use Rattle.fjall_compaction.proofs.flush.laws.a_flush_that_is_out_may_count.Goals as goal

pub returns-clause-begun : goal.returns-clause-begun
returns-clause-begun c id keyspace watermark sealed = Finishing.begun_with sealed

pub returns-clause-small : goal.returns-clause-small
returns-clause-small c trees id task forest is = Finishing.end_is_small trees id task forest is

pub returns-clause-above : goal.returns-clause-above
returns-clause-above c = Finishing.above

pub returns-clause-last : goal.returns-clause-last
returns-clause-last c = Finishing.last_is

pub returns-clause-counts : goal.returns-clause-counts
returns-clause-counts c j t trees entries records k task can tables clears made h home = Finishing.may_count j t trees entries records k task can h home tables clears made

pub returns-clause-follows : goal.returns-clause-follows
returns-clause-follows c j t trees entries records k task can tables clears made h home = Finishing.follows_last j t trees entries records k task can h home tables clears made
