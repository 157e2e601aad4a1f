use Rattle.fjall_compaction.proofs.Taken as Taken
use Rattle.fjall_compaction.proofs.flush.laws.a_flush_of_memory_may_count.Goals as goal

pub returns-clause-counts : goal.returns-clause-counts
returns-clause-counts c j t id number h versions task taken left tables clears made at have beyond small synced takes shows =
    Taken.counts number task taken left takes tables clears made j t id h versions at have beyond small synced shows

pub returns-clause-follows : goal.returns-clause-follows
returns-clause-follows c number last task taken left tables clears made small takes is within beyond = Taken.follows number task taken left takes tables clears made last small is within beyond
