use Rattle.fjall_compaction.proofs.WholeLaws as WholeLaws
use Rattle.fjall_compaction.proofs.ingestion.laws.memory_is_flushed_before_an_ingestion.Goals as goal

pub returns-clause-last : goal.returns-clause-last
returns-clause-last c = WholeLaws.whole_last

pub returns-clause-follows : goal.returns-clause-follows
returns-clause-follows c = WholeLaws.whole_follows

pub returns-clause-beyond : goal.returns-clause-beyond
returns-clause-beyond c = WholeLaws.whole_beyond
