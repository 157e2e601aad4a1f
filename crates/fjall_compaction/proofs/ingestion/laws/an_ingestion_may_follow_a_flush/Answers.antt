use Rattle.fjall_compaction.proofs.Following.{may_follow}
use Rattle.fjall_compaction.proofs.ingestion.laws.an_ingestion_may_follow_a_flush.Goals as goal

pub returns : goal.returns
returns c j t id number f lists h versions may = may_follow j t id f lists h versions may number
