use Rattle.fjall_compaction.proofs.Right as Right
use Rattle.fjall_compaction.proofs.ingestion.laws.an_ingested_home_is_right.Goals as goal

pub returns-clause-record : goal.returns-clause-record
returns-clause-record c = Right.is_record

pub returns-clause-versions : goal.returns-clause-versions
returns-clause-versions c = Right.has_versions

pub returns-clause-clears : goal.returns-clause-clears
returns-clause-clears c = Right.clears_within

pub returns-clause-tree : goal.returns-clause-tree
returns-clause-tree c = Right.have_versions
