use Rattle.fjall_compaction.proofs.MergeAfterHomes as AfterHomes
use Rattle.fjall_compaction.proofs.MergeAfterRecords as AfterRecords
use Rattle.fjall_compaction.proofs.merge.laws.a_merged_home_is_right.Goals as goal

pub returns-clause-record : goal.returns-clause-record
returns-clause-record c = AfterRecords.is_record

pub returns-clause-versions : goal.returns-clause-versions
returns-clause-versions c = AfterHomes.has_versions

pub returns-clause-tables : goal.returns-clause-tables
returns-clause-tables c = AfterHomes.right_after

pub returns-clause-tree : goal.returns-clause-tree
returns-clause-tree c t id m lists entries h at is right have = AfterHomes.have_versions m lists entries h is right t id at have
