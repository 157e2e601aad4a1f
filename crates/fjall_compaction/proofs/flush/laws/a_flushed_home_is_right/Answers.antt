use Rattle.fjall_compaction.proofs.FlushAfterHomes.{has_versions, have_versions}
use Rattle.fjall_compaction.proofs.FlushAfterRecords.{clears_within, is_record}
use Rattle.fjall_compaction.proofs.flush.laws.a_flushed_home_is_right.Goals as goal

pub returns-clause-record : goal.returns-clause-record
returns-clause-record c = is_record

pub returns-clause-versions : goal.returns-clause-versions
returns-clause-versions c = has_versions

pub returns-clause-clears : goal.returns-clause-clears
returns-clause-clears c = clears_within

pub returns-clause-tree : goal.returns-clause-tree
returns-clause-tree c = have_versions
