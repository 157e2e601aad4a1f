use Rattle.fjall_memtable.proofs.Once as Once
use Rattle.fjall_memtable.proofs.view_laws.each_stays_once.Goals as goal

pub returns-clause-write : goal.returns-clause-write
returns-clause-write c = Once.write_once

pub returns-clause-parts : goal.returns-clause-parts
returns-clause-parts c = Once.parts_once

pub returns-clause-flush : goal.returns-clause-flush
returns-clause-flush c = Once.flush_once

pub returns-clause-merge : goal.returns-clause-merge
returns-clause-merge c = Once.merge_once
