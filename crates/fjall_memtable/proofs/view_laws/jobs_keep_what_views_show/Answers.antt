use Rattle.fjall_memtable.proofs.Needed as Needed
use Rattle.fjall_memtable.proofs.view_laws.jobs_keep_what_views_show.Goals as goal

pub returns-clause-flush : goal.returns-clause-flush
returns-clause-flush c = Needed.flush_shows

pub returns-clause-merge : goal.returns-clause-merge
returns-clause-merge c = Needed.merge_shows

pub returns-clause-removals : goal.returns-clause-removals
returns-clause-removals c = Needed.no_removal
