use Rattle.fjall_tree.proofs.Flushed as Flushed
use Rattle.fjall_tree.proofs.laws.a_flushed_tree_keeps_views.Goals as goal

pub returns-clause-views : goal.returns-clause-views
returns-clause-views c = Flushed.flushed_view

pub returns-clause-reads : goal.returns-clause-reads
returns-clause-reads c = Flushed.flushed_read

pub returns-clause-merge : goal.returns-clause-merge
returns-clause-merge c = Flushed.flushed_merging
