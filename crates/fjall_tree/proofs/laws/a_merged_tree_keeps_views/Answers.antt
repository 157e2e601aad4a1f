use Rattle.fjall_tree.proofs.Merged as Merged
use Rattle.fjall_tree.proofs.laws.a_merged_tree_keeps_views.Goals as goal

pub returns-clause-views : goal.returns-clause-views
returns-clause-views c = Merged.merged_view

pub returns-clause-reads : goal.returns-clause-reads
returns-clause-reads c = Merged.merged_read

pub returns-clause-flush : goal.returns-clause-flush
returns-clause-flush c = Merged.merged_flushing
