use Rattle.fjall_memtable.proofs.Merging as Merging
use Rattle.fjall_memtable.proofs.view_laws.a_merge_keeps_views.Goals as goal

pub returns : goal.returns
returns c = Merging.a_merge_keeps_views
