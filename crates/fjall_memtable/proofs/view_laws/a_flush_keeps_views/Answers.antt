use Rattle.fjall_memtable.proofs.Hiding as Hiding
use Rattle.fjall_memtable.proofs.view_laws.a_flush_keeps_views.Goals as goal

pub returns : goal.returns
returns c = Hiding.a_flush_keeps_views
