use Rattle.fjall_memtable.proofs.Shown as Shown
use Rattle.fjall_memtable.proofs.view_laws.the_newest_decides.Goals as goal

pub returns : goal.returns
returns c = Shown.value_shown
