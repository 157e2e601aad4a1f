use Rattle.fjall_base.specs.Disk.{state_in}
use Rattle.fjall_recovery.proofs.Folders.{wild_amid}
use Rattle.fjall_recovery.proofs.wild_laws.wild_crashes_leave_no_more.Goals as goal

pub returns : goal.returns
returns c old new base least all only = record {
  added = only.added;
  took = only.took;
  each = λ wild leaves folder opens. wild_amid (state_in old) only.added base least all wild folder only.each leaves opens;
}
