-- Folders whose list is empty.
use Rattle.std.proofs.Common.{[], arith}
use Rattle.fjall_base.specs.Disk.{DiskState, IsEmpty, Lists, Name}
use Rattle.fjall_base.proofs.Crashes.{is_missing}

-- nothing stands in a folder whose list is empty
pub none_listed : (state : DiskState) (folder : Name) → Lists state folder [] → IsEmpty state folder
none_listed state folder lists name within = is_missing (state name).now (λ there. let any = lists.whole name within there in let lt = any.2 in absurd (omega (arith, lt)))
