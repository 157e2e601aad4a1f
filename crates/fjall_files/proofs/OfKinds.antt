-- What stands at the names that are kept, where nothing stands in the way.
use Rattle.std.proofs.Common.{refl}
use Rattle.fjall_base.specs.Disk.{DiskState}
use Rattle.fjall_files.specs.Names.{HasIds, KeptName, name_of}
use Rattle.fjall_files.specs.Tidy.{IsOfKind, IsTidy}

-- what stands at a kept name is of its kind
pub kind_now : (state : DiskState) → IsTidy state → (kept : KeptName) → HasIds kept → IsOfKind kept (state (name_of kept)).now
kind_now state tidy kept ids = (tidy (name_of kept)).0.kind kept ids refl
