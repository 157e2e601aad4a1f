-- What a wild crash left is opened as what a usual one might have left, or refused by name.
use Rattle.std.proofs.Common.{◌≡◌, List, [], Option, sym, subst}
use Rattle.fjall_base.specs.Store.{Command, Store, fold, kept}
use Rattle.fjall_base.specs.Disk.{DiskState, Meaning, disk_of, standing, state_in}
use Rattle.fjall_base.specs.declared.error.Error.{Error}
use Rattle.fjall_base.specs.declared.error.Error.TheVariants.{Io, OutOfMemory}
use Rattle.fjall_journal.specs.declared.recovery_mode.RecoveryMode.{RecoveryMode}
use Rattle.fjall_recovery.specs.Amid.{IsBeginning, StandsAmid}
use Rattle.fjall_recovery.specs.Folders.{Contents}
use Rattle.fjall_recovery.specs.Held.{IsOpenFolder}
use Rattle.fjall_recovery.specs.Refusals.{HasTornTail, IsDue, IsTornTail}
use Rattle.fjall_recovery.proofs.Cutting.{left_itself}
use Rattle.fjall_recovery.proofs.Folders.{wild_amid}
use Rattle.fjall_engine.specs.Openings.{IsDueTo, IsLeftWildly, IsRefusedByName}
use Rattle.fjall_engine.specs.Standing.{HoldsStore}
use Rattle.fjall_engine.proofs.CrashedDisks.{crash_holds}

pub left_wildly : (state : DiskState) (base : Store) (least all : List Command) → IsLeftWildly state (StandsAmid base least all) → (folder : Option Contents) → IsOpenFolder (standing state) folder
    → (front : List Command) × IsBeginning least front × IsBeginning front all × HoldsStore state (kept (fold base front))
left_wildly state base least all is folder opens =
    let there : IsOpenFolder is.image folder = subst (λ (s : DiskState). IsOpenFolder (standing s) folder) is.put opens in
    let amid = wild_amid is.old is.steps base least all is.image folder is.usual is.left there in
    let holds : HoldsStore (disk_of is.image) (kept (fold base amid.front)) = crash_holds (disk_of is.image) [] is.image (kept (fold base amid.front)) (left_itself is.old is.steps is.image is.left) amid.stands in
    (amid.front, amid.holds, amid.within, subst (λ (s : DiskState). HoldsStore s (kept (fold base amid.front))) (sym is.put) holds)

-- a refusal is due to the folder, and where that opens to its torn tail
pub refused_by_name : (mode : RecoveryMode) (old new : Meaning) (error : Error) → IsDueTo mode old new error
    → ((folder : Option Contents) → IsOpenFolder (standing (state_in old)) folder → IsDue (IsTornTail mode (HasTornTail (standing (state_in old)))) error)
    → IsDue (IsRefusedByName mode old new) error
refused_by_name mode old new (Io kind) due opens = tt
refused_by_name mode old new OutOfMemory due opens = tt
refused_by_name mode old new error due opens = record { unsound = opens; same = due.1 }
