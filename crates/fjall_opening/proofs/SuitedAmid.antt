-- A folder that was read, mended as it is planned, where a crash may leave different stores.
use Rattle.std.proofs.Common.{string_bytes, ◌∙◌, ap}
use Rattle.fjall_base.specs.Disk.{DiskState, Image}
use Rattle.fjall_files.specs.Names.{journal_name}
use Rattle.fjall_recovery.specs.declared.folder.RecoveredFolder.{RecoveredFolder}
use Rattle.fjall_recovery.specs.Folders.{Contents, IsFinished, IsOpenable, IsSound, ShowsContents}
use Rattle.fjall_repair.specs.declared.mending.plan.MendPlan.{MendPlan}
use Rattle.fjall_repair.specs.Mended.{IsMended, IsMendingOf}
use Rattle.fjall_repair.specs.Steps.{IsRested, Suits, active_of, with_active}
use Rattle.fjall_repair.proofs.Mended.{mended}
use Rattle.fjall_repair.proofs.Suiting.{ends_found, ends_length, suits}

-- a plan of a folder that was read suits it
pub suited_amid : (image : Image) (f : RecoveredFolder) (c : Contents) (p : MendPlan) → IsOpenable image c → IsFinished image f → ShowsContents f c → IsMendingOf image f p → Suits image c p
suited_amid image f c p sound finished shows is = suits image f c is.0 p sound finished shows is.1 is.2

-- what was rested is mended
pub mended_amid : (image : Image) (s : DiskState) (f : RecoveredFolder) (c : Contents) (p : MendPlan) → IsSound image c → IsFinished image f → ShowsContents f c → IsMendingOf image f p → IsRested s (with_active c) → IsMended s f c (string_bytes p.active)
mended_amid image s f c p sound finished shows is rested =
    mended s f c (string_bytes p.active) sound.versions rested (is.2.active ∙ ap (λ ids. journal_name (active_of ids)) shows.ids) (ends_length image c.journals f.journals.end f.journals.torn (ends_found image f c sound.openable finished))
