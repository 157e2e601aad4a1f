-- A folder that was read and then mended.
use Rattle.std.specs.Prelude.{◌≡◌, List, [], length}
use Rattle.fjall_base.specs.Disk.{DiskState, Image, Name}
use Rattle.fjall_manifest.specs.Records.{Fields}
use Rattle.fjall_recovery.specs.declared.folder.RecoveredFolder.{RecoveredFolder}
use Rattle.fjall_recovery.specs.Folders.{Contents}
use Rattle.fjall_recovery.specs.Journals.{batches_in}
use Rattle.fjall_recovery.specs.Places.{Journaling, LiesInRoot, RestsInTree, journals_with, texts_of}
use Rattle.fjall_files.specs.Names.{journal_name}
use Rattle.fjall_repair.specs.declared.mending.plan.MendPlan.{MendPlan}
use Rattle.fjall_repair.specs.Steps.{End, IsMendPlan, IsTreeEnd, opened}

-- the plan for the folder that was read, which is this image: that of its journals and its keyspaces, and of tree 0's records
abbrev pub IsMendingOf : Image → RecoveredFolder → MendPlan → Type 0
IsMendingOf image found plan = (tree : End) × IsTreeEnd image tree × IsMendPlan found tree plan

-- All that the folder holds lies whole and synced, and this is the file of its active journal, whose whole batches end where
-- they were read to end. The journals are those of the folder, or an empty one where it had none.
pub record IsMended (state : DiskState) (found : RecoveredFolder) (c : Contents) (active : Name) : Type 0 where
  pub j : Journaling
  pub root : LiesInRoot state j
  pub active_is : journal_name j.active ≡ active
  pub later : j.later ≡ []
  pub end : length (texts_of j.whole) ≡ found.journals.end
  pub batches : batches_in (journals_with j []) ≡ batches_in c.journals
  pub journals : journals_with j [] ≡ opened c.journals
  pub records : List Fields
  pub tree : RestsInTree state records (record { last = c.last; keyspaces = c.keyspaces; homes = c.homes; versions = c.versions })
