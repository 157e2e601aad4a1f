-- Views of crashes that keep what is synced.
use Rattle.std.proofs.Common.{⊎_elim, inl, inr, Bool, List, [], ◌∷◌}
use Rattle.fjall_base.specs.Disk.{Name, DiskEntry, Missing, File, Folder, DiskState, Image, Crash, Survives, SomeSurvivesBy, IsImageBy, DiskStep, LeavesBy, Meaning, LeavesOnly, LeavesOnlyBy, change, state_in}
use Rattle.fjall_base.proofs.States.{survives_whole}
use Rattle.fjall_files.specs.Regions.{IsImageIn}
use Rattle.fjall_manifest.specs.Homes.{KeepsSynced, SyncedStays}

pub usual : KeepsSynced Survives
usual = record { missing = λ left is. is; file = λ bytes left is. survives_whole bytes left is; folder = λ left is. is }

pub widest : KeepsSynced SyncedStays
widest = record { missing = λ left is. is; file = λ bytes left is. is; folder = λ left is. is }

-- no view that keeps what is synced leaves more than the widest
pub narrower : {crash : Crash} → KeepsSynced crash → (entry left : DiskEntry) → crash entry left → SyncedStays entry left
narrower keeps Missing left is = keeps.missing left is
narrower keeps (File synced []) left is = keeps.file synced left is
narrower keeps (File synced (b ∷ unsynced)) left is = tt
narrower keeps Folder left is = keeps.folder left is

-- ---- from one view to a wider one

module _ {crash wide : Crash} (to : (entry left : DiskEntry) → crash entry left → wide entry left) where
  some_wider : (entries : List DiskEntry) (left : DiskEntry) → SomeSurvivesBy crash entries left → SomeSurvivesBy wide entries left
  some_wider [] left none = none
  some_wider (entry ∷ entries) left some = ⊎_elim (λ now. inl (to entry left now)) (λ older. inr (some_wider entries left older)) some

  pub image_wider : (state : DiskState) (image : Image) → IsImageBy crash state image → IsImageBy wide state image
  image_wider state image is = record { kept = λ q there. some_wider ((state q).now ∷ (state q).older) (image q) (is.kept q there); lost = is.lost }

  pub region_wider : (region : Name → Bool) (state : DiskState) (image : Image) → IsImageIn crash region state image → IsImageIn wide region state image
  region_wider region state image is = record { kept = λ q at there. some_wider ((state q).now ∷ (state q).older) (image q) (is.kept q at there); lost = is.lost }

  leaves_wider : (state : DiskState) (steps : List DiskStep) (image : Image) → LeavesBy crash state steps image → LeavesBy wide state steps image
  leaves_wider state [] image left = image_wider state image left
  leaves_wider state (step ∷ steps) image left = ⊎_elim (λ now. inl (image_wider state image now)) (λ later. inr (leaves_wider (change step state) steps image later)) left

  pub run_narrower : (old new : Meaning) (P : Image → Type 0) → LeavesOnlyBy wide old new P → LeavesOnlyBy crash old new P
  run_narrower old new P run = record { added = run.added; took = run.took; each = λ image left. run.each image (leaves_wider (state_in old) run.added image left) }

-- what holds of the widest view holds of the usual one
pub usually : (old new : Meaning) (P : Image → Type 0) → LeavesOnlyBy SyncedStays old new P → LeavesOnly old new P
usually old new P run = run_narrower (narrower usual) old new P run

pub usual_region : (region : Name → Bool) (state : DiskState) (image : Image) → IsImageIn Survives region state image → IsImageIn SyncedStays region state image
usual_region region state image is = region_wider (narrower usual) region state image is
