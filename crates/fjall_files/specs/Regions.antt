-- Changes of a disk that stay within a folder, and what a crash may leave in a region of the names.
use Rattle.std.specs.Prelude.{◌≡◌, ◌≢◌, All, Any, ℕ, Bool, true, false, List, [], ◌∷◌, ◌++◌, ◌==◌, if◌then◌else◌}
use Rattle.fjall_base.specs.Disk.{Name, DiskState, Image, Crash, IsThere, SomeSurvivesBy, Missing, File, Folder, folder_of, DiskStep, Put, Append, Sync, Loosen, Cut, SyncFolder, Meaning, Took, IsNoFile, IsNoFolder}

-- a name in a folder other than the root
abbrev pub join : Name → Name → Name
join folder name = folder ++ 47 ∷ name

-- the name is the folder's or one under it, at any depth
abbrev pub is_under : Name → Name → Bool
is_under [] [] = true
is_under [] (c ∷ cs) = c == 47
is_under (f ∷ fs) [] = false
is_under (f ∷ fs) (c ∷ cs) = if f == c then is_under fs cs else false

-- the name that a step changes, or the folder whose names it syncs
abbrev pub target : DiskStep → Name
target (Put name entry) = name
target (Append name bytes) = name
target (Sync name) = name
target (Loosen name len) = name
target (Cut name len) = name
target (SyncFolder folder) = folder

abbrev pub AreUnder : Name → List DiskStep → Type 0
AreUnder folder [] = Unit {0}
AreUnder folder (step ∷ steps) = (is_under folder (target step) ≡ true) × AreUnder folder steps

-- the disk went on by steps at this folder and under it, and by no others
pub record Within (folder : Name) (old new : Meaning) : Type 0 where
  pub added : List DiskStep
  pub took : Took old new added
  pub under : AreUnder folder added

-- A crash may leave this image at the names of a region; elsewhere it may hold anything.
pub record IsImageIn (crash : Crash) (region : Name → Bool) (state : DiskState) (image : Image) : Type 0 where
  pub kept : (name : Name) → region name ≡ true → IsThere image (folder_of name) → SomeSurvivesBy crash ((state name).now ∷ (state name).older) (image name)
  pub lost : (name : Name) → region name ≡ true → (IsThere image (folder_of name) → ⊥) → image name ≡ Missing

-- a file of these bytes, all of them synced, and its name too
abbrev pub IsSafe : DiskState → Name → List ℕ → Type 0
IsSafe state file bytes = state file ≡ record { now = File bytes []; older = [] }

-- a folder stands there now, and in it a file of these bytes, all of them synced; their names may be not
pub record IsMade (state : DiskState) (folder file : Name) (bytes : List ℕ) : Type 0 where
  pub folder_now : (state folder).now ≡ Folder
  pub file_now : (state file).now ≡ File bytes []

-- The folder, where it is there, holds files of these names alone; what stands at these names is no folder.
pub record HoldsOnly (state : DiskState) (folder : Name) (files : List Name) : Type 0 where
  pub kind : IsNoFile (state folder).now
  pub each : All (λ file. IsNoFolder (state file).now) files
  pub whole : (q : Name) → folder_of q ≡ folder → (state q).now ≢ Missing → Any (λ file. file ≡ q) files
