-- What may stand at each name, so that nothing stands in the way of what an engine makes and removes.
use Rattle.std.specs.Prelude.{◌≡◌, ◌≢◌, ℕ, ◌<◌, ◌^◌, List, ◌∷◌}
use Rattle.std.specs.List.{AllByRecursion}
use Rattle.fjall_base.specs.Disk.{Name, DiskEntry, Missing, IsNoFile, IsNoFolder, DiskState, DiskStep, Put, Meaning, Took, folder_of}
use Rattle.fjall_files.specs.Names.{HasIds, KeptName, AllKeyspaces, Keyspace, keyspace_folder, name_of}
use Rattle.fjall_files.specs.Own.{IsOwn}

-- what is kept is of its kind: the folder of all keyspaces and that of each are no files, and all else is no folder
abbrev pub IsOfKind : KeptName → DiskEntry → Type 0
IsOfKind AllKeyspaces entry = IsNoFile entry
IsOfKind (Keyspace id) entry = IsNoFile entry
IsOfKind kept entry = IsNoFolder entry

-- The entry may stand at the name: what is kept there is of its kind, and in a keyspace's folder, but that of tree 0, nothing
-- else stands than files with the engine's own names, of its records and of tables.
pub record FitsAt (name : Name) (entry : DiskEntry) : Type 0 where
  pub kind : (kept : KeptName) → HasIds kept → name ≡ name_of kept → IsOfKind kept entry
  pub home : (id : ℕ) → 0 < id → id < 2 ^ 64 → folder_of name ≡ keyspace_folder id → entry ≢ Missing → IsOwn id name

-- Whatever stands at a name, and whatever a crash may bring back there, may stand there.
abbrev pub IsTidy : DiskState → Type 0
IsTidy state = (name : Name) → AllByRecursion (FitsAt name) ((state name).now ∷ (state name).older)

-- the step puts at a name only what may stand there
abbrev pub IsTidyStep : DiskStep → Type 0
IsTidyStep (Put name entry) = FitsAt name entry
IsTidyStep step = Unit {0}

-- the disk went on by such steps, and by no others
pub record StaysTidy (old new : Meaning) : Type 0 where
  pub added : List DiskStep
  pub took : Took old new added
  pub each : AllByRecursion IsTidyStep added
