-- A folder while it is made: what may stand at each of its names, and how a disk goes on that holds it.
use Rattle.std.specs.Prelude.{◌≡◌, ◌≢◌, ◌⊎◌, ℕ, ◌<◌, ◌^◌, Bool, true, false, List, [], take, codes, Option, Some, Ok}
use Rattle.std.specs.List.{AllByRecursion}
use Rattle.fjall_base.specs.declared.error.FormatVersion.TheVariants.{V3}
use Rattle.fjall_base.specs.Disk.{Name, DiskEntry, File, Folder, DiskState, Image, IsFile, DiskStep, Put, Append, Sync, Loosen, Cut, SyncFolder, Meaning, Took, LeavesOnly, folder_of, state_in}
use Rattle.fjall_files.specs.Texts.{text_in}
use Rattle.fjall_journal.specs.Batches.{NoneAt}
use Rattle.fjall_files.specs.declared.marker.Marker.TheVariants.{Unfinished}
use Rattle.fjall_files.specs.Marker.{header, marker_tells}
use Rattle.fjall_files.specs.Names.{IsMisnamed, IsNameOf, journal_name, keyspace_folder, current_name, table_name}
use Rattle.fjall_recovery.specs.Folders.{IsBegun, file_bytes}
pub use Rattle.fjall_recovery.specs.Amid.{AreLeft, ComesBackUnfinished}

-- What a marker may be: missing or cut short, and, while it is written, also whole.
abbrev pub MayMark : Bool → Option (List ℕ) → Type 0
MayMark false bytes = marker_tells bytes ≡ Ok Unfinished
MayMark true bytes = (marker_tells bytes ≡ Ok Unfinished) ⊎ (bytes ≡ Some (header V3))

-- The entry may stand at this name in a folder that is made: no file is named nearly like a journal, a journal has no whole
-- batch, a folder in `keyspaces` is named by an id, and tree 0 has no whole record but the first one.
pub record MayStand (marking : Bool) (name : Name) (entry : DiskEntry) : Type 0 where
  pub marker : name ≡ codes "version" → MayMark marking (file_bytes entry)
  pub named : folder_of name ≡ [] → IsFile entry → IsMisnamed name → ⊥
  pub journal : (id : ℕ) → id < 2 ^ 64 → name ≡ journal_name id → NoneAt (text_in entry)
  pub folder : folder_of name ≡ codes "keyspaces" → entry ≡ Folder → ((id : ℕ) → IsNameOf keyspace_folder name id → ⊥) → ⊥
  pub records : name ≡ current_name 0 → IsBegun (text_in entry)

-- each entry of an image may stand at its name
abbrev pub IsMaking : Bool → Image → Type 0
IsMaking marking image = (name : Name) → MayStand marking name (image name)

-- whatever stands at a name, and whatever a crash may bring back there, may stand there
pub record IsKept (marking : Bool) (state : DiskState) : Type 0 where
  pub now : (name : Name) → MayStand marking name (state name).now
  pub older : (name : Name) → AllByRecursion (MayStand marking name) (state name).older

-- the step changes what stands at this name
abbrev pub ChangesAt : Name → DiskStep → Type 0
ChangesAt name (Put q entry) = q ≡ name
ChangesAt name (Append q bytes) = q ≡ name
ChangesAt name (Sync q) = q ≡ name
ChangesAt name (Loosen q len) = q ≡ name
ChangesAt name (Cut q len) = q ≡ name
ChangesAt name (SyncFolder folder) = ⊥

-- the disk went on by steps that change what stands at this name, and by no others
pub record StaysAt (name : Name) (old new : Meaning) : Type 0 where
  pub added : List DiskStep
  pub took : Took old new added
  pub each : AllByRecursion (ChangesAt name) added

-- What stands at the name of a table is what stood there.
abbrev pub KeepsAllTables : DiskState → DiskState → Type 0
KeepsAllTables old new = (id n : ℕ) → id < 2 ^ 64 → n < 2 ^ 64 → (new (table_name id n)).now ≡ (old (table_name id n)).now

-- What stands at the name of a keyspace's records, but those of tree 0, is what stood there.
abbrev pub KeepsHomeRecords : DiskState → DiskState → Type 0
KeepsHomeRecords old new = (id : ℕ) → 0 < id → id < 2 ^ 64 → (new (current_name id)).now ≡ (old (current_name id)).now

-- The disk went on, and a folder that was made is still one that is made, also whatever a crash at any moment leaves.
pub record MakingGoesOn (marking : Bool) (old new : Meaning) : Type 0 where
  pub now : IsMaking marking (λ name. (state_in old name).now) → IsMaking marking (λ name. (state_in new name).now)
  pub kept : IsKept marking (state_in old) → IsKept marking (state_in new)
  pub moments : IsKept marking (state_in old) → LeavesOnly old new (IsMaking marking)
  pub tables : KeepsAllTables (state_in old) (state_in new)

-- each beginning of these bytes may stand at the name, which is no table's
pub record CanHold (marking : Bool) (name : Name) (bytes : List ℕ) : Type 0 where
  pub each : (n : ℕ) → MayStand marking name (File (take n bytes) [])
  pub no_table : (id n : ℕ) → id < 2 ^ 64 → n < 2 ^ 64 → name ≢ table_name id n
