-- What a disk in memory stands for.
use Rattle.std.specs.Prelude.{◌≡◌, ◌⊎◌, ℕ, List, [], ◌∷◌, take, drop, map, string_bytes}
use Rattle.std.specs.declared.io.ErrorKind.TheVariants.{NotFound}
use Rattle.fjall_base.specs.declared.error.Error.{Error}
use Rattle.fjall_base.specs.declared.error.Error.TheVariants.{Io, OutOfMemory}
use Rattle.fjall_base.specs.Disk.{Name, placed, DiskEntry, Missing, File, Folder, Place, DiskState, DiskStep, Put, Append, Sync, Loosen, Cut, SyncFolder, appended, all_synced, cut_to, IsFile, IsLong}
use Rattle.fjall_disk_memory.specs.Wild.{followed}
use Rattle.fjall_disk_memory.specs.declared.node.Node.{Node}
use Rattle.fjall_disk_memory.specs.declared.node.Node as node
use Rattle.fjall_disk_memory.specs.declared.node.Named.{Named}
use Rattle.fjall_disk_memory.specs.declared.history.Change.{Change}
use Rattle.fjall_disk_memory.specs.declared.history.Change as taken
use Rattle.fjall_disk_memory.specs.declared.node.Kind.{Kind}
use Rattle.fjall_disk_memory.specs.declared.node.Kind as kind
use Rattle.fjall_disk_memory.specs.declared.node.FileChange.{FileChange}
use Rattle.fjall_disk_memory.specs.declared.node.FileChange as of_file

-- what stands at a name
abbrev pub entry_of : Node → DiskEntry
entry_of node.TheVariants.Missing = Missing
entry_of (node.TheVariants.File bytes synced) = File (take synced bytes.items) (drop synced bytes.items)
entry_of node.TheVariants.Folder = Folder

-- what stands there now, and what stood there since the folder was synced
abbrev pub place_of : Named → Place
place_of named = record { now = entry_of named.now; older = map entry_of named.older.items }

-- the entry's name, and what stands there
abbrev pub named_place : Named → Name × Place
named_place named = (string_bytes named.name, place_of named)

-- what stands at a name: the first of that name counts
abbrev pub state_of : List Named → DiskState
state_of names = placed (map named_place names)

-- the steps that a change is
abbrev pub steps_of : Change → List DiskStep
steps_of (taken.TheVariants.Put name node) = Put name.now (entry_of node.now) ∷ []
steps_of (taken.TheVariants.Append name bytes) = Append name.now bytes.now ∷ []
steps_of (taken.TheVariants.Sync name) = Sync name.now ∷ []
steps_of (taken.TheVariants.Cut name len) = Loosen name.now len ∷ Cut name.now len ∷ []
steps_of (taken.TheVariants.SyncFolder folder) = SyncFolder folder.now ∷ []

-- what the change makes of an entry
abbrev pub changed : FileChange → DiskEntry → DiskEntry
changed (of_file.TheVariants.Append bytes) = appended bytes.now
changed of_file.TheVariants.Sync = all_synced
changed (of_file.TheVariants.Cut len) = cut_to len
changed (of_file.TheVariants.Fill bytes) = followed bytes.now

-- the change can be made of such an entry
abbrev pub FitsEntry : FileChange → DiskEntry → Type 0
FitsEntry (of_file.TheVariants.Append bytes) = IsFile
FitsEntry of_file.TheVariants.Sync = IsFile
FitsEntry (of_file.TheVariants.Cut len) = IsLong len
FitsEntry (of_file.TheVariants.Fill bytes) = IsFile

-- the change takes no memory
abbrev pub TakesNone : FileChange → Type 0
TakesNone (of_file.TheVariants.Append bytes) = ⊥
TakesNone of_file.TheVariants.Sync = Unit {0}
TakesNone (of_file.TheVariants.Cut len) = Unit {0}
TakesNone (of_file.TheVariants.Fill bytes) = ⊥

-- the entry is of that kind
abbrev pub IsKind : Kind → DiskEntry → Type 0
IsKind kind.TheVariants.Missing entry = entry ≡ Missing
IsKind kind.TheVariants.File entry = (synced : List ℕ) × (unsynced : List ℕ) × (entry ≡ File synced unsynced)
IsKind kind.TheVariants.Folder entry = entry ≡ Folder

-- a change of a file is refused since memory ran out, or since it can't be made of what stands there
abbrev pub IsRefusedUnless : Type 0 → Error → Type 0
IsRefusedUnless Possible error = (error ≡ OutOfMemory) ⊎ ((error ≡ Io NotFound) × (Possible → ⊥))
