-- A home: what a keyspace's folder holds, its records and the tables that the last of them names.
use Rattle.std.specs.Prelude.{◌≡◌, ℕ, ◌<◌, ◌≤◌, ◌^◌, ◌||◌, Bool, List, [], ◌∷◌, codes, Some}
use Rattle.std.specs.Str.{bytes_eq}
use Rattle.std.specs.List.{flat_map, AllByRecursion}
use Rattle.fjall_base.specs.Disk.{Name, DiskEntry, Missing, File, Folder, Place, DiskState, Image, Crash, IsFile}
use Rattle.fjall_base.specs.Lists.{last_of}
use Rattle.fjall_files.specs.Names.{keyspace_folder, current_name, table_name}
use Rattle.fjall_files.specs.Regions.{is_under, IsSafe}
use Rattle.fjall_files.specs.Texts.{text_in}
use Rattle.fjall_table.specs.declared.table_info.TableInfo.{TableInfo}
use Rattle.fjall_manifest.specs.Records.{Fields, IsRecord, IsRecords, record_text}

-- What a keyspace's folder holds: its last record, and the bytes of each table that this names, in the record's order.
pub record Home : Type 0 where
  pub last : Fields
  pub texts : List (List ℕ)

-- ---- in an image

-- the bytes of the records of the keyspace of this id
abbrev pub records_text : Image → ℕ → List ℕ
records_text image id = text_in (image (current_name id))

-- a file of these bytes stands there
abbrev pub HoldsText : Image → Name → List ℕ → Type 0
HoldsText image name bytes = IsFile (image name) × (text_in (image name) ≡ bytes)

-- the tables of these infos stand in their files with these bytes, one by one
abbrev pub HoldTables : Image → ℕ → List TableInfo → List (List ℕ) → Type 0
HoldTables image id [] [] = Unit {0}
HoldTables image id (t ∷ tables) (bytes ∷ texts) = HoldsText image (table_name id t.id) bytes × HoldTables image id tables texts
HoldTables image id tables texts = ⊥

-- the files of a home: its whole records, and the tables that the last of them names
pub record HasFiles (image : Image) (id : ℕ) (records : List Fields) (h : Home) : Type 0 where
  pub current : IsFile (image (current_name id))
  pub end : ℕ
  pub whole : IsRecords (records_text image id) records end
  pub last_is : last_of records ≡ Some h.last
  pub tables : HoldTables image id h.last.tables h.texts

-- and the folder that they are in
pub record HasHome (image : Image) (id : ℕ) (records : List Fields) (h : Home) : Type 0 where
  pub folder : image (keyspace_folder id) ≡ Folder
  pub files : HasFiles image id records h

-- ---- on a disk

-- an entry that is synced, and its name too
abbrev pub only : DiskEntry → Place
only entry = record { now = entry; older = [] }

-- the tables of these infos are safe with these bytes, one by one
abbrev pub AreSafe : DiskState → ℕ → List TableInfo → List (List ℕ) → Type 0
AreSafe state id [] [] = Unit {0}
AreSafe state id (t ∷ tables) (bytes ∷ texts) = IsSafe state (table_name id t.id) bytes × AreSafe state id tables texts
AreSafe state id tables texts = ⊥

-- All of a home is safe: its folders, its records, which are whole, and the tables that the last of them names.
pub record Rests (state : DiskState) (id : ℕ) (records : List Fields) (h : Home) : Type 0 where
  pub keyspaces_folder : state (codes "keyspaces") ≡ only Folder
  pub folder : state (keyspace_folder id) ≡ only Folder
  pub current : IsSafe state (current_name id) (flat_map record_text records)
  pub each : AllByRecursion IsRecord records
  pub last_is : last_of records ≡ Some h.last
  pub tables : AreSafe state id h.last.tables h.texts

-- no table of the keyspace stands under an id from this one on
abbrev pub IsFree : DiskState → ℕ → ℕ → Type 0
IsFree state id next = (table : ℕ) → next ≤ table → table < 2 ^ 64 → (state (table_name id table)).now ≡ Missing

-- Between two changes: all is safe, and no table stands under an id that is still to be given out.
pub record IsReady (state : DiskState) (id : ℕ) (records : List Fields) (h : Home) : Type 0 where
  pub rests : Rests state id records h
  pub free : IsFree state id h.last.next_table_id

-- the names that a home rests on: its folder and all under it, and the folder that it is in
abbrev pub is_counted : ℕ → Name → Bool
is_counted id name = bytes_eq name (codes "keyspaces") || is_under (keyspace_folder id) name

-- ---- crashes

-- a view of crashes in which what is synced stays: a synced file, a folder and a missing name are left as they are
pub record KeepsSynced (crash : Crash) : Type 0 where
  pub missing : (left : DiskEntry) → crash Missing left → left ≡ Missing
  pub file : (bytes : List ℕ) (left : DiskEntry) → crash (File bytes []) left → left ≡ File bytes []
  pub folder : (left : DiskEntry) → crash Folder left → left ≡ Folder

-- the widest such view: of a file that isn't synced whole it may leave anything
abbrev pub SyncedStays : Crash
SyncedStays Missing left = left ≡ Missing
SyncedStays (File synced []) left = left ≡ File synced []
SyncedStays (File synced (b ∷ unsynced)) left = Unit {0}
SyncedStays Folder left = left ≡ Folder
