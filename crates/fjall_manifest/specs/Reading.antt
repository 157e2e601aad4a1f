-- A home as an opening reads it: what it looks at, what it answers, and why it refuses.
use Rattle.std.specs.Prelude.{◌≡◌, ⊤, ℕ, List, [], ◌∷◌, length, Some, Any}
use Rattle.fjall_base.specs.declared.error.Error.{Error}
use Rattle.fjall_base.specs.declared.error.Error.TheVariants.{Io, OutOfMemory, Storage}
use Rattle.fjall_base.specs.declared.error.StorageError.{StorageError}
use Rattle.fjall_base.specs.declared.error.StorageError.TheVariants.{RecordDamaged, TableDamaged}
use Rattle.fjall_base.specs.Disk.{Image, IsFile}
use Rattle.fjall_base.specs.Errors.{Rose}
use Rattle.fjall_base.specs.Lists.{last_of}
use Rattle.fjall_files.specs.Names.{current_name, table_name}
use Rattle.fjall_table_reader.specs.declared.table_file.TableFile.{TableFile}
use Rattle.fjall_table.specs.declared.table_info.TableInfo.{TableInfo}
use Rattle.fjall_table.specs.Blocks.{Entry}
use Rattle.fjall_table.specs.Tables.{Handle}
use Rattle.fjall_table_reader.specs.Files.{HoldsNoTable, HoldsTable, IsIndexed, IsTableOf, handles_in, name_of}
use Rattle.fjall_manifest.specs.Records.{Fields, IsRecords, view}
use Rattle.fjall_manifest.specs.declared.reading.Last.{Last}
use Rattle.fjall_manifest.specs.declared.reading.LoadedHome.{LoadedHome}
use Rattle.fjall_manifest.specs.Homes.{HasFiles, Home, records_text}

-- ---- what is looked at

-- the bytes of these tables have the length, the footer and the index that an opening wants, one by one
abbrev pub AreIndexed : List TableInfo → List (List ℕ) → List (List Handle) → Type 0
AreIndexed [] [] [] = Unit {0}
AreIndexed (t ∷ tables) (bytes ∷ texts) (handles ∷ indexes) = IsIndexed t bytes handles × AreIndexed tables texts indexes
AreIndexed tables texts indexes = ⊥

-- What an opening looks at: the files of a home, and of its tables the ends. No block is read.
pub record IsHomeOpenable (image : Image) (id : ℕ) (records : List Fields) (h : Home) (indexes : List (List Handle)) : Type 0 where
  pub files : HasFiles image id records h
  pub indexed : AreIndexed h.last.tables h.texts indexes

-- beyond it, every block of these tables is right, and these are their entries, one by one
abbrev pub AreRight : List TableInfo → List (List ℕ) → List (List Entry) → Type 0
AreRight [] [] [] = Unit {0}
AreRight (t ∷ tables) (bytes ∷ texts) (entries ∷ lists) = IsTableOf t bytes entries × AreRight tables texts lists
AreRight tables texts lists = ⊥

-- ---- a home that was read

-- a table of the keyspace of this id, opened
pub record IsOpened (id : ℕ) (t : TableInfo) (handles : List Handle) (file : TableFile) : Type 0 where
  pub name : name_of file ≡ table_name id t.id
  pub info : file.info ≡ t
  pub index : handles_in file ≡ handles

-- the tables of a record, opened one by one
abbrev pub AreOpened : ℕ → List TableInfo → List (List Handle) → List TableFile → Type 0
AreOpened id [] [] [] = Unit {0}
AreOpened id (t ∷ tables) (handles ∷ indexes) (file ∷ files) = IsOpened id t handles file × AreOpened id tables indexes files
AreOpened id tables indexes files = ⊥

-- What was read is the image's home of this id: its last record, where the whole ones end, how many bytes their file has,
-- and its tables, opened.
pub record IsLoaded (image : Image) (id : ℕ) (home : LoadedHome) : Type 0 where
  pub named : home.id ≡ id
  pub records : List Fields
  pub h : Home
  pub indexes : List (List Handle)
  pub openable : IsHomeOpenable image id records h indexes
  pub record_is : view home.record ≡ h.last
  pub end_is : home.end ≡ openable.files.end
  pub len_is : home.len ≡ length (records_text image id)
  pub tables : AreOpened id h.last.tables indexes home.tables.items

-- ---- in parts

-- What was read of the records: the last whole one, where the whole ones end, and how many bytes there are.
pub record IsLast (image : Image) (id : ℕ) (found : Last) : Type 0 where
  pub file : IsFile (image (current_name id))
  pub records : List Fields
  pub whole : IsRecords (records_text image id) records found.end
  pub last_is : last_of records ≡ Some (view found.record)
  pub len_is : found.len ≡ length (records_text image id)

-- a table of the keyspace, opened from the file that the image has
pub record IsHeldTable (image : Image) (id : ℕ) (t : TableInfo) (file : TableFile) : Type 0 where
  pub opened : IsOpened id t (handles_in file) file
  pub holds : HoldsTable (image (table_name id t.id)) t (handles_in file)

-- tables of the keyspace, one by one
abbrev pub AreHeld : Image → ℕ → List TableInfo → List TableFile → Type 0
AreHeld image id [] [] = Unit {0}
AreHeld image id (t ∷ tables) (file ∷ files) = IsHeldTable image id t file × AreHeld image id tables files
AreHeld image id tables files = ⊥

-- ---- why it isn't read

-- no whole record stands at the front of the bytes, or a whole one contradicts itself
abbrev pub HasNoRecord : List ℕ → Type 0
HasNoRecord text = (records : List Fields) (end : ℕ) → IsRecords text records end → records ≡ []

-- no such table stands under the name of this one in the keyspace's folder
abbrev pub LacksTable : Image → ℕ → TableInfo → Type 0
LacksTable image id t = HoldsNoTable (image (table_name id t.id)) t

-- The last record there is names a table that doesn't stand there.
pub record LacksSome (image : Image) (id : ℕ) : Type 0 where
  pub records : List Fields
  pub end : ℕ
  pub whole : IsRecords (records_text image id) records end
  pub last : Fields
  pub last_is : last_of records ≡ Some last
  pub lacks : Any (LacksTable image id) last.tables

-- what is wrong with the records or the tables
abbrev pub IsDamage : Image → ℕ → StorageError → Type 0
IsDamage image id RecordDamaged = HasNoRecord (records_text image id)
IsDamage image id TableDamaged = LacksSome image id
IsDamage image id cause = ⊥

-- Why a home isn't read: the disk failed, memory ran out, or it is damaged.
abbrev pub IsRefusal : Image → ℕ → (faults_before faults_after : ℕ) → Error → Type 0
IsRefusal image id before after (Io kind) = Rose before after
IsRefusal image id before after OutOfMemory = ⊤
IsRefusal image id before after (Storage cause) = IsDamage image id cause
IsRefusal image id before after error = ⊥

-- what a home may be refused with, over any disk at all: a fault of the disk, want of memory, or one of the two damages
abbrev pub IsHomeRefusal : (faults_before faults_after : ℕ) → Error → Type 0
IsHomeRefusal before after (Io kind) = Rose before after
IsHomeRefusal before after OutOfMemory = ⊤
IsHomeRefusal before after (Storage RecordDamaged) = ⊤
IsHomeRefusal before after (Storage TableDamaged) = ⊤
IsHomeRefusal before after error = ⊥
