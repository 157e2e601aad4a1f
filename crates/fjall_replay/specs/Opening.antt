-- Trees over tables that stay on the disk, as an opening plants them: no block of a table is read.
use Rattle.std.specs.Prelude.{◌≡◌, ◌==◌, ℕ, ◌<◌, ◌^◌, List, [], ◌∷◌, find, map, All, IfSome, Option, None, Some}
use Rattle.std.specs.Option.{option_map}
use Rattle.std.specs.FinMap.{get}
use Rattle.std.specs.List.Sorted.{IsStrictlyIncreasing}
use Rattle.fjall_base.specs.Disk.{Image, Meaning}
use Rattle.fjall_table_reader.specs.Readers.{AreRead, IsTableBut, Reader, SomeTableIsWrong, unread}
use Rattle.fjall_meta.specs.Contents.{IsWithin, Stored, nothing_stored}
use Rattle.fjall_files.specs.Calls.{seen}
use Rattle.fjall_files.specs.Names.{table_name}
use Rattle.fjall_manifest.specs.declared.reading.LoadedHome.{LoadedHome}
use Rattle.fjall_manifest.specs.Homes.{Home}
use Rattle.fjall_tree.specs.Trees.{Shape}
use Rattle.fjall_memtable.specs.Parts.{empty_from}
use Rattle.fjall_recovery.specs.Folders.{Contents}
use Rattle.fjall_recovery.specs.Homes.{ClearsAreWithin, Homes, Versions, stored_in, stored_of}
use Rattle.fjall_replay.specs.Beside.{AreReplayedWith}
use Rattle.fjall_replay.specs.Replayed.{past}
use Rattle.fjall_memtable.specs.Sorted.{flat}
use Rattle.fjall_table_reader.specs.declared.table_file.TableFile.{TableFile}
use Rattle.fjall_table.specs.declared.table_info.TableInfo.{TableInfo}
use Rattle.fjall_table.specs.Blocks.{Entry}
use Rattle.fjall_table_reader.specs.Files.{HoldsTable, handles_in, name_of}
use Rattle.fjall_table.specs.Tables.{Handle, entries_of}
use Rattle.fjall_manifest.specs.Records.{Fields, view}
use Rattle.fjall_trees.specs.Forests.{Forest, Planted}
use Rattle.fjall_trees.specs.Tables.{AreReadOn}
use Rattle.fjall_memtable.specs.Jobs.{OnceEach}
use Rattle.fjall_meta.specs.declared.recovery.Persisted.{Persisted}
use Rattle.fjall_replay.specs.Known.{IsKnown, LastFields}

-- ---- one tree

-- the reader of a table that was opened, which keeps no block
abbrev pub reader_of : TableFile → Reader
reader_of file = unread (name_of file) file.info (handles_in file)

-- the tree of tables, and of the clears and the persisted number that a record tells: memory holds nothing, and begins one past
-- the persisted number
abbrev pub tree_of : List Reader → Fields → Shape
tree_of tables last = record {
  tables = tables;
  clears = last.clears;
  memory = record { sealed = []; active = empty_from (past last.persisted) };
  flush = None;
  merge = None;
}

-- the tree of a home that was read, under the home's id
abbrev pub opened : LoadedHome → Planted
opened home = record { id = home.id; shape = tree_of (map reader_of home.tables.items) (view home.record) }

-- The home is that of this id, and its record is one that tells of a tree: numbers end at 2^63, the clears ascend, and none is
-- beyond the persisted number.
pub record MayOpen (id : ℕ) (home : LoadedHome) : Type 0 where
  pub named : home.id ≡ id
  pub small : IfSome home.record.persisted (λ n. n < 2 ^ 63)
  pub within : ClearsAreWithin (view home.record)
  pub ascending : IsStrictlyIncreasing home.record.clears.items

-- These keyspaces have these homes, one by one.
abbrev pub MayOpenAll : List ℕ → List LoadedHome → Type 0
MayOpenAll [] [] = Unit {0}
MayOpenAll (id ∷ ids) (home ∷ homes) = MayOpen id home × MayOpenAll ids homes
MayOpenAll ids homes = ⊥

-- the record of the home of this id, where one was read
abbrev pub record_read : List LoadedHome → ℕ → Option Fields
record_read homes id = option_map (λ home. view home.record) (find (λ home. home.id == id) homes)

-- the persisted number that a home tells
abbrev pub told_by : LoadedHome → Persisted
told_by home = record { id = home.id; number = home.record.persisted }

-- ---- on a disk

-- The reader is that of this table in the keyspace's folder, whose file has the length, the footer and the index that the reader
-- knows.
pub record IsReaderOf (image : Image) (id : ℕ) (t : TableInfo) (reader : Reader) : Type 0 where
  pub handles : List Handle
  pub is : reader ≡ unread (table_name id t.id) t handles
  pub holds : HoldsTable (image (table_name id t.id)) t handles

-- the same of several, one by one
abbrev pub AreReadersIn : Image → ℕ → List TableInfo → List Reader → Type 0
AreReadersIn image id [] [] = Unit {0}
AreReadersIn image id (t ∷ tables) (reader ∷ readers) = IsReaderOf image id t reader × AreReadersIn image id tables readers
AreReadersIn image id tables readers = ⊥

-- The tree of a keyspace whose home is this one: over the tables that the home's last record names, with the record's clears.
pub record IsOpenedTree (image : Image) (id : ℕ) (h : Home) (shape : Shape) : Type 0 where
  pub readers : List Reader
  pub tables : AreReadersIn image id h.last.tables readers
  pub is : shape ≡ tree_of readers h.last

-- The tables of a keyspace's home have these entries, one by one, but for blocks that are wrong: where a right block stands it is
-- the table's.
abbrev pub HaveEntriesBut : Image → ℕ → List TableInfo → List (List Entry) → Type 0
HaveEntriesBut image id [] [] = Unit {0}
HaveEntriesBut image id (t ∷ tables) (entries ∷ lists) =
    ((blocks : List (List Entry)) × (entries ≡ entries_of blocks) × IsTableBut (image (table_name id t.id)) t blocks) × HaveEntriesBut image id tables lists
HaveEntriesBut image id tables lists = ⊥

-- ---- all of them

-- Each tree is that of its keyspace's home, and its tables are read as what they are, where they are some tables but for wrong blocks.
pub record IsOpenedOn (disk : Meaning) (c : Contents) (k : Planted) : Type 0 where
  pub h : Home
  pub home : get c.homes k.id ≡ Some h
  pub tree : IsOpenedTree (seen disk) k.id h k.shape
  pub reads : (lists : List (List Entry)) → HaveEntriesBut (seen disk) k.id h.last.tables lists → AreRead disk k.shape.tables lists

-- what is stored where a home's tables have these entries; nothing where no home is
abbrev pub stored_entries : Option Home → List (List Entry) → Stored
stored_entries None entries = nothing_stored
stored_entries (Some h) entries = stored_of h (flat entries)

-- the same of each keyspace
abbrev pub stored_with : Homes → (ℕ → List (List Entry)) → ℕ → Stored
stored_with homes entries id = stored_entries (get homes id) (entries id)

-- The tables of each home have these entries, but for wrong blocks, nothing that it holds so is beyond the persisted number, and no
-- key has two versions of one number.
abbrev pub HaveEntries : Meaning → Contents → (ℕ → List (List Entry)) → Type 0
HaveEntries disk c entries =
    (id : ℕ) (h : Home) → get c.homes id ≡ Some h → HaveEntriesBut (seen disk) id h.last.tables (entries id) × IsWithin (stored_of h (flat (entries id))) × OnceEach (flat (entries id))

-- What the trees show where the tables have these entries, but for wrong blocks: all tables are read as such on the disk, and each
-- tree shows what is stored with them.
pub record ShowsEntries (disk : Meaning) (c : Contents) (entries : ℕ → List (List Entry)) (trees : Forest) : Type 0 where
  pub on : AreReadOn disk trees entries
  pub shown : AreReplayedWith entries c.keyspaces (stored_with c.homes entries) [] trees

-- Of a sound folder these are the entries of all tables, which have no wrong block: with them each keyspace has its versions, and one
-- without a home has none.
pub record AreTablesOf (disk : Meaning) (c : Contents) (versions : Versions) (entries : ℕ → List (List Entry)) : Type 0 where
  pub have : HaveEntries disk c entries
  pub stored : (id : ℕ) → stored_with c.homes entries id ≡ stored_in c.homes versions id
  pub none : (id : ℕ) → get c.homes id ≡ None → entries id ≡ []

-- What the trees show of a sound folder whose homes have these versions: all tables are read as what they are, none has a wrong
-- block, and each tree shows what is stored.
pub record ShowsStored (disk : Meaning) (c : Contents) (versions : Versions) (trees : Forest) : Type 0 where
  pub entries : ℕ → List (List Entry)
  pub are : AreTablesOf disk c versions entries
  pub on : AreReadOn disk trees entries
  pub right : All (λ k. SomeTableIsWrong disk k.shape.tables → ⊥) trees
  pub shown : AreReplayedWith entries c.keyspaces (stored_in c.homes versions) [] trees

-- And of each keyspace the home is known: its last record is the one that is kept, and its tree goes on from that.
pub record KnowsStored (disk : Meaning) (c : Contents) (versions : Versions) (records : LastFields) (trees : Forest) : Type 0 where
  pub stored : ShowsStored disk c versions trees
  pub known : All (IsKnown records trees stored.entries c.homes versions) c.keyspaces.living
