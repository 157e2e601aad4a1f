-- The catalog: tree 0 on disk, whose last record and table say which keyspaces live.
use Rattle.std.specs.Prelude.{◌≡◌, ◌↔◌, ℕ, ◌<◌, Bool, IsTrue, List, [], ◌∷◌, length, map, Option, Some, None, IfSome}
use Rattle.fjall_base.specs.Disk.{DiskState, Image}
use Rattle.fjall_table.specs.declared.level.Level.TheVariants.{L1}
use Rattle.fjall_table.specs.declared.table_info.TableInfo.{TableInfo}
use Rattle.fjall_manifest.specs.Records.{Fields, IsRecords}
use Rattle.fjall_table.specs.Blocks as blocks
use Rattle.fjall_table_reader.specs.Files as files
use Rattle.fjall_manifest.specs.Homes as homes
use Rattle.fjall_manifest.specs.Homes.{Home, HasFiles, HoldTables, IsFree, records_text}
use Rattle.fjall_meta.specs.declared.entry.MetaEntry.{MetaEntry}
use Rattle.fjall_meta.specs.Keyspaces.{Keyspaces, AreKeyspaces}
use Rattle.fjall_meta.specs.Entries.{entries_of}
use Rattle.fjall_manifest.specs.declared.catalog.Catalog.{Catalog}

-- ---- what the record says

-- one item or none
abbrev pub listed : {T : Type 0} → Option T → List T
listed None = []
listed (Some item) = item ∷ []

-- what the record of a catalog says: at most one table, and no clears
abbrev pub fields : Catalog → Fields
fields c = record {
  persisted = c.persisted;
  highest = c.highest;
  next_table_id = c.next_table_id;
  next_keyspace_id = c.next_keyspace_id;
  tables = listed c.table;
  clears = [];
}

-- its table, where it names one, is at level 1
abbrev pub IsAtLevel1 : Option TableInfo → Type 0
IsAtLevel1 table = IfSome table (λ t. t.level ≡ L1)

-- what the first record of tree 0 says: that the first table and the first keyspace get the id 1
abbrev pub first_catalog : Catalog
first_catalog = record { persisted = None; highest = None; next_table_id = 1; next_keyspace_id = 1; table = None }

-- what the first record of a keyspace says that the change of this number made; it gives out no ids of keyspaces
abbrev pub first_of : ℕ → Catalog
first_of number = record { persisted = None; highest = Some number; next_table_id = 1; next_keyspace_id = 0; table = None }

-- ---- what the table says

-- a pair of the meta keyspace as an entry of a table
abbrev pub table_entry : MetaEntry → blocks.Entry
table_entry e = record { key = e.key; number = e.number; value = Some e.value }

-- The bytes are the table that the record names, at level 1, with these pairs.
pub record IsCatalogTable (t : TableInfo) (bytes : List ℕ) (entries : List MetaEntry) : Type 0 where
  pub level : t.level ≡ L1
  pub is : files.IsTableOf t bytes (map table_entry entries)

-- The tables that a record names have these bytes, and these pairs are in them: none where no table is named.
abbrev pub ArePairs : Option TableInfo → List (List ℕ) → List MetaEntry → Type 0
ArePairs None [] entries = entries ≡ []
ArePairs (Some t) (bytes ∷ []) entries = IsCatalogTable t bytes entries
ArePairs table texts entries = ⊥

-- the home of a catalog: its record, and the bytes of the table that it names
abbrev pub home_of : Catalog → List (List ℕ) → Home
home_of c texts = record { last = fields c; texts = texts }

-- ---- in an image

-- the bytes of tree 0's records
abbrev pub records_in : Image → List ℕ
records_in image = records_text image 0

-- the table that a record of tree 0 names stands in its file, with these pairs; where none is named there are no pairs
abbrev pub HoldsEntries : Image → Option TableInfo → List MetaEntry → Type 0
HoldsEntries image table entries = (texts : List (List ℕ)) × HoldTables image 0 (listed table) texts × ArePairs table texts entries

-- The image's tree 0 says that these keyspaces live. It is the home of the id 0: the last of its whole records is the
-- catalog's, and the table that this names has the keyspaces' pairs.
pub record Says (image : Image) (records : List Fields) (last : Catalog) (s : Keyspaces) : Type 0 where
  pub texts : List (List ℕ)
  pub files : HasFiles image 0 records (home_of last texts)
  pub pairs : ArePairs last.table texts (entries_of s.living)
  pub next : s.next ≡ last.next_keyspace_id
  pub are : AreKeyspaces s

-- Tree 0's whole records end there, and it is told whether bytes stand behind them.
pub record HasEnd (image : Image) (end : ℕ) (is_torn : Bool) : Type 0 where
  pub records : List Fields
  pub whole : IsRecords (records_in image) records end
  pub torn : IsTrue is_torn ↔ (end < length (records_in image))

-- ---- on a disk

-- All that the catalog says is safe: the home of the id 0 rests, with the keyspaces' pairs in its table.
pub record CatalogRests (state : DiskState) (records : List Fields) (last : Catalog) (s : Keyspaces) : Type 0 where
  pub texts : List (List ℕ)
  pub home : homes.Rests state 0 records (home_of last texts)
  pub pairs : ArePairs last.table texts (entries_of s.living)
  pub next : s.next ≡ last.next_keyspace_id
  pub are : AreKeyspaces s

-- Between two changes: all is safe, and no table stands under an id that is still to be given out.
pub record IsReady (state : DiskState) (records : List Fields) (last : Catalog) (s : Keyspaces) : Type 0 where
  pub rests : CatalogRests state records last s
  pub free : IsFree state 0 last.next_table_id
