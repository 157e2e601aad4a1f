-- A change of the catalog: what is prepared of it, and how far it has come.
use Rattle.std.specs.Prelude.{◌≡◌, ◌⊎◌, ℕ, ◌+◌, ◌<◌, ◌≤◌, ◌-◌, ◌^◌, ⊤, List, [], ◌∷◌, ◌++◌, length, Any, IfSome, Option, Some, None, string_bytes}
use Rattle.std.specs.Option.{option_map}
use Rattle.fjall_base.specs.declared.error.Error.{Error}
use Rattle.fjall_base.specs.declared.error.Error.TheVariants.{NumbersUsedUp, OutOfMemory, ValueTooLong}
use Rattle.fjall_base.specs.Disk.{Missing, DiskState, Image}
use Rattle.fjall_table.specs.declared.table_info.TableInfo.{TableInfo}
use Rattle.fjall_manifest.specs.Records.{Fields, IsRecord, record_text}
use Rattle.fjall_files.specs.Names.{table_name}
use Rattle.fjall_meta.specs.declared.entry.MetaEntry.{MetaEntry}
use Rattle.fjall_meta.specs.Keyspaces.{Keyspaces}
use Rattle.fjall_meta.specs.Entries.{entries_of}
use Rattle.fjall_manifest.specs.declared.catalog.Catalog.{Catalog}
use Rattle.fjall_manifest.specs.declared.update.Update.{Update}
use Rattle.fjall_manifest.specs.declared.writing.TableFile.{TableFile}
use Rattle.fjall_manifest.specs.Homes.{AreSafe, IsFree}
use Rattle.fjall_manifest.specs.Catalog.{ArePairs, fields, listed, IsCatalogTable, Says, CatalogRests}

-- ---- what is prepared

-- the file is the table of these pairs under this id, which isn't the greatest
pub record IsTableWritten (id : ℕ) (entries : List MetaEntry) (t : TableInfo) (file : TableFile) : Type 0 where
  pub id_is : t.id ≡ id
  pub below : id < 2 ^ 64 - 1
  pub name : string_bytes file.name ≡ table_name 0 id
  pub is : IsCatalogTable t file.bytes.items entries

-- Where there are pairs, the next id is given to a table of all of them; where there are none, no table is named and no id is given.
abbrev pub IsNewTable : (next after : ℕ) → List MetaEntry → Option TableInfo → Option TableFile → Type 0
IsNewTable next after entries None None = (entries ≡ []) × (after ≡ next)
IsNewTable next after entries (Some t) (Some file) = (after ≡ next + 1) × IsTableWritten next entries t file
IsNewTable next after entries info file = ⊥

-- The change of this number goes from a catalog to one of these keyspaces: its record says that all up to the number is persisted, and names the new table.
pub record IsUpdate (old : Catalog) (s : Keyspaces) (number : ℕ) (u : Update) : Type 0 where
  pub text : u.record_text.items ≡ record_text (fields u.catalog)
  pub is_record : IsRecord (fields u.catalog)
  pub persisted : u.catalog.persisted ≡ Some number
  pub highest : u.catalog.highest ≡ Some number
  pub next_keyspace_id : u.catalog.next_keyspace_id ≡ s.next
  pub table : IsNewTable old.next_table_id u.catalog.next_table_id (entries_of s.living) u.catalog.table u.table
  pub old_table : option_map string_bytes u.old_table ≡ option_map (λ t. table_name 0 t.id) old.table

-- a value that has no room in a table
abbrev pub IsTooLong : MetaEntry → Type 0
IsTooLong e = 2 ^ 32 ≤ length e.value

-- why pairs can't be written to a table: memory ran out, or a value is too long
abbrev pub IsWritingRefusal : List MetaEntry → Error → Type 0
IsWritingRefusal entries OutOfMemory = ⊤
IsWritingRefusal entries ValueTooLong = Any IsTooLong entries
IsWritingRefusal entries error = ⊥

-- the same under this id, or the ids are used up
abbrev pub IsTableRefusal : ℕ → List MetaEntry → Error → Type 0
IsTableRefusal id entries NumbersUsedUp = (0 < length entries) × (id ≡ 2 ^ 64 - 1)
IsTableRefusal id entries error = IsWritingRefusal entries error

-- Why a change can't be prepared: memory ran out; numbers of changes or ids of tables are used up; a stored value is too long for a table.
abbrev pub IsPreparingRefusal : Catalog → Keyspaces → ℕ → Error → Type 0
IsPreparingRefusal old s number OutOfMemory = ⊤
IsPreparingRefusal old s number NumbersUsedUp = (2 ^ 63 ≤ number) ⊎ ((0 < length (entries_of s.living)) × (old.next_table_id ≡ 2 ^ 64 - 1))
IsPreparingRefusal old s number ValueTooLong = Any IsTooLong (entries_of s.living)
IsPreparingRefusal old s number error = ⊥

-- ---- how far it has come

-- The catalog rests as before, and beside it the table of the next one is safe, with the pairs of its keyspaces.
pub record IsCatalogWritten (state : DiskState) (records : List Fields) (last : Catalog) (s : Keyspaces) (next : Catalog) (t : Keyspaces) : Type 0 where
  pub rests : CatalogRests state records last s
  pub texts : List (List ℕ)
  pub tables : AreSafe state 0 (listed next.table) texts
  pub pairs : ArePairs next.table texts (entries_of t.living)
  pub free : IsFree state 0 next.next_table_id

-- the change counts or doesn't
abbrev pub SaysEither : List Fields → Catalog → Keyspaces → Catalog → Keyspaces → Image → Type 0
SaysEither records last s next t image = Says image records last s ⊎ Says image (records ++ fields next ∷ []) next t

-- ---- afterwards

-- nothing stands where the table of this catalog was; where it names none there is none to stand
abbrev pub IsTableGone : DiskState → Catalog → Type 0
IsTableGone state old = IfSome old.table (λ t. (state (table_name 0 t.id)).now ≡ Missing)
