-- Why the catalog can't be read.
use Rattle.std.specs.Prelude.{◌≡◌, ⊤, ℕ, List, Option, Some}
use Rattle.fjall_base.specs.declared.error.Error.{Error}
use Rattle.fjall_base.specs.declared.error.Error.TheVariants.{Io, Storage, OutOfMemory}
use Rattle.fjall_base.specs.declared.error.StorageError.{StorageError}
use Rattle.fjall_base.specs.declared.error.StorageError.TheVariants.{RecordDamaged, TableDamaged, OptionMissing, OptionInvalid}
use Rattle.fjall_base.specs.Disk.{Image}
use Rattle.fjall_base.specs.Errors.{Rose}
use Rattle.fjall_table.specs.declared.table_info.TableInfo.{TableInfo}
use Rattle.fjall_manifest.specs.Records.{Fields, IsRecords}
use Rattle.fjall_base.specs.Lists.{last_of}
use Rattle.fjall_meta.specs.declared.entry.MetaEntry.{MetaEntry}
use Rattle.fjall_meta.specs.Reading.{IsReadingRefusal}
use Rattle.fjall_manifest.specs.declared.catalog.Catalog.{Catalog}
use Rattle.fjall_manifest.specs.Catalog.{fields, records_in, IsAtLevel1, HoldsEntries}

-- the last of the whole records is this catalog's, and a table that it names is at level 1
pub record HasLast (bytes : List ℕ) (last : Catalog) : Type 0 where
  pub records : List Fields
  pub end : ℕ
  pub whole : IsRecords bytes records end
  pub last_is : last_of records ≡ Some (fields last)
  pub level : IsAtLevel1 last.table

-- the last whole record is no catalog's, or there is none, or a whole one contradicts itself
abbrev pub HasNoLast : List ℕ → Type 0
HasNoLast bytes = (last : Catalog) → HasLast bytes last → ⊥

-- what the last record's table says is refused, or there is no such table
pub record ArePairsRefused (image : Image) (why : List MetaEntry → Type 0) : Type 0 where
  pub last : Catalog
  pub has : HasLast (records_in image) last
  pub entries : List MetaEntry
  pub holds : HoldsEntries image last.table entries
  pub refused : why entries

pub record HasNoTable (image : Image) : Type 0 where
  pub last : Catalog
  pub has : HasLast (records_in image) last
  pub none : (entries : List MetaEntry) → HoldsEntries image last.table entries → ⊥

-- why the pairs of a named table aren't read: the disk failed, memory ran out, or there is no such table
abbrev pub IsTableRefused : Image → Option TableInfo → (faults_before faults_after : ℕ) → Error → Type 0
IsTableRefused image table before after (Io kind) = Rose before after
IsTableRefused image table before after OutOfMemory = ⊤
IsTableRefused image table before after (Storage cause) = (cause ≡ TableDamaged) × ((entries : List MetaEntry) → HoldsEntries image table entries → ⊥)
IsTableRefused image table before after error = ⊥

-- what is wrong with the records, the table or the pairs
abbrev pub IsCatalogDamage : Image → StorageError → Type 0
IsCatalogDamage image RecordDamaged = HasNoLast (records_in image)
IsCatalogDamage image TableDamaged = HasNoTable image
IsCatalogDamage image OptionMissing = ArePairsRefused image (λ entries. IsReadingRefusal entries (Storage OptionMissing))
IsCatalogDamage image OptionInvalid = ArePairsRefused image (λ entries. IsReadingRefusal entries (Storage OptionInvalid))

-- Why an image's catalog isn't read: the disk failed, memory ran out, or it is damaged.
abbrev pub IsRefusal : Image → (faults_before faults_after : ℕ) → Error → Type 0
IsRefusal image before after (Io kind) = Rose before after
IsRefusal image before after OutOfMemory = ⊤
IsRefusal image before after (Storage cause) = IsCatalogDamage image cause
IsRefusal image before after error = ⊥

-- an Io refusal comes with a fault
abbrev pub IsFaultIfIo : ℕ → ℕ → Error → Type 0
IsFaultIfIo before after (Io kind) = Rose before after
IsFaultIfIo before after error = ⊤

-- what a catalog may be refused with, over any disk at all: a fault of the disk, want of memory, or damage
abbrev pub IsCatalogRefusal : Error → Type 0
IsCatalogRefusal (Io kind) = ⊤
IsCatalogRefusal OutOfMemory = ⊤
IsCatalogRefusal (Storage cause) = ⊤
IsCatalogRefusal error = ⊥
