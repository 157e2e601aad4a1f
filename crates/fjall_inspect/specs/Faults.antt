-- The faults that are told of tables, in the order in which these are read.
use Rattle.std.specs.Prelude.{◌≡◌, ◌≢◌, ◌⊎◌, ℕ, Bool, true, false, List, [], ◌∷◌, ◌++◌, Option, None, Some, string_bytes}
use Rattle.fjall_base.specs.declared.error.Error.{Error}
use Rattle.fjall_base.specs.declared.error.Error.TheVariants.{Io, OutOfMemory, Storage}
use Rattle.fjall_base.specs.declared.error.StorageError.TheVariants.{TableDamaged}
use Rattle.fjall_base.specs.Disk.{Image, Name}
use Rattle.fjall_files.specs.Names.{table_name}
use Rattle.fjall_files.specs.Texts.{text_in}
use Rattle.fjall_table.specs.declared.table_info.TableInfo.{TableInfo}
use Rattle.fjall_table.specs.Blocks.{Entry}
use Rattle.fjall_table.specs.Tables.{Handle}
use Rattle.fjall_table.specs.TableReading.{IsBlockFrom, IsNoBlockFrom, part_at}
use Rattle.fjall_table_reader.specs.Files.{IsIndexed, IsTableOf}
use Rattle.fjall_manifest.specs.declared.reading.LoadedHome.{LoadedHome}
use Rattle.fjall_manifest.specs.Records.{view}
use Rattle.fjall_inspect.specs.declared.report.Fault.{Fault}

-- ---- what faults say

-- the error tells of something wrong in the folder: neither did memory run out, nor the disk fail
abbrev pub is_fault : Error → Bool
is_fault OutOfMemory = false
is_fault (Io kind) = false
is_fault error = true

-- one fault, a damage of a table in this file, from this place on
pub record IsOneFault (name : Name) (offset : Option ℕ) (faults : List Fault) : Type 0 where
  pub fault : Fault
  pub only : faults ≡ fault ∷ []
  pub file : string_bytes fault.file ≡ name
  pub place : fault.offset ≡ offset
  pub error : fault.error ≡ Storage TableDamaged

-- These are the faults that are told of these things, of one after another.
abbrev pub AreToldOf : {X : Type 0} → (X → List Fault → Type 0) → List X → List Fault → Type 0
AreToldOf Tell [] faults = faults ≡ []
AreToldOf Tell (x ∷ xs) faults = (here : List Fault) × (behind : List Fault) × (faults ≡ here ++ behind) × Tell x here × AreToldOf Tell xs behind

-- ---- a table's file

-- the bytes are the record's table, with some entries
abbrev pub IsSomeTable : TableInfo → List ℕ → Type 0
IsSomeTable info bytes = (entries : List Entry) × IsTableOf info bytes entries

-- Of a block nothing is told where it is right by itself, and else one fault, at the place of which the index tells.
abbrev pub BlockTells : Name → List ℕ → Handle → List Fault → Type 0
BlockTells name bytes h faults =
    (((vs : List Entry) × IsBlockFrom h.first_key (part_at h bytes) vs) × (faults ≡ []))
    ⊎ (IsNoBlockFrom h.first_key (part_at h bytes) × IsOneFault name (Some h.offset) faults)

-- The file isn't the record's table, and this is told of it: each of its wrong blocks, and where none is wrong by itself, or
-- the file has no right index, one fault without a place.
pub record IsDamageTold (name : Name) (info : TableInfo) (bytes : List ℕ) (faults : List Fault) : Type 0 where
  pub wrong : IsSomeTable info bytes → ⊥
  pub some : faults ≢ []
  pub blocks : (handles : List Handle) → IsIndexed info bytes handles → AreToldOf (BlockTells name bytes) handles faults ⊎ (AreToldOf (BlockTells name bytes) handles [] × IsOneFault name None faults)
  pub end : ((handles : List Handle) → IsIndexed info bytes handles → ⊥) → IsOneFault name None faults

-- nothing is told of the record's table, and of any other file what is damaged in it
abbrev pub FileTells : Name → TableInfo → List ℕ → List Fault → Type 0
FileTells name info bytes faults = (IsSomeTable info bytes × (faults ≡ [])) ⊎ IsDamageTold name info bytes faults

-- ---- all tables

-- what is told of a table of the keyspace of this id
abbrev pub TableTells : Image → ℕ → TableInfo → List Fault → Type 0
TableTells image id info faults = FileTells (table_name id info.id) info (text_in (image (table_name id info.id))) faults

-- what is told of the tables that a home's last record names
abbrev pub HomeTells : Image → LoadedHome → List Fault → Type 0
HomeTells image home faults = AreToldOf (TableTells image home.id) (view home.record).tables faults
