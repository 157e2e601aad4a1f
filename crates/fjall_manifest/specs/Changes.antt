-- Changes of a home: tables that are written, the record that names them, and tables that are removed.
use Rattle.std.specs.Prelude.{◌≡◌, ◌≢◌, ◌⊎◌, ℕ, ◌+◌, ◌-◌, ◌<◌, ◌≤◌, ◌^◌, List, [], ◌∷◌, ◌++◌, All, length, string_bytes}
use Rattle.fjall_base.specs.Disk.{Missing, DiskState, Image}
use Rattle.fjall_files.specs.Names.{table_name}
use Rattle.fjall_table.specs.declared.table_info.TableInfo.{TableInfo}
use Rattle.fjall_manifest.specs.Records.{Fields}
use Rattle.fjall_manifest.specs.declared.writing.TableFile.{TableFile}
use Rattle.fjall_manifest.specs.Homes.{Home, HasHome, AreSafe, Rests, IsFree}

-- ---- what is to be written

-- a table that is to be written under this id, which isn't the greatest: its info, and its bytes under its name
pub record IsNewTableFile (id table : ℕ) (t : TableInfo) (file : TableFile) (bytes : List ℕ) : Type 0 where
  pub id_is : t.id ≡ table
  pub below : table < 2 ^ 64 - 1
  pub name : string_bytes file.name ≡ table_name id table
  pub bytes_are : file.bytes.items ≡ bytes

-- tables that are to be written, under ids that follow one another from this one on
abbrev pub AreNewTables : (id next : ℕ) → List TableInfo → List TableFile → List (List ℕ) → Type 0
AreNewTables id next [] [] [] = Unit {0}
AreNewTables id next (t ∷ infos) (file ∷ files) (bytes ∷ texts) = IsNewTableFile id next t file bytes × AreNewTables id (next + 1) infos files texts
AreNewTables id next infos files texts = ⊥

-- ---- the home that is to be

-- one of these tables has this id and these bytes
abbrev pub IsOneOf : List TableInfo → List (List ℕ) → ℕ → List ℕ → Type 0
IsOneOf (t ∷ tables) (text ∷ texts) table bytes = ((t.id ≡ table) × (text ≡ bytes)) ⊎ IsOneOf tables texts table bytes
IsOneOf tables texts table bytes = ⊥

-- each of the tables named last is one of the home's, or a new one
abbrev pub AreKeptOrNew : Home → List TableInfo → List (List ℕ) → List TableInfo → List (List ℕ) → Type 0
AreKeptOrNew h infos texts [] [] = Unit {0}
AreKeptOrNew h infos texts (t ∷ tables) (bytes ∷ others) =
    (IsOneOf h.last.tables h.texts t.id bytes ⊎ IsOneOf infos texts t.id bytes) × AreKeptOrNew h infos texts tables others
AreKeptOrNew h infos texts tables others = ⊥

-- the home after this one: tables of it that stay and new ones, whose ids are given out
pub record IsNext (h : Home) (infos : List TableInfo) (texts : List (List ℕ)) (next : Home) : Type 0 where
  pub tables : AreKeptOrNew h infos texts next.last.tables next.texts
  pub given : h.last.next_table_id + length infos ≤ next.last.next_table_id

-- ---- how far it has come

-- The home rests as before, and beside it the tables of the next one are safe.
pub record IsHomeWritten (state : DiskState) (id : ℕ) (records : List Fields) (h next : Home) : Type 0 where
  pub rests : Rests state id records h
  pub tables : AreSafe state id next.last.tables next.texts
  pub free : IsFree state id next.last.next_table_id

-- the record of the next home counts or doesn't
abbrev pub HasEitherHome : ℕ → List Fields → Home → Home → Image → Type 0
HasEitherHome id records h next image = HasHome image id records h ⊎ HasHome image id (records ++ next.last ∷ []) next

-- ---- afterwards

-- ids that were given to tables and that the home's last record names no more
pub record AreUnnamed (h : Home) (ids : List ℕ) : Type 0 where
  pub given : All (λ table. table < h.last.next_table_id) ids
  pub unnamed : All (λ table. All (λ t. t.id ≢ table) h.last.tables) ids

-- nothing stands where these tables were
abbrev pub AreGone : DiskState → ℕ → List ℕ → Type 0
AreGone state id ids = All (λ table. (state (table_name id table)).now ≡ Missing) ids
