-- What a folder's list tells of tables.
use Rattle.std.specs.Prelude.{◌≡◌, ◌≢◌, ◌⊎◌, ◌==◌, ℕ, ◌<◌, ◌^◌, Bool, false, not, List, filter, map, Contains}
use Rattle.std.specs.List.{list_any}
use Rattle.fjall_table.specs.declared.table_info.TableInfo.{TableInfo}
use Rattle.fjall_base.specs.Disk.{Name, Missing, DiskState}
use Rattle.fjall_base.specs.declared.disk.DirEntry.{DirEntry}
use Rattle.fjall_files.specs.Names.{table_name}

-- the id is none of these tables'
abbrev pub is_other : List TableInfo → ℕ → Bool
is_other named id = not (list_any (λ table. table.id == id) named)

-- the names of tables of these ids, but those of the ones that are named
abbrev pub other_tables : ℕ → List TableInfo → List ℕ → List Name
other_tables id named ids = map (table_name id) (filter (is_other named) ids)

-- the entry, told as a file
abbrev pub as_file : DirEntry → DirEntry
as_file entry = record { name = entry.name; is_folder = false }

-- the names of all tables that stand in the folder of this id, but those of the ones that are named
pub record AreTables (state : DiskState) (id : ℕ) (named : List TableInfo) (names : List Name) : Type 0 where
  pub each : (name : Name) → Contains names name → (n : ℕ) × (n < 2 ^ 64) × (name ≡ table_name id n) × (Contains (map (λ table. table.id) named) n → ⊥)
  pub whole : (n : ℕ) → n < 2 ^ 64 → (state (table_name id n)).now ≢ Missing → Contains (map (λ table. table.id) named) n ⊎ Contains names (table_name id n)
