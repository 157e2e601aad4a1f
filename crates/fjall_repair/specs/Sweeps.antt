-- What no record names, and what its removal leaves.
use Rattle.std.specs.Prelude.{◌≡◌, ◌≢◌, ◌⊎◌, ◌==◌, if◌then◌else◌, ℕ, ◌<◌, ◌^◌, List, [], ◌∷◌, ◌++◌, map, find, All, Any, Contains, unwrap_or, Some, string_bytes}
use Rattle.std.specs.List.{flat_map, AllByRecursion}
use Rattle.std.specs.List.Sorted.{IsStrictlyIncreasing}
use Rattle.std.specs.FinMap.{get}
use Rattle.std.specs.Option.{option_map}
use Rattle.fjall_base.specs.Disk.{Name, Missing, Folder, Image, DiskState, DiskStep, Put, Meaning, Took, folder_of, standing}
use Rattle.fjall_files.specs.Names.{keyspace_folder, table_name}
use Rattle.fjall_files.specs.Own.{AreOwnFiles, HoldsOnlyOwn, IsOwn}
use Rattle.fjall_files.specs.declared.own.OwnFiles.{OwnFiles}
use Rattle.fjall_table.specs.declared.table_info.TableInfo.{TableInfo}
use Rattle.fjall_manifest.specs.Records.{Fields}
use Rattle.fjall_manifest.specs.Records as records
use Rattle.fjall_manifest.specs.declared.reading.LoadedHome.{LoadedHome}
use Rattle.fjall_manifest.specs.Homes.{HasHome, Home}
use Rattle.fjall_meta.specs.declared.living.LivingKeyspace.{LivingKeyspace}
use Rattle.fjall_manifest.specs.declared.catalog.Catalog.{Catalog}
use Rattle.fjall_manifest.specs.Catalog.{listed}
use Rattle.fjall_recovery.specs.Homes.{last_in}
use Rattle.fjall_recovery.specs.Halves.{Tree}
use Rattle.fjall_repair.specs.declared.plan.SweepPlan.{SweepPlan}

-- ---- what is named

-- the keyspace of this id lives
abbrev pub KeyspaceLives : List LivingKeyspace → ℕ → Type 0
KeyspaceLives living id = Contains (map (λ k. k.id) living) id

-- the ids of the tables that last records name, by the ids of the keyspaces; 0 is that of tree 0
abbrev pub TablesNamed : Type 0
TablesNamed = ℕ → List ℕ

-- none
abbrev pub no_names : TablesNamed
no_names id = []

-- the tables that a keyspace's last record names, of records as they were read; none where there is no such keyspace
abbrev pub tables_at : ℕ → List LoadedHome → List TableInfo
tables_at id homes = unwrap_or (option_map (λ h. (records.view h.record).tables) (find (λ h. h.id == id) homes)) []

-- those of records as they were read: of tree 0 these tables, and of each keyspace its home's
abbrev pub names_of : List TableInfo → List LoadedHome → TablesNamed
names_of tree homes id = map (λ table. table.id) (if id == 0 then tree else tables_at id homes)

-- those of a tree's records
abbrev pub names_in : Tree → TablesNamed
names_in t id = map (λ table. table.id) (if id == 0 then listed t.last.table else (last_in (get t.homes id)).tables)

-- these are the homes of these keyspaces, by id ascending; none is tree 0
pub record AreHomesOf (living : List LivingKeyspace) (homes : List LoadedHome) : Type 0 where
  pub same : map (λ h. h.id) homes ≡ map (λ k. k.id) living
  pub some : All (λ k. 0 < k.id) living
  pub ascending : IsStrictlyIncreasing (map (λ k. k.id) living)

-- the last record that an image has of a keyspace names a table of that id
abbrev pub NamesTable : Image → ℕ → ℕ → Type 0
NamesTable image id n = (records : List Fields) × (h : Home) × HasHome image id records h × Contains (map (λ table. table.id) h.last.tables) n

-- ---- what is not

-- A table's name that no record has, in tree 0's folder or in that of a keyspace that lives.
pub record IsUnnamedTable (names : TablesNamed) (living : List LivingKeyspace) (name : Name) : Type 0 where
  pub id : ℕ
  pub table : ℕ
  pub id_fits : id < 2 ^ 64
  pub table_fits : table < 2 ^ 64
  pub name_is : name ≡ table_name id table
  pub counts : (id ≡ 0) ⊎ KeyspaceLives living id
  pub unnamed : Contains (names id) table → ⊥

-- The folder of a keyspace that doesn't live, and names that are right in it and that the engine gives.
pub record IsUnnamedHome (living : List LivingKeyspace) (home : OwnFiles) : Type 0 where
  pub id : ℕ
  pub fits : id < 2 ^ 64
  pub some : id ≢ 0
  pub dead : KeyspaceLives living id → ⊥
  pub folder_is : string_bytes home.folder ≡ keyspace_folder id
  pub inside : All (λ file. folder_of (string_bytes file) ≡ keyspace_folder id) home.files.items
  pub own : All (λ file. IsOwn id (string_bytes file)) home.files.items

-- a plan of what no record names, where the records name these tables and these keyspaces live
pub record IsSweepPlan (names : TablesNamed) (living : List LivingKeyspace) (plan : SweepPlan) : Type 0 where
  pub tables : All (λ table. IsUnnamedTable names living (string_bytes table)) plan.tables.items
  pub homes : All (IsUnnamedHome living) plan.homes.items

-- ---- all of it

-- each table that stands in the folder of this id is named, or is in this list
abbrev pub FindsTablesAt : DiskState → TablesNamed → List Name → ℕ → Type 0
FindsTablesAt state names list id = (n : ℕ) → n < 2 ^ 64 → (state (table_name id n)).now ≢ Missing → Contains (names id) n ⊎ Contains list (table_name id n)

-- so is each in tree 0's folder
abbrev pub FindsTables : DiskState → TablesNamed → List Name → Type 0
FindsTables state names list = FindsTablesAt state names list 0

-- and each in the folder of one of these keyspaces
abbrev pub FindsTablesOf : DiskState → TablesNamed → List LivingKeyspace → List Name → Type 0
FindsTablesOf state names living list = (id : ℕ) → KeyspaceLives living id → FindsTablesAt state names list id

-- the home has the names of all that stands in its folder
abbrev pub HasAll : DiskState → OwnFiles → Type 0
HasAll state home = (name : Name) → folder_of name ≡ string_bytes home.folder → (state name).now ≢ Missing → Contains (map string_bytes home.files.items) name

-- the home is the folder of a keyspace that holds nothing but the engine's own files
abbrev pub IsOwnHome : DiskState → OwnFiles → Type 0
IsOwnHome state home = (id : ℕ) × (string_bytes home.folder ≡ keyspace_folder id) × HoldsOnlyOwn state id

-- each folder of these ids that holds only the engine's own files is one of these homes, unless it is tree 0's or its keyspace
-- lives
abbrev pub FindsHomes : DiskState → List LivingKeyspace → List ℕ → List OwnFiles → Type 0
FindsHomes state living ids homes = (id : ℕ) → Contains ids id → id ≢ 0 → (KeyspaceLives living id → ⊥) → HoldsOnlyOwn state id → Any (AreOwnFiles state id) homes

-- The plan has all that no record names, of what stands in the folders of the keyspaces that live and in those of these ids,
-- and of each of its homes all that stands in it. A folder is one of its homes only where it holds nothing but the engine's own
-- files: any other is left as it stands.
pub record FindsAll (state : DiskState) (names : TablesNamed) (living : List LivingKeyspace) (ids : List ℕ) (plan : SweepPlan) : Type 0 where
  pub tables : FindsTables state names (map string_bytes plan.tables.items)
  pub tables_of : FindsTablesOf state names living (map string_bytes plan.tables.items)
  pub homes : FindsHomes state living ids plan.homes.items
  pub each : All (HasAll state) plan.homes.items
  pub spares : All (IsOwnHome state) plan.homes.items

-- ---- its removal

-- the names of a home: what is in it, and its own
abbrev pub home_names : OwnFiles → List Name
home_names home = map string_bytes home.files.items ++ string_bytes home.folder ∷ []

-- all names that are to be removed, in order
abbrev pub planned : SweepPlan → List Name
planned plan = map string_bytes plan.tables.items ++ flat_map home_names plan.homes.items

-- the steps that remove these names
abbrev pub removals : List Name → List DiskStep
removals names = map (λ name. Put name Missing) names

-- the disk went on by removals of names that are so, and by nothing else
pub record RemovesNames (P : Name → Type 0) (old new : Meaning) : Type 0 where
  pub names : List Name
  pub took : Took old new (removals names)
  pub each : AllByRecursion P names

-- nothing stands at any of these names
abbrev pub NamesAreGone : DiskState → List Name → Type 0
NamesAreGone state names = AllByRecursion (λ name. (state name).now ≡ Missing) names

-- where no table stood none stands
abbrev pub BringsNoTable : DiskState → DiskState → Type 0
BringsNoTable old new = (id n : ℕ) → id < 2 ^ 64 → n < 2 ^ 64 → (old (table_name id n)).now ≡ Missing → (new (table_name id n)).now ≡ Missing

-- Of what no record names this is gone from `keyspaces`. Of what stood there before: each folder of a keyspace that doesn't
-- live, and all in it, where all that stood in it were files with the engine's own names. And no table is there in tree 0's
-- folder, nor in that of a keyspace that lives, but those that its last record names.
pub record IsSwept (old new : DiskState) (last : Catalog) (living : List LivingKeyspace) : Type 0 where
  pub homes : (id : ℕ) → id < 2 ^ 64 → id ≢ 0 → (KeyspaceLives living id → ⊥) → (old (keyspace_folder id)).now ≡ Folder → HoldsOnlyOwn old id
      → (new (keyspace_folder id)).now ≡ Missing
  pub files : (id : ℕ) (name : Name) → id < 2 ^ 64 → id ≢ 0 → (KeyspaceLives living id → ⊥) → (old (keyspace_folder id)).now ≡ Folder → HoldsOnlyOwn old id
      → folder_of name ≡ keyspace_folder id → (old name).now ≢ Missing → (new name).now ≡ Missing
  pub tables : (id n : ℕ) → n < 2 ^ 64 → KeyspaceLives living id → (NamesTable (standing old) id n → ⊥) → (new (table_name id n)).now ≡ Missing
  pub others : (n : ℕ) → n < 2 ^ 64 → option_map (λ table. table.id) last.table ≢ Some n → (new (table_name 0 n)).now ≡ Missing
