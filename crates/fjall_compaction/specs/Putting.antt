-- Tables that were made, put into a keyspace's folder under new ids, whatever else lies there.
use Rattle.std.specs.Prelude.{◌≡◌, ℕ, ◌+◌, ◌<◌, ◌≤◌, false, List, [], ◌∷◌, String}
use Rattle.std.specs.declared.alloc.Global.{Global}
use Rattle.fjall_base.specs.Disk.{DiskState, IsNoFolder, Meaning, Name, state_in}
use Rattle.fjall_files.specs.Names.{IsNameOf, keyspace_folder, table_name}
use Rattle.fjall_files.specs.Regions.{IsSafe, is_under}
use Rattle.fjall_jobs.specs.declared.made_table.MadeTable.{MadeTable}
use Rattle.fjall_manifest.specs.Homes.{Home, Rests}
use Rattle.fjall_manifest.specs.Records.{Fields}
use Rattle.fjall_compaction.specs.MergePlans.{AreNamed}

-- These are the names of the folder of the keyspace of this id and of the files of tables that were made, under ids that follow one
-- another from this one on.
pub record AreNewFiles (id next : ℕ) (tables : List MadeTable) (folder : Name) (files : List (String Global)) : Type 0 where
  pub home : IsNameOf keyspace_folder folder id
  pub named : AreNamed id next tables files

-- Under ids that follow one another from this one on, tables that were made are safe.
abbrev pub AreSafeFrom : DiskState → (id next : ℕ) → List MadeTable → Type 0
AreSafeFrom state id next [] = Unit {0}
AreSafeFrom state id next (t ∷ tables) = IsSafe state (table_name id next) t.bytes.items × AreSafeFrom state id (next + 1) tables

-- The home rests as before, and beside it the tables are safe under its next ids.
pub record ArePut (state : DiskState) (id : ℕ) (records : List Fields) (h : Home) (tables : List MadeTable) : Type 0 where
  pub rests : Rests state id records h
  pub safe : AreSafeFrom state id h.last.next_table_id tables

-- No folder has the name of a table of the keyspace of this id whose own id is one of so many from that one on.
abbrev pub HaveNoFolders : Meaning → (id next count : ℕ) → Type 0
HaveNoFolders disk id next count = (n : ℕ) → next ≤ n → n < next + count → IsNoFolder (state_in disk (table_name id n)).now

-- Nothing in sight changed but what stands under the names of such tables.
abbrev pub KeepsBesideTables : (id next count : ℕ) → Meaning → Meaning → Type 0
KeepsBesideTables id next count old new = (q : Name) → ((n : ℕ) → next ≤ n → n < next + count → is_under (table_name id n) q ≡ false) → (state_in new q).now ≡ (state_in old q).now

-- for the keyspace in whose folder these are the files of the tables, and the id of the first of them
abbrev pub ForFiles : Name → List (String Global) → List MadeTable → ((id next : ℕ) → Type 0) → Type 0
ForFiles folder files tables Holds = (id next : ℕ) → AreNewFiles id next tables folder files → Holds id next

-- for whichever home rests, in whose folder these are the files of the tables, under its next ids
abbrev pub ForFilesOn : Meaning → Name → List (String Global) → List MadeTable → (ℕ → List Fields → Home → Type 0) → Type 0
ForFilesOn disk folder files tables Holds = (id : ℕ) (records : List Fields) (h : Home) → Rests (state_in disk) id records h
    → AreNewFiles id h.last.next_table_id tables folder files → Holds id records h
