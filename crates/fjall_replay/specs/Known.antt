-- What an engine knows of the homes of its keyspaces: the last record of each, and a tree that goes on from it.
use Rattle.std.specs.Prelude.{◌≡◌, ◌≢◌, ℕ, ◌<◌, ◌≤◌, ◌^◌, false, List, All, AllPairs, Some, map, unwrap_or}
use Rattle.std.specs.Coded.{Coded, codes, coded_ℕ}
use Rattle.std.specs.Ordering.{nat_cmp}
use Rattle.std.specs.FinMap.{FinMap, code, get}
use Rattle.fjall_manifest.specs.Catalog.{fields, first_of}
use Rattle.fjall_table_reader.specs.Readers.{Reader}
use Rattle.fjall_files.specs.Names.{table_name}
use Rattle.fjall_manifest.specs.Homes.{Home}
use Rattle.fjall_manifest.specs.Reading.{AreRight}
use Rattle.fjall_tree.specs.Trees.{Shape, floor_of}
use Rattle.fjall_meta.specs.declared.living.LivingKeyspace.{LivingKeyspace}
use Rattle.fjall_memtable.specs.Parts.{holds_nothing}
use Rattle.fjall_recovery.specs.Homes.{Homes, Versions, no_fields}
use Rattle.fjall_replay.specs.Replayed.{past}
use Rattle.fjall_memtable.specs.Sorted.{flat}
use Rattle.fjall_table.specs.Blocks.{Entry}
use Rattle.fjall_manifest.specs.Records.{Fields}
use Rattle.fjall_trees.specs.Forests.{Forest, tree_at}

-- the last records of keyspaces, by the keyspaces' ids
abbrev pub LastFields : Type 0
LastFields = FinMap nat_cmp Fields

-- the last record of a keyspace: the one that is kept, or the first one, of the keyspace's creation
abbrev pub last_known : LastFields → LivingKeyspace → Fields
last_known records k = unwrap_or (get records k.id) (fields (first_of k.number))

-- the reader is of the table of its own id, of the keyspace of this id, and that id is below the next one, so that it was given out
abbrev pub IsGiven : (id next : ℕ) → Reader → Type 0
IsGiven id next reader = (reader.info.id < next) × (reader.info.id < 2 ^ 64) × (reader.name ≡ table_name id reader.info.id)

-- These are tables of the keyspace of this id, in files of their own: each has an id that was given out, and no two have the same one.
pub record AreListed (id next : ℕ) (tables : List Reader) : Type 0 where
  pub given : All (IsGiven id next) tables
  pub once : AllPairs (λ a b. a ≢ b) (map (λ t. t.info.id) tables)

-- These tables are the keyspace's own, and their ids were given out, each once, as the last record of that keyspace tells, which lists
-- them in the same order.
abbrev pub IsAtHome : LastFields → ℕ → List Reader → Type 0
IsAtHome records id tables =
    let last = unwrap_or (get records id) no_fields in
    AreListed id last.next_table_id tables × (map (λ t. t.info) tables ≡ last.tables)

-- so those of each of these trees
abbrev pub AreAtHome : LastFields → Forest → Type 0
AreAtHome records trees = All (λ k. IsAtHome records k.id k.shape.tables) trees

-- A tree goes on where a record ends: its tables are those of the record, in the same order, it has the record's clears, what it has in
-- memory is numbered beyond the persisted number, and each sealed memtable holds something.
pub record GoesOnFrom (last : Fields) (shape : Shape) : Type 0 where
  pub tables : map (λ t. t.info) shape.tables ≡ last.tables
  pub clears : shape.clears ≡ last.clears
  pub beyond : past last.persisted ≤ floor_of shape.memory
  pub some : All (λ h. holds_nothing h ≡ false) shape.memory.sealed

-- A keyspace's home is known where its tables have these entries: these are what its tables hold, one after another, and with them the
-- versions in its tables; its last record is the one that is kept, and its tree goes on from that.
pub record IsKnown (records : LastFields) (trees : Forest) (entries : ℕ → List (List Entry)) (homes : Homes) (versions : Versions) (k : LivingKeyspace) : Type 0 where
  pub h : Home
  pub home : get homes k.id ≡ Some h
  pub right : AreRight h.last.tables h.texts (entries k.id)
  pub stored : get versions k.id ≡ Some (flat (entries k.id))
  pub last : last_known records k ≡ h.last
  pub shape : Shape
  pub tree : tree_at k.id trees ≡ Some shape
  pub goes_on : GoesOnFrom h.last shape

-- how last records are told apart
pub coded_fields : Coded Fields
coded_fields = hlevel codes

abbrev pub records_code : Coded LastFields
records_code = code coded_ℕ coded_fields
