-- A merge that is planned: all that is to be written of it, and for which trees.
use Rattle.std.specs.Prelude.{◌≡◌, ◌⊎◌, ℕ, ◌+◌, ◌-◌, ◌<◌, ◌≤◌, ◌^◌, List, [], ◌∷◌, map, String, string_bytes, take}
use Rattle.std.specs.declared.alloc.Global.{Global}
use Rattle.fjall_base.specs.declared.error.Error.{Error}
use Rattle.fjall_base.specs.Disk.{IsNoFolder, Meaning, state_in}
use Rattle.fjall_table_reader.specs.Readers.{AreRead, Reader}
use Rattle.fjall_files.specs.Names.{IsNameOf, current_name, keyspace_folder, table_name}
use Rattle.fjall_compaction.specs.Flushes.{HasAt}
use Rattle.fjall_compaction.specs.FlushPlans.{HaveFiles}
use Rattle.fjall_manifest.specs.Homes.{Home}
use Rattle.fjall_manifest.specs.Reading.{AreRight}
use Rattle.fjall_jobs.specs.declared.made_table.MadeTable.{MadeTable}
use Rattle.fjall_jobs.specs.Sequences.{AreMadeTables}
use Rattle.fjall_recovery.specs.Halves.{Tree}
use Rattle.fjall_recovery.specs.Places.{LiesInTree}
use Rattle.fjall_memtable.specs.Sorted.{flat}
use Rattle.fjall_table.specs.Blocks.{Entry}
use Rattle.fjall_manifest.specs.Records.{Fields, Fits, IsRecord, record_text, view}
use Rattle.fjall_compaction.specs.declared.merge.plan.MergePlan.{MergePlan}
use Rattle.fjall_compaction.specs.Merges.{Merge, MergesTables, home_after, merged_infos, record_after_merge, tree_after}
use Rattle.fjall_compaction.specs.Room.{IsRecordRefusal}

-- the files of tables that were made have these names, of ids that follow one another from this one on, of which none is the greatest
abbrev pub AreNamed : (id next : ℕ) → List MadeTable → List (String Global) → Type 0
AreNamed id next [] [] = Unit {0}
AreNamed id next (t ∷ tables) (name ∷ names) = (next < 2 ^ 64 - 1) × (string_bytes name ≡ table_name id next) × AreNamed id (next + 1) tables names
AreNamed id next tables names = ⊥

-- What is planned of a merge of the keyspace of this id with that last record: the record after it with its text, and the names of the
-- keyspace's folder, of the file of its records, of the new tables' files, and of the files of the tables that it takes.
pub record IsMergePlan (id : ℕ) (last : Fields) (m : Merge) (plan : MergePlan) : Type 0 where
  pub record_is : view plan.record ≡ record_after_merge m last
  pub folder : IsNameOf keyspace_folder (string_bytes plan.folder) id
  pub current : IsNameOf current_name (string_bytes plan.current) id
  pub files : AreNamed id last.next_table_id m.tables plan.files.items
  pub taken : map string_bytes plan.taken.items ≡ map (λ t. table_name id t.id) (take m.table_count last.tables)
  pub text : plan.record_text.items ≡ record_text (record_after_merge m last)
  pub fits : Fits (record_after_merge m last)

-- Why a merge can't be planned: the record after it is refused, as for its room, for ids, and for memory, in this order.
abbrev pub IsMergePlanRefusal : Fields → Merge → Error → Type 0
IsMergePlanRefusal last m error = IsRecordRefusal (record_after_merge m last) error

-- Readers of tables that a merge made of the keyspace of this id: of the files that are to have them, under ids that follow one another
-- from this one on. On a disk that has these files they read what the tables hold.
pub record AreMergeReaders (id next : ℕ) (tables : List MadeTable) (readers : List Reader) : Type 0 where
  pub names : map (λ t. t.name) readers ≡ map (λ t. table_name id t.id) (merged_infos next tables)
  pub infos : map (λ t. t.info) readers ≡ merged_infos next tables
  pub read : (disk : Meaning) (lists : List (List Entry)) → AreMadeTables tables lists → HaveFiles disk id next tables → AreRead disk readers lists

-- ---- what stands in sight

-- Each table of the keyspace of this id stands in sight as it did, but those of so many ids from this one on.
abbrev pub MergeKeepsTables : (id next count : ℕ) → Meaning → Meaning → Type 0
MergeKeepsTables id next count old new = (n : ℕ) → n < 2 ^ 64 → (n < next) ⊎ (next + count ≤ n) → (state_in new (table_name id n)).now ≡ (state_in old (table_name id n)).now

-- No folder has the name of a table of the keyspace of this id.
abbrev pub HasNoTableFolder : Meaning → ℕ → Type 0
HasNoTableFolder disk id = (n : ℕ) → n < 2 ^ 64 → IsNoFolder (state_in disk (table_name id n)).now

-- ---- of whatever a merge was planned

-- for the keyspace of which a plan is of these tables, and the id that the first of them gets, whatever its last record is
abbrev pub ForPlan : MergePlan → List MadeTable → ((id next : ℕ) → Type 0) → Type 0
ForPlan plan tables Holds = (id : ℕ) (m : Merge) (last : Fields) → m.tables ≡ tables → IsMergePlan id last m plan → Holds id last.next_table_id

-- for whichever tree lies on the disk, and the tree after a merge of one of its keyspaces that made these tables
abbrev pub ForMergeOn : Meaning → MergePlan → List MadeTable → (List Fields → Tree → ℕ → Tree → Type 0) → Type 0
ForMergeOn disk plan tables Holds = (records : List Fields) (t : Tree) (id : ℕ) (m : Merge) (h : Home) (entries lists : List (List Entry))
    → m.tables ≡ tables → LiesInTree (state_in disk) records t → HasAt t id h (flat entries) → AreRight h.last.tables h.texts entries
    → IsMergePlan id h.last m plan → MergesTables m lists entries h.last → Holds records t id (tree_after id m lists h entries t)

-- these are the names of the files of the tables that a merge takes of the keyspace of this id, whose last record this is
pub record AreTakenFiles (id : ℕ) (last : Fields) (m : Merge) (names : List (String Global)) : Type 0 where
  pub small : id < 2 ^ 64
  pub record_is : IsRecord last
  pub named : map string_bytes names ≡ map (λ t. table_name id t.id) (take m.table_count last.tables)

-- for the keyspace of which tables are taken, and what the merge takes of its last record
abbrev pub ForTaken : List (String Global) → (ℕ → Fields → Merge → Type 0) → Type 0
ForTaken names Holds = (id : ℕ) (m : Merge) (last : Fields) → AreTakenFiles id last m names → Holds id last m

-- for whichever tree lies on the disk that has the home after a merge of one of its keyspaces, which took these tables
abbrev pub ForTakenOn : Meaning → List (String Global) → (List Fields → Tree → Type 0) → Type 0
ForTakenOn disk names Holds = (records : List Fields) (t : Tree) (id : ℕ) (m : Merge) (h : Home) (versions : List Entry)
    → LiesInTree (state_in disk) records t → HasAt t id (home_after m h) versions → AreTakenFiles id h.last m names → Holds records t
