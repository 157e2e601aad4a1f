-- A merge that is out, as the state knows it, and what memory and the disk hold once it is finished.
use Rattle.std.specs.Prelude.{◌≡◌, ◌<◌, ℕ, List, Some, map, string_bytes, take, true, String}
use Rattle.std.specs.declared.alloc.Global.{Global}
use Rattle.fjall_base.specs.Disk.{Meaning, state_in}
use Rattle.fjall_base.specs.Errors.{IsFault}
use Rattle.fjall_base.specs.declared.error.Error.{Error}
use Rattle.fjall_base.specs.declared.error.Error.TheVariants.{Io}
use Rattle.fjall_table_reader.specs.Readers.{Reader}
use Rattle.fjall_files.specs.Names.{table_name}
use Rattle.fjall_compaction.specs.Flushes.{HasAt}
use Rattle.fjall_manifest.specs.Homes.{Home}
use Rattle.fjall_manifest.specs.Reading.{AreRight}
use Rattle.fjall_jobs.specs.declared.merge_made.MergeMade.{MergeMade}
use Rattle.fjall_jobs.specs.Made.{merge_clears, merge_tables, merged_task}
use Rattle.fjall_jobs.specs.Tasks.{Task}
use Rattle.fjall_replay.specs.Known.{last_known}
use Rattle.fjall_tree.specs.Jobs.{IsMerging, is_merge_out}
use Rattle.fjall_tree.specs.Trees.{Merging}
use Rattle.fjall_compaction.specs.MergeFinishing as counting
use Rattle.fjall_compaction.specs.Merges.{Merge, MergesTables, record_after_merge, tree_after}
pub use Rattle.fjall_compaction.specs.MergePlans.{AreMergeReaders}
use Rattle.fjall_compaction.specs.MergePlans.{IsMergePlanRefusal}
use Rattle.fjall_meta.specs.declared.living.LivingKeyspace.{LivingKeyspace}
use Rattle.fjall_meta.specs.Keyspaces.{keyspace_at}
use Rattle.fjall_recovery.specs.Halves.{Tree}
use Rattle.fjall_recovery.specs.Places.{LiesInTree}
use Rattle.fjall_memtable.specs.Sorted.{flat}
use Rattle.fjall_table.specs.Blocks.{Entry}
use Rattle.fjall_manifest.specs.Records.{Fields}
use Rattle.fjall_trees.specs.Tables.{shape_in}
use Rattle.fjall_journal.specs.Changes.{Items}
use Rattle.fjall_machine.specs.Shapes.{CallShape, OfChange, OfRead, OfTickets}
use Rattle.fjall_machine.specs.Machine.{State, is_living, options_in, present, target_size}
use Rattle.fjall_machine.specs.Remembered.{Remembered, with_merge}

-- The state knows a merge of this task, which closes its tables at this size: the number was given out, and so was its keyspace's id;
-- the size is that of the keyspace's settings, while that lives; and where the merge is out, the keyspace's tree was begun with the task, by what its tables have.
pub record KnowsMerge (s : State) (target : ℕ) (task : Task) : Type 0 where
  pub given : task.id < s.next_job
  pub made : task.keyspace < (present s).next
  pub target_is : is_living (present s) task.keyspace ≡ true → target ≡ target_size (options_in (present s) task.keyspace)
  pub begun : is_merge_out task.id (shape_in task.keyspace s.parts.trees).merge ≡ true → IsMerging (shape_in task.keyspace s.parts.trees) (s.parts.entries task.keyspace) task

-- a batch, a read or a call on tickets: what transactions ask of an engine
abbrev pub IsQuiet : CallShape → Type 0
IsQuiet (OfChange (Items items) how) = Unit {0}
IsQuiet (OfRead view id query) = Unit {0}
IsQuiet (OfTickets call) = Unit {0}
IsQuiet shape = ⊥

-- the keyspace of a merge
abbrev pub keyspace_of : MergeMade → ℕ
keyspace_of made = (merged_task made).keyspace

-- the merge that is out counts so, with what it made
abbrev pub counted_as : Merging → MergeMade → Merge
counted_as out made = counting.merge_out out (merge_tables made) (merge_clears made)

-- ---- memory

-- for the keyspace of this id, which lives, and the merge of it that is out
abbrev pub ForMerge : Remembered → ℕ → (LivingKeyspace → Merging → Type 0) → Type 0
ForMerge m id Holds = (k : LivingKeyspace) (out : Merging) → keyspace_at id m.keyspaces.living ≡ Some k → (shape_in id m.trees).merge ≡ Some out → Holds k out

-- The merge of a keyspace that was out is finished in memory: readers of its tables stand in the tree, and the record after it is the
-- keyspace's last one.
pub record IsMergeFinished (old : Remembered) (id : ℕ) (last : Fields) (out : Merging) (m : Merge) (new : Remembered) : Type 0 where
  pub readers : List Reader
  pub are : AreMergeReaders id last.next_table_id m.tables readers
  pub is : new ≡ with_merge id out readers (record_after_merge m last) old

-- ---- the disk

-- why a merge isn't finished: the disk failed, or it can't be planned
abbrev pub IsMergeRefusal : Fields → Merge → (faults_before faults_after : ℕ) → Error → Type 0
IsMergeRefusal last m before after (Io kind) = IsFault before after (Io kind)
IsMergeRefusal last m before after error = IsMergePlanRefusal last m error

-- these are the names of the tables that a merge takes of a keyspace with this last record
abbrev pub AreTaken : ℕ → Fields → Merging → List (String Global) → Type 0
AreTaken id last out names = map string_bytes names ≡ map (table_name id) (map (λ t. t.id) (take out.tables last.tables))

-- For whichever tree lies on the disk where the home of the merge's keyspace has the record that is known as its last one, and its
-- tables these entries, of which the merge made what it should; and for the tree after the merge.
abbrev pub ForMerging : Meaning → Remembered → MergeMade → (ℕ → List Fields → Tree → Home → Merge → Tree → Type 0) → Type 0
ForMerging disk m made Holds =
    let id = keyspace_of made in
    (k : LivingKeyspace) (out : Merging) → keyspace_at id m.keyspaces.living ≡ Some k → (shape_in id m.trees).merge ≡ Some out
    → let does = counted_as out made in
    (records : List Fields) (t : Tree) (h : Home) (entries lists : List (List Entry)) → LiesInTree (state_in disk) records t → HasAt t id h (flat entries)
    → AreRight h.last.tables h.texts entries → h.last ≡ last_known m.records k → MergesTables does lists entries h.last → Holds id records t h does (tree_after id does lists h entries t)
