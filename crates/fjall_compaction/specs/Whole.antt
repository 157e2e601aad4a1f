-- A whole ingestion into a keyspace: the flush of all that its tree has in memory, and behind it the items.
use Rattle.std.specs.Prelude.{◌≡◌, ℕ, ◌-◌, ◌<◌, ◌≤◌, ◌^◌, Bool, true, false, List, [], ◌++◌, None, Some, map, if◌then◌else◌}
use Rattle.fjall_table_reader.specs.Readers.{Reader}
use Rattle.fjall_compaction.specs.FlushFinishing.{AreTreesKnown}
use Rattle.fjall_compaction.specs.Flushes.{Flush, home_after, flushed_infos, record_after_flush, tree_after}
use Rattle.fjall_manifest.specs.Homes.{Home}
use Rattle.fjall_jobs.specs.declared.made_table.MadeTable.{MadeTable}
use Rattle.fjall_jobs.specs.Tasks.{IsFlushed}
use Rattle.fjall_journal.specs.Batches.{shown}
use Rattle.fjall_replay.specs.Known.{LastFields}
use Rattle.fjall_tree.specs.Ingestions.{has_memory, memory_task}
use Rattle.fjall_tree.specs.Trees.{Shape}
use Rattle.fjall_meta.specs.declared.living.LivingKeyspace.{LivingKeyspace}
use Rattle.fjall_meta.specs.Keyspaces.{keyspace_at}
use Rattle.fjall_memtable.specs.Parts.{clears_in, parts_of}
use Rattle.fjall_recovery.specs.Folders.{number_of_contents}
use Rattle.fjall_recovery.specs.Halves.{Tree}
use Rattle.fjall_recovery.specs.Homes.{HaveVersions}
use Rattle.fjall_recovery.specs.Journals.{batches_in}
use Rattle.fjall_recovery.specs.Places.{Journaling, contents_with, journals_with}
use Rattle.fjall_memtable.specs.Sorted.{flat}
use Rattle.fjall_table.specs.Blocks.{Entry}
use Rattle.fjall_manifest.specs.Records.{Fields}
use Rattle.fjall_trees.specs.Forests.{AreBefore, Forest, IsForest}
use Rattle.fjall_meta.specs.Replays.{first_fault}
use Rattle.fjall_reading.specs.Ingestions.{KeyOp}
use Rattle.fjall_compaction.specs.Ingests.{as_flush, tree_with}
use Rattle.fjall_compaction.specs.IngestionPlans.{AreIngestionTables, OnceIngested}
use Rattle.fjall_compaction.specs.Room.{IsTooLong, LacksNextId}

-- ---- what is made

-- The flush of all that a keyspace's tree has in memory, with these tables: it covers all changes below where memory ends.
abbrev pub memory_flush : Shape → List MadeTable → Flush
memory_flush tree tables = record { number = tree.memory.active.until - 1; tables = tables; clears = clears_in (parts_of tree.memory) }

-- the record once memory is flushed, which it is where it holds something
abbrev pub last_flushed : Shape → List MadeTable → Fields → Fields
last_flushed tree flushes last = if has_memory tree.memory then record_after_flush (memory_flush tree flushes) last else last

-- and the record behind the ingestion of this number
abbrev pub last_ingested : ℕ → Shape → (flushes made : List MadeTable) → Fields → Fields
last_ingested n tree flushes made last = record_after_flush (as_flush n made) (last_flushed tree flushes last)

-- What was made for an ingestion of these items under this number, of a keyspace with this tree and this last record: of its memory one
-- table, of exactly the versions that the watermark doesn't hide, and none where no version is left; and one of exactly the items.
-- They stand behind all other tables, at level 0 and under the next ids.
pub record MakesIngestion (tree : Shape) (id watermark n : ℕ) (items : List KeyOp) (last : Fields) (flushes made : List MadeTable) (readers : List Reader) : Type 0 where
  pub flushed : IsFlushed (memory_task id watermark tree.memory) flushes (clears_in (parts_of tree.memory))
  pub are : AreIngestionTables n items made
  pub infos : map (λ t. t.info) readers ≡ flushed_infos last.next_table_id (flushes ++ made)

-- ---- why none is made

-- What is so of the record behind a whole ingestion, with what some flush of memory makes, and whichever its own table is.
pub record OnceWhole (tree : Shape) (id watermark n : ℕ) (items : List KeyOp) (last : Fields) (Holds : Fields → Type 0) : Type 0 where
  pub flushes : List MadeTable
  pub flushed : IsFlushed (memory_task id watermark tree.memory) flushes (clears_in (parts_of tree.memory))
  pub holds : OnceIngested n items (last_flushed tree flushes last) Holds

-- It has no room for the table and the clears of the flush of memory and the ingestion's table behind them.
abbrev pub LacksRecordRoom : Shape → (id watermark n : ℕ) → List KeyOp → Fields → Type 0
LacksRecordRoom tree id watermark n items last = OnceWhole tree id watermark n items last IsTooLong

-- It has room, and no id of a table is left, for that of the flush of memory or for the ingestion's.
abbrev pub LacksIds : Shape → (id watermark n : ℕ) → List KeyOp → Fields → Type 0
LacksIds tree id watermark n items last = OnceWhole tree id watermark n items last LacksNextId

-- ---- the tree on the disk

-- The home, its versions and the tree once memory is flushed, which it is where it holds something.
abbrev pub home_flushed : Bool → Flush → Home → Home
home_flushed true f h = home_after f h
home_flushed false f h = h

abbrev pub versions_flushed : Bool → List (List Entry) → List Entry → List Entry
versions_flushed true lists versions = versions ++ flat lists
versions_flushed false lists versions = versions

abbrev pub tree_flushed : Bool → ℕ → Flush → List (List Entry) → Home → List Entry → Tree → Tree
tree_flushed true id f lists h versions t = tree_after id f lists h versions t
tree_flushed false id f lists h versions t = t

-- The same of a keyspace with this tree, which had that home with these versions, where the flush made these tables of these entries.
abbrev pub tree_between : ℕ → Shape → List MadeTable → List (List Entry) → Home → List Entry → Tree → Tree
tree_between id tree flushes lists h versions t = tree_flushed (has_memory tree.memory) id (memory_flush tree flushes) lists h versions t

-- and the tree behind the ingestion, which made these tables of these items under this number
abbrev pub tree_behind : (id n : ℕ) → List KeyOp → Shape → (flushes made : List MadeTable) → List (List Entry) → Home → List Entry → Tree → Tree
tree_behind id n items tree flushes made lists h versions t =
    let some = has_memory tree.memory in
    tree_with id n items made (home_flushed some (memory_flush tree flushes) h) (versions_flushed some lists versions) (tree_between id tree flushes lists h versions t)

-- ---- when it may be made

-- An ingestion under this number into this keyspace, which lives and was made under a lesser one, may be made now: nothing waits in the
-- journals, all keyspaces are known, all that memory holds was made under lesser numbers, and no number in the folder reaches it.
pub record CanIngest (j : Journaling) (t : Tree) (trees : Forest) (entries : ℕ → List (List Entry)) (records : LastFields) (k : LivingKeyspace) (n : ℕ) : Type 0 where
  pub forest : IsForest trees
  pub have : HaveVersions t.homes t.versions
  pub living : keyspace_at k.id t.keyspaces.living ≡ Some k
  pub are : AreTreesKnown j t trees entries records
  pub synced : j.later ≡ []
  pub sound : first_fault 0 (map shown (batches_in (journals_with j j.later))) ≡ None
  pub below : AreBefore n trees
  pub made : k.number < n
  pub above : number_of_contents (contents_with j t j.later) ≤ n
  pub small : n < 2 ^ 63
