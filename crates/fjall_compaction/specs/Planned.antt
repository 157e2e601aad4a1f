-- A whole ingestion that is planned: all that is written of it and what memory takes of it then; and for which trees it is written.
use Rattle.std.specs.Prelude.{◌≡◌, ℕ, ◌+◌, ◌<◌, ◌≤◌, ◌^◌, Bool, true, false, List, [], ◌++◌, length, vec_capacity, Option, Some, None}
use Rattle.fjall_base.specs.Disk.{Meaning, state_in}
use Rattle.fjall_base.specs.declared.error.Error.{Error}
use Rattle.fjall_base.specs.declared.error.Error.TheVariants.{NumbersUsedUp, OutOfMemory, TooManyItems}
use Rattle.fjall_meta.specs.Contents.{is_beyond}
use Rattle.fjall_files.specs.Names.{table_name}
use Rattle.fjall_compaction.specs.declared.flush.plan.FlushPlan.{FlushPlan}
use Rattle.fjall_compaction.specs.Flushes.{Flush, Follows, HasAt, flush_with}
use Rattle.fjall_compaction.specs.FlushPlans.{AreReadersOf, IsFlushPlan}
use Rattle.fjall_manifest.specs.Homes.{Home}
use Rattle.fjall_tree.specs.Ingestions.{has_memory}
use Rattle.fjall_tree.specs.Trees.{Shape, clears_of}
use Rattle.fjall_recovery.specs.Halves.{Tree}
use Rattle.fjall_recovery.specs.Places.{LiesInTree}
use Rattle.fjall_table.specs.Blocks.{Entry}
use Rattle.fjall_manifest.specs.Records.{Fields}
use Rattle.fjall_reading.specs.Ingestions.{KeyOp}
use Rattle.fjall_compaction.specs.declared.ingestion.whole.MemoryPlan.{MemoryPlan}
use Rattle.fjall_compaction.specs.declared.ingestion.whole.PlannedIngestion.{PlannedIngestion}
use Rattle.fjall_compaction.specs.IngestionPlans.{IsIngestPlan, OnceIngested}
pub use Rattle.fjall_compaction.specs.MergePlans.{HasNoTableFolder}
use Rattle.fjall_compaction.specs.Whole.{LacksIds, LacksRecordRoom, MakesIngestion, last_flushed, memory_flush, tree_behind, tree_between, tree_flushed}
use Rattle.fjall_compaction.specs.Room.{HasPlace}

-- ---- what is planned

-- where memory holds something, its flush is planned
abbrev pub IsMemoryPlan : Bool → ℕ → Fields → Flush → Option FlushPlan → Type 0
IsMemoryPlan true id last f (Some plan) = IsFlushPlan id last f plan
IsMemoryPlan true id last f None = ⊥
IsMemoryPlan false id last f (Some plan) = ⊥
IsMemoryPlan false id last f None = Unit {0}

-- What is planned of an ingestion of these items under this number into a keyspace with this tree and that last record: the tables of its
-- memory and of the items, what is written of both, the readers of the tables, a list that has room for all tables, and all clears. The
-- ids of the tables have their place.
pub record IsIngestionPlan (tree : Shape) (id watermark n : ℕ) (items : List KeyOp) (last : Fields) (p : PlannedIngestion) : Type 0 where
  pub keyspace : p.id ≡ id
  pub makes : MakesIngestion tree id watermark n items last p.memory.tables.items p.own.tables.items p.readers.items
  pub memory : IsMemoryPlan (has_memory tree.memory) id last (memory_flush tree p.memory.tables.items) p.memory.writes
  pub nothing : has_memory tree.memory ≡ false → p.memory.tables.items ≡ []
  pub own : IsIngestPlan id n items (last_flushed tree p.memory.tables.items last) p.own
  pub read : AreReadersOf id last.next_table_id (p.memory.tables.items ++ p.own.tables.items) p.readers.items
  pub fits : last.next_table_id < 2 ^ 64 → last.next_table_id + length (p.memory.tables.items ++ p.own.tables.items) < 2 ^ 64
  pub clears : p.clears.items ≡ clears_of tree
  pub empty : p.room.items ≡ []
  pub room : length tree.tables + length p.readers.items ≤ vec_capacity p.room

-- Why an ingestion isn't planned: the record behind it has no room; else ids of tables are used up; else memory ran out, which the flush of
-- memory asks for before it is known whether it makes a table: so it is told that there was a place only where memory holds nothing.
abbrev pub IsIngestionRefusal : Shape → (id watermark n : ℕ) → List KeyOp → Fields → Error → Type 0
IsIngestionRefusal tree id watermark n items last TooManyItems = LacksRecordRoom tree id watermark n items last
IsIngestionRefusal tree id watermark n items last NumbersUsedUp = LacksIds tree id watermark n items last
IsIngestionRefusal tree id watermark n items last OutOfMemory = has_memory tree.memory ≡ false → OnceIngested n items last HasPlace
IsIngestionRefusal tree id watermark n items last error = ⊥

-- ---- the disk

-- for whatever flush of memory was planned, or none where it holds nothing: its keyspace and its last record
abbrev pub ForMemory : MemoryPlan → ((id : ℕ) → Fields → Type 0) → Type 0
ForMemory p Holds = (flushes : Bool) (id number : ℕ) (clears : List ℕ) (last : Fields) → (flushes ≡ false → p.tables.items ≡ [])
    → IsMemoryPlan flushes id last (flush_with number p.tables.items clears) p.writes → Holds id last

-- For whichever tree lies on the disk where the flush of a keyspace's memory was planned, or none where it holds nothing, with its home's last
-- record, which what was made of the memory follows; and for the tree behind that flush.
abbrev pub ForMemoryOn : Meaning → MemoryPlan → (List Fields → Tree → (id : ℕ) → Home → Tree → Type 0) → Type 0
ForMemoryOn disk p Holds = (flushes : Bool) (id number : ℕ) (clears : List ℕ) (records : List Fields) (t : Tree) (h : Home) (versions : List Entry) (lists : List (List Entry))
    → LiesInTree (state_in disk) records t → HasAt t id h versions → (flushes ≡ false → p.tables.items ≡ [])
    → IsMemoryPlan flushes id h.last (flush_with number p.tables.items clears) p.writes
    → (flushes ≡ true → Follows (flush_with number p.tables.items clears) lists h.last)
    → Holds records t id h (tree_flushed flushes id (flush_with number p.tables.items clears) lists h versions t)

-- for whatever ingestion was planned: its keyspace, its last record, its tree, its number and its items
abbrev pub ForIngestion : PlannedIngestion → ((id : ℕ) → Fields → Shape → (n : ℕ) → List KeyOp → Type 0) → Type 0
ForIngestion p Holds = (tree : Shape) (id watermark n : ℕ) (items : List KeyOp) (last : Fields) → IsIngestionPlan tree id watermark n items last p → Holds id last tree n items

-- Each table of the keyspace of this id whose own id is below that one stands in sight as it did.
abbrev pub KeepsGiven : (id next : ℕ) → Meaning → Meaning → Type 0
KeepsGiven id next old new = (number : ℕ) → number < next → number < 2 ^ 64 → (state_in new (table_name id number)).now ≡ (state_in old (table_name id number)).now

-- For whichever tree lies on the disk where the keyspace's home has the last record that was planned with, which what was made of its
-- memory follows, under a number below 2^63 and beyond the persisted one; and for the trees behind the flush of memory and behind the
-- ingestion.
abbrev pub ForIngestionOn : Meaning → PlannedIngestion → (ℕ → List Fields → Tree → Home → Tree → Tree → Type 0) → Type 0
ForIngestionOn disk p Holds = ForIngestion p (λ id last tree n items.
    (records : List Fields) (t : Tree) (h : Home) (versions : List Entry) (lists : List (List Entry)) → LiesInTree (state_in disk) records t → HasAt t id h versions
    → h.last ≡ last → (has_memory tree.memory ≡ true → Follows (memory_flush tree p.memory.tables.items) lists last)
    → n < 2 ^ 63 → is_beyond (last_flushed tree p.memory.tables.items last).persisted n ≡ true
    → Holds id records t h (tree_between id tree p.memory.tables.items lists h versions t)
    (tree_behind id n items tree p.memory.tables.items p.own.tables.items lists h versions t))
