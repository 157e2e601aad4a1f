-- An ingestion that is planned, and for which trees.
use Rattle.std.specs.Prelude.{◌≡◌, ℕ, ◌<◌, ◌^◌, true, List, None, length, min}
use Rattle.fjall_base.specs.declared.error.Error.{Error}
use Rattle.fjall_base.specs.declared.error.Error.TheVariants.{NumbersUsedUp, OutOfMemory, TooManyItems}
use Rattle.fjall_base.specs.Disk.{Meaning, state_in}
use Rattle.fjall_meta.specs.Contents.{is_beyond}
use Rattle.fjall_compaction.specs.Flushes.{HasAt, record_after_flush}
use Rattle.fjall_compaction.specs.FlushPlans.{IsFlushPlan}
use Rattle.fjall_manifest.specs.Homes.{Home}
use Rattle.fjall_jobs.specs.declared.made_table.MadeTable.{MadeTable}
use Rattle.fjall_jobs.specs.Sequences.{MakesTables}
use Rattle.fjall_recovery.specs.Halves.{Tree}
use Rattle.fjall_recovery.specs.Places.{LiesInTree}
use Rattle.fjall_table.specs.Blocks.{Entry}
use Rattle.fjall_manifest.specs.Records.{Fields}
use Rattle.fjall_reading.specs.Ingestions.{KeyOp}
use Rattle.fjall_compaction.specs.declared.ingestion.plan.IngestPlan.{IngestPlan}
use Rattle.fjall_compaction.specs.Ingests.{as_flush, tree_with, versions_made}
use Rattle.fjall_compaction.specs.Room.{HasPlace, IsTooLong, LacksNextId}

-- the tables are an ingestion's: one of exactly the versions that it makes, or none where it has no item
abbrev pub AreIngestionTables : ℕ → List KeyOp → List MadeTable → Type 0
AreIngestionTables number items tables = MakesTables None tables (versions_made number items)

-- What is planned of an ingestion into the keyspace of this id with that last record: its table, and the record after it with the
-- names of the files.
pub record IsIngestPlan (id number : ℕ) (items : List KeyOp) (last : Fields) (plan : IngestPlan) : Type 0 where
  pub tables : AreIngestionTables number items plan.tables.items
  pub planned : IsFlushPlan id last (as_flush number plan.tables.items) plan.writes

-- what is so of the record after an ingestion of these items, whichever its table is; it has none where it has no item
abbrev pub OnceIngested : ℕ → List KeyOp → Fields → (Fields → Type 0) → Type 0
OnceIngested number items last Holds = (tables : List MadeTable) → length tables ≡ min (length items) 1 → Holds (record_after_flush (as_flush number tables) last)

-- Why an ingestion can't be planned: the record after it is refused, as for its room, for ids, and for memory, in this order.
abbrev pub IsIngestRefusal : ℕ → List KeyOp → Fields → Error → Type 0
IsIngestRefusal number items last TooManyItems = OnceIngested number items last IsTooLong
IsIngestRefusal number items last NumbersUsedUp = OnceIngested number items last LacksNextId
IsIngestRefusal number items last OutOfMemory = OnceIngested number items last HasPlace
IsIngestRefusal number items last error = ⊥

-- ---- of whatever ingestion was planned

-- for the keyspace of which a plan is, whatever its last record is
abbrev pub ForIngest : IngestPlan → (ℕ → Type 0) → Type 0
ForIngest plan Holds = (id number : ℕ) (items : List KeyOp) (last : Fields) → IsIngestPlan id number items last plan → Holds id

-- the same, and for the number of the table that is made next
abbrev pub ForIngestNext : IngestPlan → ((id next : ℕ) → Type 0) → Type 0
ForIngestNext plan Holds = (id number : ℕ) (items : List KeyOp) (last : Fields) → IsIngestPlan id number items last plan → Holds id last.next_table_id

-- for whichever tree lies on the disk, and the tree after an ingestion into one of its keyspaces, under a number below 2^63 and
-- beyond the keyspace's persisted one
abbrev pub ForIngestOn : Meaning → IngestPlan → (List Fields → Tree → ℕ → Home → Tree → Type 0) → Type 0
ForIngestOn disk plan Holds = (records : List Fields) (t : Tree) (id number : ℕ) (items : List KeyOp) (h : Home) (versions : List Entry) → LiesInTree (state_in disk) records t → HasAt t id h versions
    → number < 2 ^ 63 → is_beyond h.last.persisted number ≡ true
    → IsIngestPlan id number items h.last plan
    → Holds records t id h (tree_with id number items plan.tables.items h versions t)
