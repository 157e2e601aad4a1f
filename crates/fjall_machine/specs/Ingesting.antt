-- An ingestion in memory.
use Rattle.std.specs.Prelude.{◌≡◌, ℕ, ◌+◌, List}
use Rattle.std.specs.FinMap.{insert}
use Rattle.fjall_table_reader.specs.Readers.{Reader}
pub use Rattle.fjall_compaction.specs.Whole.{MakesIngestion, last_flushed, last_ingested, memory_flush}
use Rattle.fjall_tree.specs.Ingestions.{ingested}
use Rattle.fjall_compaction.specs.declared.ingestion.whole.PlannedIngestion.{PlannedIngestion}
use Rattle.fjall_compaction.specs.Planned.{IsIngestionPlan}
use Rattle.fjall_manifest.specs.Records.{Fields}
use Rattle.fjall_trees.specs.Forests.{altered_at}
use Rattle.fjall_trees.specs.Tables.{shape_in}
use Rattle.fjall_reading.specs.Ingestions.{KeyOp}
pub use Rattle.fjall_machine.specs.Machine.{Ingests, MayIngest, are_journals_used_up, do_ascend, ingestion_refusals, parts_ingested, some_key_empty, some_key_too_long, some_value_too_long}
use Rattle.fjall_machine.specs.Remembered.{Remembered}

-- An ingestion of these items into the keyspace of this id was planned, of which this is the last record.
abbrev pub IsPlanned : Remembered → ℕ → List KeyOp → Fields → PlannedIngestion → Type 0
IsPlanned m id items last p = IsIngestionPlan (shape_in id m.trees) id m.tickets.watermark m.next items last p

-- of what was planned nothing changed but the record behind the ingestion
abbrev pub IsSwapped : PlannedIngestion → PlannedIngestion → Type 0
IsSwapped old new =
    (new.id ≡ old.id) × (new.memory ≡ old.memory) × (new.own.tables ≡ old.own.tables) × (new.readers ≡ old.readers) × (new.room ≡ old.room) × (new.clears ≡ old.clears)

-- with this as the last record of a keyspace
abbrev pub with_record : ℕ → Fields → Remembered → Remembered
with_record id last m = record m { records = insert m.records id last }

-- With an ingestion into a keyspace in its tree, which took the next number, with these readers of the tables that were made.
abbrev pub with_tables : ℕ → List Reader → Remembered → Remembered
with_tables id readers m = record m { trees = altered_at id (ingested m.next readers) m.trees; next = m.next + 1 }

-- With an ingestion more, which took the next number: with these readers of the tables that were made, and this as the keyspace's record.
abbrev pub with_ingestion : ℕ → List Reader → Fields → Remembered → Remembered
with_ingestion id readers last m = record m { trees = altered_at id (ingested m.next readers) m.trees; next = m.next + 1; records = insert m.records id last }
