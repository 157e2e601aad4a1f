-- An ingestion: all that is in memory goes to a table, and behind it the ingestion's versions to one of their own.
use Rattle.std.specs.Prelude.{ℕ, ◌+◌, ◌==◌, ◌&&◌, ◌||◌, Bool, false, not, nat_lt, List, [], ◌++◌, Option, Some, None, length}
use Rattle.fjall_table_reader.specs.Readers.{Reader}
use Rattle.fjall_memtable.specs.Parts.{Memory, empty_from, holds_nothing, parts_of}
use Rattle.fjall_jobs.specs.Tasks.{Task}
use Rattle.fjall_tree.specs.Jobs.{flush_of}
use Rattle.fjall_tree.specs.Trees.{Flushing, Shape, clears_of}

-- whether something is in memory: a sealed part, or an active one that holds something
abbrev pub has_memory : Memory → Bool
has_memory memory = nat_lt 0 (length memory.sealed) || not (holds_nothing memory.active)

-- What a flush of all that is in memory would be begun with: such a flush is never out, and so has no number.
abbrev pub memory_task : (keyspace watermark : ℕ) → Memory → Task
memory_task keyspace watermark memory = flush_of 0 keyspace watermark (parts_of memory)

-- A flush that is out takes nothing any more, and so is stale: one that was begun takes a part at least.
abbrev pub stale : Option Flushing → Option Flushing
stale None = None
stale (Some out) = Some (record { id = out.id; watermark = out.watermark; count = 0 })

-- whether a flush of this number is out, and takes effect once it is finished: it isn't stale
abbrev pub is_flush_due : ℕ → Option Flushing → Bool
is_flush_due id None = false
is_flush_due id (Some out) = id == out.id && nat_lt 0 out.count

-- The tree after an ingestion of this number: the tables that were made, of its memory and of the ingestion, stand behind all others,
-- all clears in the record; memory holds nothing and goes on behind the number; and a flush that was out is stale.
abbrev pub ingested : ℕ → List Reader → Shape → Shape
ingested number made shape = record {
  tables = shape.tables ++ made;
  clears = clears_of shape;
  memory = record { sealed = []; active = empty_from (number + 1) };
  flush = stale shape.flush;
  merge = shape.merge;
}
