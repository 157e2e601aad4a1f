-- An ingestion: items of one keyspace, by key ascending, that are one command under one number, and what it makes of the
-- keyspace's home and of the tree.
use Rattle.std.specs.Prelude.{ℕ, List, [], ◌++◌, map}
use Rattle.fjall_base.specs.Store.{Command}
use Rattle.fjall_compaction.specs.Flushes.{Flush, flush_with, home_after}
use Rattle.fjall_manifest.specs.Homes.{Home}
use Rattle.fjall_jobs.specs.declared.made_table.MadeTable.{MadeTable}
use Rattle.fjall_journal.specs.Ops.{BatchItem, value_in, write_of}
use Rattle.fjall_recovery.specs.Halves.{Tree, with_home_at}
use Rattle.fjall_table.specs.Blocks.{Entry}
use Rattle.fjall_reading.specs.Ingestions.{KeyOp}

-- the version that an item makes of its key, under the ingestion's number
abbrev pub version_of : ℕ → KeyOp → Entry
version_of number item = record { key = item.0; number = number; value = value_in item.1 }

-- the versions that an ingestion makes
abbrev pub versions_made : ℕ → List KeyOp → List Entry
versions_made number items = map (version_of number) items

-- its items as those of a batch
abbrev pub batch_items : ℕ → List KeyOp → List BatchItem
batch_items id items = map (λ item. (id, item.0, item.1)) items

-- the one command that it is
abbrev pub ingestion : ℕ → List KeyOp → Command
ingestion id items = write_of (batch_items id items)

-- its tables, as those of a flush that has no clear
abbrev pub as_flush : ℕ → List MadeTable → Flush
as_flush number tables = flush_with number tables []

-- the home after it: its tables stand behind the others, and both numbers reach its own
abbrev pub home_with : ℕ → List MadeTable → Home → Home
home_with number tables h = home_after (as_flush number tables) h

-- The tree after an ingestion into the keyspace of this id, which had that home with these versions: those that it made stand
-- behind them.
abbrev pub tree_with : (id number : ℕ) → List KeyOp → List MadeTable → Home → List Entry → Tree → Tree
tree_with id number items tables h versions t = with_home_at id (home_with number tables h) (versions ++ versions_made number items) t
