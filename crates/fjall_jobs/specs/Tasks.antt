-- What a job is begun with, and what it makes of it.
use Rattle.std.specs.Prelude.{◌≡◌, ℕ, List, None}
use Rattle.fjall_table.specs.Blocks.{Entry, IsOrdered}
use Rattle.fjall_memtable.specs.Jobs.{Same, flushed}
use Rattle.fjall_memtable.specs.Sorted.{flat}
use Rattle.fjall_jobs.specs.declared.made_table.MadeTable.{MadeTable}
use Rattle.fjall_jobs.specs.Sequences.{AreMadeTables, AreParted}

-- What a job was begun with: its own number and the keyspace's, the watermark, and its input, which is the versions of each
-- memtable or table, the oldest first, and the clears.
pub record Task : Type 0 where
  pub id : ℕ
  pub keyspace : ℕ
  pub watermark : ℕ
  pub runs : List (List Entry)
  pub clears : List ℕ

-- What a flush made: in one table at most, and in order, exactly the versions of its input that this doesn't hide at the
-- watermark; and all clears.
pub record IsFlushed (task : Task) (tables : List MadeTable) (clears : List ℕ) : Type 0 where
  pub lists : List (List Entry)
  pub made : AreMadeTables tables lists
  pub parted : AreParted None lists
  pub ordered : IsOrdered (flat lists)
  pub kept : Same (flat lists) (flushed task.watermark task.clears (flat task.runs))
  pub clears_are : clears ≡ task.clears
