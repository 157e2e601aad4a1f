-- Merges.
use Rattle.std.specs.Prelude.{◌≡◌, ℕ, List, Some}
use Rattle.fjall_table.specs.Blocks.{Entry, IsOrdered}
use Rattle.fjall_memtable.specs.Jobs.{Same, merged, merged_clears}
use Rattle.fjall_memtable.specs.Sorted.{flat}
use Rattle.fjall_jobs.specs.declared.made_table.MadeTable.{MadeTable}
use Rattle.fjall_jobs.specs.declared.merge_job.MergeJob.{MergeJob}
use Rattle.fjall_jobs.specs.MergeInputs.{table_runs}
use Rattle.fjall_jobs.specs.Sequences.{AreMadeTables, AreParted}
use Rattle.fjall_jobs.specs.Tasks.{Task}

-- what a merge was begun with
abbrev pub merge_task : MergeJob → Task
merge_task job = record { id = job.id; keyspace = job.keyspace_id; watermark = job.watermark; runs = table_runs job.tables.items; clears = job.clears.items }

-- the size at which it closes the tables that it makes
abbrev pub merge_target : MergeJob → ℕ
merge_target job = job.target

-- What a merge made: in tables that are closed at a target, and in order, exactly the versions of its input that this neither
-- hides at the watermark nor has as spent removals; and the clears that the watermark doesn't reach.
pub record IsMerged (target : ℕ) (task : Task) (tables : List MadeTable) (clears : List ℕ) : Type 0 where
  pub lists : List (List Entry)
  pub made : AreMadeTables tables lists
  pub parted : AreParted (Some target) lists
  pub ordered : IsOrdered (flat lists)
  pub kept : Same (flat lists) (merged task.watermark task.clears (flat task.runs))
  pub clears_are : clears ≡ merged_clears task.watermark task.clears
