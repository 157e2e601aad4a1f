-- What flushes and merges made, each with the job that made it.
use Rattle.std.specs.Prelude.{ℕ, List}
use Rattle.fjall_jobs.specs.declared.flush_job.FlushJob.{FlushJob}
use Rattle.fjall_jobs.specs.declared.flush_made.FlushMade.{FlushMade}
use Rattle.fjall_jobs.specs.declared.made_table.MadeTable.{MadeTable}
use Rattle.fjall_jobs.specs.declared.merge_job.MergeJob.{MergeJob}
use Rattle.fjall_jobs.specs.declared.merge_made.MergeMade.{MergeMade}
use Rattle.fjall_jobs.specs.Flushes.{flush_task}
use Rattle.fjall_jobs.specs.Merges.{merge_target, merge_task}
use Rattle.fjall_jobs.specs.Tasks.{Task}

-- ---- of a flush

-- the flush itself
abbrev pub flushed_job : FlushMade → FlushJob
flushed_job made = made.job

-- what it was begun with
abbrev pub flushed_task : FlushMade → Task
flushed_task made = flush_task (flushed_job made)

-- the tables that it made
abbrev pub flush_tables : FlushMade → List MadeTable
flush_tables made = made.tables.items

-- the clears that it leaves
abbrev pub flush_clears : FlushMade → List ℕ
flush_clears made = made.clears.items

-- ---- of a merge

-- the merge itself
abbrev pub merged_job : MergeMade → MergeJob
merged_job made = made.job

-- what it was begun with
abbrev pub merged_task : MergeMade → Task
merged_task made = merge_task (merged_job made)

-- the size at which it closed its tables
abbrev pub merged_target : MergeMade → ℕ
merged_target made = merge_target (merged_job made)

-- the tables that it made
abbrev pub merge_tables : MergeMade → List MadeTable
merge_tables made = made.tables.items

-- the clears that it leaves
abbrev pub merge_clears : MergeMade → List ℕ
merge_clears made = made.clears.items
