-- Which job it is.
use Rattle.std.specs.Prelude.{ℕ, [], Option, None, Some}
use Rattle.fjall_jobs.specs.declared.flush_job.FlushJob.{FlushJob}
use Rattle.fjall_jobs.specs.declared.flush_made.FlushMade.{FlushMade}
use Rattle.fjall_jobs.specs.declared.merge_job.MergeJob.{MergeJob}
use Rattle.fjall_jobs.specs.declared.merge_made.MergeMade.{MergeMade}
use Rattle.fjall_jobs.specs.Flushes.{flush_task}
use Rattle.fjall_jobs.specs.Made.{flushed_job, merged_job}
use Rattle.fjall_jobs.specs.Merges.{merge_target, merge_task}
use Rattle.fjall_jobs.specs.Tasks.{Task}

-- What a job was begun with and, for a merge, the size at which it closes its tables.
pub record Label : Type 0 where
  pub task : Task
  pub target : Option ℕ

abbrev pub flush_label : FlushJob → Label
flush_label job = record { task = flush_task job; target = None }

abbrev pub merge_label : MergeJob → Label
merge_label job = record { task = merge_task job; target = Some (merge_target job) }

-- the job that it was made of
abbrev pub flush_made_of : FlushMade → Label
flush_made_of made = flush_label (flushed_job made)

abbrev pub merge_made_of : MergeMade → Label
merge_made_of made = merge_label (merged_job made)

-- that of no job
abbrev pub no_label : Label
no_label = record { task = record { id = 0; keyspace = 0; watermark = 0; runs = []; clears = [] }; target = None }

-- the job that was chosen
abbrev pub label_in : Option Label → Label
label_in None = no_label
label_in (Some label) = label
