-- What is known of what flushes and merges made.
use Rattle.fjall_jobs.specs.declared.flush_made.FlushMade.{FlushMade}
use Rattle.fjall_jobs.specs.declared.merge_made.MergeMade.{MergeMade}
use Rattle.fjall_jobs.specs.Keeping.{AreSorted}
use Rattle.fjall_jobs.specs.Made.{flush_clears, flush_tables, flushed_task, merge_clears, merge_tables, merged_target, merged_task}
use Rattle.fjall_jobs.specs.Merges.{IsMerged}
use Rattle.fjall_jobs.specs.Tasks.{IsFlushed}

-- a flush made what it should of its task
pub was_flushed : (made : FlushMade) → ∥ IsFlushed (flushed_task made) (flush_tables made) (flush_clears made) ∥₁
was_flushed made = made.made

-- and so did a merge, where its input is in order
pub was_merged : (made : MergeMade) → ∥ (AreSorted (merged_task made).runs → IsMerged (merged_target made) (merged_task made) (merge_tables made) (merge_clears made)) ∥₁
was_merged made = made.made
