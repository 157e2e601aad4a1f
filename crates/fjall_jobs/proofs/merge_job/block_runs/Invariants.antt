use Rattle.std.proofs.Common.{◌≡◌, take}
use Rattle.fjall_jobs.specs.MergeInputs.{table_runs}
use Rattle.fjall_jobs.proofs.merge_job.block_runs.Given as goal

abbrev pub invariant-loop-table : goal.invariant-loop-table
invariant-loop-table l = l.runs.items ≡ take l.table-index (table_runs l.tables)
