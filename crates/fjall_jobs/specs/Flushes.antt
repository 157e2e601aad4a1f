-- Flushes.
use Rattle.fjall_memtable.specs.Parts.{clears_in}
use Rattle.fjall_memtable.specs.Shares.{shared}
use Rattle.fjall_jobs.specs.declared.flush_job.FlushJob.{FlushJob}
use Rattle.fjall_jobs.specs.Inputs.{runs_of}
use Rattle.fjall_jobs.specs.Tasks.{Task}

-- what a flush was begun with
abbrev pub flush_task : FlushJob → Task
flush_task job = record { id = job.id; keyspace = job.keyspace_id; watermark = job.watermark; runs = runs_of job.parts.items; clears = clears_in (shared job.parts.items) }
