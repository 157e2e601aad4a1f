use Rattle.std.proofs.Common.{◌≡◌, take}
use Rattle.fjall_jobs.specs.Inputs.{runs_of}
use Rattle.fjall_jobs.proofs.flush_job.memtable_runs.Given as goal

abbrev pub invariant-loop-part : goal.invariant-loop-part
invariant-loop-part l = l.runs.items ≡ take l.part-index (runs_of l.parts)
