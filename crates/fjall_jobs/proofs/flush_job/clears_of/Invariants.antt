use Rattle.std.proofs.Common.{◌≡◌, take}
use Rattle.fjall_memtable.specs.Parts.{clears_in}
use Rattle.fjall_memtable.specs.Shares.{shared}
use Rattle.fjall_jobs.proofs.flush_job.clears_of.Given as goal

abbrev pub invariant-loop-part : goal.invariant-loop-part
invariant-loop-part l = l.clears.items ≡ clears_in (take l.part-index (shared l.parts))
