use Rattle.std.proofs.Common.{◌∙◌, ap}
use Rattle.fjall_memtable.specs.Held.{held_of}
use Rattle.fjall_memtable.specs.declared.part.Part.{Part}
use Rattle.fjall_jobs.proofs.Flushing.{run_more}
use Rattle.fjall_jobs.proofs.flush_job.memtable_runs.Goals as goal

pub loop-part-preserved : goal.loop-part-preserved
loop-part-preserved c =
    c.in_ok-push.ensures.items
    ∙ run_more c.args.parts.now c.loop-part.part-index c.part-item.result c.loop-part.runs.items c.new.result c.loop-part-test.true c.part-item.is c.loop-part.invariant
    (c.new.ensures ∙ c.versions-in-loop-part.ensures.versions ∙ c.versions.ensures ∙ ap (λ (p : Part). (held_of p).versions) c.deref.ensures)
