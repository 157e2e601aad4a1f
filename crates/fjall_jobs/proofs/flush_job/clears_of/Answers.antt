use Rattle.std.proofs.Common.{◌∙◌, ap}
use Rattle.fjall_memtable.specs.Held.{held_of}
use Rattle.fjall_memtable.specs.declared.part.Part.{Part}
use Rattle.fjall_jobs.proofs.Flushing.{clears_more}
use Rattle.fjall_jobs.proofs.flush_job.clears_of.Goals as goal

pub loop-part-preserved : goal.loop-part-preserved
loop-part-preserved c =
    c.in_ok-extend_from_slice.ensures.items
    ∙ clears_more c.args.parts.now c.loop-part.part-index c.part-item.result c.loop-part.clears.items c.clears.result.now c.loop-part-test.true c.part-item.is c.loop-part.invariant
    (c.clears.ensures ∙ ap (λ (p : Part). (held_of p).clears) c.deref.ensures)
