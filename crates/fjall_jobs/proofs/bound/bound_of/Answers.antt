use Rattle.fjall_jobs.proofs.Flushing.{barrier_more}
use Rattle.fjall_jobs.proofs.bound.bound_of.Goals as goal

pub clears-preserved : goal.clears-preserved
clears-preserved c = barrier_more c.args.instant c.args.clears.now c.clears.number-index c.clears.bound c.raised-bound.result c.clears-test.true c.clears.invariant c.raised-bound.ensures
