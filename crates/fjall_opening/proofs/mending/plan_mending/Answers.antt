use Rattle.fjall_repair.proofs.Suiting.{plan_is}
use Rattle.fjall_opening.proofs.mending.plan_mending.Goals as goal

pub returns-clause-plan : goal.returns-clause-plan
returns-clause-plan c image read = plan_is image c.args.found.now c.plan_of.result read c.plan_of.ensures.plan
