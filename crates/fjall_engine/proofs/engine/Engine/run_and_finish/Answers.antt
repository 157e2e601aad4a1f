use Rattle.std.proofs.Common.{sym, subst}
use Rattle.fjall_jobs.specs.Flushes.{flush_task}
use Rattle.fjall_machine.specs.Machine.{State}
use Rattle.fjall_machine.specs.Shapes.{OfFlushFinish}
use Rattle.fjall_engine.specs.declared.jobs.Job.{Job}
use Rattle.fjall_engine.specs.declared.jobs.Job.TheVariants.{Flush}
use Rattle.fjall_engine.specs.Jobs.{IsFlushKnown, IsMergeKnown, finish_of, kind_of, name_of}
use Rattle.fjall_engine.specs.Standing.{ServesWhere, job_of}
use Rattle.fjall_engine.proofs.KeptMerges.{serves_where}
use Rattle.fjall_engine.proofs.engine.Engine.run_and_finish.Goals as goal

pub run_flush-requires : goal.run_flush-requires
run_flush-requires g c = subst (IsFlushKnown c.args.self.now.memory) c.in-Flush.is c.requires

pub returns-in-Flush-clause-serves : goal.returns-in-Flush-clause-serves
returns-in-Flush-clause-serves g c = λ h.
    let old = c.args.self.now in
    let r = c.run_flush in
    let job = c.in-Flush.job in
    subst (λ (job : Job). ServesWhere (λ s. IsMergeKnown s job) old (finish_of (kind_of job) (name_of job)) r.result.0 r.new.self) (sym c.in-Flush.is)
    (serves_where (λ (s : State). IsMergeKnown s (Flush job)) old r.new.self (OfFlushFinish (job_of (flush_task job))) r.result.0 (r.ensures.serves h))

pub returns-in-Merge-clause-serves : goal.returns-in-Merge-clause-serves
returns-in-Merge-clause-serves g c = λ h.
    let r = c.run_merge in
    subst (λ (job : Job). ServesWhere (λ s. IsMergeKnown s job) c.args.self.now (finish_of (kind_of job) (name_of job)) r.result.0 r.new.self) (sym c.in-Merge.is) (r.ensures.serves h)
