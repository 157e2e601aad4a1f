use Rattle.std.proofs.Common.{refl, sym, subst}
use Rattle.fjall_base.specs.declared.error.Error.{Error}
use Rattle.fjall_history.specs.declared.job.JobId.{JobId}
use Rattle.fjall_history.specs.declared.reply.Reply.TheVariants.{Flag, Refused}
use Rattle.fjall_jobs.specs.Flushes.{flush_task}
use Rattle.fjall_jobs.specs.Made.{flushed_task}
use Rattle.fjall_jobs.specs.Tasks.{Task}
use Rattle.fjall_machine.specs.Shapes.{OfFlushFinish}
use Rattle.fjall_engine.specs.Holding.{Held}
use Rattle.fjall_engine.specs.Standing.{IsDueToFinishIn, Owes, Serves, job_of}
use Rattle.fjall_engine.proofs.FinishedFlushes.{made_known}
use Rattle.fjall_engine.proofs.ServedCalls.{memory_owes, memory_serves}
use Rattle.fjall_engine.proofs.engine.Engine.run_flush.Goals as goal

pub returns-in-Err-run-clause-serves : goal.returns-in-Err-run-clause-serves
returns-in-Err-run-clause-serves g c = λ _.
    let old = c.args.self.now in
    let shape = OfFlushFinish (job_of (flush_task c.args.job)) in
    let due = c.in_default.ensures.due in
    let named = subst (λ (job : JobId). IsDueToFinishIn old job) (λ i. record { number = c.id.ensures i; keyspace_id = c.keyspace_id.ensures i }) due.0 in
    subst (λ (h : Held). Serves old shape (Refused c.in-Err-run.refused.error) h) (sym due.2)
    (subst (λ (e : Error). Serves old shape (Refused e) old) (sym c.in-Err-run.ensures.error) (memory_serves old shape (named, due.1) refl))

pub returns-in-Err-run-clause-owes : goal.returns-in-Err-run-clause-owes
returns-in-Err-run-clause-owes g c =
    let old = c.args.self.now in
    let shape = OfFlushFinish (job_of (flush_task c.args.job)) in
    let due = c.in_default.ensures.due in
    let named = subst (λ (job : JobId). IsDueToFinishIn old job) (λ i. record { number = c.id.ensures i; keyspace_id = c.keyspace_id.ensures i }) due.0 in
    subst (λ (h : Held). Owes old shape (Refused c.in-Err-run.refused.error) h) (sym due.2)
    (subst (λ (e : Error). Owes old shape (Refused e) old) (sym c.in-Err-run.ensures.error) (memory_owes old shape (named, due.1) refl))

pub returns-in-Ok-flush_finish-clause-serves : goal.returns-in-Ok-flush_finish-clause-serves
returns-in-Ok-flush_finish-clause-serves g c = λ h.
    let old = c.args.self.now in
    let mid = c.settle_early.new.self in
    let job = flush_task c.args.job in
    let made = flushed_task c.in-Ok-run.made in
    let known = made_known old mid job made c.in_default.ensures.due.2 c.in-Ok-run.ensures.job c.requires in
    subst (λ (x : Held × Task). Serves x.0 (OfFlushFinish (job_of x.1)) (Flag c.in-Ok-flush_finish.done) c.flush_finish.new.self) (λ i. (c.in_default.ensures.due.2 i, c.in-Ok-run.ensures.job i))
    (c.in-Ok-flush_finish.ensures.serves h known)

pub returns-in-Ok-flush_finish-clause-owes : goal.returns-in-Ok-flush_finish-clause-owes
returns-in-Ok-flush_finish-clause-owes g c =
    let old = c.args.self.now in
    let mid = c.settle_early.new.self in
    let job = flush_task c.args.job in
    let made = flushed_task c.in-Ok-run.made in
    let known = made_known old mid job made c.in_default.ensures.due.2 c.in-Ok-run.ensures.job c.requires in
    subst (λ (x : Held × Task). Owes x.0 (OfFlushFinish (job_of x.1)) (Flag c.in-Ok-flush_finish.done) c.flush_finish.new.self) (λ i. (c.in_default.ensures.due.2 i, c.in-Ok-run.ensures.job i))
    (c.in-Ok-flush_finish.ensures.owes known)

pub returns-in-Err-flush_finish-clause-serves : goal.returns-in-Err-flush_finish-clause-serves
returns-in-Err-flush_finish-clause-serves g c = λ h.
    let old = c.args.self.now in
    let mid = c.settle_early.new.self in
    let job = flush_task c.args.job in
    let made = flushed_task c.in-Ok-run.made in
    let known = made_known old mid job made c.in_default.ensures.due.2 c.in-Ok-run.ensures.job c.requires in
    subst (λ (x : Held × Task). Serves x.0 (OfFlushFinish (job_of x.1)) (Refused c.in-Err-flush_finish.refused.error) c.flush_finish.new.self) (λ i. (c.in_default.ensures.due.2 i, c.in-Ok-run.ensures.job i))
    (c.in-Err-flush_finish.ensures.serves h known)

pub returns-in-Err-flush_finish-clause-owes : goal.returns-in-Err-flush_finish-clause-owes
returns-in-Err-flush_finish-clause-owes g c =
    let old = c.args.self.now in
    let mid = c.settle_early.new.self in
    let job = flush_task c.args.job in
    let made = flushed_task c.in-Ok-run.made in
    let known = made_known old mid job made c.in_default.ensures.due.2 c.in-Ok-run.ensures.job c.requires in
    subst (λ (x : Held × Task). Owes x.0 (OfFlushFinish (job_of x.1)) (Refused c.in-Err-flush_finish.refused.error) c.flush_finish.new.self) (λ i. (c.in_default.ensures.due.2 i, c.in-Ok-run.ensures.job i))
    (c.in-Err-flush_finish.ensures.owes known)
