use Rattle.std.proofs.Common.{Bool, Result, sym, subst}
use Rattle.fjall_base.specs.declared.error.Error.{Error}
use Rattle.fjall_history.specs.declared.job.JobId.{JobId}
use Rattle.fjall_history.specs.declared.reply.Reply.TheVariants.{Flag, Refused}
use Rattle.fjall_jobs.specs.Made.{merged_job}
use Rattle.fjall_jobs.specs.Merges.{merge_target, merge_task}
use Rattle.fjall_machine.specs.Merging.{KnowsMerge}
use Rattle.fjall_machine.specs.Shapes.{OfMergeFinish}
use Rattle.fjall_engine.specs.Holding.{Held}
use Rattle.fjall_engine.specs.Standing.{IsDueToMergeIn, Owes, Serves, ServesWhere, flag_reply, job_of}
use Rattle.fjall_engine.proofs.KeptMerges.{run_owes, run_serves, same_merge, serves_where}
use Rattle.fjall_engine.proofs.engine.Engine.run_merge.Goals as goal

pub returns-in-Ok-clause-serves : goal.returns-in-Ok-clause-serves
returns-in-Ok-clause-serves g c = λ h.
    let job = c.args.job in
    let new = c.settle_merge_early.new.self in
    subst (λ (name : JobId). ServesWhere (λ s. KnowsMerge s (merge_target job) (merge_task job)) c.args.self.now (OfMergeFinish name) (Flag c.in-Ok.done) new)
    (λ i. record { number = c.id.ensures i; keyspace_id = c.keyspace_id.ensures i })
    (serves_where (λ s. KnowsMerge s (merge_target job) (merge_task job)) c.args.self.now new (OfMergeFinish (record { number = c.id.result; keyspace_id = c.keyspace_id.result })) (Flag c.in-Ok.done)
    (subst (λ (r : Result Bool Error). Serves c.args.self.now (OfMergeFinish (record { number = c.id.result; keyspace_id = c.keyspace_id.result })) (flag_reply r) new) c.in-Ok.is (c.in-Some.ensures.serves h)))

pub returns-in-Err-clause-serves : goal.returns-in-Err-clause-serves
returns-in-Err-clause-serves g c = λ h.
    let job = c.args.job in
    let new = c.settle_merge_early.new.self in
    subst (λ (name : JobId). ServesWhere (λ s. KnowsMerge s (merge_target job) (merge_task job)) c.args.self.now (OfMergeFinish name) (Refused c.in-Err.error) new)
    (λ i. record { number = c.id.ensures i; keyspace_id = c.keyspace_id.ensures i })
    (serves_where (λ s. KnowsMerge s (merge_target job) (merge_task job)) c.args.self.now new (OfMergeFinish (record { number = c.id.result; keyspace_id = c.keyspace_id.result })) (Refused c.in-Err.error)
    (subst (λ (r : Result Bool Error). Serves c.args.self.now (OfMergeFinish (record { number = c.id.result; keyspace_id = c.keyspace_id.result })) (flag_reply r) new) c.in-Err.is (c.in-Some.ensures.serves h)))

pub returns-in-Err-run-clause-serves : goal.returns-in-Err-run-clause-serves
returns-in-Err-run-clause-serves g c = λ _.
    let old = c.args.self.now in
    let job = c.args.job in
    let due = c.in_default.ensures.due in
    let named = subst (λ (name : JobId). IsDueToMergeIn old name) (λ i. record { number = c.id.ensures i; keyspace_id = c.keyspace_id.ensures i }) due.0 in
    subst (λ (h : Held). ServesWhere (λ s. KnowsMerge s (merge_target job) (merge_task job)) old (OfMergeFinish (job_of (merge_task job))) (Refused c.run_error.result) h) (sym due.2)
    (run_serves old job c.in-Err-run.refused.error c.run_error.result named due.1 c.run_error.ensures.memory c.run_error.ensures.one c.in-Err-run.ensures.error)

pub returns-in-Err-run-clause-owes : goal.returns-in-Err-run-clause-owes
returns-in-Err-run-clause-owes g c =
    let old = c.args.self.now in
    let job = c.args.job in
    let due = c.in_default.ensures.due in
    let named = subst (λ (name : JobId). IsDueToMergeIn old name) (λ i. record { number = c.id.ensures i; keyspace_id = c.keyspace_id.ensures i }) due.0 in
    subst (λ (h : Held). Owes old (OfMergeFinish (job_of (merge_task job))) (Refused c.run_error.result) h) (sym due.2)
    (run_owes old job c.in-Err-run.refused.error c.run_error.result named due.1 c.run_error.ensures.memory c.run_error.ensures.one)

pub returns-in-Ok-merge_finish-clause-serves : goal.returns-in-Ok-merge_finish-clause-serves
returns-in-Ok-merge_finish-clause-serves g c = λ h.
    let job = c.args.job in
    subst (λ (old : Held). ServesWhere (λ s. KnowsMerge s (merge_target job) (merge_task job)) old (OfMergeFinish (job_of (merge_task job))) (Flag c.in-Ok-merge_finish.done) c.merge_finish.new.self) c.in_default.ensures.due.2
    (same_merge job (merged_job c.in-Ok-run.made) c.settle_merge_early.new.self c.merge_finish.new.self (Flag c.in-Ok-merge_finish.done) c.in-Ok-run.ensures.job c.in-Ok-run.ensures.target (c.in-Ok-merge_finish.ensures.serves h))

pub returns-in-Err-merge_finish-clause-serves : goal.returns-in-Err-merge_finish-clause-serves
returns-in-Err-merge_finish-clause-serves g c = λ h.
    let job = c.args.job in
    subst (λ (old : Held). ServesWhere (λ s. KnowsMerge s (merge_target job) (merge_task job)) old (OfMergeFinish (job_of (merge_task job))) (Refused c.in-Err-merge_finish.refused.error) c.merge_finish.new.self) c.in_default.ensures.due.2
    (same_merge job (merged_job c.in-Ok-run.made) c.settle_merge_early.new.self c.merge_finish.new.self (Refused c.in-Err-merge_finish.refused.error) c.in-Ok-run.ensures.job c.in-Ok-run.ensures.target (c.in-Err-merge_finish.ensures.serves h))
