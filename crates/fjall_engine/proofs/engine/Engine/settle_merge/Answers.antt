use Rattle.std.proofs.Common.{◌≡◌, ◌∙◌, Bool, true, false, IsTrue, Some, Result, rules, ap, subst, sym, Ok, Err}
use Rattle.std.proofs.lemmas.Bool.{true≢false}
use Rattle.fjall_base.specs.declared.error.Error.{Error}
use Rattle.fjall_jobs.specs.Made.{merged_target, merged_task}
use Rattle.fjall_machine.specs.Merging.{KnowsMerge}
use Rattle.fjall_history.specs.declared.job.JobId.{JobId}
use Rattle.fjall_machine.specs.Machine.{is_merging}
use Rattle.fjall_machine.specs.Shapes.{OfMergeFinish}
use Rattle.fjall_engine.specs.Holding.{Held}
use Rattle.fjall_engine.specs.Standing.{KnowsMergeIfDue, Owes, ServesWhere, flag_reply, job_of}
use Rattle.fjall_engine.proofs.FinishedMerges.{finished_owes, finished_serves, finishing}
use Rattle.fjall_engine.proofs.KeptMerges.{if_due, serves_where}
use Rattle.fjall_engine.proofs.MergesOnDisk.{may_go_on}
use Rattle.fjall_engine.proofs.engine.Engine.settle_merge.Goals as goal

pub returns-in-Some-clause-serves : goal.returns-in-Some-clause-serves
returns-in-Some-clause-serves g c = λ h.
    let made = c.args.made.now in
    let new = c.settle_merge_early.new.self in
    subst (λ (name : JobId). ServesWhere (KnowsMergeIfDue c.args.self.now (merged_target made) (merged_task made)) c.args.self.now (OfMergeFinish name) (flag_reply c.in-Some.early) new)
    (λ i. record { number = c.id.ensures i; keyspace_id = c.keyspace_id.ensures i })
    (serves_where (KnowsMergeIfDue c.args.self.now (merged_target made) (merged_task made)) c.args.self.now new (OfMergeFinish (record { number = c.id.result; keyspace_id = c.keyspace_id.result })) (flag_reply c.in-Some.early) (c.in-Some.ensures.serves h))

pub returns-in-Some-clause-stale : goal.returns-in-Some-clause-stale
returns-in-Some-clause-stale g c = λ none.
    let stale = c.in-Some.ensures.stale (ap (λ (job : JobId). is_merging c.args.self.now.memory.trees job) (λ i. record { number = c.id.ensures i; keyspace_id = c.keyspace_id.ensures i }) ∙ none) in
    let told : Some c.in-Some.early ≡ Some (Ok false) = stale.0 in
    (cc, stale.1)

pub merge-requires : goal.merge-requires
merge-requires g c =
    let may = may_go_on c.args.self.now c.settle_merge_early.new.self c.args.made.now c.id.result c.keyspace_id.result c.id.ensures c.keyspace_id.ensures c.in_default.ensures.due in
    record { living = may.living; out = may.out }

pub returns-in_err-merge-clause-serves : goal.returns-in_err-merge-clause-serves
returns-in_err-merge-clause-serves g c = λ h.
    let made = c.args.made.now in
    let due = c.in_default.ensures.due in
    let may = may_go_on c.args.self.now c.settle_merge_early.new.self made c.id.result c.keyspace_id.result c.id.ensures c.keyspace_id.ensures due in
    let is : c.from_residual.result ≡ Err c.in_err-merge.field-0.0 = search rules in
    if_due c.args.self.now c.settle_merge_early.new.self c.merge.new.self made (flag_reply c.from_residual.result) due.2 (may.out, may.living)
    (subst (λ (r : Result Bool Error). ServesWhere (λ s. KnowsMerge s (merged_target made) (merged_task made)) c.settle_merge_early.new.self (finishing made) (flag_reply r) c.merge.new.self) (sym is)
    (finished_serves (IsTrue g.D.Disk.honest) c.settle_merge_early.new.self c.merge.new.self made may (Err c.in_err-merge.field-0.0) c.in_err-merge.ensures.merges h))

pub returns-in_err-merge-clause-owes : goal.returns-in_err-merge-clause-owes
returns-in_err-merge-clause-owes g c =
    let made = c.args.made.now in
    let due = c.in_default.ensures.due in
    let may = may_go_on c.args.self.now c.settle_merge_early.new.self made c.id.result c.keyspace_id.result c.id.ensures c.keyspace_id.ensures due in
    let is : c.from_residual.result ≡ Err c.in_err-merge.field-0.0 = search rules in
    subst (λ (old : Held). Owes old (finishing made) (flag_reply c.from_residual.result) c.merge.new.self) due.2
    (subst (λ (r : Result Bool Error). Owes c.settle_merge_early.new.self (finishing made) (flag_reply r) c.merge.new.self) (sym is)
    (finished_owes (IsTrue g.D.Disk.honest) c.settle_merge_early.new.self c.merge.new.self made may (Err c.in_err-merge.field-0.0) c.in_err-merge.ensures.merges))

pub returns-in_err-merge-clause-stale : goal.returns-in_err-merge-clause-stale
returns-in_err-merge-clause-stale g c = λ none.
    let made = c.args.made.now in
    let due = c.in_default.ensures.due in
    let may = may_go_on c.args.self.now c.settle_merge_early.new.self made c.id.result c.keyspace_id.result c.id.ensures c.keyspace_id.ensures due in
    absurd (true≢false (sym may.out ∙ ap (λ (h : Held). is_merging h.memory.trees (job_of (merged_task made))) due.2 ∙ none))

pub returns-clause-serves : goal.returns-clause-serves
returns-clause-serves g c = λ h.
    let made = c.args.made.now in
    let due = c.in_default.ensures.due in
    let may = may_go_on c.args.self.now c.settle_merge_early.new.self made c.id.result c.keyspace_id.result c.id.ensures c.keyspace_id.ensures due in
    if_due c.args.self.now c.settle_merge_early.new.self c.merge.new.self made (flag_reply (Ok true)) due.2 (may.out, may.living)
    (finished_serves (IsTrue g.D.Disk.honest) c.settle_merge_early.new.self c.merge.new.self made may (Ok tt) c.in_ok-merge.ensures.merges h)

pub returns-clause-owes : goal.returns-clause-owes
returns-clause-owes g c =
    let made = c.args.made.now in
    let due = c.in_default.ensures.due in
    let may = may_go_on c.args.self.now c.settle_merge_early.new.self made c.id.result c.keyspace_id.result c.id.ensures c.keyspace_id.ensures due in
    subst (λ (old : Held). Owes old (finishing made) (flag_reply (Ok true)) c.merge.new.self) due.2
    (finished_owes (IsTrue g.D.Disk.honest) c.settle_merge_early.new.self c.merge.new.self made may (Ok tt) c.in_ok-merge.ensures.merges)

pub returns-clause-stale : goal.returns-clause-stale
returns-clause-stale g c = λ none.
    let made = c.args.made.now in
    let due = c.in_default.ensures.due in
    let may = may_go_on c.args.self.now c.settle_merge_early.new.self made c.id.result c.keyspace_id.result c.id.ensures c.keyspace_id.ensures due in
    absurd (true≢false (sym may.out ∙ ap (λ (h : Held). is_merging h.memory.trees (job_of (merged_task made))) due.2 ∙ none))
