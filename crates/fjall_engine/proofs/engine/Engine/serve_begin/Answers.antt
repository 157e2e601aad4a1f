use Rattle.std.proofs.Common.{◌≡◌, ◌∙◌, sym, ap, ◌++◌, ◌∷◌, [], List, true, if◌then◌else◌, Result, IfSome, None, Some, subst}
use Rattle.std.specs.Result.{is_ok}
use Rattle.std.specs.declared.alloc.AllocFailed.{AllocFailed}
use Rattle.fjall_history.specs.declared.job.JobId.{JobId}
use Rattle.fjall_history.specs.declared.reply.Reply.TheVariants.{Began, Refused}
use Rattle.fjall_machine.specs.Machine.{merge_out}
use Rattle.fjall_engine.specs.declared.jobs.Job.{Job}
use Rattle.fjall_engine.specs.declared.jobs.JobKind.{JobKind}
use Rattle.fjall_engine.specs.Jobs.{IsFlushKnown, IsMergeKnown, KeepsMerges, begin_of, begun_kind, is_named, kind_of, name_of}
use Rattle.fjall_engine.proofs.FoundJobs.{its_own}
use Rattle.fjall_engine.proofs.KeptMerges.{begun_known, merges_stay}
use Rattle.fjall_engine.proofs.engine.Engine.serve_begin.Goals as goal

pub returns-in-Ok-Some-clause-keeps : goal.returns-in-Ok-Some-clause-keeps
returns-in-Ok-Some-clause-keeps g c =
    let jobs = c.args.jobs.now.items in
    let job = c.in-Ok-Some.job in
    let kind : kind_of job ≡ begun_kind c.args.begin = subst (λ o. IfSome o (λ (kept : Job). kind_of kept ≡ begun_kind c.args.begin)) c.in-Ok-Some.field-0-is c.in-Ok-Some.ensures.kind in (
      job,
      c.push.ensures.items ∙ ap (λ (r : Result (Unit {0}) (AllocFailed Job)). if is_ok r then jobs ++ job ∷ [] else jobs) c.unwrap.ensures,
      subst (λ o. IfSome o (λ (kept : Job). IsFlushKnown c.begin_job.new.self.memory kept)) c.in-Ok-Some.field-0-is c.in-Ok-Some.ensures.flush,
      subst (λ (name : JobId). is_named (begun_kind c.args.begin) name job ≡ true) (sym c.name-name.ensures) (subst (λ (k : JobKind). is_named k (name_of job) job ≡ true) kind (its_own job)),
    )

pub returns-in-Ok-Some-clause-merges : goal.returns-in-Ok-Some-clause-merges
returns-in-Ok-Some-clause-merges g c = λ h.
    let old = c.args.self.now in
    let jobs = c.args.jobs.now.items in
    let begin = c.args.begin in
    let job = c.in-Ok-Some.job in
    let kind : kind_of job ≡ begun_kind begin = subst (λ o. IfSome o (λ (kept : Job). kind_of kept ≡ begun_kind begin)) c.in-Ok-Some.field-0-is c.in-Ok-Some.ensures.kind in
    let pushed : c.push.new.self.items ≡ jobs ++ job ∷ [] = c.push.ensures.items ∙ ap (λ (r : Result (Unit {0}) (AllocFailed Job)). if is_ok r then jobs ++ job ∷ [] else jobs) c.unwrap.ensures in
    subst (λ (l : List Job). KeepsMerges old jobs (begin_of begin c.args.id) (Began (Some c.name-name.result)) l) (sym pushed)
    (begun_known old begin c.args.id jobs job c.name-name.result kind
    (λ s stands reads. subst (λ o. IfSome o (λ (kept : Job). IsMergeKnown (merge_out s c.args.id) kept)) c.in-Ok-Some.field-0-is (c.in-Ok-Some.ensures.merge h s stands reads)))

pub returns-in-Ok-None-clause-merges : goal.returns-in-Ok-None-clause-merges
returns-in-Ok-None-clause-merges g c = λ h. merges_stay c.args.self.now c.args.jobs.now.items (begin_of c.args.begin c.args.id) (Began None)

pub returns-in-Err-clause-merges : goal.returns-in-Err-clause-merges
returns-in-Err-clause-merges g c = λ h. merges_stay c.args.self.now c.args.jobs.now.items (begin_of c.args.begin c.args.id) (Refused c.in-Err.error)
