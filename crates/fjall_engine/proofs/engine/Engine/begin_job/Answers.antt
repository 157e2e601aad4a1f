use Rattle.std.proofs.Common.{rules, ◌≡◌, Ok, sym, subst}
use Rattle.fjall_history.specs.declared.reply.Reply.{Reply}
use Rattle.fjall_machine.specs.declared.merge_kind.MergeKind.TheVariants.{Due, Major}
use Rattle.fjall_engine.specs.declared.jobs.JobBegin.{JobBegin}
use Rattle.fjall_engine.specs.declared.jobs.JobBegin.TheVariants as begins
use Rattle.fjall_engine.specs.Jobs.{begin_of, begun_reply}
use Rattle.fjall_engine.specs.Standing.{Serves, merge_job_reply}
use Rattle.fjall_engine.proofs.engine.Engine.begin_job.Goals as goal

pub returns-in_ok-merge_begin-in-Merge-Due-clause-serves : goal.returns-in_ok-merge_begin-in-Merge-Due-clause-serves
returns-in_ok-merge_begin-in-Merge-Due-clause-serves g c = λ h.
    let old = c.args.self.now in
    let new = c.merge_begin.new.self in
    let begin : c.args.begin ≡ begins.Merge Due = search rules in
    let job = c.in_ok-merge_begin-in-Merge-Due.field-0 in
    let told : merge_job_reply (Ok job) ≡ begun_reply (Ok c.map-in-Merge-Due.result) = search rules in
    subst (λ (reply : Reply). Serves old (begin_of c.args.begin c.args.id) reply new) told
    (subst (λ (b : JobBegin). Serves old (begin_of b c.args.id) (merge_job_reply (Ok job)) new) (sym begin) (c.in_ok-merge_begin-in-Merge-Due.ensures.serves h))

pub returns-in_ok-major_begin-in-Merge-Major-clause-serves : goal.returns-in_ok-major_begin-in-Merge-Major-clause-serves
returns-in_ok-major_begin-in-Merge-Major-clause-serves g c = λ h.
    let old = c.args.self.now in
    let new = c.major_begin.new.self in
    let begin : c.args.begin ≡ begins.Merge Major = search rules in
    let job = c.in_ok-major_begin-in-Merge-Major.field-0 in
    let told : merge_job_reply (Ok job) ≡ begun_reply (Ok c.map-in-Merge-Major.result) = search rules in
    subst (λ (reply : Reply). Serves old (begin_of c.args.begin c.args.id) reply new) told
    (subst (λ (b : JobBegin). Serves old (begin_of b c.args.id) (merge_job_reply (Ok job)) new) (sym begin) (c.in_ok-major_begin-in-Merge-Major.ensures.serves h))
