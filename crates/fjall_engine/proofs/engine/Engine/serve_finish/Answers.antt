use Rattle.std.proofs.Common.{inl, inr, refl, sym, ◌∙◌, ap, subst, ◌++◌, ◌∷◌, [], if◌then◌else◌, Result, Option}
use Rattle.std.specs.Result.{is_ok}
use Rattle.std.specs.declared.alloc.AllocFailed.{AllocFailed}
use Rattle.std.proofs.lemmas.Bool.{true≢false}
use Rattle.fjall_machine.specs.Machine.{State}
use Rattle.fjall_machine.specs.Shapes.{CallShape}
use Rattle.fjall_engine.specs.declared.jobs.Job.{Job}
use Rattle.fjall_engine.specs.Jobs.{IsFlushKnown, IsGivenBack, IsMergeKnown, KnowsMerges, finish_of, is_named, kind_of, name_of}
use Rattle.fjall_engine.specs.Standing.{Owes, ServesWhere}
use Rattle.fjall_engine.proofs.FoundJobs.{at_place, finish_of_named}
use Rattle.fjall_engine.proofs.KeptMerges.{found_known, serves_fewer, unfinished_owes, unfinished_serves}
use Rattle.fjall_engine.proofs.engine.Engine.serve_finish.Goals as goal

pub returns-then-not-is_job_out-clause-serves : goal.returns-then-not-is_job_out-clause-serves
returns-then-not-is_job_out-clause-serves g c = λ _.
    unfinished_serves (λ (s : State). KnowsMerges s c.args.jobs.now.items) c.args.self.now c.args.kind c.args.job (sym c.if-not-is_job_out.ensures)

pub returns-then-not-is_job_out-clause-owes : goal.returns-then-not-is_job_out-clause-owes
returns-then-not-is_job_out-clause-owes g c = unfinished_owes c.args.self.now c.args.kind c.args.job (sym c.if-not-is_job_out.ensures)

pub unreachable-requires : goal.unreachable-requires
unreachable-requires g c = true≢false (sym (c.requires.kept (sym c.if-not-is_job_out.ensures)) ∙ c.in_default.ensures.finds.0)

pub run_and_finish-reply-requires : goal.run_and_finish-reply-requires
run_and_finish-reply-requires g c =
    at_place (λ (kept : Job). IsFlushKnown c.args.self.now.memory kept) c.args.jobs.now.items c.in-Some.ensures.finds.1 c.in-Some.kept c.requires.known c.in-Some.ensures.finds.2

pub returns-in-Some-back-clause-serves : goal.returns-in-Some-back-clause-serves
returns-in-Some-back-clause-serves g c = λ h.
    let old = c.args.self.now in
    let jobs = c.args.jobs.now.items in
    let kept = c.in-Some.kept in
    let r = c.run_and_finish-reply in
    subst (λ (shape : CallShape). ServesWhere (λ s. KnowsMerges s jobs) old shape r.result.0 r.new.self) (finish_of_named c.args.kind c.args.job kept c.in-Some.ensures.finds.0)
    (serves_fewer (λ (s : State). IsMergeKnown s kept) (λ (s : State). KnowsMerges s jobs) old r.new.self (finish_of (kind_of kept) (name_of kept)) r.result.0
    (λ s. found_known s (is_named c.args.kind c.args.job) jobs c.take_job.new.jobs.items kept c.in-Some.ensures.finds) (r.ensures.serves h))

pub returns-in-Some-back-clause-owes : goal.returns-in-Some-back-clause-owes
returns-in-Some-back-clause-owes g c =
    let r = c.run_and_finish-reply in
    subst (λ (shape : CallShape). Owes c.args.self.now shape r.result.0 r.new.self) (finish_of_named c.args.kind c.args.job c.in-Some.kept c.in-Some.ensures.finds.0) r.ensures.owes

pub returns-in-Some-back-clause-keeps : goal.returns-in-Some-back-clause-keeps
returns-in-Some-back-clause-keeps g c =
    let others = c.take_job.new.jobs.items in
    let back = c.in-Some-back.refused in
    let pushed = c.push.ensures.items ∙ ap (λ (r : Result (Unit {0}) (AllocFailed Job)). if is_ok r then others ++ back ∷ [] else others) c.unwrap.ensures in
    let given = subst (λ (o : Option Job). IsGivenBack c.in-Some.kept c.run_and_finish-reply.result.0 o) c.in-Some-back.is c.run_and_finish-reply.ensures.back in
    inr (c.in-Some.kept, others, c.in-Some.ensures.finds, inr (back, pushed, given))

pub returns-in_default-back-clause-serves : goal.returns-in_default-back-clause-serves
returns-in_default-back-clause-serves g c = λ h.
    let old = c.args.self.now in
    let jobs = c.args.jobs.now.items in
    let kept = c.in-Some.kept in
    let r = c.run_and_finish-reply in
    subst (λ (shape : CallShape). ServesWhere (λ s. KnowsMerges s jobs) old shape r.result.0 r.new.self) (finish_of_named c.args.kind c.args.job kept c.in-Some.ensures.finds.0)
    (serves_fewer (λ (s : State). IsMergeKnown s kept) (λ (s : State). KnowsMerges s jobs) old r.new.self (finish_of (kind_of kept) (name_of kept)) r.result.0
    (λ s. found_known s (is_named c.args.kind c.args.job) jobs c.take_job.new.jobs.items kept c.in-Some.ensures.finds) (r.ensures.serves h))

pub returns-in_default-back-clause-owes : goal.returns-in_default-back-clause-owes
returns-in_default-back-clause-owes g c =
    let r = c.run_and_finish-reply in
    subst (λ (shape : CallShape). Owes c.args.self.now shape r.result.0 r.new.self) (finish_of_named c.args.kind c.args.job c.in-Some.kept c.in-Some.ensures.finds.0) r.ensures.owes

pub returns-in_default-back-clause-keeps : goal.returns-in_default-back-clause-keeps
returns-in_default-back-clause-keeps g c =
    let given = subst (λ (o : Option Job). IsGivenBack c.in-Some.kept c.run_and_finish-reply.result.0 o) c.in_default-back.is c.run_and_finish-reply.ensures.back in
    inr (c.in-Some.kept, c.take_job.new.jobs.items, c.in-Some.ensures.finds, inl (refl, given))
