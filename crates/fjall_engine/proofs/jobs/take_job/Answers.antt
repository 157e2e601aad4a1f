use Rattle.std.proofs.Common.{Option, refl, sym, ◌∙◌, ap, subst}
use Rattle.std.specs.List.{position}
use Rattle.fjall_engine.specs.declared.jobs.Job.{Job}
use Rattle.fjall_engine.specs.Jobs.{Finds, is_named}
use Rattle.fjall_engine.proofs.FoundJobs.{none_found, one_found}
use Rattle.fjall_engine.proofs.jobs.take_job.Goals as goal

pub returns-in_err-place-clause-finds : goal.returns-in_err-place-clause-finds
returns-in_err-place-clause-finds c =
    let is = is_named c.args.kind c.args.job in
    let jobs = c.args.jobs.now.items in
    let found = c.place_of.ensures ∙ ap (position is) c.deref.ensures.value in
    subst (λ (left : Option Job). Finds is jobs left jobs) (sym c.from_residual.ensures) (none_found is jobs (sym found ∙ c.in_err-place.was), refl)

pub returns-clause-finds : goal.returns-clause-finds
returns-clause-finds c =
    let is = is_named c.args.kind c.args.job in
    let jobs = c.args.jobs.now.items in
    let found = c.place_of.ensures ∙ ap (position is) c.deref.ensures.value in
    one_found is jobs c.remove.new.self.items c.in_ok-place.place c.remove.result (sym found ∙ c.in_ok-place.was) c.remove.ensures.value c.remove.ensures.by_index.2
