use Rattle.std.proofs.Common.{◌<◌, ◌-◌, ◌^◌, Option, ap, sym, refl, subst, ◌≡◌, ◌∙◌}
use Rattle.std.specs.Prelude.{IfSome}
use Rattle.fjall_jobs.specs.declared.flush_job.FlushJob.{FlushJob}
use Rattle.fjall_tree.specs.Jobs.{flush_begun}
use Rattle.fjall_trees.specs.Forests.{altered_at}
use Rattle.fjall_trees.specs.Views.{forest_of}
use Rattle.fjall_machine.specs.Remembered.{Remembered, flush_out_in_memory}
use Rattle.fjall_state.proofs.Inside.{memory_in}
use Rattle.fjall_machine.proofs.Flushing.{out_is_lawful}
use Rattle.fjall_machine.proofs.Lawful.{alike}
use Rattle.fjall_state.proofs.engine_state.EngineState.begin_flush.Goals as goal

pub invariant_of-self-in-Some : goal.invariant_of-self-in-Some
invariant_of-self-in-Some c =
    let a = c.self.inside in
    let id = c.args.id in
    let m = memory_in a in
    let small = subst (λ (k : Remembered). k.next_job < 2 ^ 64 - 1) (sym c.self.view_is) c.requires.numbered in
    let trees : forest_of c.begin_flush.new.self ≡ altered_at id (flush_begun a.next_job a.tickets.tickets.watermark) (forest_of a.trees) =
    subst (λ (o : Option FlushJob). IfSome o (λ _. forest_of c.begin_flush.new.self ≡ altered_at id (flush_begun a.next_job c.watermark-watermark.result) (forest_of a.trees))) c.in-Some.is c.in_ok-job.ensures.begun
    ∙ ap (λ w. altered_at id (flush_begun a.next_job w) (forest_of a.trees)) c.watermark-watermark.ensures.value in
    alike (flush_out_in_memory id m) _ (out_is_lawful id m c.self.invariant small) refl trees refl refl refl refl
