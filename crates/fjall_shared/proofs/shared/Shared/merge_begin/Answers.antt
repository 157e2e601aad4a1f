use Rattle.std.proofs.Common.{◌∙◌, ◌∷◌, ◌++◌, [], List, Err, None, Ok, Option, Some, ap, refl, subst, sym}
use Rattle.std.specs.Prelude.{IfSome}
use Rattle.fjall_history.specs.declared.reply.Reply.{Reply}
use Rattle.fjall_history.specs.declared.reply.Reply.TheVariants.{Began, Refused}
use Rattle.fjall_jobs.specs.declared.merge_job.MergeJob.{MergeJob}
use Rattle.fjall_jobs.specs.Merges.{merge_target, merge_task}
use Rattle.fjall_machine.specs.Machine.{merge_out}
use Rattle.fjall_machine.specs.Merging.{KnowsMerge}
use Rattle.fjall_machine.specs.Shapes.{OfMergeBegin}
use Rattle.fjall_machine.specs.declared.merge_kind.MergeKind.TheVariants.{Due}
use Rattle.fjall_core.specs.Holding.{Held}
use Rattle.fjall_core.specs.CoreStanding.{Owes, ReadsOn, Serves, StandsFor, merge_job_reply, job_of, no_job_reply}
use Rattle.fjall_shared.specs.Labels.{Label, merge_label}
use Rattle.fjall_shared.specs.Does.{MakesCall}
use Rattle.fjall_shared.specs.Locked.{IsSettled, Locked}
use Rattle.fjall_shared.proofs.Jobs.{merge_makes, merge_settles}
use Rattle.fjall_shared.proofs.shared.Shared.merge_begin.Goals as goal

pub returns-in-Ok-clause-makes : goal.returns-in-Ok-clause-makes
returns-in-Ok-clause-makes g c =
    let old : Locked = record { core = c.self.inside.core.engine; kept = c.self.inside.core.transactions; seat = c.self.inside.seat; flushes = c.self.inside.flushes.items; merges = c.self.inside.merges.items } in
    subst (λ (l : Locked). MakesCall g.D.Disk.honest l (OfMergeBegin Due c.args.id) (Began None) (record old { core = old.core; merges = c.blank_place.new.jobs.items })) c.self.view_is
    (subst (λ (jobs : List Label). MakesCall g.D.Disk.honest old (OfMergeBegin Due c.args.id) (Began None) (record old { core = old.core; merges = jobs })) (sym c.blank_place.ensures.same) (merge_makes g.D.Disk.honest old old.core Due c.args.id (Ok None) c.self.invariant.1 (subst (λ (x : Held × Reply). Owes x.0 (OfMergeBegin Due c.args.id) x.1 x.0) (λ i. (c.deref.ensures i, (ap no_job_reply c.in-Ok.is) i)) c.merge_begin_without_memory.ensures.owes) (λ is. subst (λ (x : Held × Reply). Serves x.0 (OfMergeBegin Due c.args.id) x.1 x.0) (λ i. (c.deref.ensures i, (ap no_job_reply c.in-Ok.is) i)) (c.merge_begin_without_memory.ensures.serves is)) (λ is s stands reads. tt) old refl))

pub returns-in-Err-clause-makes : goal.returns-in-Err-clause-makes
returns-in-Err-clause-makes g c =
    let old : Locked = record { core = c.self.inside.core.engine; kept = c.self.inside.core.transactions; seat = c.self.inside.seat; flushes = c.self.inside.flushes.items; merges = c.self.inside.merges.items } in
    subst (λ (l : Locked). MakesCall g.D.Disk.honest l (OfMergeBegin Due c.args.id) (Refused c.in-Err.error) (record old { core = old.core; merges = c.blank_place.new.jobs.items })) c.self.view_is
    (subst (λ (jobs : List Label). MakesCall g.D.Disk.honest old (OfMergeBegin Due c.args.id) (Refused c.in-Err.error) (record old { core = old.core; merges = jobs })) (sym c.blank_place.ensures.same) (merge_makes g.D.Disk.honest old old.core Due c.args.id (Err c.in-Err.error) c.self.invariant.1 (subst (λ (x : Held × Reply). Owes x.0 (OfMergeBegin Due c.args.id) x.1 x.0) (λ i. (c.deref.ensures i, (ap no_job_reply c.in-Err.is) i)) c.merge_begin_without_memory.ensures.owes) (λ is. subst (λ (x : Held × Reply). Serves x.0 (OfMergeBegin Due c.args.id) x.1 x.0) (λ i. (c.deref.ensures i, (ap no_job_reply c.in-Err.is) i)) (c.merge_begin_without_memory.ensures.serves is)) (λ is s stands reads. tt) old refl))

pub invariant_of-self-in-Ok-None : goal.invariant_of-self-in-Ok-None
invariant_of-self-in-Ok-None g c =
    let old : Locked = record { core = c.self.inside.core.engine; kept = c.self.inside.core.transactions; seat = c.self.inside.seat; flushes = c.self.inside.flushes.items; merges = c.self.inside.merges.items } in (
      c.self.invariant.0,
      subst (λ (jobs : List Label). IsSettled g.D.Disk.honest (record old { core = c.merge_begin.new.self; merges = jobs })) (sym c.blank_place.ensures.same) (merge_settles g.D.Disk.honest old c.merge_begin.new.self Due c.args.id (Ok None) c.self.invariant.1 (subst (λ (x : Held × Reply). Owes x.0 (OfMergeBegin Due c.args.id) x.1 c.merge_begin.new.self) (λ i. (c.deref_mut.ensures.value i, (ap merge_job_reply (c.in-Ok-None.is ∙ ap Ok c.in-Ok-None.field-0-is)) i)) c.merge_begin.ensures.owes) (λ is. subst (λ (x : Held × Reply). Serves x.0 (OfMergeBegin Due c.args.id) x.1 c.merge_begin.new.self) (λ i. (c.deref_mut.ensures.value i, (ap merge_job_reply (c.in-Ok-None.is ∙ ap Ok c.in-Ok-None.field-0-is)) i)) (c.merge_begin.ensures.serves is)) (λ is s stands reads. tt)),
    )

pub returns-in-Ok-None-clause-makes : goal.returns-in-Ok-None-clause-makes
returns-in-Ok-None-clause-makes g c =
    let old : Locked = record { core = c.self.inside.core.engine; kept = c.self.inside.core.transactions; seat = c.self.inside.seat; flushes = c.self.inside.flushes.items; merges = c.self.inside.merges.items } in
    subst (λ (l : Locked). MakesCall g.D.Disk.honest l (OfMergeBegin Due c.args.id) (Began None) (record old { core = c.merge_begin.new.self; merges = c.blank_place.new.jobs.items })) c.self.view_is
    (subst (λ (jobs : List Label). MakesCall g.D.Disk.honest old (OfMergeBegin Due c.args.id) (Began None) (record old { core = c.merge_begin.new.self; merges = jobs })) (sym c.blank_place.ensures.same) (merge_makes g.D.Disk.honest old c.merge_begin.new.self Due c.args.id (Ok None) c.self.invariant.1 (subst (λ (x : Held × Reply). Owes x.0 (OfMergeBegin Due c.args.id) x.1 c.merge_begin.new.self) (λ i. (c.deref_mut.ensures.value i, (ap merge_job_reply (c.in-Ok-None.is ∙ ap Ok c.in-Ok-None.field-0-is)) i)) c.merge_begin.ensures.owes) (λ is. subst (λ (x : Held × Reply). Serves x.0 (OfMergeBegin Due c.args.id) x.1 c.merge_begin.new.self) (λ i. (c.deref_mut.ensures.value i, (ap merge_job_reply (c.in-Ok-None.is ∙ ap Ok c.in-Ok-None.field-0-is)) i)) (c.merge_begin.ensures.serves is)) (λ is s stands reads. tt) old refl))

pub invariant_of-self-in-Err-merge_begin : goal.invariant_of-self-in-Err-merge_begin
invariant_of-self-in-Err-merge_begin g c =
    let old : Locked = record { core = c.self.inside.core.engine; kept = c.self.inside.core.transactions; seat = c.self.inside.seat; flushes = c.self.inside.flushes.items; merges = c.self.inside.merges.items } in (
      c.self.invariant.0,
      subst (λ (jobs : List Label). IsSettled g.D.Disk.honest (record old { core = c.merge_begin.new.self; merges = jobs })) (sym c.blank_place.ensures.same) (merge_settles g.D.Disk.honest old c.merge_begin.new.self Due c.args.id (Err c.in-Err-merge_begin.error) c.self.invariant.1 (subst (λ (x : Held × Reply). Owes x.0 (OfMergeBegin Due c.args.id) x.1 c.merge_begin.new.self) (λ i. (c.deref_mut.ensures.value i, (ap merge_job_reply c.in-Err-merge_begin.is) i)) c.merge_begin.ensures.owes) (λ is. subst (λ (x : Held × Reply). Serves x.0 (OfMergeBegin Due c.args.id) x.1 c.merge_begin.new.self) (λ i. (c.deref_mut.ensures.value i, (ap merge_job_reply c.in-Err-merge_begin.is) i)) (c.merge_begin.ensures.serves is)) (λ is s stands reads. tt)),
    )

pub returns-in-Err-merge_begin-clause-makes : goal.returns-in-Err-merge_begin-clause-makes
returns-in-Err-merge_begin-clause-makes g c =
    let old : Locked = record { core = c.self.inside.core.engine; kept = c.self.inside.core.transactions; seat = c.self.inside.seat; flushes = c.self.inside.flushes.items; merges = c.self.inside.merges.items } in
    subst (λ (l : Locked). MakesCall g.D.Disk.honest l (OfMergeBegin Due c.args.id) (Refused c.in-Err-merge_begin.error) (record old { core = c.merge_begin.new.self; merges = c.blank_place.new.jobs.items })) c.self.view_is
    (subst (λ (jobs : List Label). MakesCall g.D.Disk.honest old (OfMergeBegin Due c.args.id) (Refused c.in-Err-merge_begin.error) (record old { core = c.merge_begin.new.self; merges = jobs })) (sym c.blank_place.ensures.same) (merge_makes g.D.Disk.honest old c.merge_begin.new.self Due c.args.id (Err c.in-Err-merge_begin.error) c.self.invariant.1 (subst (λ (x : Held × Reply). Owes x.0 (OfMergeBegin Due c.args.id) x.1 c.merge_begin.new.self) (λ i. (c.deref_mut.ensures.value i, (ap merge_job_reply c.in-Err-merge_begin.is) i)) c.merge_begin.ensures.owes) (λ is. subst (λ (x : Held × Reply). Serves x.0 (OfMergeBegin Due c.args.id) x.1 c.merge_begin.new.self) (λ i. (c.deref_mut.ensures.value i, (ap merge_job_reply c.in-Err-merge_begin.is) i)) (c.merge_begin.ensures.serves is)) (λ is s stands reads. tt) old refl))

pub invariant_of-self-2 : goal.invariant_of-self-2
invariant_of-self-2 g c =
    let old : Locked = record { core = c.self.inside.core.engine; kept = c.self.inside.core.transactions; seat = c.self.inside.seat; flushes = c.self.inside.flushes.items; merges = c.self.inside.merges.items } in (
      c.self.invariant.0,
      subst (λ (jobs : List Label). IsSettled g.D.Disk.honest (record old { core = c.merge_begin.new.self; merges = jobs })) (sym (c.push_reserved.ensures.items ∙ (λ i. c.blank_place.ensures.same i ++ c.begin-out.ensures.kept i ∷ []))) (merge_settles g.D.Disk.honest old c.merge_begin.new.self Due c.args.id (Ok (Some (merge_label c.in-Ok-Some.job))) c.self.invariant.1 (subst (λ (x : Held × Reply). Owes x.0 (OfMergeBegin Due c.args.id) x.1 c.merge_begin.new.self) (λ i. (c.deref_mut.ensures.value i, (ap merge_job_reply (c.in-Ok-Some.is ∙ ap Ok c.in-Ok-Some.field-0-is)) i)) c.merge_begin.ensures.owes) (λ is. subst (λ (x : Held × Reply). Serves x.0 (OfMergeBegin Due c.args.id) x.1 c.merge_begin.new.self) (λ i. (c.deref_mut.ensures.value i, (ap merge_job_reply (c.in-Ok-Some.is ∙ ap Ok c.in-Ok-Some.field-0-is)) i)) (c.merge_begin.ensures.serves is)) (λ is s stands reads. subst (λ (o : Option MergeJob). IfSome o (λ job. KnowsMerge (merge_out s c.args.id) (merge_target job) (merge_task job))) c.in-Ok-Some.field-0-is (c.in-Ok-Some.ensures.knows is s (subst (λ (h : Held). StandsFor h s) (sym c.deref_mut.ensures.value) stands) (subst (λ (h : Held). ReadsOn h s) (sym c.deref_mut.ensures.value) reads)))),
    )

pub returns-clause-makes : goal.returns-clause-makes
returns-clause-makes g c =
    let old : Locked = record { core = c.self.inside.core.engine; kept = c.self.inside.core.transactions; seat = c.self.inside.seat; flushes = c.self.inside.flushes.items; merges = c.self.inside.merges.items } in
    subst (λ (l : Locked). MakesCall g.D.Disk.honest l (OfMergeBegin Due c.args.id) (Began (Some (job_of c.begin-out.result.1.task))) (record old { core = c.merge_begin.new.self; merges = c.push_reserved.new.self.items })) c.self.view_is
    (subst (λ (jobs : List Label). MakesCall g.D.Disk.honest old (OfMergeBegin Due c.args.id) (Began (Some (job_of c.begin-out.result.1.task))) (record old { core = c.merge_begin.new.self; merges = jobs })) (sym (c.push_reserved.ensures.items ∙ (λ i. c.blank_place.ensures.same i ++ c.begin-out.ensures.kept i ∷ [])))
    (subst (λ (l : Label). MakesCall g.D.Disk.honest old (OfMergeBegin Due c.args.id) (Began (Some (job_of l.task))) (record old { core = c.merge_begin.new.self; merges = old.merges ++ (merge_label c.in-Ok-Some.job) ∷ [] })) (sym c.begin-out.ensures.begun)
    (merge_makes g.D.Disk.honest old c.merge_begin.new.self Due c.args.id (Ok (Some (merge_label c.in-Ok-Some.job))) c.self.invariant.1 (subst (λ (x : Held × Reply). Owes x.0 (OfMergeBegin Due c.args.id) x.1 c.merge_begin.new.self) (λ i. (c.deref_mut.ensures.value i, (ap merge_job_reply (c.in-Ok-Some.is ∙ ap Ok c.in-Ok-Some.field-0-is)) i)) c.merge_begin.ensures.owes) (λ is. subst (λ (x : Held × Reply). Serves x.0 (OfMergeBegin Due c.args.id) x.1 c.merge_begin.new.self) (λ i. (c.deref_mut.ensures.value i, (ap merge_job_reply (c.in-Ok-Some.is ∙ ap Ok c.in-Ok-Some.field-0-is)) i)) (c.merge_begin.ensures.serves is)) (λ is s stands reads. subst (λ (o : Option MergeJob). IfSome o (λ job. KnowsMerge (merge_out s c.args.id) (merge_target job) (merge_task job))) c.in-Ok-Some.field-0-is (c.in-Ok-Some.ensures.knows is s (subst (λ (h : Held). StandsFor h s) (sym c.deref_mut.ensures.value) stands) (subst (λ (h : Held). ReadsOn h s) (sym c.deref_mut.ensures.value) reads))) old refl)))
