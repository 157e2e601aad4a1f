use Rattle.std.proofs.Common.{◌≡◌, IfOk, IfSome, Result, Option, refl, sym, ◌∙◌, ap, subst}
use Rattle.fjall_base.specs.declared.error.Error.{Error}
use Rattle.fjall_jobs.specs.declared.merge_job.MergeJob.{MergeJob}
use Rattle.fjall_jobs.specs.Merges.{merge_target, merge_task}
use Rattle.fjall_machine.specs.Machine.{merge_out}
use Rattle.fjall_machine.specs.Merging.{KnowsMerge}
use Rattle.fjall_machine.specs.Shapes.{OfMergeBegin}
use Rattle.fjall_engine.specs.Holding.{Held}
use Rattle.fjall_engine.specs.Standing.{Owes, ReadsOn, Serves, StandsFor, begins_merge_in, merge_job_reply}
use Rattle.fjall_engine.proofs.FlushBegins.{begin_due}
use Rattle.fjall_engine.proofs.MergeBegins.{Came, begun_known, begun_owes, begun_serves, no_job_owes, no_job_serves, no_merge_owes, no_merge_serves, shown}
use Rattle.fjall_engine.proofs.ServedCalls.{due_owes, due_serves}
use Rattle.fjall_engine.proofs.engine.Engine.begin_merge.Given.{Over}
use Rattle.fjall_engine.proofs.engine.Engine.begin_merge.Goals as goal
use Rattle.fjall_engine.proofs.engine.Engine.begin_merge.Goals.{in-Err, in-Ok}

-- ---- where no merge begins

pub returns-in-Some-clause-serves : goal.returns-in-Some-clause-serves
returns-in-Some-clause-serves g c = λ h.
    due_serves c.args.self.now (OfMergeBegin c.args.kind c.args.id) c.in-Some.error
    (begin_due _ c.args.self.now c.args.id c.self.view_is c.rotation_refusal.result c.rotation_refusal.ensures ∙ c.in-Some.is)

pub returns-in-Some-clause-owes : goal.returns-in-Some-clause-owes
returns-in-Some-clause-owes g c =
    due_owes c.args.self.now (OfMergeBegin c.args.kind c.args.id) c.in-Some.error
    (begin_due _ c.args.self.now c.args.id c.self.view_is c.rotation_refusal.result c.rotation_refusal.ensures ∙ c.in-Some.is)

pub returns-then-not-begins_merge-clause-serves : goal.returns-then-not-begins_merge-clause-serves
returns-then-not-begins_merge-clause-serves g c = λ h.
    no_merge_serves c.args.self.now c.args.kind c.args.id
    (begin_due _ c.args.self.now c.args.id c.self.view_is c.rotation_refusal.result c.rotation_refusal.ensures ∙ c.in_default.is)
    (ap (λ (core : Held). begins_merge_in core c.args.kind c.args.id) (sym c.self.view_is) ∙ sym c.begins_merge.ensures ∙ c.if-not-begins_merge.true)

pub returns-then-not-begins_merge-clause-owes : goal.returns-then-not-begins_merge-clause-owes
returns-then-not-begins_merge-clause-owes g c =
    no_merge_owes c.args.self.now c.args.kind c.args.id
    (begin_due _ c.args.self.now c.args.id c.self.view_is c.rotation_refusal.result c.rotation_refusal.ensures ∙ c.in_default.is)
    (ap (λ (core : Held). begins_merge_in core c.args.kind c.args.id) (sym c.self.view_is) ∙ sym c.begins_merge.ensures ∙ c.if-not-begins_merge.true)

pub returns-then-are_job_numbers_used_up-clause-serves : goal.returns-then-are_job_numbers_used_up-clause-serves
returns-then-are_job_numbers_used_up-clause-serves g c = λ h.
    no_job_serves c.args.self.now c.args.kind c.args.id
    (begin_due _ c.args.self.now c.args.id c.self.view_is c.rotation_refusal.result c.rotation_refusal.ensures ∙ c.in_default.is)
    (ap (λ (core : Held). begins_merge_in core c.args.kind c.args.id) (sym c.self.view_is) ∙ sym c.begins_merge.ensures ∙ c.if-not-begins_merge.false)
    (ap (λ (core : Held). core.memory.next_job) (sym c.self.view_is) ∙ c.are_job_numbers_used_up.ensures.used c.if-are_job_numbers_used_up.true)

pub returns-then-are_job_numbers_used_up-clause-owes : goal.returns-then-are_job_numbers_used_up-clause-owes
returns-then-are_job_numbers_used_up-clause-owes g c =
    no_job_owes c.args.self.now c.args.kind c.args.id
    (begin_due _ c.args.self.now c.args.id c.self.view_is c.rotation_refusal.result c.rotation_refusal.ensures ∙ c.in_default.is)
    (ap (λ (core : Held). begins_merge_in core c.args.kind c.args.id) (sym c.self.view_is) ∙ sym c.begins_merge.ensures ∙ c.if-not-begins_merge.false)
    (ap (λ (core : Held). core.memory.next_job) (sym c.self.view_is) ∙ c.are_job_numbers_used_up.ensures.used c.if-are_job_numbers_used_up.true)

-- ---- where one begins

-- the core of before, and that of now
old_core : (g : Over) → goal.Joined-begin_merge g → Held
old_core g c =
    let m = g.D.Disk.meaning in
    record { disk = m c.self.inside.disk; journal = c.self.inside.journal; catalog = c.self.inside.catalog; memory = c.self.inside.memory }

new_core : (g : Over) → goal.Joined-begin_merge g → Held
new_core g c =
    let m = g.D.Disk.meaning in
    record { disk = m c.begin_merge.new.disk; journal = c.self.inside.journal; catalog = c.self.inside.catalog; memory = c.begin_merge.new.self }

came : (g : Over) (c : goal.Joined-begin_merge g) → Came g.D.Disk.honest (old_core g c) (new_core g c) c.args.id c.begin_merge.result
unfolding old_core new_core
came g c =
    let on = c.begin_merge.ensures in
    record {
      catalog = refl;
      journal = refl;
      begun = on.begun;
      trees = on.trees;
      named = on.named;
      target = on.target;
      out = λ h entries are. on.out h entries are;
      unchanged = on.unchanged;
      same = on.same;
      reads = λ h entries are. on.reads h entries are;
      refused = λ h entries are. on.refused h entries are;
      cause = on.cause;
      disk = on.disk;
    }

-- what is answered is what came of it
answered : (g : Over) (c : goal.Joined-begin_merge g) → shown c.begin_merge.result ≡ c.match-begin_merge.result
answered g c = elim c.match-begin_merge.branch [ in-Ok w ↦ ap shown w.in-Ok.is ∙ sym w.result-is | in-Err w ↦ ap shown w.in-Err.is ∙ sym w.result-is ]

pub returns-clause-serves : goal.returns-clause-serves
unfolding old_core new_core
returns-clause-serves g c = λ h.
    let old = old_core g c in
    let new = new_core g c in
    let none = begin_due old old c.args.id refl c.rotation_refusal.result c.rotation_refusal.ensures ∙ c.in_default.is in
    let begins = sym c.begins_merge.ensures ∙ c.if-not-begins_merge.false in
    let left = c.are_job_numbers_used_up.ensures.left c.if-are_job_numbers_used_up.false in
    let shape = OfMergeBegin c.args.kind c.args.id in
    subst (λ (o : Held). Serves o shape (merge_job_reply c.match-begin_merge.result) new) c.self.view_is
    (subst (λ (r : Result (Option MergeJob) Error). Serves old shape (merge_job_reply r) new) (answered g c)
    (begun_serves g.D.Disk.honest old new c.args.kind c.args.id none begins left c.begin_merge.result (came g c) h))

pub returns-clause-owes : goal.returns-clause-owes
unfolding old_core new_core
returns-clause-owes g c =
    let old = old_core g c in
    let new = new_core g c in
    let none = begin_due old old c.args.id refl c.rotation_refusal.result c.rotation_refusal.ensures ∙ c.in_default.is in
    let begins = sym c.begins_merge.ensures ∙ c.if-not-begins_merge.false in
    let left = c.are_job_numbers_used_up.ensures.left c.if-are_job_numbers_used_up.false in
    let shape = OfMergeBegin c.args.kind c.args.id in
    subst (λ (o : Held). Owes o shape (merge_job_reply c.match-begin_merge.result) new) c.self.view_is
    (subst (λ (r : Result (Option MergeJob) Error). Owes old shape (merge_job_reply r) new) (answered g c)
    (begun_owes g.D.Disk.honest old new c.args.kind c.args.id none begins left c.begin_merge.result (came g c)))

pub returns-clause-knows : goal.returns-clause-knows
unfolding old_core new_core
returns-clause-knows g c = λ h s stands reads.
    let old = old_core g c in
    let new = new_core g c in
    let none = begin_due old old c.args.id refl c.rotation_refusal.result c.rotation_refusal.ensures ∙ c.in_default.is in
    let begins = sym c.begins_merge.ensures ∙ c.if-not-begins_merge.false in
    let left = c.are_job_numbers_used_up.ensures.left c.if-are_job_numbers_used_up.false in
    subst (λ (r : Result (Option MergeJob) Error). IfOk r (λ job. IfSome job (λ job. KnowsMerge (merge_out s c.args.id) (merge_target job) (merge_task job)))) (answered g c)
    (begun_known g.D.Disk.honest old new c.args.kind c.args.id none begins left c.begin_merge.result (came g c) h s
    (subst (λ (o : Held). StandsFor o s) (sym c.self.view_is) stands) (subst (λ (o : Held). ReadsOn o s) (sym c.self.view_is) reads))
