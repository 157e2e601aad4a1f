use Rattle.std.proofs.Common.{◌≡◌, ◌⊎◌, ◌≤◌, OnErr, inl, Bool, true, false, IsTrue, Option, Some, Result, rules, arith, refl, sym, ap, subst, ◌∙◌, Ok, Err}
use Rattle.std.proofs.lemmas.Bool.{true≢false}
use Rattle.fjall_base.specs.Disk.{Meaning}
use Rattle.fjall_base.specs.declared.error.Error.{Error}
use Rattle.fjall_history.specs.declared.job.JobId.{JobId}
use Rattle.fjall_jobs.specs.Made.{flushed_task}
use Rattle.fjall_machine.specs.Machine.{is_flushing}
use Rattle.fjall_machine.specs.Remembered.{KnowsTask}
use Rattle.fjall_machine.specs.Shapes.{OfFlushFinish}
use Rattle.fjall_engine.specs.Holding.{Held}
use Rattle.fjall_engine.specs.Standing.{Owes, Serves, flag_reply, job_of}
use Rattle.fjall_engine.proofs.FinishedFlushes.{finished_owes, finished_serves, finishing, may_go_on, due_there}
use Rattle.fjall_engine.proofs.KeptJobs.{flush_known}
use Rattle.fjall_engine.proofs.engine.Engine.settle.Goals as goal

either_way : (r : Result Bool Error) (P : Type 0) → P → OnErr r P
either_way (Ok _) P is = tt
either_way (Err _) P is = is

-- ---- it was settled early

pub returns-in-Some-clause-serves : goal.returns-in-Some-clause-serves
returns-in-Some-clause-serves g c = λ h known.
    subst (λ (name : JobId). Serves c.args.self.now (OfFlushFinish name) (flag_reply c.in-Some.early) c.settle_early.new.self)
    (λ i. record { number = c.id.ensures i; keyspace_id = c.keyspace_id.ensures i }) (c.in-Some.ensures.serves h)

pub returns-in-Some-clause-owes : goal.returns-in-Some-clause-owes
returns-in-Some-clause-owes g c = λ known.
    subst (λ (name : JobId). Owes c.args.self.now (OfFlushFinish name) (flag_reply c.in-Some.early) c.settle_early.new.self)
    (λ i. record { number = c.id.ensures i; keyspace_id = c.keyspace_id.ensures i }) c.in-Some.ensures.owes

pub returns-in-Some-clause-stale : goal.returns-in-Some-clause-stale
returns-in-Some-clause-stale g c = λ none.
    let named : JobId = record { number = c.id.result; keyspace_id = c.keyspace_id.result } in
    let stale = c.in-Some.ensures.stale (ap (λ (job : JobId). is_flushing c.args.self.now.memory.trees job) (λ i. record { number = c.id.ensures i; keyspace_id = c.keyspace_id.ensures i }) ∙ none) in
    let told : Some c.in-Some.early ≡ Some (Ok false) = stale.0 in
    (cc, stale.1)

pub returns-in-Some-clause-later : goal.returns-in-Some-clause-later
returns-in-Some-clause-later g c = let same = ap (λ (d : Meaning). d.faults) c.in-Some.ensures.disk in omega (arith, same)

pub returns-in-Some-clause-poisons : goal.returns-in-Some-clause-poisons
returns-in-Some-clause-poisons g c = either_way c.in-Some.early ((c.settle_early.new.self.disk ≡ c.args.self.now.disk) ⊎ (c.settle_early.new.self.memory.poisoned ≡ true)) (inl c.in-Some.ensures.disk)

pub returns-in-Some-clause-keeps : goal.returns-in-Some-clause-keeps
returns-in-Some-clause-keeps g c =
    flush_known c.args.self.now c.settle_early.new.self (OfFlushFinish (record { number = c.id.result; keyspace_id = c.keyspace_id.result })) (flag_reply c.in-Some.early) c.in-Some.ensures.owes

-- ---- it is finished

pub finish-requires : goal.finish-requires
finish-requires g c =
    let there = due_there c.args.self.now c.settle_early.new.self c.args.made.now c.id.result c.keyspace_id.result c.id.ensures c.keyspace_id.ensures c.in_default.ensures.due in
    record { living = there.0; out = there.1 }

pub returns-in_err-finish-clause-serves : goal.returns-in_err-finish-clause-serves
returns-in_err-finish-clause-serves g c = λ h known.
    let made = c.args.made.now in
    let due = c.in_default.ensures.due in
    let may = may_go_on c.args.self.now c.settle_early.new.self made c.id.result c.keyspace_id.result c.id.ensures c.keyspace_id.ensures due known in
    let is : c.from_residual.result ≡ Err c.in_err-finish.field-0.0 = search rules in
    subst (λ (old : Held). Serves old (finishing made) (flag_reply c.from_residual.result) c.finish.new.self) due.2
    (subst (λ (r : Result Bool Error). Serves c.settle_early.new.self (finishing made) (flag_reply r) c.finish.new.self) (sym is)
    (finished_serves (IsTrue g.D.Disk.honest) c.settle_early.new.self c.finish.new.self made may (Err c.in_err-finish.field-0.0) (c.in_err-finish.ensures.finishes may.out) h))

pub returns-in_err-finish-clause-owes : goal.returns-in_err-finish-clause-owes
returns-in_err-finish-clause-owes g c = λ known.
    let made = c.args.made.now in
    let due = c.in_default.ensures.due in
    let may = may_go_on c.args.self.now c.settle_early.new.self made c.id.result c.keyspace_id.result c.id.ensures c.keyspace_id.ensures due known in
    let is : c.from_residual.result ≡ Err c.in_err-finish.field-0.0 = search rules in
    subst (λ (old : Held). Owes old (finishing made) (flag_reply c.from_residual.result) c.finish.new.self) due.2
    (subst (λ (r : Result Bool Error). Owes c.settle_early.new.self (finishing made) (flag_reply r) c.finish.new.self) (sym is)
    (finished_owes (IsTrue g.D.Disk.honest) c.settle_early.new.self c.finish.new.self made may (Err c.in_err-finish.field-0.0) (c.in_err-finish.ensures.finishes may.out)))

pub returns-in_err-finish-clause-stale : goal.returns-in_err-finish-clause-stale
returns-in_err-finish-clause-stale g c = λ none.
    let there = due_there c.args.self.now c.settle_early.new.self c.args.made.now c.id.result c.keyspace_id.result c.id.ensures c.keyspace_id.ensures c.in_default.ensures.due in
    let made = c.args.made.now in
    absurd (true≢false (sym there.1 ∙ ap (λ (h : Held). is_flushing h.memory.trees (job_of (flushed_task made))) c.in_default.ensures.due.2 ∙ none))

pub returns-in_err-finish-clause-later : goal.returns-in_err-finish-clause-later
returns-in_err-finish-clause-later g c = subst (λ (old : Held). old.disk.faults ≤ c.finish.new.self.disk.faults) c.in_default.ensures.due.2 c.in_err-finish.ensures.later

pub returns-in_err-finish-clause-poisons : goal.returns-in_err-finish-clause-poisons
returns-in_err-finish-clause-poisons g c =
    let is : c.from_residual.result ≡ Err c.in_err-finish.field-0.0 = search rules in
    subst (λ (r : Result Bool Error). OnErr r ((c.finish.new.self.disk ≡ c.args.self.now.disk) ⊎ (c.finish.new.self.memory.poisoned ≡ true))) (sym is)
    (subst (λ (old : Held). (c.finish.new.self.disk ≡ old.disk) ⊎ (c.finish.new.self.memory.poisoned ≡ true)) c.in_default.ensures.due.2 c.in_err-finish.ensures.poisons)

pub returns-in_err-finish-clause-keeps : goal.returns-in_err-finish-clause-keeps
returns-in_err-finish-clause-keeps g c = λ task known. c.in_err-finish.ensures.keeps task (subst (λ (h : Held). KnowsTask h.memory task) (sym c.in_default.ensures.due.2) known)

pub returns-clause-serves : goal.returns-clause-serves
returns-clause-serves g c = λ h known.
    let made = c.args.made.now in
    let due = c.in_default.ensures.due in
    let may = may_go_on c.args.self.now c.settle_early.new.self made c.id.result c.keyspace_id.result c.id.ensures c.keyspace_id.ensures due known in
    subst (λ (old : Held). Serves old (finishing made) (flag_reply (Ok true)) c.finish.new.self) due.2
    (finished_serves (IsTrue g.D.Disk.honest) c.settle_early.new.self c.finish.new.self made may (Ok tt) (c.in_ok-finish.ensures.finishes may.out) h)

pub returns-clause-owes : goal.returns-clause-owes
returns-clause-owes g c = λ known.
    let made = c.args.made.now in
    let due = c.in_default.ensures.due in
    let may = may_go_on c.args.self.now c.settle_early.new.self made c.id.result c.keyspace_id.result c.id.ensures c.keyspace_id.ensures due known in
    subst (λ (old : Held). Owes old (finishing made) (flag_reply (Ok true)) c.finish.new.self) due.2
    (finished_owes (IsTrue g.D.Disk.honest) c.settle_early.new.self c.finish.new.self made may (Ok tt) (c.in_ok-finish.ensures.finishes may.out))

pub returns-clause-stale : goal.returns-clause-stale
returns-clause-stale g c = λ none.
    let there = due_there c.args.self.now c.settle_early.new.self c.args.made.now c.id.result c.keyspace_id.result c.id.ensures c.keyspace_id.ensures c.in_default.ensures.due in
    let made = c.args.made.now in
    absurd (true≢false (sym there.1 ∙ ap (λ (h : Held). is_flushing h.memory.trees (job_of (flushed_task made))) c.in_default.ensures.due.2 ∙ none))

pub returns-clause-later : goal.returns-clause-later
returns-clause-later g c = subst (λ (old : Held). old.disk.faults ≤ c.finish.new.self.disk.faults) c.in_default.ensures.due.2 c.in_ok-finish.ensures.later

pub returns-clause-keeps : goal.returns-clause-keeps
returns-clause-keeps g c = λ task known. c.in_ok-finish.ensures.keeps task (subst (λ (h : Held). KnowsTask h.memory task) (sym c.in_default.ensures.due.2) known)
