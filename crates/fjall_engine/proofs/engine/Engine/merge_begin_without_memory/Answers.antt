use Rattle.std.proofs.Common.{◌<◌, ◌^◌, ◌-◌, sym, ◌∙◌, ap, subst}
use Rattle.fjall_machine.specs.Shapes.{OfMergeBegin}
use Rattle.fjall_engine.specs.Holding.{Held}
use Rattle.fjall_engine.specs.Standing.{begins_merge_in}
use Rattle.fjall_engine.proofs.FlushBegins.{begin_due}
use Rattle.fjall_engine.proofs.MergeBegins.{no_job_owes, no_job_serves, no_memory_owes, no_memory_serves, no_merge_owes, no_merge_serves}
use Rattle.fjall_engine.proofs.ServedCalls.{due_owes, due_serves}
use Rattle.fjall_engine.proofs.engine.Engine.merge_begin_without_memory.Goals as goal

pub returns-in-Some-clause-serves : goal.returns-in-Some-clause-serves
returns-in-Some-clause-serves g c = λ h.
    due_serves c.args.self.now (OfMergeBegin c.args.kind c.args.id) c.in-Some.error
    (begin_due _ c.args.self.now c.args.id c.self.view_is c.rotation_refusal.result c.rotation_refusal.ensures ∙ c.in-Some.is)

pub returns-then-not-begins_merge-clause-serves : goal.returns-then-not-begins_merge-clause-serves
returns-then-not-begins_merge-clause-serves g c = λ h.
    no_merge_serves c.args.self.now c.args.kind c.args.id
    (begin_due _ c.args.self.now c.args.id c.self.view_is c.rotation_refusal.result c.rotation_refusal.ensures ∙ c.in_default.is)
    (ap (λ (core : Held). begins_merge_in core c.args.kind c.args.id) (sym c.self.view_is) ∙ sym c.begins_merge.ensures ∙ c.if-not-begins_merge.true)

pub returns-then-are_job_numbers_used_up-clause-serves : goal.returns-then-are_job_numbers_used_up-clause-serves
returns-then-are_job_numbers_used_up-clause-serves g c = λ h.
    no_job_serves c.args.self.now c.args.kind c.args.id
    (begin_due _ c.args.self.now c.args.id c.self.view_is c.rotation_refusal.result c.rotation_refusal.ensures ∙ c.in_default.is)
    (ap (λ (core : Held). begins_merge_in core c.args.kind c.args.id) (sym c.self.view_is) ∙ sym c.begins_merge.ensures ∙ c.if-not-begins_merge.false)
    (ap (λ (core : Held). core.memory.next_job) (sym c.self.view_is) ∙ c.are_job_numbers_used_up.ensures.used c.if-are_job_numbers_used_up.true)

pub returns-clause-serves : goal.returns-clause-serves
returns-clause-serves g c = λ h.
    no_memory_serves c.args.self.now c.args.kind c.args.id
    (begin_due _ c.args.self.now c.args.id c.self.view_is c.rotation_refusal.result c.rotation_refusal.ensures ∙ c.in_default.is)
    (ap (λ (core : Held). begins_merge_in core c.args.kind c.args.id) (sym c.self.view_is) ∙ sym c.begins_merge.ensures ∙ c.if-not-begins_merge.false)
    (subst (λ (core : Held). core.memory.next_job < 2 ^ 64 - 1) c.self.view_is (c.are_job_numbers_used_up.ensures.left c.if-are_job_numbers_used_up.false))

pub returns-in-Some-clause-owes : goal.returns-in-Some-clause-owes
returns-in-Some-clause-owes g c =
    due_owes c.args.self.now (OfMergeBegin c.args.kind c.args.id) c.in-Some.error
    (begin_due _ c.args.self.now c.args.id c.self.view_is c.rotation_refusal.result c.rotation_refusal.ensures ∙ c.in-Some.is)

pub returns-then-not-begins_merge-clause-owes : goal.returns-then-not-begins_merge-clause-owes
returns-then-not-begins_merge-clause-owes g c =
    no_merge_owes c.args.self.now c.args.kind c.args.id
    (begin_due _ c.args.self.now c.args.id c.self.view_is c.rotation_refusal.result c.rotation_refusal.ensures ∙ c.in_default.is)
    (ap (λ (core : Held). begins_merge_in core c.args.kind c.args.id) (sym c.self.view_is) ∙ sym c.begins_merge.ensures ∙ c.if-not-begins_merge.true)

pub returns-then-are_job_numbers_used_up-clause-owes : goal.returns-then-are_job_numbers_used_up-clause-owes
returns-then-are_job_numbers_used_up-clause-owes g c =
    no_job_owes c.args.self.now c.args.kind c.args.id
    (begin_due _ c.args.self.now c.args.id c.self.view_is c.rotation_refusal.result c.rotation_refusal.ensures ∙ c.in_default.is)
    (ap (λ (core : Held). begins_merge_in core c.args.kind c.args.id) (sym c.self.view_is) ∙ sym c.begins_merge.ensures ∙ c.if-not-begins_merge.false)
    (ap (λ (core : Held). core.memory.next_job) (sym c.self.view_is) ∙ c.are_job_numbers_used_up.ensures.used c.if-are_job_numbers_used_up.true)

pub returns-clause-owes : goal.returns-clause-owes
returns-clause-owes g c =
    no_memory_owes c.args.self.now c.args.kind c.args.id
    (begin_due _ c.args.self.now c.args.id c.self.view_is c.rotation_refusal.result c.rotation_refusal.ensures ∙ c.in_default.is)
    (ap (λ (core : Held). begins_merge_in core c.args.kind c.args.id) (sym c.self.view_is) ∙ sym c.begins_merge.ensures ∙ c.if-not-begins_merge.false)
    (subst (λ (core : Held). core.memory.next_job < 2 ^ 64 - 1) c.self.view_is (c.are_job_numbers_used_up.ensures.left c.if-are_job_numbers_used_up.false))
