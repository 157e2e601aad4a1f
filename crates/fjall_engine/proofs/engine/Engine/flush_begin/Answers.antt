use Rattle.std.proofs.Common.{IsTrue, Err, Ok, refl, sym, ◌∙◌, ap}
use Rattle.fjall_machine.specs.Machine.{begins_flush}
use Rattle.fjall_machine.specs.Shapes.{OfFlushBegin}
use Rattle.fjall_engine.specs.Holding.{Held}
use Rattle.fjall_engine.proofs.FlushBegins.{begin_due, begun_known_task, begun_owes, begun_serves, idle_owes, idle_serves}
use Rattle.fjall_engine.proofs.ServedCalls.{due_owes, due_serves}
use Rattle.fjall_engine.proofs.engine.Engine.flush_begin.Goals as goal

pub returns-in-Some-clause-serves : goal.returns-in-Some-clause-serves
returns-in-Some-clause-serves g c = λ h.
    due_serves c.args.self.now (OfFlushBegin c.args.id) c.in-Some.error
    (begin_due _ c.args.self.now c.args.id c.self.view_is c.rotation_refusal.result c.rotation_refusal.ensures ∙ c.in-Some.is)

pub returns-in-Some-clause-owes : goal.returns-in-Some-clause-owes
returns-in-Some-clause-owes g c =
    due_owes c.args.self.now (OfFlushBegin c.args.id) c.in-Some.error
    (begin_due _ c.args.self.now c.args.id c.self.view_is c.rotation_refusal.result c.rotation_refusal.ensures ∙ c.in-Some.is)

pub returns-then-not-begins_flush-clause-serves : goal.returns-then-not-begins_flush-clause-serves
returns-then-not-begins_flush-clause-serves g c = λ h.
    idle_serves c.args.self.now c.args.self.now c.args.id
    (begin_due _ c.args.self.now c.args.id c.self.view_is c.rotation_refusal.result c.rotation_refusal.ensures ∙ c.in_default.is)
    (ap (λ (core : Held). begins_flush core.memory.trees c.args.id) (sym c.self.view_is) ∙ sym c.begins_flush.ensures ∙ c.if-not-begins_flush.true) refl

pub returns-then-not-begins_flush-clause-owes : goal.returns-then-not-begins_flush-clause-owes
returns-then-not-begins_flush-clause-owes g c =
    idle_owes c.args.self.now c.args.self.now c.args.id
    (begin_due _ c.args.self.now c.args.id c.self.view_is c.rotation_refusal.result c.rotation_refusal.ensures ∙ c.in_default.is)
    (ap (λ (core : Held). begins_flush core.memory.trees c.args.id) (sym c.self.view_is) ∙ sym c.begins_flush.ensures ∙ c.if-not-begins_flush.true) refl

pub begin-requires : goal.begin-requires
begin-requires g c = record {
  due = begin_due _ c.args.self.now c.args.id c.self.view_is c.rotation_refusal.result c.rotation_refusal.ensures ∙ c.in_default.is;
  begins = ap (λ (core : Held). begins_flush core.memory.trees c.args.id) (sym c.self.view_is) ∙ sym c.begins_flush.ensures ∙ c.if-not-begins_flush.false;
}

pub returns-in-Ok : goal.returns-in-Ok
returns-in-Ok g c =
    let old = c.args.self.now in
    let new = c.begin.new.self in
    let none = begin_due _ old c.args.id c.self.view_is c.rotation_refusal.result c.rotation_refusal.ensures ∙ c.in_default.is in
    let begins = ap (λ (core : Held). begins_flush core.memory.trees c.args.id) (sym c.self.view_is) ∙ sym c.begins_flush.ensures ∙ c.if-not-begins_flush.false in
    record {
      serves = begun_serves (IsTrue g.D.Disk.honest) old new c.args.id none begins (Ok c.in-Ok.job) c.in-Ok.ensures.begun;
      owes = begun_owes (IsTrue g.D.Disk.honest) old new c.args.id none begins (Ok c.in-Ok.job) c.in-Ok.ensures.begun;
      knows = begun_known_task (IsTrue g.D.Disk.honest) old new c.args.id none begins c.in-Ok.job c.in-Ok.ensures.begun;
    }

pub returns-in-Err-clause-serves : goal.returns-in-Err-clause-serves
returns-in-Err-clause-serves g c =
    begun_serves (IsTrue g.D.Disk.honest) c.args.self.now c.begin.new.self c.args.id
    (begin_due _ c.args.self.now c.args.id c.self.view_is c.rotation_refusal.result c.rotation_refusal.ensures ∙ c.in_default.is)
    (ap (λ (core : Held). begins_flush core.memory.trees c.args.id) (sym c.self.view_is) ∙ sym c.begins_flush.ensures ∙ c.if-not-begins_flush.false)
    (Err c.in-Err.error) c.in-Err.ensures.begun

pub returns-in-Err-clause-owes : goal.returns-in-Err-clause-owes
returns-in-Err-clause-owes g c =
    begun_owes (IsTrue g.D.Disk.honest) c.args.self.now c.begin.new.self c.args.id
    (begin_due _ c.args.self.now c.args.id c.self.view_is c.rotation_refusal.result c.rotation_refusal.ensures ∙ c.in_default.is)
    (ap (λ (core : Held). begins_flush core.memory.trees c.args.id) (sym c.self.view_is) ∙ sym c.begins_flush.ensures ∙ c.if-not-begins_flush.false)
    (Err c.in-Err.error) c.in-Err.ensures.begun
