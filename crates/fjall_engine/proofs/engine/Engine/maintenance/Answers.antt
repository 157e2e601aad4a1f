use Rattle.std.proofs.Common.{IsTrue, true, ap, sym, ◌∙◌}
use Rattle.fjall_base.specs.declared.error.Error.TheVariants.{Poisoned}
use Rattle.fjall_machine.specs.Shapes.{OfMaintenance}
use Rattle.fjall_engine.specs.Holding.{Held}
use Rattle.fjall_engine.proofs.Evictions.{evicted_owes, evicted_serves, maintenance_due}
use Rattle.fjall_engine.proofs.ServedCalls.{due_owes, due_serves}
use Rattle.fjall_engine.proofs.engine.Engine.maintenance.Goals as goal

pub returns-then-is_poisoned-clause-serves : goal.returns-then-is_poisoned-clause-serves
returns-then-is_poisoned-clause-serves g c = λ h.
    due_serves c.args.self.now OfMaintenance Poisoned
    (maintenance_due c.args.self.now true (ap (λ (core : Held). core.memory.poisoned) (sym c.self.view_is) ∙ sym c.is_poisoned.ensures ∙ c.if-is_poisoned.true))

pub returns-then-is_poisoned-clause-owes : goal.returns-then-is_poisoned-clause-owes
returns-then-is_poisoned-clause-owes g c =
    due_owes c.args.self.now OfMaintenance Poisoned
    (maintenance_due c.args.self.now true (ap (λ (core : Held). core.memory.poisoned) (sym c.self.view_is) ∙ sym c.is_poisoned.ensures ∙ c.if-is_poisoned.true))

pub returns-clause-serves : goal.returns-clause-serves
returns-clause-serves g c = λ h.
    evicted_serves (IsTrue g.D.Disk.honest) c.args.self.now c.evict.new.self c.evict.result
    (ap (λ (core : Held). core.memory.poisoned) (sym c.self.view_is) ∙ sym c.is_poisoned.ensures ∙ c.if-is_poisoned.false) c.evict.ensures.evicts h

pub returns-clause-owes : goal.returns-clause-owes
returns-clause-owes g c =
    evicted_owes (IsTrue g.D.Disk.honest) c.args.self.now c.evict.new.self c.evict.result
    (ap (λ (core : Held). core.memory.poisoned) (sym c.self.view_is) ∙ sym c.is_poisoned.ensures ∙ c.if-is_poisoned.false) c.evict.ensures.evicts
