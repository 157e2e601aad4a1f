use Rattle.std.proofs.Common.{sym, ◌∙◌, ap}
use Rattle.fjall_machine.specs.Shapes.{OfDeletion}
use Rattle.fjall_machine.specs.Machine.{is_living}
use Rattle.fjall_engine.specs.Holding.{Held}
use Rattle.fjall_engine.specs.Standing.{held_due, store_in}
use Rattle.fjall_engine.proofs.ServedCalls.{due_serves}
use Rattle.fjall_engine.proofs.Deletions.{gone_serves}
use Rattle.fjall_engine.proofs.engine.Engine.delete_keyspace.Goals as goal

pub returns-in-Some-clause-serves : goal.returns-in-Some-clause-serves
returns-in-Some-clause-serves g c = λ h.
    due_serves c.args.self.now (OfDeletion c.args.id) c.in-Some.error
    (ap (λ (core : Held). held_due core (OfDeletion c.args.id)) (sym c.self.view_is) ∙ sym c.deletion_refusal.ensures ∙ c.in-Some.is)

pub returns-then-not-is_living-clause-serves : goal.returns-then-not-is_living-clause-serves
returns-then-not-is_living-clause-serves g c = λ h.
    let due = ap (λ (core : Held). held_due core (OfDeletion c.args.id)) (sym c.self.view_is) ∙ sym c.deletion_refusal.ensures ∙ c.in_default.is in
    let gone = ap (λ (core : Held). is_living (store_in core) c.args.id) (sym c.self.view_is) ∙ sym c.is_living.ensures ∙ c.if-not-is_living.true in
    gone_serves c.args.self.now c.args.id due gone
