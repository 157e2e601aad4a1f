use Rattle.std.proofs.Common.{sym, ◌∙◌, ap}
use Rattle.fjall_meta.specs.Keyspaces.{id_of}
use Rattle.fjall_machine.specs.Shapes.{OfCreation}
use Rattle.fjall_engine.specs.Holding.{Held}
use Rattle.fjall_engine.specs.Standing.{held_due}
use Rattle.fjall_engine.proofs.ServedCalls.{due_serves}
use Rattle.fjall_engine.proofs.Creations.{found_serves}
use Rattle.fjall_engine.proofs.engine.Engine.keyspace.Goals as goal

pub returns-in-Some-clause-serves : goal.returns-in-Some-clause-serves
returns-in-Some-clause-serves g c = λ h.
    due_serves c.args.self.now (OfCreation c.args.name.now c.args.options) c.in-Some.error
    (ap (λ (core : Held). held_due core (OfCreation c.args.name.now c.args.options)) (sym c.self.view_is) ∙ sym c.creation_refusal.ensures ∙ c.in-Some.is)

pub returns-in-Some-resolve-clause-serves : goal.returns-in-Some-resolve-clause-serves
returns-in-Some-resolve-clause-serves g c = λ h.
    let core = c.args.self.now in
    let due = ap (λ (k : Held). held_due k (OfCreation c.args.name.now c.args.options)) (sym c.self.view_is) ∙ sym c.creation_refusal.ensures ∙ c.in_default.is in
    let found = ap (λ (k : Held). id_of c.args.name.now k.memory.keyspaces.living) (sym c.self.view_is) ∙ sym c.resolve.ensures.id ∙ c.in-Some-resolve.is in
    found_serves core c.args.name.now c.args.options c.in-Some-resolve.id due found
