use Rattle.std.proofs.Common.{subst, ◌∙◌, refl}
use Rattle.fjall_machine.specs.Shapes.{OfRotation}
use Rattle.fjall_engine.specs.Holding.{Held}
use Rattle.fjall_engine.specs.Standing.{Owes, Serves, flag_reply}
use Rattle.fjall_engine.proofs.ServedCalls.{due_owes, due_serves}
use Rattle.fjall_engine.proofs.RotationCalls.{rotated_owes, rotated_serves, rotation_due}
use Rattle.fjall_engine.proofs.engine.Engine.rotate_memtable.Goals as goal

pub returns-in-Some-clause-serves : goal.returns-in-Some-clause-serves
returns-in-Some-clause-serves g c = λ h.
    due_serves c.args.self.now (OfRotation c.args.id) c.in-Some.error (rotation_due _ c.args.self.now c.args.id c.self.view_is c.rotation_refusal.result c.rotation_refusal.ensures ∙ c.in-Some.is)

pub returns-in-Some-clause-owes : goal.returns-in-Some-clause-owes
returns-in-Some-clause-owes g c =
    due_owes c.args.self.now (OfRotation c.args.id) c.in-Some.error (rotation_due _ c.args.self.now c.args.id c.self.view_is c.rotation_refusal.result c.rotation_refusal.ensures ∙ c.in-Some.is)

pub returns-clause-serves : goal.returns-clause-serves
returns-clause-serves g c = λ _.
    let m = g.D.Disk.meaning in
    let old : Held = record { disk = m c.self.inside.disk; journal = c.self.inside.journal; catalog = c.self.inside.catalog; memory = c.self.inside.memory } in
    let none = rotation_due old old c.args.id refl c.rotation_refusal.result c.rotation_refusal.ensures ∙ c.in_default.is in
    let r = c.rotate_memtable in
    subst (λ (h : Held). Serves h (OfRotation c.args.id) (flag_reply r.result) (record old { memory = r.new.self })) c.self.view_is
    (rotated_serves old c.args.id none r.new.self r.result r.ensures.value r.ensures.sealed r.ensures.empty r.ensures.unchanged r.ensures.only)

pub returns-clause-owes : goal.returns-clause-owes
returns-clause-owes g c =
    let m = g.D.Disk.meaning in
    let old : Held = record { disk = m c.self.inside.disk; journal = c.self.inside.journal; catalog = c.self.inside.catalog; memory = c.self.inside.memory } in
    let none = rotation_due old old c.args.id refl c.rotation_refusal.result c.rotation_refusal.ensures ∙ c.in_default.is in
    let r = c.rotate_memtable in
    subst (λ (h : Held). Owes h (OfRotation c.args.id) (flag_reply r.result) (record old { memory = r.new.self })) c.self.view_is
    (rotated_owes old c.args.id none r.new.self r.result r.ensures.value r.ensures.sealed r.ensures.empty r.ensures.unchanged r.ensures.only)
