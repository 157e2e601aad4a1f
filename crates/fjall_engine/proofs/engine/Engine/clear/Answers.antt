use Rattle.std.proofs.Common.{IsTrue, sym, ◌∙◌}
use Rattle.fjall_machine.specs.Shapes.{AsKeyspace, of_clear}
use Rattle.fjall_engine.proofs.ServedCalls.{due_owes, due_serves}
use Rattle.fjall_engine.proofs.WriteCalls.{clear_due, clear_owes, clear_serves, it_lives}
use Rattle.fjall_engine.proofs.engine.Engine.clear.Goals as goal

pub returns-in-Some-clause-serves : goal.returns-in-Some-clause-serves
returns-in-Some-clause-serves g c = λ h.
    let id = c.args.id in
    due_serves c.args.self.now (of_clear id) c.in-Some.error (clear_due _ c.args.self.now id (AsKeyspace id) c.self.view_is c.clear_refusal.result c.clear_refusal.ensures ∙ c.in-Some.is)

pub returns-in-Some-clause-owes : goal.returns-in-Some-clause-owes
returns-in-Some-clause-owes g c =
    let id = c.args.id in
    due_owes c.args.self.now (of_clear id) c.in-Some.error (clear_due _ c.args.self.now id (AsKeyspace id) c.self.view_is c.clear_refusal.result c.clear_refusal.ensures ∙ c.in-Some.is)

pub write-requires-clause-living : goal.write-requires-clause-living
write-requires-clause-living g c =
    let id = c.args.id in
    it_lives c.args.self.now id (AsKeyspace id) (clear_due _ c.args.self.now id (AsKeyspace id) c.self.view_is c.clear_refusal.result c.clear_refusal.ensures ∙ c.in_default.is)

pub returns-clause-serves : goal.returns-clause-serves
returns-clause-serves g c = λ h.
    let id = c.args.id in
    clear_serves (IsTrue g.D.Disk.honest) c.args.self.now c.write.new.self id (AsKeyspace id) c.mode_of-mode.result c.write.result
    (clear_due _ c.args.self.now id (AsKeyspace id) c.self.view_is c.clear_refusal.result c.clear_refusal.ensures ∙ c.in_default.is) (sym c.mode_of-mode.ensures) c.write.ensures.writes h

pub returns-clause-owes : goal.returns-clause-owes
returns-clause-owes g c =
    let id = c.args.id in
    clear_owes (IsTrue g.D.Disk.honest) c.args.self.now c.write.new.self id (AsKeyspace id) c.mode_of-mode.result c.write.result
    (clear_due _ c.args.self.now id (AsKeyspace id) c.self.view_is c.clear_refusal.result c.clear_refusal.ensures ∙ c.in_default.is) (sym c.mode_of-mode.ensures) c.write.ensures.writes
