use Rattle.std.proofs.Common.{IsTrue, ap}
use Rattle.std.proofs.lemmas.Result.{err_from_is_err_and}
use Rattle.fjall_machine.specs.Shapes.{OfDeletion}
use Rattle.fjall_engine.specs.Holding.{Held}
use Rattle.fjall_engine.proofs.ServedCalls.{memory_serves}
use Rattle.fjall_engine.proofs.Deletions.{deleted_owes, deleted_serves, deleted_whole, undeleted_owes, undeleted_serves}
use Rattle.fjall_engine.proofs.engine.Engine.delete.Goals as goal

pub returns-in_err-lasting-clause-serves : goal.returns-in_err-lasting-clause-serves
returns-in_err-lasting-clause-serves g c = λ h.
    let p = err_from_is_err_and c.from_residual.result c.from_residual.ensures.1 in
    rw (p.1, p.2, c.in_err-lasting.ensures.only) (memory_serves c.args.self.now (OfDeletion c.args.id) tt c.requires.due)

pub returns-in-Ok-clause-serves : goal.returns-in-Ok-clause-serves
returns-in-Ok-clause-serves g c = λ h.
    let all = c.in-Ok.ensures.unmade in
    let is = deleted_whole c.self-in-Ok.view_is c.args.self.now (ap (λ (h : Held). h.memory) all.2) c.args.id c.delete.ensures in
    deleted_serves c.args.self.now c.args.id c.requires.due c.requires.living (IsTrue g.D.Disk.honest) c.unmake.new.self _ c.in-Ok.ensures.lawful all is h

pub returns-in-Ok-clause-owes : goal.returns-in-Ok-clause-owes
returns-in-Ok-clause-owes g c =
    let all = c.in-Ok.ensures.unmade in
    let is = deleted_whole c.self-in-Ok.view_is c.args.self.now (ap (λ (h : Held). h.memory) all.2) c.args.id c.delete.ensures in
    deleted_owes c.args.self.now c.args.id c.requires.due c.requires.living (IsTrue g.D.Disk.honest) c.unmake.new.self _ c.in-Ok.ensures.lawful all is

pub returns-in-Err-clause-serves : goal.returns-in-Err-clause-serves
returns-in-Err-clause-serves g c = λ h.
    undeleted_serves c.args.self.now c.args.id c.requires.due c.requires.living (IsTrue g.D.Disk.honest) c.unmake.new.self c.poison_by.new.self c.in-Err.error c.in-Err.ensures.lawful c.in-Err.ensures.unmade c.poison_by.ensures h

pub returns-in-Err-clause-owes : goal.returns-in-Err-clause-owes
returns-in-Err-clause-owes g c =
    undeleted_owes c.args.self.now c.args.id c.requires.due c.requires.living (IsTrue g.D.Disk.honest) c.unmake.new.self c.poison_by.new.self c.in-Err.error c.in-Err.ensures.lawful c.in-Err.ensures.unmade c.poison_by.ensures
