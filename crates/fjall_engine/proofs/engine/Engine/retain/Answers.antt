use Rattle.fjall_engine.proofs.CallsInMemory.{retained_serves}
use Rattle.fjall_engine.proofs.engine.Engine.retain.Goals as goal

pub returns-clause-serves : goal.returns-clause-serves
returns-clause-serves g c = λ _.
    retained_serves c.args.self.now _ c.retain.new.self c.args.id c.retain.result c.self.view_is c.retain.ensures.due c.retain.ensures.ok c.retain.ensures.unchanged c.retain.ensures.cause
