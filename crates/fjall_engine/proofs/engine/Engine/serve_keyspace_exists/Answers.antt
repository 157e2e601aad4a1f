use Rattle.std.proofs.Common.{rules, ◌≡◌}
use Rattle.fjall_engine.proofs.CallsInMemory.{exists_owes, exists_serves}
use Rattle.fjall_engine.proofs.engine.Engine.serve_keyspace_exists.Goals as goal

pub returns-clause-serves : goal.returns-clause-serves
returns-clause-serves g c = λ _.
    let given = c.deref.result.now in
    let same : given ≡ c.args.name = search rules in
    exists_serves c.args.self.now c.args.name given c.keyspace_exists.result same c.keyspace_exists.ensures.held

pub returns-clause-owes : goal.returns-clause-owes
returns-clause-owes g c =
    let given = c.deref.result.now in
    let same : given ≡ c.args.name = search rules in
    exists_owes c.args.self.now c.args.name given c.keyspace_exists.result same c.keyspace_exists.ensures.held
