use Rattle.fjall_shared.proofs.Places.{finds}
use Rattle.fjall_shared.proofs.end.End.find.Goals as goal

pub try_pop_as-requires-clause-rule : goal.try_pop_as-requires-clause-rule
try_pop_as-requires-clause-rule g c = finds g.M.JobOutput.made_of c.self.inside.pass.id c.self.inside.pass.me.0.client c.self.invariant.1
