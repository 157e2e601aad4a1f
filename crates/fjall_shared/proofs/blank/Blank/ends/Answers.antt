use Rattle.fjall_shared.proofs.Places.{chooses}
use Rattle.fjall_shared.proofs.blank.Blank.ends.Goals as goal

pub another-other-requires-clause-rule : goal.another-other-requires-clause-rule
another-other-requires-clause-rule g c = chooses g.M.JobOutput.made_of c.self.inside.pass.id _ g.B.Labeling.job c.self.invariant.2
