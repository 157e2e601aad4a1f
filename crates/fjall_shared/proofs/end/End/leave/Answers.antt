use Rattle.std.proofs.Common.{◌∙◌, ap, sym}
use Rattle.std.specs.Prelude.{Some}
use Rattle.fjall_shared.specs.Labels.{Label}
use Rattle.fjall_shared.proofs.Places.{leaves}
use Rattle.fjall_shared.proofs.end.End.leave.Goals as goal

pub try_push_as-requires-clause-rule : goal.try_push_as-requires-clause-rule
try_push_as-requires-clause-rule g c =
    leaves g.M.JobOutput.made_of _ c.self.inside.pass.id c.self.inside.pass.me.0.client c.args.made (c.self.invariant.1 ∙ ap (λ (l : Label). Some l) (c.self.view_is ∙ sym c.requires))
