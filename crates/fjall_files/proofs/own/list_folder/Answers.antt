use Rattle.std.proofs.Common.{◌∙◌, subst}
use Rattle.fjall_base.specs.Disk.{Lists, Name, state_in}
use Rattle.fjall_files.proofs.own.list_folder.Goals as goal

pub returns-clause-found : goal.returns-clause-found
returns-clause-found g c honest =
    subst (λ (n : Name). Lists (state_in (g.D.Disk.meaning c.args.disk.now)) n c.in_ok-entries.entries.items) (c.as_str.ensures.value ∙ c.in_ok-name.ensures.name) (c.in_ok-entries.ensures.found honest)
