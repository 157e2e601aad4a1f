use Rattle.fjall_script.proofs.Restarting.{begun, not_begun}
use Rattle.fjall_script.proofs.session.begun.Goals as goal

pub returns-clause-ok : goal.returns-clause-ok
returns-clause-ok g c = begun c.args.mode g.P.Disk.Disk.honest (g.P.Disk.Disk.meaning c.in_ok-disk.field-0) c.opened.result (λ core. core.engine) c.in_ok-disk.ensures.ok c.opened.ensures.ok

pub returns-clause-err : goal.returns-clause-err
returns-clause-err g c = not_begun c.args.mode g.P.Disk.Disk.honest (g.P.Disk.Disk.meaning c.in_ok-disk.field-0) c.opened.result c.in_ok-disk.ensures.ok c.opened.ensures.err
