use Rattle.std.proofs.Common.{sym, subst}
use Rattle.fjall_engine.specs.Standing.{Closes, ClosesDisk}
use Rattle.fjall_engine.proofs.Closings.{closes_disk, closing}
use Rattle.fjall_engine.proofs.engine.Engine.close.Goals as goal

pub returns-clause-disk : goal.returns-clause-disk
returns-clause-disk g c = λ honest.
    let old = c.args.self in
    let new = c.persist-closed.new.self in
    subst (λ disk. ClosesDisk old c.persist-closed.result disk) (sym c.into_disk.ensures.disk) (closes_disk old new c.persist-closed.result (c.persist-closed.ensures.serves honest).disk)

pub returns-clause-crash : goal.returns-clause-crash
returns-clause-crash g c = λ honest s d stands reads on.
    subst (λ disk. Closes s d c.persist-closed.result disk) (sym c.into_disk.ensures.disk)
    (closing c.args.self c.persist-closed.new.self c.persist-closed.result s d c.persist-closed.ensures.owes (c.persist-closed.ensures.serves honest) (c.persist-closed.ensures.device honest)
    (c.into_disk.ensures.housed honest) stands reads on)
