use Rattle.std.proofs.Common.{[], ◌∷◌}
use Rattle.fjall_base.specs.Disk.{Sync}
use Rattle.fjall_journal.specs.Writer.{MakingTook, making_file}
use Rattle.fjall_base.proofs.Results.{on_err}
use Rattle.fjall_journal.proofs.Writing.{making_left, took_then}
use Rattle.fjall_journal.proofs.writer.Writer.create_new.Goals as goal

pub returns-in_err-sync-clause-part : goal.returns-in_err-sync-clause-part
returns-in_err-sync-clause-part g c = λ h.
    let old = g.D.Disk.meaning c.args.disk.now in
    let new = g.D.Disk.meaning c.sync.new.self in
    on_err c.from_residual-in_err-sync.result (MakingTook old new c.args.name.now) (making_left old (g.D.Disk.meaning c.create.new.self) new c.args.name.now (c.in_ok-create.ensures.ok h) (c.in_err-sync.ensures.err h))

pub returns-clause-took : goal.returns-clause-took
returns-clause-took g c = λ h.
    let old = g.D.Disk.meaning c.args.disk.now in
    took_then old (g.D.Disk.meaning c.create.new.self) (g.D.Disk.meaning c.sync.new.self) (making_file old c.args.name.now) (Sync c.args.name.now ∷ []) (c.in_ok-create.ensures.ok h) (c.in_ok-sync.ensures.ok h)
