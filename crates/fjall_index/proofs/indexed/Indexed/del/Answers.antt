use Rattle.std.proofs.Common.{inr, None}
use Rattle.fjall_index.specs.Refusing.{IsItemRefusal, IsPutRefusal}
use Rattle.fjall_index.specs.Standing.{putting}
use Rattle.fjall_index.proofs.Putting.{unasked_goes}
use Rattle.fjall_index.proofs.Refusing.{either, wider}
use Rattle.fjall_index.proofs.indexed.Indexed.del.Goals as goal

pub returns-in_err-check_item-clause-keeps : goal.returns-in_err-check_item-clause-keeps
returns-in_err-check_item-clause-keeps g c = λ h since t d all.
    let of = g.E.Extract.field_of c.args.self.now.extract in
    unasked_goes of c.args.self.now.main c.args.self.now.index since c.args.core.now.engine c.args.core.now.transactions t d c.from_residual.result (putting of c.args.self.now.main c.args.self.now.index c.args.key None) c.from_residual.ensures.0 all

pub returns-clause-cause : goal.returns-clause-cause
returns-clause-cause g c = λ h t stands reads.
    let of = g.E.Extract.field_of c.args.self.now.extract in
    wider (IsPutRefusal g.D.Disk.honest of c.args.self.now.main c.args.self.now.index c.args.core.now.engine t c.args.key None)
    (either (IsItemRefusal c.args.key None) (IsPutRefusal g.D.Disk.honest of c.args.self.now.main c.args.self.now.index c.args.core.now.engine t c.args.key None))
    c.change.result (λ e is. inr is) (c.change.ensures.cause h t stands reads)
