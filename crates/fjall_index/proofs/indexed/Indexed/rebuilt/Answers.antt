use Rattle.std.proofs.Common.{rules}
use Rattle.fjall_index.specs.Refusing.{IsRebuildRefusal, OfEngineOrSame}
use Rattle.fjall_index.proofs.Refusing.{index_error}
use Rattle.fjall_index.proofs.Repairs.{err_told, rebuilt_as}
use Rattle.fjall_index.proofs.indexed.Indexed.rebuilt.Goals as goal

pub returns-in_err-rebuild-clause-rebuilt : goal.returns-in_err-rebuild-clause-rebuilt
returns-in_err-rebuild-clause-rebuilt g c = λ h.
    let told = err_told _ c.rebuild.result c.from_residual.result (search rules) c.from_residual.ensures.0 in
    rebuilt_as (g.E.Extract.field_of c.args.extract) c.args.main c.args.index c.args.core.now.engine c.rebuild.new.core.engine c.args.core.now.transactions c.rebuild.new.core.transactions c.rebuild.result c.from_residual.result told.0 told.1
    (c.rebuild.ensures.rebuilt h)

pub returns-in_err-rebuild-clause-cause : goal.returns-in_err-rebuild-clause-cause
returns-in_err-rebuild-clause-cause g c = λ h t stands reads.
    index_error (OfEngineOrSame (IsRebuildRefusal g.D.Disk.honest (g.E.Extract.field_of c.args.extract) c.args.main c.args.index c.args.core.now.engine t))
    c.from_residual.result c.in_err-rebuild.field-0.0 c.from_residual.ensures.1 (c.in_err-rebuild.ensures.cause h t stands reads)

pub returns-clause-rebuilt : goal.returns-clause-rebuilt
returns-clause-rebuilt g c = λ h.
    rebuilt_as (g.E.Extract.field_of c.args.extract) c.args.main c.args.index c.args.core.now.engine c.rebuild.new.core.engine c.args.core.now.transactions c.rebuild.new.core.transactions c.rebuild.result _ c.in_ok-rebuild.was tt
    (c.rebuild.ensures.rebuilt h)
