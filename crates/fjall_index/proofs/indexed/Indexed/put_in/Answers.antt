use Rattle.std.proofs.Common.{Some, refl}
use Rattle.fjall_index.proofs.Keeping.{keep_goes, unkept}
use Rattle.fjall_index.proofs.indexed.Indexed.put_in.Goals as goal

pub returns-in_err-check_item-clause-keeps : goal.returns-in_err-check_item-clause-keeps
returns-in_err-check_item-clause-keeps g c = λ h since t d all.
    unkept (g.E.Extract.field_of c.args.self.now.extract) c.args.self.now.main c.args.self.now.index since c.args.core.now.engine c.args.core.now.transactions t d c.args.tx.now c.from_residual.result _ c.from_residual.ensures.0 all

pub returns-clause-keeps : goal.returns-clause-keeps
returns-clause-keeps g c = λ h since t d all.
    keep_goes (g.E.Extract.field_of c.args.self.now.extract) c.args.self.now.main c.args.self.now.index since g.D.Disk.honest c.args.core.now.engine c.deref_mut.result.now c.keep_in.new.engine c.keep_in.new.engine c.args.core.now.transactions t d
    c.args.tx.now c.keep_in.new.tx c.args.key (Some c.args.value) c.keep_in.result h c.deref_mut.ensures.value refl c.keep_in.ensures.stand c.keep_in.ensures.kept c.keep_in.ensures.unchanged all
