use Rattle.std.proofs.Common.{false, Result, sym, subst}
use Rattle.fjall_base.specs.Disk.{Meaning}
use Rattle.fjall_base.specs.declared.error.Error.{Error}
use Rattle.fjall_calls.specs.CoreStanding.{ClosesSafely, OwesClosing}
use Rattle.fjall_consistency.specs.Links.{EndsAs, IsClosed, IsLet, IsUnclosed}
use Rattle.fjall_consistency.proofs.living.ended.Goals as goal

pub returns-then-not-closes-clause-ends : goal.returns-then-not-closes-clause-ends
returns-then-not-closes-clause-ends g c = λ h. subst (λ (m : Meaning). EndsAs c.args.core.engine false m) (sym c.into_disk.ensures.disk) (IsLet (c.into_disk.ensures.housed h))

pub returns-in_default-Ok-clause-ends : goal.returns-in_default-Ok-clause-ends
returns-in_default-Ok-clause-ends g c = λ h.
    let m = g.D.Disk.meaning c.close.result.0 in
    IsClosed m
    (subst (λ (r : Result Unit Error). OwesClosing c.args.core.engine r m) c.in_default-Ok.is-1 c.close.ensures.owes)
    (subst (λ (r : Result Unit Error). ClosesSafely c.args.core.engine r m) c.in_default-Ok.is-1 (c.close.ensures.crash h))

pub returns-in_default-Err-clause-ends : goal.returns-in_default-Err-clause-ends
returns-in_default-Err-clause-ends g c = λ h.
    let m = g.D.Disk.meaning c.close.result.0 in
    IsUnclosed c.in_default-Err.field-0-1 m (subst (λ (r : Result Unit Error). ClosesSafely c.args.core.engine r m) c.in_default-Err.is-1 (c.close.ensures.crash h))
