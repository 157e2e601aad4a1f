use Rattle.std.proofs.Common.{Option, Result, refl, subst}
use Rattle.fjall_base.specs.Pairs.{Bytes}
use Rattle.fjall_base.specs.declared.error.Error.{Error}
use Rattle.fjall_calls.specs.declared.call.Within.TheVariants as within
use Rattle.fjall_calls.specs.Serving.{LooksWithin}
use Rattle.fjall_calls.proofs.Acting.{look_failed, update_acts}
use Rattle.fjall_calls.proofs.acts.update_fetch.Goals as goal

pub returns-in-Ok : goal.returns-in-Ok
returns-in-Ok g c =
    let a = c.args in
    let tx = a.transaction.now in
    let put = c.put_new in
    update_acts g.D.Disk.honest a.core.now c.look.new.core tx put.new.transaction a.id a.key a.new c.in-Ok.found put.result
    (subst (λ (r : Result (Option Bytes) Error). LooksWithin g.D.Disk.honest a.core.now tx a.id a.key r c.look.new.core) c.in-Ok.is c.look.ensures)
    put.ensures.answer put.ensures.ok put.ensures.unchanged put.ensures.fits put.ensures.cause

pub returns-in-Err : goal.returns-in-Err
returns-in-Err g c =
    let a = c.args in
    let tx = a.transaction.now in
    look_failed g.D.Disk.honest a.core.now c.look.new.core tx (within.UpdateFetch a.id a.key a.new) a.id a.key refl c.in-Err.error (λ r. tt)
    (subst (λ (r : Result (Option Bytes) Error). LooksWithin g.D.Disk.honest a.core.now tx a.id a.key r c.look.new.core) c.in-Err.is c.look.ensures)
