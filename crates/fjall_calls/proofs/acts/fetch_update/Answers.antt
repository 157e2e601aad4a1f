use Rattle.std.proofs.Common.{◌≡◌, ◌⊎◌, None, Option, Some, Result, subst}
use Rattle.std.specs.Prelude.{IfErr, OnErr, OnOk}
use Rattle.fjall_base.specs.Pairs.{Bytes}
use Rattle.fjall_base.specs.declared.error.Error.{Error}
use Rattle.fjall_base.specs.declared.error.Error.TheVariants.{OutOfMemory}
use Rattle.fjall_tx.specs.Marks.{OfKey}
use Rattle.fjall_core.specs.Transactions.{having_read, replace_refusal, replacing}
use Rattle.fjall_calls.specs.Serving.{LooksWithin}
use Rattle.fjall_calls.proofs.Acting.{fetch_done, fetch_refused, look_failed}
use Rattle.fjall_calls.proofs.acts.fetch_update.Goals as goal

pub returns-in-Ok-put_back : goal.returns-in-Ok-put_back
returns-in-Ok-put_back g c call fetches =
    let a = c.args in
    let tx = a.transaction.now in
    let put = c.put_back in
    fetch_done g.D.Disk.honest a.core.now c.look.new.core tx put.new.transaction call a.id a.key a.new fetches c.in-Ok.found
    (subst (λ (r : Result (Option Bytes) Error). LooksWithin g.D.Disk.honest a.core.now tx a.id a.key r c.look.new.core) c.in-Ok.is c.look.ensures)
    (subst (λ (r : Result Unit Error). OnOk r (put.new.transaction ≡ replacing (having_read tx (OfKey a.id a.key)) a.id a.key c.in-Ok.found a.new)) c.in-Ok-put_back.is put.ensures.ok)
    (subst (λ (r : Result Unit Error). OnOk r (replace_refusal a.key c.in-Ok.found a.new ≡ None)) c.in-Ok-put_back.is put.ensures.fits)

pub returns-in-Err-put_back : goal.returns-in-Err-put_back
returns-in-Err-put_back g c call fetches =
    let a = c.args in
    let tx = a.transaction.now in
    let put = c.put_back in
    fetch_refused g.D.Disk.honest a.core.now c.look.new.core tx put.new.transaction call a.id a.key a.new fetches c.in-Ok.found c.in-Err-put_back.error
    (subst (λ (r : Result (Option Bytes) Error). LooksWithin g.D.Disk.honest a.core.now tx a.id a.key r c.look.new.core) c.in-Ok.is c.look.ensures)
    (subst (λ (r : Result Unit Error). OnErr r (put.new.transaction ≡ tx)) c.in-Err-put_back.is put.ensures.unchanged)
    (subst (λ (r : Result Unit Error). IfErr r (λ error. (error ≡ OutOfMemory) ⊎ (replace_refusal a.key c.in-Ok.found a.new ≡ Some error))) c.in-Err-put_back.is put.ensures.cause)

pub returns-in-Err : goal.returns-in-Err
returns-in-Err g c call fetches =
    let a = c.args in
    let tx = a.transaction.now in
    look_failed g.D.Disk.honest a.core.now c.look.new.core tx call a.id a.key fetches.queries c.in-Err.error fetches.may
    (subst (λ (r : Result (Option Bytes) Error). LooksWithin g.D.Disk.honest a.core.now tx a.id a.key r c.look.new.core) c.in-Err.is c.look.ensures)
