use Rattle.std.proofs.Common.{◌≡◌, Option, Result, refl, sym, ap, ◌∙◌, subst}
use Rattle.std.specs.Prelude.{IsOkUnless, OnErr, OnOk}
use Rattle.fjall_base.specs.Pairs.{Bytes}
use Rattle.fjall_base.specs.declared.error.Error.{Error}
use Rattle.fjall_base.specs.declared.error.Error.TheVariants.{OutOfMemory}
use Rattle.fjall_tx.specs.Marks.{OfKey}
use Rattle.fjall_history.specs.declared.reply.Reply.TheVariants.{Refused, Value}
use Rattle.fjall_core.specs.Transactions.{Tx, having_read}
use Rattle.fjall_calls.specs.declared.call.Within.TheVariants as within
use Rattle.fjall_calls.specs.Serving.{ActsOn, LooksWithin}
use Rattle.fjall_calls.proofs.Acting.{look_failed, look_got, look_ran_out}
use Rattle.fjall_calls.proofs.acts.get.Goals as goal

pub returns-in-Ok-mark_read : goal.returns-in-Ok-mark_read
returns-in-Ok-mark_read g c =
    let a = c.args in
    let tx = a.transaction.now in
    let marked = subst (λ (r : Result Unit Error). OnOk r (c.mark_read.new.self ≡ having_read tx (OfKey a.id c.deref.result.now))) c.in-Ok-mark_read.is c.mark_read.ensures.ok in
    subst (λ (t : Tx). ActsOn g.D.Disk.honest a.core.now tx (within.Get a.id a.key) (Value c.in-Ok.found) c.look.new.core t)
    (sym (marked ∙ ap (λ (k : Bytes). having_read tx (OfKey a.id k)) c.deref.ensures))
    (look_got g.D.Disk.honest a.core.now c.look.new.core tx a.id a.key c.in-Ok.found (subst (λ (r : Result (Option Bytes) Error). LooksWithin g.D.Disk.honest a.core.now tx a.id a.key r c.look.new.core) c.in-Ok.is c.look.ensures))

pub returns-in-Ok : goal.returns-in-Ok
returns-in-Ok g c =
    let a = c.args in
    let tx = a.transaction.now in
    let same = subst (λ (r : Result Unit Error). OnErr r (c.mark_read.new.self ≡ tx)) c.in-Err-mark_read.is c.mark_read.ensures.unchanged in
    let out = subst (λ (r : Result Unit Error). IsOkUnless r OutOfMemory) c.in-Err-mark_read.is c.mark_read.ensures.only in
    subst (λ (t : Tx). ActsOn g.D.Disk.honest a.core.now tx (within.Get a.id a.key) (Refused c.in-Err-mark_read.error) c.look.new.core t) (sym same)
    (subst (λ (e : Error). ActsOn g.D.Disk.honest a.core.now tx (within.Get a.id a.key) (Refused e) c.look.new.core tx) (sym out)
    (look_ran_out g.D.Disk.honest a.core.now c.look.new.core tx (within.Get a.id a.key) a.id a.key refl c.in-Ok.found (λ r. tt)
    (subst (λ (r : Result (Option Bytes) Error). LooksWithin g.D.Disk.honest a.core.now tx a.id a.key r c.look.new.core) c.in-Ok.is c.look.ensures)))

pub returns : goal.returns
returns g c =
    let a = c.args in
    let tx = a.transaction.now in
    look_failed g.D.Disk.honest a.core.now c.look.new.core tx (within.Get a.id a.key) a.id a.key refl c.in-Err.error (λ r. tt)
    (subst (λ (r : Result (Option Bytes) Error). LooksWithin g.D.Disk.honest a.core.now tx a.id a.key r c.look.new.core) c.in-Err.is c.look.ensures)
