use Rattle.std.proofs.Common.{◌≡◌, ℕ, Vec, Global, Result, Ok, Err, IfOk, sym, ap, ◌∙◌, subst}
use Rattle.std.specs.Prelude.{IsOkUnless}
use Rattle.fjall_base.specs.Pairs.{Bytes}
use Rattle.fjall_base.specs.declared.error.Error.{Error}
use Rattle.fjall_base.specs.declared.error.Error.TheVariants.{OutOfMemory}
use Rattle.fjall_tx.specs.Owns.{Own, wanted}
use Rattle.fjall_history.specs.Queries.{Page}
use Rattle.fjall_history.specs.declared.reply.Reply.TheVariants.{Refused}
use Rattle.fjall_history.specs.declared.ticket.Ticket.{Ticket}
use Rattle.fjall_history.specs.declared.ticket.View.TheVariants.{At}
use Rattle.fjall_machine.specs.Shapes.{OfRead}
use Rattle.fjall_core.specs.CoreStanding.{Owes, Serves, pairs_reply}
use Rattle.fjall_calls.specs.declared.call.Within.TheVariants as within
use Rattle.fjall_calls.specs.Serving.{ActsOn}
use Rattle.fjall_calls.proofs.Looking.{page_acts, page_refused, page_unasked}
use Rattle.fjall_calls.proofs.Same.{all_so}
use Rattle.fjall_calls.proofs.acts.page.Goals as goal

pub returns-in-Ok-page_at : goal.returns-in-Ok-page_at
returns-in-Ok-page_at g c =
    let a = c.args in
    let tx = a.transaction.now in
    let n = wanted tx.own a.id a.range a.max in
    let count : c.in-Ok.wanted ≡ n =
    subst (λ (r : Result ℕ Error). IfOk r (λ n. n ≡ wanted c.own.result.now a.id a.range a.max)) c.in-Ok.is c.wanted.ensures.ok ∙ ap (λ (o : Own). wanted o a.id a.range a.max) c.own.ensures in
    page_acts g.D.Disk.honest a.core.now c.page_at.new.self tx a.id a.range a.back a.max c.seen_page.new.transaction c.in-Ok-page_at.found c.seen_page.result
    (λ h. all_so (λ (t : Ticket) (n : ℕ) (r : Result (Vec (Bytes × Bytes) Global) Error). Serves a.core.now (OfRead (At t) a.id (Page a.range a.back n)) (pairs_reply r) c.page_at.new.self)
    tx.ticket c.ticket.result n c.in-Ok.wanted (Ok c.in-Ok-page_at.found) c.page_at.result c.ticket.ensures count c.in-Ok-page_at.is (c.page_at.ensures.serves h))
    (all_so (λ (t : Ticket) (n : ℕ) (r : Result (Vec (Bytes × Bytes) Global) Error). Owes a.core.now (OfRead (At t) a.id (Page a.range a.back n)) (pairs_reply r) c.page_at.new.self)
    tx.ticket c.ticket.result n c.in-Ok.wanted (Ok c.in-Ok-page_at.found) c.page_at.result c.ticket.ensures count c.in-Ok-page_at.is c.page_at.ensures.owes)
    c.seen_page.ensures.ok c.seen_page.ensures.marked c.seen_page.ensures.unmarked c.seen_page.ensures.only

pub returns-in-Ok : goal.returns-in-Ok
returns-in-Ok g c =
    let a = c.args in
    let tx = a.transaction.now in
    let n = wanted tx.own a.id a.range a.max in
    let count : c.in-Ok.wanted ≡ n =
    subst (λ (r : Result ℕ Error). IfOk r (λ n. n ≡ wanted c.own.result.now a.id a.range a.max)) c.in-Ok.is c.wanted.ensures.ok ∙ ap (λ (o : Own). wanted o a.id a.range a.max) c.own.ensures in
    page_refused g.D.Disk.honest a.core.now c.page_at.new.self tx a.id a.range a.back a.max c.in-Err-page_at.error
    (λ h. all_so (λ (t : Ticket) (n : ℕ) (r : Result (Vec (Bytes × Bytes) Global) Error). Serves a.core.now (OfRead (At t) a.id (Page a.range a.back n)) (pairs_reply r) c.page_at.new.self)
    tx.ticket c.ticket.result n c.in-Ok.wanted (Err c.in-Err-page_at.error) c.page_at.result c.ticket.ensures count c.in-Err-page_at.is (c.page_at.ensures.serves h))
    (all_so (λ (t : Ticket) (n : ℕ) (r : Result (Vec (Bytes × Bytes) Global) Error). Owes a.core.now (OfRead (At t) a.id (Page a.range a.back n)) (pairs_reply r) c.page_at.new.self)
    tx.ticket c.ticket.result n c.in-Ok.wanted (Err c.in-Err-page_at.error) c.page_at.result c.ticket.ensures count c.in-Err-page_at.is c.page_at.ensures.owes)

pub returns : goal.returns
returns g c =
    let a = c.args in
    let tx = a.transaction.now in
    let out = subst (λ (r : Result ℕ Error). IsOkUnless r OutOfMemory) c.in-Err.is c.wanted.ensures.only in
    subst (λ (e : Error). ActsOn g.D.Disk.honest a.core.now tx (within.Page a.id a.range a.back a.max) (Refused e) a.core.now tx) (sym out)
    (page_unasked g.D.Disk.honest a.core.now tx a.id a.range a.back a.max)
