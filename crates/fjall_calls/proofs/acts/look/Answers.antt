use Rattle.std.proofs.Common.{Option, Result, Ok, Err}
use Rattle.fjall_base.specs.Pairs.{Bytes}
use Rattle.fjall_base.specs.declared.error.Error.{Error}
use Rattle.fjall_history.specs.Queries.{Get}
use Rattle.fjall_history.specs.declared.ticket.Ticket.{Ticket}
use Rattle.fjall_history.specs.declared.ticket.View.TheVariants.{At}
use Rattle.fjall_machine.specs.Shapes.{OfRead}
use Rattle.fjall_core.specs.CoreStanding.{Owes, Serves, value_reply}
use Rattle.fjall_calls.proofs.Looking.{look_refused, look_seen}
use Rattle.fjall_calls.proofs.Same.{all_so}
use Rattle.fjall_calls.proofs.acts.look.Goals as goal

pub returns-in-Ok : goal.returns-in-Ok
returns-in-Ok g c =
    let a = c.args in
    look_seen g.D.Disk.honest a.core.now c.get_at.new.self a.transaction.now a.id a.key.now c.in-Ok.found c.seen.result
    (λ h. all_so (λ (t : Ticket) (k : Bytes) (r : Result (Option Bytes) Error). Serves a.core.now (OfRead (At t) a.id (Get k)) (value_reply r) c.get_at.new.self)
    a.transaction.now.ticket c.ticket.result a.key.now c.deref.result.now (Ok c.in-Ok.found) c.get_at.result c.ticket.ensures c.deref.ensures c.in-Ok.is (c.get_at.ensures.serves h))
    (all_so (λ (t : Ticket) (k : Bytes) (r : Result (Option Bytes) Error). Owes a.core.now (OfRead (At t) a.id (Get k)) (value_reply r) c.get_at.new.self)
    a.transaction.now.ticket c.ticket.result a.key.now c.deref.result.now (Ok c.in-Ok.found) c.get_at.result c.ticket.ensures c.deref.ensures c.in-Ok.is c.get_at.ensures.owes)
    c.seen.ensures.ok c.seen.ensures.only

pub returns-in-Err : goal.returns-in-Err
returns-in-Err g c =
    let a = c.args in
    look_refused g.D.Disk.honest a.core.now c.get_at.new.self a.transaction.now a.id a.key.now c.in-Err.error
    (λ h. all_so (λ (t : Ticket) (k : Bytes) (r : Result (Option Bytes) Error). Serves a.core.now (OfRead (At t) a.id (Get k)) (value_reply r) c.get_at.new.self)
    a.transaction.now.ticket c.ticket.result a.key.now c.deref.result.now (Err c.in-Err.error) c.get_at.result c.ticket.ensures c.deref.ensures c.in-Err.is (c.get_at.ensures.serves h))
    (all_so (λ (t : Ticket) (k : Bytes) (r : Result (Option Bytes) Error). Owes a.core.now (OfRead (At t) a.id (Get k)) (value_reply r) c.get_at.new.self)
    a.transaction.now.ticket c.ticket.result a.key.now c.deref.result.now (Err c.in-Err.error) c.get_at.result c.ticket.ensures c.deref.ensures c.in-Err.is c.get_at.ensures.owes)
