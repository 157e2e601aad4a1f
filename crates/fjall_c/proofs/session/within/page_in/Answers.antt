use Rattle.std.proofs.Common.{ap, subst, ◌∙◌}
use Rattle.fjall_history.specs.declared.ticket.Ticket.{Ticket}
use Rattle.fjall_history.specs.declared.ticket.View.TheVariants.{At}
use Rattle.fjall_tx.specs.Marks.{OfRange}
use Rattle.fjall_tx.specs.Owns.{Own, wanted}
use Rattle.fjall_c.specs.Transactions.{IsUnshown, TellsPage}
use Rattle.fjall_c.proofs.Reading.{unseen}
use Rattle.fjall_c.proofs.session.within.page_in.Goals as goal

pub page_of-requires : goal.page_of-requires
page_of-requires c =
    let a = c.args in
    c.in-Ok.ensures.ok ∙ ap (λ (own : Own). wanted own a.keyspace a.range.now a.max) c.own.ensures

pub returns-in-Err : goal.returns-in-Err
returns-in-Err c =
    let a = c.args in
    let tx = a.transaction.now in
    let left = c.short_of.new.engine in
    unseen a.keyspace (TellsPage a.range.now a.back a.max) (OfRange a.keyspace a.range.now.0 a.range.now.1) c.short_of.result a.engine.now left (At tx.ticket) tx
    (subst (λ (t : Ticket). IsUnshown a.keyspace c.short_of.result a.engine.now (At t) left) c.ticket.ensures c.short_of.ensures)
