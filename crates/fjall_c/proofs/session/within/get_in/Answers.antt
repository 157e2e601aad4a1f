use Rattle.std.proofs.Common.{Ok, Err}
use Rattle.fjall_history.specs.declared.ticket.View.TheVariants.{At}
use Rattle.fjall_tx.specs.Marks.{OfKey}
use Rattle.fjall_c.specs.Transactions.{TellsValue}
use Rattle.fjall_c.proofs.Reading.{refused_as, shown_as, then_seen, unseen}
use Rattle.fjall_c.proofs.session.within.get_in.Goals as goal

pub returns-in-Ok : goal.returns-in-Ok
returns-in-Ok c =
    let a = c.args in
    let tx = a.transaction.now in
    let tells = TellsValue a.key.now in
    let so = c.see.ensures in
    let shown = shown_as a.keyspace tells c.value_in.result (Ok c.in-Ok.found) a.engine.now c.value_in.new.engine tx.ticket c.ticket.result c.in-Ok.is c.ticket.ensures c.value_in.ensures in
    then_seen a.keyspace tells tells (OfKey a.keyspace a.key.now) c.in-Ok.found c.see.result a.engine.now c.value_in.new.engine (At tx.ticket) tx c.see.new.transaction shown so.ok so.marked so.unmarked so.only

pub returns-in-Err : goal.returns-in-Err
returns-in-Err c =
    let a = c.args in
    let tx = a.transaction.now in
    let tells = TellsValue a.key.now in
    let shown = shown_as a.keyspace tells c.value_in.result (Err c.in-Err.error) a.engine.now c.value_in.new.engine tx.ticket c.ticket.result c.in-Err.is c.ticket.ensures c.value_in.ensures in
    unseen a.keyspace tells (OfKey a.keyspace a.key.now) c.in-Err.error a.engine.now c.value_in.new.engine (At tx.ticket) tx
    (refused_as a.keyspace tells c.in-Err.error a.engine.now c.value_in.new.engine (At tx.ticket) shown)
