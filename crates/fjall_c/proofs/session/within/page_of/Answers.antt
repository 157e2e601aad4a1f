use Rattle.std.proofs.Common.{ℕ, Ok, Err, subst}
use Rattle.fjall_history.specs.declared.ticket.View.TheVariants.{At}
use Rattle.fjall_tx.specs.Marks.{OfRange}
use Rattle.fjall_tx.specs.Owns.{wanted}
use Rattle.fjall_c.specs.Transactions.{ShowsIn, TellsPage}
use Rattle.fjall_c.proofs.Reading.{refused_as, shown_as, then_seen, unseen}
use Rattle.fjall_c.proofs.session.within.page_of.Goals as goal

pub returns-in-Ok : goal.returns-in-Ok
returns-in-Ok c =
    let a = c.args in
    let tx = a.transaction.now in
    let so = c.see_page.ensures in
    let left = c.page_shown.new.engine in
    let shown = shown_as a.keyspace (TellsPage a.range.now a.back a.count) c.page_shown.result (Ok c.in-Ok.found) a.engine.now left tx.ticket c.ticket.result c.in-Ok.is c.ticket.ensures c.page_shown.ensures in
    let as_wanted = subst (λ (n : ℕ). ShowsIn a.keyspace (TellsPage a.range.now a.back n) (Ok c.in-Ok.found) a.engine.now (At tx.ticket) left) c.requires shown in
    then_seen a.keyspace (TellsPage a.range.now a.back (wanted tx.own a.keyspace a.range.now a.max)) (TellsPage a.range.now a.back a.max) (OfRange a.keyspace a.range.now.0 a.range.now.1) c.in-Ok.found
    c.see_page.result a.engine.now left (At tx.ticket) tx c.see_page.new.transaction as_wanted so.ok so.marked so.unmarked so.only

pub returns-in-Err : goal.returns-in-Err
returns-in-Err c =
    let a = c.args in
    let tx = a.transaction.now in
    let left = c.page_shown.new.engine in
    let tells = TellsPage a.range.now a.back a.count in
    let shown = shown_as a.keyspace tells c.page_shown.result (Err c.in-Err.error) a.engine.now left tx.ticket c.ticket.result c.in-Err.is c.ticket.ensures c.page_shown.ensures in
    unseen a.keyspace (TellsPage a.range.now a.back a.max) (OfRange a.keyspace a.range.now.0 a.range.now.1) c.in-Err.error a.engine.now left (At tx.ticket) tx
    (refused_as a.keyspace tells c.in-Err.error a.engine.now left (At tx.ticket) shown)
