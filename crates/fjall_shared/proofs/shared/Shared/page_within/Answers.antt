use Rattle.std.proofs.Common.{◌≡◌, ◌∙◌, ℕ, sym, ap, subst, Global, Ok, Result, Vec}
use Rattle.fjall_base.specs.Pairs.{Bytes, page, pairs_between}
use Rattle.fjall_base.specs.Store.{map_at}
use Rattle.fjall_base.specs.declared.error.Error.{Error}
use Rattle.fjall_tx.specs.Owns.{Own, own_written, wanted}
use Rattle.fjall_history.specs.Histories.{view}
use Rattle.fjall_history.specs.Queries.{Page}
use Rattle.fjall_history.specs.declared.ticket.Ticket.{Ticket}
use Rattle.fjall_history.specs.declared.ticket.View.TheVariants.{At}
use Rattle.fjall_machine.specs.Machine.{instant_of}
use Rattle.fjall_machine.specs.Shapes.{OfRead}
use Rattle.fjall_core.specs.CoreStanding.{pairs_reply}
use Rattle.fjall_shared.specs.Does.{Does}
use Rattle.fjall_shared.specs.Locked.{list_of}
use Rattle.fjall_shared.proofs.Viewing.{paged_at}
use Rattle.fjall_shared.proofs.shared.Shared.page_within.Goals as goal

pub returns-clause-pairs : goal.returns-clause-pairs
returns-clause-pairs g c is =
    let tx = c.args.transaction.now in
    let old = c.args.self.now in
    let range = c.args.range.now in
    let count = wanted c.own.result.now c.args.id range c.args.max in
    let maps = (view (list_of old) (instant_of old.core.memory.tickets tx.ticket.id)).maps in
    let got : c.page_at-2.result ≡ Ok c.in_ok-found.found = c.in_ok-found.was in
    let reads = subst (λ (x : Ticket × (ℕ × Result (Vec (Bytes × Bytes) Global) Error)). Does g.D.Disk.honest old (OfRead (At x.0) c.args.id (Page range c.args.back x.1.0)) (pairs_reply x.1.1) c.page_at-2.new.self)
    (λ i. (c.ticket.ensures i, (c.in-Ok.ensures.ok i, got i))) c.page_at-2.ensures in
    let found = paged_at g.D.Disk.honest old c.page_at-2.new.self tx.ticket c.args.id range c.args.back count c.in_ok-found.found is reads in
    let stays : c.own-2.result.now ≡ c.own.result.now = c.own-2.ensures ∙ sym c.own.ensures in
    let there = found ∙ ap (λ (o : Own). page c.args.back (wanted o c.args.id range c.args.max) (pairs_between range (map_at maps c.args.id))) (sym stays) in
    subst (λ (o : Own). c.in_ok-seen.seen.items ≡ page c.args.back c.args.max (pairs_between range (map_at (own_written maps o) c.args.id))) c.own-2.ensures
    (c.in_ok-seen.ensures.ok maps there)
