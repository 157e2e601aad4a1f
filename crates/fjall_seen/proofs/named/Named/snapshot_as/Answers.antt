use Rattle.std.proofs.Common.{◌≡◌, sym, subst}
use Rattle.std.specs.Prelude.{IfOk, Result}
use Rattle.fjall_base.specs.declared.error.Error.{Error}
use Rattle.fjall_history.specs.declared.ticket.Ticket.{Ticket}
use Rattle.fjall_history.specs.Histories.{number}
use Rattle.fjall_history.specs.Seats.{Place}
use Rattle.fjall_seen.proofs.Seeing.{opened_list}
use Rattle.fjall_seen.proofs.named.Named.snapshot_as.Goals as goal

pub returns-clause-instant : goal.returns-clause-instant
returns-clause-instant g c =
    let opened = opened_list g.D.Disk.honest _ _ c.snapshot-result.result c.snapshot-result.ensures in
    let list = c.snapshot-result.new.self.seat.list in
    subst (λ (p : Place). c.in_ok-ticket.ticket.instant ≡ number p.list) (sym c.show.ensures.shown)
    (subst (λ (r : Result Ticket Error). IfOk r (λ ticket. ticket.instant ≡ number list)) c.in_ok-ticket.was opened)
