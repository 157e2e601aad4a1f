use Rattle.std.proofs.Common.{sym, ◌∙◌, refl, subst}
use Rattle.fjall_history.specs.Seats.{Place}
use Rattle.fjall_seen.specs.Told.{CommitTold}
use Rattle.fjall_seen.proofs.Seeing.{commit_seen, not_other, stood_open}
use Rattle.fjall_seen.proofs.named.Named.commit_as.Goals as goal

pub returns-clause-told : goal.returns-clause-told
returns-clause-told g c honest =
    let own = not_other c.instant_of.result c.ticket-ticket.result.instant _ refl (sym c.ne.ensures ∙ c.if-ne.false) in
    let at = stood_open c.self.inside.shared.core c.deref.result.now c.instant_of.result c.ticket-ticket.result c.args.transaction.ticket c.deref.ensures c.ticket-ticket.ensures own c.instant_of.ensures.instant in
    subst (λ (p : Place). CommitTold c.args.transaction c.commit-outcome.result p.list) (sym c.show-2.ensures.shown)
    (commit_seen g.D.Disk.honest _ _ c.args.transaction c.commit-outcome.result honest at c.commit-outcome.ensures)
