use Rattle.std.proofs.Common.{sym, ◌∙◌, ap, subst}
use Rattle.fjall_history.specs.Seats.{Place}
use Rattle.fjall_shared.specs.Locked.{Locked}
use Rattle.fjall_seen.specs.Naming.{IsNamed}
use Rattle.fjall_seen.proofs.Seeing.{collected_seat}
use Rattle.fjall_seen.proofs.named.Named.close_dropped.Goals as goal

pub invariant_of-self : goal.invariant_of-self
invariant_of-self g c = subst (λ (p : Place). IsNamed g.J.Naming.table p.table) (sym (collected_seat g.D.Disk.honest _ _ c.collect_tickets.ensures)) c.self.invariant

pub returns : goal.returns
returns g c = collected_seat g.D.Disk.honest _ _ c.collect_tickets.ensures ∙ ap (λ (l : Locked). l.seat) c.self.view_is
