use Rattle.fjall_shared.specs.Does.{ClosesTickets}
use Rattle.fjall_shared.proofs.shared.Shared.collect_tickets.Given as goal

abbrev pub invariant-loop : goal.invariant-loop
invariant-loop g l = ClosesTickets g.D.Disk.honest l.fn.self l.self
