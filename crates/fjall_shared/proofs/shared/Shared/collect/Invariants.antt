use Rattle.fjall_shared.specs.Does.{Collects}
use Rattle.fjall_shared.proofs.shared.Shared.collect.Given as goal

abbrev pub invariant-loop : goal.invariant-loop
invariant-loop g l = Collects g.D.Disk.honest l.fn.self l.self
