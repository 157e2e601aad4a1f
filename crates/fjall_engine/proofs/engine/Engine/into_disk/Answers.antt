use Rattle.std.proofs.Common.{subst}
use Rattle.fjall_base.specs.Crash.{IsHoused}
use Rattle.fjall_base.specs.Disk.{state_in}
use Rattle.fjall_engine.specs.Holding.{Held}
use Rattle.fjall_engine.proofs.engine.Engine.into_disk.Goals as goal

pub returns-clause-housed : goal.returns-clause-housed
returns-clause-housed g c = λ honest. subst (λ (core : Held). IsHoused (state_in core.disk)) c.self.view_is (g.met.D.Disk.housed c.self.inside.disk honest)
