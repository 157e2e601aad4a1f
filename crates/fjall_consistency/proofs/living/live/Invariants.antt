use Rattle.std.proofs.Common.{◌≡◌, ◌+◌, IsTrue, length}
use Rattle.fjall_consistency.proofs.Lasting.{HasCome}
use Rattle.fjall_consistency.proofs.living.live.Given as goal

abbrev pub invariant-loop-life : goal.invariant-loop-life
invariant-loop-life g l = record {
  come : IsTrue g.P.Disk.Disk.honest → HasCome g.P.Power.wild l.yielded l.told.items (g.P.Disk.Disk.meaning l.disk);
  turns : g.P.Power.turns l.power ≡ g.P.Power.turns l.fn.power + length l.yielded;
}
