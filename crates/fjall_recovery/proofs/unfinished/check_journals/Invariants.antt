use Rattle.std.proofs.Common.{◌≡◌, ◌≤◌, [], take}
use Rattle.std.specs.Prelude.{IsTrue}
use Rattle.fjall_base.specs.Disk.{Took, standing, state_in}
use Rattle.fjall_recovery.proofs.Beginnings.{AreNone}
use Rattle.fjall_recovery.proofs.unfinished.check_journals.Given as goal

abbrev pub invariant-loop-id : goal.invariant-loop-id
invariant-loop-id g l = record {
  empty : IsTrue g.D.Disk.honest → AreNone (standing (state_in (g.D.Disk.meaning l.fn.disk))) (take l.id-index l.ids);
  same : IsTrue g.D.Disk.honest → Took (g.D.Disk.meaning l.fn.disk) (g.D.Disk.meaning l.disk) [];
  served : IsTrue g.D.Disk.honest → (g.D.Disk.meaning l.disk).misuses ≡ (g.D.Disk.meaning l.fn.disk).misuses;
  later : (g.D.Disk.meaning l.fn.disk).faults ≤ (g.D.Disk.meaning l.disk).faults;
}
