use Rattle.std.proofs.Common.{◌≡◌, ◌≤◌, [], drop, take}
use Rattle.std.specs.Prelude.{IsTrue}
use Rattle.fjall_base.specs.declared.error.Error.{Error}
use Rattle.fjall_base.specs.Disk.{Took, standing, state_in}
use Rattle.fjall_recovery.specs.Homes.{AreHomesRead}
use Rattle.fjall_recovery.specs.Naming.{AreFolderIds}
use Rattle.fjall_recovery.specs.Refusals.{HomesRefuse}
use Rattle.fjall_recovery.proofs.homes.read_homes.Given as goal

abbrev pub invariant-loop-keyspace : goal.invariant-loop-keyspace
invariant-loop-keyspace g l = record {
  read : IsTrue g.D.Disk.honest → AreFolderIds (standing (state_in (g.D.Disk.meaning l.fn.disk))) l.folders
      → AreHomesRead (standing (state_in (g.D.Disk.meaning l.fn.disk))) (take l.keyspace-index l.living) l.homes.items;
  same : IsTrue g.D.Disk.honest → Took (g.D.Disk.meaning l.fn.disk) (g.D.Disk.meaning l.disk) [];
  served : IsTrue g.D.Disk.honest → (g.D.Disk.meaning l.disk).misuses ≡ (g.D.Disk.meaning l.fn.disk).misuses;
  later : (g.D.Disk.meaning l.fn.disk).faults ≤ (g.D.Disk.meaning l.disk).faults;
  cause : IsTrue g.D.Disk.honest → AreFolderIds (standing (state_in (g.D.Disk.meaning l.fn.disk))) l.folders → (error : Error)
      → HomesRefuse (standing (state_in (g.D.Disk.meaning l.fn.disk))) (drop l.keyspace-index l.living) error
      → HomesRefuse (standing (state_in (g.D.Disk.meaning l.fn.disk))) l.living error;
}
