use Rattle.std.proofs.Common.{◌≡◌, ◌≤◌, [], take}
use Rattle.std.specs.Prelude.{IsTrue}
use Rattle.fjall_base.specs.Disk.{Took, standing, state_in}
use Rattle.fjall_inspect.specs.Faults.{AreToldOf, HomeTells}
use Rattle.fjall_inspect.proofs.tables.look_at_homes.Given as goal

abbrev pub invariant-loop-home : goal.invariant-loop-home
invariant-loop-home g l = record {
  tells : IsTrue g.D.Disk.honest → AreToldOf (HomeTells (standing (state_in (g.D.Disk.meaning l.fn.disk)))) (take l.home-index l.homes) l.faults.items;
  same : IsTrue g.D.Disk.honest → Took (g.D.Disk.meaning l.fn.disk) (g.D.Disk.meaning l.disk) [];
  served : IsTrue g.D.Disk.honest → (g.D.Disk.meaning l.disk).misuses ≡ (g.D.Disk.meaning l.fn.disk).misuses;
  later : (g.D.Disk.meaning l.fn.disk).faults ≤ (g.D.Disk.meaning l.disk).faults;
}
