use Rattle.std.proofs.Common.{◌≡◌, ◌≤◌, [], take}
use Rattle.std.specs.Prelude.{IsTrue}
use Rattle.fjall_base.specs.Disk.{Took, standing, state_in}
use Rattle.fjall_inspect.specs.Faults.{AreToldOf, TableTells}
use Rattle.fjall_inspect.proofs.tables.look_at_tables.Given as goal

abbrev pub invariant-loop-info : goal.invariant-loop-info
invariant-loop-info g l = record {
  tells : IsTrue g.D.Disk.honest → AreToldOf (TableTells (standing (state_in (g.D.Disk.meaning l.fn.disk))) l.id) (take l.info-index l.tables) l.faults.items;
  same : IsTrue g.D.Disk.honest → Took (g.D.Disk.meaning l.fn.disk) (g.D.Disk.meaning l.disk) [];
  served : IsTrue g.D.Disk.honest → (g.D.Disk.meaning l.disk).misuses ≡ (g.D.Disk.meaning l.fn.disk).misuses;
  later : (g.D.Disk.meaning l.fn.disk).faults ≤ (g.D.Disk.meaning l.disk).faults;
}
