use Rattle.std.proofs.Common.{◌≡◌, ◌≤◌, [], IsTrue, take}
use Rattle.fjall_base.specs.Disk.{Took, standing, state_in}
use Rattle.fjall_manifest.specs.Reading.{AreHeld}
use Rattle.fjall_manifest.proofs.reading.open_tables.Given as goal

abbrev pub invariant-loop-table : goal.invariant-loop-table
invariant-loop-table g l = record {
  held : IsTrue g.D.Disk.honest → AreHeld (standing (state_in (g.D.Disk.meaning l.fn.disk))) l.id (take l.table-index l.tables) l.files.items;
  same : IsTrue g.D.Disk.honest → Took (g.D.Disk.meaning l.fn.disk) (g.D.Disk.meaning l.disk) [];
  served : IsTrue g.D.Disk.honest → (g.D.Disk.meaning l.disk).misuses ≡ (g.D.Disk.meaning l.fn.disk).misuses;
  later : (g.D.Disk.meaning l.fn.disk).faults ≤ (g.D.Disk.meaning l.disk).faults;
}
