use Rattle.std.proofs.Common.{◌≡◌, ◌≤◌, []}
use Rattle.std.specs.Prelude.{IsTrue}
use Rattle.fjall_base.specs.Disk.{Took}
use Rattle.fjall_inspect.proofs.places.look_at_root.Given as goal

abbrev pub invariant-loop-id : goal.invariant-loop-id
invariant-loop-id g l = record {
  same : IsTrue g.D.Disk.honest → Took (g.D.Disk.meaning l.fn.disk) (g.D.Disk.meaning l.disk) [];
  served : IsTrue g.D.Disk.honest → (g.D.Disk.meaning l.disk).misuses ≡ (g.D.Disk.meaning l.fn.disk).misuses;
  later : (g.D.Disk.meaning l.fn.disk).faults ≤ (g.D.Disk.meaning l.disk).faults;
}
