use Rattle.std.proofs.Common.{◌≡◌, ◌≤◌, [], All, take}
use Rattle.std.specs.Prelude.{IsTrue}
use Rattle.fjall_base.specs.Disk.{Took, state_in}
use Rattle.fjall_repair.specs.Sweeps.{FindsHomes, HasAll, IsOwnHome, IsUnnamedHome}
use Rattle.fjall_repair.proofs.plan.list_homes.Given as goal

abbrev pub invariant-loop-id : goal.invariant-loop-id
invariant-loop-id g l = record {
  unnamed : IsTrue g.D.Disk.honest → All (IsUnnamedHome l.living) l.homes.items;
  found : IsTrue g.D.Disk.honest → FindsHomes (state_in (g.D.Disk.meaning l.fn.disk)) l.living (take l.id-index l.ids) l.homes.items;
  each : IsTrue g.D.Disk.honest → All (HasAll (state_in (g.D.Disk.meaning l.fn.disk))) l.homes.items;
  spares : IsTrue g.D.Disk.honest → All (IsOwnHome (state_in (g.D.Disk.meaning l.fn.disk))) l.homes.items;
  same : IsTrue g.D.Disk.honest → Took (g.D.Disk.meaning l.fn.disk) (g.D.Disk.meaning l.disk) [];
  served : IsTrue g.D.Disk.honest → (g.D.Disk.meaning l.disk).misuses ≡ (g.D.Disk.meaning l.fn.disk).misuses;
  later : (g.D.Disk.meaning l.fn.disk).faults ≤ (g.D.Disk.meaning l.disk).faults;
}
