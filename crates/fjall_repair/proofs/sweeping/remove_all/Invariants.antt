use Rattle.std.proofs.Common.{◌≡◌, ◌≤◌, All, map, take}
use Rattle.std.specs.Prelude.{IsTrue, string_bytes}
use Rattle.std.specs.List.{Contains}
use Rattle.fjall_base.specs.Disk.{IsNoFolder, state_in}
use Rattle.fjall_files.specs.Tidy.{StaysTidy}
use Rattle.fjall_repair.specs.Sweeps.{NamesAreGone, RemovesNames}
use Rattle.fjall_repair.proofs.sweeping.remove_all.Given as goal

abbrev pub invariant-loop-name : goal.invariant-loop-name
invariant-loop-name g l = record {
  removes : IsTrue g.D.Disk.honest → RemovesNames (Contains (map string_bytes l.names)) (g.D.Disk.meaning l.fn.disk) (g.D.Disk.meaning l.disk);
  gone : IsTrue g.D.Disk.honest → NamesAreGone (state_in (g.D.Disk.meaning l.disk)) (map string_bytes (take l.name-index l.names));
  kinds : IsTrue g.D.Disk.honest → StaysTidy (g.D.Disk.meaning l.fn.disk) (g.D.Disk.meaning l.disk);
  served : IsTrue g.D.Disk.honest → All (λ name. IsNoFolder (state_in (g.D.Disk.meaning l.fn.disk) (string_bytes name)).now) l.names → (g.D.Disk.meaning l.disk).misuses ≡ (g.D.Disk.meaning l.fn.disk).misuses;
  later : (g.D.Disk.meaning l.fn.disk).faults ≤ (g.D.Disk.meaning l.disk).faults;
}
