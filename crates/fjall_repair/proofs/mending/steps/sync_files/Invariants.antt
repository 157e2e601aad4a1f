use Rattle.std.proofs.Common.{◌≡◌, ◌≢◌, ◌≤◌, All, take, string_bytes}
use Rattle.std.specs.Prelude.{IsTrue}
use Rattle.fjall_base.specs.Disk.{IsFile, IsImage, LeavesOnly, Name, state_in}
use Rattle.fjall_files.specs.Tidy.{StaysTidy}
use Rattle.fjall_repair.specs.Steps.{IsSame, IsSynced}
use Rattle.fjall_repair.proofs.mending.steps.sync_files.Given as goal

abbrev pub invariant-loop-file : goal.invariant-loop-file
invariant-loop-file g l = record {
  moments : IsTrue g.D.Disk.honest → LeavesOnly (g.D.Disk.meaning l.fn.disk) (g.D.Disk.meaning l.disk) (IsImage (state_in (g.D.Disk.meaning l.fn.disk)));
  elsewhere : IsTrue g.D.Disk.honest → (q : Name) → All (λ file. q ≢ string_bytes file) l.files → state_in (g.D.Disk.meaning l.disk) q ≡ state_in (g.D.Disk.meaning l.fn.disk) q;
  same : IsTrue g.D.Disk.honest → (q : Name) → IsSame (state_in (g.D.Disk.meaning l.fn.disk) q) (state_in (g.D.Disk.meaning l.disk) q);
  synced : IsTrue g.D.Disk.honest → All (λ file. IsSynced (state_in (g.D.Disk.meaning l.disk) (string_bytes file)).now) (take l.file-index l.files);
  kinds : IsTrue g.D.Disk.honest → StaysTidy (g.D.Disk.meaning l.fn.disk) (g.D.Disk.meaning l.disk);
  served : IsTrue g.D.Disk.honest → All (λ file. IsFile (state_in (g.D.Disk.meaning l.fn.disk) (string_bytes file)).now) l.files → (g.D.Disk.meaning l.disk).misuses ≡ (g.D.Disk.meaning l.fn.disk).misuses;
  later : (g.D.Disk.meaning l.fn.disk).faults ≤ (g.D.Disk.meaning l.disk).faults;
}
