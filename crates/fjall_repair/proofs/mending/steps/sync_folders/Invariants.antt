use Rattle.std.proofs.Common.{◌≡◌, ◌≤◌, [], All, take, string_bytes}
use Rattle.std.specs.Prelude.{IsTrue}
use Rattle.fjall_base.specs.Disk.{IsImage, IsThere, LeavesOnly, Name, folder_of, standing, state_in}
use Rattle.fjall_files.specs.Tidy.{StaysTidy}
use Rattle.fjall_repair.proofs.mending.steps.sync_folders.Given as goal

abbrev pub invariant-loop-folder : goal.invariant-loop-folder
invariant-loop-folder g l = record {
  moments : IsTrue g.D.Disk.honest → LeavesOnly (g.D.Disk.meaning l.fn.disk) (g.D.Disk.meaning l.disk) (IsImage (state_in (g.D.Disk.meaning l.fn.disk)));
  same : IsTrue g.D.Disk.honest → (q : Name) → (state_in (g.D.Disk.meaning l.disk) q).now ≡ (state_in (g.D.Disk.meaning l.fn.disk) q).now;
  still : IsTrue g.D.Disk.honest → (q : Name) → (state_in (g.D.Disk.meaning l.fn.disk) q).older ≡ [] → (state_in (g.D.Disk.meaning l.disk) q).older ≡ [];
  settled : IsTrue g.D.Disk.honest → All (λ folder. (q : Name) → folder_of q ≡ string_bytes folder → (state_in (g.D.Disk.meaning l.disk) q).older ≡ []) (take l.folder-index l.folders);
  kinds : IsTrue g.D.Disk.honest → StaysTidy (g.D.Disk.meaning l.fn.disk) (g.D.Disk.meaning l.disk);
  served : IsTrue g.D.Disk.honest → All (λ folder. IsThere (standing (state_in (g.D.Disk.meaning l.fn.disk))) (string_bytes folder)) l.folders → (g.D.Disk.meaning l.disk).misuses ≡ (g.D.Disk.meaning l.fn.disk).misuses;
  later : (g.D.Disk.meaning l.fn.disk).faults ≤ (g.D.Disk.meaning l.disk).faults;
}
