use Rattle.std.proofs.Common.{◌≡◌, ◌≢◌, ◌≤◌, List, All, take, string_bytes}
use Rattle.std.specs.Prelude.{IsTrue}
use Rattle.fjall_base.specs.Store.{Command, Store}
use Rattle.fjall_base.specs.Disk.{Image, IsImage, LeavesOnly, Name, standing, state_in}
use Rattle.fjall_recovery.specs.Folders.{Contents, IsOpenable}
use Rattle.fjall_repair.specs.Amids.{StaysAmid}
use Rattle.fjall_files.specs.Tidy.{StaysTidy}
use Rattle.fjall_repair.specs.declared.mending.plan.FileEnd.{FileEnd}
use Rattle.fjall_repair.specs.Steps.{IsEnded, IsSynced, Stays, end_of}
use Rattle.fjall_repair.proofs.Ending.{MayBeEnded}
use Rattle.fjall_repair.proofs.Turns.{AreRight, AreSettled}
use Rattle.fjall_repair.proofs.mending.steps.end_files.Given as goal

abbrev pub invariant-loop-end : goal.invariant-loop-end
invariant-loop-end g l = record {
  moments : IsTrue g.D.Disk.honest → (c : Contents) → AreRight (state_in (g.D.Disk.meaning l.fn.disk)) c l.ends → AreSettled (state_in (g.D.Disk.meaning l.fn.disk)) l.ends
      → ((image : Image) → IsImage (state_in (g.D.Disk.meaning l.fn.disk)) image → Stays (state_in (g.D.Disk.meaning l.fn.disk)) c image)
      → LeavesOnly (g.D.Disk.meaning l.fn.disk) (g.D.Disk.meaning l.disk) (Stays (state_in (g.D.Disk.meaning l.fn.disk)) c);
  may : IsTrue g.D.Disk.honest → (c : Contents) → AreRight (state_in (g.D.Disk.meaning l.fn.disk)) c l.ends → (q : Name) → MayBeEnded (state_in (g.D.Disk.meaning l.fn.disk)) c (state_in (g.D.Disk.meaning l.disk)) q;
  ended : IsTrue g.D.Disk.honest → (c : Contents) → AreRight (state_in (g.D.Disk.meaning l.fn.disk)) c l.ends
      → All (λ e. IsEnded (state_in (g.D.Disk.meaning l.fn.disk)) (state_in (g.D.Disk.meaning l.disk)) (end_of e)) (take l.end-index l.ends);
  synced : IsTrue g.D.Disk.honest → (q : Name) → IsSynced (state_in (g.D.Disk.meaning l.fn.disk) q).now → IsSynced (state_in (g.D.Disk.meaning l.disk) q).now;
  older : IsTrue g.D.Disk.honest → (q : Name) → (state_in (g.D.Disk.meaning l.disk) q).older ≡ (state_in (g.D.Disk.meaning l.fn.disk) q).older;
  elsewhere : IsTrue g.D.Disk.honest → (q : Name) → All (λ (e : FileEnd). q ≢ string_bytes e.name) l.ends → state_in (g.D.Disk.meaning l.disk) q ≡ state_in (g.D.Disk.meaning l.fn.disk) q;
  amid : IsTrue g.D.Disk.honest → (c : Contents) → IsOpenable (standing (state_in (g.D.Disk.meaning l.fn.disk))) c → AreRight (state_in (g.D.Disk.meaning l.fn.disk)) c l.ends → AreSettled (state_in (g.D.Disk.meaning l.fn.disk)) l.ends
      → (base : Store) (pending : List Command) → ((image : Image) → IsImage (state_in (g.D.Disk.meaning l.fn.disk)) image → StaysAmid (state_in (g.D.Disk.meaning l.fn.disk)) base pending image)
      → LeavesOnly (g.D.Disk.meaning l.fn.disk) (g.D.Disk.meaning l.disk) (StaysAmid (state_in (g.D.Disk.meaning l.fn.disk)) base pending);
  stands : IsTrue g.D.Disk.honest → (c : Contents) → IsOpenable (standing (state_in (g.D.Disk.meaning l.fn.disk))) c → AreRight (state_in (g.D.Disk.meaning l.fn.disk)) c l.ends → AreSettled (state_in (g.D.Disk.meaning l.fn.disk)) l.ends
      → Stays (state_in (g.D.Disk.meaning l.fn.disk)) c (standing (state_in (g.D.Disk.meaning l.disk)));
  kinds : IsTrue g.D.Disk.honest → StaysTidy (g.D.Disk.meaning l.fn.disk) (g.D.Disk.meaning l.disk);
  served : IsTrue g.D.Disk.honest → (c : Contents) → AreRight (state_in (g.D.Disk.meaning l.fn.disk)) c l.ends → (g.D.Disk.meaning l.disk).misuses ≡ (g.D.Disk.meaning l.fn.disk).misuses;
  later : (g.D.Disk.meaning l.fn.disk).faults ≤ (g.D.Disk.meaning l.disk).faults;
}
