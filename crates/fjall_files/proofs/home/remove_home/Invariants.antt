use Rattle.std.proofs.Common.{◌≡◌, ◌≢◌, [], ◌≤◌, map, All}
use Rattle.std.specs.Prelude.{IsTrue, string_bytes}
use Rattle.fjall_base.specs.Disk.{folder_of, state_in}
use Rattle.fjall_files.specs.Tidy.{StaysTidy}
use Rattle.fjall_files.specs.Regions.{HoldsOnly, Within}
use Rattle.fjall_files.proofs.Removed.{names_from}
use Rattle.fjall_files.proofs.home.remove_home.Given as goal

abbrev pub invariant-loop-file : goal.invariant-loop-file
invariant-loop-file g l = record {
  within : IsTrue g.D.Disk.honest → All (λ file. folder_of (string_bytes file) ≡ l.fn.folder) l.fn.files → l.fn.folder ≢ [] → Within l.fn.folder (g.D.Disk.meaning l.fn.disk) (g.D.Disk.meaning l.disk);
  served : IsTrue g.D.Disk.honest → HoldsOnly (state_in (g.D.Disk.meaning l.fn.disk)) l.fn.folder (map string_bytes l.fn.files)
      → ((g.D.Disk.meaning l.disk).misuses ≡ (g.D.Disk.meaning l.fn.disk).misuses) × HoldsOnly (state_in (g.D.Disk.meaning l.disk)) l.fn.folder (names_from string_bytes l.file-index l.fn.files);
  later : (g.D.Disk.meaning l.fn.disk).faults ≤ (g.D.Disk.meaning l.disk).faults;
  kinds : IsTrue g.D.Disk.honest → StaysTidy (g.D.Disk.meaning l.fn.disk) (g.D.Disk.meaning l.disk);
}
