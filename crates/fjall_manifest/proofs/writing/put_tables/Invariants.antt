use Rattle.std.proofs.Common.{ℕ, ◌≤◌, ◌<◌, ◌^◌, [], All, List, length, IsTrue, string_bytes}
use Rattle.fjall_base.specs.Disk.{File, state_in}
use Rattle.fjall_files.specs.Names.{keyspace_folder}
use Rattle.fjall_files.specs.Regions.{Within}
use Rattle.fjall_files.specs.Tidy.{FitsAt, StaysTidy}
use Rattle.fjall_table.specs.declared.table_info.TableInfo.{TableInfo}
use Rattle.fjall_manifest.specs.Records.{Fields}
use Rattle.fjall_manifest.specs.Homes.{Home, IsReady}
use Rattle.fjall_manifest.specs.Changes.{AreNewTables}
use Rattle.fjall_manifest.proofs.Writings.{Writing}
use Rattle.fjall_manifest.proofs.writing.put_tables.Given as goal

abbrev pub invariant-loop-file : goal.invariant-loop-file
invariant-loop-file g l = record {
  within : IsTrue g.D.Disk.honest → (id next : ℕ) (infos : List TableInfo) (texts : List (List ℕ)) → AreNewTables id next infos l.fn.files texts → Within (keyspace_folder id) (g.D.Disk.meaning l.fn.disk) (g.D.Disk.meaning l.disk);
  writing : IsTrue g.D.Disk.honest → (id : ℕ) (records : List Fields) (h : Home) (infos : List TableInfo) (texts : List (List ℕ)) → id < 2 ^ 64 → IsReady (state_in (g.D.Disk.meaning l.fn.disk)) id records h
      → AreNewTables id h.last.next_table_id infos l.fn.files texts → Writing (g.D.Disk.meaning l.fn.disk) (g.D.Disk.meaning l.disk) id records h texts l.file-index;
  place : l.file-index ≤ length l.fn.files;
  later : (g.D.Disk.meaning l.fn.disk).faults ≤ (g.D.Disk.meaning l.disk).faults;
  kinds : IsTrue g.D.Disk.honest → All (λ file. FitsAt (string_bytes file.name) (File [] [])) l.fn.files → StaysTidy (g.D.Disk.meaning l.fn.disk) (g.D.Disk.meaning l.disk);
}
