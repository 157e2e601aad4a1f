use Rattle.std.proofs.Common.{◌≤◌, IsTrue, length}
use Rattle.fjall_manifest.proofs.Runs.{Still}
use Rattle.fjall_compaction.specs.Putting.{ForFiles, ForFilesOn}
use Rattle.fjall_compaction.proofs.Writings.{IsServed, Writing}
use Rattle.fjall_compaction.proofs.writing.put_tables.Given as goal

abbrev pub invariant-loop-at : goal.invariant-loop-at
invariant-loop-at g l = record {
  writing : IsTrue g.D.Disk.honest → ForFiles l.fn.folder l.fn.files l.fn.tables (λ id next. Writing (g.D.Disk.meaning l.fn.disk) (g.D.Disk.meaning l.disk) id next l.fn.tables l.at);
  still : IsTrue g.D.Disk.honest → ForFilesOn (g.D.Disk.meaning l.fn.disk) l.fn.folder l.fn.files l.fn.tables (λ id records h. Still (g.D.Disk.meaning l.fn.disk) (g.D.Disk.meaning l.disk) id records h);
  served : IsTrue g.D.Disk.honest → ForFilesOn (g.D.Disk.meaning l.fn.disk) l.fn.folder l.fn.files l.fn.tables (λ id records h.
      IsServed (g.D.Disk.meaning l.fn.disk) (g.D.Disk.meaning l.disk) id h.last.next_table_id (length l.fn.tables));
  place : l.at ≤ length l.fn.tables;
  later : (g.D.Disk.meaning l.fn.disk).faults ≤ (g.D.Disk.meaning l.disk).faults;
}
