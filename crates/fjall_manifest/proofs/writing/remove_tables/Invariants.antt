use Rattle.std.proofs.Common.{◌≡◌, ◌≢◌, ℕ, ◌≤◌, ◌<◌, ◌^◌, All, List, IsTrue, map, string_bytes}
use Rattle.fjall_base.specs.Disk.{IsNoFolder, Name, state_in}
use Rattle.fjall_files.specs.Names.{keyspace_folder, table_name}
use Rattle.fjall_files.specs.Regions.{Within}
use Rattle.fjall_files.specs.Tidy.{StaysTidy}
use Rattle.fjall_manifest.specs.Records.{Fields}
use Rattle.fjall_manifest.specs.Homes.{Home, IsReady, Rests}
use Rattle.fjall_manifest.specs.Changes.{AreUnnamed}
use Rattle.fjall_manifest.proofs.Removals.{GoneSoFar, StillReady}
use Rattle.fjall_manifest.proofs.Runs.{Still}
use Rattle.fjall_manifest.proofs.writing.remove_tables.Given as goal

abbrev pub invariant-loop-name : goal.invariant-loop-name
invariant-loop-name g l = record {
  within : IsTrue g.D.Disk.honest → (id : ℕ) (ids : List ℕ) → map string_bytes l.fn.names ≡ map (table_name id) ids → Within (keyspace_folder id) (g.D.Disk.meaning l.fn.disk) (g.D.Disk.meaning l.disk);
  ready : IsTrue g.D.Disk.honest → (id : ℕ) (records : List Fields) (h : Home) (ids : List ℕ) → id < 2 ^ 64 → map string_bytes l.fn.names ≡ map (table_name id) ids → AreUnnamed h ids
      → IsReady (state_in (g.D.Disk.meaning l.fn.disk)) id records h → StillReady (g.D.Disk.meaning l.fn.disk) (g.D.Disk.meaning l.disk) id records h;
  rests : IsTrue g.D.Disk.honest → (id : ℕ) (records : List Fields) (h : Home) (ids : List ℕ) → id < 2 ^ 64 → map string_bytes l.fn.names ≡ map (table_name id) ids → AreUnnamed h ids
      → Rests (state_in (g.D.Disk.meaning l.fn.disk)) id records h → Still (g.D.Disk.meaning l.fn.disk) (g.D.Disk.meaning l.disk) id records h;
  served : IsTrue g.D.Disk.honest → (id : ℕ) (ids : List ℕ) → map string_bytes l.fn.names ≡ map (table_name id) ids → All (λ table. IsNoFolder (state_in (g.D.Disk.meaning l.fn.disk) (table_name id table)).now) ids
      → ((g.D.Disk.meaning l.disk).misuses ≡ (g.D.Disk.meaning l.fn.disk).misuses) × All (λ table. IsNoFolder (state_in (g.D.Disk.meaning l.disk) (table_name id table)).now) ids;
  beside : IsTrue g.D.Disk.honest → (q : Name) → All (λ name. q ≢ string_bytes name) l.fn.names → (state_in (g.D.Disk.meaning l.disk) q).now ≡ (state_in (g.D.Disk.meaning l.fn.disk) q).now;
  gone : IsTrue g.D.Disk.honest → (id : ℕ) (ids : List ℕ) → map string_bytes l.fn.names ≡ map (table_name id) ids → GoneSoFar (state_in (g.D.Disk.meaning l.disk)) id ids l.name-index;
  later : (g.D.Disk.meaning l.fn.disk).faults ≤ (g.D.Disk.meaning l.disk).faults;
  kinds : IsTrue g.D.Disk.honest → StaysTidy (g.D.Disk.meaning l.fn.disk) (g.D.Disk.meaning l.disk);
}
