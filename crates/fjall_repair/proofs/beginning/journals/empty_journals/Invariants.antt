use Rattle.std.proofs.Common.{◌≡◌, ◌≢◌, ◌<◌, ◌≤◌, ◌^◌, ℕ, All, List, map, take, false}
use Rattle.std.specs.Prelude.{IsTrue, string_bytes}
use Rattle.fjall_base.specs.Disk.{Name, state_in}
use Rattle.fjall_files.specs.Names.{journal_name}
use Rattle.fjall_files.specs.Tidy.{IsTidy, StaysTidy}
use Rattle.fjall_repair.specs.Making.{MakingGoesOn}
use Rattle.fjall_repair.proofs.Emptying.{AreEmptied}
use Rattle.fjall_repair.proofs.beginning.journals.empty_journals.Given as goal

abbrev pub invariant-loop-name : goal.invariant-loop-name
invariant-loop-name g l = record {
  goes : IsTrue g.D.Disk.honest → (ids : List ℕ) → All (λ id. id < 2 ^ 64) ids → map string_bytes l.names ≡ map journal_name ids → MakingGoesOn false (g.D.Disk.meaning l.fn.disk) (g.D.Disk.meaning l.disk);
  elsewhere : IsTrue g.D.Disk.honest → (q : Name) → All (λ name. q ≢ string_bytes name) l.names → state_in (g.D.Disk.meaning l.disk) q ≡ state_in (g.D.Disk.meaning l.fn.disk) q;
  emptied : IsTrue g.D.Disk.honest → AreEmptied string_bytes (state_in (g.D.Disk.meaning l.disk)) (take l.name-index l.names);
  kinds : IsTrue g.D.Disk.honest → (ids : List ℕ) → All (λ id. id < 2 ^ 64) ids → map string_bytes l.names ≡ map journal_name ids → StaysTidy (g.D.Disk.meaning l.fn.disk) (g.D.Disk.meaning l.disk);
  served : IsTrue g.D.Disk.honest → IsTidy (state_in (g.D.Disk.meaning l.fn.disk)) → (ids : List ℕ) → All (λ id. id < 2 ^ 64) ids → map string_bytes l.names ≡ map journal_name ids → (g.D.Disk.meaning l.disk).misuses ≡ (g.D.Disk.meaning l.fn.disk).misuses;
  later : (g.D.Disk.meaning l.fn.disk).faults ≤ (g.D.Disk.meaning l.disk).faults;
}
