use Rattle.std.proofs.Common.{◌≡◌, ◌≤◌, [], All, List, map, take}
use Rattle.std.specs.Prelude.{IsTrue, string_bytes}
use Rattle.fjall_base.specs.Disk.{Took, state_in}
use Rattle.fjall_meta.specs.declared.living.LivingKeyspace.{LivingKeyspace}
use Rattle.fjall_repair.specs.Sweeps.{AreHomesOf, FindsTables, IsUnnamedTable, names_of}
use Rattle.fjall_repair.proofs.Listings.{FindsTablesIn}
use Rattle.fjall_repair.proofs.plan.list_all_tables.Given as goal

abbrev pub invariant-loop-home : goal.invariant-loop-home
invariant-loop-home g l = record {
  unnamed : IsTrue g.D.Disk.honest → (living : List LivingKeyspace) → AreHomesOf living l.homes → All (λ name. IsUnnamedTable (names_of l.tree l.homes) living (string_bytes name)) l.names.items;
  tree : IsTrue g.D.Disk.honest → FindsTables (state_in (g.D.Disk.meaning l.fn.disk)) (names_of l.tree l.homes) (map string_bytes l.names.items);
  others : IsTrue g.D.Disk.honest → (living : List LivingKeyspace) → AreHomesOf living l.homes → FindsTablesIn (state_in (g.D.Disk.meaning l.fn.disk)) (names_of l.tree l.homes) (take l.home-index l.homes) (map string_bytes l.names.items);
  same : IsTrue g.D.Disk.honest → Took (g.D.Disk.meaning l.fn.disk) (g.D.Disk.meaning l.disk) [];
  served : IsTrue g.D.Disk.honest → (g.D.Disk.meaning l.disk).misuses ≡ (g.D.Disk.meaning l.fn.disk).misuses;
  later : (g.D.Disk.meaning l.fn.disk).faults ≤ (g.D.Disk.meaning l.disk).faults;
}
