use Rattle.std.proofs.Common.{◌≡◌, ◌≤◌, All, List, take}
use Rattle.std.specs.Prelude.{IsTrue}
use Rattle.std.specs.List.{Contains, flat_map}
use Rattle.fjall_base.specs.Disk.{state_in}
use Rattle.fjall_files.specs.Tidy.{IsTidy, StaysTidy}
use Rattle.fjall_meta.specs.declared.living.LivingKeyspace.{LivingKeyspace}
use Rattle.fjall_repair.specs.Sweeps.{HasAll, IsUnnamedHome, NamesAreGone, RemovesNames, home_names}
use Rattle.fjall_repair.proofs.sweeping.remove_homes.Given as goal

abbrev pub invariant-loop-home : goal.invariant-loop-home
invariant-loop-home g l = record {
  removes : IsTrue g.D.Disk.honest → RemovesNames (Contains (flat_map home_names l.homes)) (g.D.Disk.meaning l.fn.disk) (g.D.Disk.meaning l.disk);
  gone : IsTrue g.D.Disk.honest → NamesAreGone (state_in (g.D.Disk.meaning l.disk)) (flat_map home_names (take l.home-index l.homes));
  kinds : IsTrue g.D.Disk.honest → StaysTidy (g.D.Disk.meaning l.fn.disk) (g.D.Disk.meaning l.disk);
  served : IsTrue g.D.Disk.honest → IsTidy (state_in (g.D.Disk.meaning l.fn.disk)) → (living : List LivingKeyspace) → All (IsUnnamedHome living) l.homes → All (HasAll (state_in (g.D.Disk.meaning l.fn.disk))) l.homes → (g.D.Disk.meaning l.disk).misuses ≡ (g.D.Disk.meaning l.fn.disk).misuses;
  later : (g.D.Disk.meaning l.fn.disk).faults ≤ (g.D.Disk.meaning l.disk).faults;
}
