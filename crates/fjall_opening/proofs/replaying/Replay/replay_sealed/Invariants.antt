use Rattle.std.proofs.Common.{◌≡◌, ◌≤◌, ◌++◌, [], List, map, take}
use Rattle.std.specs.Prelude.{IsTrue}
use Rattle.std.specs.List.{AllByRecursion}
use Rattle.fjall_base.specs.Disk.{Took, standing, state_in}
use Rattle.fjall_journal.specs.Batches.{Shown, shown}
use Rattle.fjall_recovery.specs.Journals.{IsSealed, WholeJournal, batches_in}
use Rattle.fjall_trees.specs.Forests.{Forest}
use Rattle.fjall_opening.specs.Replaying.{IsUnderway, MayGoOn}
use Rattle.fjall_opening.proofs.replaying.Replay.replay_sealed.Given as goal

abbrev pub invariant-loop-id : goal.invariant-loop-id
invariant-loop-id g l = record {
  ended : MayGoOn l.self l.progress;
  some : (loaded : Forest) (front : List Shown) → IsUnderway l.self loaded front l.fn.progress → (more : List Shown) × IsUnderway l.self loaded (front ++ more) l.progress;
  ok : IsTrue g.D.Disk.honest → (journals : List WholeJournal) → map (λ j. j.id) journals ≡ l.ids → AllByRecursion (IsSealed (standing (state_in (g.D.Disk.meaning l.fn.disk)))) journals
      → (loaded : Forest) (front : List Shown) → IsUnderway l.self loaded front l.fn.progress → IsUnderway l.self loaded (front ++ map shown (batches_in (take l.id-index journals))) l.progress;
  same : IsTrue g.D.Disk.honest → Took (g.D.Disk.meaning l.fn.disk) (g.D.Disk.meaning l.disk) [];
  served : IsTrue g.D.Disk.honest → (g.D.Disk.meaning l.disk).misuses ≡ (g.D.Disk.meaning l.fn.disk).misuses;
  later : (g.D.Disk.meaning l.fn.disk).faults ≤ (g.D.Disk.meaning l.disk).faults;
}
