use Rattle.std.proofs.Common.{◌≡◌, ◌≤◌, ◌++◌, ◌∷◌, [], false, ℕ, map, take, drop}
use Rattle.std.specs.Prelude.{IsTrue}
use Rattle.fjall_base.specs.declared.error.Error.{Error}
use Rattle.fjall_base.specs.Disk.{Took, standing, state_in}
use Rattle.fjall_recovery.specs.Journals.{AreSealed}
use Rattle.fjall_recovery.specs.Told.{AreSealedAs}
use Rattle.fjall_recovery.specs.Refusals.{JournalsRefuse}
use Rattle.fjall_recovery.proofs.journals.read_sealed.Given as goal

abbrev pub invariant-loop-id : goal.invariant-loop-id
invariant-loop-id g l = record {
  found : IsTrue g.D.Disk.honest → AreSealed (standing (state_in (g.D.Disk.meaning l.fn.disk))) (take l.id-index l.ids) l.journals.least;
  torn : l.journals.torn ≡ false;
  told : IsTrue g.D.Disk.honest → AreSealedAs (standing (state_in (g.D.Disk.meaning l.fn.disk))) (take l.id-index l.ids) l.journals.sealed;
  ids : map (λ s. s.id) l.journals.sealed ≡ take l.id-index l.ids;
  same : IsTrue g.D.Disk.honest → Took (g.D.Disk.meaning l.fn.disk) (g.D.Disk.meaning l.disk) [];
  served : IsTrue g.D.Disk.honest → (g.D.Disk.meaning l.disk).misuses ≡ (g.D.Disk.meaning l.fn.disk).misuses;
  later : (g.D.Disk.meaning l.fn.disk).faults ≤ (g.D.Disk.meaning l.disk).faults;
  cause : IsTrue g.D.Disk.honest → (active : ℕ) (error : Error)
      → JournalsRefuse (standing (state_in (g.D.Disk.meaning l.fn.disk))) l.journals.least (drop l.id-index l.ids ++ active ∷ []) error
      → JournalsRefuse (standing (state_in (g.D.Disk.meaning l.fn.disk))) 0 (l.ids ++ active ∷ []) error;
}
