-- A core that a session begins with.
use Rattle.std.proofs.Common.{Bool, false, IsTrue, [], None, Result, Ok, Err, refl, subst, sym, inr}
use Rattle.std.specs.Prelude.{IfErr, IfOk}
use Rattle.fjall_journal.specs.declared.recovery_mode.RecoveryMode.{RecoveryMode}
use Rattle.fjall_base.specs.Disk.{DiskState, Meaning, Missing, standing, state_in}
use Rattle.fjall_base.specs.declared.error.Error.{Error}
use Rattle.fjall_meta.specs.Keyspaces.{no_keyspaces}
use Rattle.fjall_meta.specs.Replays.{bare}
use Rattle.fjall_recovery.specs.Folders.{IsUnfinished}
use Rattle.fjall_repair.specs.Making.{IsKept}
use Rattle.fjall_repair.proofs.Standing.{kept_image, missing_stands, unfinished_of}
use Rattle.fjall_repair.proofs.Begun.{settled_comes_back}
use Rattle.fjall_calls.specs.Holding.{Held}
use Rattle.fjall_calls.specs.CoreStanding.{HoldsStore}
use Rattle.fjall_script.specs.Machine.{BeginsSession, IsNew, NotBegun, OpenedOn, RefusedOn}

-- nothing stands anywhere
abbrev bare_state : DiskState
bare_state name = record { now = Missing; older = [] }

bare_kept : IsKept false bare_state
bare_kept = record { now = λ name. missing_stands false name; older = λ name. tt }

bare_unfinished : IsUnfinished (standing bare_state)
bare_unfinished = unfinished_of (standing bare_state) (λ name. missing_stands false name)

pub bare_holds : HoldsStore bare_state (bare no_keyspaces)
bare_holds = (
  None,
  record { now = bare_unfinished; crash = λ image is. unfinished_of image (kept_image false bare_state image bare_kept is) },
  settled_comes_back bare_state (λ name. refl) bare_unfinished,
  refl,
)

-- a new disk holds the store without keyspaces
new_holds : (disk : Meaning) → IsNew disk → HoldsStore (state_in disk) (bare no_keyspaces)
new_holds disk new = subst (λ (d : Meaning). HoldsStore (state_in d) (bare no_keyspaces)) (sym new) bare_holds

pub begun : {Opened : Type 0} (mode : RecoveryMode) (honest : Bool) (disk : Meaning) (r : Result Opened Error) (engine : Opened → Held) → (IsTrue honest → IsNew disk)
    → IfOk r (λ core. OpenedOn mode honest disk (engine core)) → IfOk r (λ core. BeginsSession mode honest (engine core))
begun mode honest disk (Ok core) engine fresh opened = record {
  disk = disk;
  fresh = fresh;
  opened = opened;
  empty = λ h. opened.safe h (bare no_keyspaces) (new_holds disk (fresh h));
}
begun mode honest disk (Err error) engine fresh opened = tt

-- the opening was refused
pub not_begun : {Opened : Type 0} (mode : RecoveryMode) (honest : Bool) (disk : Meaning) (r : Result Opened Error) → (IsTrue honest → IsNew disk) → IfErr r (λ error. RefusedOn mode honest disk error) → IfErr r (λ error. NotBegun mode honest error)
not_begun mode honest disk (Ok core) fresh h = tt
not_begun mode honest disk (Err error) fresh h = inr (disk, fresh, h)
