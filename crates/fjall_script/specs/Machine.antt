-- The core, as a session drives it: what it holds, before and after. Over a disk that returns what it holds, as the one
-- in memory does, all is said that the core promises; over another one, as a folder, what needs no such premise.
use Rattle.std.specs.Prelude.{◌≡◌, ℕ, Bool, false, IsTrue, [], List, Result, Ok, ◌⊎◌}
use Rattle.fjall_journal.specs.declared.recovery_mode.RecoveryMode.{RecoveryMode}
use Rattle.fjall_journal.specs.declared.recovery_mode.RecoveryMode.TheVariants.{RefuseTornTail}
use Rattle.fjall_base.specs.Crash.{crashed}
use Rattle.fjall_base.specs.Disk.{Meaning, IsImage, IsImageBy, SurvivesWild, disk_of, standing, state_in}
use Rattle.fjall_base.specs.Store.{Command, Store}
use Rattle.fjall_base.specs.declared.error.Error.{Error}
use Rattle.fjall_base.specs.declared.error.Error.TheVariants.{Io, Locked, OutOfMemory}
use Rattle.fjall_disk_memory.specs.Wild.{Fills, filled}
use Rattle.fjall_meta.specs.Keyspaces.{no_keyspaces}
use Rattle.fjall_table.specs.Blocks.{Entry}
use Rattle.fjall_meta.specs.Replays.{bare}
use Rattle.fjall_recovery.specs.Refusals.{HasRisen, HasTornTail}
use Rattle.fjall_recovery.specs.Amid.{HoldsAmid}
use Rattle.fjall_machine.specs.Remembered.{AreBeside}
use Rattle.fjall_calls.specs.Holding.{Held}
use Rattle.fjall_calls.specs.Openings.{IsDueTo, KeepsStore, StandsWhenOpened, OpensAfterCrash, OpensAs, OpensFolder}
use Rattle.fjall_calls.specs.CoreStanding.{ClosesDisk, ClosesSafely, HoldsStore, OwesClosing, store_with_tables}

-- A core that was opened on this disk in this mode: it stands for what stands there, and where the mode refuses a torn tail of
-- the active journal, there was none. Where the disk held a store, whatever a crash
-- leaves of it, the core opened as that store, and a crash at each moment of the opening leaves it; where a crash of the
-- disk may leave different ones, as that which stands there. Over any disk at all it stands for what its trees show, whatever older
-- entries their tables have.
pub record OpenedOn (mode : RecoveryMode) (honest : Bool) (disk : Meaning) (core : Held) : Type 0 where
  pub untorn : IsTrue honest → mode ≡ RefuseTornTail → HasTornTail (standing (state_in disk)) → ⊥
  pub opened : IsTrue honest → OpensFolder disk core
  pub safe : IsTrue honest → (store : Store) → HoldsStore (state_in disk) store → OpensAs core store
  pub any_moment : IsTrue honest → KeepsStore disk core.disk
  pub amid : IsTrue honest → (base : Store) (pending : List Command) → HoldsAmid (state_in disk) base pending → OpensAfterCrash disk core base pending
  pub stands : (entries : ℕ → List (List Entry)) → AreBeside core.memory entries → (damaged : List ℕ) → StandsWhenOpened core (store_with_tables entries core) entries damaged core.memory.next

-- A core refused to be opened on this disk in this mode, for its cause: `Io` only where the count of faults rose. Whatever store the
-- disk held, a crash at each moment of the opening leaves it.
pub record RefusedOn (mode : RecoveryMode) (honest : Bool) (disk : Meaning) (error : Error) : Type 0 where
  pub after : Meaning
  pub due : IsTrue honest → IsDueTo mode disk after error
  pub any_moment : IsTrue honest → KeepsStore disk after
  pub risen : HasRisen disk.faults after.faults error

-- why there is nothing to open a core on: memory ran out; a folder may also fail, or be open already
abbrev pub IsNoDisk : Bool → Error → Type 0
IsNoDisk honest OutOfMemory = Unit {0}
IsNoDisk false (Io kind) = Unit {0}
IsNoDisk false Locked = Unit {0}
IsNoDisk honest error = ⊥

-- a disk on which nothing was ever put
abbrev pub new_disk : Meaning
new_disk = record { places = []; steps = []; faults = 0; misuses = 0 }

abbrev pub IsNew : Meaning → Type 0
IsNew disk = disk ≡ new_disk

-- a core that a session begins with: in memory, over a new disk, which holds no keyspace
pub record BeginsSession (mode : RecoveryMode) (honest : Bool) (core : Held) : Type 0 where
  pub disk : Meaning
  pub fresh : IsTrue honest → IsNew disk
  pub opened : OpenedOn mode honest disk core
  pub empty : IsTrue honest → OpensAs core (bare no_keyspaces)

-- the opening that a session begins with was refused
abbrev pub NotBegun : RecoveryMode → Bool → Error → Type 0
NotBegun mode honest error = IsNoDisk honest error ⊎ ((disk : Meaning) × (IsTrue honest → IsNew disk) × RefusedOn mode honest disk error)

-- A core that was opened on what a crash of the old one's disk left, so many unsynced bytes of each file: one of the
-- images that a crash may leave.
pub record Crashes (mode : RecoveryMode) (honest : Bool) (keep : ℕ) (old new : Held) : Type 0 where
  pub disk : Meaning
  pub image : IsTrue honest → IsImage (state_in old.disk) (crashed keep (state_in old.disk))
  pub left : IsTrue honest → state_in disk ≡ disk_of (crashed keep (state_in old.disk))
  pub opened : OpenedOn mode honest disk new

-- A core that was opened on what a wild crash of the old one's disk left: of each file its synced bytes, and behind them what was
-- given for it.
pub record CrashesWild (mode : RecoveryMode) (honest : Bool) (fills : Fills) (old new : Held) : Type 0 where
  pub disk : Meaning
  pub image : IsTrue honest → IsImageBy SurvivesWild (state_in old.disk) (filled fills (crashed 0 (state_in old.disk)))
  pub left : IsTrue honest → state_in disk ≡ disk_of (filled fills (crashed 0 (state_in old.disk)))
  pub opened : OpenedOn mode honest disk new

-- The core's disk after a closing, answered or refused. A crash meanwhile leaves a beginning of what was accepted, with all
-- that a sync made safe before; after an answer the disk holds all of it.
pub record ClosesCore (honest : Bool) (core : Held) (result : Result Unit Error) (disk : Meaning) : Type 0 where
  pub owes : OwesClosing core result disk
  pub took : IsTrue honest → ClosesDisk core result disk
  pub safe : IsTrue honest → ClosesSafely core result disk

-- a core that was opened again on the disk of the old one, which was closed, with success or not
pub record Reopens (mode : RecoveryMode) (honest : Bool) (old new : Held) : Type 0 where
  pub closing : Result Unit Error
  pub closed : Meaning
  pub closes : ClosesCore honest old closing closed
  pub disk : Meaning
  pub same : IsTrue honest → disk ≡ closed
  pub opened : OpenedOn mode honest disk new

-- the core was closed
pub record IsClosed (honest : Bool) (core : Held) : Type 0 where
  pub disk : Meaning
  pub closes : ClosesCore honest core (Ok tt) disk
