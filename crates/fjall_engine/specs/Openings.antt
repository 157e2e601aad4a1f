-- What opening makes of a disk.
use Rattle.std.specs.Prelude.{◌≡◌, ◌⊎◌, ℕ, true, List, [], length, Option, Err, unwrap_or}
use Rattle.fjall_base.specs.Store.{Store, Command, fold, kept}
use Rattle.fjall_base.specs.Disk.{DiskState, DiskStep, Image, Leaves, LeavesBy, LeavesOnly, Meaning, Took, disk_of, standing, state_in}
use Rattle.fjall_base.specs.declared.error.Error.{Error}
use Rattle.fjall_base.specs.declared.error.Error.TheVariants.{Io}
use Rattle.fjall_files.specs.Tidy.{StaysTidy}
use Rattle.fjall_files.specs.Regions.{IsSafe}
use Rattle.std.specs.List.{AllByRecursion}
use Rattle.fjall_files.specs.Names.{journal_name}
use Rattle.fjall_files.specs.Journals.{Sealed}
use Rattle.fjall_journal.specs.Writer.{Journal}
use Rattle.fjall_journal.specs.declared.recovery_mode.RecoveryMode.{RecoveryMode}
use Rattle.std.specs.FinMap.{get}
use Rattle.fjall_recovery.specs.Folders as folders
use Rattle.fjall_recovery.specs.Folders.{Contents}
use Rattle.fjall_recovery.specs.Refusals.{FolderRefusesIn, HasTornTail, IsDue, IsTornTail}
use Rattle.fjall_recovery.specs.Amid.{HoldsAmid, IsBeginning, StandsAmid}
use Rattle.fjall_recovery.specs.Held.{IsOpenFolder, number_held}
use Rattle.fjall_recovery.specs.Homes.{no_fields}
use Rattle.fjall_recovery.specs.Wild.{SurvivesUnforged}
use Rattle.fjall_opening.specs.Opened.{AreLeftIn, HaveEntriesIn, IsSomeFolder, store_entries}
use Rattle.fjall_table.specs.Blocks.{Entry}
use Rattle.fjall_table_reader.specs.Readers.{SomeTableIsWrong}
use Rattle.fjall_trees.specs.Tables.{shape_in}
use Rattle.fjall_machine.specs.Machine as machine
use Rattle.fjall_machine.specs.Machine.{Parts, is_among, opened_state}
use Rattle.fjall_engine.specs.Holding.{Held}
use Rattle.fjall_engine.specs.Standing.{HoldsStore, ReadsOn, StandsFor, StandsOn, reply_of}
use Rattle.fjall_repair.specs.Sweeps.{IsSwept}
use Rattle.fjall_engine.specs.Crashes.{BlamesDevice}

-- the parts that a core's counts and reads speak of, where its tables have these entries
abbrev pub parts_of : Held → (ℕ → List (List Entry)) → Parts
parts_of core entries = record {
  journals = core.memory.journals;
  journal = core.journal.len;
  buffer = length core.journal.buffer;
  table = core.catalog.next_table_id;
  trees = core.memory.trees;
  entries = entries;
  records = λ id. unwrap_or (get core.memory.records id) no_fields;
}

-- a core that was just opened as this store, whose tables have these entries, of which these keyspaces are damaged, and whose next
-- command takes this number
abbrev pub state_when_opened : Held → Store → (ℕ → List (List Entry)) → List ℕ → ℕ → machine.State
state_when_opened core store entries damaged next = opened_state store damaged next (parts_of core entries)

abbrev pub StandsWhenOpened : Held → Store → (ℕ → List (List Entry)) → List ℕ → ℕ → Type 0
StandsWhenOpened core store entries damaged next = StandsFor core (state_when_opened core store entries damaged next)

-- The tables of these keyspaces have a wrong block on the core's disk, if any do.
abbrev pub AreAllDamaged : Held → List ℕ → Type 0
AreAllDamaged core damaged = (id : ℕ) → SomeTableIsWrong core.disk (shape_in id core.memory.trees).tables → is_among damaged id ≡ true

-- A core that was opened on what stands there, a folder that opens: in memory it has what the journals left there, a sealed memtable of a
-- keyspace for each sealed journal that has something of it beyond its home. Whatever its tables have, but for wrong blocks, it stands for
-- the store of that, its disk has these tables, and those keyspaces are damaged that have a wrong block.
pub record OpensFolder (old : Meaning) (core : Held) : Type 0 where
  pub folder : Option Contents
  pub is : IsOpenFolder (standing (state_in old)) folder
  pub left : AreLeftIn folder core.memory.trees
  pub opens : (entries : ℕ → List (List Entry)) → HaveEntriesIn old folder entries → (damaged : List ℕ) → AreAllDamaged core damaged
      → StandsWhenOpened core (store_entries entries folder) entries damaged (number_held folder) × ReadsOn core (state_when_opened core (store_entries entries folder) entries damaged (number_held folder))

-- Over a disk that returns what it holds, a refusal but `Io` is due to the folder in this mode or to want of memory, and the
-- disk holds what it held; after `Io` it does so too, or what stood there is a folder that opens.
abbrev pub IsDueTo : RecoveryMode → Meaning → Meaning → Error → Type 0
IsDueTo mode old new (Io kind) = Took old new [] ⊎ IsSomeFolder (standing (state_in old))
IsDueTo mode old new error = IsDue (FolderRefusesIn mode (standing (state_in old))) error × Took old new []

-- whatever store the disk held, a crash at each moment from old to new leaves that store
abbrev pub KeepsStore : Meaning → Meaning → Type 0
KeepsStore old new = (store : Store) → HoldsStore (state_in old) store → LeavesOnly old new (λ image. folders.ImageStandsFor image store)

-- The writer goes on at the end of its file, all of which is synced, and its length is the file's; nothing waits.
pub record IsAtEnd (state : DiskState) (writer : Journal) : Type 0 where
  pub text : List ℕ
  pub file : IsSafe state writer.name text
  pub len : writer.len ≡ length text
  pub buffer : writer.buffer ≡ []

-- The file of each sealed journal is synced, and its length is the one that is known.
abbrev pub AreWhole : DiskState → List Sealed → Type 0
AreWhole state sealed = AllByRecursion (λ s. (text : List ℕ) × IsSafe state (journal_name s.id) text × (s.len ≡ length text)) sealed

-- A core that was just opened stands for this store, with it as its base, nothing is pending, and no keyspace is damaged. Its disk
-- has the tables of all keyspaces.
pub record OpensAs (core : Held) (store : Store) : Type 0 where
  pub next : ℕ
  pub entries : ℕ → List (List Entry)
  pub state : StandsWhenOpened core store entries [] next
  pub reads : ReadsOn core (state_when_opened core store entries [] next)
  pub journal : IsAtEnd (state_in core.disk) core.journal
  pub sealed : AreWhole (state_in core.disk) core.memory.journals.sealed
  pub base : StandsOn core entries (record { meaning = core.disk; base = store; pending = [] })

-- A core that was opened on a disk of which a crash might leave different stores: it stands for what stood there, the base
-- with a beginning of the pending commands, and so did whatever a crash during the opening left. Each step put at a name
-- only what may stand there.
pub record OpensAfterCrash (old : Meaning) (core : Held) (base : Store) (pending : List Command) : Type 0 where
  pub front : List Command
  pub within : IsBeginning front pending
  pub opens : OpensAs core (kept (fold base front))
  pub any_moment : LeavesOnly old core.disk (StandsAmid base [] pending)
  pub kinds : StaysTidy old core.disk

-- An opening of such a disk that was refused: at each moment of it a crash left the same, and the disk holds the same.
pub record StaysAmid (old new : Meaning) (base : Store) (pending : List Command) : Type 0 where
  pub holds : HoldsAmid (state_in new) base pending
  pub any_moment : LeavesOnly old new (StandsAmid base [] pending)
  pub kinds : StaysTidy old new

-- nothing of the engine's own is left on the disk that no record of the core's names
abbrev pub Sweeps : Meaning → Held → Type 0
Sweeps old core = IsSwept (state_in old) (state_in core.disk) core.catalog core.memory.keyspaces.living

-- what stands on the disk is refused with this error in this mode
abbrev pub RefusesFolder : RecoveryMode → Meaning → Error → Type 0
RefusesFolder mode disk error = FolderRefusesIn mode (standing (state_in disk)) error

-- the device is to blame where an opening was refused with `Io`
abbrev pub RefusalBlames : Error → Meaning → Meaning → Type 0
RefusalBlames error old new = BlamesDevice (reply_of (Err error)) old new

-- for whatever base, with a beginning of which commands, the disk holds
abbrev pub ForHeld : Meaning → (Store → List Command → Type 0) → Type 0
ForHeld disk Holds = (base : Store) (pending : List Command) → HoldsAmid (state_in disk) base pending → Holds base pending

-- ---- wild crashes

-- A wild crash left what is on the disk: at some moment of steps of some disk, of each file the synced bytes and any others behind
-- them that forge nothing. Of whatever a usual crash leaves at the moments of these steps this is so.
pub record IsLeftWildly (disk : DiskState) (IsSo : Image → Type 0) : Type 0 where
  pub old : DiskState
  pub steps : List DiskStep
  pub usual : (image : Image) → Leaves old steps image → IsSo image
  pub image : Image
  pub left : LeavesBy SurvivesUnforged old steps image
  pub put : disk ≡ disk_of image

-- The core opened as the base with a beginning of all these commands, which has at least those.
pub record OpensBetween (core : Held) (base : Store) (least all : List Command) : Type 0 where
  pub front : List Command
  pub holds : IsBeginning least front
  pub within : IsBeginning front all
  pub opens : OpensAs core (kept (fold base front))

-- Refused by name in this mode: what stands on the disk is no folder that opens, but for a torn tail that the mode refuses; and
-- nothing has changed.
pub record IsRefusedByName (mode : RecoveryMode) (old new : Meaning) (error : Error) : Type 0 where
  pub unsound : (folder : Option Contents) → IsOpenFolder (standing (state_in old)) folder → IsTornTail mode (HasTornTail (standing (state_in old))) error
  pub same : Took old new []
