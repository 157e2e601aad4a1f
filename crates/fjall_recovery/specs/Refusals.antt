-- Why a folder is refused: the first fault in the order in which it is read.
use Rattle.std.specs.Prelude.{◌≡◌, ◌≢◌, ◌⊎◌, ℕ, Bool, true, false, List, [], ◌∷◌, codes, map, None, Some, Ok, Err}
use Rattle.fjall_base.specs.Disk.{Folder, Image}
use Rattle.fjall_base.specs.Errors.{Rose}
use Rattle.fjall_base.specs.declared.error.Error.{Error}
use Rattle.fjall_base.specs.declared.error.Error.TheVariants.{InvalidTag, InvalidVersion, Io, JournalRecovery, OutOfMemory, Storage, Unrecoverable}
use Rattle.fjall_base.specs.declared.error.FormatVersion.TheVariants.{V3}
use Rattle.fjall_base.specs.declared.error.StorageError.TheVariants.{RecordDamaged, TableDamaged}
use Rattle.fjall_journal.specs.declared.batch.Tail.{Tail}
use Rattle.fjall_journal.specs.declared.recovery_mode.RecoveryMode.{RecoveryMode}
use Rattle.fjall_journal.specs.declared.recovery_mode.RecoveryMode.TheVariants.{RefuseTornTail, TolerateCorruptTail}
use Rattle.fjall_journal.specs.declared.batch.Tail.TheVariants.{Clean, Torn, Damaged}
use Rattle.fjall_journal.specs.Batches.{Written, shown}
use Rattle.fjall_meta.specs.Replays.{first_fault, least_after, NamesFault}
use Rattle.fjall_manifest.specs.Records.{Fields, HasContradiction}
use Rattle.fjall_meta.specs.Keyspaces.{Keyspaces}
use Rattle.fjall_meta.specs.declared.living.LivingKeyspace.{LivingKeyspace}
use Rattle.fjall_base.specs.declared.error.JournalRecoveryError.TheVariants.{InvalidFileName, TornTail}
use Rattle.fjall_files.specs.declared.marker.Marker.{Marker}
use Rattle.fjall_files.specs.declared.marker.Marker.TheVariants.{Whole, Unfinished}
use Rattle.fjall_files.specs.Marker.{marker_tells}
use Rattle.fjall_files.specs.Names.{keyspace_folder}
use Rattle.fjall_manifest.specs.declared.catalog.Catalog.{Catalog}
use Rattle.fjall_manifest.specs.Catalog.{Says, records_in}
use Rattle.fjall_manifest.specs.Refusals.{IsCatalogDamage}
use Rattle.fjall_recovery.specs.Folders.{AreEmpty, AreMade, IsBegun, marker_bytes}
use Rattle.fjall_manifest.specs.Homes.{Home}
use Rattle.fjall_manifest.specs.Reading as home
use Rattle.fjall_table.specs.Tables.{Handle}
use Rattle.fjall_recovery.specs.Homes.{ClearsAreWithin, HasOpenableHome}
use Rattle.fjall_recovery.specs.Journals.{EndsAt, WholeJournal, ReadsAs, AreJournalIds, HoldsJournals, journal_text}
use Rattle.fjall_recovery.specs.Naming.{JournalsAreNamed, KeyspacesAreNamed}

-- `Io` is answered only where the count of faults rose
abbrev pub HasRisen : ℕ → ℕ → Error → Type 0
HasRisen old new (Io kind) = Rose old new
HasRisen old new error = Unit {0}

-- over a disk that returns what it holds: memory ran out, the disk failed, or this is the cause
abbrev pub IsDue : (Error → Type 0) → Error → Type 0
IsDue Cause OutOfMemory = Unit {0}
IsDue Cause (Io kind) = Unit {0}
IsDue Cause error = Cause error

-- Two errors are one: the text in an error counts by its bytes, wherever it lies in memory.
abbrev pub AreOne : Error → Error → Type 0
AreOne (InvalidTag tag) (InvalidTag other) = (tag.0.now ≡ other.0.now) × (tag.1 ≡ other.1)
AreOne error other = error ≡ other

-- no journal stands behind this one
abbrev pub is_last : List ℕ → Bool
is_last [] = true
is_last (id ∷ ids) = false

-- A tail refuses its journal: a damage by its name, and a torn one where another journal stands behind.
abbrev pub TailRefuses : Bool → Tail → Error → Type 0
TailRefuses last (Damaged damage) (JournalRecovery told) = told ≡ damage
TailRefuses false Torn Unrecoverable = Unit {0}
TailRefuses last tail error = ⊥

-- Why these journals are refused, where the first batch may have that number or a greater one: of each journal the
-- batches are looked at in order, and then the tail; the journals before it are sealed and have no fault.
abbrev pub JournalsRefuse : Image → ℕ → List ℕ → Error → Type 0
JournalsRefuse image least [] error = ⊥
JournalsRefuse image least (id ∷ ids) error =
    (batches : List Written) × (tail : Tail) × ReadsAs (journal_text image id) batches tail
    × (NamesFault (first_fault least (map shown batches)) error
    ⊎ ((first_fault least (map shown batches) ≡ None)
    × (TailRefuses (is_last ids) tail error ⊎ ((tail ≡ Clean) × JournalsRefuse image (least_after least (map shown batches)) ids error))))

-- The home is right but for a clear of its last record, which is beyond the persisted number.
pub record HasClearBeyond (image : Image) (id : ℕ) : Type 0 where
  pub records : List Fields
  pub h : Home
  pub indexes : List (List Handle)
  pub openable : home.IsHomeOpenable image id records h indexes
  pub beyond : ClearsAreWithin h.last → ⊥

-- Why a keyspace that lives is refused: it has no folder; its records or a table that the last of them names are damaged; or
-- a clear of that record is beyond the persisted number.
abbrev pub HomeRefuses : Image → ℕ → Error → Type 0
HomeRefuses image id Unrecoverable = image (keyspace_folder id) ≢ Folder
HomeRefuses image id (Storage cause) =
    (image (keyspace_folder id) ≡ Folder) × (home.IsDamage image id cause ⊎ ((cause ≡ RecordDamaged) × HasClearBeyond image id))
HomeRefuses image id error = ⊥

-- the first of these keyspaces that is refused, where those before it aren't
abbrev pub HomesRefuse : Image → List LivingKeyspace → Error → Type 0
HomesRefuse image [] error = ⊥
HomesRefuse image (k ∷ living) error = HomeRefuses image k.id error ⊎ (((h : Home) × HasOpenableHome image k.id h) × HomesRefuse image living error)

-- the image says of no keyspaces that they live
abbrev pub SaysNothing : Image → Type 0
SaysNothing image = (records : List Fields) (last : Catalog) (s : Keyspaces) → Says image records last s → ⊥

-- why the catalog or a keyspace that it names is refused
abbrev pub CatalogRefuses : Image → Error → Type 0
CatalogRefuses image (Storage cause) =
    (IsCatalogDamage image cause × SaysNothing image)
    ⊎ ((records : List Fields) × (last : Catalog) × (s : Keyspaces) × Says image records last s
    × (((cause ≡ TableDamaged) × (AreMade last s → ⊥)) ⊎ (AreMade last s × HomesRefuse image s.living (Storage cause))))
CatalogRefuses image error =
    (records : List Fields) × (last : Catalog) × (s : Keyspaces) × Says image records last s × AreMade last s × HomesRefuse image s.living error

-- the folder of tree 0, and what it says
abbrev pub TreeRefuses : Image → Error → Type 0
TreeRefuses image error =
    ((error ≡ Unrecoverable) × (image (keyspace_folder 0) ≢ Folder))
    ⊎ ((image (keyspace_folder 0) ≡ Folder) × CatalogRefuses image error)

-- the names in `keyspaces`, and then what stands there
abbrev pub KeyspacesRefuse : Image → Error → Type 0
KeyspacesRefuse image error = ((error ≡ Unrecoverable) × (KeyspacesAreNamed image → ⊥)) ⊎ (KeyspacesAreNamed image × TreeRefuses image error)

-- Why a folder that was made to its end is refused: the journals are read first, and then the keyspaces.
abbrev pub FinishedRefuses : Image → Error → Type 0
FinishedRefuses image error =
    ((ids : List ℕ) × AreJournalIds image ids × JournalsRefuse image 0 ids error)
    ⊎ (((journals : List WholeJournal) × HoldsJournals image journals) × KeyspacesRefuse image error)

-- Why what there is of tree 0 refuses to be gone on with: a whole record contradicts itself; or none does, and others
-- than the first one stand there.
abbrev pub BegunRefuses : List ℕ → Error → Type 0
BegunRefuses text (Storage RecordDamaged) = HasContradiction text
BegunRefuses text Unrecoverable = (HasContradiction text → ⊥) × (IsBegun text → ⊥)
BegunRefuses text error = ⊥

-- Why a folder whose making was cut short is refused: something was written into it.
abbrev pub UnfinishedRefuses : Image → Error → Type 0
UnfinishedRefuses image error =
    ((error ≡ Unrecoverable) × (AreEmpty image → ⊥))
    ⊎ (AreEmpty image × (((error ≡ Unrecoverable) × (KeyspacesAreNamed image → ⊥)) ⊎ (KeyspacesAreNamed image × BegunRefuses (records_in image) error)))

abbrev pub PartsRefuse : Marker → Image → Error → Type 0
PartsRefuse Whole image error = FinishedRefuses image error
PartsRefuse Unfinished image error = UnfinishedRefuses image error

-- Why a folder is refused: its marker is looked at first, then the names in the root, and then its parts.
abbrev pub FolderRefuses : Image → Error → Type 0
FolderRefuses image error =
    (marker_tells (marker_bytes image) ≡ Err error)
    ⊎ ((marker : Marker) × (marker_tells (marker_bytes image) ≡ Ok marker)
    × (((error ≡ JournalRecovery InvalidFileName) × (JournalsAreNamed image → ⊥)) ⊎ (JournalsAreNamed image × PartsRefuse marker image error)))

-- ---- the mode that refuses a torn tail

-- no journal has a fault, and behind the whole batches of the active one stands a torn tail
pub record HasTornEnd (image : Image) : Type 0 where
  pub journals : List WholeJournal
  pub holds : HoldsJournals image journals
  pub end : ℕ
  pub ends : EndsAt image journals end true

-- the folder was made to its end, no name in its root is wrong, and its active journal has a torn tail
pub record HasTornTail (image : Image) : Type 0 where
  pub marker : marker_tells (marker_bytes image) ≡ Ok Whole
  pub named : JournalsAreNamed image
  pub torn : HasTornEnd image

-- What a mode makes of refusals: one of them refuses a torn tail by its name, and whatever has none as ever.
abbrev pub RefusesBy : RecoveryMode → Type 0 → (Error → Type 0) → Error → Type 0
RefusesBy TolerateCorruptTail IsTorn Refuses error = Refuses error
RefusesBy RefuseTornTail IsTorn Refuses error = (IsTorn × (error ≡ JournalRecovery TornTail)) ⊎ ((IsTorn → ⊥) × Refuses error)

-- why a folder that was made to its end is refused in a mode
abbrev pub FinishedRefusesIn : RecoveryMode → Image → Error → Type 0
FinishedRefusesIn mode image = RefusesBy mode (HasTornEnd image) (FinishedRefuses image)

-- Why a folder is refused in a mode.
abbrev pub FolderRefusesIn : RecoveryMode → Image → Error → Type 0
FolderRefusesIn mode image = RefusesBy mode (HasTornTail image) (FolderRefuses image)

-- the mode refuses a torn tail, and there is one
abbrev pub IsTornTail : RecoveryMode → Type 0 → Error → Type 0
IsTornTail mode IsTorn error = (mode ≡ RefuseTornTail) × IsTorn × (error ≡ JournalRecovery TornTail)

-- What an opening may be refused with, over any disk at all: a fault of the disk or want of memory; damage of tables,
-- records and stored options; damage of journals and names nearly like theirs; a marker of another version than the one
-- that is read; the value type 4, which no journal has; and files that contradict each other.
abbrev pub IsOpeningRefusal : Error → Type 0
IsOpeningRefusal (Io kind) = Unit {0}
IsOpeningRefusal OutOfMemory = Unit {0}
IsOpeningRefusal (Storage cause) = Unit {0}
IsOpeningRefusal (JournalRecovery cause) = Unit {0}
IsOpeningRefusal (InvalidVersion version) = version ≢ Some V3
IsOpeningRefusal (InvalidTag tag) = (tag.0.now ≡ codes "ValueType") × (tag.1 ≡ 4)
IsOpeningRefusal Unrecoverable = Unit {0}
IsOpeningRefusal error = ⊥
