-- What an image of a whole folder says, and the store that it stands for.
use Rattle.std.specs.Prelude.{◌≡◌, ◌⊎◌, ℕ, ◌+◌, ◌-◌, ◌<◌, ◌^◌, ◌++◌, max, All, List, [], ◌∷◌, length, map, take, codes, Option, Some, None, Ok}
use Rattle.std.specs.List.Sorted.{IsStrictlyIncreasing}
use Rattle.fjall_base.specs.Store.{Store}
use Rattle.fjall_base.specs.Disk.{DiskEntry, File, Folder, Image}
use Rattle.fjall_journal.specs.Batches.{NoneAt, shown}
use Rattle.fjall_manifest.specs.Records.{Fields, IsRecords}
use Rattle.fjall_manifest.specs.Records as records
use Rattle.fjall_meta.specs.Keyspaces.{Keyspaces, no_keyspaces}
use Rattle.fjall_files.specs.declared.marker.Marker.TheVariants.{Whole, Unfinished}
use Rattle.fjall_files.specs.Marker.{marker_tells}
use Rattle.fjall_files.specs.Names.{keyspace_folder}
use Rattle.fjall_manifest.specs.declared.catalog.Catalog.{Catalog}
use Rattle.fjall_manifest.specs.Catalog.{HasEnd, Says, fields, first_catalog, records_in}
use Rattle.fjall_meta.specs.Replays.{bare, least_after}
use Rattle.fjall_meta.specs.Contents.{store_held}
use Rattle.fjall_recovery.specs.declared.folder.RecoveredFolder.{RecoveredFolder}
use Rattle.fjall_recovery.specs.Homes.{AreHomesRead, HaveHomes, HaveVersions, Homes, Versions, lasts, stored_in}
use Rattle.fjall_recovery.specs.Journals.{WholeJournal, HoldsJournals, AreFound, AreJournalIds, batches_in, journal_text}
use Rattle.fjall_recovery.specs.Told.{AreTold}
use Rattle.fjall_recovery.specs.Naming.{AreFolderIds, JournalsAreNamed, KeyspacesAreNamed}

-- one past the number, and 0 where there is none
abbrev pub past : Option ℕ → ℕ
past None = 0
past (Some n) = n + 1

-- the bytes of a file, where one stands there
abbrev pub file_bytes : DiskEntry → Option (List ℕ)
file_bytes (File synced unsynced) = Some (synced ++ unsynced)
file_bytes entry = None

-- the bytes of the image's marker
abbrev pub marker_bytes : Image → Option (List ℕ)
marker_bytes image = file_bytes (image (codes "version"))

-- one past the greatest number that a record tells
abbrev pub past_record : Fields → ℕ
past_record r = max (past r.persisted) (past r.highest)

abbrev pub past_records : List Fields → ℕ
past_records [] = 0
past_records (r ∷ rs) = max (past_record r) (past_records rs)

-- each keyspace was made under a number that the last record of tree 0 knows
abbrev pub AreMade : Catalog → Keyspaces → Type 0
AreMade last s = All (λ k. k.number < past_record (fields last)) s.living

-- What a folder holds: its journals, the keyspaces that live with the last record of tree 0, the home of each of them, and the
-- versions in its tables.
pub record Contents : Type 0 where
  pub journals : List WholeJournal
  pub keyspaces : Keyspaces
  pub last : Catalog
  pub homes : Homes
  pub versions : Versions

-- the same with these versions
abbrev pub with_versions : Versions → Contents → Contents
with_versions versions c = record { journals = c.journals; keyspaces = c.keyspaces; last = c.last; homes = c.homes; versions = versions }

-- The image is a folder that was made to its end, an opening finds nothing wrong in it, and this is what it holds. Of tables it
-- looks at the ends alone, so that nothing is said of the versions.
pub record IsOpenable (image : Image) (c : Contents) : Type 0 where
  pub marker : marker_tells (marker_bytes image) ≡ Ok Whole
  pub journals_named : JournalsAreNamed image
  pub journals : HoldsJournals image c.journals
  pub keyspaces_named : KeyspacesAreNamed image
  pub folder : image (keyspace_folder 0) ≡ Folder
  pub records : List Fields
  pub catalog : Says image records c.last c.keyspaces
  pub made : AreMade c.last c.keyspaces
  pub homes : HaveHomes image c.keyspaces.living c.homes

-- It is sound where every block of its tables is right too, and these are the versions in them.
pub record IsSound (image : Image) (c : Contents) : Type 0 where
  pub openable : IsOpenable image c
  pub versions : HaveVersions c.homes c.versions

-- no whole record stands at the front of the bytes, or tree 0's first one alone
pub record IsBegun (text : List ℕ) : Type 0 where
  pub records : List Fields
  pub end : ℕ
  pub whole : IsRecords text records end
  pub first : (records ≡ []) ⊎ (records ≡ fields first_catalog ∷ [])

-- no journal holds a whole batch
abbrev pub AreEmpty : Image → Type 0
AreEmpty image = (id : ℕ) → id < 2 ^ 64 → NoneAt (journal_text image id)

-- The image is a folder whose making a crash cut short: no marker is there, or not all of it; no journal holds a whole
-- batch, and tree 0 has no whole record but the first one.
pub record IsUnfinished (image : Image) : Type 0 where
  pub marker : marker_tells (marker_bytes image) ≡ Ok Unfinished
  pub journals_named : JournalsAreNamed image
  pub journals : AreEmpty image
  pub keyspaces_named : KeyspacesAreNamed image
  pub catalog : IsBegun (records_in image)

-- the store of a folder's contents: what its files hold, and what its batches make beyond that
abbrev pub store_of_contents : Contents → Store
store_of_contents c = store_held c.keyspaces (stored_in c.homes c.versions) (map shown (batches_in c.journals))

-- one past the greatest number that is found in a folder, and 0 where there is none
abbrev pub number_of_contents : Contents → ℕ
number_of_contents c = max (least_after 0 (map shown (batches_in c.journals))) (past_records (fields c.last ∷ lasts c.keyspaces.living c.homes))

-- The image stands for the store. A folder whose making was cut short stands for one without keyspaces.
abbrev pub ImageStandsFor : Image → Store → Type 0
ImageStandsFor image store = ((c : Contents) × IsSound image c × (store ≡ store_of_contents c)) ⊎ (IsUnfinished image × (store ≡ bare no_keyspaces))

-- ---- as it is read

-- What was read of a folder that was made to its end.
pub record IsFinished (image : Image) (f : RecoveredFolder) : Type 0 where
  pub journal_ids : AreJournalIds image f.journal_ids.items
  pub journals : AreFound image f.journal_ids.items f.journals.least f.journals.end f.journals.torn
  pub told : AreTold image f.journal_ids.items f.journals.sealed f.journals.watermarks
  pub folder_ids : AreFolderIds image f.folder_ids.items
  pub keyspaces_named : KeyspacesAreNamed image
  pub folder : image (keyspace_folder 0) ≡ Folder
  pub records : List Fields
  pub catalog : Says image records f.catalog.catalog f.catalog.keyspaces
  pub end : HasEnd image f.catalog.end f.catalog.is_torn
  pub made : AreMade f.catalog.catalog f.catalog.keyspaces
  pub homes : AreHomesRead image f.catalog.keyspaces.living f.homes.items

-- What is so of whatever disk: the ids of its journals ascend, and of all of them but the last a sealed one is told.
pub record IsNumbered (f : RecoveredFolder) : Type 0 where
  pub ascending : IsStrictlyIncreasing f.journal_ids.items
  pub sealed : map (λ journal. journal.id) f.journals.sealed ≡ take (length f.journal_ids.items - 1) f.journal_ids.items

-- what was read is what the folder holds
pub record ShowsContents (f : RecoveredFolder) (c : Contents) : Type 0 where
  pub ids : f.journal_ids.items ≡ map (λ j. j.id) c.journals
  pub least : f.journals.least ≡ least_after 0 (map shown (batches_in c.journals))
  pub keyspaces : f.catalog.keyspaces ≡ c.keyspaces
  pub last : f.catalog.catalog ≡ c.last
  pub homes : map (λ h. records.view h.record) f.homes.items ≡ lasts c.keyspaces.living c.homes

-- What was read of a folder: what it holds, or that its making was cut short.
abbrev pub ReadsFolder : Image → Option RecoveredFolder → Type 0
ReadsFolder image None = IsUnfinished image
ReadsFolder image (Some f) = IsFinished image f × ((c : Contents) × IsOpenable image c × ShowsContents f c)
