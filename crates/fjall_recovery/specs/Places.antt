-- Where everything of a database lies on a disk, exactly.
use Rattle.std.specs.Prelude.{◌≡◌, ℕ, ◌<◌, ◌^◌, List, [], ◌∷◌, ◌++◌, map, take, codes, All, Contains, Option, Some, None, Ok}
use Rattle.std.specs.List.{flat_map, AllByRecursion}
use Rattle.std.specs.List.Sorted.{IsStrictlyIncreasing}
use Rattle.fjall_base.specs.Disk.{Name, Place, DiskState, File, IsNoFile, IsNoFolder, folder_of}
use Rattle.fjall_files.specs.Regions.{IsSafe}
use Rattle.fjall_journal.specs.Batches.{Written, IsWritten, batch_text, shown}
use Rattle.fjall_manifest.specs.Records.{Fields}
use Rattle.fjall_files.specs.declared.marker.Marker.TheVariants.{Whole}
use Rattle.fjall_files.specs.Marker.{marker_tells}
use Rattle.fjall_files.specs.Names.{IsMisnamed, IsNameOf, journal_name, keyspace_folder}
use Rattle.fjall_meta.specs.declared.living.LivingKeyspace.{LivingKeyspace}
use Rattle.std.specs.FinMap.{get}
use Rattle.fjall_manifest.specs.Homes as homes
use Rattle.fjall_manifest.specs.Homes.{Home, IsFree}
use Rattle.fjall_manifest.specs.Reading.{AreIndexed}
use Rattle.fjall_table.specs.Tables.{Handle}
use Rattle.fjall_meta.specs.Keyspaces.{keyspace_at}
use Rattle.fjall_manifest.specs.Catalog.{CatalogRests}
use Rattle.fjall_meta.specs.Replays.{first_fault}
use Rattle.fjall_recovery.specs.Folders.{AreMade, Contents}
use Rattle.fjall_recovery.specs.Homes.{HaveVersions, Homes, ClearsAreWithin}
use Rattle.fjall_recovery.specs.Journals.{WholeJournal, batches_in}
use Rattle.fjall_recovery.specs.Halves.{Tree}

-- ---- the root

-- no file stands there, and no crash brings one back
abbrev pub IsNeverFile : Place → Type 0
IsNeverFile place = AllByRecursion IsNoFile (place.now ∷ place.older)

-- the same of folders
abbrev pub IsNeverFolder : Place → Type 0
IsNeverFolder place = AllByRecursion IsNoFolder (place.now ∷ place.older)

-- the texts of batches, one after another
abbrev pub texts_of : List Written → List ℕ
texts_of batches = flat_map batch_text batches

-- The journals of a database: the sealed ones; the active one's id, its synced batches, and the batches behind them, of
-- whose texts the first so many bytes stand in its file.
pub record Journaling : Type 0 where
  pub sealed : List WholeJournal
  pub active : ℕ
  pub whole : List Written
  pub later : List Written
  pub cut : ℕ

-- the journals, the active one with these batches behind its synced ones
abbrev pub journals_with : Journaling → List Written → List WholeJournal
journals_with j behind = j.sealed ++ record { id = j.active; batches = j.whole ++ behind } ∷ []

abbrev pub journal_ids : Journaling → List ℕ
journal_ids j = map (λ journal. journal.id) (journals_with j [])

-- The root's files lie so: the marker and the sealed journals are safe, the active journal's name is, and its file has
-- the synced batches' texts and behind them, unsynced, a beginning of the later ones'. None of the batches has a fault.
-- No other journal is there, and no file is named nearly like one.
pub record LiesInRoot (state : DiskState) (j : Journaling) : Type 0 where
  pub marker_text : List ℕ
  pub marker : IsSafe state (codes "version") marker_text
  pub marker_is : marker_tells (Some marker_text) ≡ Ok Whole
  pub named : (name : Name) → folder_of name ≡ [] → IsMisnamed name → IsNeverFile (state name)
  pub ascending : IsStrictlyIncreasing (journal_ids j)
  pub fit : All (λ id. id < 2 ^ 64) (journal_ids j)
  pub others : (id : ℕ) → id < 2 ^ 64 → (Contains (journal_ids j) id → ⊥) → IsNeverFile (state (journal_name id))
  pub sealed : AllByRecursion (λ journal. IsSafe state (journal_name journal.id) (texts_of journal.batches)) j.sealed
  pub active : state (journal_name j.active) ≡ record { now = File (texts_of j.whole) (take j.cut (texts_of j.later)); older = [] }
  pub written : AllByRecursion IsWritten (batches_in (journals_with j j.later))
  pub sound : first_fault 0 (map shown (batches_in (journals_with j j.later))) ≡ None

-- ---- the keyspaces

-- The keyspace of this id has this home, all of it safe, and an opening finds nothing wrong with it.
pub record HasSafeHome (state : DiskState) (id : ℕ) (h : Home) : Type 0 where
  pub records : List Fields
  pub rests : homes.Rests state id records h
  pub indexes : List (List Handle)
  pub indexed : AreIndexed h.last.tables h.texts indexes
  pub clears : ClearsAreWithin h.last

-- a keyspace that lives has a safe home, and no other id has one
abbrev pub HasSafeHomeAt : DiskState → ℕ → Option LivingKeyspace → Option Home → Type 0
HasSafeHomeAt state id (Some k) (Some h) = HasSafeHome state id h
HasSafeHomeAt state id None None = Unit {0}
HasSafeHomeAt state id k h = ⊥

-- these keyspaces have these homes
abbrev pub HaveSafeHomes : DiskState → List LivingKeyspace → Homes → Type 0
HaveSafeHomes state living homes = (id : ℕ) → HasSafeHomeAt state id (keyspace_at id living) (get homes id)

-- The keyspaces' files rest so: tree 0's catalog and each living keyspace's home are safe, and no folder in `keyspaces` is
-- named but by an id.
pub record RestsInTree (state : DiskState) (records : List Fields) (t : Tree) : Type 0 where
  pub named : (name : Name) → folder_of name ≡ codes "keyspaces" → ((id : ℕ) → IsNameOf keyspace_folder name id → ⊥) → IsNeverFolder (state name)
  pub catalog : CatalogRests state records t.last t.keyspaces
  pub made : AreMade t.last t.keyspaces
  pub homes : HaveSafeHomes state t.keyspaces.living t.homes
  pub versions : HaveVersions t.homes t.versions

-- The same, and tree 0 is ready for a change: no table stands under an id that is still to be given out.
pub record LiesInTree (state : DiskState) (records : List Fields) (t : Tree) : Type 0 where
  pub rests : RestsInTree state records t
  pub free : IsFree state 0 t.last.next_table_id

-- ---- both

-- what the folder holds where the active journal has these batches behind its synced ones
abbrev pub contents_with : Journaling → Tree → List Written → Contents
contents_with j t behind = record { journals = journals_with j behind; keyspaces = t.keyspaces; last = t.last; homes = t.homes; versions = t.versions }
