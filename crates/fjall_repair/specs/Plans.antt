-- What is found of a folder before it is made, and how far it is made.
use Rattle.std.specs.Prelude.{◌≡◌, ◌≢◌, ◌⊎◌, if◌then◌else◌, ℕ, ◌<◌, ◌^◌, List, [], ◌∷◌, ◌++◌, map, codes, All, Contains, String, string_bytes}
use Rattle.std.specs.declared.alloc.Global.{Global}
use Rattle.std.specs.List.Sorted.{IsStrictlyIncreasing}
use Rattle.std.specs.Str.{bytes_eq}
use Rattle.std.specs.FinMap.{empty}
use Rattle.fjall_base.specs.declared.error.FormatVersion.TheVariants.{V3}
use Rattle.fjall_base.specs.Disk.{Meaning, Name, File, Folder, DiskState, Image, IsFile, folder_of}
use Rattle.fjall_files.specs.Texts.{text_in}
use Rattle.fjall_files.specs.Calls.{seen}
use Rattle.fjall_files.specs.Regions.{IsSafe}
use Rattle.fjall_manifest.specs.Records.{record_text}
use Rattle.fjall_files.specs.Marker.{header}
use Rattle.fjall_files.specs.Names.{journal_name, keyspace_folder, current_name}
use Rattle.fjall_meta.specs.Keyspaces.{no_keyspaces}
use Rattle.fjall_manifest.specs.Homes.{only}
use Rattle.fjall_manifest.specs.Catalog.{fields, first_catalog, records_in}
use Rattle.fjall_recovery.specs.Journals.{WholeJournal}
use Rattle.fjall_recovery.specs.Halves.{Tree}
use Rattle.fjall_recovery.specs.Places.{Journaling, LiesInRoot, RestsInTree, journals_with}
use Rattle.fjall_repair.specs.declared.beginning.plan.FileState.{FileState}
use Rattle.fjall_repair.specs.declared.beginning.plan.FileState.TheVariants.{Nothing, Other, Whole}
use Rattle.fjall_repair.specs.declared.beginning.plan.BeginPlan.{BeginPlan}

-- the text of tree 0's first record
abbrev pub first_text : List ℕ
first_text = record_text (fields first_catalog)

-- what a file has of the bytes that it is to hold
abbrev pub IsFound : FileState → List ℕ → List ℕ → Type 0
IsFound Nothing bytes text = text ≡ []
IsFound Other bytes text = text ≢ []
IsFound Whole bytes text = text ≡ bytes

-- These are the ids of the journals that are to be, ascending: those that are there, or 0 alone.
pub record AreToBe (image : Image) (ids : List ℕ) : Type 0 where
  pub some : ids ≢ []
  pub ascending : IsStrictlyIncreasing ids
  pub fit : All (λ id. id < 2 ^ 64) ids
  pub each : (id : ℕ) → Contains ids id → IsFile (image (journal_name id)) ⊎ (id ≡ 0)
  pub all : (id : ℕ) → id < 2 ^ 64 → IsFile (image (journal_name id)) → Contains ids id

-- The plan fits what stands in the image. The journals have the ids of the sealed ones and the active one's.
pub record IsBeginPlan (image : Image) (plan : BeginPlan) : Type 0 where
  pub names : map string_bytes plan.journals.items ≡ map journal_name (plan.sealed.items ++ plan.active ∷ [])
  pub to_be : AreToBe image (plan.sealed.items ++ plan.active ∷ [])
  pub first_is : plan.first.items ≡ first_text
  pub records : IsFound plan.records first_text (records_in image)
  pub header_is : plan.header.items ≡ header V3
  pub marker : IsFound plan.marker (header V3) (text_in (image (codes "version")))

-- Tree 0 is made, and all of it is safe but the name of `keyspaces`.
pub record HasFirstTree (state : DiskState) : Type 0 where
  pub keyspaces : (state (codes "keyspaces")).now ≡ Folder
  pub settled : (name : Name) → folder_of name ≡ codes "keyspaces" → (state name).older ≡ []
  pub folder : state (keyspace_folder 0) ≡ only Folder
  pub current : IsSafe state (current_name 0) first_text

-- the tree of a database without keyspaces
abbrev pub first_tree : Tree
first_tree = record { last = first_catalog; keyspaces = no_keyspaces; homes = empty; versions = empty }

-- the journal of this id, which holds nothing
abbrev pub empty_journal : ℕ → WholeJournal
empty_journal id = record { id = id; batches = [] }

-- the journals of these ids, which hold nothing, the last of them active
abbrev pub empty_journals : List ℕ → ℕ → Journaling
empty_journals sealed active = record {
  sealed = map empty_journal sealed;
  active = active;
  whole = [];
  later = [];
  cut = 0;
}

-- the journals of a database that is begun by this plan
abbrev pub journals_begun : BeginPlan → List WholeJournal
journals_begun plan = journals_with (empty_journals plan.sealed.items plan.active) []

-- the state with a whole marker that is safe
abbrev pub marked : DiskState → DiskState
marked state name = if bytes_eq name (codes "version") then only (File (header V3) []) else state name

-- Nothing but the marker is to be done: with it the database is made, and no crash brings back a name of the root.
pub record AwaitsMarker (state : DiskState) (sealed : List ℕ) (active : ℕ) : Type 0 where
  pub root : LiesInRoot (marked state) (empty_journals sealed active)
  pub tree : RestsInTree (marked state) (fields first_catalog ∷ []) first_tree
  pub settled : (name : Name) → folder_of name ≡ [] → (state name).older ≡ []

-- ---- what is asked of a step

-- what a name's file has of the bytes that it is to hold, where it is there
abbrev pub FindsAt : Image → Name → List ℕ → FileState → Type 0
FindsAt image name bytes found = IsFound found bytes (text_in (image name))

-- what tree 0's file has of its first record
abbrev pub FindsFirst : Image → FileState → Type 0
FindsFirst image found = IsFound found first_text (records_in image)

-- a file of these bytes stands there, all of them synced
abbrev pub IsFilled : DiskState → Name → List ℕ → Type 0
IsFilled state name bytes = (state name).now ≡ File bytes []

-- these are the names of journals, and so this is so
abbrev pub WhereJournals : List (String Global) → Type 0 → Type 0
WhereJournals names P = (ids : List ℕ) → All (λ id. id < 2 ^ 64) ids → map string_bytes names ≡ map journal_name ids → P

-- the marker is as it was
abbrev pub KeepsMarker : Meaning → Meaning → Type 0
KeepsMarker old new = seen new (codes "version") ≡ seen old (codes "version")
