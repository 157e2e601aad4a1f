-- The homes of keyspaces: the folder of each, with its records.
use Rattle.std.specs.Prelude.{◌≡◌, ℕ, false, List, [], ◌∷◌, map, All, Option, Some, None}
use Rattle.std.specs.List.{flat_map}
use Rattle.std.specs.Ordering.{nat_cmp}
use Rattle.std.specs.FinMap.{FinMap, get}
use Rattle.fjall_base.specs.Disk.{Folder, Image}
use Rattle.fjall_files.specs.Names.{keyspace_folder}
use Rattle.fjall_table.specs.Blocks.{Entry}
use Rattle.fjall_memtable.specs.Jobs.{OnceEach}
use Rattle.fjall_table.specs.Tables.{Handle}
use Rattle.fjall_manifest.specs.Records.{Fields, view}
use Rattle.fjall_manifest.specs.declared.reading.LoadedHome.{LoadedHome}
use Rattle.fjall_manifest.specs.Homes.{HasHome, Home}
use Rattle.fjall_manifest.specs.Reading.{AreIndexed, AreRight, IsLoaded}
use Rattle.fjall_meta.specs.Contents.{IsWithin, Stored, is_beyond, nothing_stored}
use Rattle.fjall_meta.specs.declared.living.LivingKeyspace.{LivingKeyspace}
use Rattle.fjall_meta.specs.Keyspaces.{keyspace_at}

-- the homes of keyspaces by their ids
abbrev pub Homes : Type 0
Homes = FinMap nat_cmp Home

-- ---- one home

-- no clear that a record tells is beyond its persisted number
abbrev pub ClearsAreWithin : Fields → Type 0
ClearsAreWithin last = All (λ n. is_beyond last.persisted n ≡ false) last.clears

-- The keyspace of this id has this home in the image, and an opening finds nothing wrong with it: each of its tables is right at
-- its end, and no clear of its last record is beyond the persisted number.
pub record HasOpenableHome (image : Image) (id : ℕ) (h : Home) : Type 0 where
  pub records : List Fields
  pub home : HasHome image id records h
  pub indexes : List (List Handle)
  pub indexed : AreIndexed h.last.tables h.texts indexes
  pub clears : ClearsAreWithin h.last

-- ---- all of them

-- a keyspace that lives has its home, and no other id has one
abbrev pub HasHomeAt : Image → ℕ → Option LivingKeyspace → Option Home → Type 0
HasHomeAt image id (Some k) (Some h) = HasOpenableHome image id h
HasHomeAt image id None None = Unit {0}
HasHomeAt image id k h = ⊥

-- these keyspaces have these homes
abbrev pub HaveHomes : Image → List LivingKeyspace → Homes → Type 0
HaveHomes image living homes = (id : ℕ) → HasHomeAt image id (keyspace_at id living) (get homes id)

-- a record that tells nothing
abbrev pub no_fields : Fields
no_fields = record { persisted = None; highest = None; next_table_id = 0; next_keyspace_id = 0; tables = []; clears = [] }

-- the last record of a home, where there is one
abbrev pub last_in : Option Home → Fields
last_in None = no_fields
last_in (Some h) = h.last

-- the last records of these keyspaces' homes, in the keyspaces' order
abbrev pub lasts : List LivingKeyspace → Homes → List Fields
lasts living homes = map (λ k. last_in (get homes k.id)) living

-- ---- what they hold

-- the versions in keyspaces' tables by the keyspaces' ids
abbrev pub Versions : Type 0
Versions = FinMap nat_cmp (List Entry)

-- what a home whose tables have these versions holds of its keyspace
abbrev pub stored_of : Home → List Entry → Stored
stored_of h versions = record { persisted = h.last.persisted; versions = versions; clears = h.last.clears }

-- Every block of a home's tables is right, these are the versions in them, one table after another, nothing that it holds is
-- beyond the persisted number, and no key has two versions of one number.
pub record HasVersions (h : Home) (versions : List Entry) : Type 0 where
  pub lists : List (List Entry)
  pub right : AreRight h.last.tables h.texts lists
  pub all : versions ≡ flat_map (λ entries. entries) lists
  pub within : IsWithin (stored_of h versions)
  pub once : OnceEach versions

-- a home has its versions, and where none is there are none
abbrev pub HasVersionsAt : Option Home → Option (List Entry) → Type 0
HasVersionsAt (Some h) (Some versions) = HasVersions h versions
HasVersionsAt None None = Unit {0}
HasVersionsAt h versions = ⊥

-- these homes have these versions
abbrev pub HaveVersions : Homes → Versions → Type 0
HaveVersions homes versions = (id : ℕ) → HasVersionsAt (get homes id) (get versions id)

-- ---- what is stored

-- what a home with its versions holds, and nothing where none is
abbrev pub stored_at : Option Home → Option (List Entry) → Stored
stored_at (Some h) (Some versions) = stored_of h versions
stored_at h versions = nothing_stored

-- what each id's home holds
abbrev pub stored_in : Homes → Versions → ℕ → Stored
stored_in homes versions id = stored_at (get homes id) (get versions id)

-- ---- as they are read

-- a keyspace's home as it was read
pub record IsHomeRead (image : Image) (id : ℕ) (home : LoadedHome) : Type 0 where
  pub folder : image (keyspace_folder id) ≡ Folder
  pub loaded : IsLoaded image id home
  pub clears : ClearsAreWithin (view home.record)

-- all of these keyspaces, one after another
abbrev pub AreHomesRead : Image → List LivingKeyspace → List LoadedHome → Type 0
AreHomesRead image [] [] = Unit {0}
AreHomesRead image (k ∷ living) (home ∷ homes) = IsHomeRead image k.id home × AreHomesRead image living homes
AreHomesRead image living homes = ⊥
