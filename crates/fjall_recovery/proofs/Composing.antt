-- What the keyspaces rest on outside one keyspace's folder, while calls stay within that folder.
use Rattle.std.proofs.Common.{◌≡◌, ◌≢◌, inl, inr, ℕ, ◌<◌, ◌^◌, true, false, List, [], ◌∷◌, codes, All, refl, sym, ◌∙◌, ap, subst}
use Rattle.std.specs.Str.{bytes_eq}
use Rattle.std.specs.List.{AllByRecursion}
use Rattle.fjall_base.specs.Disk.{Name, DiskEntry, File, Folder, Place, DiskState, Image, Survives, folder_of, settle}
use Rattle.fjall_base.proofs.Names.{bool_cases, same}
use Rattle.fjall_base.proofs.States.{settle-in, settle-out}
use Rattle.fjall_files.specs.Regions.{IsImageIn, is_under}
use Rattle.fjall_files.proofs.Changes.{SameOutside}
use Rattle.fjall_files.proofs.Parts.{left_at}
use Rattle.fjall_table.specs.declared.table_info.TableInfo.{TableInfo}
use Rattle.fjall_manifest.specs.Records.{Fields}
use Rattle.fjall_files.specs.Names.{IsNameOf, current_name, keyspace_folder, table_name}
use Rattle.fjall_manifest.specs.Homes as homes
use Rattle.fjall_manifest.specs.Homes.{AreSafe, Home, only}
use Rattle.fjall_manifest.proofs.Outside.{counted_outside, keyspaces_outside, misnamed_outside}
use Rattle.fjall_manifest.proofs.Resting.{region_home, rests_along, rests_where}
use Rattle.fjall_manifest.proofs.Views.{usual_region}
use Rattle.fjall_meta.specs.declared.living.LivingKeyspace.{LivingKeyspace}
use Rattle.fjall_manifest.specs.Catalog.{Says}
use Rattle.fjall_recovery.specs.Folders.{AreMade}
use Rattle.fjall_recovery.specs.Halves.{HasTree, Tree, outside}
use Rattle.fjall_recovery.specs.Homes.{HasOpenableHome, HaveVersions, Homes}
use Rattle.fjall_recovery.specs.Naming.{KeyspacesAreNamed}
use Rattle.fjall_recovery.specs.Places.{HasSafeHome, HaveSafeHomes, IsNeverFolder}
use Rattle.fjall_recovery.proofs.Housing.{homes_along, homes_left}
use Rattle.fjall_recovery.proofs.Seen.{never_folder}

-- no folder in `keyspaces` is named but by an id, and none was since its last sync
abbrev pub AreNamed : DiskState → Type 0
AreNamed state = (name : Name) → folder_of name ≡ codes "keyspaces" → ((id : ℕ) → IsNameOf keyspace_folder name id → ⊥) → IsNeverFolder (state name)

-- the folder of all keyspaces is safe, and so are these homes
pub record Beside (state : DiskState) (living : List LivingKeyspace) (homes : Homes) : Type 0 where
  pub folder : state (codes "keyspaces") ≡ only Folder
  pub named : AreNamed state
  pub safe : HaveSafeHomes state living homes

-- the ids of keyspaces other than this one
abbrev pub IsOther : ℕ → ℕ → Type 0
IsOther id other = (other < 2 ^ 64) × (other ≢ id)

abbrev pub AreOthers : ℕ → List LivingKeyspace → Type 0
AreOthers id living = All (λ k. IsOther id k.id) living

-- ---- outside a keyspace's folder

pub outside_test : (id : ℕ) (q : Name) → is_under (keyspace_folder id) q ≡ false → outside id q ≡ true
outside_test id q out = rw out refl

pub not_under : (id : ℕ) (q : Name) → outside id q ≡ true → is_under (keyspace_folder id) q ≡ false
not_under id q out = elim (bool_cases (is_under (keyspace_folder id) q)) [ inl is ↦ let no : false ≡ true = rw is at out in cc | inr not_in ↦ not_in ]

-- ---- a sync of a folder

pub settled_at : (state : DiskState) (folder q : Name) (entry : DiskEntry) → state q ≡ only entry → settle state folder q ≡ state q
settled_at state folder q entry is = elim (bool_cases (bytes_eq (folder_of q) folder)) [
  | inl at ↦ settle-in state folder q (same at) ∙ ap (λ (p : Place). only p.now) is ∙ sym is
  | inr not_in ↦ settle-out state folder q not_in
]

settled_never : (state : DiskState) (folder q : Name) → IsNeverFolder (state q) → IsNeverFolder (settle state folder q)
settled_never state folder q never = elim (bool_cases (bytes_eq (folder_of q) folder)) [
  | inl at ↦ subst IsNeverFolder (sym (settle-in state folder q (same at))) (never.0, tt)
  | inr not_in ↦ subst IsNeverFolder (sym (settle-out state folder q not_in)) never
]

settled_tables : (state : DiskState) (folder : Name) (id : ℕ) (tables : List TableInfo) (texts : List (List ℕ)) → AreSafe state id tables texts
    → AllByRecursion (λ t. settle state folder (table_name id t.id) ≡ state (table_name id t.id)) tables
settled_tables state folder id [] texts safe = tt
settled_tables state folder id (t ∷ tables) [] safe = absurd safe
settled_tables state folder id (t ∷ tables) (bytes ∷ texts) safe = (settled_at state folder (table_name id t.id) (File bytes []) safe.0, settled_tables state folder id tables texts safe.1)

-- a home that rests does so still
pub settled_home : (state : DiskState) (folder : Name) (id : ℕ) (records : List Fields) (h : Home) → homes.Rests state id records h → homes.Rests (settle state folder) id records h
settled_home state folder id records h rests = rests_along state (settle state folder) id records h (record {
  keyspaces_folder = settled_at state folder (codes "keyspaces") Folder rests.keyspaces_folder;
  folder = settled_at state folder (keyspace_folder id) Folder rests.folder;
  current = settled_at state folder (current_name id) (File _ []) rests.current;
  each = settled_tables state folder id h.last.tables h.texts rests.tables;
}) rests

pub beside_settled : (state : DiskState) (folder : Name) (living : List LivingKeyspace) (homes : Homes) → Beside state living homes → Beside (settle state folder) living homes
beside_settled state folder living homes beside = record {
  folder = settled_at state folder (codes "keyspaces") Folder beside.folder ∙ beside.folder;
  named = λ name at none. settled_never state folder name (beside.named name at none);
  safe = homes_along (λ id. Unit {0}) living homes (λ k d lt. tt) state (settle state folder)
      (λ id h any home. record { records = home.records; rests = settled_home state folder id home.records h home.rests; indexes = home.indexes; indexed = home.indexed; clears = home.clears }) beside.safe;
}

-- ---- changes within a keyspace's folder

module _ (id : ℕ) (small : id < 2 ^ 64) where
  -- another home stays
  pub other_along : (old new : DiskState) → SameOutside (is_under (keyspace_folder id)) old new → (other : ℕ) (h : Home) → IsOther id other → HasSafeHome old other h → HasSafeHome new other h
  other_along old new agree other h is home = record {
    records = home.records;
    rests = rests_where old new other home.records h (λ q counts. agree q (counted_outside id other q small is.0 is.1 counts)) home.rests;
    indexes = home.indexes;
    indexed = home.indexed;
    clears = home.clears;
  }

  pub beside_along : (old new : DiskState) (living : List LivingKeyspace) (homes : Homes) → SameOutside (is_under (keyspace_folder id)) old new → AreOthers id living → Beside old living homes → Beside new living homes
  beside_along old new living homes agree others beside = record {
    folder = agree (codes "keyspaces") (keyspaces_outside id) ∙ beside.folder;
    named = λ name at none. subst IsNeverFolder (sym (agree name (misnamed_outside id name small at none))) (beside.named name at none);
    safe = homes_along (IsOther id) living homes others old new (other_along old new agree) beside.safe;
  }

  -- ---- what a crash leaves

  module _ (state : DiskState) (image : Image) (is : IsImageIn Survives (outside id) state image) where
    pub keyspaces_left : state (codes "keyspaces") ≡ only Folder → image (codes "keyspaces") ≡ Folder
    keyspaces_left at = left_at (outside id) state image (codes "keyspaces") Folder (outside_test id (codes "keyspaces") (keyspaces_outside id)) is at (inl refl)

    pub named_left : image (codes "keyspaces") ≡ Folder → AreNamed state → KeyspacesAreNamed image
    named_left there named name at is_folder none =
        let kept = is.kept name (outside_test id name (misnamed_outside id name small at none)) (inr (ap (λ (n : Name). image n) at ∙ there)) in
        never_folder (state name) (image name) (named name at none) (inl kept) is_folder

    -- another home is left
    pub other_left : (other : ℕ) (h : Home) → IsOther id other → HasSafeHome state other h → HasOpenableHome image other h
    other_left other h is_other home = record {
      records = home.records;
      home = region_home (outside id) state image other home.records h is_other.0
          (λ q counts. outside_test id q (counted_outside id other q small is_other.0 is_other.1 counts)) home.rests (usual_region (outside id) state image is);
      indexes = home.indexes;
      indexed = home.indexed;
      clears = home.clears;
    }

    pub tree_left : (records : List Fields) (t : Tree) → AreOthers id t.keyspaces.living → Beside state t.keyspaces.living t.homes → AreMade t.last t.keyspaces → HaveVersions t.homes t.versions
        → image (keyspace_folder 0) ≡ Folder → Says image records t.last t.keyspaces → HasTree image t
    tree_left records t others beside made versions folder says = record {
      named = named_left (keyspaces_left beside.folder) beside.named;
      folder = folder;
      records = records;
      catalog = says;
      made = made;
      homes = homes_left (IsOther id) t.keyspaces.living t.homes others state image other_left beside.safe;
      versions = versions;
    }
