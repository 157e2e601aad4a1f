-- The keyspaces of an image: what a crash leaves of them, and what stands.
use Rattle.std.proofs.Common.{◌≡◌, inl, inr, ℕ, ◌<◌, ◌^◌, true, List, codes, All, refl, sym, ◌∙◌, ap, arith}
use Rattle.fjall_base.specs.Disk.{Name, Folder, DiskState, Image, Survives, standing}
use Rattle.fjall_files.specs.Regions.{IsImageIn}
use Rattle.fjall_manifest.specs.Records.{Fields}
use Rattle.fjall_files.specs.Names.{keyspace_folder}
use Rattle.fjall_manifest.specs.Homes.{Home}
use Rattle.fjall_manifest.proofs.Resting.{region_home}
use Rattle.fjall_manifest.proofs.Standing.{standing_home}
use Rattle.fjall_manifest.proofs.Views.{usual_region}
use Rattle.fjall_meta.specs.Keyspaces.{Keyspaces, AreKeyspaces}
use Rattle.fjall_manifest.specs.declared.catalog.Catalog.{Catalog}
use Rattle.fjall_manifest.specs.Catalog.{CatalogRests, Says, home_of}
use Rattle.fjall_manifest.proofs.CatalogResting.{files_say}
use Rattle.fjall_manifest.proofs.CatalogMeanings as Meanings
use Rattle.fjall_recovery.specs.Homes.{HasOpenableHome, HaveHomes}
use Rattle.fjall_recovery.proofs.Housing.{homes_alike, homes_left, plain_alike}
use Rattle.fjall_recovery.proofs.Listed.{in_keyspaces}
use Rattle.fjall_recovery.specs.Halves.{HasTree, Tree, is_of_keyspaces}
use Rattle.fjall_recovery.specs.Places.{HasSafeHome, RestsInTree}
use Rattle.fjall_recovery.proofs.Named.{counted_within, folder_within, inside_within, under_within}
use Rattle.fjall_recovery.proofs.Seen.{IsSeen, crash_seen, standing_seen, folder_seen, never_folder}
pub use Rattle.fjall_files.proofs.Fitting.{folder_of-current as folder_of-home}

-- a keyspace's records stand in its folder

-- ---- images that agree in `keyspaces`

pub trees_alike : (image other : Image) (t : Tree) → ((q : Name) → is_of_keyspaces q ≡ true → other q ≡ image q) → HasTree image t → HasTree other t
trees_alike image other t agree has = record {
  named = λ name inside is stray. has.named name inside (sym (agree name (inside_within name inside)) ∙ is) stray;
  folder = agree (keyspace_folder 0) (folder_within 0) ∙ has.folder;
  records = has.records;
  catalog = Meanings.alike image other has.records t.last t.keyspaces (λ q under. agree q (under_within 0 q under)) has.catalog;
  made = has.made;
  homes = homes_alike (λ id. Unit {0}) t.keyspaces.living t.homes (λ k d lt. tt) image other (λ id h any home. plain_alike image other id h (λ q under. agree q (under_within id q under)) home) has.homes;
  versions = has.versions;
}

-- ---- an image that shows keyspaces that rest

-- ids of living keyspaces have 64 bits
small_ids : (s : Keyspaces) → AreKeyspaces s → All (λ k. k.id < 2 ^ 64) s.living
small_ids s are i d lt = let below = are.given i d lt in omega (arith, below, are.fits)

module _ (state : DiskState) (image : Image) (seen : IsSeen is_of_keyspaces state image) where
  tree_seen : (records : List Fields) (t : Tree) → Says image records t.last t.keyspaces → HaveHomes image t.keyspaces.living t.homes → RestsInTree state records t → HasTree image t
  tree_seen records t says homes rests =
      let there : image (codes "keyspaces") ≡ Folder = folder_seen is_of_keyspaces state image seen (codes "keyspaces") refl (inl refl) rests.catalog.home.keyspaces_folder in
      record {
        named = λ name inside is stray. never_folder (state name) (image name) (rests.named name inside stray) (seen name (inside_within name inside) (inr (ap (λ (n : Name). image n) inside ∙ there))) is;
        folder = folder_seen is_of_keyspaces state image seen (keyspace_folder 0) (folder_within 0) (inr (ap (λ (n : Name). image n) (in_keyspaces 0 (omega arith)) ∙ there)) rests.catalog.home.folder;
        records = records;
        catalog = says;
        made = rests.made;
        homes = homes;
        versions = rests.versions;
      }

-- ---- what a crash leaves

home_left : (state : DiskState) (image : Image) → IsImageIn Survives is_of_keyspaces state image → (id : ℕ) (h : Home) → id < 2 ^ 64 → HasSafeHome state id h → HasOpenableHome image id h
home_left state image is id h small home = record {
  records = home.records;
  home = region_home is_of_keyspaces state image id home.records h small (counted_within id) home.rests (usual_region is_of_keyspaces state image is);
  indexes = home.indexes;
  indexed = home.indexed;
  clears = home.clears;
}

pub crashes_leave_the_tree : (state : DiskState) (image : Image) (records : List Fields) (t : Tree) → RestsInTree state records t → IsImageIn Survives is_of_keyspaces state image → HasTree image t
crashes_leave_the_tree state image records t rests is =
    tree_seen state image (crash_seen is_of_keyspaces state image is) records t (Meanings.regions_say is_of_keyspaces state image records t.last t.keyspaces (counted_within 0) rests.catalog is)
    (homes_left (λ id. id < 2 ^ 64) t.keyspaces.living t.homes (small_ids t.keyspaces rests.catalog.are) state image (home_left state image is) rests.homes) rests

-- ---- what stands

-- what stands says what a catalog that rests does
pub standing_says : (state : DiskState) (records : List Fields) (last : Catalog) (s : Keyspaces) → CatalogRests state records last s → Says (standing state) records last s
standing_says state records last s rests = files_say state (standing state) records last s rests (standing_home state 0 records (home_of last rests.texts) rests.home).files

home_stands : (state : DiskState) (id : ℕ) (h : Home) → HasSafeHome state id h → HasOpenableHome (standing state) id h
home_stands state id h home = record { records = home.records; home = standing_home state id home.records h home.rests; indexes = home.indexes; indexed = home.indexed; clears = home.clears }

-- what stands has the keyspaces that rest
pub standing_tree : (state : DiskState) (records : List Fields) (t : Tree) → RestsInTree state records t → HasTree (standing state) t
standing_tree state records t rests =
    tree_seen state (standing state) (standing_seen is_of_keyspaces state) records t (standing_says state records t.last t.keyspaces rests.catalog)
    (homes_left (λ id. Unit {0}) t.keyspaces.living t.homes (λ k d lt. tt) state (standing state) (λ id h any home. home_stands state id h home) rests.homes) rests
