-- A change within one keyspace's folder, or within tree 0's, leaves all else of the tree as it is.
use Rattle.std.proofs.Common.{◌≡◌, ◌≢◌, ℕ, ◌<◌, ◌^◌, ◌==◌, true, false, List, All, Option, None, Some, is_some, refl, sym, ◌∙◌, subst, arith}
use Rattle.std.proofs.lemmas.Bool.Decides.{nat_tests}
use Rattle.fjall_base.specs.Disk.{Name, Folder, DiskState, Image, Survives}
use Rattle.fjall_files.specs.Regions.{IsImageIn, is_under}
use Rattle.fjall_files.specs.Names.{keyspace_folder}
use Rattle.fjall_files.proofs.Changes.{SameOutside}
use Rattle.fjall_files.proofs.Under.{under_self}
use Rattle.fjall_table.specs.Blocks.{Entry}
use Rattle.fjall_manifest.specs.Records.{Fields}
use Rattle.fjall_manifest.specs.Homes.{Home, is_counted}
use Rattle.fjall_manifest.proofs.Naming.{other_folder}
use Rattle.fjall_manifest.proofs.Outside.{counted_outside, misnamed_outside}
use Rattle.fjall_manifest.proofs.Resting.{region_home, rests_where}
use Rattle.fjall_manifest.proofs.Views.{usual_region}
use Rattle.fjall_meta.specs.declared.living.LivingKeyspace.{LivingKeyspace}
use Rattle.fjall_meta.specs.Keyspaces.{AreKeyspaces, Keyspaces, keyspace_at}
use Rattle.fjall_meta.proofs.Ids.{living_has}
use Rattle.fjall_manifest.specs.Catalog.{CatalogRests, Says, home_of}
use Rattle.fjall_manifest.proofs.CatalogMeanings as Meanings
use Rattle.fjall_manifest.proofs.CatalogResting.{rests_with}
use Rattle.fjall_recovery.specs.Folders.{AreMade}
use Rattle.fjall_recovery.specs.Halves.{HasTree, Tree, outside, with_home_at}
use Rattle.fjall_recovery.specs.Homes.{HasOpenableHome, HasVersions, HaveHomes, HaveVersions}
use Rattle.fjall_recovery.specs.Naming.{KeyspacesAreNamed}
use Rattle.fjall_recovery.specs.Places.{HasSafeHome, HaveSafeHomes, IsNeverFolder, RestsInTree}
use Rattle.fjall_recovery.proofs.Composing.{AreNamed, IsOther, keyspaces_left, named_left, other_along, other_left, outside_test, tree_left}
use Rattle.fjall_recovery.proofs.Housing.{along_at, alike_at, homes_along, homes_alike, homes_with, left_at, plain_alike, safe_homes_with}
use Rattle.fjall_recovery.proofs.Storing.{versions_inserted}

-- ---- ids

-- the id of a keyspace that lives isn't that of tree 0, and has 64 bits
abbrev IsPlace : ℕ → Type 0
IsPlace id = (id < 2 ^ 64) × (id ≢ 0)

places : (s : Keyspaces) → AreKeyspaces s → All (λ k. IsPlace k.id) s.living
places s are i d lt = let some = are.ids i d lt in let below = are.given i d lt in (omega (arith, below, are.fits), λ e. omega (arith, some, e))

place_of : (s : Keyspaces) (id : ℕ) → AreKeyspaces s → is_some (keyspace_at id s.living) ≡ true → IsPlace id
place_of s id are lives = of (keyspace_at id s.living) refl lives
  where
    of : (k : Option LivingKeyspace) → keyspace_at id s.living ≡ k → is_some k ≡ true → IsPlace id
    of (Some k) at lives = living_has IsPlace s.living id k at (places s are)
    of None at lives = let no : false ≡ true = lives in cc

differ : (q id : ℕ) → (q == id) ≡ false → q ≢ id
differ q id other e = grind (arith, nat_tests)

-- ---- what stays outside a keyspace's folder

module _ (id : ℕ) (small : id < 2 ^ 64) where
  counted_out : (other : ℕ) → IsOther id other → (q : Name) → is_counted other q ≡ true → outside id q ≡ true
  counted_out other is q counts = outside_test id q (counted_outside id other q small is.0 is.1 counts)

  under_out : (other : ℕ) → IsOther id other → (q : Name) → is_under (keyspace_folder other) q ≡ true → outside id q ≡ true
  under_out other is q under = outside_test id q (other_folder id other q small is.0 is.1 under)

  folder_out : (other : ℕ) → IsOther id other → outside id (keyspace_folder other) ≡ true
  folder_out other is = under_out other is (keyspace_folder other) (under_self (keyspace_folder other))

  module _ (image other : Image) (agree : (q : Name) → outside id q ≡ true → other q ≡ image q) where
    named_alike : KeyspacesAreNamed image → KeyspacesAreNamed other
    named_alike named name inside is stray = named name inside (sym (agree name (outside_test id name (misnamed_outside id name small inside stray))) ∙ is) stray

    other_alike : (i : ℕ) (h : Home) → IsOther id i → HasOpenableHome image i h → HasOpenableHome other i h
    other_alike i h is has = plain_alike image other i h (λ q under. agree q (under_out i is q under)) has

  module _ (old new : DiskState) (agree : (q : Name) → outside id q ≡ true → new q ≡ old q) where
    never_along : AreNamed old → AreNamed new
    never_along named name at none = subst IsNeverFolder (sym (agree name (outside_test id name (misnamed_outside id name small at none)))) (named name at none)

    same_outside : SameOutside (is_under (keyspace_folder id)) old new
    same_outside q out = agree q (outside_test id q out)

-- ---- one home changes

module _ (id : ℕ) (h : Home) (versions : List Entry) (t : Tree) (lives : is_some (keyspace_at id t.keyspaces.living) ≡ true) where
  -- tree 0 is another keyspace
  zero_other : AreKeyspaces t.keyspaces → IsOther id 0
  zero_other are = (omega arith, λ e. (place_of t.keyspaces id are lives).1 (sym e))

  pub home_in_image : (image other : Image) → HasTree image t → ((q : Name) → outside id q ≡ true → other q ≡ image q) → HasOpenableHome other id h → HasVersions h versions
      → HasTree other (with_home_at id h versions t)
  home_in_image image other has agree one stored =
      let are = has.catalog.are in
      let small = (place_of t.keyspaces id are lives).0 in
      record {
        named = named_alike id small image other agree has.named;
        folder = agree (keyspace_folder 0) (folder_out id small 0 (zero_other are)) ∙ has.folder;
        records = has.records;
        catalog = Meanings.alike image other has.records t.last t.keyspaces (λ q under. agree q (under_out id small 0 (zero_other are) q under)) has.catalog;
        made = has.made;
        homes = homes_with t.keyspaces.living t.homes id h lives other one
            (λ q apart. alike_at IsPlace t.keyspaces.living t.homes (places t.keyspaces are) image other q
            (λ x place home. other_alike id small image other agree q x (place.0, differ q id apart) home) (has.homes q));
        versions = versions_inserted t.homes t.versions id h versions stored has.versions;
      }

  pub home_rests : (old new : DiskState) (records : List Fields) → RestsInTree old records t → ((q : Name) → outside id q ≡ true → new q ≡ old q) → HasSafeHome new id h → HasVersions h versions
      → RestsInTree new records (with_home_at id h versions t)
  home_rests old new records lies agree one stored =
      let are = lies.catalog.are in
      let small = (place_of t.keyspaces id are lives).0 in
      record {
        named = never_along id small old new agree lies.named;
        catalog = rests_with old new records t.last t.keyspaces lies.catalog
            (rests_where old new 0 records (home_of t.last lies.catalog.texts) (λ q counts. agree q (counted_out id small 0 (zero_other are) q counts)) lies.catalog.home);
        made = lies.made;
        homes = safe_homes_with t.keyspaces.living t.homes id h lives new one
            (λ q apart. along_at IsPlace t.keyspaces.living t.homes (places t.keyspaces are) old new q
            (λ x place home. other_along id small old new (same_outside id small old new agree) q x (place.0, differ q id apart) home) (lies.homes q));
        versions = versions_inserted t.homes t.versions id h versions stored lies.versions;
      }

  pub home_in_crash : (state : DiskState) (image : Image) (records : List Fields) → RestsInTree state records t → IsImageIn Survives (outside id) state image → HasOpenableHome image id h → HasVersions h versions
      → HasTree image (with_home_at id h versions t)
  home_in_crash state image records lies is one stored =
      let are = lies.catalog.are in
      let small = (place_of t.keyspaces id are lives).0 in
      let zero = region_home (outside id) state image 0 records (home_of t.last lies.catalog.texts) (omega arith) (counted_out id small 0 (zero_other are)) lies.catalog.home (usual_region (outside id) state image is) in
      record {
        named = named_left id small state image is (keyspaces_left id small state image is lies.catalog.home.keyspaces_folder) lies.named;
        folder = zero.folder;
        records = records;
        catalog = Meanings.regions_say (outside id) state image records t.last t.keyspaces (counted_out id small 0 (zero_other are)) lies.catalog is;
        made = lies.made;
        homes = homes_with t.keyspaces.living t.homes id h lives image one
            (λ q apart. left_at IsPlace t.keyspaces.living t.homes (places t.keyspaces are) state image q
            (λ x place home. other_left id small state image is q x (place.0, differ q id apart) home) (lies.homes q));
        versions = versions_inserted t.homes t.versions id h versions stored lies.versions;
      }

-- ---- the catalog changes

module _ (t next : Tree) where
  zero : 0 < 2 ^ 64
  zero = omega arith

  pub catalog_image : (image other : Image) (records : List Fields) → HasTree image t → HaveHomes image next.keyspaces.living next.homes → HaveVersions next.homes next.versions → AreMade next.last next.keyspaces
      → ((q : Name) → outside 0 q ≡ true → other q ≡ image q) → other (keyspace_folder 0) ≡ Folder → Says other records next.last next.keyspaces → HasTree other next
  catalog_image image other records has homes versions made agree folder says = record {
    named = named_alike 0 zero image other agree has.named;
    folder = folder;
    records = records;
    catalog = says;
    made = made;
    homes = homes_alike (IsOther 0) next.keyspaces.living next.homes (places next.keyspaces says.are) image other (other_alike 0 zero image other agree) homes;
    versions = versions;
  }

  pub catalog_rests : (old new : DiskState) (records others : List Fields) → RestsInTree old records t → HaveSafeHomes old next.keyspaces.living next.homes → HaveVersions next.homes next.versions → AreMade next.last next.keyspaces
      → ((q : Name) → outside 0 q ≡ true → new q ≡ old q) → CatalogRests new others next.last next.keyspaces → RestsInTree new others next
  catalog_rests old new records others lies homes versions made agree catalog = record {
    named = never_along 0 zero old new agree lies.named;
    catalog = catalog;
    made = made;
    homes = homes_along (IsOther 0) next.keyspaces.living next.homes (places next.keyspaces catalog.are) old new (other_along 0 zero old new (same_outside 0 zero old new agree)) homes;
    versions = versions;
  }

  pub catalog_crash : (state : DiskState) (image : Image) (records others : List Fields) → RestsInTree state records t → HaveSafeHomes state next.keyspaces.living next.homes → HaveVersions next.homes next.versions → AreMade next.last next.keyspaces
      → IsImageIn Survives (outside 0) state image → image (keyspace_folder 0) ≡ Folder → Says image others next.last next.keyspaces → HasTree image next
  catalog_crash state image records others lies homes versions made is folder says =
      tree_left 0 zero state image is others next (places next.keyspaces says.are)
      (record { folder = lies.catalog.home.keyspaces_folder; named = lies.named; safe = homes }) made versions folder says
