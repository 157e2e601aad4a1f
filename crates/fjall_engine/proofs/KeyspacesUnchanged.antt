-- Keyspaces lie as they did where only the root changed.
use Rattle.std.proofs.Common.{◌≡◌, ℕ, true, List, [], refl, sym, ◌∙◌, ap, subst, codes}
use Rattle.fjall_base.specs.Disk.{DiskState, Name, Place}
use Rattle.fjall_files.specs.Names.{table_name}
use Rattle.fjall_files.proofs.Under.{in_folder}
use Rattle.fjall_manifest.specs.Records.{Fields}
use Rattle.fjall_manifest.specs.Homes as homes
use Rattle.fjall_manifest.specs.Homes.{Home}
use Rattle.fjall_manifest.proofs.Resting.{rests_where}
use Rattle.fjall_manifest.specs.Catalog.{home_of}
use Rattle.fjall_manifest.proofs.CatalogResting.{rests_with}
use Rattle.fjall_recovery.specs.Halves.{Tree, is_of_keyspaces}
use Rattle.fjall_recovery.specs.Places.{IsNeverFolder, LiesInTree}
use Rattle.fjall_recovery.proofs.Housing.{homes_along}
use Rattle.fjall_recovery.proofs.Named.{counted_within}

-- what stands in `keyspaces` is the same
abbrev pub SameKeyspaces : DiskState → DiskState → Type 0
SameKeyspaces old new = (q : Name) → is_of_keyspaces q ≡ true → new q ≡ old q

home_along : (old new : DiskState) → SameKeyspaces old new → (id : ℕ) (records : List Fields) (h : Home) → homes.Rests old id records h → homes.Rests new id records h
home_along old new same id records h rests = rests_where old new id records h (λ q counts. same q (counted_within id q counts)) rests

in_root : codes "keyspaces" ≡ [] → ⊥
in_root e = cc

pub tree_along : (old new : DiskState) (records : List Fields) (t : Tree) → SameKeyspaces old new → LiesInTree old records t → LiesInTree new records t
tree_along old new records t same lies =
    let rests = lies.rests in
    let catalog = rests.catalog in
    record {
      rests = record {
        named = λ name at none. subst IsNeverFolder (sym (same name (in_folder (codes "keyspaces") name in_root at))) (rests.named name at none);
        catalog = rests_with old new records t.last t.keyspaces catalog (home_along old new same 0 records (home_of t.last catalog.texts) catalog.home);
        made = rests.made;
        homes = homes_along (λ id. Unit {0}) t.keyspaces.living t.homes (λ k d lt. tt) old new
            (λ id h any home. record { records = home.records; rests = home_along old new same id home.records h home.rests; indexes = home.indexes; indexed = home.indexed; clears = home.clears }) rests.homes;
        versions = rests.versions;
      };
      free = λ id least small. ap (λ (p : Place). p.now) (same (table_name 0 id) refl) ∙ lies.free id least small;
    }
