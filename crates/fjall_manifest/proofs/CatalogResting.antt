-- A catalog that rests, and what a crash leaves of it.
use Rattle.std.proofs.Common.{◌≡◌, List, arith}
use Rattle.fjall_base.specs.Disk.{DiskState, Image, IsImage}
use Rattle.fjall_manifest.specs.Records.{Fields, IsRecord}
use Rattle.fjall_manifest.specs.Homes as homes
use Rattle.fjall_manifest.specs.Homes.{HasFiles}
use Rattle.fjall_manifest.proofs.Resting as homes_resting
use Rattle.fjall_manifest.proofs.Resting.{At, crash_home, home_in}
use Rattle.fjall_manifest.proofs.Views.{image_wider, narrower, usual}
use Rattle.fjall_meta.specs.Keyspaces.{Keyspaces}
use Rattle.fjall_manifest.specs.declared.catalog.Catalog.{Catalog}
use Rattle.fjall_manifest.specs.Catalog.{CatalogRests, Says, fields, home_of, listed}

pub last_record : (state : DiskState) (records : List Fields) (last : Catalog) (s : Keyspaces) → CatalogRests state records last s → IsRecord (fields last)
last_record state records last s rests = homes_resting.last_record state 0 records (home_of last rests.texts) rests.home

-- ---- from its home

-- the home rests elsewhere too
pub rests_with : (old new : DiskState) (records : List Fields) (last : Catalog) (s : Keyspaces) (rests : CatalogRests old records last s) → homes.Rests new 0 records (home_of last rests.texts) → CatalogRests new records last s
rests_with old new records last s rests home = record { texts = rests.texts; home = home; pairs = rests.pairs; next = rests.next; are = rests.are }

-- what stands there is all that matters
pub rests_along : (old new : DiskState) (records : List Fields) (last : Catalog) (s : Keyspaces) → At 0 (listed last.table) (λ q. new q ≡ old q) → CatalogRests old records last s → CatalogRests new records last s
rests_along old new records last s at rests = rests_with old new records last s rests (homes_resting.rests_along old new 0 records (home_of last rests.texts) at rests.home)

-- the files of its home say it
pub files_say : (state : DiskState) (image : Image) (records : List Fields) (last : Catalog) (s : Keyspaces) (rests : CatalogRests state records last s) → HasFiles image 0 records (home_of last rests.texts) → Says image records last s
files_say state image records last s rests files = record { texts = rests.texts; files = files; pairs = rests.pairs; next = rests.next; are = rests.are }

-- ---- what a crash leaves

pub crash_says : (state : DiskState) (image : Image) (records : List Fields) (last : Catalog) (s : Keyspaces) → CatalogRests state records last s → IsImage state image → Says image records last s
crash_says state image records last s rests is =
    files_say state image records last s rests (crash_home state image 0 records (home_of last rests.texts) (omega arith) rests.home (image_wider (narrower usual) state image is)).files
