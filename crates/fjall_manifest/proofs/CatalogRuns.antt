-- Runs that leave what a catalog rests on, and the ids of its tables.
use Rattle.std.proofs.Common.{◌<◌, List, [], Option, Some, None, IfSome, All, arith}
use Rattle.std.proofs.lemmas.List.Elements.{All-head}
use Rattle.fjall_base.specs.Disk.{Image, Meaning, LeavesOnly, LeavesOnlyBy, state_in}
use Rattle.fjall_base.proofs.Moments.{weaken}
use Rattle.fjall_table.specs.declared.table_info.TableInfo.{TableInfo}
use Rattle.fjall_manifest.specs.Records.{Fields, IsRecord}
use Rattle.fjall_manifest.specs.Homes.{HasHome, SyncedStays}
use Rattle.fjall_manifest.proofs.Runs as homes_runs
use Rattle.fjall_manifest.proofs.Views.{usually}
use Rattle.fjall_meta.specs.Keyspaces.{Keyspaces}
use Rattle.fjall_manifest.specs.declared.catalog.Catalog.{Catalog}
use Rattle.fjall_manifest.specs.Catalog.{CatalogRests, Says, fields, home_of, listed}
use Rattle.fjall_manifest.proofs.CatalogResting.{files_say}

-- its table was given an id below the next one
pub given : (c : Catalog) → IsRecord (fields c) → IfSome c.table (λ t. t.id < c.next_table_id)
given c is = of c.table is.consistent.given
  where
    of : (table : Option TableInfo) → All (λ t. t.id < c.next_table_id) (listed table) → IfSome table (λ t. t.id < c.next_table_id)
    of None each = tt
    of (Some t) each = All-head (λ (t : TableInfo). t.id < c.next_table_id) t [] each

-- ---- a run that leaves it

module _ (records : List Fields) (c : Catalog) (s : Keyspaces) where
  -- where its home is there at each moment, it is said at each
  pub said_on : (old new : Meaning) (rests : CatalogRests (state_in old) records c s) → LeavesOnlyBy SyncedStays old new (λ image. HasHome image 0 records (home_of c rests.texts)) → LeavesOnly old new (λ image. Says image records c s)
  said_on old new rests run =
      let has : Image → Type 0 = λ image. HasHome image 0 records (home_of c rests.texts) in
      weaken old new has (λ image. Says image records c s) (usually old new has run) (λ image is. files_say (state_in old) image records c s rests is.files)

  -- at each moment, and at the end, it is said
  pub record Still (old new : Meaning) : Type 0 where
    pub rests : CatalogRests (state_in new) records c s
    pub run : LeavesOnlyBy SyncedStays old new (λ image. HasHome image 0 records (home_of c rests.texts))

  pub start : (old : Meaning) → CatalogRests (state_in old) records c s → Still old old
  start old rests = record { rests = rests; run = (homes_runs.start 0 (omega arith) records (home_of c rests.texts) old rests.home).run }
