-- A deleted keyspace's files while they are removed.
use Rattle.std.specs.Prelude.{◌≡◌, ◌≢◌, ◌⊎◌, ℕ, ◌<◌, ◌^◌, [], All, List}
use Rattle.fjall_base.specs.Disk.{IsEmpty, IsNoFile, Missing, DiskState, Meaning, Took, state_in}
use Rattle.fjall_meta.specs.Keyspaces.{Keyspaces}
use Rattle.fjall_files.specs.Calls.{AllServed}
use Rattle.fjall_files.specs.Names.{keyspace_folder}
use Rattle.fjall_files.specs.Own.{HoldsOnlyOwn}
use Rattle.fjall_manifest.specs.Homes.{only}
use Rattle.fjall_manifest.specs.Records.{Fields}
use Rattle.fjall_recovery.specs.Halves.{Tree}
use Rattle.fjall_recovery.specs.Places.{LiesInTree}

-- an id that keyspaces get, and none that lives has
pub record IsUnused (id : ℕ) (s : Keyspaces) : Type 0 where
  pub positive : 0 < id
  pub fits : id < 2 ^ 64
  pub unused : All (λ k. k.id ≢ id) s.living

-- nothing stands in the place of the keyspace's folder, and no crash brings one back; nothing stands right in it
pub record IsRemoved (id : ℕ) (state : DiskState) : Type 0 where
  pub folder : state (keyspace_folder id) ≡ only Missing
  pub inside : IsEmpty state (keyspace_folder id)

-- The keyspace's folder held the engine's own files alone, and it is removed for good; or it holds anything else, and the disk
-- was left as it stands.
abbrev pub RemovesOwn : ℕ → Meaning → Meaning → Type 0
RemovesOwn id old new =
    (HoldsOnlyOwn (state_in old) id × IsRemoved id (state_in new))
    ⊎ ((HoldsOnlyOwn (state_in old) id → ⊥) × Took old new [])

-- for whichever tree lies on the disk in which no keyspace has this id
abbrev pub WhereUnused : Meaning → ℕ → (List Fields → Tree → Type 0) → Type 0
WhereUnused disk id Holds = (records : List Fields) (t : Tree) → IsUnused id t.keyspaces → LiesInTree (state_in disk) records t → Holds records t

-- where some tree lies on the disk and no file has the name of the keyspace's folder, each call could be served
abbrev pub ServesRemoval : Meaning → Meaning → ℕ → Type 0
ServesRemoval old new id = (records : List Fields) (t : Tree) → LiesInTree (state_in old) records t → IsNoFile (state_in old (keyspace_folder id)).now → AllServed old new
