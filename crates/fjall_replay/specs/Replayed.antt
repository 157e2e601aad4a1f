-- What a replay takes: numbers that are told, and batches that trees take.
use Rattle.std.specs.Prelude.{◌≡◌, ℕ, ◌+◌, ◌<◌, ◌^◌, List, All, Option, Some, None, map}
use Rattle.fjall_journal.specs.Batches.{Shown}
use Rattle.fjall_meta.specs.Keyspaces.{Keyspaces}
use Rattle.fjall_table.specs.Blocks.{IsEntry}
use Rattle.fjall_meta.specs.declared.recovery.Persisted.{Persisted}
use Rattle.fjall_meta.specs.Replays.{persisted_at}
use Rattle.fjall_meta.specs.Views.{entry_of}
use Rattle.fjall_meta.specs.Contents.{Stored}
use Rattle.fjall_trees.specs.Forests.{Forest}
pub use Rattle.fjall_recovery.specs.Folders.{past}

-- of each living keyspace the persisted number is told
abbrev pub AreTold : Keyspaces → (ℕ → Stored) → List Persisted → Type 0
AreTold s stored persisted = All (λ k. persisted_at k.id persisted ≡ (stored k.id).persisted) s.living

-- the ids of the keyspaces that have trees
abbrev pub ids_of : Forest → List ℕ
ids_of trees = map (λ k. k.id) trees

-- Its number is below 2^63, and its items are of sizes that trees take.
pub record MayReplay (b : Shown) : Type 0 where
  pub small : b.number < 2 ^ 63
  pub items : All (λ item. IsEntry (entry_of b.number item)) b.items
