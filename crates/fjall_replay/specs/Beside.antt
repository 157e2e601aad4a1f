-- What the trees of keyspaces show beside their tables, while the journals are replayed one after another.
use Rattle.std.specs.Prelude.{◌≡◌, Bool, true, ℕ, ◌<◌, ◌≤◌, ◌^◌, max, List, [], All, Some, None, map}
use Rattle.fjall_base.specs.Pairs.{Bytes}
use Rattle.fjall_journal.specs.Batches.{Shown}
use Rattle.fjall_meta.specs.Keyspaces.{Keyspaces}
use Rattle.fjall_table.specs.Blocks.{Entry}
use Rattle.fjall_memtable.specs.Jobs.{AreBelow}
use Rattle.fjall_memtable.specs.Views.{value_at}
use Rattle.fjall_memtable.specs.Sorted.{flat}
use Rattle.fjall_memtable.specs.Parts.{empty_from, with_active}
use Rattle.fjall_meta.specs.declared.recovery.Persisted.{Persisted}
use Rattle.fjall_meta.specs.Replays.{first_fault, persisted_at}
use Rattle.fjall_meta.specs.Contents.{AreWithin, Stored, clears_held, is_beyond, versions_held}
use Rattle.fjall_tree.specs.Trees.{Shape, clears_of, floor_of, versions_of, with_memory}
use Rattle.fjall_trees.specs.Forests.{AreBefore, Forest, IsForest, tree_at}
use Rattle.fjall_replay.specs.Replayed.{past}

-- ---- what is shown

-- To each view the tree shows, with tables that have these entries, what these clears and versions make. The tables are older
-- than what is in memory.
pub record ShowsWith (entries : List (List Entry)) (clears : List ℕ) (versions : List Entry) (shape : Shape) : Type 0 where
  pub below : AreBelow (floor_of shape.memory) (flat entries)
  pub shows : (key : Bytes) (instant : ℕ) → value_at key instant (clears_of shape) (versions_of shape entries) ≡ value_at key instant clears versions

-- Each keyspace that lives has a tree, which shows with its tables, of which these are the entries, what its files hold and what
-- the batches make beyond that.
abbrev pub AreReplayedWith : (ℕ → List (List Entry)) → Keyspaces → (ℕ → Stored) → List Shown → Forest → Type 0
AreReplayedWith entries s stored batches trees =
    All (λ k. (shape : Shape) × (tree_at k.id trees ≡ Some shape)
    × ShowsWith (entries k.id) (clears_held s (stored k.id) k.id batches) (versions_held s (stored k.id) k.id batches) shape) s.living

-- ---- where memory ends

-- No number in a tree's memory is beyond the keyspace's persisted one, or else it is below that of each batch to come, which is
-- at least this one.
abbrev pub AreEndedBy : List Persisted → ℕ → Forest → Type 0
AreEndedBy persisted least trees = All (λ k. k.shape.memory.active.until ≤ max (past (persisted_at k.id persisted)) least) trees

-- These batches have no fault, and may be replayed behind what is in memory.
pub record MayFollow (persisted : List Persisted) (batches : List Shown) (trees : Forest) : Type 0 where
  pub least : ℕ
  pub sound : first_fault least batches ≡ None
  pub ended : AreEndedBy persisted least trees

-- ---- a change that comes next

-- A change may come next under this number: all that is in memory is numbered below it, as are these batches, and as are the keyspaces
-- that live when they were made. It is beyond what is stored of each of them, which is within its persisted number.
pub record MayComeNext (s : Keyspaces) (stored : ℕ → Stored) (batches : List Shown) (number : ℕ) (trees : Forest) : Type 0 where
  pub forest : IsForest trees
  pub before : AreBefore number trees
  pub small : number < 2 ^ 63
  pub within : AreWithin s stored
  pub older : All (λ b. b.number < number) batches
  pub made : All (λ k. k.number < number) s.living
  pub beyond : All (λ k. is_beyond (stored k.id).persisted number ≡ true) s.living

-- Nothing of the keyspace of this id is stored, and no table of it has an entry.
pub record IsUnstored (entries : ℕ → List (List Entry)) (stored : ℕ → Stored) (id : ℕ) : Type 0 where
  pub tables : entries id ≡ []
  pub versions : (stored id).versions ≡ []
  pub clears : (stored id).clears ≡ []

-- ---- what a replay takes of trees

-- The memory of each tree whose id passes the test begins at that number or before.
abbrev pub BeginBy : (ℕ → Bool) → ℕ → Forest → Type 0
BeginBy counted number trees = All (λ k. counted k.id ≡ true → k.shape.memory.active.from ≤ number) trees

-- the tree with nothing in its active memtable
abbrev pub at_rest : Shape → Shape
at_rest shape = with_memory (with_active (empty_from shape.memory.active.from) shape.memory) shape

-- all trees so
abbrev pub all_at_rest : Forest → Forest
all_at_rest trees = map (λ k. record { id = k.id; shape = at_rest k.shape }) trees
