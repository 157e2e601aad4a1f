-- What the sealing of all active memtables leaves of trees.
use Rattle.std.proofs.Common.{◌≡◌, ℕ, ◌≤◌, Bool, true, false, cond, IsTrue, List, [], ◌∷◌, All, get_or, max, refl, sym, ◌∙◌, ap, subst}
use Rattle.std.specs.Option.{option_map}
use Rattle.std.proofs.lemmas.List.Elements.{All-map, All-weaker}
use Rattle.fjall_base.specs.Disk.{Meaning}
use Rattle.fjall_journal.specs.Batches.{Shown}
use Rattle.fjall_meta.specs.declared.living.LivingKeyspace.{LivingKeyspace}
use Rattle.fjall_meta.specs.Keyspaces.{Keyspaces}
use Rattle.fjall_table.specs.Blocks.{Entry}
use Rattle.fjall_meta.specs.declared.recovery.Persisted.{Persisted}
use Rattle.fjall_meta.specs.Replays.{persisted_at}
use Rattle.fjall_memtable.specs.Jobs.{AreBelow}
use Rattle.fjall_memtable.specs.Views.{value_at}
use Rattle.fjall_memtable.specs.Sorted.{flat}
use Rattle.fjall_meta.specs.Contents.{Stored, clears_held, versions_held}
use Rattle.fjall_memtable.specs.Parts.{empty_from, holds_nothing}
use Rattle.fjall_tree.specs.Trees.{ReadsAll, Shape, sealed_off}
use Rattle.fjall_tree.proofs.Changes.{first_sealed, sealed_clears, sealed_read, sealed_versions}
use Rattle.fjall_trees.specs.Forests.{AreBefore, Forest, Planted}
use Rattle.fjall_trees.specs.Sealing.{all_sealed, sealed_once}
use Rattle.fjall_trees.specs.Tables.{AreReadOn}
use Rattle.fjall_trees.proofs.Places.{tree_each}
use Rattle.fjall_replay.specs.Beside.{AreEndedBy, AreReplayedWith, ShowsWith}
use Rattle.fjall_replay.specs.Replayed.{ids_of, past}

-- ---- one tree

-- what a tree has that holds nothing in its active memtable, and what it has once that is sealed, it has
pub sealed_has : (P : Shape → Type 0) (shape : Shape) → (holds_nothing shape.memory.active ≡ true → P shape) → P (sealed_off shape) → P (sealed_once shape)
unfolding sealed_once
sealed_has P shape same made = by (holds_nothing shape.memory.active) refl
  where
    by : (b : Bool) → holds_nothing shape.memory.active ≡ b → P (cond b shape (sealed_off shape))
    by true e = same e
    by false e = made

sealed_shows : (entries : List (List Entry)) (clears : List ℕ) (versions : List Entry) (shape : Shape) → ShowsWith entries clears versions shape → ShowsWith entries clears versions (sealed_once shape)
sealed_shows entries clears versions shape with = sealed_has (ShowsWith entries clears versions) shape (λ e. with) (record {
  below = subst (λ n. AreBelow n (flat entries)) (sym (first_sealed shape.memory.sealed shape.memory.active (empty_from shape.memory.active.until))) with.below;
  shows = λ key instant. (λ i. value_at key instant (sealed_clears shape i) (sealed_versions shape entries i)) ∙ with.shows key instant;
})

sealed_until : (n : ℕ) (shape : Shape) → shape.memory.active.until ≤ n → (sealed_once shape).memory.active.until ≤ n
sealed_until n shape le = sealed_has (λ s. s.memory.active.until ≤ n) shape (λ e. le) le

-- ---- all trees

all_keep : (P : ℕ → Shape → Type 0) (trees : Forest) → ((id : ℕ) (shape : Shape) → P id shape → P id (sealed_once shape)) → All (λ k. P k.id k.shape) trees
    → All (λ k. P k.id k.shape) (all_sealed trees)
all_keep P trees keeps all =
    All-map (λ (k : Planted). P k.id k.shape) (λ (k : Planted). record { id = k.id; shape = sealed_once k.shape }) trees
    (All-weaker (λ (k : Planted). P k.id k.shape) (λ (k : Planted). P k.id (sealed_once k.shape)) (λ k is. keeps k.id k.shape is) trees all)

pub all_empty : (trees : Forest) → All (λ k. IsTrue (holds_nothing k.shape.memory.active)) (all_sealed trees)
all_empty trees =
    All-map (λ (k : Planted). IsTrue (holds_nothing k.shape.memory.active)) (λ (k : Planted). record { id = k.id; shape = sealed_once k.shape }) trees
    (λ i d lt. let shape = (get_or trees i d).shape in sealed_has (λ s. IsTrue (holds_nothing s.memory.active)) shape (λ e. e) refl)

pub all_ids : (trees : Forest) → ids_of (all_sealed trees) ≡ ids_of trees
all_ids [] = refl
all_ids (k ∷ trees) = ap (λ (l : List ℕ). k.id ∷ l) (all_ids trees)

pub all_before : (bound : ℕ) (trees : Forest) → AreBefore bound trees → AreBefore bound (all_sealed trees)
all_before bound trees = all_keep (λ id s. s.memory.active.until ≤ bound) trees (λ id s le. sealed_until bound s le)

pub all_ended : (persisted : List Persisted) (least : ℕ) (trees : Forest) → AreEndedBy persisted least trees → AreEndedBy persisted least (all_sealed trees)
all_ended persisted least trees =
    all_keep (λ id s. s.memory.active.until ≤ max (past (persisted_at id persisted)) least) trees (λ id s le. sealed_until (max (past (persisted_at id persisted)) least) s le)

pub all_read : (disk : Meaning) (entries : ℕ → List (List Entry)) (trees : Forest) → AreReadOn disk trees entries → AreReadOn disk (all_sealed trees) entries
all_read disk entries trees =
    all_keep (λ id s. ReadsAll disk s (entries id)) trees (λ id s r. sealed_has (λ t. ReadsAll disk t (entries id)) s (λ e. r) (sealed_read disk s (entries id) r))

pub all_shown : (entries : ℕ → List (List Entry)) (s : Keyspaces) (stored : ℕ → Stored) (batches : List Shown) (trees : Forest) → AreReplayedWith entries s stored batches trees
    → AreReplayedWith entries s stored batches (all_sealed trees)
all_shown entries s stored batches trees shown = λ i d lt.
    let k : LivingKeyspace = get_or s.living i d in
    let one = shown i d lt in (
      sealed_once one.0,
      tree_each (λ id. sealed_once) k.id trees ∙ ap (option_map sealed_once) one.1,
      sealed_shows (entries k.id) (clears_held s (stored k.id) k.id batches) (versions_held s (stored k.id) k.id batches) one.0 one.2,
    )
