-- The tables of all keyspaces on a disk.
use Rattle.std.specs.Prelude.{◌≡◌, ℕ, ◌==◌, List, [], ◌∷◌, if◌then◌else◌, All, unwrap_or}
use Rattle.fjall_base.specs.Disk.{Meaning}
use Rattle.fjall_table.specs.Blocks.{Entry}
use Rattle.fjall_tree.specs.Jobs.{HasRoomForTables}
use Rattle.fjall_tree.specs.Puts.{bare_tree}
use Rattle.fjall_tree.specs.Trees.{IsSameShape, ReadsAll, Shape}
use Rattle.fjall_trees.specs.declared.trees.Trees.{Trees}
use Rattle.fjall_trees.specs.Forests.{Forest, tree_at}

-- the tree of a keyspace, and one of nothing where it has none
abbrev pub shape_in : ℕ → Forest → Shape
shape_in id trees = unwrap_or (tree_at id trees) (bare_tree 0)

-- On this disk the tables of each keyspace have these entries, all numbered below where its memory begins.
abbrev pub AreReadOn : Meaning → Forest → (ℕ → List (List Entry)) → Type 0
AreReadOn disk trees entries = All (λ k. ReadsAll disk k.shape (entries k.id)) trees

-- the entries of all keyspaces' tables, with those of one keyspace changed
abbrev pub entries_with : ℕ → List (List Entry) → (ℕ → List (List Entry)) → ℕ → List (List Entry)
entries_with id new entries other = if other == id then new else entries other

-- The same trees, whatever is kept of their tables.
abbrev pub AreSameTrees : Forest → Forest → Type 0
AreSameTrees [] [] = Unit {0}
AreSameTrees [] (k ∷ new) = ⊥
AreSameTrees (j ∷ old) [] = ⊥
AreSameTrees (j ∷ old) (k ∷ new) = (k.id ≡ j.id) × IsSameShape j.shape k.shape × AreSameTrees old new

-- The tree of a keyspace has room for so many tables and so many clears more.
abbrev pub HasRoomAt : ℕ → Trees → (table_count clear_count : ℕ) → Type 0
HasRoomAt id trees table_count clear_count = All (λ k. k.id ≡ id → HasRoomForTables k.tree table_count clear_count) trees.trees.items
