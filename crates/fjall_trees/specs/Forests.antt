-- The trees of keyspaces.
use Rattle.std.specs.Prelude.{ℕ, ◌<◌, ◌≤◌, ◌==◌, not, List, [], ◌∷◌, Option, Some, None, if◌then◌else◌, filter, map, All, AllPairs}
use Rattle.std.proofs.Props.{props}
use Rattle.fjall_memtable.specs.Parts.{AreApart, IsHeld, apart_prop, held_prop, parts_of}
use Rattle.fjall_tree.specs.Trees.{IsShape, Shape, shape_prop}

-- the tree of one keyspace, under the keyspace's id
pub record Planted : Type 0 where
  pub id : ℕ
  pub shape : Shape

-- the trees of keyspaces, by id ascending
abbrev pub Forest : Type 0
Forest = List Planted

-- Its parts in memory are such as trees have, and stand apart; the record's clears lie below them and ascend.
pub record IsTree (shape : Shape) : Type 0 where
  pub held : All IsHeld (parts_of shape.memory)
  pub apart : AreApart (parts_of shape.memory)
  pub clears : IsShape shape.clears shape.memory

-- Each id stands below all that follow, and each tree is one.
pub record IsForest (trees : Forest) : Type 0 where
  pub ascend : AllPairs (λ j k. j.id < k.id) trees
  pub each : All (λ k. IsTree k.shape) trees

-- the tree of a keyspace, where it has one
abbrev pub tree_at : ℕ → Forest → Option Shape
tree_at id [] = None
tree_at id (k ∷ trees) = if k.id == id then Some k.shape else tree_at id trees

-- the trees, with that of one keyspace changed
abbrev pub altered_at : ℕ → (Shape → Shape) → Forest → Forest
altered_at id change trees = map (λ k. record { id = k.id; shape = if k.id == id then change k.shape else k.shape }) trees

-- the trees but that of one keyspace
abbrev pub without : ℕ → Forest → Forest
without id trees = filter (λ k. not (k.id == id)) trees

-- all that is in memory was changed under numbers below this one
abbrev pub AreBefore : ℕ → Forest → Type 0
AreBefore number trees = All (λ k. k.shape.memory.active.until ≤ number) trees

-- ---- each fact has one proof

tree_prop : (shape : Shape) → IsProp (IsTree shape)
tree_prop shape = hlevel (props, held_prop, apart_prop, shape_prop)

pub forest_prop : (trees : Forest) → IsProp (IsForest trees)
forest_prop trees = hlevel (props, tree_prop)
