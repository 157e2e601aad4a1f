-- All active memtables sealed at once.
use Rattle.std.specs.Prelude.{ℕ, ◌++◌, if◌then◌else◌, drop, map, take}
use Rattle.fjall_memtable.specs.Parts.{holds_nothing}
use Rattle.fjall_tree.specs.Trees.{Shape, sealed_off}
use Rattle.fjall_trees.specs.Forests.{Forest}

-- the tree with its active memtable sealed, where that holds something
unfoldable pub sealed_once : Shape → Shape
sealed_once shape = if holds_nothing shape.memory.active then shape else sealed_off shape

-- all trees so
abbrev pub all_sealed : Forest → Forest
all_sealed trees = map (λ k. record { id = k.id; shape = sealed_once k.shape }) trees

-- the first of them so, as many as that, and the others as they are
abbrev pub first_sealed : ℕ → Forest → Forest
first_sealed count trees = all_sealed (take count trees) ++ drop count trees
