-- The trees as they stand one behind another, now and at marks.
use Rattle.std.specs.Prelude.{ℕ, List, [], ◌∷◌, ◌++◌, drop, map, take}
use Rattle.fjall_memtable.specs.declared.mark.Mark.{Mark}
use Rattle.fjall_tree.specs.Shapes.{IsMark, shape_at, shape_of}
use Rattle.fjall_trees.specs.declared.trees.KeyspaceTree.{KeyspaceTree}
use Rattle.fjall_trees.specs.Forests.{Forest, Planted}

-- one of them
abbrev pub planted : KeyspaceTree → Planted
planted k = record { id = k.id; shape = shape_of k.tree }

-- all of them
abbrev pub forest_in : List KeyspaceTree → Forest
forest_in trees = map planted trees

-- ---- at marks

-- what they held at these marks, one for each of the first ones; the others as they are
abbrev pub forest_at : List Mark → List KeyspaceTree → Forest
forest_at [] trees = forest_in trees
forest_at (mark ∷ marks) [] = []
forest_at (mark ∷ marks) (k ∷ trees) = record { id = k.id; shape = shape_at mark k.tree } ∷ forest_at marks trees

-- Each of these marks is one of the tree at its place, which once held that.
abbrev pub AreMarks : List KeyspaceTree → List Mark → Type 0
AreMarks trees [] = Unit {0}
AreMarks [] (mark ∷ marks) = ⊥
AreMarks (k ∷ trees) (mark ∷ marks) = IsMark k.tree mark × AreMarks trees marks

-- what they held at marks of the trees from a place on; those before it as they are
abbrev pub forest_from : ℕ → List Mark → List KeyspaceTree → Forest
forest_from from marks trees = forest_in (take from trees) ++ forest_at marks (drop from trees)
