-- The trees of all keyspaces, now and at marks.
use Rattle.std.specs.Prelude.{◌≡◌, drop, length}
use Rattle.fjall_trees.specs.declared.marks.Marks.{Marks}
use Rattle.fjall_trees.specs.declared.trees.Trees.{Trees}
use Rattle.fjall_trees.specs.Forests.{Forest}
use Rattle.fjall_trees.specs.Lists.{AreMarks, forest_from, forest_in}

-- what they hold
abbrev pub forest_of : Trees → Forest
forest_of trees = forest_in trees.trees.items

-- what they held at marks
abbrev pub forest_before : Marks → Trees → Forest
forest_before marks trees = forest_from marks.from marks.marks.items trees.trees.items

-- They once held that.
abbrev pub AreMarksOfTrees : Trees → Marks → Type 0
AreMarksOfTrees trees marks = AreMarks (drop marks.from trees.trees.items) marks.marks.items

-- The same, and there is a mark for each of them.
abbrev pub AreMarksOfAll : Trees → Marks → Type 0
AreMarksOfAll trees marks = (marks.from ≡ 0) × (length marks.marks.items ≡ length trees.trees.items) × AreMarksOfTrees trees marks

-- The marks of all of the ones are marks of the others, and stand for the same there.
abbrev pub KeepAllMarks : Trees → Trees → Type 0
KeepAllMarks old new = (marks : Marks) → AreMarksOfAll old marks → AreMarksOfAll new marks × (forest_before marks new ≡ forest_before marks old)
