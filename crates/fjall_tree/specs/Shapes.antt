-- What a tree holds, now and at a mark.
use Rattle.std.specs.Prelude.{◌≡◌}
use Rattle.std.specs.Option.{option_map}
use Rattle.fjall_memtable.specs.declared.mark.Mark.{Mark}
use Rattle.fjall_memtable.specs.Memories.{IsMark as IsMarkThere, memory_at, memory_of}
use Rattle.fjall_tree.specs.declared.tree.Tree.{Tree}
use Rattle.fjall_tree.specs.Out.{flushing, merging}
use Rattle.fjall_tree.specs.Trees.{Shape}

-- what it holds
abbrev pub shape_of : Tree → Shape
shape_of tree = record { tables = tree.tables.items; clears = tree.clears.items; memory = memory_of tree.parts; flush = option_map flushing tree.flush; merge = option_map merging tree.merge }

-- what it held at a mark
abbrev pub shape_at : Mark → Tree → Shape
shape_at mark tree = record { tables = tree.tables.items; clears = tree.clears.items; memory = memory_at mark tree.parts; flush = option_map flushing tree.flush; merge = option_map merging tree.merge }

-- It once held that, and nothing was sealed since.
abbrev pub IsMark : Tree → Mark → Type 0
IsMark tree mark = IsMarkThere tree.parts mark

-- The marks of the one are marks of the other, and stand for the same there.
abbrev pub KeepsMarks : Tree → Tree → Type 0
KeepsMarks old new = (mark : Mark) → IsMark old mark → IsMark new mark × (shape_at mark new ≡ shape_at mark old)
