-- The runs of a page, some of which stand only partly in memory.
use Rattle.std.specs.Prelude.{ℕ, Bool, false, true, nat_lt, ◌&&◌, List, [], ◌∷◌, ◌++◌, Option, Some, None, map}
use Rattle.fjall_base.specs.Pairs.{KeyRange}
use Rattle.fjall_table.specs.Blocks.{Entry}
use Rattle.fjall_cursors.specs.declared.page_run.PageRun.{PageRun}
use Rattle.fjall_cursors.specs.declared.page_run.PageRun.TheVariants.{Memory, Table}
use Rattle.fjall_cursors.specs.Parts.{Ahead, behind, blocks_ahead, left_of}

-- the versions of a run that are in memory
abbrev pub left_in : PageRun → List Entry
left_in (Memory run) = run
left_in (Table part) = left_of part

-- the blocks that are still to come, where it is a table's
abbrev pub ahead_of : PageRun → Option Ahead
ahead_of (Memory run) = None
ahead_of (Table part) = Some part.ahead

abbrev pub is_empty : List Entry → Bool
is_empty [] = true
is_empty (e ∷ es) = false

-- whether nothing is in memory, but a block is to come
abbrev pub is_dry : PageRun → Bool
is_dry (Memory run) = false
is_dry (Table part) = is_empty part.held && nat_lt part.ahead.next part.ahead.last

-- how many blocks are still to come
abbrev pub to_come : Option Ahead → ℕ
to_come None = 0
to_come (Some a) = blocks_ahead a

-- what is still to come of a run over a table of these blocks
abbrev pub behind_of : KeyRange → List (List Entry) → Option Ahead → List Entry
behind_of range blocks None = []
behind_of range blocks (Some a) = behind range blocks a

-- the same of several runs, the first of which are those of these tables
abbrev pub all_behind : KeyRange → List (List (List Entry)) → List (Option Ahead) → List (List Entry)
all_behind range tables [] = []
all_behind range [] (a ∷ more) = behind_of range [] a ∷ all_behind range [] more
all_behind range (blocks ∷ tables) (a ∷ more) = behind_of range blocks a ∷ all_behind range tables more

-- lists with what is behind each
abbrev pub joined : List (List Entry) → List (List Entry) → List (List Entry)
joined [] more = []
joined (run ∷ runs) [] = (run ++ []) ∷ joined runs []
joined (run ∷ runs) (rest ∷ more) = (run ++ rest) ∷ joined runs more

-- all that the runs stand for, one by one, as they are gone through
abbrev pub all_of : KeyRange → List (List (List Entry)) → List PageRun → List (List Entry)
all_of range tables runs = joined (map left_in runs) (all_behind range tables (map ahead_of runs))
