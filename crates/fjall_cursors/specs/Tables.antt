-- Runs over several tables.
use Rattle.std.specs.Prelude.{◌≡◌, ℕ, ◌≤◌, Bool, List, [], ◌∷◌, ◌++◌, Option, IfSome, length, map}
use Rattle.fjall_base.specs.Pairs.{KeyRange}
use Rattle.fjall_table.specs.Blocks.{Entry}
use Rattle.fjall_table.specs.Tables.{AreBlocks, entries_of, entries_within, handles_of}
use Rattle.fjall_table_reader.specs.Readers.{Reader}
use Rattle.fjall_memtable.specs.Sorted.{in_turn}
use Rattle.fjall_cursors.specs.declared.page_run.PageRun.{PageRun}
use Rattle.fjall_cursors.specs.declared.page_run.PageRun.TheVariants.{Memory}
use Rattle.fjall_cursors.specs.Parts.{Ahead}
use Rattle.fjall_cursors.specs.Runs.{ahead_of, behind_of, left_in}

-- ---- runs

-- all that a run stands for, where it is over a table of these blocks
abbrev pub all_in : KeyRange → List (List Entry) → PageRun → List Entry
all_in range blocks run = left_in run ++ behind_of range blocks (ahead_of run)

-- The blocks that are still to come are among so many.
abbrev pub EndsWithinBlocks : ℕ → Option Ahead → Type 0
EndsWithinBlocks count a = IfSome a (λ a. a.last ≤ count)

-- The run is the table's part between the bounds, and none of it was looked at.
pub record BeginsRun (range : KeyRange) (back : Bool) (t : Reader) (run : PageRun) : Type 0 where
  pub end : EndsWithinBlocks (length t.handles) (ahead_of run)
  pub all : (blocks : List (List Entry)) → AreBlocks blocks → t.handles ≡ handles_of 0 blocks
      → all_in range blocks run ≡ in_turn back (entries_within range (entries_of blocks))

-- the same of several tables, one by one
abbrev pub AllBegin : KeyRange → Bool → List Reader → List PageRun → Type 0
AllBegin range back [] [] = Unit {0}
AllBegin range back (t ∷ tables) (run ∷ runs) = BeginsRun range back t run × AllBegin range back tables runs
AllBegin range back tables runs = ⊥

-- The runs of a page: those of the tables, and behind them those in memory.
abbrev pub StartsAt : KeyRange → Bool → List Reader → List (List Entry) → List PageRun → Type 0
StartsAt range back tables memory runs = (first : List PageRun) × AllBegin range back tables first × (runs ≡ first ++ map (λ run. Memory run) memory)
