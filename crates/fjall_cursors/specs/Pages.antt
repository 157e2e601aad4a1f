-- Pages in the making, from the start or from behind.
use Rattle.std.specs.Prelude.{◌≡◌, ℕ, ◌≤◌, Bool, true, false, List, None, length}
use Rattle.std.specs.List.{All}
use Rattle.fjall_base.specs.Pairs.{Bytes}
use Rattle.fjall_table.specs.Blocks.{Entry}
use Rattle.fjall_memtable.specs.Jobs.{OnceEach}
use Rattle.fjall_memtable.specs.SortedPages.{pairs_back, pairs_of}
use Rattle.fjall_memtable.specs.Sorted.{IsInTurn, flat, in_turn, sorted}
use Rattle.fjall_cursors.specs.RunPages.{back_pairs, back_with, front_pairs, front_with}
use Rattle.fjall_cursors.specs.declared.page_maker.PageMaker.{PageMaker}
use Rattle.fjall_cursors.specs.declared.page_maker.PageMaker.TheVariants.{Front, Back}

-- whether it is made from behind
abbrev pub goes_back : PageMaker → Bool
goes_back (Front page) = false
goes_back (Back page) = true

-- the pairs so far, as they came
abbrev pub made : PageMaker → List (Bytes × Bytes)
made (Front page) = front_pairs page
made (Back page) = back_pairs page

-- all pairs of it, where these versions are still to be looked at
abbrev pub made_with : PageMaker → List Entry → List (Bytes × Bytes)
made_with (Front page) versions = front_with page versions
made_with (Back page) versions = back_with page versions

-- all pairs that versions make, as they come from the start or from behind
abbrev pub page_of : Bool → ℕ → ℕ → List Entry → List (Bytes × Bytes)
page_of false instant bound versions = pairs_of instant bound None versions
page_of true instant bound versions = pairs_back instant bound None versions

-- The runs are in order, and what is made with all that is left of them is the whole.
pub record IsMade (back : Bool) (runs : List (List Entry)) (whole : List (Bytes × Bytes)) (all : List Entry → List (Bytes × Bytes)) (made : List (Bytes × Bytes)) (max : ℕ) : Type 0 where
  pub ordered : All (IsInTurn back) runs
  pub once : OnceEach (flat runs)
  pub told : all (in_turn back (sorted (flat runs))) ≡ whole
  pub few : length made ≤ max
