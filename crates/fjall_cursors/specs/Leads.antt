-- The runs that a page is gone on with.
use Rattle.std.specs.Prelude.{◌≡◌, ℕ, zero, suc, ◌<◌, Bool, false, List, [], ◌∷◌, Option, Some, IfSome, length, map, slice_set}
use Rattle.std.specs.List.{AllByRecursion}
use Rattle.fjall_memtable.specs.Sorted.{IsFirst}
use Rattle.fjall_cursors.specs.declared.page_run.PageRun.{PageRun}
use Rattle.fjall_cursors.specs.Runs.{is_dry, left_in}

-- None of the runs has to be filled, but maybe the one at a place.
abbrev pub UndryBut : ℕ → List PageRun → Type 0
UndryBut at [] = Unit {0}
UndryBut zero (run ∷ runs) = AllByRecursion (λ run. is_dry run ≡ false) runs
UndryBut (suc at) (run ∷ runs) = (is_dry run ≡ false) × UndryBut at runs

-- That run begins with the first version of all, and that other one, if there is one, with the first of the others; none
-- has to be filled.
pub record Leading (back : Bool) (runs : List PageRun) (at : ℕ) (other : Option ℕ) : Type 0 where
  pub within : at < length runs
  pub other_within : IfSome other (λ other. other < length runs)
  pub first : IsFirst back (map left_in runs) (Some at)
  pub second : IsFirst back (slice_set (map left_in runs) at []) other
  pub undry : AllByRecursion (λ run. is_dry run ≡ false) runs
