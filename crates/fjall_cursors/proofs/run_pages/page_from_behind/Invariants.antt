use Rattle.std.proofs.Common.{true, None, length, map, reverse}
use Rattle.fjall_memtable.specs.SortedPages.{pairs_back}
use Rattle.fjall_memtable.specs.Sorted.{flat, sorted}
use Rattle.fjall_cursors.specs.RunPages.{back_pairs, back_with}
use Rattle.fjall_cursors.specs.Pages.{IsMade}
use Rattle.fjall_cursors.proofs.run_pages.page_from_behind.Given as goal

abbrev pub invariant-loop-runs : goal.invariant-loop-runs
invariant-loop-runs g l =
    IsMade true (map g.R.Run.left l.runs) (pairs_back l.instant l.bound None (reverse (sorted (flat (map g.R.Run.left l.fn.runs))))) (back_with l.page) (back_pairs l.page) l.max

abbrev pub decreases-loop-runs : goal.decreases-loop-runs
decreases-loop-runs g l = length (flat (map g.R.Run.left l.runs))
