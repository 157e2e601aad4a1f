use Rattle.std.proofs.Common.{false, None, length, map}
use Rattle.fjall_memtable.specs.SortedPages.{pairs_of}
use Rattle.fjall_memtable.specs.Sorted.{flat, sorted}
use Rattle.fjall_cursors.specs.RunPages.{front_pairs, front_with}
use Rattle.fjall_cursors.specs.Pages.{IsMade}
use Rattle.fjall_cursors.proofs.run_pages.page_from_front.Given as goal

abbrev pub invariant-loop-runs : goal.invariant-loop-runs
invariant-loop-runs g l =
    IsMade false (map g.R.Run.left l.runs) (pairs_of l.instant l.bound None (sorted (flat (map g.R.Run.left l.fn.runs)))) (front_with l.page) (front_pairs l.page) l.max

abbrev pub decreases-loop-runs : goal.decreases-loop-runs
decreases-loop-runs g l = length (flat (map g.R.Run.left l.runs))
