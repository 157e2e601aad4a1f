use Rattle.std.proofs.Common.{length, map}
use Rattle.fjall_memtable.specs.Sorted.{flat}
use Rattle.fjall_cursors.specs.Runs.{left_in}
use Rattle.fjall_cursors.proofs.Paging.{Going, IsNext}
use Rattle.fjall_cursors.proofs.page_maker.PageMaker.go_on.Given as goal

abbrev pub invariant-versions : goal.invariant-versions
invariant-versions l = Going l.back l.max l.fn.self l.self l.fn.runs l.runs

abbrev pub decreases-versions : goal.decreases-versions
decreases-versions l = length (flat (map left_in l.runs))

abbrev pub invariant-ahead : goal.invariant-ahead
invariant-ahead l = Going l.back l.max l.fn.self l.self l.fn.runs l.runs × IsNext l.back l.max l.initial.runs l.self l.runs l.next

abbrev pub decreases-ahead : goal.decreases-ahead
decreases-ahead l = length (flat (map left_in l.runs))
