use Rattle.std.proofs.Common.{◌≡◌, take}
use Rattle.fjall_memtable.specs.SortedPages.{barrier}
use Rattle.fjall_jobs.proofs.bound.bound_of.Given as goal

abbrev pub invariant-clears : goal.invariant-clears
invariant-clears l = l.bound ≡ barrier l.instant (take l.number-index l.clears)
