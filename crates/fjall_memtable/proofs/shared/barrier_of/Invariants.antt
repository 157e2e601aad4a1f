use Rattle.std.proofs.Common.{◌≡◌, length}
use Rattle.fjall_memtable.specs.SortedPages.{barrier}
use Rattle.fjall_memtable.specs.Parts.{AreApart, clears_in}
use Rattle.fjall_memtable.specs.Shares.{shared}
use Rattle.fjall_memtable.proofs.shared.barrier_of.Given as goal

abbrev pub invariant-loop-part : goal.invariant-loop-part
invariant-loop-part l = record {
  apart : AreApart (shared l.rest);
  same : barrier l.instant (clears_in (shared l.rest)) ≡ barrier l.instant (clears_in (shared l.initial.rest));
}

abbrev pub decreases-loop-part : goal.decreases-loop-part
decreases-loop-part l = length l.rest
