use Rattle.std.proofs.Common.{◌≡◌, length}
use Rattle.fjall_memtable.specs.Views.{newest}
use Rattle.fjall_memtable.specs.Parts.{AreApart, versions_in}
use Rattle.fjall_memtable.specs.Shares.{shared}
use Rattle.fjall_memtable.proofs.shared.newest_of.Given as goal

abbrev pub invariant-loop-part : goal.invariant-loop-part
invariant-loop-part l = record {
  apart : AreApart (shared l.rest);
  same : newest l.key l.instant (versions_in (shared l.rest)) ≡ newest l.key l.instant (versions_in (shared l.initial.rest));
}

abbrev pub decreases-loop-part : goal.decreases-loop-part
decreases-loop-part l = length l.rest
