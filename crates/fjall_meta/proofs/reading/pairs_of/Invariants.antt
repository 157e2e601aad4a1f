use Rattle.std.proofs.Common.{◌≡◌, take}
use Rattle.fjall_meta.specs.Reading.{pairs_of}
use Rattle.fjall_meta.proofs.reading.pairs_of.Given as goal

abbrev pub invariant-loop-entry : goal.invariant-loop-entry
invariant-loop-entry l = l.pairs.items ≡ pairs_of (take l.entry-index l.entries)
