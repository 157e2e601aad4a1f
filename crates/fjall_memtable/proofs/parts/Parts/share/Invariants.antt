use Rattle.std.proofs.Common.{◌≡◌, take}
use Rattle.fjall_memtable.specs.Shares.{shared}
use Rattle.fjall_memtable.proofs.parts.Parts.share.Given as goal

abbrev pub invariant-loop-part : goal.invariant-loop-part
invariant-loop-part l = shared l.parts.items ≡ shared (take l.part-index l.oldest)
