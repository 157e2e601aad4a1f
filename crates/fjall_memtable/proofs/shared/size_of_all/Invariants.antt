use Rattle.std.proofs.Common.{◌≡◌, ◌-◌, ◌^◌, min, take}
use Rattle.std.specs.List.{sum_by}
use Rattle.fjall_memtable.specs.Entries.{size_of}
use Rattle.fjall_memtable.specs.Parts.{versions_in}
use Rattle.fjall_memtable.specs.Shares.{shared}
use Rattle.fjall_memtable.proofs.shared.size_of_all.Given as goal

abbrev pub invariant-loop-part : goal.invariant-loop-part
invariant-loop-part l = l.total ≡ min (sum_by size_of (versions_in (shared (take l.part-index l.parts)))) (2 ^ 64 - 1)
