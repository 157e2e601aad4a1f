use Rattle.std.proofs.Common.{take}
use Rattle.fjall_compaction.specs.MergePlans.{AreNamed}
use Rattle.fjall_compaction.proofs.merge.plan.new_files.Given as goal

abbrev pub invariant-loop-at : goal.invariant-loop-at
invariant-loop-at l = AreNamed l.fn.id l.fn.next (take l.at l.fn.tables) l.files.items
