use Rattle.std.proofs.Common.{arith}
use Rattle.fjall_disk_memory.proofs.Crashed.{is_empty}
use Rattle.fjall_disk_memory.proofs.node.holds_any.Goals as goal

pub returns-clause-none : goal.returns-clause-none
returns-clause-none c = is_empty c.args.names.now c.args.folder.now (λ k d below. c.loop-named.invariant k d (omega arith))
