use Rattle.std.proofs.Common.{arith}
use Rattle.fjall_disk_memory.proofs.Crashed.{state_crashed}
use Rattle.fjall_disk_memory.proofs.node.crash_names.Goals as goal

pub returns : goal.returns
returns c =
    let i = c.loop-at.invariant in
    state_crashed c.args.names.now.items c.loop-at.names.items c.args.keep i.long i.names (λ k d below. i.done k d (omega arith))
