use Rattle.std.proofs.Common.{arith}
use Rattle.fjall_disk_memory.proofs.Folders as lemmas
use Rattle.fjall_disk_memory.proofs.node.settle_names.Goals as goal

pub returns : goal.returns
returns c =
    let i = c.loop-at.invariant in
    lemmas.settle_names c.args.names.now.items c.loop-at.names.items c.args.folder.now i.long i.names (λ k d below. i.done k d (omega arith))
