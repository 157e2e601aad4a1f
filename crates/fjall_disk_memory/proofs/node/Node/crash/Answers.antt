use Rattle.std.proofs.Common.{ap, ◌∙◌, sym, arith}
use Rattle.fjall_base.specs.Crash.{keeping}
use Rattle.fjall_disk_memory.specs.Memory.{entry_of}
use Rattle.fjall_disk_memory.proofs.Crashed.{cut_behind}
use Rattle.fjall_disk_memory.proofs.node.Node.crash.Goals as goal

pub returns-in-File : goal.returns-in-File
returns-in-File c =
    cut_behind c.in-File.bytes.items _ c.in-File.synced c.args.keep c.saturating_add.result c.len.result
    c.truncate.ensures.items (omega arith) (omega arith)
    ∙ sym (ap (λ node. keeping c.args.keep (entry_of node)) c.in-File.is)
