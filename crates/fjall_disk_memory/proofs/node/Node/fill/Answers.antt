use Rattle.std.proofs.Common.{ap, ◌∙◌, sym, arith}
use Rattle.fjall_disk_memory.specs.Wild.{followed}
use Rattle.fjall_disk_memory.specs.Memory.{entry_of}
use Rattle.fjall_disk_memory.proofs.Filled.{added_to}
use Rattle.fjall_disk_memory.proofs.node.Node.fill.Goals as goal

pub returns-in_ok-extend_from_slice-in-File-clause-ok : goal.returns-in_ok-extend_from_slice-in-File-clause-ok
returns-in_ok-extend_from_slice-in-File-clause-ok c =
    added_to c.extend_from_slice.new.self.items c.in-File.held.items c.args.bytes.now c.in-File.synced c.len.result c.in_ok-extend_from_slice-in-File.ensures.items (omega arith)
    ∙ sym (ap (λ node. followed c.args.bytes.now (entry_of node)) c.in-File.is)
