use Rattle.std.proofs.Common.{ap}
use Rattle.fjall_disk_memory.specs.Memory.{entry_of}
use Rattle.fjall_disk_memory.proofs.node.Node.kind.Goals as goal

pub returns-in-File : goal.returns-in-File
returns-in-File c = (_, _, ap entry_of c.in-File.is)
