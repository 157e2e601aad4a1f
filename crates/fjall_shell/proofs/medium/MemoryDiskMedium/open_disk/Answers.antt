use Rattle.fjall_disk_memory.specs.MemoryDisk.{meaning_in}
use Rattle.fjall_shared.proofs.NewDisks.{new_is_left}
use Rattle.fjall_shell.proofs.medium.MemoryDiskMedium.open_disk.Goals as goal

pub returns : goal.returns
returns c honest = new_is_left (meaning_in c.new.result) c.new.ensures.meaning
