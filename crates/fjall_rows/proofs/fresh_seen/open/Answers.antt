use Rattle.fjall_disk_memory.specs.MemoryDisk.{meaning_in}
use Rattle.fjall_shared.proofs.NewDisks.{new_is_left}
use Rattle.fjall_rows.proofs.fresh_seen.open.Goals as goal

pub open-requires : goal.open-requires
open-requires c = record { left = λ honest. new_is_left (meaning_in c.new-disk.result) c.new-disk.ensures.meaning }
