use Rattle.fjall_disk_memory.specs.MemoryDisk.{meaning_in}
use Rattle.fjall_shared.proofs.NewDisks.{new_is_left}
use Rattle.fjall_rows.proofs.fresh_handles.open_on_new.Goals as goal

pub open_with_gate-requires-after_bounds : goal.open_with_gate-requires-after_bounds
open_with_gate-requires-after_bounds g c κs within honest = new_is_left (meaning_in c.new-disk.result) c.new-disk.ensures.meaning
