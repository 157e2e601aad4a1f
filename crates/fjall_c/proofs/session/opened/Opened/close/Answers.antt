use Rattle.std.proofs.Common.{refl}
use Rattle.fjall_disk_memory.specs.MemoryDisk.{meaning_in}
use Rattle.fjall_c.proofs.session.opened.Opened.close.Goals as goal

pub returns : goal.returns
returns c =
    let so = c.close-disk.ensures in
    record { disk = meaning_in c.close-disk.result.0.files; owes = so.owes; took = so.disk refl; crash = so.crash refl }
