use Rattle.std.proofs.Common.{refl}
use Rattle.fjall_disk_memory.specs.MemoryDisk.{meaning_in}
use Rattle.fjall_c.proofs.Opening.{opened_so, refused_so}
use Rattle.fjall_c.proofs.session.opening.open_core.Goals as goal

pub returns-in-Ok-clause-opened : goal.returns-in-Ok-clause-opened
returns-in-Ok-clause-opened c =
    let so = c.in-Ok.ensures in
    opened_so (meaning_in c.args.files) (meaning_in c.new-disk.result.files) c.in-Ok.core.engine c.in-Ok.core.transactions c.new-disk.ensures (so.opened refl) (so.safe refl) (so.any_moment refl) so.none

pub returns-in-Err-clause-refused : goal.returns-in-Err-clause-refused
returns-in-Err-clause-refused c =
    refused_so (meaning_in c.args.files) (meaning_in c.new-disk.result.files) (meaning_in c.in-Err.refused.value.files) c.in_ok-config.config.journal_recovery_mode c.in-Err.refused.error
    c.new-disk.ensures c.in_ok-config.ensures.mode (c.in-Err.ensures.due refl)
