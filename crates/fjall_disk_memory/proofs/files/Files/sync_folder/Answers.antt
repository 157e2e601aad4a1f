use Rattle.std.proofs.Common.{sym, subst}
use Rattle.fjall_base.specs.Crash.{IsHoused}
use Rattle.fjall_disk_memory.proofs.Housed.{housed_settle}
use Rattle.fjall_disk_memory.proofs.files.Files.sync_folder.Goals as goal

pub invariant_of-self : goal.invariant_of-self
invariant_of-self c = record { housed = subst IsHoused (sym c.settle_names.ensures) (housed_settle _ c.args.folder.now c.args.self.now.housed) }
