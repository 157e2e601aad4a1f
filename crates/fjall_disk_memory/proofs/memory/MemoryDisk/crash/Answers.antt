use Rattle.std.proofs.Common.{sym, subst}
use Rattle.fjall_base.specs.Crash.{IsHoused}
use Rattle.fjall_base.proofs.Crashes.{is_image}
use Rattle.fjall_disk_memory.proofs.Housed.{housed_crashed}
use Rattle.fjall_disk_memory.proofs.memory.MemoryDisk.crash.Goals as goal

pub returns-clause-image : goal.returns-clause-image
returns-clause-image c = is_image c.args.keep _ c.args.self.files.housed

pub invariant_of-result : goal.invariant_of-result
invariant_of-result c = record { housed = subst IsHoused (sym c.in_ok-crash_names.ensures) (housed_crashed c.args.keep _ c.args.self.files.housed) }
