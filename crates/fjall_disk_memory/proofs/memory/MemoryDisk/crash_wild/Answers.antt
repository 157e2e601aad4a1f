use Rattle.std.proofs.Common.{sym, subst}
use Rattle.fjall_base.specs.Crash.{IsHoused, crashed}
use Rattle.fjall_disk_memory.specs.Memory.{state_of}
use Rattle.fjall_disk_memory.specs.Wild.{fills_of}
use Rattle.fjall_disk_memory.proofs.Filled.{housed_filled, wild_image}
use Rattle.fjall_disk_memory.proofs.Housed.{housed_crashed}
use Rattle.fjall_disk_memory.proofs.memory.MemoryDisk.crash_wild.Goals as goal

pub returns-clause-image : goal.returns-clause-image
returns-clause-image c = wild_image _ (fills_of c.args.fill.now) c.args.self.files.housed

pub returns-clause-left : goal.returns-clause-left
returns-clause-left c = c.in_ok-fill_names.ensures _ c.in_ok-crash_names.ensures

pub invariant_of-result : goal.invariant_of-result
invariant_of-result c = record { housed = subst IsHoused (sym (c.in_ok-fill_names.ensures _ c.in_ok-crash_names.ensures)) (housed_filled (fills_of c.args.fill.now) (crashed 0 (state_of c.args.self.files.names.items)) (housed_crashed 0 _ c.args.self.files.housed)) }
