use Rattle.std.proofs.Common.{sym}
use Rattle.fjall_c.proofs.mirror.MirrorDiskDisk.append.Goals as goal

-- what the disk in memory says, where it holds what this one does
pub returns-clause-err : goal.returns-clause-err
returns-clause-err c honest = rw (sym c.keep-is_kept.ensures.same) (c.append-done.ensures.err)
