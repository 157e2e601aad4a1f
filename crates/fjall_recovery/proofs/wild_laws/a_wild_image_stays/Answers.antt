use Rattle.std.proofs.Common.{[]}
use Rattle.fjall_base.specs.Disk.{disk_of}
use Rattle.fjall_recovery.proofs.Holding.{crash_left, same_image}
use Rattle.fjall_recovery.proofs.Cutting.{left_itself}
use Rattle.fjall_recovery.proofs.wild_laws.a_wild_image_stays.Goals as goal

pub returns-clause-left : goal.returns-clause-left
returns-clause-left c = left_itself

pub returns-clause-alone : goal.returns-clause-alone
returns-clause-alone c state steps wild image leaves is = same_image wild image (crash_left (disk_of wild) [] wild (left_itself state steps wild leaves)) is
