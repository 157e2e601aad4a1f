use Rattle.std.proofs.Common.{map}
use Rattle.fjall_base.specs.Pairs.{key_range}
use Rattle.fjall_cursors.specs.Runs.{ahead_of}
use Rattle.fjall_cursors.proofs.Looping.{Looping}
use Rattle.fjall_cursors.proofs.Reading.{all_to_come}
use Rattle.fjall_cursors.proofs.pages.page.Given as goal

abbrev pub invariant-filling : goal.invariant-filling
invariant-filling g l = Looping g.D.Disk.honest (g.D.Disk.meaning l.fn.disk) (g.D.Disk.meaning l.disk) l.fn.tables l.tables (key_range l.range) l.back l.instant l.bound l.max l.fn.memory.items l.runs l.maker

abbrev pub decreases-filling : goal.decreases-filling
decreases-filling g l = all_to_come (map ahead_of l.runs)
