use Rattle.fjall_base.specs.Pairs.{key_range}
use Rattle.fjall_cursors.specs.Parts.{blocks_ahead}
use Rattle.fjall_cursors.proofs.Parts.{Filling}
use Rattle.fjall_cursors.proofs.table_run.TableRun.fill.Given as goal

abbrev pub invariant-reading : goal.invariant-reading
invariant-reading g l = Filling g.D.Disk.honest (g.D.Disk.meaning l.fn.disk) (g.D.Disk.meaning l.disk) l.fn.reader l.reader (key_range l.range) l.fn.self l.self

abbrev pub decreases-reading : goal.decreases-reading
decreases-reading g l = blocks_ahead l.self.ahead
