use Rattle.std.proofs.Common.{length}
use Rattle.fjall_files.proofs.Evicting.{Evicted}
use Rattle.fjall_files.proofs.journal_manager.JournalManager.maintenance.Given as goal

abbrev pub invariant-loop-oldest : goal.invariant-loop-oldest
invariant-loop-oldest g l = Evicted (g.F.Flushed.flushed l.fn.flushed) g.D.Disk.honest l.fn.self l.self-inside.journals.items (g.D.Disk.meaning l.fn.disk) (g.D.Disk.meaning l.disk)

abbrev pub decreases-loop-oldest : goal.decreases-loop-oldest
decreases-loop-oldest g l = length l.self-inside.journals.items
