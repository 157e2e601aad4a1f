use Rattle.std.proofs.Common.{◌≡◌, take}
use Rattle.fjall_files.specs.Journals.{bytes_of}
use Rattle.fjall_files.proofs.journal_manager.JournalManager.disk_space_used.Given as goal

abbrev pub invariant-loop-journal : goal.invariant-loop-journal
invariant-loop-journal l = l.total ≡ bytes_of (take l.journal-index l.journal-items)
