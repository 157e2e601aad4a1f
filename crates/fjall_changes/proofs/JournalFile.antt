-- The active journal's file is there while a writer goes on in it.
use Rattle.std.proofs.Common.{Bool, true, false, cond, List, ℕ, [], ◌∷◌, ◌++◌, ap, sym, ◌∙◌, subst}
use Rattle.fjall_base.specs.Disk.{Append, DiskState, IsFile, Meaning, Place, Took, state_in}
use Rattle.fjall_base.proofs.Served.{file_as_was, file_stays}
use Rattle.fjall_journal.specs.Writer.{Journal}
use Rattle.fjall_recovery.specs.Places.{Journaling}
use Rattle.fjall_changes.specs.Journaling.{IsWriting}

pub writing_file : (state : DiskState) (writer : Journal) (j : Journaling) → IsWriting state writer j → IsFile (state writer.name).now
writing_file state writer j writing = subst (λ (p : Place). IsFile p.now) (sym (ap (λ (n : List ℕ). state n) writing.name ∙ writing.root.active)) tt

-- it is still there once a text was written
pub written_file : (full : Bool) (writer : Journal) (text : List ℕ) (old mid : Meaning) → Took old mid (cond full (Append writer.name (writer.buffer ++ text) ∷ []) []) → IsFile (state_in old writer.name).now → IsFile (state_in mid writer.name).now
written_file true writer text old mid took is = file_stays old mid writer.name (writer.buffer ++ text) took is
written_file false writer text old mid took is = file_as_was old mid writer.name took is
