-- What a rotation seals.
use Rattle.std.specs.Prelude.{ℕ}
use Rattle.fjall_journal.specs.Writer.{Journal, written_out}
use Rattle.fjall_files.specs.Marks.{JournalMarks}
use Rattle.fjall_files.specs.Journals.{Sealed}

-- the journal of this number once its buffer is in the file
abbrev pub sealed_of : ℕ → Journal → JournalMarks → Sealed
sealed_of id j marks = record { id = id; len = (written_out j).len; watermarks = marks }
