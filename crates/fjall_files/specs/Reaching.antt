-- Which numbers the watermarks of journals reach.
use Rattle.std.specs.Prelude.{ℕ, Bool, List, nat_le}
use Rattle.std.specs.List.{list_any}
use Rattle.fjall_files.specs.Journals.{Sealed}
use Rattle.fjall_files.specs.Marks.{JournalMarks}

-- whether the watermark of some keyspace is this number or a greater one
abbrev pub reaches : JournalMarks → ℕ → Bool
reaches marks number = list_any (λ mark. nat_le number mark.1) marks

-- whether one of these journals has such a watermark
abbrev pub some_reaches : List Sealed → ℕ → Bool
some_reaches journals number = list_any (λ j. reaches j.watermarks number) journals
