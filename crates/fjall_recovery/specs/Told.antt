-- What is told of the journals of a folder: which are sealed and how long their files are, and up to which number each
-- keyspace has changes in each.
use Rattle.std.specs.Prelude.{◌≡◌, ℕ, List, [], ◌∷◌, map, length}
use Rattle.std.specs.List.{AllByRecursion, AllZip, flat_map}
use Rattle.fjall_base.specs.Disk.{Image}
use Rattle.fjall_journal.specs.Batches.{batch_text, shown}
use Rattle.fjall_files.specs.Journals.{Sealed}
use Rattle.fjall_files.specs.Marks.{JournalMarks}
use Rattle.fjall_files.specs.Telling.{AreMarksOf, IsSealedAs}
use Rattle.fjall_recovery.specs.Journals.{AreJournalsRead, IsSealed, WholeJournal}

-- the number of the sealed journal is this one's, its watermarks are those of the batches, and its file has their texts alone
abbrev pub TellsOf : WholeJournal → Sealed → Type 0
TellsOf j sealed = IsSealedAs j.id (map shown j.batches) (length (flat_map batch_text j.batches)) sealed

-- Of all journals but the last one tells a sealed one. The watermarks are those of the last, which is active.
abbrev pub TellOf : List WholeJournal → List Sealed → JournalMarks → Type 0
TellOf [] sealed marks = (sealed ≡ []) × AreMarksOf [] marks
TellOf (j ∷ []) sealed marks = (sealed ≡ []) × AreMarksOf (map shown j.batches) marks
TellOf (j ∷ k ∷ journals) [] marks = ⊥
TellOf (j ∷ k ∷ journals) (s ∷ sealed) marks = TellsOf j s × TellOf (k ∷ journals) sealed marks

-- This is told of the journals of these ids, all of which are sealed.
pub record AreSealedAs (image : Image) (ids : List ℕ) (sealed : List Sealed) : Type 0 where
  pub journals : List WholeJournal
  pub named : map (λ j. j.id) journals ≡ ids
  pub whole : AllByRecursion (IsSealed image) journals
  pub tell : AllZip TellsOf journals sealed

-- This is told of the journals of these ids, of which the last is active.
pub record AreTold (image : Image) (ids : List ℕ) (sealed : List Sealed) (marks : JournalMarks) : Type 0 where
  pub journals : List WholeJournal
  pub named : map (λ j. j.id) journals ≡ ids
  pub read : AreJournalsRead image journals
  pub tell : TellOf journals sealed marks
