-- What a look through one journal finds.
use Rattle.std.specs.Prelude.{◌≡◌, ℕ, List, None, Result, Ok, Err}
use Rattle.fjall_base.specs.declared.error.Error.{Error}
use Rattle.fjall_journal.specs.Batches.{Shown}
use Rattle.fjall_files.specs.Telling.{AreMarksOf}
use Rattle.fjall_meta.specs.Replays.{first_fault, least_after, NamesFault}
use Rattle.fjall_recovery.specs.declared.look.Look.{Look}
use Rattle.fjall_recovery.specs.Journals.{IsReadAs}

-- The batches, of which the first may have that number or a greater one, have no fault, and this is the least number that a next
-- one may have; or this is the name of their first fault.
abbrev pub AreChecked : ℕ → List Shown → Result ℕ Error → Type 0
AreChecked least batches (Ok next) = (first_fault least batches ≡ None) × (next ≡ least_after least batches)
AreChecked least batches (Err error) = NamesFault (first_fault least batches) error

-- This was found of a journal's text, whose first batch may have that number or a greater one.
pub record IsLook (text : List ℕ) (least : ℕ) (look : Look) : Type 0 where
  pub batches : List Shown
  pub read : IsReadAs text batches look.end look.tail
  pub checked : AreChecked least batches look.checked
  pub marks : AreMarksOf batches look.watermarks
