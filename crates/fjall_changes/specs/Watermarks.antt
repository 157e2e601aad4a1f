-- What is stored of the batches of sealed journals, and the watermarks that tell of it.
use Rattle.std.specs.Prelude.{◌≡◌, ◌⊎◌, ℕ, Bool, true, false, List, [], ◌∷◌, map, None}
use Rattle.std.specs.List.{AllByRecursion}
use Rattle.fjall_meta.specs.Contents.{Stored, counts_beyond, is_beyond}
use Rattle.fjall_journal.specs.Batches.{Shown, Written, shown}
use Rattle.fjall_files.specs.Journals.{Sealed}
pub use Rattle.fjall_files.specs.Telling.{AreMarksOf, AreRaised, changed_by, greatest, is_among}
use Rattle.fjall_meta.specs.Keyspaces.{Keyspaces, keyspace_at}
use Rattle.fjall_recovery.specs.Halves.{Tree}
use Rattle.fjall_recovery.specs.Homes.{stored_in}
use Rattle.fjall_recovery.specs.Journals.{WholeJournal}

-- ---- batches

-- none of the batch's items and clears counts beyond what is stored
abbrev pub IsStored : Keyspaces → (ℕ → Stored) → Shown → Type 0
IsStored s stored b =
    AllByRecursion (λ item. counts_beyond s stored b.number item.keyspace_id ≡ false) b.items
    × AllByRecursion (λ id. counts_beyond s stored b.number id ≡ false) b.clears

-- so it is of each of these batches, where the keyspaces' files are those of this tree
abbrev pub AreStored : Tree → List Written → Type 0
AreStored t batches = AllByRecursion (IsStored t.keyspaces (stored_in t.homes t.versions)) (map shown batches)

-- ---- watermarks

-- the list tells of these journals, in order: their ids, and the watermarks of their batches
abbrev pub AreMarked : List Sealed → List WholeJournal → Type 0
AreMarked [] [] = Unit {0}
AreMarked (s ∷ sealed) (j ∷ journals) = (s.id ≡ j.id) × AreMarksOf (map shown j.batches) s.watermarks × AreMarked sealed journals
AreMarked sealed journals = ⊥

-- The answers are true: yes only where no living keyspace has the id, or the number isn't beyond what is stored of it.
abbrev pub TellsTrue : (ℕ → ℕ → Bool) → Tree → Type 0
TellsTrue flushed t = (id lsn : ℕ) → flushed id lsn ≡ true
    → (keyspace_at id t.keyspaces.living ≡ None) ⊎ (is_beyond (stored_in t.homes t.versions id).persisted lsn ≡ false)
