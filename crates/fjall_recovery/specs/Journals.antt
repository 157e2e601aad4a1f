-- The journals of a folder, as they are read one after another.
use Rattle.std.specs.Prelude.{◌≡◌, ◌⊎◌, ◌↔◌, ℕ, ◌<◌, ◌^◌, Bool, true, false, List, [], ◌∷◌, map, drop, Contains, None}
use Rattle.std.specs.List.{flat_map, AllByRecursion}
use Rattle.std.specs.List.Sorted.{IsStrictlyIncreasing}
use Rattle.fjall_base.specs.Disk.{Image, IsFile}
use Rattle.fjall_files.specs.Texts.{text_in}
use Rattle.fjall_journal.specs.declared.batch.Tail.{Tail}
use Rattle.fjall_journal.specs.declared.batch.Tail.TheVariants.{Clean, Torn}
use Rattle.fjall_journal.specs.Batches.{Written, Shown, IsWhole, IsTail, shown}
use Rattle.fjall_meta.specs.Replays.{first_fault, least_after}
use Rattle.fjall_files.specs.Names.{journal_name}

-- the bytes of the journal of that id in an image
abbrev pub journal_text : Image → ℕ → List ℕ
journal_text image id = text_in (image (journal_name id))

-- a journal's id, and its whole batches
pub record WholeJournal : Type 0 where
  pub id : ℕ
  pub batches : List Written

-- These batches stand whole at the front of the bytes, and behind them stands this tail.
pub record ReadsAs (text : List ℕ) (batches : List Written) (tail : Tail) : Type 0 where
  pub end : ℕ
  pub whole : IsWhole text batches end
  pub behind : IsTail (drop end text) tail

-- Each journal but the last is sealed, and whole to its end. The last one is active: a crash may have torn it.
abbrev pub AreJournalsRead : Image → List WholeJournal → Type 0
AreJournalsRead image [] = Unit {0}
AreJournalsRead image (j ∷ []) = ReadsAs (journal_text image j.id) j.batches Clean ⊎ ReadsAs (journal_text image j.id) j.batches Torn
AreJournalsRead image (j ∷ k ∷ journals) = ReadsAs (journal_text image j.id) j.batches Clean × AreJournalsRead image (k ∷ journals)

-- the ids of all journals in the root, ascending
pub record AreJournalIds (image : Image) (ids : List ℕ) : Type 0 where
  pub ascending : IsStrictlyIncreasing ids
  pub each : (id : ℕ) → Contains ids id ↔ (id < 2 ^ 64) × IsFile (image (journal_name id))

-- the batches of all journals, in order
abbrev pub batches_in : List WholeJournal → List Written
batches_in journals = flat_map (λ j. j.batches) journals

-- These are the journals of the image, and none of their batches has a fault: numbers ascend over all of them.
pub record HoldsJournals (image : Image) (journals : List WholeJournal) : Type 0 where
  pub ids : AreJournalIds image (map (λ j. j.id) journals)
  pub read : AreJournalsRead image journals
  pub sound : first_fault 0 (map shown (batches_in journals)) ≡ None

-- a journal that is whole to its end
abbrev pub IsSealed : Image → WholeJournal → Type 0
IsSealed image j = ReadsAs (journal_text image j.id) j.batches Clean

-- the tail of a journal that was torn, or wasn't
abbrev pub tail_of : Bool → Tail
tail_of true = Torn
tail_of false = Clean

-- The whole batches of the last of these journals end there, and its tail is torn or isn't; 0 where there is no journal.
abbrev pub EndsAt : Image → List WholeJournal → ℕ → Bool → Type 0
EndsAt image [] end torn = (end ≡ 0) × (torn ≡ false)
EndsAt image (j ∷ []) end torn = IsWhole (journal_text image j.id) j.batches end × IsTail (drop end (journal_text image j.id)) (tail_of torn)
EndsAt image (j ∷ k ∷ journals) end torn = EndsAt image (k ∷ journals) end torn

-- What was gathered of journals: their batches have no fault, and this is the least number that a next batch may have.
pub record Gathers (journals : List WholeJournal) (least : ℕ) : Type 0 where
  pub sound : first_fault 0 (map shown (batches_in journals)) ≡ None
  pub next : least ≡ least_after 0 (map shown (batches_in journals))

-- What was read of the sealed journals of these ids.
pub record AreSealed (image : Image) (ids : List ℕ) (least : ℕ) : Type 0 where
  pub journals : List WholeJournal
  pub named : map (λ j. j.id) journals ≡ ids
  pub sealed : AllByRecursion (IsSealed image) journals
  pub gathers : Gathers journals least

-- What was read of the journals of these ids, of which the last is active.
pub record AreFound (image : Image) (ids : List ℕ) (least end : ℕ) (torn : Bool) : Type 0 where
  pub journals : List WholeJournal
  pub named : map (λ j. j.id) journals ≡ ids
  pub read : AreJournalsRead image journals
  pub gathers : Gathers journals least
  pub ends : EndsAt image journals end torn

-- One journal as it was read: its batches, and where they end before which tail.
pub record IsReadAs (text : List ℕ) (batches : List Shown) (end : ℕ) (tail : Tail) : Type 0 where
  pub written : List Written
  pub shows : batches ≡ map shown written
  pub whole : IsWhole text written end
  pub behind : IsTail (drop end text) tail
