-- Watermarks: up to which number each keyspace has changes in a journal.
use Rattle.std.specs.Prelude.{◌≡◌, ◌≢◌, ℕ, Bool, not, List, [], ◌∷◌, map, filter, max, nat_eq, if◌then◌else◌, Option, None, Some}
use Rattle.std.specs.List.{list_all}
use Rattle.std.specs.List.Sorted.{IsStrictlyIncreasing}
use Rattle.fjall_files.specs.declared.watermarks.EvictionWatermark.{EvictionWatermark}

-- keyspaces by their ids, each with the greatest number of a change of it
abbrev pub JournalMarks : Type 0
JournalMarks = List (ℕ × ℕ)

-- such a pair as a watermark
abbrev pub watermark_of : ℕ × ℕ → EvictionWatermark
watermark_of mark = record { keyspace_id = mark.0; lsn = mark.1 }

-- the greatest number of a change of this keyspace, where it has one
abbrev pub lsn_of : JournalMarks → ℕ → Option ℕ
lsn_of [] id = None
lsn_of (mark ∷ marks) id = if nat_eq id mark.0 then Some mark.1 else lsn_of marks id

-- the ids ascend, so that each keyspace stands there once
abbrev pub IsAscending : JournalMarks → Type 0
IsAscending marks = IsStrictlyIncreasing (map (λ mark. mark.0) marks)

-- the greater of a watermark, where there is one, and this number
abbrev pub raised_mark : Option ℕ → ℕ → Option ℕ
raised_mark None lsn = Some lsn
raised_mark (Some old) lsn = Some (max old lsn)

-- the keyspace of this id had a change of this number: its watermark is raised, and all others are as they were
pub record IsRaised (id lsn : ℕ) (old new : JournalMarks) : Type 0 where
  pub here : lsn_of new id ≡ raised_mark (lsn_of old id) lsn
  pub others : (q : ℕ) → q ≢ id → lsn_of new q ≡ lsn_of old q

-- whether each keyspace has been flushed up to its watermark
abbrev pub all_flushed : (ℕ → ℕ → Bool) → JournalMarks → Bool
all_flushed flushed marks = list_all (λ mark. flushed mark.0 mark.1) marks

-- the ids of the keyspaces that haven't
abbrev pub unflushed : (ℕ → ℕ → Bool) → JournalMarks → List ℕ
unflushed flushed marks = map (λ mark. mark.0) (filter (λ mark. not (flushed mark.0 mark.1)) marks)
