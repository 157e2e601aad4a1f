-- The watermarks of the active journal, with places for those of keyspaces that it doesn't change yet.
use Rattle.std.specs.Prelude.{ℕ, List, max, Option, unwrap_or}
use Rattle.std.specs.List.{filter_map, fold}
use Rattle.std.specs.Option.{IsSome, option_map}
use Rattle.std.specs.BTreeMap.{insert_entry, is_at}
use Rattle.std.specs.Map.{lookup}
use Rattle.std.specs.Ordering.{nat_cmp}
use Rattle.fjall_journal.specs.Changes.{Change, Emptied, Items}
use Rattle.fjall_journal.specs.Ops.{BatchItem}
use Rattle.fjall_files.specs.Marks.{JournalMarks, lsn_of}

-- keyspaces by their ids, each with the greatest number of a change of it, where it has one
abbrev pub JournalPlaces : Type 0
JournalPlaces = List (ℕ × Option ℕ)

-- the watermarks that stand in them
abbrev pub told : JournalPlaces → JournalMarks
told places = filter_map (λ place. option_map (λ lsn. (place.0, lsn)) place.1) places

-- the keyspace of this id has a place
abbrev pub HasPlace : JournalPlaces → ℕ → Type 0
HasPlace places id = IsSome (lookup (is_at (nat_cmp id)) places)

-- With the keyspace of this id changed under that number: its watermark is the greater of the old one and the number, at its
-- place among the ids.
abbrev pub raising : ℕ → ℕ → JournalMarks → JournalMarks
raising lsn id marks = insert_entry nat_cmp marks id (max (unwrap_or (lsn_of marks id) 0) lsn)

-- with the keyspace of each of these items changed under that number
abbrev pub raising_all : ℕ → List BatchItem → JournalMarks → JournalMarks
raising_all lsn items marks = fold (λ m item. raising lsn item.0 m) marks items

-- what a change of that number makes of the watermarks: those of the keyspaces that it changes are raised to its number
abbrev pub marked : ℕ → Change → JournalMarks → JournalMarks
marked lsn (Items items) marks = raising_all lsn items marks
marked lsn (Emptied id) marks = raising lsn id marks
