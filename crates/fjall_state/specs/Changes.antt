-- The places that a change needs among the watermarks of the active journal.
use Rattle.std.specs.Prelude.{All}
use Rattle.fjall_journal.specs.Changes.{Change, Emptied, Items}
use Rattle.fjall_files.specs.Places.{HasPlace, JournalPlaces}

-- each keyspace that the change is of has one
abbrev pub HavePlaces : JournalPlaces → Change → Type 0
HavePlaces places (Items items) = All (λ item. HasPlace places item.0) items
HavePlaces places (Emptied id) = HasPlace places id
