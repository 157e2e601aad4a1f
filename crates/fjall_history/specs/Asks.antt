-- The keys that the answer to a query rests on.
use Rattle.std.specs.Prelude.{◌≡◌, ℕ, List}
use Rattle.std.specs.BTreeMap.Range.{IsInRange}
use Rattle.fjall_base.specs.Pairs.{Bytes, byte_order}
use Rattle.fjall_tx.specs.Marks.{IsCovered, Mark}
use Rattle.fjall_history.specs.Queries.{Get, Page, Query}

-- the query asks for this key: its one, or one between its bounds
abbrev pub Asks : Query → Bytes → Type 0
Asks (Get asked) key = asked ≡ key
Asks (Page range back max) key = IsInRange byte_order range.0 range.1 key

-- these reads cover each key that the query of this keyspace asks for
abbrev pub IsMarked : List Mark → ℕ → Query → Type 0
IsMarked reads id query = (key : Bytes) → Asks query key → IsCovered reads id key
