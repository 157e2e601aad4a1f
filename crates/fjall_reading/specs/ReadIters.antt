-- What an iterator has left of what its reader shows.
use Rattle.std.specs.Prelude.{◌≡◌, ℕ, List, false}
use Rattle.fjall_base.specs.Pairs.{Bytes, Pairs}
use Rattle.fjall_reading.specs.declared.read_iter.ReadIter.{ReadIter}
use Rattle.fjall_reading.specs.Cursors.{IsOver, left}

-- the pairs that it has left of this map
abbrev pub left_of : {R : Type 0} → Pairs → ReadIter R → List (Bytes × Bytes)
left_of map it = left it.cursor map

-- its reader, of which so much is said, shows this map of its keyspace
abbrev pub IsShown : {R : Type 0} → (R → ℕ → Pairs → Type 0) → ReadIter R → Pairs → Type 0
IsShown shows it map = shows it.reader.now it.cursor.id map

-- it gives no pair more and no fault, and asks its reader for nothing more
abbrev pub IsDone : {R : Type 0} → ReadIter R → Type 0
IsDone it = IsOver it.cursor × (it.short ≡ false)
