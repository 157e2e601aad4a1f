-- What a cursor has left of a keyspace's map.
use Rattle.std.specs.Prelude.{◌≡◌, List, [], ◌++◌, None, reverse}
use Rattle.fjall_base.specs.Pairs.{Bytes, Pairs}
use Rattle.fjall_reading.specs.declared.cursor.Cursor.{Cursor}
use Rattle.fjall_reading.specs.Rests.{middle}

-- the pairs that were fetched from the front, those of the range that wasn't, and those that were fetched from the back
abbrev pub left : Cursor → Pairs → List (Bytes × Bytes)
left c pairs = reverse c.front.items ++ middle c.middle pairs ++ c.back.items

-- it gives no pair more, and asks for no page more
abbrev pub IsOver : Cursor → Type 0
IsOver c = (c.front.items ≡ []) × (c.back.items ≡ []) × (c.middle ≡ None)
