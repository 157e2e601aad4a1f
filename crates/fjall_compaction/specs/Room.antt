-- What refuses a keyspace's next record: its room is looked at first, then the ids of its tables, and then memory is asked for.
use Rattle.std.specs.Prelude.{ℕ, ◌+◌, ◌*◌, ◌<◌, ◌≤◌, ◌^◌, length}
use Rattle.fjall_base.specs.declared.error.Error.{Error}
use Rattle.fjall_base.specs.declared.error.Error.TheVariants.{NumbersUsedUp, OutOfMemory, TooManyItems}
use Rattle.fjall_manifest.specs.Records.{Fields, body}

-- four bytes can't tell the length of its body
abbrev pub IsTooLong : Fields → Type 0
IsTooLong next = 2 ^ 32 ≤ length (body next)

-- they can, and behind its tables no id is left
abbrev pub LacksNextId : Fields → Type 0
LacksNextId next = (length (body next) < 2 ^ 32) × (2 ^ 64 ≤ next.next_table_id)

-- they can, and an id is left
abbrev pub HasPlace : Fields → Type 0
HasPlace next = (length (body next) < 2 ^ 32) × (next.next_table_id < 2 ^ 64)

-- Why a record isn't planned. Of each record one of the three is so: it comes before those below it.
abbrev pub IsRecordRefusal : Fields → Error → Type 0
IsRecordRefusal next TooManyItems = IsTooLong next
IsRecordRefusal next NumbersUsedUp = LacksNextId next
IsRecordRefusal next OutOfMemory = HasPlace next
IsRecordRefusal next error = ⊥

-- ---- by counting

-- how many bytes the body of a record with so many tables and clears has
abbrev pub body_len : (tables clears : ℕ) → ℕ
body_len tables clears = 43 + 25 * tables + 8 * clears

-- why a record has no place whose body has this length, and behind whose tables this id comes
abbrev pub IsPlaceRefusal : (len next : ℕ) → Error → Type 0
IsPlaceRefusal len next TooManyItems = 2 ^ 32 ≤ len
IsPlaceRefusal len next NumbersUsedUp = (len < 2 ^ 32) × (2 ^ 64 ≤ next)
IsPlaceRefusal len next error = ⊥
