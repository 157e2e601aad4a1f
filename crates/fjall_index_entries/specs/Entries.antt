-- How a field and a key are spelled as one entry of an index.
use Rattle.std.specs.Prelude.{ℕ, zero, suc, ◌==◌, Bool, true, false, if◌then◌else◌, [], ◌∷◌, ◌++◌, Option, Some, None}
use Rattle.std.specs.List.{flat_map}
use Rattle.std.specs.declared.ops.Bound.TheVariants.{Included, Excluded}
use Rattle.fjall_base.specs.Pairs.{Bytes, KeyRange}

-- a byte of a field: 00 as 00 ff, any other as itself
abbrev pub escaped_byte : ℕ → Bytes
escaped_byte zero = 0 ∷ 255 ∷ []
escaped_byte (suc byte) = suc byte ∷ []

-- each byte of a field so
abbrev pub escaped : Bytes → Bytes
escaped field = flat_map escaped_byte field

-- The entry of a key with a field: the field, each 00 of it as 00 ff, then 00 01, then the key.
abbrev pub entry : Bytes → Bytes → Bytes
entry field key = escaped field ++ 0 ∷ 1 ∷ key

-- what stands ahead of the key in each entry of a field, which is the least of them
abbrev pub front : Bytes → Bytes
front field = entry field []

-- bytes above all entries of a field, and below those of each later one
abbrev pub past : Bytes → Bytes
past field = escaped field ++ 0 ∷ 2 ∷ []

-- the range of the entries of a field
abbrev pub range_of : Bytes → KeyRange
range_of field = (Included (front field), Excluded (past field))

-- behind a field's bytes: `true` where the byte ahead is a 00 whose meaning the next byte tells
abbrev pub key_after : Bool → Bytes → Option Bytes
key_after ahead [] = None
key_after false (byte ∷ rest) = key_after (byte == 0) rest
key_after true (byte ∷ rest) = if byte == 1 then Some rest else (if byte == 255 then key_after false rest else None)

-- The key that an entry has behind its field: what stands behind the first 00 01, where each 00 ahead of it has ff behind it.
-- Bytes that aren't spelled so have none.
abbrev pub key_behind : Bytes → Option Bytes
key_behind bytes = key_after false bytes
