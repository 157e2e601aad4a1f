-- The four entries of a journal, and how each is spelled in bytes. Numbers are little-endian.
use Rattle.std.specs.Prelude.{◌≡◌, ℕ, ◌<◌, ◌^◌, List, [], ◌∷◌, ◌++◌, length, take, ◌≤◌, Option, None}
use Rattle.byteorder.specs.Endian.{little_bytes}
use Rattle.fjall_base.specs.declared.error.Error.{Error}
use Rattle.fjall_base.specs.Limits.{item_refusal}
use Rattle.fjall_journal.specs.declared.entry.Entry.{Entry}
use Rattle.fjall_journal.specs.declared.entry.Entry.TheVariants.{Start, Item, End, Clear}
use Rattle.fjall_journal.specs.declared.entry.Tag.{Tag}
use Rattle.fjall_journal.specs.declared.entry.Tag.TheVariants as tags
use Rattle.fjall_journal.specs.declared.entry.ValueType.{ValueType}
use Rattle.fjall_journal.specs.declared.entry.ValueType.TheVariants.{Value, Tombstone, WeakTombstone, Indirection}
use Rattle.fjall_base.specs.declared.error.CompressionType.{CompressionType}
use Rattle.fjall_base.specs.declared.error.CompressionType.TheVariants as compressions

-- the byte that an entry begins with
abbrev pub tag_byte : Tag → ℕ
tag_byte tags.Start = 1
tag_byte tags.Item = 2
tag_byte tags.End = 3
tag_byte tags.Clear = 4

abbrev pub value_type_byte : ValueType → ℕ
value_type_byte Value = 0
value_type_byte Tombstone = 1
value_type_byte WeakTombstone = 2
value_type_byte Indirection = 4

abbrev pub compression_byte : CompressionType → ℕ
compression_byte compressions.None = 0

-- "FJL" and the version
abbrev pub trailer : List ℕ
trailer = 0x46 ∷ 0x4a ∷ 0x4c ∷ 3 ∷ []

-- what stands before the key of an item: tag, value type, compression, id, and the lengths of the key, of the value, and of the value as it is stored
abbrev pub item_header : ValueType → CompressionType → ℕ → ℕ → ℕ → List ℕ
item_header kind compression id key_len value_len =
    2 ∷ value_type_byte kind ∷ compression_byte compression ∷
    little_bytes 8 id ++ little_bytes 2 key_len ++ little_bytes 4 value_len ++ little_bytes 4 value_len

unfoldable pub spelling : Entry → List ℕ
spelling (Start count number) = 1 ∷ little_bytes 4 count ++ little_bytes 8 number
spelling (Item id key value kind compression) = item_header kind compression id (length key) (length value) ++ key ++ value
spelling (End check) = 3 ∷ check ++ trailer
spelling (Clear id) = 4 ∷ little_bytes 8 id

-- what has a spelling
abbrev pub HasSpelling : Entry → Type 0
HasSpelling (Start count number) = (count < 2 ^ 32) × (number < 2 ^ 64)
HasSpelling (Item id key value kind compression) = (id < 2 ^ 64) × (0 < length key) × (length key < 2 ^ 16) × (length value < 2 ^ 32)
HasSpelling (End check) = length check ≡ 8
HasSpelling (Clear id) = id < 2 ^ 64

-- the bytes spell the entry
abbrev pub IsSpelling : List ℕ → Entry → Type 0
IsSpelling bytes entry = HasSpelling entry × (bytes ≡ spelling entry)

-- the entry stands at the front of the bytes, and takes len of them
abbrev pub StandsFirst : List ℕ → Entry → ℕ → Type 0
StandsFirst bytes entry len = (len ≤ length bytes) × IsSpelling (take len bytes) entry

-- why an entry has no spelling
abbrev pub refusal : Entry → Option Error
refusal (Start count number) = None
refusal (Item id key value kind compression) = item_refusal key value
refusal (End check) = None
refusal (Clear id) = None
