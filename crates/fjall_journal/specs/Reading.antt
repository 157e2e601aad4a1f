-- Reading an entry from left to right, with the first fault that is met.
use Rattle.std.specs.Prelude.{◌≡◌, ⊤, ℕ, ◌-◌, ◌≤◌, List, length, drop, Option, Some, None, Result, Ok, Err, ◌==◌, if◌then◌else◌, codes, nat_eq}
use Rattle.std.specs.List.{starts_with}
use Rattle.std.specs.declared.io.ErrorKind.TheVariants.{UnexpectedEof}
use Rattle.fjall_base.specs.declared.error.Error.{Error}
use Rattle.fjall_base.specs.declared.error.Error.TheVariants as errors
use Rattle.fjall_journal.specs.declared.entry.Entry.{Entry}
use Rattle.fjall_journal.specs.declared.entry.Entry.TheVariants.{Start, Item, End, Clear}
use Rattle.fjall_journal.specs.declared.entry.Tag.{Tag}
use Rattle.fjall_journal.specs.declared.entry.Tag.TheVariants as tags
use Rattle.fjall_journal.specs.declared.entry.ValueType.{ValueType}
use Rattle.fjall_journal.specs.declared.entry.ValueType.TheVariants.{Value, Tombstone, WeakTombstone, Indirection}
use Rattle.fjall_base.specs.declared.error.CompressionType.{CompressionType}
use Rattle.fjall_base.specs.declared.error.CompressionType.TheVariants as compressions
use Rattle.fjall_base.specs.Fields as fields
use Rattle.fjall_base.specs.Results.{◌>>=◌}
use Rattle.fjall_journal.specs.Spelling.{trailer}

-- the bytes are what is left of the text behind some place
abbrev pub IsRestOf : List ℕ → List ℕ → Type 0
IsRestOf text bytes = (length bytes ≤ length text) × (drop (length text - length bytes) text ≡ bytes)

-- why no entry stands at the front
pub data Fault : Type 0 where
  -- the bytes end within a field
  Short : Fault
  -- a byte of the named field means nothing
  Invalid : List ℕ → ℕ → Fault
  -- an end isn't followed by the trailer
  NoTrailer : Fault

-- the error names the fault that reading met, or memory ran out
abbrev pub Fails : {Y : Type 0} → Error → Result Y Fault → Type 0
Fails errors.OutOfMemory read = ⊤
Fails (errors.Io kind) read = (kind ≡ UnexpectedEof) × (read ≡ Err Short)
Fails (errors.InvalidTag tag) read = read ≡ Err (Invalid tag.0.now tag.1)
Fails errors.InvalidTrailer read = read ≡ Err NoTrailer
Fails error read = ⊥

-- what a function answered, seen by view, is what reading gives, unless memory ran out
abbrev pub Gives : {X Y : Type 0} → (X → Y) → Result X Error → Result Y Fault → Type 0
Gives view (Ok x) read = read ≡ Ok (view x)
Gives view (Err e) read = Fails e read

-- A field that isn't whole is short.
abbrev pub whole : {A : Type 0} → Option A → Result A Fault
whole (Some x) = Ok x
whole None = Err Short

-- A field is a value and the bytes after it.
abbrev pub byte_at : List ℕ → Result (ℕ × List ℕ) Fault
byte_at bytes = whole (fields.byte_at bytes)

abbrev pub number_at : ℕ → List ℕ → Result (ℕ × List ℕ) Fault
number_at n bytes = whole (fields.number_at n bytes)

abbrev pub bytes_at : ℕ → List ℕ → Result (List ℕ × List ℕ) Fault
bytes_at n bytes = whole (fields.bytes_at n bytes)

-- what a byte means in its field
abbrev pub tag_of : ℕ → Result Tag Fault
tag_of b = if b == 1 then Ok tags.Start else (if b == 2 then Ok tags.Item else (if b == 3 then Ok tags.End else (if b == 4 then Ok tags.Clear else Err (Invalid (codes "JournalMarkerTag") b))))

abbrev pub value_type_of : ℕ → Result ValueType Fault
value_type_of b = if b == 0 then Ok Value else (if b == 1 then Ok Tombstone else (if b == 2 then Ok WeakTombstone else (if b == 4 then Ok Indirection else Err (Invalid (codes "ValueType") b))))

abbrev pub compression_of : ℕ → Result CompressionType Fault
compression_of b = if b == 0 then Ok compressions.None else Err (Invalid (codes "CompressionType") b)

-- The entry behind each tag.
unfoldable pub start_at : List ℕ → Result (Entry × List ℕ) Fault
start_at bytes = do
  count ← number_at 4 bytes
  number ← number_at 8 count.1
  Ok (Start count.0 number.0, number.1)

-- the lengths are looked at once all of them are there, and before key and value
unfoldable pub item_at : List ℕ → Result (Entry × List ℕ) Fault
item_at bytes = do
  type_byte ← byte_at bytes
  kind ← value_type_of type_byte.0
  compression_byte ← byte_at type_byte.1
  compression ← compression_of compression_byte.0
  id ← number_at 8 compression_byte.1
  key_len ← number_at 2 id.1
  value_len ← number_at 4 key_len.1
  stored_len ← number_at 4 value_len.1
  if key_len.0 == 0 then Err (Invalid (codes "KeyLength") 0) else (
      if stored_len.0 == value_len.0 then (bytes_at key_len.0 stored_len.1 >>= λ key. bytes_at value_len.0 key.1 >>= λ value. Ok (Item id.0 key.0 value.0 kind compression, value.1))
      else Err (Invalid (codes "ValueLength") 0))

unfoldable pub end_at : List ℕ → Result (Entry × List ℕ) Fault
end_at bytes = do
  check ← bytes_at 8 bytes
  mark ← bytes_at 4 check.1
  if starts_with nat_eq mark.0 trailer then Ok (End check.0, mark.1) else Err NoTrailer

unfoldable pub clear_at : List ℕ → Result (Entry × List ℕ) Fault
clear_at bytes = do
  id ← number_at 8 bytes
  Ok (Clear id.0, id.1)

abbrev pub behind : Tag → List ℕ → Result (Entry × List ℕ) Fault
behind tags.Start bytes = start_at bytes
behind tags.Item bytes = item_at bytes
behind tags.End bytes = end_at bytes
behind tags.Clear bytes = clear_at bytes

-- the entry at the front, and the bytes after it
unfoldable pub entry_at : List ℕ → Result (Entry × List ℕ) Fault
entry_at bytes = do
  b ← byte_at bytes
  tag ← tag_of b.0
  behind tag b.1
