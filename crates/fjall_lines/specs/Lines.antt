-- The lines of an input, the words of a line, and how a command is spelled.
use Rattle.std.specs.Prelude.{◌≡◌, ◌≢◌, ℕ, ◌==◌, ◌<◌, ◌^◌, if◌then◌else◌, false, All, List, [], ◌∷◌, codes, decimal, Option, IfSome, Some, None}
use Rattle.std.specs.List.{flat_map, list_any, onto_first, join_with_byte}
use Rattle.std.specs.Str.{IsUtf8}
use Rattle.hex.specs.Hex.{encode_lower, IsBytes}
use Rattle.fjall_base.specs.Disk.{Name}
use Rattle.fjall_base.specs.Pairs.{Bytes}
use Rattle.fjall_lines.specs.declared.command.Command.{Command}
use Rattle.fjall_lines.specs.declared.command.Command.TheVariants.{Ask, Crash, CrashWild, Reopen}
use Rattle.fjall_lines.specs.declared.command.Request.{Request}
use Rattle.fjall_lines.specs.declared.command.Request.TheVariants.{Keyspace, Delete, Insert, Remove, RemoveWeak, Clear, Batch, Get, Len, Scan, Snapshot, GetAt, CloseSnapshot, Begin, TxGet, TxInsert, Commit, Gc, Rotate, Flush, Merge, Persist}

-- a line feed ends a line, and so does the end of the text
abbrev pub lines_of : List ℕ → List (List ℕ)
lines_of [] = []
lines_of (b ∷ rest) = if b == 10 then [] ∷ lines_of rest else onto_first b (lines_of rest)

-- bytes in lower-case hexadecimal, or a dash for none
abbrev pub hex_word : List ℕ → List ℕ
hex_word [] = codes "-"
hex_word (b ∷ rest) = encode_lower (b ∷ rest)

-- a write of a batch: the id of a keyspace, a key, and its new value, or none where it is removed
abbrev pub Write : Type 0
Write = ℕ × Bytes × Option Bytes

-- a new value, or a tilde for none
abbrev pub value_word : Option Bytes → List ℕ
value_word (Some value) = hex_word value
value_word None = codes "~"

-- the three words of a write
abbrev pub write_words : Write → List (List ℕ)
write_words write = decimal write.0 ∷ hex_word write.1 ∷ value_word write.2 ∷ []

-- the words of a batch behind its first
abbrev pub writes_words : List Write → List (List ℕ)
writes_words writes = flat_map write_words writes

-- a fill of a wild crash: a file's path below the root, and the bytes that stand behind its synced ones
abbrev pub Fill : Type 0
Fill = Name × Bytes

-- the two words of a fill: the path is its word, byte for byte
abbrev pub fill_words : Fill → List (List ℕ)
fill_words fill = fill.0 ∷ hex_word fill.1 ∷ []

-- the words of a wild crash behind its first
abbrev pub fills_words : List Fill → List (List ℕ)
fills_words fills = flat_map fill_words fills

-- the words of a request: a keyspace's name is its word, byte for byte
abbrev pub request_words : Request → List (List ℕ)
request_words (Keyspace name) = codes "keyspace" ∷ name ∷ []
request_words (Delete id) = codes "delete" ∷ decimal id ∷ []
request_words (Insert id key value) = codes "insert" ∷ decimal id ∷ hex_word key ∷ hex_word value ∷ []
request_words (Remove id key) = codes "remove" ∷ decimal id ∷ hex_word key ∷ []
request_words (RemoveWeak id key) = codes "remove_weak" ∷ decimal id ∷ hex_word key ∷ []
request_words (Clear id) = codes "clear" ∷ decimal id ∷ []
request_words (Batch writes) = codes "batch" ∷ writes_words writes
request_words (Get id key) = codes "get" ∷ decimal id ∷ hex_word key ∷ []
request_words (Len id) = codes "len" ∷ decimal id ∷ []
request_words (Scan id) = codes "scan" ∷ decimal id ∷ []
request_words Snapshot = codes "snapshot" ∷ []
request_words (GetAt number id key) = codes "get_at" ∷ decimal number ∷ decimal id ∷ hex_word key ∷ []
request_words (CloseSnapshot number) = codes "close_snapshot" ∷ decimal number ∷ []
request_words Begin = codes "begin" ∷ []
request_words (TxGet number id key) = codes "tx_get" ∷ decimal number ∷ decimal id ∷ hex_word key ∷ []
request_words (TxInsert number id key value) = codes "tx_insert" ∷ decimal number ∷ decimal id ∷ hex_word key ∷ hex_word value ∷ []
request_words (Commit number) = codes "commit" ∷ decimal number ∷ []
request_words Gc = codes "gc" ∷ []
request_words (Rotate id) = codes "rotate" ∷ decimal id ∷ []
request_words (Flush id) = codes "flush" ∷ decimal id ∷ []
request_words (Merge id) = codes "merge" ∷ decimal id ∷ []
request_words Persist = codes "persist" ∷ []

-- the words of a command
abbrev pub words_of : Command → List (List ℕ)
words_of (Ask request) = request_words request
words_of (Crash keep) = codes "crash" ∷ decimal keep ∷ []
words_of (CrashWild fills) = codes "crash_wild" ∷ fills_words fills
words_of Reopen = codes "reopen" ∷ []

-- a command is spelled by its words, parted by one space
abbrev pub spelling : Command → List ℕ
spelling command = join_with_byte 32 (words_of command)

-- a write's id has 64 bits, its key and value are bytes
abbrev pub IsWrite : Write → Type 0
IsWrite write = (write.0 < 2 ^ 64) × IsBytes write.1 × IfSome write.2 IsBytes

-- a fill's path is UTF-8 without a space, and behind it stand bytes
abbrev pub IsFill : Fill → Type 0
IsFill fill = IsUtf8 fill.0 × (list_any (λ b. b == 32) fill.0 ≡ false) × IsBytes fill.1

-- a name is UTF-8 without a space, numbers have 64 bits, keys and values are bytes, and a batch has some write
abbrev pub IsRequest : Request → Type 0
IsRequest (Keyspace name) = IsUtf8 name × (list_any (λ b. b == 32) name ≡ false)
IsRequest (Delete id) = id < 2 ^ 64
IsRequest (Insert id key value) = (id < 2 ^ 64) × IsBytes key × IsBytes value
IsRequest (Remove id key) = (id < 2 ^ 64) × IsBytes key
IsRequest (RemoveWeak id key) = (id < 2 ^ 64) × IsBytes key
IsRequest (Clear id) = id < 2 ^ 64
IsRequest (Batch writes) = (writes ≢ []) × All IsWrite writes
IsRequest (Get id key) = (id < 2 ^ 64) × IsBytes key
IsRequest (Len id) = id < 2 ^ 64
IsRequest (Scan id) = id < 2 ^ 64
IsRequest Snapshot = Unit {0}
IsRequest (GetAt number id key) = (number < 2 ^ 64) × (id < 2 ^ 64) × IsBytes key
IsRequest (CloseSnapshot number) = number < 2 ^ 64
IsRequest Begin = Unit {0}
IsRequest (TxGet number id key) = (number < 2 ^ 64) × (id < 2 ^ 64) × IsBytes key
IsRequest (TxInsert number id key value) = (number < 2 ^ 64) × (id < 2 ^ 64) × IsBytes key × IsBytes value
IsRequest (Commit number) = number < 2 ^ 64
IsRequest Gc = Unit {0}
IsRequest (Rotate id) = id < 2 ^ 64
IsRequest (Flush id) = id < 2 ^ 64
IsRequest (Merge id) = id < 2 ^ 64
IsRequest Persist = Unit {0}

abbrev pub IsCommand : Command → Type 0
IsCommand (Ask request) = IsRequest request
IsCommand (Crash keep) = keep < 2 ^ 64
IsCommand (CrashWild fills) = All IsFill fills
IsCommand Reopen = Unit {0}

-- a batch, where it is one, has some write
abbrev pub HasWrites : Command → Type 0
HasWrites (Ask (Batch writes)) = writes ≢ []
HasWrites command = Unit {0}

-- the command that these words spell, or none where they spell none
pub record Spells (words : List (List ℕ)) (found : Option Command) : Type 0 where
  pub spelled : IfSome found (λ command. words ≡ words_of command)
  pub some : IfSome found HasWrites
  pub all_found : (command : Command) → IsCommand command → words ≡ words_of command → found ≡ Some command

-- whatever id and key two words spell, they are found
abbrev pub FindsIdAndKey : List ℕ → List ℕ → Option (ℕ × List ℕ) → Type 0
FindsIdAndKey id key found = (n : ℕ) (b : List ℕ) → n < 2 ^ 64 → IsBytes b → id ≡ decimal n → key ≡ hex_word b → found ≡ Some (n, b)

-- whatever value a word spells, or a removal, it is found
abbrev pub FindsValue : List ℕ → Option (Option Bytes) → Type 0
FindsValue word found = (value : Option Bytes) → IfSome value IsBytes → word ≡ value_word value → found ≡ Some value

-- the write that three words spell, or none where they spell none
pub record SpellsWrite (id key value : List ℕ) (found : Option Write) : Type 0 where
  pub spelled : IfSome found (λ write. id ∷ key ∷ value ∷ [] ≡ write_words write)
  pub all_found : (write : Write) → IsWrite write → id ∷ key ∷ value ∷ [] ≡ write_words write → found ≡ Some write

-- the writes that these words spell, or none where they spell none
pub record SpellsWrites (words : List (List ℕ)) (found : Option (List Write)) : Type 0 where
  pub spelled : IfSome found (λ writes. words ≡ writes_words writes)
  pub all_found : (writes : List Write) → All IsWrite writes → words ≡ writes_words writes → found ≡ Some writes

-- the fills that these words spell, or none where they spell none
pub record SpellsFills (words : List (List ℕ)) (found : Option (List Fill)) : Type 0 where
  pub spelled : IfSome found (λ fills. words ≡ fills_words fills)
  pub all_found : (fills : List Fill) → All IsFill fills → words ≡ fills_words fills → found ≡ Some fills

-- the command that a line spells, or none where it spells none
pub record ReadsLine (line : List ℕ) (found : Option Command) : Type 0 where
  pub spelled : IfSome found (λ command. line ≡ spelling command)
  pub some : IfSome found HasWrites
  pub all_found : (command : Command) → IsCommand command → line ≡ spelling command → found ≡ Some command
