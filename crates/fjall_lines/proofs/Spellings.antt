-- A line is cut at its spaces, and joined again: a command's words are text and have no space.
use Rattle.std.proofs.Common.{◌≡◌, ℕ, suc, ◌/◌, ◌%◌, ◌<◌, ◌^◌, ◌==◌, Bool, false, ◌||◌, List, [], ◌∷◌, ◌++◌, slice_index, Option, Some, None, refl, sym, ap, ◌∙◌, arith, codes, decimal, subst}
use Rattle.std.proofs.lemmas.List.Elements.{All-head, All-tail}
use Rattle.std.specs.Prelude.{All, nat_le, IfSome, IfOk, Result, Ok, Err}
use Rattle.std.specs.List.{list_any, slice_split, join_with_byte}
use Rattle.std.specs.Str.{IsAscii, IsUtf8}
use Rattle.std.specs.Str.Parse.{AllDigits}
use Rattle.std.proofs.lemmas.List.Splits.{join_with_byte-slice_split}
use Rattle.std.proofs.lemmas.Str.{IsUtf8-append, IsUtf8-from_ascii}
use Rattle.std.proofs.lemmas.Str.Ascii.{IsAscii-nil, IsAscii-cons}
use Rattle.std.proofs.lemmas.Str.Parse.{tells_digits, numerals_by_value}
use Rattle.std.proofs.lemmas.Fmt.{digits_decimal}
use Rattle.hex.specs.Hex.{IsBytes, encode_lower, encode_with, lower_digits}
use Rattle.fjall_lines.specs.declared.command.Command.{Command}
use Rattle.fjall_lines.specs.declared.command.Command.TheVariants.{Ask, Crash, CrashWild, Reopen}
use Rattle.fjall_lines.specs.declared.command.Request.{Request}
use Rattle.fjall_lines.specs.declared.command.Request.TheVariants.{Keyspace, Delete, Insert, Remove, RemoveWeak, Clear, Batch, Get, Len, Scan, Snapshot, GetAt, CloseSnapshot, Begin, TxGet, TxInsert, Commit, Gc, Rotate, Flush, Merge, Persist}
use Rattle.fjall_lines.specs.Lines.{fill_words, fills_words, hex_word, request_words, value_word, writes_words, words_of, spelling, Fill, IsCommand, IsFill, IsRequest, IsWrite, Write, Spells, ReadsLine}
use Rattle.fjall_lines.proofs.Bytes.{or_false, digit, lower_digit}

abbrev is_space : ℕ → Bool
is_space b = b == 32

abbrev is_odd : ℕ → Bool
is_odd b = b == 32 || nat_le 128 b

-- a word of ASCII without a space
abbrev IsPlain : List ℕ → Type 0
IsPlain word = list_any is_odd word ≡ false

-- a word of text without a space
record IsWord (word : List ℕ) : Type 0 where
  whole : list_any is_space word ≡ false
  text : IsUtf8 word

no_space : (b : ℕ) → is_odd b ≡ false → is_space b ≡ false
no_space b h = (or_false (b == 32) (nat_le 128 b) h).0

is_low : (b : ℕ) → is_odd b ≡ false → b < 128
is_low b h = grind arith

no_spaces : (word : List ℕ) → IsPlain word → list_any is_space word ≡ false
no_spaces [] h = refl
no_spaces (b ∷ rest) h =
    let parts = or_false (is_odd b) (list_any is_odd rest) h in
    let here = no_space b parts.0 in
    let ih = no_spaces rest parts.1 in
    rw (here, ih) refl

ascii : (bs : List ℕ) → IsPlain bs → IsAscii bs
ascii [] h = IsAscii-nil
ascii (b ∷ rest) h =
    let parts = or_false (is_odd b) (list_any is_odd rest) h in
    IsAscii-cons b rest (is_low b parts.0) (ascii rest parts.1)

plain : (word : List ℕ) → IsPlain word → IsWord word
plain word h = record { whole = no_spaces word h; text = IsUtf8-from_ascii word (ascii word h) }

-- a word is one part, and ends at a space
split_none : (word : List ℕ) → list_any is_space word ≡ false → slice_split is_space word ≡ word ∷ []
split_none [] h = refl
split_none (b ∷ rest) h =
    let parts = or_false (is_space b) (list_any is_space rest) h in
    let here = parts.0 in
    let ih = split_none rest parts.1 in
    rw (here, ih) refl

split_at : (word rest : List ℕ) → list_any is_space word ≡ false → slice_split is_space (word ++ (32 ∷ rest)) ≡ word ∷ slice_split is_space rest
split_at [] rest h = refl
split_at (b ∷ word) rest h =
    let parts = or_false (is_space b) (list_any is_space word) h in
    let here = parts.0 in
    let ih = split_at word rest parts.1 in
    rw (here, ih) refl

-- words of text, none with a space
data AreWords : List (List ℕ) → Type 0 where
  one : (word : List ℕ) → IsWord word → AreWords (word ∷ [])
  more : (word next : List ℕ) (rest : List (List ℕ)) → IsWord word → AreWords (next ∷ rest) → AreWords (word ∷ next ∷ rest)

split-join : (words : List (List ℕ)) → AreWords words → slice_split is_space (join_with_byte 32 words) ≡ words
split-join _ (one word h) = split_none word h.whole
split-join _ (more word next rest h hs) =
    split_at word (join_with_byte 32 (next ∷ rest)) h.whole ∙ ap (λ (ws : List (List ℕ)). word ∷ ws) (split-join (next ∷ rest) hs)

space : IsUtf8 (32 ∷ [])
space = IsUtf8-from_ascii (32 ∷ []) (IsAscii-cons 32 [] (omega arith) IsAscii-nil)

text-join : (words : List (List ℕ)) → AreWords words → IsUtf8 (join_with_byte 32 words)
text-join _ (one word h) = h.text
text-join _ (more word next rest h hs) =
    IsUtf8-append word (32 ∷ join_with_byte 32 (next ∷ rest)) h.text (IsUtf8-append (32 ∷ []) (join_with_byte 32 (next ∷ rest)) space (text-join (next ∷ rest) hs))

-- digits are plain
plain_digits : (ds : List ℕ) → AllDigits 10 ds → IsPlain ds
plain_digits [] h = refl
plain_digits (d ∷ ds) h =
    let parts = tells_digits.parts d ds h in
    let range = parts.0 in
    let here : is_odd d ≡ false = grind (arith, range) in
    let ih = plain_digits ds parts.1 in
    rw (here, ih) refl

number_word : (n : ℕ) → n < 2 ^ 64 → IsWord (decimal n)
number_word n small = plain (decimal n) (plain_digits (decimal n) (digits_decimal (numerals_by_value (AllDigits 10) tells_digits) n small))

plain_digit : (d : ℕ) → d < 16 → is_odd (digit d) ≡ false
plain_digit d small = grind arith

plain_hex : (bytes : List ℕ) → IsBytes bytes → IsPlain (encode_lower bytes)
unfolding encode_with
plain_hex [] h = refl
plain_hex (b ∷ rest) h =
    let fits : b < 256 = h 0 in
    let high : b / 16 < 16 = omega arith in
    let low : b % 16 < 16 = omega arith in
    let da : is_odd (slice_index lower_digits (b / 16)) ≡ false = ap is_odd (lower_digit (b / 16) high) ∙ plain_digit (b / 16) high in
    let db : is_odd (slice_index lower_digits (b % 16)) ≡ false = ap is_odd (lower_digit (b % 16) low) ∙ plain_digit (b % 16) low in
    let ih = plain_hex rest (λ k. h (suc k)) in
    rw (da, db, ih) refl

bytes_word : (bytes : List ℕ) → IsBytes bytes → IsWord (hex_word bytes)
bytes_word [] h = plain (codes "-") refl
bytes_word (b ∷ rest) h = plain (encode_lower (b ∷ rest)) (plain_hex (b ∷ rest) h)

-- a word and a number
with_number : (word : List ℕ) (n : ℕ) → IsPlain word → n < 2 ^ 64 → AreWords (word ∷ decimal n ∷ [])
with_number word n h small = more word (decimal n) [] (plain word h) (one (decimal n) (number_word n small))

-- a word, a number and a key
with_key : (word : List ℕ) (id : ℕ) (key : List ℕ) → IsPlain word → (id < 2 ^ 64) × IsBytes key → AreWords (word ∷ decimal id ∷ hex_word key ∷ [])
with_key word id key h both =
    more word (decimal id) (hex_word key ∷ []) (plain word h)
    (more (decimal id) (hex_word key) [] (number_word id both.0) (one (hex_word key) (bytes_word key both.1)))

-- a word, two numbers and a key
with_numbers_and_key : (word : List ℕ) (number id : ℕ) (key : List ℕ) → IsPlain word → (number < 2 ^ 64) × (id < 2 ^ 64) × IsBytes key → AreWords (word ∷ decimal number ∷ decimal id ∷ hex_word key ∷ [])
with_numbers_and_key word number id key h all =
    more word (decimal number) (decimal id ∷ hex_word key ∷ []) (plain word h)
    (more (decimal number) (decimal id) (hex_word key ∷ []) (number_word number all.0)
    (more (decimal id) (hex_word key) [] (number_word id all.1) (one (hex_word key) (bytes_word key all.2))))

value_is_word : (value : Option (List ℕ)) → IfSome value IsBytes → IsWord (value_word value)
value_is_word (Some value) h = bytes_word value h
value_is_word None h = plain (codes "~") refl

-- the words of writes behind one more word
batch_words : (word : List ℕ) (writes : List Write) → IsWord word → All IsWrite writes → AreWords (word ∷ writes_words writes)
batch_words word [] first h = one word first
batch_words word (write ∷ writes) first h =
    let here = All-head IsWrite write writes h in
    more word (decimal write.0) (hex_word write.1 ∷ value_word write.2 ∷ writes_words writes) first
    (more (decimal write.0) (hex_word write.1) (value_word write.2 ∷ writes_words writes) (number_word write.0 here.0)
    (more (hex_word write.1) (value_word write.2) (writes_words writes) (bytes_word write.1 here.1)
    (batch_words (value_word write.2) writes (value_is_word write.2 here.2) (All-tail IsWrite write writes h))))

-- the words of fills behind one more word
fills_are_words : (word : List ℕ) (fills : List Fill) → IsWord word → All IsFill fills → AreWords (word ∷ fills_words fills)
fills_are_words word [] first h = one word first
fills_are_words word (fill ∷ fills) first h =
    let here = All-head IsFill fill fills h in
    more word fill.0 (hex_word fill.1 ∷ fills_words fills) first
    (more fill.0 (hex_word fill.1) (fills_words fills) (record { whole = here.1; text = here.0 })
    (fills_are_words (hex_word fill.1) fills (bytes_word fill.1 here.2) (All-tail IsFill fill fills h)))

request_are_words : (request : Request) → IsRequest request → AreWords (request_words request)
request_are_words (Keyspace name) h = more (codes "keyspace") name [] (plain (codes "keyspace") refl) (one name (record { whole = h.1; text = h.0 }))
request_are_words (Delete id) h = with_number (codes "delete") id refl h
request_are_words (Insert id key value) h =
    more (codes "insert") (decimal id) (hex_word key ∷ hex_word value ∷ []) (plain (codes "insert") refl)
    (more (decimal id) (hex_word key) (hex_word value ∷ []) (number_word id h.0)
    (more (hex_word key) (hex_word value) [] (bytes_word key h.1) (one (hex_word value) (bytes_word value h.2))))
request_are_words (Remove id key) h = with_key (codes "remove") id key refl h
request_are_words (RemoveWeak id key) h = with_key (codes "remove_weak") id key refl h
request_are_words (Clear id) h = with_number (codes "clear") id refl h
request_are_words (Batch writes) h = batch_words (codes "batch") writes (plain (codes "batch") refl) h.1
request_are_words (Get id key) h = with_key (codes "get") id key refl h
request_are_words (Len id) h = with_number (codes "len") id refl h
request_are_words (Scan id) h = with_number (codes "scan") id refl h
request_are_words Snapshot h = one (codes "snapshot") (plain (codes "snapshot") refl)
request_are_words (GetAt number id key) h = with_numbers_and_key (codes "get_at") number id key refl h
request_are_words (CloseSnapshot number) h = with_number (codes "close_snapshot") number refl h
request_are_words Begin h = one (codes "begin") (plain (codes "begin") refl)
request_are_words (TxGet number id key) h = with_numbers_and_key (codes "tx_get") number id key refl h
request_are_words (TxInsert number id key value) h =
    more (codes "tx_insert") (decimal number) (decimal id ∷ hex_word key ∷ hex_word value ∷ []) (plain (codes "tx_insert") refl)
    (more (decimal number) (decimal id) (hex_word key ∷ hex_word value ∷ []) (number_word number h.0)
    (more (decimal id) (hex_word key) (hex_word value ∷ []) (number_word id h.1)
    (more (hex_word key) (hex_word value) [] (bytes_word key h.2) (one (hex_word value) (bytes_word value h.3)))))
request_are_words (Commit number) h = with_number (codes "commit") number refl h
request_are_words Gc h = one (codes "gc") (plain (codes "gc") refl)
request_are_words (Rotate id) h = with_number (codes "rotate") id refl h
request_are_words (Flush id) h = with_number (codes "flush") id refl h
request_are_words (Merge id) h = with_number (codes "merge") id refl h
request_are_words Persist h = one (codes "persist") (plain (codes "persist") refl)

are_words : (command : Command) → IsCommand command → AreWords (words_of command)
are_words (Ask request) h = request_are_words request h
are_words (Crash keep) h = with_number (codes "crash") keep refl h
are_words (CrashWild fills) h = fills_are_words (codes "crash_wild") fills (plain (codes "crash_wild") refl) h
are_words Reopen h = one (codes "reopen") (plain (codes "reopen") refl)

-- a command's spelling is text
pub text_of_command : (command : Command) → IsCommand command → IsUtf8 (spelling command)
text_of_command command h = text-join (words_of command) (are_words command h)

-- a line spells what its words spell
reads_from_words : (line : List ℕ) (found : Option Command) → Spells (slice_split is_space line) found → ReadsLine line found
reads_from_words line found s = record {
  spelled = spelled found s.spelled;
  some = s.some;
  all_found = λ command h e. s.all_found command h (ap (slice_split is_space) e ∙ split-join (words_of command) (are_words command h));
}
  where
    spelled : (f : Option Command) → IfSome f (λ command. slice_split is_space line ≡ words_of command) → IfSome f (λ command. line ≡ spelling command)
    spelled None h = tt
    spelled (Some command) h = sym (join_with_byte-slice_split 32 line) ∙ ap (join_with_byte 32) h

-- the same of a result
pub reads_line : {E : Type 0} (line text : List ℕ) (words : List (List ℕ)) (r : Result (Option Command) E) → text ≡ line
    → words ≡ slice_split is_space text → IfOk r (λ found. Spells words found) → IfOk r (λ found. ReadsLine line found)
reads_line line text words (Ok found) same cut h =
    reads_from_words line found (let P : List (List ℕ) → Type 0 = λ ws. Spells ws found in subst P (cut ∙ ap (slice_split is_space) same) h)
reads_line line text words (Err e) same cut h = tt

-- what is not text spells nothing
pub reads_none : (line : List ℕ) → (IsUtf8 line → ⊥) → ReadsLine line None
reads_none line other = record {
  spelled = tt;
  some = tt;
  all_found = λ command h e. absurd (other (rw e (text_of_command command h)));
}
