-- Reading one batch from left to right, or telling the tail.
use Rattle.std.specs.Prelude.{◌≡◌, ⊤, ℕ, zero, suc, ◌-◌, List, [], ◌∷◌, ◌++◌, length, take, Result, Ok, Err, if◌then◌else◌}
use Rattle.std.specs.Str.{bytes_eq}
use Rattle.fjall_journal.specs.declared.entry.Entry.{Entry}
use Rattle.fjall_journal.specs.declared.entry.Entry.TheVariants.{Start, Item, End, Clear}
use Rattle.fjall_base.specs.declared.error.JournalRecoveryError.TheVariants.{InsufficientLength, TooManyItems, ChecksumMismatch}
use Rattle.fjall_journal.specs.declared.batch.Tail.{Tail}
use Rattle.fjall_journal.specs.declared.batch.Tail.TheVariants.{Clean, Torn, Damaged}
use Rattle.fjall_journal.specs.declared.batch.Stop.{Stop}
use Rattle.fjall_journal.specs.declared.batch.Stop.TheVariants as stops
use Rattle.fjall_journal.specs.declared.batch.ReadBatchItem.{ReadBatchItem}
use Rattle.fjall_base.specs.Results.{◌>>=◌}
use Rattle.fjall_journal.specs.Reading.{Fault, entry_at}
use Rattle.fjall_base.specs.Check.{check}
use Rattle.fjall_journal.specs.Batches.{Shown, items_of, clears_of}

-- what a function answered, seen by view, is what reading gives, unless memory ran out
abbrev pub StopsAt : {Y : Type 0} → Stop → Result Y Tail → Type 0
StopsAt stops.Memory read = ⊤
StopsAt (stops.Tail tail) read = read ≡ Err tail

abbrev pub ReadsStep : {X Y : Type 0} → (X → Y) → Result X Stop → Result Y Tail → Type 0
ReadsStep view (Ok x) read = read ≡ Ok (view x)
ReadsStep view (Err stop) read = StopsAt stop read

abbrev pub or_torn : {A : Type 0} → Result A Fault → Result A Tail
or_torn (Ok x) = Ok x
or_torn (Err fault) = Err Torn

abbrev pub as_start : Entry → List ℕ → Result ((ℕ × ℕ) × List ℕ) Tail
as_start (Start count number) rest = Ok ((count, number), rest)
as_start (Item id key value kind compression) rest = Err Torn
as_start (End found) rest = Err Torn
as_start (Clear id) rest = Err Torn

abbrev pub as_change : Entry → List ℕ → Result (Entry × List ℕ) Tail
as_change (Start count number) rest = Err Torn
as_change (Item id key value kind compression) rest = Ok (Item id key value kind compression, rest)
as_change (End found) rest = Err (Damaged InsufficientLength)
as_change (Clear id) rest = Ok (Clear id, rest)

-- the check in an End
abbrev pub as_end : Entry → List ℕ → Result (List ℕ × List ℕ) Tail
as_end (Start count number) rest = Err Torn
as_end (Item id key value kind compression) rest = Err (Damaged TooManyItems)
as_end (End found) rest = Ok (found, rest)
as_end (Clear id) rest = Err (Damaged TooManyItems)

-- what stands behind an End whose check is the sum
abbrev pub as_closing : List ℕ → List ℕ × List ℕ → Result (List ℕ) Tail
as_closing sum end = if bytes_eq end.0 sum then Ok end.1 else Err (Damaged ChecksumMismatch)

unfoldable pub opening_at : List ℕ → Result ((ℕ × ℕ) × List ℕ) Tail
opening_at bytes = or_torn (entry_at bytes) >>= λ x. as_start x.0 x.1

unfoldable pub change_at : List ℕ → Result (Entry × List ℕ) Tail
change_at bytes = or_torn (entry_at bytes) >>= λ x. as_change x.0 x.1

-- the items and clears among that many changes, and the bytes after them
unfoldable pub changes_at : ℕ → List ℕ → Result ((List ReadBatchItem × List ℕ) × List ℕ) Tail
changes_at zero bytes = Ok (([], []), bytes)
changes_at (suc n) bytes = do
  first ← change_at bytes
  others ← changes_at n first.1
  Ok ((items_of (first.0 ∷ []) ++ others.0.0, clears_of (first.0 ∷ []) ++ others.0.1), others.1)

unfoldable pub ending_at : List ℕ → Result (List ℕ × List ℕ) Tail
ending_at bytes = or_torn (entry_at bytes) >>= λ x. as_end x.0 x.1

unfoldable pub closing_at : List ℕ → List ℕ → Result (List ℕ) Tail
closing_at sum bytes = ending_at bytes >>= λ end. as_closing sum end

-- a batch up to its End, which stands at the front of the rest
unfoldable pub unclosed_at : List ℕ → Result (Shown × List ℕ) Tail
unclosed_at bytes = do
  opening ← opening_at bytes
  changes ← changes_at opening.0.0 opening.1
  Ok (record { number = opening.0.1; items = changes.0.0; clears = changes.0.1 }, changes.1)

-- a batch, behind which the rest stands
abbrev pub some_batch_at : List ℕ → Result (Shown × List ℕ) Tail
some_batch_at bytes = do
  batch ← unclosed_at bytes
  rest ← closing_at (check (take (length bytes - length batch.1) bytes)) batch.1
  Ok (batch.0, rest)

-- the same, where the check in the End is passed over
unfoldable pub known_at : List ℕ → Result (Shown × List ℕ) Tail
known_at bytes = do
  batch ← unclosed_at bytes
  end ← ending_at batch.1
  Ok (batch.0, end.1)

unfoldable pub batch_at : List ℕ → Result (Shown × List ℕ) Tail
batch_at [] = Err Clean
batch_at (b ∷ bytes) = some_batch_at (b ∷ bytes)
