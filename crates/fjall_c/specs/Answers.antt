-- What a call answers: a number, and what it puts beside it.
use Rattle.std.specs.Prelude.{◌≡◌, ◌⊎◌, ◌==◌, ◌+◌, ◌<◌, ◌≤◌, if◌then◌else◌, ◌++◌, [], ◌∷◌, ℕ, ℤ, true, false, List, MatchBool, Option, Some, None, Result, Ok, Err, Vec, drop, length, nat_le, negsuc, pos, take}
use Rattle.std.specs.Int.{to_le_bytes, w64}
use Rattle.std.specs.List.{flat_map}
use Rattle.std.specs.Str.{IsUtf8}
use Rattle.std.specs.declared.alloc.Global.{Global}
use Rattle.std.specs.declared.io.ErrorKind.TheVariants.{InvalidInput}
use Rattle.std.specs.declared.ops.Bound.{Bound}
use Rattle.std.specs.declared.ops.Bound.TheVariants.{Excluded, Included, Unbounded}
use Rattle.fjall_base.specs.Errors.{name_of, number_of}
use Rattle.fjall_base.specs.Pairs.{Bytes, KeyRange}
use Rattle.fjall_base.specs.declared.error.Error.{Error}
use Rattle.fjall_base.specs.declared.error.Error.TheVariants.{Io, OutOfMemory}
use Rattle.fjall_history.specs.declared.ticket.Ticket.{Ticket}
use Rattle.fjall_journal.specs.declared.persist_mode.PersistMode.{PersistMode}
use Rattle.fjall_journal.specs.declared.persist_mode.PersistMode.TheVariants.{Buffer, SyncAll, SyncData}
use Rattle.fjall_tx.specs.declared.outcome.CommitOutcome.{CommitOutcome}
use Rattle.fjall_tx.specs.declared.outcome.CommitOutcome.TheVariants as outcomes
use Rattle.fjall_c.specs.declared.reads.Found.{Found}
use Rattle.fjall_c.specs.declared.reads.Page.{Page}

-- 0 for what was done, and else the number of the refusal
abbrev pub answer_of : {T : Type 0} → Result T Error → ℤ
answer_of (Ok _) = pos 0
answer_of (Err error) = pos (number_of error)

-- The number tells of a result of which P holds.
abbrev pub Answers : {T : Type 0} → ℤ → (Result T Error → Type 0) → Type 0
Answers {T = T} number P = (result : Result T Error) × (number ≡ answer_of result) × P result

-- 0 for what is committed, -1 for a conflict, and else the number of the refusal
abbrev pub outcome_number : CommitOutcome Error → ℤ
outcome_number outcomes.Ok = pos 0
outcome_number outcomes.Conflicted = negsuc 0
outcome_number (outcomes.Aborted error) = pos (number_of error)

-- The number tells of an outcome of which P holds.
abbrev pub AnswersOutcome : ℤ → (CommitOutcome Error → Type 0) → Type 0
AnswersOutcome number P = (outcome : CommitOutcome Error) × (number ≡ outcome_number outcome) × P outcome

-- a name is refused, since it is no text in UTF-8
abbrev pub IsNoText : Bytes → Result Unit Error → Type 0
IsNoText name result = (IsUtf8 name → ⊥) × (result ≡ Err (Io InvalidInput))

-- A number was put in a place where the call was done, and else the place is as it was.
abbrev pub PutsNumber : (old new : ℕ) → Result ℕ Error → Type 0
PutsNumber old new (Ok number) = new ≡ number
PutsNumber old new (Err error) = new ≡ old

-- The id of the ticket was put in a place where the call was done, and else the place is as it was.
abbrev pub PutsId : (old new : ℕ) → Result Ticket Error → Type 0
PutsId old new (Ok ticket) = new ≡ ticket.id
PutsId old new (Err error) = new ≡ old

-- A value stands at the beginning of a room that is as long, and behind it what stood there.
abbrev pub Copies : Bytes → (old new : List ℕ) → Type 0
Copies value old new = MatchBool (nat_le (length value) (length old)) (new ≡ value ++ drop (length value) old) (new ≡ old)

-- What was found of a key was put in its place, and its value in the room.
abbrev pub PutsFound : (old new : Found) (before after : List ℕ) → Result (Option Bytes) Error → Type 0
PutsFound old new before after (Ok (Some value)) = (new.is_there ≡ true) × (new.len ≡ length value) × Copies value before after
PutsFound old new before after (Ok None) = (new.is_there ≡ false) × (new.len ≡ 0) × (after ≡ before)
PutsFound old new before after (Err error) = (new ≡ old) × (after ≡ before)

-- An item was added where the call was done, and else the batch is as it was.
abbrev pub Adds : {T : Type 0} → T → (old new : List T) → {U : Type 0} → Result U Error → Type 0
Adds item old new (Ok _) = new ≡ old ++ item ∷ []
Adds item old new (Err error) = new ≡ old

-- a refusal that has this number, or none, where no refusal has it
abbrev pub IsRefusalOf : ℕ → Option Error → Type 0
IsRefusalOf number (Some error) = number_of error ≡ number
IsRefusalOf number None = (number ≡ 0) ⊎ (22 < number)

-- the name of the refusals of this number, or nothing, where none has it
abbrev pub IsNameOf : ℕ → List ℕ → Type 0
IsNameOf number name = ((error : Error) × (number_of error ≡ number) × (name ≡ name_of error)) ⊎ (((number ≡ 0) ⊎ (22 < number)) × (name ≡ []))

-- That name was told: how long it is, and in a room where that is as long.
pub record NamesRefusal (number told : ℕ) (before after : List ℕ) : Type 0 where
  pub name : List ℕ
  pub is : IsNameOf number name
  pub len : told ≡ length name
  pub copied : Copies name before after

-- the mode of a number
abbrev pub mode_at : ℕ → Option PersistMode
mode_at number = if number == 0 then Some Buffer else if number == 1 then Some SyncData else if number == 2 then Some SyncAll else None

-- ---- pages

-- the bound of a number and a key
abbrev pub bound_at : ℕ → Bytes → Option (Bound Bytes)
bound_at number key = if number == 0 then Some Unbounded else if number == 1 then Some (Included key) else if number == 2 then Some (Excluded key) else None

abbrev pub range_by : Option (Bound Bytes) → Option (Bound Bytes) → Option KeyRange
range_by (Some start) (Some end) = Some (start, end)
range_by start end = None

-- the range between two bounds by their numbers and keys
abbrev pub range_at : ℕ → Bytes → ℕ → Bytes → Option KeyRange
range_at start_number start end_number end = range_by (bound_at start_number start) (bound_at end_number end)

-- It is refused: for want of memory, or where nothing is meant by a number.
abbrev pub IsNoMeaning : {T : Type 0} → Option T → Error → Type 0
IsNoMeaning (Some meant) error = error ≡ OutOfMemory
IsNoMeaning None error = (error ≡ OutOfMemory) ⊎ (number_of error ≡ 7)

-- what is meant, or a refusal
abbrev pub IsMeant : {T : Type 0} → Option T → Result T Error → Type 0
IsMeant meant (Ok made) = meant ≡ Some made
IsMeant meant (Err error) = IsNoMeaning meant error

-- Pairs of a range were read so, and the number tells of that; or there is no range, the number tells why, and all is as it was.
abbrev pub TellsOfRange : {T : Type 0} → ℤ → Type 0 → (KeyRange → Result T Error → Type 0) → Result KeyRange Error → Type 0
TellsOfRange number same P (Ok range) = Answers number (P range)
TellsOfRange number same P (Err error) = (number ≡ pos (number_of error)) × same

-- the same of the range that is meant
abbrev pub AnswersRange : {T : Type 0} → Option KeyRange → ℤ → Type 0 → (KeyRange → Result T Error → Type 0) → Type 0
AnswersRange meant number same P = (range : Result KeyRange Error) × IsMeant meant range × TellsOfRange number same P range

-- the bytes of a pair: the lengths of its key and its value, of eight bytes each, the low one first, and then both
abbrev pub pair_bytes : Bytes × Bytes → Bytes
pair_bytes (key, value) = to_le_bytes w64 (length key) ++ to_le_bytes w64 (length value) ++ key ++ value

-- pairs one behind another
abbrev pub packed : List (Bytes × Bytes) → Bytes
packed pairs = flat_map pair_bytes pairs

-- As many of the first pairs as a room has place for stand at its beginning, and behind them what stood there.
pub record Packs (pairs : List (Bytes × Bytes)) (old new : List ℕ) (page : Page) : Type 0 where
  pub some : page.count ≤ length pairs
  pub len : page.len ≡ length (packed (take page.count pairs))
  pub fits : page.len ≤ length old
  pub front : take page.len new ≡ packed (take page.count pairs)
  pub behind : drop page.len new ≡ drop page.len old
  pub most : (page.count ≡ length pairs) ⊎ (length old < length (packed (take (page.count + 1) pairs)))

-- Pairs were packed into a room, and how many there are put in its place.
abbrev pub PutsPage : (old new : Page) (before after : List ℕ) → Result (Vec (Bytes × Bytes) Global) Error → Type 0
PutsPage old new before after (Ok pairs) = Packs pairs.items before after new
PutsPage old new before after (Err error) = (new ≡ old) × (after ≡ before)
