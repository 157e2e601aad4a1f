-- Reading bytes from left to right, with the first fault that is met.
use Rattle.std.specs.Prelude.{◌≡◌, ⊤, ℕ, List, Option, Some, None, Result, Ok, Err}
use Rattle.std.specs.declared.io.ErrorKind.TheVariants.{UnexpectedEof}
use Rattle.fjall_base.specs.declared.error.Error.{Error}
use Rattle.fjall_base.specs.declared.error.Error.TheVariants as errors
use Rattle.fjall_base.specs.Fields as fields

-- Why bytes can't be read: they end within a field, or a byte of the named field means nothing.
pub data Fault : Type 0 where
  Short : Fault
  Invalid : List ℕ → ℕ → Fault

-- The error names the fault that reading met, or memory ran out.
abbrev pub Fails : {Y : Type 0} → Error → Result Y Fault → Type 0
Fails errors.OutOfMemory read = ⊤
Fails (errors.Io kind) read = (kind ≡ UnexpectedEof) × (read ≡ Err Short)
Fails (errors.InvalidTag tag) read = read ≡ Err (Invalid tag.0.now tag.1)
Fails error read = ⊥

-- What a function answered, seen by view, is what reading gives, unless memory ran out.
abbrev pub Gives : {X Y : Type 0} → (X → Y) → Result X Error → Result Y Fault → Type 0
Gives view (Ok x) read = read ≡ Ok (view x)
Gives view (Err e) read = Fails e read

-- what reading gives
abbrev pub Read : Type 0 → Type 0
Read T = Result T Fault

-- What reads a value of type T: the value and the bytes behind it, or a fault.
abbrev pub ValueReader : Type 0 → Type 0
ValueReader T = List ℕ → Result (T × List ℕ) Fault

-- A field that isn't whole is short.
abbrev pub whole : {A : Type 0} → Option A → Read A
whole (Some x) = Ok x
whole None = Err Short

abbrev pub byte_at : ValueReader ℕ
byte_at bytes = whole (fields.byte_at bytes)

-- a number of four bytes, the lowest first
abbrev pub number_at : ValueReader ℕ
number_at bytes = whole (fields.number_at 4 bytes)
