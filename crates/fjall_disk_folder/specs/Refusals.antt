-- What an error of the system becomes, and how faults are counted.
use Rattle.std.specs.Prelude.{◌+◌, ◌-◌, ◌^◌, ℕ, ℤ, min, [], Bool, Option, None, Result, Err, MatchResult, IsErrAnd, IsFalse, ◌≡◌}
use Rattle.std.specs.IoError.{error_kind, raw_os_error}
use Rattle.std.specs.declared.io.Error as io
use Rattle.std.specs.declared.io.ErrorKind.{ErrorKind}
use Rattle.std.specs.declared.io.ErrorKind.TheVariants as kind
use Rattle.fjall_base.specs.Disk.{Meaning}
use Rattle.fjall_base.specs.declared.error.Error.{Error}
use Rattle.fjall_base.specs.declared.error.Error.TheVariants.{Io, Locked, OutOfMemory}

-- all that is known of a disk over a folder: its count of faults
abbrev pub meaning_of : ℕ → Meaning
meaning_of count = record { places = []; steps = []; faults = count; misuses = 0 }

-- the refusal for an error's kind and number: it is the program that wants memory where no number of the system came with it
abbrev pub refusal_by : ErrorKind → Option ℤ → Error
refusal_by kind.OutOfMemory None = OutOfMemory
refusal_by kind number = Io kind

-- the refusal for an error
abbrev pub refusal_of : io.Error → Error
refusal_of error = refusal_by (error_kind error) (raw_os_error error)

-- the count after one more fault
abbrev pub count_after : ℕ → ℕ
count_after count = min (count + 1) (2 ^ 64 - 1)

-- the count after a read was refused so
abbrev pub count_of_read : Error → ℕ → ℕ
count_of_read OutOfMemory count = count
count_of_read error count = count_after count

-- a change of the disk counts exactly where it is refused
abbrev pub CountsChange : {T : Type 0} → ℕ → ℕ → Result T Error → Type 0
CountsChange old new result = MatchResult result (λ _. new ≡ old) (λ _. new ≡ count_after old)

-- a read counts exactly where it is refused, but for want of memory
abbrev pub CountsRead : {T : Type 0} → ℕ → ℕ → Result T Error → Type 0
CountsRead old new result = MatchResult result (λ _. new ≡ old) (λ error. new ≡ count_of_read error old)

-- a name that may not be used is refused as such
abbrev pub RefusesUnless : {T : Type 0} → Bool → Result T Error → Type 0
RefusesUnless usable result = IsFalse usable → result ≡ Err (Io kind.InvalidInput)

-- the same of what the system was to be asked
abbrev pub FailsUnless : {T : Type 0} → Bool → Result T io.Error → Type 0
FailsUnless usable answer = IsFalse usable → IsErrAnd answer (λ error. error_kind error ≡ kind.InvalidInput)

-- why a folder isn't opened
abbrev pub IsFolderRefusal : Error → Type 0
IsFolderRefusal (Io kind) = Unit {0}
IsFolderRefusal Locked = Unit {0}
IsFolderRefusal OutOfMemory = Unit {0}
IsFolderRefusal error = ⊥
