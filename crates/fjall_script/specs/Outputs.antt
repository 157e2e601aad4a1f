-- What was written to an output, and what reading and writing may fail with.
use Rattle.std.specs.Prelude.{◌≡◌, ℕ, List, ◌++◌, Option}
use Rattle.std.specs.Io.KnownBytes.{Appends}
use Rattle.fjall_base.specs.declared.error.Error.{Error}
use Rattle.fjall_base.specs.declared.error.Error.TheVariants.{Io, OutOfMemory}

-- the input or the output failed
abbrev pub IsIo : Error → Type 0
IsIo (Io kind) = Unit {0}
IsIo error = ⊥

-- the same, or memory ran out
abbrev pub IsIoOrMemory : Error → Type 0
IsIoOrMemory OutOfMemory = Unit {0}
IsIoOrMemory error = IsIo error

-- a beginning of these bytes was added
abbrev pub AppendsFront : Option (List ℕ) → Option (List ℕ) → List ℕ → Type 0
AppendsFront old new bytes = (front : List ℕ) × (rest : List ℕ) × (bytes ≡ front ++ rest) × Appends old new front
