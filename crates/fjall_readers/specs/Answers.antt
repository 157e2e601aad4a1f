-- What an export answers.
use Rattle.std.specs.Prelude.{◌≡◌, ◌⊎◌, ℕ, ◌+◌, ◌^◌, Result, Ok, Err}
use Rattle.fjall_base.specs.declared.error.Error.{Error}
use Rattle.fjall_base.specs.declared.error.Error.TheVariants.{OutOfMemory}
use Rattle.fjall_base.specs.Errors.{number_of}
use Rattle.fjall_files.specs.declared.marker.Marker.{Marker}
use Rattle.fjall_files.specs.declared.marker.Marker.TheVariants.{Whole, Unfinished}

-- a refusal is answered by its number and the highest bit
abbrev pub refusal : Error → ℕ
refusal error = 2 ^ 63 + number_of error

-- the answer is this number, unless memory ran out
abbrev pub Tells : ℕ → ℕ → Type 0
Tells answer n = (answer ≡ n) ⊎ (answer ≡ refusal OutOfMemory)

-- what is answered to what a marker tells
abbrev pub of_marker : Result Marker Error → ℕ
of_marker (Ok Whole) = 0
of_marker (Ok Unfinished) = 1
of_marker (Err error) = refusal error
