-- How the program ends, as a number.
use Rattle.std.specs.Prelude.{ℕ}
use Rattle.fjall_script.specs.declared.program.Status.{Status}
use Rattle.fjall_script.specs.declared.program.Status.TheVariants.{Success, Failure, Untold, Usage}

-- the status that a process ends with
abbrev pub status_code : Status → ℕ
status_code Success = 0
status_code Failure = 1
status_code Untold = 1
status_code Usage = 2
