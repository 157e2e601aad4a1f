-- A refusal takes the place of an error, and a value stays.
use Rattle.std.proofs.Common.{◌≡◌, ℕ, Result, Ok, Err, IfOk, MatchResult}
use Rattle.std.specs.declared.io.Error as io
use Rattle.fjall_base.specs.declared.error.Error.{Error}
use Rattle.fjall_disk_folder.specs.Refusals.{refusal_of, count_of_read}

-- what holds of the value that the system gave holds of the value that the disk answers
pub passed_on : {T : Type 0} (P : T → Type 0) (old new : ℕ) (answer : Result T io.Error) (result : Result T Error)
    → MatchResult answer (λ value. (result ≡ Ok value) × (new ≡ old)) (λ error. (result ≡ Err (refusal_of error)) × (new ≡ count_of_read (refusal_of error) old))
    → IfOk answer P → IfOk result P
passed_on P old new (Ok value) result exact holds = rw exact.0 holds
passed_on P old new (Err error) result exact holds = rw exact.0 tt
