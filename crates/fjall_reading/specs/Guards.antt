-- What is asked of a pair that was found, or of a fault.
use Rattle.std.specs.Prelude.{ℕ, ◌-◌, ◌^◌, length, min, Result, Ok, Err}
use Rattle.fjall_base.specs.Pairs.{Bytes}
use Rattle.fjall_base.specs.declared.error.Error.{Error}

-- a pair, or the fault that a read met
abbrev pub Found : Type 0
Found = Result (Bytes × Bytes) Error

-- how many bytes a value has; more than any keyspace's value has count as the most that one has
abbrev pub size_of : Bytes → ℕ
size_of value = min (length value) (2 ^ 32 - 1)

-- what is asked of the pair, or the fault
abbrev pub asked : {T : Type 0} → (Bytes × Bytes → T) → Found → Result T Error
asked ask (Ok pair) = Ok (ask pair)
asked ask (Err error) = Err error

abbrev pub key_in : Found → Result Bytes Error
key_in found = asked (λ pair. pair.0) found

abbrev pub value_in : Found → Result Bytes Error
value_in found = asked (λ pair. pair.1) found

abbrev pub size_in : Found → Result ℕ Error
size_in found = asked (λ pair. size_of pair.1) found
