-- How a disk in memory fails: at the call that it was told to fail, and at no other that it can serve.
use Rattle.std.specs.Prelude.{◌≡◌, ◌≢◌, ◌+◌, ◌-◌, ◌^◌, ℕ, min, List, [], ◌∷◌, take, Result, Err, IsErr, IsOkUnless, MatchResult, OnErr}
use Rattle.std.specs.declared.io.ErrorKind.TheVariants as kind
use Rattle.fjall_base.specs.Disk.{Append, Meaning, Name, Took}
use Rattle.fjall_base.specs.declared.error.Error.{Error}
use Rattle.fjall_base.specs.declared.error.Error.TheVariants.{Io, OutOfMemory}
use Rattle.fjall_disk_memory.specs.declared.failing.Failing.{Failing}

-- the count after one more fault; at the greatest `u64` it stays
abbrev pub count_after : ℕ → ℕ
count_after count = min (count + 1) (2 ^ 64 - 1)

-- the count after a call was refused so: a read's want of memory is no fault
abbrev pub count_by : Error → ℕ → ℕ
count_by OutOfMemory count = count
count_by error count = count_after count

-- One more call was made: the one that is to fail is one nearer, what is told of it stays, and a refusal is one fault.
pub record CountsCall {T : Type 0} (old new : Failing) (result : Result T Error) : Type 0 where
  pub call : new.call ≡ old.call - 1
  pub part : new.part ≡ old.part
  pub count : MatchResult result (λ _. new.count ≡ old.count) (λ error. new.count ≡ count_by error old.count)

-- A read is refused where it was told to fail, and else for want of memory alone.
pub record ReadsAsTold {T : Type 0} (old new : Failing) (result : Result T Error) : Type 0 where
  pub counts : CountsCall old new result
  pub told : old.call ≡ 1 → result ≡ Err (Io kind.Other)
  pub untold : old.call ≢ 1 → IsOkUnless result OutOfMemory

-- A change is refused where it was told to fail. One that a disk can serve, where can holds, is refused else for want of memory alone,
-- which is a fault of a kind of its own.
pub record ChangesAsTold {T : Type 0} (can : Type 0) (old new : Failing) (result : Result T Error) : Type 0 where
  pub counts : CountsCall old new result
  pub told : old.call ≡ 1 → IsErr result
  pub untold : old.call ≢ 1 → can → IsOkUnless result (Io kind.OutOfMemory)

-- Of an append to a file that was told to fail the part of its bytes went out that was told. Each other one that was refused added nothing:
-- one that wasn't told to fail, and one that found no memory.
pub record SendsAsTold (can : Type 0) (failing : Failing) (old new : Meaning) (name : Name) (bytes : List ℕ) (result : Result Unit Error) : Type 0 where
  pub told : failing.call ≡ 1 → can → result ≡ Err (Io kind.Other) → Took old new (Append name (take failing.part bytes) ∷ [])
  pub untold : failing.call ≢ 1 → OnErr result (Took old new [])
  pub unsent : result ≡ Err (Io kind.OutOfMemory) → Took old new []
