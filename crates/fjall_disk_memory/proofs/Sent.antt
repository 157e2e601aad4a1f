-- What of an append went out.
use Rattle.std.proofs.Common.{◌≡◌, ℕ, min, List, [], ◌∷◌, take, length, ◌∙◌, ap, subst, false, Result, Ok, Err, OnErr}
use Rattle.std.specs.Result.{is_ok}
use Rattle.std.specs.declared.io.ErrorKind.TheVariants as kind
use Rattle.std.proofs.lemmas.List.{take_min}
use Rattle.fjall_base.specs.Disk.{Append, Meaning, Name, Took}
use Rattle.fjall_base.specs.declared.error.Error.{Error}
use Rattle.fjall_base.specs.declared.error.Error.TheVariants.{Io}
use Rattle.fjall_disk_memory.specs.Failing.{SendsAsTold}
use Rattle.fjall_disk_memory.specs.declared.failing.Failing.{Failing}

pub err_at : {T E : Type 0} (r : Result T E) (P : Type 0) → is_ok r ≡ false → OnErr r P → P
err_at (Ok v) P is p = let bad : ⊥ = cc in absurd bad
err_at (Err e) P is p = p

-- no memory was found
pub sent_none : (can : Type 0) (failing : Failing) (old new : Meaning) (name : Name) (bytes : List ℕ) (error : Error) → error ≡ Io kind.OutOfMemory → Took old new [] → SendsAsTold can failing old new name bytes (Err error)
sent_none can failing old new name bytes error is took = record {
  told = λ one may same. let other : Io kind.OutOfMemory ≡ Io kind.Other = cc in let bad : ⊥ = cc in absurd bad;
  untold = λ other. took;
  unsent = λ same. took;
}

-- the part that was told
pub sent_part : (can : Type 0) (failing : Failing) (old new : Meaning) (name : Name) (bytes : List ℕ) (error : Error) (part : ℕ) → error ≡ Io kind.Other → failing.call ≡ 1 → part ≡ min failing.part (length bytes)
    → Took old new (Append name (take part bytes) ∷ []) → SendsAsTold can failing old new name bytes (Err error)
sent_part can failing old new name bytes error part is one least took = record {
  told = λ here may same. subst (λ (sent : List ℕ). Took old new (Append name sent ∷ [])) (ap (λ n. take n bytes) least ∙ take_min failing.part bytes) took;
  untold = λ other. absurd (other one);
  unsent = λ same. let other : Io kind.OutOfMemory ≡ Io kind.Other = cc in let bad : ⊥ = cc in absurd bad;
}
