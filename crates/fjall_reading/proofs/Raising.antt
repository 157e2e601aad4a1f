-- The bytes ahead of which all stand that begin with a prefix, from the prefix's last byte on.
use Rattle.std.proofs.Common.{◌≡◌, ◌≢◌, ℕ, zero, suc, replicate, ◌+◌, [], ◌∷◌, ◌++◌, Some, None, refl, ap}
use Rattle.std.specs.Prelude.{◌==◌, if◌then◌else◌}
use Rattle.std.proofs.lemmas.Bool.{false_from_ne_true, eqb-true, eq-eqb}
use Rattle.fjall_base.specs.Pairs.{Bytes}
use Rattle.fjall_reading.specs.Prefixes.{raised, raised_with}

-- a last byte ff is left out
pub raised_ff : (front : Bytes) (last : ℕ) → last ≡ 255 → raised (front ++ last ∷ []) ≡ raised front
raised_ff [] last is = ap (λ b. if b then None else Some ((last + 1) ∷ [])) (eq-eqb last 255 is)
raised_ff (byte ∷ front) last is = ap (raised_with byte) (raised_ff front last is)

-- and another is raised by one
pub raised_last : (front : Bytes) (last : ℕ) → last ≢ 255 → raised (front ++ last ∷ []) ≡ Some (front ++ (last + 1) ∷ [])
raised_last [] last other = ap (λ b. if b then None else Some ((last + 1) ∷ [])) (false_from_ne_true (last == 255) (λ t. other (eqb-true last 255 t)))
raised_last (byte ∷ front) last other = ap (raised_with byte) (raised_last front last other)

-- nothing is raised among bytes ff
pub none_raised : (count : ℕ) → raised (replicate count 255) ≡ None
none_raised zero = refl
none_raised (suc count) = ap (raised_with 255) (none_raised count)

-- many bytes ff at the end are left out
pub raised_all_ff : (front : Bytes) (count : ℕ) → raised (front ++ replicate count 255) ≡ raised front
raised_all_ff [] count = none_raised count
raised_all_ff (byte ∷ front) count = ap (raised_with byte) (raised_all_ff front count)
