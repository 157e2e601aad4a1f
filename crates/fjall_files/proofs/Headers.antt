-- The version that four bytes name.
use Rattle.std.proofs.Common.{◌≡◌, ℕ, ◌≤◌, List, [], ◌∷◌, length, get_or, Option, Some, None, refl, arith, nat_eq, false}
use Rattle.std.specs.Prelude.{IfSome}
use Rattle.fjall_base.specs.Errors.{version_byte}
use Rattle.fjall_base.specs.declared.error.FormatVersion.{FormatVersion}
use Rattle.fjall_base.specs.declared.error.FormatVersion.TheVariants.{V1, V2, V3}
use Rattle.fjall_files.specs.Marker.{version_at}

-- the byte names this version, or none where it names none
abbrev pub Named : ℕ → Option FormatVersion → Type 0
Named b found = IfSome found (λ version. b ≡ version_byte version) × ((version : FormatVersion) → b ≡ version_byte version → found ≡ Some version)

unlike : (b v : ℕ) (found : Option FormatVersion) (version : FormatVersion) → (b ≡ v → found ≡ Some version) → found ≡ None → nat_eq b v ≡ false
unlike b v found version all none = grind (arith, all, none)

fourth : (b : ℕ) (rest : List ℕ) (found : Option FormatVersion) → Named b found → found ≡ version_at (70 ∷ 74 ∷ 76 ∷ b ∷ rest)
fourth b rest (Some V1) h = rw h.0 refl
fourth b rest (Some V2) h = rw h.0 refl
fourth b rest (Some V3) h = rw h.0 refl
fourth b rest None h =
    let no1 : nat_eq b 1 ≡ false = unlike b 1 None V1 (h.1 V1) refl in
    let no2 : nat_eq b 2 ≡ false = unlike b 2 None V2 (h.1 V2) refl in
    let no3 : nat_eq b 3 ≡ false = unlike b 3 None V3 (h.1 V3) refl in
    rw (no1, no2, no3) refl

-- behind "FJL" the byte decides
pub version_behind : (bytes : List ℕ) (found : Option FormatVersion) → 4 ≤ length bytes → get_or bytes 0 0 ≡ 70 → get_or bytes 1 0 ≡ 74 → get_or bytes 2 0 ≡ 76 → Named (get_or bytes 3 0) found → found ≡ version_at bytes
version_behind [] found long a b c h = absurd (omega arith)
version_behind (x ∷ []) found long a b c h = absurd (omega arith)
version_behind (x ∷ y ∷ []) found long a b c h = absurd (omega arith)
version_behind (x ∷ y ∷ z ∷ []) found long a b c h = absurd (omega arith)
version_behind (x ∷ y ∷ z ∷ w ∷ rest) found long a b c h = rw (a, b, c) (fourth w rest found h)
