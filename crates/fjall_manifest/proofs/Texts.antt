-- What stands at the front of a text that grew.
use Rattle.std.proofs.Common.{◌≡◌, ℕ, ◌+◌, List, ◌++◌, length, take, drop, refl, sym, ap, ◌∙◌, append_assoc}
use Rattle.std.proofs.lemmas.List.{take_at, take-append-drop}

-- what stands before what was added
pub kept_front : (old more now : List ℕ) → now ≡ old ++ more → take (length old) now ≡ old
kept_front old more now e = ap (take (length old)) e ∙ take_at old more (length old) refl

-- and then something else was changed behind it
pub kept_through : (old mid now more : List ℕ) → mid ≡ old ++ more → take (length mid) now ≡ mid → take (length old) now ≡ old
kept_through old mid now more e kept =
    let parts : now ≡ old ++ (more ++ drop (length mid) now) = sym (take-append-drop (length mid) now) ∙ ap (λ (v : List ℕ). v ++ drop (length mid) now) (kept ∙ e) ∙ append_assoc old more (drop (length mid) now) in
    kept_front old (more ++ drop (length mid) now) now parts
