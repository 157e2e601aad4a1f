-- A text is cut at its first line feed.
use Rattle.std.proofs.Common.{◌≡◌, ℕ, zero, suc, ◌+◌, ◌-◌, ◌<◌, ◌≤◌, ◌==◌, Bool, true, false, List, [], ◌∷◌, ◌++◌, length, take, drop, Option, Some, None, refl, sym, ap, ◌∙◌, arith, inl, inr, ◌⊎◌}
use Rattle.std.specs.List.{AllZip, position, position_or_len}
use Rattle.std.proofs.lemmas.Bool.{cases_lt}
use Rattle.std.proofs.lemmas.List.{append-nil, take_rest}
use Rattle.fjall_lines.specs.declared.command.Command.{Command}
use Rattle.fjall_lines.specs.Lines.{lines_of}
use Rattle.fjall_lines.specs.Hearing.{Hears}

abbrev feed : ℕ → Bool
feed b = b == 10

either : (v : Bool) → (v ≡ true) ⊎ (v ≡ false)
either true = inl refl
either false = inr refl

lines_at : (text : List ℕ) (n : ℕ) → n ≡ position_or_len feed text → n < length text
    → lines_of text ≡ take n text ∷ lines_of (drop (suc n) text)
lines_at [] n h lt = absurd (omega arith)
lines_at (b ∷ rest) zero h lt =
    elim (either (feed b)) [
      | inl e ↦ rw e refl
      | inr e ↦ let at = rw e at h in absurd (omega arith)
    ]
lines_at (b ∷ rest) (suc n) h lt =
    elim (either (feed b)) [
      | inl e ↦ let at = rw e at h in absurd (omega arith)
      | inr e ↦
          let at = rw e at h in
          let ih = lines_at rest n (omega arith) (omega arith) in
          rw (e, ih) refl
    ]

lines_alone : (b : ℕ) (rest : List ℕ) → length (b ∷ rest) ≤ position_or_len feed (b ∷ rest) → lines_of (b ∷ rest) ≡ (b ∷ rest) ∷ []
lines_alone b [] h =
    elim (either (feed b)) [
      | inl e ↦ let at = rw e at h in absurd (omega arith)
      | inr e ↦ rw e refl
    ]
lines_alone b (c ∷ rest) h =
    elim (either (feed b)) [
      | inl e ↦ let at = rw e at h in absurd (omega arith)
      | inr e ↦
          let at = rw e at h in
          let ih = lines_alone c rest (omega arith) in
          rw (e, ih) refl
    ]

-- what `position` found
found_at : (text : List ℕ) (end : ℕ) → Some end ≡ position feed text → (end ≡ position_or_len feed text) × (end < length text)
found_at text end h = elim (cases_lt (position_or_len feed text) (length text)) [
  | inl below ↦ grind (arith, h)
  | inr past ↦ grind (arith, h)
]

pub line_found : (text : List ℕ) (end : ℕ) → Some end ≡ position feed text
    → lines_of text ≡ take end text ∷ lines_of (take (length text - (end + 1)) (drop (end + 1) text))
line_found text end h =
    let at = found_at text end h in
    let first = lines_at text end at.0 at.1 in
    let next : suc end ≡ end + 1 = omega arith in
    let back : drop (suc end) text ≡ take (length text - (end + 1)) (drop (end + 1) text) = ap (λ (n : ℕ). drop n text) next ∙ sym (take_rest text (end + 1)) in
    first ∙ ap (λ (rest : List ℕ). take end text ∷ lines_of rest) back

pub line_alone : (text : List ℕ) → 0 < length text → None ≡ position feed text → lines_of text ≡ text ∷ []
line_alone [] h none = absurd (omega arith)
line_alone (b ∷ rest) h none = lines_alone b rest (elim (cases_lt (position_or_len feed (b ∷ rest)) (length (b ∷ rest))) [
  | inl below ↦ absurd (grind (arith, none))
  | inr past ↦ past
])

-- no line is left
pub all_read : (honest : Bool) (text rest : List ℕ) (commands : List (Option Command)) → rest ≡ []
    → ((more : List (Option Command)) → AllZip (Hears honest) (lines_of rest) more → AllZip (Hears honest) (lines_of text) (commands ++ more))
    → AllZip (Hears honest) (lines_of text) commands
all_read honest text rest commands none h =
    let left : AllZip (Hears honest) (lines_of rest) [] = rw none tt in
    rw append-nil at (h [] left)
