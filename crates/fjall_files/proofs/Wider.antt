-- Wider folders: what lies under a folder lies under the one that this lies under.
use Rattle.std.proofs.Common.{◌≡◌, inl, inr, ℕ, true, false, ◌==◌, List, [], ◌∷◌, sym, ◌∙◌, ap, arith}
use Rattle.std.proofs.lemmas.Bool.Decides.{nat_tests}
use Rattle.fjall_base.specs.Disk.{Name, DiskStep, Meaning}
use Rattle.fjall_base.proofs.Names.{bool_cases}
use Rattle.fjall_files.specs.Regions.{AreUnder, Within, is_under}

same_head : (f : ℕ) (fs : Name) (c : ℕ) (cs : Name) → is_under (f ∷ fs) (c ∷ cs) ≡ true → (f ≡ c) × (is_under fs cs ≡ true)
same_head f fs c cs is = elim (bool_cases (f == c)) [
  | inl at ↦ (grind (arith, nat_tests), rw at at is)
  | inr differ ↦ let no : false ≡ true = rw differ at is in cc
]

pub under_deeper : (outer inner q : Name) → is_under outer inner ≡ true → is_under inner q ≡ true → is_under outer q ≡ true
under_deeper [] [] q one two = two
under_deeper [] (c ∷ cs) [] one two = let no : false ≡ true = two in cc
under_deeper [] (c ∷ cs) (d ∷ ds) one two = let head = (same_head c cs d ds two).0 in let is : (c == 47) ≡ true = one in ap (λ (n : ℕ). n == 47) (sym head) ∙ is
under_deeper (f ∷ fs) [] q one two = let no : false ≡ true = one in cc
under_deeper (f ∷ fs) (c ∷ cs) [] one two = let no : false ≡ true = two in cc
under_deeper (f ∷ fs) (c ∷ cs) (d ∷ ds) one two =
    let first = same_head f fs c cs one in
    let then = same_head c cs d ds two in
    let at : f ≡ d = first.0 ∙ then.0 in
    let test : (f == d) ≡ true = grind (arith, nat_tests) in
    rw test (under_deeper fs cs ds first.1 then.1)

are_under_wider : (outer inner : Name) (steps : List DiskStep) → is_under outer inner ≡ true → AreUnder inner steps → AreUnder outer steps
are_under_wider outer inner [] is under = tt
are_under_wider outer inner (step ∷ steps) is under = (under_deeper outer inner _ is under.0, are_under_wider outer inner steps is under.1)

pub within_wider : (outer inner : Name) (old new : Meaning) → is_under outer inner ≡ true → Within inner old new → Within outer old new
within_wider outer inner old new is run = record { added = run.added; took = run.took; under = are_under_wider outer inner run.added is run.under }
