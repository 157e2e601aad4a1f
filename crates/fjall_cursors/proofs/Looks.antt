-- Versions that are looked at one behind another.
use Rattle.std.proofs.Common.{◌≡◌, ◌<◌, List, [], ◌∷◌, ◌++◌, length, drop, refl, sym, ap, ◌∙◌, arith, append_assoc, OnOk, Result, Ok, Err}
use Rattle.fjall_base.specs.Pairs.{Bytes}
use Rattle.fjall_table.specs.Blocks.{Entry}
use Rattle.fjall_cursors.specs.RunPages.{LooksOver}

-- one more was
pub looks_more : (left rest : List Entry) (v : Entry) (more : List Entry) (all mid all_new : List Entry → List (Bytes × Bytes)) → LooksOver left rest all mid → rest ≡ v ∷ more → ((versions : List Entry) → all_new versions ≡ mid (v ∷ versions)) → LooksOver left more all all_new
looks_more left rest v more all mid all_new l is one = record {
  front = l.front ++ v ∷ [];
  passed = l.passed ∙ ap (λ (r : List Entry). l.front ++ r) is ∙ sym (append_assoc l.front (v ∷ []) more);
  looked = λ versions. one versions ∙ l.looked (v ∷ versions) ∙ sym (ap all (append_assoc l.front (v ∷ []) versions));
}

-- what is left has a first one
pub some_first : (left : List Entry) → (left ≡ [] → ⊥) → (v : Entry) × (rest : List Entry) × (left ≡ v ∷ rest)
some_first [] some = absurd (some refl)
some_first (v ∷ rest) some = (v, rest, refl)

-- fewer are left once the first was passed over
pub fewer_behind : (left rest : List Entry) → (left ≡ [] → ⊥) → rest ≡ drop 1 left → length rest < length left
fewer_behind [] rest some is = absurd (some refl)
fewer_behind (v ∷ left) rest some is = let n = ap length is in omega (arith, n)

-- one was looked at, and passed over
pub looked_one : {T E : Type 0} (result : Result T E) (left rest : List Entry) (all all_new : List Entry → List (Bytes × Bytes)) → (left ≡ [] → ⊥) → OnOk result ((v : Entry) (more : List Entry) → left ≡ v ∷ more → rest ≡ more)
    → OnOk result ((v : Entry) (more versions : List Entry) → left ≡ v ∷ more → all_new versions ≡ all (v ∷ versions)) → OnOk result (LooksOver left rest all all_new)
looked_one (Ok value) left rest all all_new some passed looked =
    let first = some_first left some in
    record {
      front = first.0 ∷ [];
      passed = first.2 ∙ ap (λ (more : List Entry). first.0 ∷ more) (sym (passed first.0 first.1 first.2));
      looked = λ versions. looked first.0 first.1 versions first.2;
    }
looked_one (Err error) left rest all all_new some passed looked = tt

pub fewer_after : {T E : Type 0} (result : Result T E) (left rest : List Entry) → (left ≡ [] → ⊥) → OnOk result ((v : Entry) (more : List Entry) → left ≡ v ∷ more → rest ≡ more) → OnOk result (length rest < length left)
fewer_after (Ok value) left rest some passed =
    let first = some_first left some in
    let a = ap length first.2 in
    let b = ap length (passed first.0 first.1 first.2) in
    omega (arith, a, b)
fewer_after (Err error) left rest some passed = tt
