-- Blocks of a table, gone through one entry after another.
use Rattle.std.proofs.Common.{◌≡◌, ◌∙◌, ◌↔◌, ◌==◌, ℕ, zero, suc, ◌-◌, ◌<◌, ◌≤◌, Bool, IsTrue, List, [], ◌∷◌, ◌++◌, Some, Global, drop, length, slice_get, refl, ap, subst, sym, arith}
use Rattle.std.specs.declared.sync.Arc.{Arc}
use Rattle.std.proofs.lemmas.Bool.Decides.{nat_tests}
use Rattle.std.proofs.Math.Seq.{drop-length}
use Rattle.fjall_table.specs.Blocks.{Entry}
use Rattle.fjall_memtable.specs.Sorted.{flat}
use Rattle.fjall_jobs.specs.Blocks.{IsLeft, entries_in, still_left}

-- what stands at a place is the first of what is left from there
first_of_rest : (xs ys : List Entry) (k : ℕ) (e : Entry) → slice_get xs k ≡ Some e → Some e ≡ slice_get (drop k xs ++ ys) 0
first_of_rest [] ys k e is = absurd cc
first_of_rest (x ∷ xs) ys zero e is = sym is
first_of_rest (x ∷ xs) ys (suc k) e is = first_of_rest xs ys k e is

-- one less is left from the next place on
one_less : (xs ys : List Entry) (k : ℕ) → k < length xs → drop (suc k) xs ++ ys ≡ drop 1 (drop k xs ++ ys)
one_less [] ys k lt = absurd (omega arith)
one_less (x ∷ xs) ys zero lt = refl
one_less (x ∷ xs) ys (suc k) lt = one_less xs ys k (omega arith)

pub first_left : (blocks : List (Arc (List Entry) Global)) (left : ℕ) (b : Arc (List Entry) Global) (block : List Entry) (n : ℕ) (e : Entry)
    → Some b ≡ slice_get blocks 0 → block ≡ b.value → n ≡ length block → slice_get block (n - left) ≡ Some e
    → Some e ≡ slice_get (still_left left (entries_in blocks)) 0
first_left [] left b block n e here value len is = absurd cc
first_left (x ∷ blocks) left b block n e here value len is =
    let same : b ≡ x = cc in
    let block_is : block ≡ x.value = value ∙ ap (λ (a : Arc (List Entry) Global). a.value) same in
    first_of_rest x.value (flat (entries_in blocks)) (length x.value - left) e
    (subst (λ (l : List Entry). slice_get l (length l - left) ≡ Some e) block_is (subst (λ (k : ℕ). slice_get block (k - left) ≡ Some e) len is))

some_left : (xs ys : List Entry) (k : ℕ) → k < length xs → drop k xs ++ ys ≡ [] → ⊥
some_left [] ys k lt none = omega arith
some_left (x ∷ xs) ys zero lt none = cc none
some_left (x ∷ xs) ys (suc k) lt none = some_left xs ys k (omega arith) none

-- no entry is left just where no block is
pub is_over : (blocks : List (Arc (List Entry) Global)) (left : ℕ) (empty : Bool) → empty ≡ (length blocks == 0) → IsLeft left (entries_in blocks) → IsTrue empty ↔ (still_left left (entries_in blocks) ≡ [])
is_over [] left empty is are = (λ yes. refl, λ none. is)
is_over (b ∷ blocks) left empty is are = (
  λ yes. absurd (grind (arith, nat_tests, yes, is)),
  λ none. absurd (some_left b.value (flat (entries_in blocks)) (length b.value - left) (omega (arith, are.0, are.1)) none),
)

-- passed within a block
pub passed_within : (blocks : List (List Entry)) (left : ℕ) → IsLeft left blocks → 1 < left → still_left (left - 1) blocks ≡ drop 1 (still_left left blocks)
passed_within [] left are more = refl
passed_within (b ∷ blocks) left are more =
    let step : length b - (left - 1) ≡ suc (length b - left) = omega arith in
    ap (λ (k : ℕ). drop k b ++ flat blocks) step ∙ one_less b (flat blocks) (length b - left) (omega arith)

-- passed at the end of a block
pub passed_on : (blocks : List (Arc (List Entry) Global)) (b : Arc (List Entry) Global) (rest : List (Arc (List Entry) Global)) (left : ℕ) → IsLeft left (entries_in blocks) → left ≤ 1
    → blocks ≡ b ∷ rest → flat (entries_in rest) ≡ drop 1 (still_left left (entries_in blocks))
passed_on blocks b rest left are last is =
    let here : IsLeft left (entries_in (b ∷ rest)) = subst (λ (l : List (Arc (List Entry) Global)). IsLeft left (entries_in l)) is are in
    let end : suc (length b.value - left) ≡ length b.value = omega (arith, here.0, here.1) in
    let step : flat (entries_in rest) ≡ drop 1 (still_left left (entries_in (b ∷ rest))) =
    ap (λ (l : List Entry). l ++ flat (entries_in rest)) (sym (ap (λ (k : ℕ). drop k b.value) end ∙ drop-length b.value))
    ∙ one_less b.value (flat (entries_in rest)) (length b.value - left) (omega (arith, here.0, here.1)) in
    step ∙ ap (λ (l : List (Arc (List Entry) Global)). drop 1 (still_left left (entries_in l))) (sym is)
