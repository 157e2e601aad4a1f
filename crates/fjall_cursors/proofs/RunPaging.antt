-- Pages over runs, version after version.
use Rattle.std.proofs.Common.{◌≡◌, ℕ, zero, suc, ◌+◌, ◌<◌, ◌≤◌, Bool, true, false, List, [], ◌∷◌, ◌++◌, length, map, take, get_or, Some, None, refl, sym, ap, subst, ◌∙◌, arith, length-append}
use Rattle.std.specs.List.{All, slice_get, slice_set}
use Rattle.std.proofs.lemmas.List.{append-nil, take-append-le}
use Rattle.std.proofs.lemmas.List.Elements.{All-head, All-tail}
use Rattle.fjall_base.specs.Pairs.{Bytes}
use Rattle.fjall_table.specs.Blocks.{Entry}
use Rattle.fjall_memtable.specs.Jobs.{OnceEach}
use Rattle.fjall_memtable.specs.Sorted.{IsFirst, IsInTurn, flat, in_turn, sorted}
use Rattle.fjall_cursors.specs.Pages.{IsMade}
use Rattle.fjall_memtable.proofs.Taking.{first_taken, runs_in_turn, others_once}

-- ---- one version

-- the run that was read begins with the first version
first_left : (left old : List Entry) (runs : List (List Entry)) (at : ℕ) → slice_get runs at ≡ Some left → slice_get runs at ≡ Some old → left ≡ old
first_left left old runs at e f = cc (e, f)

pub made_more : (back : Bool) (runs others : List (List Entry)) (at : ℕ) (left rest_left : List Entry) (whole : List (Bytes × Bytes)) (all all_new : List Entry → List (Bytes × Bytes)) (made made_new : List (Bytes × Bytes)) (max : ℕ)
    → IsMade back runs whole all made max → IsFirst back runs (Some at) → slice_get runs at ≡ Some left → others ≡ slice_set runs at rest_left
    → ((v : Entry) (rest : List Entry) → left ≡ v ∷ rest → rest_left ≡ rest)
    → ((v : Entry) (rest versions : List Entry) → left ≡ v ∷ rest → all_new versions ≡ all (v ∷ versions))
    → length made_new ≤ length made + 1 → length made < max → IsMade back others whole all_new made_new max
made_more back runs others at left rest_left whole all all_new made made_new max is first get set passed looked few lt =
    let v = first.0 in
    let rest = first.1 in
    let begins : left ≡ v ∷ rest = first_left left (v ∷ rest) runs at get first.2.here in
    let same : others ≡ slice_set runs at rest = set ∙ ap (λ (run : List Entry). slice_set runs at run) (passed v rest begins) in
    let taken = first_taken back runs at v rest is.ordered is.once first.2 in
    record {
      ordered = subst (All (IsInTurn back)) (sym same) (runs_in_turn back runs at v rest is.ordered first.2);
      once = subst (λ (rs : List (List Entry)). OnceEach (flat rs)) (sym same) (others_once back runs at v rest is.once first.2);
      told = ap (λ (rs : List (List Entry)). all_new (in_turn back (sorted (flat rs)))) same
          ∙ looked v rest (in_turn back (sorted (flat (slice_set runs at rest)))) begins
          ∙ ap all (sym taken) ∙ is.told;
      few = omega (arith, few, lt);
    }

-- one version less is left
shorter : (runs : List (List Entry)) (at : ℕ) (v : Entry) (rest : List Entry) → slice_get runs at ≡ Some (v ∷ rest) → length (flat (slice_set runs at rest)) < length (flat runs)
shorter [] at v rest e = absurd (cc e)
shorter (run ∷ runs) zero v rest e =
    let same : run ≡ v ∷ rest = cc e in
    let a = length-append rest (flat runs) in
    let b = length-append run (flat runs) in
    let n = ap length same in
    omega (arith, a, b, n)
shorter (run ∷ runs) (suc at) v rest e =
    let less = shorter runs at v rest e in
    let a = length-append run (flat (slice_set runs at rest)) in
    let b = length-append run (flat runs) in
    omega (arith, a, b, less)

pub fewer_left : (back : Bool) (runs others : List (List Entry)) (at : ℕ) (left rest_left : List Entry) → IsFirst back runs (Some at) → slice_get runs at ≡ Some left → others ≡ slice_set runs at rest_left
    → ((v : Entry) (rest : List Entry) → left ≡ v ∷ rest → rest_left ≡ rest) → length (flat others) < length (flat runs)
fewer_left back runs others at left rest_left first get set passed =
    let v = first.0 in
    let rest = first.1 in
    let begins : left ≡ v ∷ rest = first_left left (v ∷ rest) runs at get first.2.here in
    let same : others ≡ slice_set runs at rest = set ∙ ap (λ (run : List Entry). slice_set runs at run) (passed v rest begins) in
    subst (λ (rs : List (List Entry)). length (flat rs) < length (flat runs)) (sym same) (shorter runs at v rest first.2.here)

-- ---- the runs of a slice

pub got_run : {A B : Type 0} (f : A → B) (xs : List A) (i : ℕ) (d : A) → i < length xs → slice_get (map f xs) i ≡ Some (f (get_or xs i d))
got_run f [] i d lt = absurd (omega arith)
got_run f (y ∷ xs) zero d lt = refl
got_run f (y ∷ xs) (suc i) d lt = got_run f xs i d (omega arith)

pub set_run : {A B : Type 0} (f : A → B) (xs : List A) (i : ℕ) (x : A) → map f (slice_set xs i x) ≡ slice_set (map f xs) i (f x)
set_run f [] i x = refl
set_run f (y ∷ xs) zero x = refl
set_run f (y ∷ xs) (suc i) x = ap (λ (zs : List _). f y ∷ zs) (set_run f xs i x)

-- ---- the end

nothing_flat : (runs : List (List Entry)) → All (λ run. run ≡ []) runs → flat runs ≡ []
nothing_flat [] each = refl
nothing_flat (run ∷ runs) each = ap (λ (r : List Entry). r ++ flat runs) (All-head (λ r. r ≡ []) run runs each) ∙ nothing_flat runs (All-tail (λ r. r ≡ []) run runs each)

nothing_turned : (back : Bool) → in_turn back (sorted []) ≡ []
nothing_turned false = refl
nothing_turned true = refl

-- all was looked at
pub made_all : (back : Bool) (runs : List (List Entry)) (whole : List (Bytes × Bytes)) (all : List Entry → List (Bytes × Bytes)) (made : List (Bytes × Bytes)) (max : ℕ) → IsMade back runs whole all made max → IsFirst back runs None → all [] ≡ whole
made_all back runs whole all made max is none =
    sym (ap (λ (vs : List Entry). all (in_turn back (sorted vs))) (nothing_flat runs none) ∙ ap all (nothing_turned back)) ∙ is.told

whole_taken : {A : Type 0} (n : ℕ) (xs : List A) → length xs ≤ n → take n xs ≡ xs
whole_taken zero [] le = refl
whole_taken (suc n) [] le = refl
whole_taken zero (x ∷ xs) le = absurd (omega arith)
whole_taken (suc n) (x ∷ xs) le = ap (λ (zs : List _). x ∷ zs) (whole_taken n xs (omega arith))

-- what is behind a full page doesn't count
pub full_page : {A : Type 0} (max : ℕ) (made more : List A) → max ≤ length made → length made ≤ max → take max (made ++ more) ≡ made
full_page max made more ge le = take-append-le max made more ge ∙ whole_taken max made le

pub short_page : {A : Type 0} (max : ℕ) (made : List A) → length made ≤ max → take max (made ++ []) ≡ made
short_page max made le = ap (take max) (append-nil made) ∙ whole_taken max made le
