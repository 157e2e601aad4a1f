-- Items read one after another by a loop.
use Rattle.std.proofs.Common.{◌≡◌, ℕ, suc, ◌-◌, ◌+◌, ◌≤◌, ◌<◌, List, [], ◌∷◌, ◌++◌, Option, Some, None, refl, sym, ◌∙◌, append_assoc, arith}
use Rattle.std.proofs.lemmas.List.{append-nil}
use Rattle.fjall_base.specs.Fields.{◌>>=◌, many_at}

-- what was read before, and what is still read
abbrev pub with_front : {A : Type 0} → List A → Option (List A × List ℕ) → Option (List A × List ℕ)
with_front front read = read >>= λ x. Some (front ++ x.0, x.1)

regroup : {A : Type 0} (front : List A) (a : A) (read : Option (List A × List ℕ)) → with_front front (read >>= λ others. Some (a ∷ others.0, others.1)) ≡ with_front (front ++ a ∷ []) read
regroup front a (Some x) = rw (append_assoc front (a ∷ []) x.0) refl
regroup front a None = refl

pub goes_on : {A : Type 0} (item : List ℕ → Option (A × List ℕ)) (front : List A) (count i : ℕ) (bytes : List ℕ) (a : A) (after : List ℕ) (total : Option (List A × List ℕ)) → i < count → item bytes ≡ Some (a, after)
    → with_front front (many_at item (count - i) bytes) ≡ total → with_front (front ++ a ∷ []) (many_at item (count - (i + 1)) after) ≡ total
unfolding many_at
goes_on item front count i bytes a after total lt h so_far =
    let k : count - i ≡ suc (count - (i + 1)) = omega arith in
    let one : with_front front (many_at item (count - i) bytes) ≡ with_front (front ++ a ∷ []) (many_at item (count - (i + 1)) after) = rw (k, h) (regroup front a (many_at item (count - (i + 1)) after)) in
    sym one ∙ so_far

pub stops : {A : Type 0} (item : List ℕ → Option (A × List ℕ)) (front : List A) (count i : ℕ) (bytes : List ℕ) (total : Option (List A × List ℕ)) → i < count → item bytes ≡ None → with_front front (many_at item (count - i) bytes) ≡ total → total ≡ None
unfolding many_at
stops item front count i bytes total lt h so_far =
    let k : count - i ≡ suc (count - (i + 1)) = omega arith in
    let one : with_front front (many_at item (count - i) bytes) ≡ None = rw (k, h) refl in
    sym so_far ∙ one

pub is_done : {A : Type 0} (item : List ℕ → Option (A × List ℕ)) (front : List A) (count i : ℕ) (bytes : List ℕ) (total : Option (List A × List ℕ)) → count ≤ i → with_front front (many_at item (count - i) bytes) ≡ total → total ≡ Some (front, bytes)
unfolding many_at
is_done item front count i bytes total le so_far =
    let k : count - i ≡ 0 = omega arith in
    let one : with_front front (many_at item (count - i) bytes) ≡ Some (front, bytes) = rw (k, append-nil front) refl in
    sym so_far ∙ one
