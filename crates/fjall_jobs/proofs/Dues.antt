-- When the open table is to be closed.
use Rattle.std.proofs.Common.{◌≡◌, ◌≢◌, ◌∙◌, ◌⊎◌, inl, inr, ℕ, ◌<◌, ◌≤◌, ◌-◌, ◌^◌, ◌++◌, Bool, true, false, not, IsTrue, List, [], ◌∷◌, Some, length, min, refl, sym, subst, arith}
use Rattle.std.specs.Str.{bytes_eq}
use Rattle.fjall_base.proofs.Lists.{last_behind}
use Rattle.fjall_table.specs.Blocks.{Entry}
use Rattle.fjall_memtable.specs.Kept.{EndsBefore, size_of_all}
use Rattle.fjall_jobs.specs.Sequences.{IsClosingDue, last_key}
use Rattle.fjall_memtable.proofs.Sameness.{keys_tie, same_key}
use Rattle.fjall_jobs.proofs.Finishing.{some_apart}
use Rattle.fjall_jobs.proofs.Parting.{ended, HasLast}

-- a table that ends with another key does so with its last one
ends_where : (vs : List Entry) (key : List ℕ) → vs ≢ [] → (EndsBefore vs key → last_key vs ≢ key) × (last_key vs ≢ key → EndsBefore vs key)
ends_where vs key some = by (ended vs)
  where
    by : (vs ≡ []) ⊎ HasLast vs → (EndsBefore vs key → last_key vs ≢ key) × (last_key vs ≢ key → EndsBefore vs key)
    by (inl none) = absurd (some none)
    by (inr h) = subst (λ (l : List Entry). (EndsBefore l key → last_key l ≢ key) × (last_key l ≢ key → EndsBefore l key)) (sym h.is) (here h.front h.last)
      where
        here : (front : List Entry) (e : Entry) → (EndsBefore (front ++ e ∷ []) key → last_key (front ++ e ∷ []) ≢ key) × (last_key (front ++ e ∷ []) ≢ key → EndsBefore (front ++ e ∷ []) key)
        here front e = rw (last_behind front e) ((λ apart. apart), (λ apart. apart))

pub due_where : (target size : ℕ) (vs : List Entry) (last key : List ℕ) → size ≡ min (size_of_all vs) (2 ^ 64 - 1) → last ≡ last_key vs → vs ≢ [] → target ≤ size
    → (last ≢ key → IsClosingDue (Some target) vs key) × (IsClosingDue (Some target) vs key → last ≢ key)
due_where target size vs last key size_is last_is some reached =
    let p = ends_where vs key some in
    ((λ apart. (omega arith, p.1 (λ e. apart (last_is ∙ e)))), (λ due e. p.0 due.1 (sym last_is ∙ e)))

-- two keys that aren't equal byte by byte are apart
pub is_apart : (a b : List ℕ) (differs : Bool) → differs ≡ not (bytes_eq a b) → (IsTrue differs → a ≢ b) × (a ≢ b → IsTrue differs)
is_apart a b differs is = by (bytes_eq a b) refl
  where
    by : (same : Bool) → bytes_eq a b ≡ same → (IsTrue differs → a ≢ b) × (a ≢ b → IsTrue differs)
    by true e = ((λ yes same. cc (is, e)), (λ apart. absurd (apart (same_key a b e))))
    by false e = ((λ yes same. cc (e, keys_tie a b same)), (λ apart. cc (is, e)))

-- so the open table is to be closed where its last key isn't this one
pub due_told : (target size : ℕ) (vs : List Entry) (last key : List ℕ) (differs : Bool) → size ≡ min (size_of_all vs) (2 ^ 64 - 1) → last ≡ last_key vs
    → 0 < length vs → target ≤ size → differs ≡ not (bytes_eq last key) → (IsTrue differs → IsClosingDue (Some target) vs key) × (IsClosingDue (Some target) vs key → IsTrue differs)
due_told target size vs last key differs size_is last_is some reached is =
    let p = due_where target size vs last key size_is last_is (some_apart vs some) reached in
    let q = is_apart last key differs is in
    ((λ yes. p.0 (q.0 yes)), (λ due. q.1 (p.1 due)))

-- nor is it due below the target
pub not_due : (target size : ℕ) (vs : List Entry) (key : List ℕ) → target < 2 ^ 64 → size ≡ min (size_of_all vs) (2 ^ 64 - 1) → size < target → IsClosingDue (Some target) vs key → ⊥
not_due target size vs key fits size_is low due = let r : target ≤ size_of_all vs = due.0 in omega arith
