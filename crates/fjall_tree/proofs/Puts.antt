-- Versions and clears that are made once.
use Rattle.std.proofs.Common.{◌≡◌, ℕ, zero, suc, ◌+◌, ◌-◌, Bool, true, false, not, ◌||◌, leb, List, [], ◌∷◌, length, slice_get, Some, refl, sym, ap, ◌∙◌, inl, inr, arith}
use Rattle.std.specs.List.{list_any}
use Rattle.std.proofs.lemmas.Bool.{cases_Bool, cond-false, cond-true, le-leb, leb-true}
use Rattle.std.proofs.lemmas.Option.{get_or_from_slice_get}
use Rattle.fjall_table.specs.Blocks.{Entry}
use Rattle.fjall_memtable.proofs.Tests.{any_first}
use Rattle.fjall_memtable.specs.Parts.{Ascends, Memory, with_active, with_version}
use Rattle.fjall_tree.specs.Puts.{emptied_once, has_stamp, put}
use Rattle.fjall_tree.specs.Trees.{Shape, emptied, with_memory, written}

-- ---- a version that is put

put_there : (v : Entry) (shape : Shape) → has_stamp v shape ≡ true → shape ≡ put v shape
unfolding put
put_there v shape e = sym (cond-true (has_stamp v shape) shape (written v shape) e)

put_new : (v : Entry) (shape : Shape) → has_stamp v shape ≡ false → written v shape ≡ put v shape
unfolding put
put_new v shape e = sym (cond-false (has_stamp v shape) shape (written v shape) e)

-- by whether the active part had none of its key and number
pub put_once : (v : Entry) (shape : Shape) (memory : Memory) (is_new : Bool) → is_new ≡ not (has_stamp v shape)
    → (is_new ≡ true → memory ≡ with_active (with_version v shape.memory.active) shape.memory) → (is_new ≡ false → memory ≡ shape.memory)
    → with_memory memory shape ≡ put v shape
put_once v shape memory is_new told new there = elim (cases_Bool (has_stamp v shape)) [
  | inl t ↦ ap (λ (m : Memory). with_memory m shape) (there (told ∙ ap not t)) ∙ put_there v shape t
  | inr f ↦ ap (λ (m : Memory). with_memory m shape) (new (told ∙ ap not f)) ∙ put_new v shape f
]

-- ---- a clear that is made

-- the last of ascending numbers tells
last_at : (number : ℕ) (xs : List ℕ) (k n : ℕ) → Ascends xs → Some n ≡ slice_get xs k → length xs ≡ k + 1 → leb number n ≡ list_any (λ m. leb number m) xs
last_at number [] k n up is end = absurd (cc is)
last_at number (x ∷ []) zero n up is end = let e : n ≡ x = cc is in ap (leb number) e ∙ alone (leb number x)
  where
    alone : (b : Bool) → b ≡ (b || false)
    alone true = refl
    alone false = refl
last_at number (x ∷ y ∷ xs) zero n up is end = absurd (omega (arith, end))
last_at number (x ∷ xs) (suc k) n up is end =
    let more = last_at number xs k n up.1 is (omega (arith, end)) in
    let there = get_or_from_slice_get xs k n n (sym is) in
    let above = up.0 k n (omega (arith, end)) in
    elim (cases_Bool (leb number x)) [
      | inl e ↦ let low = leb-true number x e in le-leb number n (omega (arith, low, above, there)) ∙ sym (any_first (λ m. leb number m) x xs e)
      | inr e ↦ more ∙ sym (ap (λ (b : Bool). b || list_any (λ m. leb number m) xs) e)
    ]

pub last_reaches : (number : ℕ) (xs : List ℕ) (n : ℕ) → Ascends xs → Some n ≡ slice_get xs (length xs - 1) → leb number n ≡ list_any (λ m. leb number m) xs
last_reaches number [] n up is = absurd (cc is)
last_reaches number (x ∷ xs) n up is = last_at number (x ∷ xs) (length (x ∷ xs) - 1) n up is (omega arith)

pub emptied_there : (number : ℕ) (shape : Shape) → list_any (λ n. leb number n) shape.memory.active.clears ≡ true → shape ≡ emptied_once number shape
unfolding emptied_once
emptied_there number shape e = sym (cond-true (list_any (λ n. leb number n) shape.memory.active.clears) shape (emptied number shape) e)

pub emptied_new : (number : ℕ) (shape : Shape) → list_any (λ n. leb number n) shape.memory.active.clears ≡ false → emptied number shape ≡ emptied_once number shape
unfolding emptied_once
emptied_new number shape e = sym (cond-false (list_any (λ n. leb number n) shape.memory.active.clears) shape (emptied number shape) e)
