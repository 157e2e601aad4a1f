-- Versions in order: bounds on their keys, and the newest of a key.
use Rattle.std.proofs.Common.{◌≡◌, ℕ, ◌<◌, Bool, true, false, cond, List, [], ◌∷◌, slice_get, Option, Some, None, refl, sym, ap, subst, ◌∙◌, inl, inr, ◌⊎◌, arith}
use Rattle.std.specs.List.{filter, AllByRecursion}
use Rattle.std.specs.Ordering.{match_ordering}
use Rattle.std.specs.Str.{bytes_eq}
use Rattle.std.specs.declared.cmp.Ordering.{Ordering}
use Rattle.std.specs.declared.cmp.Ordering.TheVariants.{Less, Equal, Greater}
use Rattle.std.proofs.lemmas.Bool.{cases_Bool, and_parts}
use Rattle.std.proofs.lemmas.Cmp.{nat_list_cmp_total, tied_itself}
use Rattle.std.proofs.lemmas.List.Elements.{All-from_recursion}
use Rattle.fjall_base.specs.Pairs.{Bytes, KeyRange, byte_order, is_within}
use Rattle.fjall_table.specs.Blocks.{Entry, StandsBefore, IsBefore, IsOrdered}
use Rattle.fjall_table.specs.Tables.{entries_within, versions_at}
use Rattle.fjall_memtable.specs.Stamps.{Stamp}
use Rattle.fjall_memtable.specs.Entries.{stamp_of, inserted}
use Rattle.fjall_memtable.proofs.Orders.{same_stamp}
use Rattle.fjall_memtable.specs.Views.{newest, later, is_seen}
use Rattle.fjall_memtable.proofs.NewestSeen.{top, first_wins, newest_has}
use Rattle.fjall_memtable.proofs.Sameness.{same_key}
use Rattle.fjall_memtable.specs.Sorted.{sorted}
use Rattle.fjall_memtable.proofs.Sorting.{order, before_from, behind_from, IsChain, chain_of, inserted_first, inserted_behind, all_weaker, before_trans, sorted_chain}

-- ---- tests of keys

-- what each has, each that passes has
pub all_filter : {X : Type 0} (P : X → Type 0) (q : X → Bool) (xs : List X) → AllByRecursion P xs → AllByRecursion P (filter q xs)
all_filter P q [] each = tt
all_filter P q (x ∷ xs) each = by (q x) (all_filter P q xs each.1)
  where
    by : (b : Bool) → AllByRecursion P (filter q xs) → AllByRecursion P (cond b (x ∷ filter q xs) (filter q xs))
    by true more = (each.0, more)
    by false more = more

-- a test of the key answers alike on two of one key and number
same_test : (p : Bytes → Bool) (v w : Entry) → order v w ≡ Equal → p w.key ≡ p v.key
same_test p v w e = ap (λ (s : Stamp). p s.key) (sym (same_stamp (stamp_of v) (stamp_of w) e))

-- a version that passes comes to its place among those that pass
passes : (p : Bytes → Bool) (v : Entry) → p v.key ≡ true → (vs : List Entry) → IsChain vs
    → inserted v (filter (λ e. p e.key) vs) ≡ filter (λ e. p e.key) (inserted v vs)
passes p v here [] up = sym (ap (λ (b : Bool). cond b (v ∷ []) []) here)
passes p v here (w ∷ vs) up = by (order v w) refl (passes p v here vs up.1) (cases_Bool (p w.key))
  where
    by : (o : Ordering) → order v w ≡ o → inserted v (filter (λ e. p e.key) vs) ≡ filter (λ e. p e.key) (inserted v vs)
        → (p w.key ≡ true) ⊎ (p w.key ≡ false)
        → inserted v (filter (λ e. p e.key) (w ∷ vs)) ≡ filter (λ e. p e.key) (match_ordering o (v ∷ w ∷ vs) (v ∷ vs) (w ∷ inserted v vs))
    by Less e more d =
        let h = before_from v w e in
        let each : AllByRecursion (IsBefore v) (w ∷ vs) = (h, all_weaker (IsBefore w) (IsBefore v) vs (λ u k. before_trans v w u h k) up.0) in
        rw here (inserted_first v (filter (λ e. p e.key) (w ∷ vs)) (all_filter (IsBefore v) (λ e. p e.key) (w ∷ vs) each))
    by Equal e more d = rw (here, same_test p v w e ∙ here, e) refl
    by Greater e more (inl t) = rw t (inserted_behind v w (filter (λ e. p e.key) vs) (behind_from v w e) ∙ ap (λ (xs : List Entry). w ∷ xs) more)
    by Greater e more (inr f) = rw f more

-- one that doesn't pass isn't seen among them
fails : (p : Bytes → Bool) (v : Entry) → p v.key ≡ false → (vs : List Entry) → filter (λ e. p e.key) (inserted v vs) ≡ filter (λ e. p e.key) vs
fails p v miss [] = ap (λ (b : Bool). cond b (v ∷ []) []) miss
fails p v miss (w ∷ vs) = by (order v w) refl (fails p v miss vs)
  where
    by : (o : Ordering) → order v w ≡ o → filter (λ e. p e.key) (inserted v vs) ≡ filter (λ e. p e.key) vs
        → filter (λ e. p e.key) (match_ordering o (v ∷ w ∷ vs) (v ∷ vs) (w ∷ inserted v vs)) ≡ filter (λ e. p e.key) (w ∷ vs)
    by Less e more = rw miss refl
    by Equal e more = rw (miss, same_test p v w e ∙ miss) refl
    by Greater e more = ap (λ (xs : List Entry). cond (p w.key) (w ∷ xs) xs) more

-- what doesn't pass a test of the key may be left out before or after
tests_first : (p : Bytes → Bool) (versions : List Entry) → sorted (filter (λ e. p e.key) versions) ≡ filter (λ e. p e.key) (sorted versions)
tests_first p [] = refl
tests_first p (v ∷ versions) = by (cases_Bool (p v.key)) (tests_first p versions)
  where
    by : (p v.key ≡ true) ⊎ (p v.key ≡ false) → sorted (filter (λ e. p e.key) versions) ≡ filter (λ e. p e.key) (sorted versions)
        → sorted (filter (λ e. p e.key) (v ∷ versions)) ≡ filter (λ e. p e.key) (inserted v (sorted versions))
    by (inl t) more = rw t (ap (inserted v) more ∙ passes p v t (sorted versions) (sorted_chain versions))
    by (inr f) more = rw f (more ∙ sym (fails p v f (sorted versions)))

pub bounds_first : (range : KeyRange) (versions : List Entry) → sorted (entries_within range versions) ≡ entries_within range (sorted versions)
bounds_first range versions = tests_first (is_within range) versions

-- ---- the newest of a key

-- of one key what stands before has the greater number
pub older : (v w : Entry) → IsBefore v w → v.key ≡ w.key → w.number < v.number
older v w h same =
    subst (λ (o : Ordering). StandsBefore o v.number w.number) (ap (byte_order v.key) (sym same) ∙ tied_itself nat_list_cmp_total v.key) h

-- the first that is found of the key is the newest, since all behind it are older
chain_newest : (key : Bytes) (instant : ℕ) (versions : List Entry) → IsChain versions → newest key instant versions ≡ slice_get (versions_at key instant versions) 0
chain_newest key instant [] up = refl
chain_newest key instant (v ∷ versions) up = by (is_seen key instant v) refl (chain_newest key instant versions up.1)
  where
    below : is_seen key instant v ≡ true → (o : Option Entry) → newest key instant versions ≡ o → top o < top (Some v)
    below t None e = omega arith
    below t (Some w) e =
        let h = newest_has (is_seen key instant) (IsBefore v) versions w e (All-from_recursion (IsBefore v) versions up.0) in
        let a = same_key v.key key (and_parts (bytes_eq v.key key) _ t).0 in
        let b = same_key w.key key (and_parts (bytes_eq w.key key) _ h.1).0 in
        let n = older v w h.0 (a ∙ sym b) in
        omega arith

    by : (b : Bool) → is_seen key instant v ≡ b → newest key instant versions ≡ slice_get (versions_at key instant versions) 0
        → later (cond b (Some v) None) (newest key instant versions) ≡ slice_get (cond b (v ∷ versions_at key instant versions) (versions_at key instant versions)) 0
    by true t more = first_wins (Some v) (newest key instant versions) (below t (newest key instant versions) refl)
    by false t more = more

pub newest_first : (key : Bytes) (instant : ℕ) (versions : List Entry) → IsOrdered versions
    → newest key instant versions ≡ slice_get (versions_at key instant versions) 0
newest_first key instant versions up = chain_newest key instant versions (chain_of versions up)
