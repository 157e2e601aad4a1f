-- Entries in the order of their stamps.
use Rattle.std.proofs.Common.{◌≡◌, ◌≢◌, ℕ, ◌+◌, Bool, false, List, [], ◌∷◌, map, filter, Option, refl, sym, ap, arith, cond}
use Rattle.std.specs.List.{AllByRecursion, sum_by}
use Rattle.std.specs.List.Sorted.{IsStrictlySortedBy}
use Rattle.std.specs.Map.{keys_of}
use Rattle.std.specs.BTreeMap.{insert_entry}
use Rattle.std.specs.Ordering.{nat_cmp, ordering_then, match_ordering}
use Rattle.std.specs.declared.cmp.Ordering.{Ordering}
use Rattle.std.specs.declared.cmp.Ordering.TheVariants.{Less, Equal, Greater}
use Rattle.std.proofs.lemmas.Cmp.{ranked}
use Rattle.std.proofs.lemmas.List.Sums.{sum_by-cons}
use Rattle.std.proofs.lemmas.Map.Keys.{sorted_head, sorted_tail}
use Rattle.std.proofs.lemmas.Map.Lookups.{exact_bytes, exact_unsigned}
use Rattle.fjall_base.specs.Pairs.{byte_order}
use Rattle.fjall_table.specs.Blocks.{StandsBefore, IsOrdered}
use Rattle.fjall_memtable.specs.declared.place.Place.{Place}
use Rattle.fjall_memtable.specs.Stamps.{Stamp, stamp_cmp}
use Rattle.fjall_memtable.specs.Places.{entry_at_place, value_at}
use Rattle.fjall_memtable.specs.Entries.{inserted}

-- ---- stamps

first_equal : (o p : Ordering) → ordering_then o p ≡ Equal → o ≡ Equal
first_equal Less p e = absurd cc
first_equal Equal p e = refl
first_equal Greater p e = absurd cc

second_equal : (o p : Ordering) → ordering_then o p ≡ Equal → p ≡ Equal
second_equal Less p e = absurd cc
second_equal Equal p e = e
second_equal Greater p e = absurd cc

pub same_stamp : (s t : Stamp) → stamp_cmp s t ≡ Equal → s ≡ t
same_stamp s t e =
    let k = exact_bytes s.key t.key (first_equal (byte_order s.key t.key) (nat_cmp t.number s.number) e) in
    let n = sym (exact_unsigned t.number s.number (second_equal (byte_order s.key t.key) (nat_cmp t.number s.number) e)) in
    λ i. record { key = k i; number = n i }

-- the stamp is none of these
abbrev pub Apart : Stamp → List (Stamp × Place) → Type 0
Apart s es = AllByRecursion (λ e. stamp_cmp s e.0 ≢ Equal) es

-- ---- the order of entries

before : (o : Ordering) (n m : ℕ) → ordering_then o (nat_cmp m n) ≡ Less → StandsBefore o n m
before Less n m e = tt
before Equal n m e = ranked m n Less (sym e)
before Greater n m e = absurd cc

pub ordered_is : (t : List ℕ) (es : List (Stamp × Place)) → IsStrictlySortedBy stamp_cmp (keys_of es) → IsOrdered (map (entry_at_place t) es)
ordered_is t [] s = tt
ordered_is t (x ∷ []) s = tt
ordered_is t (x ∷ y ∷ es) s = (before (byte_order x.0.key y.0.key) x.0.number y.0.number (sorted_head stamp_cmp x.0 (y.0 ∷ keys_of es) s).0, ordered_is t (y ∷ es) (sorted_tail stamp_cmp x.0 (y.0 ∷ keys_of es) s))

-- ---- one more entry

pub map_same : (t u : List ℕ) (es : List (Stamp × Place)) → AllByRecursion (λ x. entry_at_place u x ≡ entry_at_place t x) es → map (entry_at_place u) es ≡ map (entry_at_place t) es
map_same t u [] h = refl
map_same t u (x ∷ es) h = λ i. h.0 i ∷ map_same t u es h.1 i

pub map_insert : (t u : List ℕ) (s : Stamp) (p : Place) (v : Option (List ℕ)) → value_at u p ≡ v → (es : List (Stamp × Place)) → Apart s es → AllByRecursion (λ x. entry_at_place u x ≡ entry_at_place t x) es
    → map (entry_at_place u) (insert_entry stamp_cmp es s p) ≡ inserted (record { key = s.key; number = s.number; value = v }) (map (entry_at_place t) es)
map_insert t u s p v is [] a h = λ i. record { key = s.key; number = s.number; value = is i } ∷ []
map_insert t u s p v is (x ∷ xs) a h = by (stamp_cmp s x.0) refl (map_insert t u s p v is xs a.1 h.1)
  where
    by : (o : Ordering) → stamp_cmp s x.0 ≡ o
        → map (entry_at_place u) (insert_entry stamp_cmp xs s p) ≡ inserted (record { key = s.key; number = s.number; value = v }) (map (entry_at_place t) xs)
        → map (entry_at_place u) (match_ordering o ((s, p) ∷ x ∷ xs) ((x.0, p) ∷ xs) (x ∷ insert_entry stamp_cmp xs s p))
        ≡ match_ordering o (record { key = s.key; number = s.number; value = v } ∷ map (entry_at_place t) (x ∷ xs)) (record { key = s.key; number = s.number; value = v } ∷ map (entry_at_place t) xs) (entry_at_place t x ∷ inserted (record { key = s.key; number = s.number; value = v }) (map (entry_at_place t) xs))
    by Less e more = λ i. record { key = s.key; number = s.number; value = is i } ∷ map_same t u (x ∷ xs) h i
    by Equal e more = absurd (a.0 e)
    by Greater e more = λ i. h.0 i ∷ more i

pub sum_insert : (f : Stamp × Place → ℕ) (s : Stamp) (p : Place) (es : List (Stamp × Place)) → Apart s es → sum_by f (insert_entry stamp_cmp es s p) ≡ f (s, p) + sum_by f es
sum_insert f s p [] a = sum_by-cons f (s, p) []
sum_insert f s p (x ∷ xs) a = by (stamp_cmp s x.0) refl (sum_insert f s p xs a.1)
  where
    by : (o : Ordering) → stamp_cmp s x.0 ≡ o → sum_by f (insert_entry stamp_cmp xs s p) ≡ f (s, p) + sum_by f xs → sum_by f (match_ordering o ((s, p) ∷ x ∷ xs) ((x.0, p) ∷ xs) (x ∷ insert_entry stamp_cmp xs s p)) ≡ f (s, p) + sum_by f (x ∷ xs)
    by Less e more = sum_by-cons f (s, p) (x ∷ xs)
    by Equal e more = absurd (a.0 e)
    by Greater e more =
        let one = sum_by-cons f x (insert_entry stamp_cmp xs s p) in
        let two = sum_by-cons f x xs in
        omega (arith, one, two, more)

pub filter_insert : (q : Stamp × Place → Bool) (s : Stamp) (p : Place) → q (s, p) ≡ false → (es : List (Stamp × Place)) → Apart s es → filter q (insert_entry stamp_cmp es s p) ≡ filter q es
filter_insert q s p none [] a = rw none refl
filter_insert q s p none (x ∷ xs) a = by (stamp_cmp s x.0) refl (filter_insert q s p none xs a.1)
  where
    by : (o : Ordering) → stamp_cmp s x.0 ≡ o → filter q (insert_entry stamp_cmp xs s p) ≡ filter q xs → filter q (match_ordering o ((s, p) ∷ x ∷ xs) ((x.0, p) ∷ xs) (x ∷ insert_entry stamp_cmp xs s p)) ≡ filter q (x ∷ xs)
    by Less e more = rw none refl
    by Equal e more = absurd (a.0 e)
    by Greater e more = ap (λ (ys : List (Stamp × Place)). cond (q x) (x ∷ ys) ys) more

pub all_insert : (P : Stamp × Place → Type 0) (s : Stamp) (p : Place) → P (s, p) → (es : List (Stamp × Place)) → Apart s es → AllByRecursion P es → AllByRecursion P (insert_entry stamp_cmp es s p)
all_insert P s p here [] a h = (here, tt)
all_insert P s p here (x ∷ xs) a h = by (stamp_cmp s x.0) refl (all_insert P s p here xs a.1 h.1)
  where
    by : (o : Ordering) → stamp_cmp s x.0 ≡ o → AllByRecursion P (insert_entry stamp_cmp xs s p) → AllByRecursion P (match_ordering o ((s, p) ∷ x ∷ xs) ((x.0, p) ∷ xs) (x ∷ insert_entry stamp_cmp xs s p))
    by Less e more = (here, h)
    by Equal e more = absurd (a.0 e)
    by Greater e more = (h.0, more)
