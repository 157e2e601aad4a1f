-- Parts of a memtable by keys, and the newest version of a key below an instant.
use Rattle.std.proofs.Common.{◌≡◌, ℕ, ◌+◌, ◌<◌, ◌≤◌, Bool, true, false, ◌&&◌, nat_lt, List, [], ◌∷◌, ◌++◌, map, filter, slice_get, Option, Some, None, refl, sym, ap, subst, ◌∙◌, arith, inl, inr}
use Rattle.std.specs.List.{AllByRecursion}
use Rattle.std.specs.List.Sorted.{IsStrictlySortedBy}
use Rattle.std.specs.Map.{keys_of}
use Rattle.std.specs.Option.{option_map}
use Rattle.std.specs.Str.{bytes_eq}
use Rattle.std.specs.Ordering.{nat_cmp, ordering_then, ordering_reverse, match_ordering, is_le}
use Rattle.std.specs.BTreeMap.Range.{range_contains}
use Rattle.std.specs.declared.cmp.Ordering.{Ordering}
use Rattle.std.specs.declared.cmp.Ordering.TheVariants.{Less, Equal, Greater}
use Rattle.std.specs.declared.ops.Bound.TheVariants.{Included, Unbounded}
use Rattle.std.proofs.lemmas.Bool.{cases_Bool, cases_lt, lt-ltb, le-ltb}
use Rattle.std.proofs.lemmas.Cmp.{nat_list_cmp_total, tied_itself}
use Rattle.std.proofs.lemmas.List.Kept.{IsStrictlySortedBy-filter}
use Rattle.std.proofs.lemmas.Map.Keys.{sorted_head, sorted_tail}
use Rattle.std.proofs.lemmas.Map.Lookups.{exact_bytes}
use Rattle.std.proofs.lemmas.Slice.Eq.{bytes_eq-Decides}
use Rattle.fjall_base.specs.Pairs.{byte_order}
use Rattle.fjall_table.specs.Blocks.{Entry}
use Rattle.fjall_table.specs.Tables.{versions_at}
use Rattle.fjall_memtable.specs.declared.place.Place.{Place}
use Rattle.fjall_memtable.specs.Stamps.{Stamp, stamp_cmp}
use Rattle.fjall_memtable.specs.Places.{key_at, value_at, entry_at_place, IsPlaced}
use Rattle.fjall_memtable.proofs.Fronts.{less, greater, same}
use Rattle.fjall_memtable.proofs.Texts.{all_filter}

-- ---- filters

pub filter_of_map : {A B : Type 0} (p : B → Bool) (f : A → B) (xs : List A) → filter p (map f xs) ≡ map f (filter (λ x. p (f x)) xs)
filter_of_map p f [] = refl
filter_of_map p f (x ∷ xs) = elim (cases_Bool (p (f x))) [ inl t ↦ rw (t, filter_of_map p f xs) refl | inr n ↦ rw (n, filter_of_map p f xs) refl ]

first_of_map : {A B : Type 0} (f : A → B) (xs : List A) → slice_get (map f xs) 0 ≡ option_map f (slice_get xs 0)
first_of_map f [] = refl
first_of_map f (x ∷ xs) = refl

nothing_passes : {A : Type 0} (p : A → Bool) (xs : List A) → AllByRecursion (λ x. p x ≡ false) xs → filter p xs ≡ []
nothing_passes p [] h = refl
nothing_passes p (x ∷ xs) h = rw h.0 (nothing_passes p xs h.1)

keys_of_filter : (p : Stamp → Bool) (es : List (Stamp × Place)) → keys_of (filter (λ e. p e.0) es) ≡ filter p (keys_of es)
keys_of_filter p [] = refl
keys_of_filter p (x ∷ xs) = elim (cases_Bool (p x.0)) [ inl t ↦ rw t (ap (λ (ks : List Stamp). x.0 ∷ ks) (keys_of_filter p xs)) | inr n ↦ rw n (keys_of_filter p xs) ]

pub sorted_filter : (p : Stamp → Bool) (es : List (Stamp × Place)) → IsStrictlySortedBy stamp_cmp (keys_of es) → IsStrictlySortedBy stamp_cmp (keys_of (filter (λ e. p e.0) es))
sorted_filter p es s = subst (IsStrictlySortedBy stamp_cmp) (sym (keys_of_filter p es)) (IsStrictlySortedBy-filter stamp_cmp p (keys_of es) s)

-- ---- the newest version of a key below an instant

abbrev pub wanted : List ℕ → ℕ → Stamp × Place → Bool
wanted key instant e = bytes_eq e.0.key key && nat_lt e.0.number instant

-- the first of some, if it is of the key
abbrev pub pick : List ℕ → List (Stamp × Place) → Option (Stamp × Place)
pick key [] = None
pick key (x ∷ xs) = match_ordering (byte_order x.0.key key) None (Some x) None

not_le : (x n : ℕ) → is_le (nat_cmp x n) ≡ false → n < x
not_le x n e = elim (cases_lt n x) [ inl l ↦ l | inr g ↦ absurd (never x n g e) ]
  where
    never : (x n : ℕ) → x ≤ n → is_le (nat_cmp x n) ≡ false → ⊥
    never x n g e = elim (cases_lt x n) [ inl l ↦ absurd (cc (sym e ∙ ap is_le (less x n l))) | inr h ↦ absurd (cc (sym e ∙ ap is_le (subst (λ (m : ℕ). nat_cmp x m ≡ Equal) (level x n g h) (same x)))) ]
      where
        level : (x n : ℕ) → x ≤ n → n ≤ x → x ≡ n
        level x n g h = omega (arith, g, h)

is_le_only : (x n : ℕ) → is_le (nat_cmp x n) ≡ true → x ≤ n
is_le_only x n e = elim (cases_lt n x) [ inl l ↦ absurd (cc (sym e ∙ ap is_le (greater x n l))) | inr g ↦ g ]

order_at : (s x : Stamp) → x.key ≡ s.key → stamp_cmp s x ≡ nat_cmp x.number s.number
order_at s x e = ap (λ (k : List ℕ). ordering_then (byte_order s.key k) (nat_cmp x.number s.number)) e ∙ ap (λ (o : Ordering). ordering_then o (nat_cmp x.number s.number)) (tied_itself nat_list_cmp_total s.key)

-- what stands ahead of the stamp isn't wanted
ahead_miss : (s : Stamp) (x : Stamp × Place) → is_le (stamp_cmp s x.0) ≡ false → wanted s.key (s.number + 1) x ≡ false
ahead_miss s x e =
    elim (cases_Bool (bytes_eq x.0.key s.key)) [
      | inl t ↦
          let k = (bytes_eq-Decides x.0.key s.key).0 t in
          let n = not_le x.0.number s.number (sym (ap is_le (order_at s x.0 k)) ∙ e) in
          rw t (le-ltb x.0.number (s.number + 1) (omega (arith, n)))
      | inr f ↦ rw f refl
    ]

other_key : (a key : List ℕ) → byte_order a key ≡ Greater → bytes_eq a key ≡ false
other_key a key e =
    elim (cases_Bool (bytes_eq a key)) [
      | inl t ↦ absurd (cc (sym e ∙ ap (λ (k : List ℕ). byte_order k key) ((bytes_eq-Decides a key).0 t) ∙ tied_itself nat_list_cmp_total key))
      | inr f ↦ f
    ]

other_miss : (key : List ℕ) (n : ℕ) (x : Stamp × Place) → byte_order x.0.key key ≡ Greater → wanted key n x ≡ false
other_miss key n x e = rw (other_key x.0.key key e) refl

flipped : (a b : List ℕ) → byte_order a b ≡ Greater → byte_order b a ≡ Less
flipped a b e = nat_list_cmp_total.antisymm b a ∙ ap ordering_reverse e

flipped_back : (a b : List ℕ) → byte_order a b ≡ Less → byte_order b a ≡ Greater
flipped_back a b e = nat_list_cmp_total.antisymm b a ∙ ap ordering_reverse e

-- behind a greater key stand greater ones
later : (o : Ordering) (key a b : List ℕ) (r : Ordering) → byte_order a b ≡ o → ordering_then o r ≡ Less → byte_order a key ≡ Greater → byte_order b key ≡ Greater
later Less key a b r is e g = flipped_back key b (nat_list_cmp_total.trans key a b (flipped a key g) is)
later Equal key a b r is e g = ap (λ (k : List ℕ). byte_order k key) (sym (exact_bytes a b is)) ∙ g
later Greater key a b r is e g = absurd cc

all_later : (key : List ℕ) (n : ℕ) (x : Stamp) (es : List (Stamp × Place)) → byte_order x.key key ≡ Greater → AllByRecursion (λ y. stamp_cmp x y ≡ Less) (keys_of es) → AllByRecursion (λ e. wanted key n e ≡ false) es
all_later key n x [] g h = tt
all_later key n x (y ∷ es) g h = (other_miss key n y (later (byte_order x.key y.0.key) key x.key y.0.key (nat_cmp y.0.number x.number) refl h.0 g), all_later key n x es g h.1)

-- the first entry from a stamp on
at_first : (s : Stamp) (x : Stamp × Place) (es : List (Stamp × Place)) (o : Ordering) → byte_order x.0.key s.key ≡ o → is_le (stamp_cmp s x.0) ≡ true → AllByRecursion (λ y. stamp_cmp x.0 y ≡ Less) (keys_of es)
    → slice_get (filter (wanted s.key (s.number + 1)) (x ∷ es)) 0 ≡ match_ordering o None (Some x) None
at_first s x es Less is e h = absurd (cc (sym e ∙ ap (λ (o : Ordering). is_le (ordering_then o (nat_cmp x.0.number s.number))) (flipped_back x.0.key s.key is)))
at_first s x es Equal is e h =
    let k = exact_bytes x.0.key s.key is in
    let n = is_le_only x.0.number s.number (sym (ap is_le (order_at s x.0 k)) ∙ e) in
    let l = lt-ltb x.0.number (s.number + 1) (omega (arith, n)) in
    rw ((bytes_eq-Decides x.0.key s.key).1 k, l) refl
at_first s x es Greater is e h = rw (nothing_passes (wanted s.key (s.number + 1)) (x ∷ es) (other_miss s.key (s.number + 1) x is, all_later s.key (s.number + 1) x.0 es is h)) refl

find_is : (s : Stamp) (es : List (Stamp × Place)) → IsStrictlySortedBy stamp_cmp (keys_of es)
    → slice_get (filter (wanted s.key (s.number + 1)) es) 0 ≡ pick s.key (filter (λ e. range_contains stamp_cmp (Included s) Unbounded e.0) es)
find_is s [] sorted = refl
find_is s (x ∷ xs) sorted =
    let more = find_is s xs (sorted_tail stamp_cmp x.0 (keys_of xs) sorted) in
    elim (cases_Bool (is_le (stamp_cmp s x.0))) [
      | inl t ↦ rw t (at_first s x xs (byte_order x.0.key s.key) refl t (sorted_head stamp_cmp x.0 (keys_of xs) sorted))
      | inr f ↦ let miss = ahead_miss s x f in rw (f, miss) more
    ]

pub newest_is : (t : List ℕ) (s : Stamp) (es part : List (Stamp × Place)) → IsStrictlySortedBy stamp_cmp (keys_of es) → part ≡ filter (λ e. range_contains stamp_cmp (Included s) Unbounded e.0) es
    → slice_get (versions_at s.key (s.number + 1) (map (entry_at_place t) es)) 0 ≡ option_map (entry_at_place t) (pick s.key part)
newest_is t s es part sorted is =
    ap (λ (xs : List Entry). slice_get xs 0) (filter_of_map (λ e. bytes_eq e.key s.key && nat_lt e.number (s.number + 1)) (entry_at_place t) es)
    ∙ first_of_map (entry_at_place t) (filter (wanted s.key (s.number + 1)) es)
    ∙ ap (option_map (entry_at_place t)) (find_is s es sorted ∙ ap (pick s.key) (sym is))

pub none_at_zero : (key : List ℕ) (es : List Entry) → versions_at key 0 es ≡ []
none_at_zero key [] = refl
none_at_zero key (e ∷ es) = rw (miss e) (none_at_zero key es)
  where
    miss : (e : Entry) → (bytes_eq e.key key && nat_lt e.number 0) ≡ false
    miss e = elim (cases_Bool (bytes_eq e.key key)) [ inl t ↦ rw t (le-ltb e.number 0 (omega arith)) | inr f ↦ rw f refl ]

-- ---- the last one

pub all_but_last : {A : Type 0} (P : A → Type 0) (xs : List A) (y : A) → AllByRecursion P (xs ++ y ∷ []) → AllByRecursion P xs
all_but_last P [] y h = tt
all_but_last P (x ∷ xs) y h = (h.0, all_but_last P xs y h.1)

pub the_last : {A : Type 0} (P : A → Type 0) (xs : List A) (y : A) → AllByRecursion P (xs ++ y ∷ []) → P y
the_last P [] y h = h.0
the_last P (x ∷ xs) y h = the_last P xs y h.1

-- ---- what a look-up finds

abbrev pub from_stamp : Stamp → List (Stamp × Place) → List (Stamp × Place)
from_stamp s es = filter (λ e. range_contains stamp_cmp (Included s) Unbounded e.0) es

picked : (t : List ℕ) (x : Stamp × Place) (o : Ordering) → option_map (entry_at_place t) (match_ordering o None (Some x) None) ≡ match_ordering o None (Some (entry_at_place t x)) None
picked t x Less = refl
picked t x Equal = refl
picked t x Greater = refl

newest_first : (t : List ℕ) (s : Stamp) (es part : List (Stamp × Place)) (x : Stamp × Place) (rest : List (Stamp × Place)) (o : Ordering) → IsStrictlySortedBy stamp_cmp (keys_of es) → part ≡ from_stamp s es → part ≡ x ∷ rest → o ≡ byte_order x.0.key s.key
    → slice_get (versions_at s.key (s.number + 1) (map (entry_at_place t) es)) 0 ≡ match_ordering o None (Some (entry_at_place t x)) None
newest_first t s es part x rest o sorted is first order =
    newest_is t s es part sorted is
    ∙ ap (λ (p : List (Stamp × Place)). option_map (entry_at_place t) (pick s.key p)) first
    ∙ ap (λ (o : Ordering). option_map (entry_at_place t) (match_ordering o None (Some x) None)) (sym order)
    ∙ picked t x o

pub newest_some : (t : List ℕ) (s : Stamp) (es part : List (Stamp × Place)) (x : Stamp × Place) (rest : List (Stamp × Place)) (o : Ordering) → IsStrictlySortedBy stamp_cmp (keys_of es) → part ≡ from_stamp s es → part ≡ x ∷ rest → o ≡ byte_order x.0.key s.key → o ≡ Equal
    → slice_get (versions_at s.key (s.number + 1) (map (entry_at_place t) es)) 0 ≡ Some (entry_at_place t x)
newest_some t s es part x rest o sorted is first order equal = newest_first t s es part x rest o sorted is first order ∙ ap (λ (o : Ordering). match_ordering o None (Some (entry_at_place t x)) None) equal

unpicked : (t : List ℕ) (x : Stamp × Place) (o : Ordering) → (o ≡ Equal → ⊥) → match_ordering o None (Some (entry_at_place t x)) None ≡ None
unpicked t x Less h = refl
unpicked t x Equal h = absurd (h refl)
unpicked t x Greater h = refl

pub newest_other : (t : List ℕ) (s : Stamp) (es part : List (Stamp × Place)) (x : Stamp × Place) (rest : List (Stamp × Place)) (o : Ordering) → IsStrictlySortedBy stamp_cmp (keys_of es) → part ≡ from_stamp s es → part ≡ x ∷ rest → o ≡ byte_order x.0.key s.key → (o ≡ Equal → ⊥)
    → slice_get (versions_at s.key (s.number + 1) (map (entry_at_place t) es)) 0 ≡ None
newest_other t s es part x rest o sorted is first order other = newest_first t s es part x rest o sorted is first order ∙ unpicked t x o other

pub newest_none : (t : List ℕ) (s : Stamp) (es part : List (Stamp × Place)) → IsStrictlySortedBy stamp_cmp (keys_of es) → part ≡ from_stamp s es → part ≡ [] → slice_get (versions_at s.key (s.number + 1) (map (entry_at_place t) es)) 0 ≡ None
newest_none t s es part sorted is over = newest_is t s es part sorted is ∙ ap (λ (p : List (Stamp × Place)). option_map (entry_at_place t) (pick s.key p)) over

pub first_placed : (t : List ℕ) (s : Stamp) (es part : List (Stamp × Place)) (x : Stamp × Place) (rest : List (Stamp × Place)) → AllByRecursion (IsPlaced t) es → part ≡ from_stamp s es → part ≡ x ∷ rest → IsPlaced t x
first_placed t s es part x rest all is first =
    let h : AllByRecursion (IsPlaced t) (x ∷ rest) = subst (AllByRecursion (IsPlaced t)) (sym is ∙ first) (all_filter (IsPlaced t) (λ e. range_contains stamp_cmp (Included s) Unbounded e.0) es all) in
    h.0

-- a version that was read at its place
pub read_is : (t : List ℕ) (x : Stamp × Place) (key : List ℕ) (number : ℕ) (value : Option (List ℕ)) → IsPlaced t x → key ≡ key_at t x.1 → number ≡ x.0.number → value ≡ value_at t x.1
    → record { key = key; number = number; value = value } ≡ entry_at_place t x
read_is t x key number value h k n v = λ i. record { key = (k ∙ h.key) i; number = n i; value = v i }

-- ---- parts

pub everything : {A : Type 0} (xs : List A) → filter (λ x. true) xs ≡ xs
everything [] = refl
everything (x ∷ xs) = ap (λ (ys : List _). x ∷ ys) (everything xs)

pub map_back : {A B : Type 0} (f : A → B) (xs : List A) (y : A) → map f (xs ++ y ∷ []) ≡ map f xs ++ f y ∷ []
map_back f [] y = refl
map_back f (x ∷ xs) y = ap (λ (ys : List _). f x ∷ ys) (map_back f xs y)
