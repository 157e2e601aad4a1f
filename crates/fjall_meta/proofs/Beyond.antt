-- What batches make beyond a persisted number.
use Rattle.std.proofs.Common.{◌≡◌, ◌↔◌, ℕ, ◌<◌, ◌≤◌, ◌==◌, ◌&&◌, Bool, true, false, cond, List, [], ◌∷◌, ◌++◌, map, filter, All, Option, None, Some, refl, sym, ◌∙◌, ap, subst, append_assoc, arith}
use Rattle.std.proofs.lemmas.Bool.{true≢false}
use Rattle.std.proofs.lemmas.Bool.Decides.{nat_tests}
use Rattle.std.proofs.lemmas.Grind.{flat_map-append}
use Rattle.std.proofs.lemmas.List.Elements.{All-append, All-filter, All-head, All-tail, All-weaker, filter-append}
use Rattle.std.specs.List.{flat_map, list_any}
use Rattle.fjall_journal.specs.declared.batch.ReadBatchItem.{ReadBatchItem}
use Rattle.fjall_journal.specs.Batches.{Shown}
use Rattle.fjall_meta.specs.Keyspaces.{Keyspaces}
use Rattle.fjall_table.specs.Blocks.{Entry}
use Rattle.fjall_meta.specs.Replays.{counts}
use Rattle.fjall_meta.specs.Views.{clear_in, clears_of, entries_in, entry_of, versions_of}
use Rattle.fjall_meta.proofs.Viewing.{clears_numbered, versions_numbered}
use Rattle.fjall_memtable.specs.Jobs.{AreBelow}
use Rattle.fjall_meta.specs.Contents.{IsWithin, Stored, clears_held, is_beyond, versions_held}

-- ---- lists of lists

filter_each : {X Y : Type 0} (p : Y → Bool) (f g : X → List Y) (xs : List X) → ((x : X) → filter p (f x) ≡ g x) → filter p (flat_map f xs) ≡ flat_map g xs
filter_each p f g [] each = refl
filter_each p f g (x ∷ xs) each =
    filter-append p (f x) (flat_map f xs) ∙ (λ i. each x i ++ filter_each p f g xs each i)

none_of_each : {X Y : Type 0} (f : X → List Y) (xs : List X) → All (λ x. f x ≡ []) xs → flat_map f xs ≡ []
none_of_each f [] each = refl
none_of_each f (x ∷ xs) each =
    ap (λ l. l ++ flat_map f xs) (All-head (λ y. f y ≡ []) x xs each) ∙ none_of_each f xs (All-tail (λ y. f y ≡ []) x xs each)

-- ---- one batch

-- the versions and the clears that a batch makes of an id, where what it says of it counts
abbrev pub entries_where : Bool → ℕ → Shown → List Entry
entries_where counted id b = cond counted (map (entry_of b.number) (filter (λ i. i.keyspace_id == id) b.items)) []

abbrev pub clear_where : Bool → ℕ → Shown → List ℕ
clear_where counted id b = cond (counted && list_any (λ k. k == id) b.clears) (b.number ∷ []) []

-- of one number all pass, or none
one_number : (p : ℕ → Bool) (number : ℕ) (items : List ReadBatchItem)
    → filter (λ (v : Entry). p v.number) (map (entry_of number) items) ≡ cond (p number) (map (entry_of number) items) []
one_number p number [] = by (p number)
  where
    by : (b : Bool) → [] ≡ cond b (map (entry_of number) []) []
    by true = refl
    by false = refl
one_number p number (item ∷ items) = by (p number) (one_number p number items)
  where
    left : List Entry
    left = filter (λ (v : Entry). p v.number) (map (entry_of number) items)

    by : (b : Bool) → left ≡ cond b (map (entry_of number) items) []
        → cond b (entry_of number item ∷ left) left ≡ cond b (entry_of number item ∷ map (entry_of number) items) []
    by true rest = ap (λ l. entry_of number item ∷ l) rest
    by false rest = rest

pub entries_beyond : (p : ℕ → Bool) (s : Keyspaces) (id : ℕ) (b : Shown)
    → filter (λ v. p v.number) (entries_in s id b) ≡ entries_where (counts s b.number id && p b.number) id b
entries_beyond p s id b = by (counts s b.number id)
  where
    by : (counted : Bool) → filter (λ v. p v.number) (entries_where counted id b) ≡ entries_where (counted && p b.number) id b
    by true = one_number p b.number (filter (λ i. i.keyspace_id == id) b.items)
    by false = refl

pub clear_beyond : (p : ℕ → Bool) (s : Keyspaces) (id : ℕ) (b : Shown) → filter p (clear_in s id b) ≡ clear_where (counts s b.number id && p b.number) id b
clear_beyond p s id b = by (counts s b.number id) (list_any (λ k. k == id) b.clears)
  where
    one : (passes : Bool) → cond passes (b.number ∷ []) [] ≡ cond (passes && true) (b.number ∷ []) []
    one true = refl
    one false = refl

    none : (passes : Bool) → [] ≡ cond (passes && false) (b.number ∷ []) []
    none true = refl
    none false = refl

    by : (counted is_cleared : Bool) → filter p (cond (counted && is_cleared) (b.number ∷ []) []) ≡ cond ((counted && p b.number) && is_cleared) (b.number ∷ []) []
    by true true = one (p b.number)
    by true false = none (p b.number)
    by false is_cleared = refl

-- ---- batches

pub versions_beyond : (p : ℕ → Bool) (s : Keyspaces) (id : ℕ) (batches : List Shown)
    → filter (λ v. p v.number) (versions_of s id batches) ≡ flat_map (λ b. entries_where (counts s b.number id && p b.number) id b) batches
versions_beyond p s id batches =
    filter_each (λ v. p v.number) (entries_in s id) (λ b. entries_where (counts s b.number id && p b.number) id b) batches (entries_beyond p s id)

pub clears_beyond : (p : ℕ → Bool) (s : Keyspaces) (id : ℕ) (batches : List Shown)
    → filter p (clears_of s id batches) ≡ flat_map (λ b. clear_where (counts s b.number id && p b.number) id b) batches
clears_beyond p s id batches =
    filter_each p (clear_in s id) (λ b. clear_where (counts s b.number id && p b.number) id b) batches (clear_beyond p s id)

-- where none of them counts, nothing
pub no_versions : (p : ℕ → Bool) (s : Keyspaces) (id : ℕ) (batches : List Shown) → All (λ b. (counts s b.number id && p b.number) ≡ false) batches
    → filter (λ v. p v.number) (versions_of s id batches) ≡ []
no_versions p s id batches none =
    versions_beyond p s id batches
    ∙ none_of_each (λ b. entries_where (counts s b.number id && p b.number) id b) batches
    (All-weaker (λ b. (counts s b.number id && p b.number) ≡ false) (λ b. entries_where (counts s b.number id && p b.number) id b ≡ [])
    (λ b e. ap (λ c. entries_where c id b) e) batches none)

pub no_clears : (p : ℕ → Bool) (s : Keyspaces) (id : ℕ) (batches : List Shown) → All (λ b. (counts s b.number id && p b.number) ≡ false) batches
    → filter p (clears_of s id batches) ≡ []
no_clears p s id batches none =
    clears_beyond p s id batches
    ∙ none_of_each (λ b. clear_where (counts s b.number id && p b.number) id b) batches
    (All-weaker (λ b. (counts s b.number id && p b.number) ≡ false) (λ b. clear_where (counts s b.number id && p b.number) id b ≡ [])
    (λ b e. ap (λ c. clear_where c id b) e) batches none)

-- ---- what is held, batches behind others

pub versions_more : (s : Keyspaces) (h : Stored) (id : ℕ) (front behind : List Shown)
    → versions_held s h id (front ++ behind) ≡ versions_held s h id front ++ filter (λ v. is_beyond h.persisted v.number) (versions_of s id behind)
versions_more s h id front behind =
    let p = λ (v : Entry). is_beyond h.persisted v.number in
    ap (λ l. h.versions ++ l) (ap (filter p) (flat_map-append (entries_in s id) front behind) ∙ filter-append p (versions_of s id front) (versions_of s id behind))
    ∙ sym (append_assoc h.versions (filter p (versions_of s id front)) (filter p (versions_of s id behind)))

pub clears_more : (s : Keyspaces) (h : Stored) (id : ℕ) (front behind : List Shown)
    → clears_held s h id (front ++ behind) ≡ clears_held s h id front ++ filter (is_beyond h.persisted) (clears_of s id behind)
clears_more s h id front behind =
    let p = is_beyond h.persisted in
    ap (λ l. h.clears ++ l) (ap (filter p) (flat_map-append (clear_in s id) front behind) ∙ filter-append p (clears_of s id front) (clears_of s id behind))
    ∙ sym (append_assoc h.clears (filter p (clears_of s id front)) (filter p (clears_of s id behind)))

-- ---- numbers

-- a number beyond is greater than each that isn't
pub beyond_is_later : (persisted : Option ℕ) (m n : ℕ) → is_beyond persisted m ≡ false → is_beyond persisted n ≡ true → m < n
beyond_is_later None m n within beyond = absurd (true≢false within)
beyond_is_later (Some x) m n within beyond = grind (arith, nat_tests)

pub up_to_is_within : (persisted n : ℕ) → (is_beyond (Some persisted) n ≡ false) ↔ (n ≤ persisted)
up_to_is_within persisted n = (λ e. grind (arith, nat_tests), λ h. grind (arith, nat_tests))

-- where nothing is persisted nothing is within
pub none_within : {X : Type 0} (number : X → ℕ) (xs : List X) → All (λ x. is_beyond None (number x) ≡ false) xs → xs ≡ []
none_within number [] each = refl
none_within number (x ∷ xs) each = absurd (true≢false (All-head (λ y. is_beyond None (number y) ≡ false) x xs each))

pub stored_up_to : (h : Stored) (persisted : ℕ) → h.persisted ≡ Some persisted
    → IsWithin h ↔ (All (λ v. v.number ≤ persisted) h.versions × All (λ n. n ≤ persisted) h.clears)
stored_up_to h persisted e = (
  λ within. (
    All-weaker (λ v. is_beyond h.persisted v.number ≡ false) (λ v. v.number ≤ persisted) (λ v f. (at v.number).0 f) h.versions within.0,
    All-weaker (λ n. is_beyond h.persisted n ≡ false) (λ n. n ≤ persisted) (λ n f. (at n).0 f) h.clears within.1,
  ),
  λ low. (
    All-weaker (λ v. v.number ≤ persisted) (λ v. is_beyond h.persisted v.number ≡ false) (λ v f. (at v.number).1 f) h.versions low.0,
    All-weaker (λ n. n ≤ persisted) (λ n. is_beyond h.persisted n ≡ false) (λ n f. (at n).1 f) h.clears low.1,
  ),
)
  where
    at : (n : ℕ) → (is_beyond h.persisted n ≡ false) ↔ (n ≤ persisted)
    at n = subst (λ (p : Option ℕ). (is_beyond p n ≡ false) ↔ (n ≤ persisted)) (sym e) (up_to_is_within persisted n)

pub nothing_stored_yet : (h : Stored) → h.persisted ≡ None → IsWithin h → (h.versions ≡ []) × (h.clears ≡ [])
nothing_stored_yet h e within = (
  none_within (λ (v : Entry). v.number) h.versions (subst (λ (p : Option ℕ). All (λ v. is_beyond p v.number ≡ false) h.versions) e within.0),
  none_within (λ n. n) h.clears (subst (λ (p : Option ℕ). All (λ n. is_beyond p n ≡ false) h.clears) e within.1),
)

-- what is held before a batch that is beyond the persisted number is below it
pub versions_are_below : (s : Keyspaces) (h : Stored) (id : ℕ) (batches : List Shown) (number : ℕ) → IsWithin h → is_beyond h.persisted number ≡ true
    → All (λ b. b.number < number) batches → AreBelow number (versions_held s h id batches)
versions_are_below s h id batches number within beyond before =
    All-append (λ v. v.number < number) h.versions (filter (λ v. is_beyond h.persisted v.number) (versions_of s id batches))
    (All-weaker (λ v. is_beyond h.persisted v.number ≡ false) (λ v. v.number < number) (λ v e. beyond_is_later h.persisted v.number number e beyond) h.versions within.0)
    (All-filter _ (λ v. v.number < number) (versions_of s id batches) (versions_numbered (λ n. n < number) s id batches before))

pub clears_are_below : (s : Keyspaces) (h : Stored) (id : ℕ) (batches : List Shown) (number : ℕ) → IsWithin h → is_beyond h.persisted number ≡ true
    → All (λ b. b.number < number) batches → All (λ n. n < number) (clears_held s h id batches)
clears_are_below s h id batches number within beyond before =
    All-append (λ n. n < number) h.clears (filter (is_beyond h.persisted) (clears_of s id batches))
    (All-weaker (λ n. is_beyond h.persisted n ≡ false) (λ n. n < number) (λ n e. beyond_is_later h.persisted n number e beyond) h.clears within.1)
    (All-filter _ (λ n. n < number) (clears_of s id batches) (clears_numbered (λ n. n < number) s id batches before))
