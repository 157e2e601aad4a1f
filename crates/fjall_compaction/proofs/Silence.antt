-- Where all that batches have of a keyspace is persisted, they make nothing of it beyond its persisted number.
use Rattle.std.proofs.Common.{◌≡◌, ◌≢◌, ℕ, ◌==◌, ◌&&◌, ◌||◌, Bool, true, false, cond, List, [], ◌∷◌, ◌++◌, All, map, filter, Option, Some, None, refl, sym, ◌∙◌, ap, subst, arith}
use Rattle.std.specs.List.{list_any}
use Rattle.std.proofs.lemmas.Bool.{le-ltb, ltb-false, ltb-true, true≢false}
use Rattle.std.proofs.lemmas.Bool.Decides.{nat_tests}
use Rattle.std.proofs.lemmas.List.Elements.{All-append, All-cons, All-head, All-map, All-nil, All-tail, All-weaker}
use Rattle.fjall_base.specs.Store.{Clear}
use Rattle.fjall_meta.specs.Contents.{Stored, commands_beyond, counts_beyond, is_beyond, journal_beyond}
use Rattle.fjall_journal.specs.Batches.{Shown}
use Rattle.fjall_journal.specs.declared.batch.ReadBatchItem.{ReadBatchItem}
use Rattle.fjall_meta.specs.Keyspaces.{Keyspaces}
use Rattle.fjall_table.specs.Blocks.{Entry}
use Rattle.fjall_meta.specs.Replays.{counts, item_of, writing}
use Rattle.fjall_meta.specs.Views.{clear_in, clears_of, entries_in, entry_of, versions_of}
use Rattle.fjall_memtable.proofs.Tests.{all_of, filters_agree}
use Rattle.fjall_compaction.proofs.FlushSameStore.{none_passes}
use Rattle.fjall_compaction.specs.Commands.{ArePersisted, HasNothingOf}

pub unequal : (a b : ℕ) → a ≢ b → (a == b) ≡ false
unequal a b differ = grind (arith, nat_tests)

pub turned : (a b : ℕ) → (a == b) ≡ false → (b == a) ≡ false
turned a b differ = grind (arith, nat_tests)

pub itself : (a : ℕ) → (a == a) ≡ true
itself a = grind (arith, nat_tests)

-- what is at most a persisted number isn't beyond a greater one
pub within_greater : (p : Option ℕ) (number n : ℕ) → is_beyond p number ≡ true → is_beyond p n ≡ false → is_beyond (Some number) n ≡ false
within_greater None number n beyond within = absurd (true≢false within)
within_greater (Some m) number n beyond within = le-ltb number n (let lt = ltb-true m number beyond in let le = ltb-false m n within in omega (arith, lt, le))

-- ---- one batch

-- no item is of the keyspace
no_items : (id : ℕ) (items : List ReadBatchItem) → All (λ item. item.keyspace_id ≢ id) items → filter (λ item. item.keyspace_id == id) items ≡ []
no_items id items none =
    none_passes (λ (item : ReadBatchItem). item.keyspace_id == id) items
    (All-weaker (λ (item : ReadBatchItem). item.keyspace_id ≢ id) (λ item. (item.keyspace_id == id) ≡ false) (λ item differ. unequal item.keyspace_id id differ) items none)

-- and no clear
no_clears : (id : ℕ) (ids : List ℕ) → All (λ other. other ≢ id) ids → list_any (λ k. k == id) ids ≡ false
no_clears id [] none = refl
no_clears id (k ∷ ids) none =
    let here = unequal k id (All-head (λ (other : ℕ). other ≢ id) k ids none) in
    let rest = no_clears id ids (All-tail (λ (other : ℕ). other ≢ id) k ids none) in
    λ i. here i || rest i

module _ (s : Keyspaces) (p : Option ℕ) (id : ℕ) where
  entries_within : (b : Shown) → (is_beyond p b.number ≡ true → HasNothingOf id b) → All (λ v. is_beyond p v.number ≡ false) (entries_in s id b)
  entries_within b none = by (is_beyond p b.number) refl (counts s b.number id)
    where
      by : (beyond : Bool) → is_beyond p b.number ≡ beyond → (c : Bool)
          → All (λ v. is_beyond p v.number ≡ false) (cond c (map (entry_of b.number) (filter (λ item. item.keyspace_id == id) b.items)) [])
      by beyond is false = All-nil (λ (v : Entry). is_beyond p v.number ≡ false)
      by false is true =
          let own = filter (λ (item : ReadBatchItem). item.keyspace_id == id) b.items in
          All-map (λ (v : Entry). is_beyond p v.number ≡ false) (entry_of b.number) own (all_of (λ (item : ReadBatchItem). is_beyond p b.number ≡ false) own (λ item. is))
      by true is true =
          subst (λ (l : List ReadBatchItem). All (λ (v : Entry). is_beyond p v.number ≡ false) (map (entry_of b.number) l)) (sym (no_items id b.items (none is).0))
          (All-nil (λ (v : Entry). is_beyond p v.number ≡ false))

  clear_within : (b : Shown) → (is_beyond p b.number ≡ true → HasNothingOf id b) → All (λ n. is_beyond p n ≡ false) (clear_in s id b)
  clear_within b none = by (is_beyond p b.number) refl (counts s b.number id) (list_any (λ k. k == id) b.clears) refl
    where
      by : (beyond : Bool) → is_beyond p b.number ≡ beyond → (c some : Bool) → list_any (λ k. k == id) b.clears ≡ some → All (λ n. is_beyond p n ≡ false) (cond (c && some) (b.number ∷ []) [])
      by beyond is false some any = All-nil (λ n. is_beyond p n ≡ false)
      by beyond is true false any = All-nil (λ n. is_beyond p n ≡ false)
      by false is true true any = All-cons (λ n. is_beyond p n ≡ false) b.number [] is (All-nil (λ n. is_beyond p n ≡ false))
      by true is true true any = absurd (true≢false (sym any ∙ no_clears id b.clears (none is).1))

  -- ---- all batches

  pub versions_within : (batches : List Shown) → ArePersisted p id batches → All (λ v. is_beyond p v.number ≡ false) (versions_of s id batches)
  versions_within [] are = All-nil (λ (v : Entry). is_beyond p v.number ≡ false)
  versions_within (b ∷ batches) are =
      let P = λ (c : Shown). is_beyond p c.number ≡ true → HasNothingOf id c in
      All-append (λ (v : Entry). is_beyond p v.number ≡ false) (entries_in s id b) (versions_of s id batches) (entries_within b (All-head P b batches are)) (versions_within batches
      (All-tail P b batches are))

  pub clears_within : (batches : List Shown) → ArePersisted p id batches → All (λ n. is_beyond p n ≡ false) (clears_of s id batches)
  clears_within [] are = All-nil (λ n. is_beyond p n ≡ false)
  clears_within (b ∷ batches) are =
      let P = λ (c : Shown). is_beyond p c.number ≡ true → HasNothingOf id c in
      All-append (λ n. is_beyond p n ≡ false) (clear_in s id b) (clears_of s id batches) (clear_within b (All-head P b batches are)) (clears_within batches (All-tail P b batches are))

-- nothing of it is beyond the persisted number
module _ (s : Keyspaces) (p : Option ℕ) (id : ℕ) (batches : List Shown) (are : ArePersisted p id batches) where
  pub no_versions : filter (λ v. is_beyond p v.number) (versions_of s id batches) ≡ []
  no_versions = none_passes (λ (v : Entry). is_beyond p v.number) (versions_of s id batches) (versions_within s p id batches are)

  pub no_clears_left : filter (is_beyond p) (clears_of s id batches) ≡ []
  no_clears_left = none_passes (is_beyond p) (clears_of s id batches) (clears_within s p id batches are)

-- ---- commands

-- Two accounts of what is stored, alike but for one keyspace, whose persisted number is greater in the second.
module _ (s : Keyspaces) (old new : ℕ → Stored) (p : Option ℕ) (id number : ℕ) (was : (old id).persisted ≡ p) (is : (new id).persisted ≡ Some number) (beyond : is_beyond p number ≡ true)
    (others : (other : ℕ) → (other == id) ≡ false → (new other).persisted ≡ (old other).persisted) where
  counts_other : (n other : ℕ) → (other == id) ≡ false → counts_beyond s new n other ≡ counts_beyond s old n other
  counts_other n other differ = ap (λ (q : Option ℕ). counts s n other && is_beyond q n) (others other differ)

  counts_within : (n other : ℕ) → is_beyond p n ≡ false → counts_beyond s new n other ≡ counts_beyond s old n other
  counts_within n other within = by (other == id) refl
    where
      by : (b : Bool) → (other == id) ≡ b → counts_beyond s new n other ≡ counts_beyond s old n other
      by true same =
          let e : id ≡ other = grind (arith, nat_tests) in
          subst (λ i. counts_beyond s new n i ≡ counts_beyond s old n i) e
          (ap (λ (q : Option ℕ). counts s n id && is_beyond q n) is ∙ ap (λ b. counts s n id && b) (within_greater p number n beyond within ∙ sym within)
          ∙ ap (λ (q : Option ℕ). counts s n id && is_beyond q n) (sym was))
      by false differ = counts_other n other differ

  same_commands : (b : Shown) → (is_beyond p b.number ≡ true → HasNothingOf id b) → commands_beyond s new b ≡ commands_beyond s old b
  same_commands b none = by (is_beyond p b.number) refl
    where
      both : All (λ other. counts_beyond s new b.number other ≡ counts_beyond s old b.number other) b.clears
          → All (λ item. counts_beyond s new b.number item.keyspace_id ≡ counts_beyond s old b.number item.keyspace_id) b.items → commands_beyond s new b ≡ commands_beyond s old b
      both clears items =
          let one = filters_agree (counts_beyond s new b.number) (counts_beyond s old b.number) b.clears clears in
          let two = filters_agree (λ (item : ReadBatchItem). counts_beyond s new b.number item.keyspace_id) (λ item. counts_beyond s old b.number item.keyspace_id) b.items items in
          λ i. map Clear (one i) ++ writing (map item_of (two i))

      by : (beyond : Bool) → is_beyond p b.number ≡ beyond → commands_beyond s new b ≡ commands_beyond s old b
      by false within =
          both (all_of (λ (other : ℕ). counts_beyond s new b.number other ≡ counts_beyond s old b.number other) b.clears (λ other. counts_within b.number other within))
          (all_of (λ (item : ReadBatchItem). counts_beyond s new b.number item.keyspace_id ≡ counts_beyond s old b.number item.keyspace_id) b.items
          (λ item. counts_within b.number item.keyspace_id within))
      by true is =
          let nothing = none is in
          both
          (All-weaker (λ (other : ℕ). other ≢ id) (λ other. counts_beyond s new b.number other ≡ counts_beyond s old b.number other)
          (λ other apart. counts_other b.number other (unequal other id apart)) b.clears nothing.1)
          (All-weaker (λ (item : ReadBatchItem). item.keyspace_id ≢ id) (λ item. counts_beyond s new b.number item.keyspace_id ≡ counts_beyond s old b.number item.keyspace_id)
          (λ item apart. counts_other b.number item.keyspace_id (unequal item.keyspace_id id apart)) b.items nothing.0)

  pub same_journal : (batches : List Shown) → ArePersisted p id batches → journal_beyond s new batches ≡ journal_beyond s old batches
  same_journal [] are = refl
  same_journal (b ∷ batches) are =
      let P = λ (c : Shown). is_beyond p c.number ≡ true → HasNothingOf id c in
      let here = same_commands b (All-head P b batches are) in
      let rest = same_journal batches (All-tail P b batches are) in
      λ i. here i ++ rest i
