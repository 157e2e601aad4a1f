-- How many sealed memtables journals leave in a tree.
use Rattle.std.proofs.Common.{◌≡◌, ℕ, ◌+◌, ◌==◌, ◌&&◌, ◌||◌, not, Bool, true, false, cond, List, [], ◌∷◌, ◌++◌, length, map, filter, Some, refl, sym, ◌∙◌, ap, subst, arith}
use Rattle.std.specs.List.{list_any}
use Rattle.std.specs.Option.{option_map}
use Rattle.std.specs.declared.cmp.Ordering.{Ordering}
use Rattle.std.specs.declared.cmp.Ordering.TheVariants.{Less, Equal, Greater}
use Rattle.std.proofs.lemmas.Bool.{true≢false}
use Rattle.std.proofs.lemmas.Bool.Decides.{nat_tests}
use Rattle.std.proofs.lemmas.List.{length-append}
use Rattle.std.proofs.lemmas.List.Folds.{list_any-append}
use Rattle.std.specs.Ordering.{match_ordering}
use Rattle.std.specs.Prelude.{nat_le}
use Rattle.fjall_journal.specs.declared.batch.ReadBatchItem.{ReadBatchItem}
use Rattle.fjall_journal.specs.Batches.{Shown, shown}
use Rattle.fjall_files.specs.Telling.{changed_by, is_among}
use Rattle.fjall_meta.specs.Keyspaces.{Keyspaces}
use Rattle.fjall_table.specs.Blocks.{Entry}
use Rattle.fjall_memtable.specs.Jobs.{is_at}
use Rattle.fjall_memtable.specs.Entries.{inserted, stamp_of}
use Rattle.fjall_memtable.specs.Parts.{HeldPart, holds_nothing}
use Rattle.fjall_memtable.specs.Stamps.{stamp_cmp}
use Rattle.fjall_meta.specs.Views.{entry_of}
use Rattle.fjall_meta.proofs.Beyond.{entries_where}
use Rattle.fjall_tree.specs.Puts.{emptied_once, has_stamp, put, put_all}
use Rattle.fjall_tree.specs.Trees.{Shape, emptied, sealed_off, written}
use Rattle.fjall_trees.specs.Forests.{Forest, tree_at}
use Rattle.fjall_trees.specs.Sealing.{all_sealed, sealed_once}
use Rattle.fjall_trees.proofs.Places.{tree_each}
use Rattle.fjall_recovery.specs.Homes.{Homes}
use Rattle.fjall_recovery.specs.Journals.{WholeJournal}
use Rattle.fjall_replay.specs.Parted.{AreLeftBy, all_unwritten, count_changing, counts_beyond_homes, has_change, unwritten, with_journals}
use Rattle.fjall_replay.specs.Steps.{with_batch, with_batches}
use Rattle.fjall_replay.proofs.Batches.{at_batch}
use Rattle.fjall_replay.proofs.Stepping.{cleared_by, stepped}

-- ---- one tree

-- whether nothing is in its active memtable
abbrev is_idle : Shape → Bool
is_idle shape = holds_nothing shape.memory.active

and_false : (a : Bool) → (a && false) ≡ false
and_false true = refl
and_false false = refl

not_none : {X : Type 0} (x : X) (xs : List X) → (length (x ∷ xs) == 0) ≡ false
not_none x xs = grind (arith, nat_tests)

holds_some : (v : Entry) (versions : List Entry) (clears : List ℕ) → (length (v ∷ versions) == 0 && length clears == 0) ≡ false
holds_some v versions clears = ap (λ b. b && (length clears == 0)) (not_none v versions)

inserted_some : (v : Entry) (vs : List Entry) (clears : List ℕ) → (length (inserted v vs) == 0 && length clears == 0) ≡ false
inserted_some v [] clears = holds_some v [] clears
inserted_some v (x ∷ xs) clears = by (stamp_cmp (stamp_of v) (stamp_of x))
  where
    by : (o : Ordering) → (length (match_ordering o (v ∷ x ∷ xs) (v ∷ xs) (x ∷ inserted v xs)) == 0 && length clears == 0) ≡ false
    by Less = holds_some v (x ∷ xs) clears
    by Equal = holds_some v xs clears
    by Greater = holds_some x (inserted v xs) clears

stamped_some : (v : Entry) (vs : List Entry) (clears : List ℕ) → list_any (is_at v) vs ≡ true → (length vs == 0 && length clears == 0) ≡ false
stamped_some v [] clears has = absurd (true≢false (sym has))
stamped_some v (x ∷ vs) clears has = holds_some x vs clears

put_idle : (v : Entry) (shape : Shape) → is_idle (put v shape) ≡ false
unfolding put
put_idle v shape = by (has_stamp v shape) refl
  where
    by : (b : Bool) → has_stamp v shape ≡ b → is_idle (cond b shape (written v shape)) ≡ false
    by true e = stamped_some v shape.memory.active.versions shape.memory.active.clears e
    by false e = inserted_some v shape.memory.active.versions shape.memory.active.clears

put_sealed : (v : Entry) (shape : Shape) → (put v shape).memory.sealed ≡ shape.memory.sealed
unfolding put
put_sealed v shape = by (has_stamp v shape)
  where
    by : (b : Bool) → (cond b shape (written v shape)).memory.sealed ≡ shape.memory.sealed
    by true = refl
    by false = refl

-- whether there is none of them
abbrev are_none : List Entry → Bool
are_none [] = true
are_none (v ∷ vs) = false

put_all_idle : (vs : List Entry) (shape : Shape) → is_idle (put_all vs shape) ≡ (is_idle shape && are_none vs)
put_all_idle [] shape = by (is_idle shape)
  where
    by : (b : Bool) → b ≡ (b && true)
    by true = refl
    by false = refl
put_all_idle (v ∷ vs) shape = put_idle v (put_all vs shape) ∙ sym (and_false (is_idle shape))

put_all_sealed : (vs : List Entry) (shape : Shape) → (put_all vs shape).memory.sealed ≡ shape.memory.sealed
put_all_sealed [] shape = refl
put_all_sealed (v ∷ vs) shape = put_sealed v (put_all vs shape) ∙ put_all_sealed vs shape

reached_some : (n : ℕ) (clears : List ℕ) → list_any (λ m. nat_le n m) clears ≡ true → (length clears == 0) ≡ false
reached_some n [] has = absurd (true≢false (sym has))
reached_some n (m ∷ clears) has = not_none m clears

pushed_some : (n : ℕ) (clears : List ℕ) → (length (clears ++ n ∷ []) == 0) ≡ false
pushed_some n [] = not_none n []
pushed_some n (m ∷ clears) = not_none m (clears ++ n ∷ [])

emptied_idle : (n : ℕ) (shape : Shape) → is_idle (emptied_once n shape) ≡ false
unfolding emptied_once
emptied_idle n shape = by (list_any (λ m. nat_le n m) clears) refl
  where
    versions : List Entry
    versions = shape.memory.active.versions

    clears : List ℕ
    clears = shape.memory.active.clears

    by : (b : Bool) → list_any (λ m. nat_le n m) clears ≡ b → is_idle (cond b shape (emptied n shape)) ≡ false
    by true e = ap (λ b. (length versions == 0) && b) (reached_some n clears e) ∙ and_false (length versions == 0)
    by false e = ap (λ b. (length versions == 0) && b) (pushed_some n clears) ∙ and_false (length versions == 0)

emptied_sealed : (n : ℕ) (shape : Shape) → (emptied_once n shape).memory.sealed ≡ shape.memory.sealed
unfolding emptied_once
emptied_sealed n shape = by (list_any (λ m. nat_le n m) shape.memory.active.clears)
  where
    by : (b : Bool) → (cond b shape (emptied n shape)).memory.sealed ≡ shape.memory.sealed
    by true = refl
    by false = refl

-- ---- a batch

-- an id among those of some items is that of one that passes
none_named : (n id : ℕ) (items : List ReadBatchItem) → not (list_any (λ k. k == id) (map (λ item. item.keyspace_id) items)) ≡ are_none (map (entry_of n) (filter (λ item. item.keyspace_id == id) items))
none_named n id [] = refl
none_named n id (item ∷ items) = by (item.keyspace_id == id) (none_named n id items)
  where
    rest : List ReadBatchItem
    rest = filter (λ i. i.keyspace_id == id) items

    by : (b : Bool) → not (list_any (λ k. k == id) (map (λ i. i.keyspace_id) items)) ≡ are_none (map (entry_of n) rest)
        → not (b || list_any (λ k. k == id) (map (λ i. i.keyspace_id) items)) ≡ are_none (map (entry_of n) (cond b (item ∷ rest) rest))
    by true more = refl
    by false more = more

stepped_sealed : (counted : Bool) (id : ℕ) (b : Shown) (shape : Shape) → (stepped counted id b shape).memory.sealed ≡ shape.memory.sealed
stepped_sealed counted id b shape = put_all_sealed (entries_where counted id b) (cleared_by counted id b shape) ∙ by (counted && list_any (λ k. k == id) b.clears)
  where
    by : (c : Bool) → (cond c (emptied_once b.number shape) shape).memory.sealed ≡ shape.memory.sealed
    by true = emptied_sealed b.number shape
    by false = refl

stepped_idle : (counted : Bool) (id : ℕ) (b : Shown) (shape : Shape) → is_idle (stepped counted id b shape) ≡ (is_idle shape && not (counted && is_among id (changed_by b)))
stepped_idle false id b shape = by (is_idle shape)
  where
    by : (b : Bool) → b ≡ (b && true)
    by true = refl
    by false = refl
stepped_idle true id b shape =
    put_all_idle (entries_where true id b) (cleared_by true id b shape)
    ∙ ap (λ c. is_idle (cleared_by true id b shape) && c) (sym (none_named b.number id b.items))
    ∙ by (list_any (λ k. k == id) b.clears) (list_any (λ k. k == id) (map (λ item. item.keyspace_id) b.items))
    ∙ ap (λ c. is_idle shape && not c) (sym (list_any-append (λ k. k == id) (map (λ item. item.keyspace_id) b.items) b.clears))
  where
    by : (clears items : Bool) → (is_idle (cond clears (emptied_once b.number shape) shape) && not items) ≡ (is_idle shape && not (items || clears))
    by true true = and_false (is_idle (emptied_once b.number shape)) ∙ sym (and_false (is_idle shape))
    by true false = ap (λ c. c && true) (emptied_idle b.number shape) ∙ sym (and_false (is_idle shape))
    by false true = and_false (is_idle shape) ∙ sym (and_false (is_idle shape))
    by false false = refl

-- ---- the tree of an id

-- The tree of this id has so many sealed memtables, and whether its active one holds nothing.
record HasCount (id : ℕ) (trees : Forest) (count : ℕ) (idle : Bool) : Type 0 where
  shape : Shape
  at : tree_at id trees ≡ Some shape
  count_is : length shape.memory.sealed ≡ count
  idle_is : is_idle shape ≡ idle

module _ (counted : ℕ → ℕ → Bool) (id : ℕ) where
  after_batch : (b : Shown) (trees : Forest) (count : ℕ) (idle : Bool) → HasCount id trees count idle
      → HasCount id (with_batch (counted b.number) b trees) count (idle && not (counted b.number id && is_among id (changed_by b)))
  after_batch b trees count idle has = record {
    shape = stepped (counted b.number id) id b has.shape;
    at = at_batch (counted b.number) b id trees ∙ ap (option_map (stepped (counted b.number id) id b)) has.at;
    count_is = ap (λ (l : List HeldPart). length l) (stepped_sealed (counted b.number id) id b has.shape) ∙ has.count_is;
    idle_is = stepped_idle (counted b.number id) id b has.shape ∙ ap (λ c. c && not (counted b.number id && is_among id (changed_by b))) has.idle_is;
  }

  idle_both : (idle one rest : Bool) → ((idle && not one) && not rest) ≡ (idle && not (one || rest))
  idle_both false one rest = refl
  idle_both true true rest = refl
  idle_both true false rest = refl

  idle_still : (idle : Bool) → idle ≡ (idle && true)
  idle_still true = refl
  idle_still false = refl

  after_batches : (batches : List Shown) (trees : Forest) (count : ℕ) (idle : Bool) → HasCount id trees count idle → HasCount id (with_batches counted batches trees) count (idle && not (has_change counted id batches))
  after_batches [] trees count idle has = subst (HasCount id trees count) (idle_still idle) has
  after_batches (b ∷ batches) trees count idle has =
      subst (HasCount id (with_batches counted batches (with_batch (counted b.number) b trees)) count)
      (idle_both idle (counted b.number id && is_among id (changed_by b)) (has_change counted id batches))
      (after_batches batches (with_batch (counted b.number) b trees) count (idle && not (counted b.number id && is_among id (changed_by b))) (after_batch b trees count idle has))

  -- sealed once, the active memtable is one sealed one more where it held something
  once_count : (shape : Shape) → length (sealed_once shape).memory.sealed ≡ length shape.memory.sealed + (cond (is_idle shape) 0 1)
  unfolding sealed_once
  once_count shape = by (is_idle shape)
    where
      by : (b : Bool) → length (cond b shape (sealed_off shape)).memory.sealed ≡ length shape.memory.sealed + (cond b 0 1)
      by true = omega arith
      by false = length-append shape.memory.sealed (shape.memory.active ∷ [])

  once_idle : (shape : Shape) → is_idle (sealed_once shape) ≡ true
  unfolding sealed_once
  once_idle shape = by (is_idle shape) refl
    where
      by : (b : Bool) → is_idle shape ≡ b → is_idle (cond b shape (sealed_off shape)) ≡ true
      by true e = e
      by false e = refl

  after_sealing : (trees : Forest) (count : ℕ) (idle : Bool) → HasCount id trees count idle → HasCount id (all_sealed trees) (count + (cond idle 0 1)) true
  after_sealing trees count idle has = record {
    shape = sealed_once has.shape;
    at = tree_each (λ n. sealed_once) id trees ∙ ap (option_map sealed_once) has.at;
    count_is = once_count has.shape ∙ (λ i. has.count_is i + (cond (has.idle_is i) 0 1));
    idle_is = once_idle has.shape;
  }

  turned : (b : Bool) → ◌≡◌ {A = ℕ} (cond (not b) 0 1) (cond b 1 0)
  turned true = refl
  turned false = refl

  after_journals : (journals : List WholeJournal) (trees : Forest) (count : ℕ) → HasCount id trees count true
      → (idle : Bool) × HasCount id (with_journals counted journals trees) (count + count_changing counted id journals) idle
  after_journals [] trees count has = (true, subst (λ n. HasCount id trees n true) (let same : count ≡ count + 0 = omega arith in same) has)
  after_journals (j ∷ []) trees count has =
      let batches : List Shown = map shown j.batches in (
        not (has_change counted id batches),
        subst (λ n. HasCount id (with_batches counted batches trees) n (not (has_change counted id batches))) (let same : count ≡ count + 0 = omega arith in same) (after_batches batches trees count true has),
      )
  after_journals (j ∷ k ∷ journals) trees count has =
      let batches : List Shown = map shown j.batches in
      let changes : Bool = has_change counted id batches in
      let mid : Forest = with_batches counted batches trees in
      let one : HasCount id (all_sealed mid) (count + (cond changes 1 0)) true =
      subst (λ n. HasCount id (all_sealed mid) (count + n) true) (turned changes) (after_sealing mid count (not changes) (after_batches batches trees count true has)) in
      let rest = after_journals (k ∷ journals) (all_sealed mid) (count + (cond changes 1 0)) one in
      let more : ℕ = count_changing counted id (k ∷ journals) in
      let sum : (count + (cond changes 1 0)) + more ≡ count + ((cond changes 1 0) + more) = omega arith in
      (rest.0, subst (λ n. HasCount id (with_journals counted (k ∷ journals) (all_sealed mid)) n rest.0) sum rest.1)

-- as many as there are sealed journals that change it
pub one_for_each : (s : Keyspaces) (homes : Homes) (journals : List WholeJournal) (trees : Forest) (id : ℕ) (shape : Shape) → AreLeftBy s homes journals trees → tree_at id trees ≡ Some shape
    → length shape.memory.sealed ≡ count_changing (counts_beyond_homes s homes) id journals
one_for_each s homes journals trees id shape left at =
    let counted = counts_beyond_homes s homes in
    let bare : HasCount id (all_unwritten trees) 0 true = record {
      shape = unwritten shape;
      at = tree_each (λ n. unwritten) id trees ∙ ap (option_map unwritten) at;
      count_is = refl;
      idle_is = refl;
    } in
    let made = after_journals counted id journals (all_unwritten trees) 0 bare in
    let here : Some made.1.shape ≡ Some shape = sym made.1.at ∙ ap (tree_at id) (sym left) ∙ at in
    let same : made.1.shape ≡ shape = cc in
    let count : length made.1.shape.memory.sealed ≡ 0 + count_changing counted id journals = made.1.count_is in
    let sealed : length made.1.shape.memory.sealed ≡ length shape.memory.sealed = ap (λ (t : Shape). length t.memory.sealed) same in
    omega (arith, count, sealed)
