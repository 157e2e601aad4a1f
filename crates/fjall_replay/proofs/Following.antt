-- A change that comes next is one batch more.
use Rattle.std.proofs.Common.{◌≡◌, ℕ, ◌<◌, ◌≤◌, ◌^◌, ◌==◌, ◌&&◌, ◌||◌, Bool, true, false, cond, nat_lt, lt-ltb, unwrap_or, List, [], ◌∷◌, ◌++◌, filter, get_or, map, All, Option, None, Some, refl, sym, ◌∙◌, ap, subst, arith}
use Rattle.std.specs.List.{list_any}
use Rattle.std.specs.Option.{is_some, option_map}
use Rattle.std.proofs.lemmas.Bool.{eqb-false, eqb-true, true≢false}
use Rattle.std.proofs.lemmas.List.Elements.{All-cons, All-head, All-nil, All-tail, All-weaker}
use Rattle.fjall_base.specs.Pairs.{Bytes}
use Rattle.fjall_journal.specs.declared.batch.ReadBatchItem.{ReadBatchItem}
use Rattle.fjall_journal.specs.declared.op.Op.{Op}
use Rattle.fjall_journal.specs.declared.op.Op.TheVariants.{Put, Remove, RemoveWeak}
use Rattle.fjall_journal.specs.Batches.{Shown, clears_of, items_of, shown}
use Rattle.fjall_journal.specs.Changes.{Emptied, Items, of_change}
use Rattle.fjall_journal.specs.Ops.{BatchItem, bytes_in, items_refusal, kind_of, value_in}
use Rattle.fjall_journal.specs.Ops as ops
use Rattle.fjall_meta.specs.declared.living.LivingKeyspace.{LivingKeyspace}
use Rattle.fjall_meta.specs.Keyspaces.{Keyspaces, keyspace_at}
use Rattle.fjall_table.specs.Blocks.{Entry, IsEntry}
use Rattle.fjall_meta.specs.Replays.{counts, value_of}
use Rattle.fjall_meta.specs.Views.{entry_of}
use Rattle.fjall_meta.proofs.Found.{found_has}
use Rattle.fjall_meta.proofs.Ids.{each_lives}
use Rattle.fjall_meta.specs.Contents.{Stored, clears_held, is_beyond, versions_held}
use Rattle.fjall_tree.specs.Puts.{emptied_once, put_all}
use Rattle.fjall_tree.specs.Trees.{Shape, emptied}
use Rattle.fjall_trees.specs.Forests.{Forest, IsTree, altered_at, tree_at}
use Rattle.fjall_trees.specs.Writes.{pushed, versions_of_items}
use Rattle.fjall_trees.specs.Writes as writes
use Rattle.fjall_trees.proofs.Others.{altered_here, altered_other}
use Rattle.fjall_trees.proofs.Places.{tree_has}
use Rattle.fjall_trees.proofs.Pushing.{Fits, each_fits}
use Rattle.fjall_trees.proofs.Pushed.{pushed_at}
use Rattle.fjall_replay.specs.Beside.{AreReplayedWith, MayComeNext, ShowsWith}
use Rattle.fjall_replay.specs.Replayed.{MayReplay}
use Rattle.fjall_replay.proofs.Behind.{batch_beside}
use Rattle.fjall_replay.proofs.Stepping.{emptied_new, last_held, stepped}

-- ---- any batch

-- what it says of a keyspace that lives counts
counts_next : (s : Keyspaces) (n : ℕ) → All (λ k. k.number < n) s.living → All (λ k. counts s n k.id ≡ true) s.living
counts_next s n made =
    All-weaker (λ (k : LivingKeyspace). is_some (keyspace_at k.id s.living) ≡ true) (λ (k : LivingKeyspace). counts s n k.id ≡ true) (λ k lives. by k.id (keyspace_at k.id s.living) refl lives) s.living
    (each_lives s.living)
  where
    by : (id : ℕ) (found : Option LivingKeyspace) → keyspace_at id s.living ≡ found → is_some found ≡ true → counts s n id ≡ true
    by id None e lives = absurd (true≢false (sym lives))
    by id (Some k) e lives =
        let lesser : k.number < n = found_has (λ (j : LivingKeyspace). j.id == id) (λ (j : LivingKeyspace). j.number < n) s.living k e made in
        ap (λ found. unwrap_or (option_map (λ (j : LivingKeyspace). nat_lt j.number n) found) false) e ∙ lt-ltb k.number n lesser

-- the trees that took it show what all batches with it make
batch_more : (entries : ℕ → List (List Entry)) (s : Keyspaces) (stored : ℕ → Stored) (batches : List Shown) (b : Shown) (trees new : Forest) → MayComeNext s stored batches b.number trees → MayReplay b
    → ((id : ℕ) (shape : Shape) → tree_at id trees ≡ Some shape → tree_at id new ≡ Some (stepped true id b shape))
    → AreReplayedWith entries s stored batches trees → AreReplayedWith entries s stored (batches ++ b ∷ []) new
batch_more entries s stored batches b trees new next may made are = λ i d lt.
    let id = (get_or s.living i d).id in
    let h = stored id in
    let one = are i d lt in
    let counted : (counts s b.number id && is_beyond h.persisted b.number) ≡ true = λ j. counts_next s b.number next.made i d lt j && next.beyond i d lt j in (
      stepped true id b one.0,
      made id one.0 one.1,
      subst (λ (c : Bool). ShowsWith (entries id) (clears_held s h id (batches ++ b ∷ [])) (versions_held s h id (batches ++ b ∷ [])) (stepped c id b one.0)) counted
          (batch_beside s h id (entries id) batches b one.0 (next.within i d lt) next.older may (tree_has IsTree trees id one.0 next.forest.each one.1)
          (λ c. tree_has (λ t. t.memory.active.until ≤ b.number) trees id one.0 next.before one.1) one.2),
    )

-- ---- a batch of items

-- an item as a reader of the journal shows it
abbrev item_shown : BatchItem → ReadBatchItem
item_shown item = record { keyspace_id = item.0; key = item.1; value = bytes_in item.2; value_type = kind_of item.2 }

item_entry : (n : ℕ) (item : BatchItem) → entry_of n (item_shown item) ≡ writes.version_of_item n item
item_entry n item = ap (λ (v : Option Bytes). let e : Entry = record { key = item.1; number = n; value = v } in e) (by item.2)
  where
    by : (op : Op) → value_of (kind_of op) (bytes_in op) ≡ value_in op
    by (Put value) = refl
    by Remove = refl
    by RemoveWeak = refl

-- the versions that they make of a keyspace
item_entries : (id n : ℕ) (items : List BatchItem) → map (entry_of n) (filter (λ i. i.keyspace_id == id) (items_of (map ops.entry_of_item items))) ≡ versions_of_items id n items
item_entries id n [] = refl
item_entries id n (item ∷ items) = by (item.0 == id) (item_entries id n items)
  where
    behind : List ReadBatchItem
    behind = filter (λ i. i.keyspace_id == id) (items_of (map ops.entry_of_item items))

    kept : List BatchItem
    kept = filter (λ i. i.0 == id) items

    by : (b : Bool) → map (entry_of n) behind ≡ map (writes.version_of_item n) kept → map (entry_of n) (cond b (item_shown item ∷ behind) behind) ≡ map (writes.version_of_item n) (cond b (item ∷ kept) kept)
    by true rest = λ i. item_entry n item i ∷ rest i
    by false rest = rest

no_clears : (items : List BatchItem) → clears_of (map ops.entry_of_item items) ≡ []
no_clears [] = refl
no_clears (item ∷ items) = no_clears items

items_fit : (n : ℕ) (items : List BatchItem) → n < 2 ^ 63 → All Fits items → All (λ i. IsEntry (entry_of n i)) (items_of (map ops.entry_of_item items))
items_fit n [] small fits = All-nil (λ (i : ReadBatchItem). IsEntry (entry_of n i))
items_fit n (item ∷ items) small fits =
    let here = All-head Fits item items fits in
    All-cons (λ (i : ReadBatchItem). IsEntry (entry_of n i)) (item_shown item) (items_of (map ops.entry_of_item items))
    (subst IsEntry (sym (item_entry n item)) (record { some = here.some; key = here.key; number = omega arith; value = here.value }))
    (items_fit n items small (All-tail Fits item items fits))

pub items_more : (entries : ℕ → List (List Entry)) (s : Keyspaces) (stored : ℕ → Stored) (batches : List Shown) (n : ℕ) (trees : Forest) (items : List BatchItem) → MayComeNext s stored batches n trees
    → items_refusal items ≡ None → AreReplayedWith entries s stored batches trees → AreReplayedWith entries s stored (batches ++ shown (of_change (Items items) n) ∷ []) (pushed n items trees)
items_more entries s stored batches n trees items next fits =
    batch_more entries s stored batches b trees (pushed n items trees) next (record { small = next.small; items = items_fit n items next.small (each_fits items fits) })
    (λ id shape at. pushed_at n items trees id ∙ ap (option_map (put_all (versions_of_items id n items))) at ∙ ap (λ (t : Shape). Some t) (sym (taken id shape)))
  where
    b : Shown
    b = shown (of_change (Items items) n)

    taken : (id : ℕ) (shape : Shape) → stepped true id b shape ≡ put_all (versions_of_items id n items) shape
    taken id shape = λ i. put_all (item_entries id n items i) (cond (any (no_clears items i)) (emptied_once n shape) shape)
      where
        any : List ℕ → Bool
        any ids = list_any (λ k. k == id) ids

-- ---- a batch of one clear

pub clear_more : (entries : ℕ → List (List Entry)) (s : Keyspaces) (stored : ℕ → Stored) (batches : List Shown) (n : ℕ) (trees : Forest) (id : ℕ) → MayComeNext s stored batches n trees
    → AreReplayedWith entries s stored batches trees → AreReplayedWith entries s stored (batches ++ shown (of_change (Emptied id) n) ∷ []) (altered_at id (emptied n) trees)
clear_more entries s stored batches n trees id next =
    batch_more entries s stored batches b trees (altered_at id (emptied n) trees) next (record { small = next.small; items = All-nil (λ (i : ReadBatchItem). IsEntry (entry_of n i)) })
    (λ other shape at. by other shape at (id == other) refl)
  where
    b : Shown
    b = shown (of_change (Emptied id) n)

    -- no clear of its active memtable reaches it
    low : (other : ℕ) (shape : Shape) → tree_at other trees ≡ Some shape → All (λ m. m < n) shape.memory.active.clears
    low other shape at =
        let until : shape.memory.active.until ≤ n = tree_has (λ t. t.memory.active.until ≤ n) trees other shape next.before at in
        All-weaker (λ m. m < shape.memory.active.until) (λ m. m < n) (λ m less. omega arith) shape.memory.active.clears (last_held shape (tree_has IsTree trees other shape next.forest.each at)).high_clears

    by : (other : ℕ) (shape : Shape) → tree_at other trees ≡ Some shape → (is : Bool) → (id == other) ≡ is
        → tree_at other (altered_at id (emptied n) trees) ≡ Some (cond (is || false) (emptied_once n shape) shape)
    by other shape at true e =
        subst (λ (k : ℕ). tree_at other (altered_at k (emptied n) trees) ≡ Some (emptied_once n shape)) (sym (eqb-true id other e))
        (altered_here other (emptied n) trees ∙ ap (option_map (emptied n)) at ∙ ap (λ (t : Shape). Some t) (sym (emptied_new n shape (low other shape at))))
    by other shape at false e = altered_other id other (emptied n) trees (λ same. eqb-false id other e (sym same)) ∙ at
