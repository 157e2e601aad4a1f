-- What batches command of a store is what their versions make of it.
use Rattle.std.proofs.Common.{◌≡◌, ℕ, ◌==◌, ◌||◌, ◌&&◌, Bool, true, false, cond, not, List, [], ◌∷◌, ◌++◌, map, filter, Option, Some, refl, sym, ◌∙◌, ap, arith}
use Rattle.std.proofs.lemmas.Bool.{and_parts}
use Rattle.std.proofs.lemmas.Bool.Decides.{nat_tests}
use Rattle.std.proofs.lemmas.List.{map-append, append-nil}
use Rattle.std.proofs.lemmas.Grind.{flat_map-append}
use Rattle.std.proofs.lemmas.Map.Views.{any-filter_same}
use Rattle.std.specs.List.{list_any}
use Rattle.std.specs.FinMap.{empty, get}
use Rattle.fjall_base.specs.Pairs.{Bytes, Pairs}
use Rattle.fjall_base.specs.Store.{Store, Item, Command, Write, Clear, apply, fold}
use Rattle.fjall_journal.specs.declared.entry.ValueType.{ValueType}
use Rattle.fjall_journal.specs.declared.batch.ReadBatchItem.{ReadBatchItem}
use Rattle.fjall_journal.specs.Batches.{Shown, shown, of_item}
use Rattle.fjall_meta.specs.Keyspaces.{Keyspaces}
use Rattle.fjall_meta.specs.Replays.{bare, counts, emptied, item_of, value_of, writing, commands_of, journal_commands, store_in}
use Rattle.fjall_meta.specs.Versions.{Version, command_of, store_of, version_of, versions_in, cleared, versions_after, versions_behind}
use Rattle.fjall_meta.proofs.Slots.{get_put, same_store, fold-append, writes_maps, clears_maps, slot_after, slot_at, slot-filter}
use Rattle.fjall_meta.proofs.LivingContents.{counted_map}

-- ---- clears

turned : (q k : ℕ) → (q == k) ≡ (k == q)
turned q k = grind (arith, nat_tests)

merged : {X : Type 0} (a b : Bool) (x y : X) → cond b x (cond a x y) ≡ cond (a || b) x y
merged true true x y = refl
merged true false x y = refl
merged false true x y = refl
merged false false x y = refl

pub clears_at : (ids : List ℕ) (t : Store) (q : ℕ) → get (fold t (map Clear ids)).maps q ≡ cond (list_any (λ id. id == q) ids) (Some empty) (get t.maps q)
clears_at [] t q = refl
clears_at (id ∷ ids) t q =
    let later = list_any (λ (k : ℕ). k == q) ids in
    clears_at ids (apply t (Clear id)) q ∙ ap (λ slot. cond later (Some empty) slot) (get_put t.maps id empty q ∙ ap (λ b. cond b (Some empty) (get t.maps q)) (turned q id))
    ∙ merged (id == q) later (Some empty) (get t.maps q)

-- an id that is among those that pass a test passes it
pub among : (p : ℕ → Bool) (ids : List ℕ) (q : ℕ) → list_any (λ id. id == q) (filter p ids) ≡ (p q && list_any (λ id. id == q) ids)
among p ids q = any-filter_same (λ id. id == q) p (p q) (λ k e. ap p (grind (arith, nat_tests))) ids

cleared_slot : (b : Bool) (before nothing : Option Pairs) → (b ≡ true → nothing ≡ Some empty) → cond b (Some empty) before ≡ cond (not b) before nothing
cleared_slot true before nothing there = sym (there refl)
cleared_slot false before nothing there = refl

clears_make : (s : Keyspaces) (versions : List Version) (batch : Shown) → fold (store_of s versions) (map Clear (emptied s batch)) ≡ store_of s (cleared s batch versions)
clears_make s versions batch =
    let ids = emptied s batch in
    let left = cleared s batch versions in
    let from = clears_maps ids (store_of s versions) in
    let before = writes_maps versions (bare s) in
    let after = writes_maps left (bare s) in
    same_store (fold (store_of s versions) (map Clear ids)) (store_of s left) (from.0 ∙ before.0 ∙ sym after.0)
    (λ q. clears_at ids (store_of s versions) q ∙ ap (λ slot. cond (list_any (λ id. id == q) ids) (Some empty) slot) (slot_at versions (bare s) q)
    ∙ cleared_slot (list_any (λ id. id == q) ids) (slot_after (get (bare s).maps q) q versions) (get (bare s).maps q) (λ e. counted_map s batch.number q ((and_parts _ _ (sym (among (counts s batch.number) batch.clears q) ∙ e)).0))
    ∙ sym (slot_at left (bare s) q ∙ slot-filter versions (λ id. not (list_any (λ k. k == id) ids)) (get (bare s).maps q) q))
    (from.1 ∙ before.1 ∙ sym after.1) (from.2 ∙ before.2 ∙ sym after.2)

-- ---- items

abbrev write_one : Item → Command
write_one item = Write (item ∷ [])

one_by_one : (items : List Item) (t : Store) → apply t (Write items) ≡ fold t (map write_one items)
one_by_one [] t = refl
one_by_one (item ∷ items) t = one_by_one items (apply t (Write (item ∷ [])))

written_one_by_one : (items : List Item) (t : Store) → fold t (writing items) ≡ fold t (map write_one items)
written_one_by_one [] t = refl
written_one_by_one (item ∷ items) t = one_by_one (item ∷ items) t

write_step : (item : ReadBatchItem) (number : ℕ) (items : List ReadBatchItem) (versions : List Version) (counted : Bool) → map write_one (map item_of items) ≡ map command_of versions
    → map write_one (map item_of (cond counted (item ∷ items) items)) ≡ map command_of (cond counted (version_of number item ∷ versions) versions)
write_step item number items versions true same = ap (λ l. write_one (item_of item) ∷ l) same
write_step item number items versions false same = same

same_writes : (counted : ℕ → Bool) (number : ℕ) (items : List ReadBatchItem)
    → map write_one (map item_of (filter (λ item. counted item.keyspace_id) items)) ≡ map command_of (filter (λ version. counted version.keyspace_id) (map (version_of number) items))
same_writes counted number [] = refl
same_writes counted number (item ∷ items) =
    write_step item number (filter (λ i. counted i.keyspace_id) items) (filter (λ v. counted v.keyspace_id) (map (version_of number) items)) (counted item.keyspace_id) (same_writes counted number items)

-- the items of some ids, as one write and version upon version
pub items_make : (counted : ℕ → Bool) (number : ℕ) (items : List ReadBatchItem) (t : Store)
    → fold t (writing (map item_of (filter (λ item. counted item.keyspace_id) items)))
    ≡ fold t (map command_of (filter (λ version. counted version.keyspace_id) (map (version_of number) items)))
items_make counted number items t =
    written_one_by_one (map item_of (filter (λ item. counted item.keyspace_id) items)) t ∙ ap (fold t) (same_writes counted number items)

-- ---- batches

one_batch : (s : Keyspaces) (versions : List Version) (batch : Shown) → fold (store_of s versions) (commands_of s batch) ≡ store_of s (versions_after s versions batch)
one_batch s versions batch =
    let items = writing (map item_of (filter (λ item. counts s batch.number item.keyspace_id) batch.items)) in
    let left = cleared s batch versions in
    let made = versions_in s batch.number batch.items in
    fold-append (store_of s versions) (map Clear (emptied s batch)) items ∙ ap (λ t. fold t items) (clears_make s versions batch)
    ∙ items_make (counts s batch.number) batch.number batch.items (store_of s left)
    ∙ sym (ap (fold (bare s)) (map-append command_of left made) ∙ fold-append (bare s) (map command_of left) (map command_of made))

-- what batches command of a store of versions is what they make of the versions
pub batches_make : (s : Keyspaces) (versions : List Version) (batches : List Shown) → fold (store_of s versions) (journal_commands s batches) ≡ store_of s (versions_behind s versions batches)
batches_make s versions [] = refl
batches_make s versions (batch ∷ batches) =
    fold-append (store_of s versions) (commands_of s batch) (journal_commands s batches) ∙ ap (λ t. fold t (journal_commands s batches)) (one_batch s versions batch)
    ∙ batches_make s (versions_after s versions batch) batches

pub replay_makes_the_store : (s : Keyspaces) (batches : List Shown) → store_in s batches ≡ store_of s (versions_behind s [] batches)
replay_makes_the_store s batches = batches_make s [] batches

-- ---- one more

pub commands-append : (s : Keyspaces) (front behind : List Shown) → journal_commands s (front ++ behind) ≡ journal_commands s front ++ journal_commands s behind
commands-append s front behind = flat_map-append (commands_of s) front behind

-- the store of more batches
pub store-append : (s : Keyspaces) (front behind : List Shown) → store_in s (front ++ behind) ≡ fold (store_in s front) (journal_commands s behind)
store-append s front behind = ap (fold (bare s)) (commands-append s front behind) ∙ fold-append (bare s) (journal_commands s front) (journal_commands s behind)

pub one_more_batch : (s : Keyspaces) (batches : List Shown) (batch : Shown) → store_in s (batches ++ batch ∷ []) ≡ fold (store_in s batches) (commands_of s batch)
one_more_batch s batches batch = store-append s batches (batch ∷ []) ∙ ap (fold (store_in s batches)) (append-nil (commands_of s batch))

pub one_item : (s : Keyspaces) (id : ℕ) (key value : Bytes) (kind : ValueType) (number : ℕ) → counts s number id ≡ true
    → commands_of s (shown (of_item id key value kind number)) ≡ Write (record { id = id; key = key; value = value_of kind value } ∷ []) ∷ []
one_item s id key value kind number counted = ap (λ b. writing (map item_of (cond b (record { keyspace_id = id; key = key; value = value; value_type = kind } ∷ []) []))) counted
