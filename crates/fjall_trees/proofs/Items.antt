-- The versions that the items of a batch make, one by one.
use Rattle.std.proofs.Common.{◌≡◌, ◌≢◌, ℕ, ◌<◌, ◌≤◌, ◌^◌, ◌==◌, Bool, true, false, cond, List, [], ◌∷◌, ◌++◌, filter, get_or, length, map, All, Some, None, nat_le, unwrap_or, refl, sym, ap, ◌∙◌, append_assoc, arith}
use Rattle.std.specs.List.{list_any}
use Rattle.std.specs.FinMap.{empty, get}
use Rattle.std.proofs.lemmas.Bool.{or_parts, true≢false}
use Rattle.std.proofs.lemmas.Bool.Decides.{nat_tests}
use Rattle.std.proofs.lemmas.List.{append-nil}
use Rattle.std.proofs.lemmas.List.Elements.{All-cons, All-filter, All-head, All-map, All-nil, All-push, All-tail}
use Rattle.fjall_base.specs.Pairs.{Pairs, altered}
use Rattle.fjall_base.specs.Store.{Store, apply, map_at}
use Rattle.fjall_base.specs.declared.error.Error.TheVariants.{KeyEmpty, KeyTooLong, TooManyItems, ValueTooLong}
use Rattle.fjall_journal.specs.declared.op.Op.{Op}
use Rattle.fjall_journal.specs.declared.op.Op.TheVariants.{Put, Remove, RemoveWeak}
use Rattle.fjall_journal.specs.Ops.{BatchItem, are_too_many, bytes_in, items_refusal, some_key_empty, some_key_too_long, some_value_too_long, value_in, write_of}
use Rattle.fjall_table.specs.Blocks.{Entry, IsEntry, value_bytes}
use Rattle.fjall_memtable.specs.Views.{IsView}
use Rattle.fjall_memtable.proofs.Tests.{all_of}
use Rattle.fjall_memtable.proofs.Writing.{write_alters}
use Rattle.fjall_meta.specs.Versions.{Version, pairs_after, version_made}
use Rattle.fjall_meta.proofs.Newest.{pairs_at}
use Rattle.fjall_meta.proofs.Slots.{slot_after, slot_at}
use Rattle.fjall_meta.proofs.Viewing.{as_view}
use Rattle.fjall_meta.proofs.Writes.{write_by_versions}
use Rattle.fjall_trees.specs.Writes.{version_of_item, versions_of_items}

-- ---- what a batch may have

any_none : {X : Type 0} (p : X → Bool) (xs : List X) → list_any p xs ≡ false → All (λ x. p x ≡ false) xs
any_none {X} p [] none = All-nil (λ (x : X). p x ≡ false)
any_none {X} p (x ∷ xs) none = let e = or_parts (p x) (list_any p xs) none in All-cons (λ (y : X). p y ≡ false) x xs e.0 (any_none p xs e.1)

-- no cause is found
none_found : (a b c d : Bool) → (cond a (Some KeyEmpty) (cond b (Some KeyTooLong) (cond c (Some ValueTooLong) (cond d (Some TooManyItems) None)))) ≡ None
    → (a ≡ false) × (b ≡ false) × (c ≡ false)
none_found true b c d e = absurd cc
none_found false true c d e = absurd cc
none_found false false true d e = absurd cc
none_found false false false d e = (refl, refl, refl)

same_bytes : (o : Op) → value_bytes (value_in o) ≡ bytes_in o
same_bytes (Put value) = refl
same_bytes Remove = refl
same_bytes RemoveWeak = refl

entry_is : (n : ℕ) (item : BatchItem) → n < 2 ^ 63 → (length item.1 == 0) ≡ false → nat_le (2 ^ 16) (length item.1) ≡ false → nat_le (2 ^ 32) (length (bytes_in item.2)) ≡ false → IsEntry (version_of_item n item)
entry_is n item small some key value =
    let bytes = ap length (same_bytes item.2) in
    let within : length (bytes_in item.2) < 2 ^ 32 = grind (arith, nat_tests) in
    record {
      some = grind (arith, nat_tests);
      key = grind (arith, nat_tests);
      number = omega arith;
      value = omega arith;
    }

pub entries_are : (id n : ℕ) (items : List BatchItem) → n < 2 ^ 63 → items_refusal items ≡ None → All IsEntry (versions_of_items id n items)
entries_are id n items small fits =
    let none = none_found (some_key_empty items) (some_key_too_long items) (some_value_too_long items) (are_too_many items) fits in
    let empty_keys = any_none (λ (item : BatchItem). length item.1 == 0) items none.0 in
    let long_keys = any_none (λ (item : BatchItem). nat_le (2 ^ 16) (length item.1)) items none.1 in
    let long_values = any_none (λ (item : BatchItem). nat_le (2 ^ 32) (length (bytes_in item.2))) items none.2 in
    All-map IsEntry (version_of_item n) (filter (λ item. item.0 == id) items)
    (All-filter (λ item. item.0 == id) (λ item. IsEntry (version_of_item n item)) items
    (λ i d lt. entry_is n (get_or items i d) small (empty_keys i d lt) (long_keys i d lt) (long_values i d lt)))

pub entries_numbered : (P : ℕ → Type 0) (id n : ℕ) (items : List BatchItem) → P n → All (λ v. P v.number) (versions_of_items id n items)
entries_numbered P id n items is =
    All-map (λ v. P v.number) (version_of_item n) (filter (λ item. item.0 == id) items) (all_of (λ (item : BatchItem). P n) (filter (λ item. item.0 == id) items) (λ item. is))

-- ---- maps

abbrev pub made : ℕ → List BatchItem → List Version
made number items = map (version_made number) items

-- the map of a keyspace after the items
pub map_after : (t : Store) (items : List BatchItem) (number id : ℕ) → map_at (apply t (write_of items)).maps id ≡ pairs_after (map_at t.maps id) id (made number items)
map_after t items number id =
    ap (λ (u : Store). map_at u.maps id) (write_by_versions items number t) ∙ ap (λ slot. unwrap_or slot empty) (slot_at (made number items) t id) ∙ pairs_at (made number items) (get t.maps id) id

-- where there was a map there is one
slot_some : (pairs : Pairs) (id : ℕ) (versions : List Version) → slot_after (Some pairs) id versions ≡ Some (pairs_after pairs id versions)
slot_some pairs id [] = refl
slot_some pairs id (v ∷ versions) = by (id == v.keyspace_id) (λ p. slot_some p id versions)
  where
    by : (b : Bool) → ((p : Pairs) → slot_after (Some p) id versions ≡ Some (pairs_after p id versions))
        → slot_after (cond b (Some (altered pairs v.key v.value)) (Some pairs)) id versions ≡ Some (pairs_after (cond b (altered pairs v.key v.value) pairs) id versions)
    by true more = more (altered pairs v.key v.value)
    by false more = more pairs

pub slot_made : (t : Store) (items : List BatchItem) (number id : ℕ) (pairs : Pairs) → get t.maps id ≡ Some pairs
    → get (apply t (write_of items)).maps id ≡ Some (pairs_after pairs id (made number items))
slot_made t items number id pairs is =
    ap (λ (u : Store). get u.maps id) (write_by_versions items number t) ∙ slot_at (made number items) t id ∙ ap (λ slot. slot_after slot id (made number items)) is
    ∙ slot_some pairs id (made number items)

-- items of other keyspaces change nothing
pub others_made : (pairs : Pairs) (number id : ℕ) (items : List BatchItem) → All (λ item. item.0 ≢ id) items → pairs_after pairs id (made number items) ≡ pairs
others_made pairs number id [] others = refl
others_made pairs number id (item ∷ items) others =
    let differ = All-head (λ (i : BatchItem). i.0 ≢ id) item items others in
    let no : (id == item.0) ≡ false = grind (arith, nat_tests, differ) in
    ap (λ b. pairs_after (cond b (altered pairs item.1 (value_in item.2)) pairs) id (made number items)) no
    ∙ others_made pairs number id items (All-tail (λ (i : BatchItem). i.0 ≢ id) item items others)

-- ---- views

turned : (q k : ℕ) → (q == k) ≡ (k == q)
turned q k = grind (arith, nat_tests)

-- a view with the versions of the items is the map after them
pub items_view : (instant number id : ℕ) (clears : List ℕ) (items : List BatchItem) (versions : List Entry) (pairs : Pairs)
    → number < instant → All (λ v. v.number ≤ number) versions → All (λ n. n ≤ number) clears → IsView instant clears versions pairs
    → IsView instant clears (versions ++ versions_of_items id number items) (pairs_after pairs id (made number items))
items_view instant number id clears [] versions pairs low others before view = as_view instant refl (sym (append-nil versions)) pairs view
items_view instant number id clears (item ∷ items) versions pairs low others before view =
    by (item.0 == id) (id == item.0) (turned id item.0)
    (items_view instant number id clears items versions pairs low others before view)
    (items_view instant number id clears items (versions ++ v ∷ []) put low
    (All-push (λ w. w.number ≤ number) versions v others (omega arith)) before (write_alters instant clears versions v pairs low others before view))
  where
    v : Entry
    v = version_of_item number item

    more : List Entry
    more = versions_of_items id number items

    put : Pairs
    put = altered pairs item.1 (value_in item.2)

    by : (b c : Bool) → c ≡ b → IsView instant clears (versions ++ more) (pairs_after pairs id (made number items))
        → IsView instant clears ((versions ++ v ∷ []) ++ more) (pairs_after put id (made number items))
        → IsView instant clears (versions ++ map (version_of_item number) (cond b (item ∷ filter (λ i. i.0 == id) items) (filter (λ i. i.0 == id) items)))
        (pairs_after (cond c put pairs) id (made number items))
    by true true e without with = as_view instant refl (append_assoc versions (v ∷ []) more) (pairs_after put id (made number items)) with
    by false false e without with = without
    by true false e without with = absurd (true≢false (sym e))
    by false true e without with = absurd (true≢false e)
