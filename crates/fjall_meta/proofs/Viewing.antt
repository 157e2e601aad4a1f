-- What batches make of a keyspace's map is the view of the versions and clears that they make.
use Rattle.std.proofs.Common.{◌≡◌, ℕ, ◌+◌, ◌<◌, ◌≤◌, ◌^◌, ◌==◌, ◌&&◌, ◌||◌, Bool, true, false, cond, List, [], ◌∷◌, ◌++◌, map, filter, All, Option, Some, None, unwrap_or, nat_lt, nat_le, refl, sym, ◌∙◌, ap, subst, append_assoc, arith}
use Rattle.std.proofs.lemmas.Bool.Decides.{nat_tests}
use Rattle.std.proofs.lemmas.Bool.{or_parts, true≢false}
use Rattle.std.proofs.lemmas.List.{append-nil}
use Rattle.std.proofs.lemmas.List.Elements.{All-nil, All-cons, All-head, All-tail, All-append, All-map, All-push, All-weaker}
use Rattle.std.specs.List.{list_any}
use Rattle.std.specs.Option.{option_or}
use Rattle.std.specs.FinMap.{empty, get, get-empty}
use Rattle.fjall_base.specs.Pairs.{Pairs, altered, byte_order, lookup}
use Rattle.fjall_base.specs.Store.{map_at}
use Rattle.fjall_journal.specs.declared.batch.ReadBatchItem.{ReadBatchItem}
use Rattle.fjall_journal.specs.Batches.{Shown}
use Rattle.fjall_meta.specs.Keyspaces.{Keyspaces, keyspace_at}
use Rattle.fjall_table.specs.Blocks.{Entry}
use Rattle.fjall_memtable.specs.Jobs.{AreBelow}
use Rattle.fjall_memtable.specs.Views.{IsView, value_at}
use Rattle.fjall_memtable.proofs.Tests.{all_of}
use Rattle.fjall_memtable.proofs.Writing.{write_alters, clear_empties}
use Rattle.fjall_meta.specs.Replays.{JournalFault, Unordered, Indirect, bare, counts, fault_of, first_fault, is_indirect, store_in}
use Rattle.fjall_meta.specs.Versions.{Version, version_of, versions_after, versions_behind}
use Rattle.fjall_meta.specs.Views.{entry_of, entries_in, clear_in, versions_of, clears_of}
use Rattle.fjall_meta.proofs.Behind.{slot_step, after_at}
use Rattle.fjall_meta.proofs.LivingContents.{get_by_id, no_pairs}
use Rattle.fjall_meta.proofs.Newest.{nothing_in}
use Rattle.fjall_meta.proofs.Replaying.{replay_makes_the_store}
use Rattle.fjall_meta.proofs.Slots.{slot_after, slot_at}

-- what a slot holds
abbrev pub held : Option Pairs → Pairs
held slot = unwrap_or slot empty

-- the slot of an id before all batches
abbrev nothing : Keyspaces → ℕ → Option Pairs
nothing s id = get (bare s).maps id

-- the same clears and versions have the same view
pub as_view : (instant : ℕ) {clears others : List ℕ} {versions more : List Entry} → clears ≡ others → versions ≡ more → (pairs : Pairs)
    → IsView instant clears versions pairs → IsView instant others more pairs
as_view instant e f pairs view key = view key ∙ (λ i. value_at key instant (e i) (f i))

-- ---- a batch's items

turned : (q k : ℕ) → (q == k) ≡ (k == q)
turned q k = grind (arith, nat_tests)

items_view : (instant number id : ℕ) (clears : List ℕ) (items : List ReadBatchItem) (versions : List Entry) (slot : Option Pairs)
    → number < instant → All (λ v. v.number ≤ number) versions → All (λ n. n ≤ number) clears → IsView instant clears versions (held slot)
    → IsView instant clears (versions ++ map (entry_of number) (filter (λ item. item.keyspace_id == id) items))
    (held (slot_after slot id (map (version_of number) items)))
items_view instant number id clears [] versions slot low others before view = as_view instant refl (sym (append-nil versions)) (held slot) view
items_view instant number id clears (item ∷ items) versions slot low others before view =
    by (item.keyspace_id == id) (id == item.keyspace_id) (turned id item.keyspace_id)
    (items_view instant number id clears items versions slot low others before view)
    (items_view instant number id clears items (versions ++ (v ∷ [])) (Some (altered (held slot) v.key v.value)) low
    (All-push (λ w. w.number ≤ number) versions v others (omega arith)) before (write_alters instant clears versions v (held slot) low others before view))
  where
    v : Entry
    v = entry_of number item

    more : List Entry
    more = map (entry_of number) (filter (λ i. i.keyspace_id == id) items)

    put : Option Pairs
    put = Some (altered (held slot) v.key v.value)

    by : (b c : Bool) → c ≡ b → IsView instant clears (versions ++ more) (held (slot_after slot id (map (version_of number) items)))
        → IsView instant clears ((versions ++ (v ∷ [])) ++ more) (held (slot_after put id (map (version_of number) items)))
        → IsView instant clears (versions ++ map (entry_of number)
        (cond b (item ∷ filter (λ i. i.keyspace_id == id) items) (filter (λ i. i.keyspace_id == id) items)))
        (held (slot_after (cond c put slot) id (map (version_of number) items)))
    by true true e without with =
        as_view instant refl (append_assoc versions (v ∷ []) more) (held (slot_after put id (map (version_of number) items))) with
    by false false e without with = without
    by true false e without with = absurd (true≢false (sym e))
    by false true e without with = absurd (true≢false e)

-- ---- a batch

-- of an id that no keyspace has, and of one with nothing in it
nothing_at : (s : Keyspaces) (id : ℕ) → held (nothing s id) ≡ empty
nothing_at s id = ap held (get_by_id no_pairs s.living id) ∙ nothing_in (keyspace_at id s.living)

-- its clear and its items, where they count
pub step_view : (id instant : ℕ) (b : Shown) (none slot : Option Pairs) (clears : List ℕ) (versions : List Entry) → held none ≡ empty
    → b.number < instant → All (λ n. n < b.number) clears → AreBelow b.number versions → IsView instant clears versions (held slot)
    → (counted is_cleared : Bool)
    → IsView instant (clears ++ cond (counted && is_cleared) (b.number ∷ []) [])
    (versions ++ cond counted (map (entry_of b.number) (filter (λ i. i.keyspace_id == id) b.items)) [])
    (held (slot_step counted is_cleared none id (map (version_of b.number) b.items) slot))
step_view id instant b none slot clears versions nothing_there low small below view = by
  where
    up_to : All (λ v. v.number ≤ b.number) versions
    up_to = All-weaker (λ v. v.number < b.number) (λ v. v.number ≤ b.number) (λ v h. omega arith) versions below

    cleared_up_to : All (λ n. n ≤ b.number) clears
    cleared_up_to = All-weaker (λ n. n < b.number) (λ n. n ≤ b.number) (λ n h. omega arith) clears small

    emptied : IsView instant (clears ++ (b.number ∷ [])) versions (held none)
    emptied key = ap (λ pairs. get pairs key) nothing_there ∙ get-empty byte_order key ∙ sym (clear_empties key instant clears b.number versions low below)

    by : (counted is_cleared : Bool)
        → IsView instant (clears ++ cond (counted && is_cleared) (b.number ∷ []) [])
        (versions ++ cond counted (map (entry_of b.number) (filter (λ i. i.keyspace_id == id) b.items)) [])
        (held (slot_step counted is_cleared none id (map (version_of b.number) b.items) slot))
    by true true =
        items_view instant b.number id (clears ++ (b.number ∷ [])) b.items versions none low up_to
        (All-push (λ n. n ≤ b.number) clears b.number cleared_up_to (omega arith)) emptied
    by true false =
        as_view instant (sym (append-nil clears)) refl _
        (items_view instant b.number id clears b.items versions slot low up_to cleared_up_to view)
    by false is_cleared = as_view instant (sym (append-nil clears)) (sym (append-nil versions)) (held slot) view

batch_view : (s : Keyspaces) (id instant : ℕ) (b : Shown) (before : List Version) (clears : List ℕ) (versions : List Entry)
    → b.number < instant → All (λ n. n < b.number) clears → AreBelow b.number versions
    → IsView instant clears versions (held (slot_after (nothing s id) id before))
    → IsView instant (clears ++ clear_in s id b) (versions ++ entries_in s id b) (held (slot_after (nothing s id) id (versions_after s before b)))
batch_view s id instant b before clears versions low small below view =
    subst (λ (slot : Option Pairs). IsView instant (clears ++ clear_in s id b) (versions ++ entries_in s id b) (held slot))
    (sym (after_at s before b (nothing s id) id))
    (step_view id instant b (nothing s id) (slot_after (nothing s id) id before) clears versions (nothing_at s id) low small below view
    (counts s b.number id) (list_any (λ k. k == id) b.clears))

-- ---- batches

pub no_fault : (a b : Option JournalFault) → option_or a b ≡ None → (a ≡ None) × (b ≡ None)
no_fault None b e = (refl, e)
no_fault (Some f) b e = cc

in_bounds : (least bound n : ℕ) → (nat_lt n least || nat_le bound n) ≡ false → (least ≤ n) × (n < bound)
in_bounds least bound n e = let p = or_parts (nat_lt n least) (nat_le bound n) e in (grind (arith, nat_tests), grind (arith, nat_tests))

-- a batch without a fault is numbered from the least number on, and below 2^63
pub number_fits : (least : ℕ) (b : Shown) → fault_of least b ≡ None → (least ≤ b.number) × (b.number < 2 ^ 63)
number_fits least b e = by (nat_lt b.number least || nat_le (2 ^ 63) b.number) refl e
  where
    by : (t : Bool) → (nat_lt b.number least || nat_le (2 ^ 63) b.number) ≡ t
        → cond t (Some Unordered) (cond (list_any is_indirect b.items) (Some Indirect) None) ≡ None → (least ≤ b.number) × (b.number < 2 ^ 63)
    by true h f = cc
    by false h f = in_bounds least (2 ^ 63) b.number h

-- the clear and the versions of a batch have its number
clear_numbered : (P : ℕ → Type 0) (s : Keyspaces) (id : ℕ) (b : Shown) → P b.number → All P (clear_in s id b)
clear_numbered P s id b h = by (counts s b.number id && list_any (λ k. k == id) b.clears)
  where
    by : (t : Bool) → All P (cond t (b.number ∷ []) [])
    by true = All-cons P b.number [] h (All-nil P)
    by false = All-nil P

entries_numbered : (P : ℕ → Type 0) (s : Keyspaces) (id : ℕ) (b : Shown) → P b.number → All (λ v. P v.number) (entries_in s id b)
entries_numbered P s id b h = by (counts s b.number id)
  where
    items : List ReadBatchItem
    items = filter (λ i. i.keyspace_id == id) b.items

    by : (t : Bool) → All (λ v. P v.number) (cond t (map (entry_of b.number) (filter (λ i. i.keyspace_id == id) b.items)) [])
    by true = All-map (λ v. P v.number) (entry_of b.number) items (all_of (λ item. P b.number) items (λ item. h))
    by false = All-nil (λ v. P v.number)

pub clears_numbered : (P : ℕ → Type 0) (s : Keyspaces) (id : ℕ) (batches : List Shown) → All (λ b. P b.number) batches → All P (clears_of s id batches)
clears_numbered P s id [] all = All-nil P
clears_numbered P s id (b ∷ batches) all =
    All-append P (clear_in s id b) (clears_of s id batches) (clear_numbered P s id b (All-head (λ c. P c.number) b batches all))
    (clears_numbered P s id batches (All-tail (λ c. P c.number) b batches all))

pub versions_numbered : (P : ℕ → Type 0) (s : Keyspaces) (id : ℕ) (batches : List Shown) → All (λ b. P b.number) batches
    → All (λ v. P v.number) (versions_of s id batches)
versions_numbered P s id [] all = All-nil (λ v. P v.number)
versions_numbered P s id (b ∷ batches) all =
    All-append (λ v. P v.number) (entries_in s id b) (versions_of s id batches) (entries_numbered P s id b (All-head (λ c. P c.number) b batches all))
    (versions_numbered P s id batches (All-tail (λ c. P c.number) b batches all))

behind_view : (s : Keyspaces) (id instant : ℕ) (batches : List Shown) (least : ℕ) (before : List Version) (clears : List ℕ) (versions : List Entry)
    → first_fault least batches ≡ None → All (λ b. b.number < instant) batches → All (λ n. n < least) clears → AreBelow least versions
    → IsView instant clears versions (held (slot_after (nothing s id) id before))
    → IsView instant (clears ++ clears_of s id batches) (versions ++ versions_of s id batches)
    (held (slot_after (nothing s id) id (versions_behind s before batches)))
behind_view s id instant [] least before clears versions sound low small below view =
    as_view instant (sym (append-nil clears)) (sym (append-nil versions)) (held (slot_after (nothing s id) id before)) view
behind_view s id instant (b ∷ batches) least before clears versions sound low small below view =
    let parts = no_fault (fault_of least b) (first_fault (b.number + 1) batches) sound in
    let fits = number_fits least b parts.0 in
    let from : least ≤ b.number = fits.0 in
    let first : b.number < instant = All-head (λ (c : Shown). c.number < instant) b batches low in
    let small_here = All-weaker (λ n. n < least) (λ n. n < b.number) (λ n h. omega arith) clears small in
    let below_here = All-weaker (λ v. v.number < least) (λ v. v.number < b.number) (λ v h. omega arith) versions below in
    let small_behind = All-append (λ n. n < b.number + 1) clears (clear_in s id b)
    (All-weaker (λ n. n < b.number) (λ n. n < b.number + 1) (λ n h. omega arith) clears small_here) (clear_numbered (λ n. n < b.number + 1) s id b (omega arith)) in
    let below_behind = All-append (λ v. v.number < b.number + 1) versions (entries_in s id b)
    (All-weaker (λ v. v.number < b.number) (λ v. v.number < b.number + 1) (λ v h. omega arith) versions below_here)
    (entries_numbered (λ n. n < b.number + 1) s id b (omega arith)) in
    let rest = behind_view s id instant batches (b.number + 1) (versions_after s before b) (clears ++ clear_in s id b) (versions ++ entries_in s id b) parts.1
    (All-tail (λ (c : Shown). c.number < instant) b batches low) small_behind below_behind
    (batch_view s id instant b before clears versions first small_here below_here view) in
    as_view instant (append_assoc clears (clear_in s id b) (clears_of s id batches)) (append_assoc versions (entries_in s id b) (versions_of s id batches))
    (held (slot_after (nothing s id) id (versions_behind s (versions_after s before b) batches))) rest

pub replay_is_a_view : (s : Keyspaces) (least : ℕ) (batches : List Shown) → first_fault least batches ≡ None → (id instant : ℕ)
    → All (λ b. b.number < instant) batches
    → IsView instant (clears_of s id batches) (versions_of s id batches) (map_at (store_in s batches).maps id)
replay_is_a_view s least batches sound id instant low key =
    ap (λ pairs. lookup pairs key) (ap (λ t. map_at t.maps id) (replay_makes_the_store s batches) ∙ ap held (slot_at (versions_behind s [] batches) (bare s) id))
    ∙ behind_view s id instant batches least [] [] [] sound low (All-nil (λ n. n < least)) (All-nil (λ v. v.number < least)) none key
  where
    none : IsView instant [] [] (held (nothing s id))
    none k = ap (λ pairs. lookup pairs k) (nothing_at s id) ∙ get-empty byte_order k

-- all their numbers are below 2^63
sound_numbers : (least : ℕ) (batches : List Shown) → first_fault least batches ≡ None → All (λ b. b.number < 2 ^ 63) batches
sound_numbers least [] sound = All-nil (λ b. b.number < 2 ^ 63)
sound_numbers least (b ∷ batches) sound =
    let parts = no_fault (fault_of least b) (first_fault (b.number + 1) batches) sound in
    All-cons (λ c. c.number < 2 ^ 63) b batches (number_fits least b parts.0).1 (sound_numbers (b.number + 1) batches parts.1)

pub replay_is_the_last_view : (s : Keyspaces) (least : ℕ) (batches : List Shown) → first_fault least batches ≡ None → (id : ℕ)
    → IsView (2 ^ 63) (clears_of s id batches) (versions_of s id batches) (map_at (store_in s batches).maps id)
replay_is_the_last_view s least batches sound id = replay_is_a_view s least batches sound id (2 ^ 63) (sound_numbers least batches sound)
