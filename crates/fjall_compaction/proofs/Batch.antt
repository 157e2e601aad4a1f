-- The batch that an ingestion would be: what it makes of each keyspace, and what it commands.
use Rattle.std.proofs.Common.{◌≡◌, ℕ, ◌<◌, ◌≤◌, ◌^◌, ◌==◌, ◌&&◌, ◌||◌, Bool, true, false, cond, ltb, leb, List, [], ◌∷◌, ◌++◌, map, filter, Some, None, refl, ◌∙◌, ap}
use Rattle.std.specs.Option.{option_or}
use Rattle.std.proofs.lemmas.Bool.{le-ltb, lt-leb}
use Rattle.std.proofs.lemmas.List.Elements.{All-map}
use Rattle.fjall_base.specs.Store.{Store, apply, fold}
use Rattle.fjall_journal.specs.Batches.{Shown, items_of, shown}
use Rattle.fjall_journal.specs.Ops.{BatchItem, bytes_in, entry_of_item, kind_of, of_items, value_in}
use Rattle.fjall_journal.specs.declared.batch.ReadBatchItem.{ReadBatchItem}
use Rattle.fjall_journal.specs.declared.op.Op.{Op}
use Rattle.fjall_journal.specs.declared.op.Op.TheVariants.{Put, Remove, RemoveWeak}
use Rattle.fjall_meta.specs.Keyspaces.{Keyspaces}
use Rattle.fjall_meta.specs.Replays.{Indirect, Unordered, commands_of, counts, first_fault, least_after, value_of}
use Rattle.fjall_meta.specs.Views as views
use Rattle.fjall_meta.specs.Views.{clear_in, entries_in}
use Rattle.fjall_meta.proofs.ContentFaults.{first_fault-append}
use Rattle.fjall_meta.proofs.Writes as Writes
use Rattle.fjall_memtable.proofs.Tests.{all_of}
use Rattle.fjall_reading.specs.Ingestions.{KeyOp}
use Rattle.fjall_compaction.specs.Ingests.{batch_items, ingestion, versions_made}
use Rattle.fjall_compaction.proofs.Silence.{itself}

-- the batch of these items
abbrev pub batch_of : (id number : ℕ) → List KeyOp → Shown
batch_of id number items = shown (of_items (batch_items id items) number)

abbrev items_in : ℕ → List KeyOp → List ReadBatchItem
items_in id items = items_of (map entry_of_item (batch_items id items))

same_value : (op : Op) → value_of (kind_of op) (bytes_in op) ≡ value_in op
same_value (Put value) = refl
same_value Remove = refl
same_value RemoveWeak = refl

-- all of its items are of its keyspace, and make its versions
own_items : (id number : ℕ) (items : List KeyOp) → map (views.entry_of number) (filter (λ item. item.keyspace_id == id) (items_in id items)) ≡ versions_made number items
own_items id number [] = refl
own_items id number (item ∷ items) =
    let rest = own_items id number items in
    let more = filter (λ (other : ReadBatchItem). other.keyspace_id == id) (items_in id items) in
    let first : ReadBatchItem = record { keyspace_id = id; key = item.0; value = bytes_in item.1; value_type = kind_of item.1 } in
    ap (λ b. map (views.entry_of number) (cond b (first ∷ more) more)) (itself id)
    ∙ (λ i. record { key = item.0; number = number; value = same_value item.1 i } ∷ rest i)

-- and none is of another
other_items : (id other : ℕ) → (id == other) ≡ false → (items : List KeyOp) → filter (λ item. item.keyspace_id == other) (items_in id items) ≡ []
other_items id other differ [] = refl
other_items id other differ (item ∷ items) =
    let more = filter (λ (i : ReadBatchItem). i.keyspace_id == other) (items_in id items) in
    let first : ReadBatchItem = record { keyspace_id = id; key = item.0; value = bytes_in item.1; value_type = kind_of item.1 } in
    ap (λ b. cond b (first ∷ more) more) differ ∙ other_items id other differ items

pub own_entries : (s : Keyspaces) (id number : ℕ) (items : List KeyOp) → counts s number id ≡ true → entries_in s id (batch_of id number items) ≡ versions_made number items
own_entries s id number items lives =
    ap (λ b. cond b (map (views.entry_of number) (filter (λ (item : ReadBatchItem). item.keyspace_id == id) (items_in id items))) []) lives ∙ own_items id number items

pub other_entries : (s : Keyspaces) (id other number : ℕ) (items : List KeyOp) → (id == other) ≡ false → entries_in s other (batch_of id number items) ≡ []
other_entries s id other number items differ =
    ap (λ (l : List ReadBatchItem). cond (counts s number other) (map (views.entry_of number) l) []) (other_items id other differ items) ∙ same (counts s number other)
  where
    same : (b : Bool) → cond b (map (views.entry_of number) []) [] ≡ []
    same true = refl
    same false = refl

-- it clears nothing
pub no_clear : (s : Keyspaces) (id other number : ℕ) (items : List KeyOp) → clear_in s other (batch_of id number items) ≡ []
no_clear s id other number items =
    ap (λ (ids : List ℕ). views.clear_in s other (record { number = number; items = items_in id items; clears = ids })) (Writes.no_clears (batch_items id items)) ∙ by (counts s number other)
  where
    by : (b : Bool) → cond (b && false) (number ∷ []) [] ≡ []
    by true = refl
    by false = refl

-- ---- what it commands

pub commanded : (s : Keyspaces) (id number : ℕ) (items : List KeyOp) (store : Store) → counts s number id ≡ true
    → fold store (commands_of s (batch_of id number items)) ≡ apply store (ingestion id items)
commanded s id number [] store lives = refl
commanded s id number (item ∷ items) store lives =
    let all = batch_items id (item ∷ items) in
    ap (fold store)
    (Writes.batch_command s all number (λ e. cc)
    (All-map (λ (i : BatchItem). counts s number i.0 ≡ true) (λ (i : KeyOp). (id, i.0, i.1)) (item ∷ items) (all_of (λ (i : KeyOp). counts s number id ≡ true) (item ∷ items) (λ i. lives))))

-- ---- it may stand behind batches without a fault

pub still_sound : (id number : ℕ) (items : List KeyOp) (batches : List Shown) → first_fault 0 batches ≡ None → least_after 0 batches ≤ number → number < 2 ^ 63
    → first_fault 0 (batches ++ batch_of id number items ∷ []) ≡ None
still_sound id number items batches sound le small =
    let least = least_after 0 batches in
    let from : ltb number least ≡ false = le-ltb number least le in
    let below : leb (2 ^ 63) number ≡ false = lt-leb (2 ^ 63) number small in
    let direct = Writes.all_direct (batch_items id items) in
    first_fault-append 0 batches (batch_of id number items ∷ [])
    ∙ (λ i. option_or (sound i) (option_or (cond (from i || below i) (Some Unordered) (cond (direct i) (Some Indirect) None)) None))
