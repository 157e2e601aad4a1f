-- The items of a batch are one write, and make versions that stand for it.
use Rattle.std.proofs.Common.{◌≡◌, ◌≢◌, ℕ, ◌||◌, true, false, cond, List, [], ◌∷◌, ◌++◌, map, filter, All, refl, ◌∙◌, ap}
use Rattle.std.proofs.lemmas.List.Elements.{All-head, All-tail}
use Rattle.std.specs.List.{list_any}
use Rattle.fjall_base.specs.Store.{Store, Clear, apply, fold}
use Rattle.fjall_journal.specs.Batches.{clears_of, items_of, shown}
use Rattle.fjall_journal.specs.Ops.{BatchItem, bytes_in, entry_of_item, item_in, kind_of, of_items, value_in, write_of}
use Rattle.fjall_journal.specs.Changes.{Emptied, of_change}
use Rattle.fjall_journal.specs.declared.op.Op.{Op}
use Rattle.fjall_journal.specs.declared.op.Op.TheVariants.{Put, Remove, RemoveWeak}
use Rattle.fjall_meta.specs.Keyspaces.{Keyspaces}
use Rattle.fjall_meta.specs.Replays.{commands_of, counts, is_indirect, is_indirection, item_of, value_of, writing}
use Rattle.fjall_meta.specs.Versions.{command_of, version_made}

-- ---- versions

-- one write is what its versions command one by one
pub write_by_versions : (items : List BatchItem) (number : ℕ) (t : Store) → apply t (write_of items) ≡ fold t (map command_of (map (version_made number) items))
write_by_versions [] number t = refl
write_by_versions (item ∷ items) number t = write_by_versions items number (apply t (command_of (version_made number item)))

-- ---- batches

said : (o : Op) → value_of (kind_of o) (bytes_in o) ≡ value_in o
said (Put value) = refl
said Remove = refl
said RemoveWeak = refl

item_said : (item : BatchItem) → item_of (record { keyspace_id = item.0; key = item.1; value = bytes_in item.2; value_type = kind_of item.2 }) ≡ item_in item
item_said item = λ i. record { id = item.0; key = item.1; value = said item.2 i }

all_said : (s : Keyspaces) (number : ℕ) (items : List BatchItem) → All (λ item. counts s number item.0 ≡ true) items
    → map item_of (filter (λ item. counts s number item.keyspace_id) (items_of (map entry_of_item items))) ≡ map item_in items
all_said s number [] each = refl
all_said s number (item ∷ items) each =
    let rest = filter (λ read. counts s number read.keyspace_id) (items_of (map entry_of_item items)) in
    ap (λ b. map item_of (cond b (record { keyspace_id = item.0; key = item.1; value = bytes_in item.2; value_type = kind_of item.2 } ∷ rest) rest))
    (All-head (λ (other : BatchItem). counts s number other.0 ≡ true) item items each)
    ∙ (λ i. item_said item i ∷ all_said s number items (All-tail (λ (other : BatchItem). counts s number other.0 ≡ true) item items each) i)

-- a batch of items clears nothing
pub no_clears : (items : List BatchItem) → clears_of (map entry_of_item items) ≡ []
no_clears [] = refl
no_clears (item ∷ items) = no_clears items

direct : (o : Op) → is_indirection (kind_of o) ≡ false
direct (Put value) = refl
direct Remove = refl
direct RemoveWeak = refl

-- and none of its items stands for a value elsewhere
pub all_direct : (items : List BatchItem) → list_any is_indirect (items_of (map entry_of_item items)) ≡ false
all_direct [] = refl
all_direct (item ∷ items) = (λ i. direct item.2 i || list_any is_indirect (items_of (map entry_of_item items))) ∙ all_direct items

written : (items : List BatchItem) → items ≢ [] → writing (map item_in items) ≡ write_of items ∷ []
written [] some = absurd (some refl)
written (item ∷ items) some = refl

-- where all of its items count it commands one write
pub batch_command : (s : Keyspaces) (items : List BatchItem) (number : ℕ) → items ≢ [] → All (λ item. counts s number item.0 ≡ true) items
    → commands_of s (shown (of_items items number)) ≡ write_of items ∷ []
batch_command s items number some each =
    ap (λ ids. map Clear (filter (counts s number) ids) ++ writing (map item_of (filter (λ item. counts s number item.keyspace_id) (items_of (map entry_of_item items))))) (no_clears items)
    ∙ ap writing (all_said s number items each) ∙ written items some

-- and a clear that counts commands itself
pub clear_command : (s : Keyspaces) (id number : ℕ) → counts s number id ≡ true → commands_of s (shown (of_change (Emptied id) number)) ≡ Clear id ∷ []
clear_command s id number counted = ap (λ b. map Clear (cond b (id ∷ []) []) ++ []) counted
