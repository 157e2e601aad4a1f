-- What a transaction wrote itself, and what it sees of a view for it.
use Rattle.std.specs.Prelude.{ℕ, ◌+◌, ◌-◌, ◌^◌, ◌==◌, ◌&&◌, Bool, true, false, List, [], ◌∷◌, IfSome, IsSome, Option, Some, None, count_by, filter, is_some, map, min, not, refl, ◌≡◌}
use Rattle.std.specs.declared.cmp.Ordering.{Ordering}
use Rattle.std.specs.declared.ops.Bound.{Bound}
use Rattle.std.specs.declared.ops.Bound.TheVariants.{Included, Excluded, Unbounded}
use Rattle.std.specs.Ordering.{nat_cmp, ordering_then}
use Rattle.std.specs.Coded.{Coded, code_by, coded×, coded_bool, coded_list, coded_option, coded_ℕ}
use Rattle.std.specs.FinMap.{FinMap, code, entries, get, insert, remove}
use Rattle.fjall_base.specs.Limits.{item_refusal}
use Rattle.fjall_base.specs.Pairs.{Bytes, KeyRange, Pairs, byte_order, is_within}
use Rattle.fjall_base.specs.Store.{written}
use Rattle.fjall_journal.specs.Ops.{BatchItem, bytes_in, item_in, value_in}
use Rattle.fjall_journal.specs.declared.op.Op.{Op}
use Rattle.fjall_journal.specs.declared.op.Op.TheVariants.{Put, Remove, RemoveWeak}
use Rattle.fjall_tx.specs.declared.key.Key.{Key}

-- the key of this keyspace
abbrev pub key_of : ℕ → Bytes → Key
key_of id key = record { keyspace_id = id; key = key }

-- by keyspace, then by key
abbrev pub key_order : Key → Key → Ordering
key_order p q = ordering_then (nat_cmp p.keyspace_id q.keyspace_id) (byte_order p.key q.key)

-- where the keys of a keyspace from a range's start on begin
abbrev pub start_at : ℕ → Bound Bytes → Bound Key
start_at id (Included key) = Included (key_of id key)
start_at id (Excluded key) = Excluded (key_of id key)
start_at id Unbounded = Included (key_of id [])

-- keys of keyspaces, each with what was last written there
abbrev pub Own : Type 0
Own = FinMap key_order Op

-- ---- how it is stored

-- a write, as its value, where it has one, and whether it is a weak removal
abbrev pub op_parts : Op → Option Bytes × Bool
op_parts (Put value) = (Some value, false)
op_parts Remove = (None, false)
op_parts RemoveWeak = (None, true)

-- the removal, a weak one or the other
abbrev pub removal : Bool → Op
removal true = RemoveWeak
removal false = Remove

-- the write that has these parts
abbrev pub op_from : Option Bytes × Bool → Op
op_from (Some value, weak) = Put value
op_from (None, weak) = removal weak

-- the parts of a write give it back
pub op_back : (op : Op) → op_from (op_parts op) ≡ op
op_back (Put value) = refl
op_back Remove = refl
op_back RemoveWeak = refl

-- a key is stored as the pair of its fields, and a write by its parts
abbrev pub own_code : Coded Own
own_code =
    code
    (code_by (ℕ × Bytes) (coded× coded_ℕ (coded_list coded_ℕ)) (λ k. (k.keyspace_id, k.key)) (λ p. key_of p.0 p.1) (λ _. refl))
    (code_by (Option Bytes × Bool) (coded× (coded_option (coded_list coded_ℕ)) coded_bool) op_parts op_from op_back)

-- ---- what is written

-- an entry as the item of a batch
abbrev pub item_of : Key × Op → BatchItem
item_of entry = (entry.0.keyspace_id, entry.0.key, entry.1)

-- all of it as the items of one batch, by keyspace and by key, each key once
abbrev pub items_of : Own → List BatchItem
items_of own = map item_of (entries own)

-- an entry that a batch can have: its key and its value have lengths that can be written
abbrev pub IsWritable : Key × Op → Type 0
IsWritable entry = item_refusal entry.0.key (bytes_in entry.1) ≡ None

-- with these items written one behind another, so that the last of equal keys counts
abbrev pub with_writes : Own → List BatchItem → Own
with_writes own [] = own
with_writes own (item ∷ items) = with_writes (insert own (key_of item.0 item.1) item.2) items

-- ---- what is taken back

-- a key, and what was written there before a write that is to be taken back
abbrev pub Earlier : Type 0
Earlier = Key × Option Op

-- what it had before: this again, or nothing
abbrev pub put_back : Own → Earlier → Own
put_back own (key, Some op) = insert own key op
put_back own (key, None) = remove own key

-- without the last writes of these keys, the last of all taken back first
abbrev pub taken_back : Own → List Earlier → Own
taken_back own [] = own
taken_back own (last ∷ others) = taken_back (put_back own last) others

-- Each of these keys was written, the last of all first, and what it had before can be written again.
abbrev pub CanTakeBack : Own → List Earlier → Type 0
CanTakeBack own [] = Unit {0}
CanTakeBack own (last ∷ others) = IsSome (get own last.0) × IfSome last.1 (λ op. IsWritable (last.0, op)) × CanTakeBack (put_back own last) others

-- ---- what is seen

-- the maps that the transaction sees, where it reads these
abbrev pub own_written : FinMap nat_cmp Pairs → Own → FinMap nat_cmp Pairs
own_written maps own = written maps (map item_in (items_of own))

-- whether an entry is of this keyspace and its key lies between the bounds
abbrev pub is_of : ℕ → KeyRange → Key × Op → Bool
is_of id range entry = (entry.0.keyspace_id == id) && is_within range entry.0.key

-- whether a write takes its key away
abbrev pub is_removal : Op → Bool
is_removal op = not (is_some (value_in op))

-- how many keys of a keyspace between the bounds were taken away
abbrev pub removals : Own → ℕ → KeyRange → ℕ
removals own id range = count_by (λ entry. is_removal entry.1) (filter (is_of id range) (entries own))

-- How many pairs of a view are read for a page of so many: one more for each that is taken away, and at most the greatest usize.
abbrev pub wanted : Own → ℕ → KeyRange → ℕ → ℕ
wanted own id range max = min (max + removals own id range) (2 ^ 64 - 1)
