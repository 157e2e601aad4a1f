-- Bulk writes, whose keys come one above the other.
use Rattle.std.specs.Prelude.{◌≡◌, Bool, true, List, [], ◌∷◌, ◌++◌, Option, Some, None, if◌then◌else◌, All, AllPairs}
use Rattle.std.specs.Option.{option_map_or, option_or}
use Rattle.std.specs.Ordering.{is_lt}
use Rattle.std.specs.declared.cmp.Ordering.TheVariants.{Less}
use Rattle.fjall_base.specs.Limits.{item_refusal}
use Rattle.fjall_base.specs.Lists.{last_of}
use Rattle.fjall_base.specs.Pairs.{Bytes, byte_order}
use Rattle.fjall_base.specs.declared.error.Error.{Error}
use Rattle.fjall_base.specs.declared.error.Error.TheVariants.{KeyOrder}
use Rattle.fjall_journal.specs.Ops.{bytes_in}
use Rattle.fjall_journal.specs.declared.op.Op.{Op}

-- a key, and what becomes of it
abbrev pub KeyOp : Type 0
KeyOp = Bytes × Op

-- whose it is, and its items in the order in which they were written
pub record Ascending (H : Type 0) : Type 0 where
  pub handle : H
  pub items : List KeyOp

-- each key is below all that follow
abbrev pub KeysAscend : List KeyOp → Type 0
KeysAscend items = AllPairs (λ a b. byte_order a.0 b.0 ≡ Less) items

-- no key and no value is one that can't be written
abbrev pub AreWritable : List KeyOp → Type 0
AreWritable items = All (λ item. item_refusal item.0 (bytes_in item.1) ≡ None) items

-- What is so of the items of every bulk write.
pub record IsIngestible (items : List KeyOp) : Type 0 where
  pub ascend : KeysAscend items
  pub writable : AreWritable items

-- it with one item more, the last one
abbrev pub with_item : {H : Type 0} → KeyOp → Ascending H → Ascending H
with_item item ingestion = record ingestion { items = ingestion.items ++ item ∷ [] }

-- whether the key is above the last one of these; above none is every key
abbrev pub is_above_last : Bytes → List KeyOp → Bool
is_above_last key items = option_map_or (λ last. is_lt (byte_order last.0 key)) (last_of items) true

-- Why an item is not taken behind these: its key or its value is one that can't be written, before the key is out of order.
abbrev pub ingestion_refusal : KeyOp → List KeyOp → Option Error
ingestion_refusal item items = option_or (item_refusal item.0 (bytes_in item.1)) (if is_above_last item.0 items then None else Some KeyOrder)
