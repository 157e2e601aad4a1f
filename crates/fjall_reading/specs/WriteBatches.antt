-- Batches of writes that no engine has taken yet.
use Rattle.std.specs.Prelude.{◌-◌, ◌^◌, Bool, List, [], ◌∷◌, ◌++◌, Option, Some, None, if◌then◌else◌, length, nat_le}
use Rattle.std.specs.Option.{option_or}
use Rattle.fjall_base.specs.Pairs.{Bytes}
use Rattle.fjall_base.specs.Limits.{item_refusal}
use Rattle.fjall_base.specs.declared.error.Error.{Error}
use Rattle.fjall_base.specs.declared.error.Error.TheVariants.{TooManyItems}
use Rattle.fjall_journal.specs.Ops.{BatchItem, bytes_in}
use Rattle.fjall_journal.specs.declared.persist_mode.PersistMode.{PersistMode}

-- whose it is, its items in the order in which they were written, and the mode in which it is persisted, where it has one
pub record WriteBatch (H : Type 0) : Type 0 where
  pub handle : H
  pub items : List BatchItem
  pub mode : Option PersistMode

-- the batch with one item more, the last one
abbrev pub with_item : {H : Type 0} → BatchItem → WriteBatch H → WriteBatch H
with_item item batch = record batch { items = batch.items ++ item ∷ [] }

-- a batch has at most 4,294,967,295 items, and has as many
abbrev pub is_full : List BatchItem → Bool
is_full items = nat_le (2 ^ 32 - 1) (length items)

-- Why a key and a value are not taken behind these items: they are such that no item can have them, before there are too many.
abbrev pub refusal_of : Bytes → Bytes → List BatchItem → Option Error
refusal_of key value items = option_or (item_refusal key value) (if is_full items then Some TooManyItems else None)

-- the same of a write
abbrev pub write_refusal : BatchItem → List BatchItem → Option Error
write_refusal item items = refusal_of item.1 (bytes_in item.2) items
