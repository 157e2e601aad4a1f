-- What an open transaction of an index keeps.
use Rattle.std.specs.Prelude.{◌≡◌, ℕ, List, Option, Vec, map}
use Rattle.std.specs.declared.alloc.Global.{Global}
use Rattle.std.specs.BTreeMap.{insert_entry}
use Rattle.fjall_base.specs.Pairs.{Bytes, byte_order}
use Rattle.fjall_journal.specs.Ops.{BatchItem, item_in}
use Rattle.fjall_index_entries.specs.Index.{FieldOf}
use Rattle.fjall_index_entries.specs.Putting.{put_items}

-- a key of the main keyspace that was changed, with what that writes
abbrev pub Change : Type 0
Change = Bytes × Vec BatchItem Global

-- What is kept of a key is just what its new value, or none, writes to both keyspaces where it had some value before, or none; what is kept of others stays.
pub record KeepsChange (field : FieldOf) (main index : ℕ) (key : Bytes) (new : Option Bytes) (before after : List Change) : Type 0 where
  pub old : Option Bytes
  pub batch : Vec BatchItem Global
  pub is : map item_in batch.items ≡ put_items field main index key old new
  pub kept : after ≡ insert_entry byte_order before key batch
