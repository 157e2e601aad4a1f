-- What stands before some place in a table's order.
use Rattle.std.specs.Prelude.{ℕ, Bool, not, List, Option, Some, None}
use Rattle.std.specs.Ordering.{is_lt}
use Rattle.std.specs.declared.ops.Bound.{Bound}
use Rattle.std.specs.BTreeMap.Range.{is_from_start, is_past_end}
use Rattle.fjall_base.specs.Pairs.{Bytes, byte_order}
use Rattle.fjall_table.specs.Blocks.{Entry}
use Rattle.fjall_table.specs.TableReading.{is_ahead}

-- whether an entry stands before all those of a key that are numbered below an instant, or, with none, before all of the key
abbrev pub stands_ahead : List ℕ → Option ℕ → Entry → Bool
stands_ahead key (Some instant) e = is_ahead (byte_order e.key key) e.number instant
stands_ahead key None e = is_lt (byte_order e.key key)

-- whether an entry stands before a range that begins there
abbrev pub before_start : Bound Bytes → Entry → Bool
before_start start e = not (is_from_start byte_order start e.key)

-- whether an entry isn't past a range that ends there
abbrev pub up_to_end : Bound Bytes → Entry → Bool
up_to_end end e = not (is_past_end byte_order end e.key)
