-- Which blocks of a table may hold keys between two bounds.
use Rattle.std.specs.Prelude.{ℕ, ◌-◌, List, length}
use Rattle.std.specs.declared.ops.Bound.{Bound}
use Rattle.std.specs.declared.ops.Bound.TheVariants.{Included, Excluded, Unbounded}
use Rattle.fjall_base.specs.Pairs.{Bytes}
use Rattle.fjall_table.specs.Tables.{Handle}
use Rattle.fjall_table.specs.TableReading.{blocks_below, blocks_up_to}

-- the first block that may hold a key from a start on
abbrev pub first_block : Bound Bytes → List Handle → ℕ
first_block (Included key) handles = blocks_below key handles - 1
first_block (Excluded key) handles = blocks_below key handles - 1
first_block Unbounded handles = 0

-- the block behind the last one that may hold a key up to an end
abbrev pub last_block : Bound Bytes → List Handle → ℕ
last_block (Included key) handles = blocks_up_to key handles
last_block (Excluded key) handles = blocks_up_to key handles
last_block Unbounded handles = length handles
