-- What a page of a tree goes through in memory.
use Rattle.std.specs.Prelude.{Bool, List}
use Rattle.fjall_base.specs.Pairs.{KeyRange}
use Rattle.fjall_table.specs.Blocks.{Entry}
use Rattle.fjall_table.specs.Tables.{entries_within}
use Rattle.fjall_memtable.specs.Sorted.{in_turn}
use Rattle.fjall_memtable.specs.Parts.{HeldPart}

-- the versions of a part between the bounds, as they are gone through
abbrev pub run_of : KeyRange → Bool → HeldPart → List Entry
run_of range back h = in_turn back (entries_within range h.versions)
