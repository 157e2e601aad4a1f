-- The input of a merge.
use Rattle.std.specs.Prelude.{List, map, Vec}
use Rattle.std.specs.declared.alloc.Global.{Global}
use Rattle.std.specs.declared.sync.Arc.{Arc}
use Rattle.fjall_table.specs.Blocks.{Entry}
use Rattle.fjall_memtable.specs.Sorted.{flat}
use Rattle.fjall_jobs.specs.Blocks.{entries_in}

-- the versions of each of these tables, by its blocks
abbrev pub table_runs : List (Vec (Arc (List Entry) Global) Global) → List (List Entry)
table_runs tables = map (λ table. flat (entries_in table.items)) tables
