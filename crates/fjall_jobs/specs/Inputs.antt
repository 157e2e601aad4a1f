-- The input of a flush.
use Rattle.std.specs.Prelude.{List, map}
use Rattle.std.specs.declared.alloc.Global.{Global}
use Rattle.std.specs.declared.sync.Arc.{Arc}
use Rattle.fjall_table.specs.Blocks.{Entry}
use Rattle.fjall_memtable.specs.declared.part.Part.{Part}
use Rattle.fjall_memtable.specs.Shares.{shared}

-- the versions of each of these parts
abbrev pub runs_of : List (Arc Part Global) → List (List Entry)
runs_of parts = map (λ h. h.versions) (shared parts)
