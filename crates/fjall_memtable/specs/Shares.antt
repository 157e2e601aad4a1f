-- What shared parts hold.
use Rattle.std.specs.Prelude.{List, map}
use Rattle.std.specs.declared.alloc.Global.{Global}
use Rattle.std.specs.declared.sync.Arc.{Arc}
use Rattle.fjall_memtable.specs.declared.part.Part.{Part}
use Rattle.fjall_memtable.specs.Parts.{HeldPart}
use Rattle.fjall_memtable.specs.Held.{held_of}

-- what these parts hold
abbrev pub shared : List (Arc Part Global) → List HeldPart
shared parts = map (λ part. held_of part.value) parts
