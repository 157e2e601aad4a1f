-- What a tree keeps of the jobs that are out.
use Rattle.std.specs.Prelude.{◌≡◌, ℕ, ◌≤◌, List, Option, IfSome, length, take}
use Rattle.fjall_table_reader.specs.Readers.{Reader}
use Rattle.fjall_memtable.specs.Parts.{HeldPart, clears_in}
use Rattle.fjall_tree.specs.declared.out.FlushOut.{FlushOut}
use Rattle.fjall_tree.specs.declared.out.MergeOut.{MergeOut}
use Rattle.fjall_tree.specs.Trees.{Flushing, Merging}

abbrev pub flushing : FlushOut → Flushing
flushing out = record { id = out.id; watermark = out.watermark; count = out.count }

abbrev pub merging : MergeOut → Merging
merging out = record { id = out.id; watermark = out.watermark; tables = out.tables; clears = out.clears; bound = out.bound }

-- The flush was begun with parts that are still sealed, and these are their clears.
abbrev pub IsFlushOf : List HeldPart → Option FlushOut → Type 0
IsFlushOf sealed flush = IfSome flush (λ out. (out.count ≤ length sealed) × (out.clears.items ≡ clears_in (take out.count sealed)))

-- The merge was begun with tables and clears that are still there.
abbrev pub IsMergeOf : List Reader → List ℕ → Option MergeOut → Type 0
IsMergeOf tables clears merge = IfSome merge (λ out. (out.tables ≤ length tables) × (out.clears ≤ length clears))
