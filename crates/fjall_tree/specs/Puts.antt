-- Versions and clears that a tree takes where it has none of their number yet.
use Rattle.std.specs.Prelude.{ℕ, Bool, None, List, [], ◌∷◌, if◌then◌else◌, nat_le}
use Rattle.std.specs.List.{list_any}
use Rattle.fjall_table.specs.Blocks.{Entry}
use Rattle.fjall_memtable.specs.Jobs.{is_at}
use Rattle.fjall_memtable.specs.Parts.{empty_from}
use Rattle.fjall_tree.specs.Trees.{Shape, emptied, written}

-- a tree of nothing, where numbers begin from this one on
abbrev pub bare_tree : ℕ → Shape
bare_tree from = record { tables = []; clears = []; memory = record { sealed = []; active = empty_from from }; flush = None; merge = None }

-- whether the active memtable has a version of that key and number
abbrev pub has_stamp : Entry → Shape → Bool
has_stamp v shape = list_any (is_at v) shape.memory.active.versions

-- the tree with a version more, where it has none of that key and number
unfoldable pub put : Entry → Shape → Shape
put v shape = if has_stamp v shape then shape else written v shape

-- the tree with these versions more: of several of one key and number the last one counts
abbrev pub put_all : List Entry → Shape → Shape
put_all [] shape = shape
put_all (v ∷ vs) shape = put v (put_all vs shape)

-- the tree with a clear more, where all that are in the active memtable are below it
unfoldable pub emptied_once : ℕ → Shape → Shape
emptied_once number shape = if list_any (λ n. nat_le number n) shape.memory.active.clears then shape else emptied number shape
