-- Jobs that are out, and what a tree is once they are finished.
use Rattle.std.specs.Prelude.{◌≡◌, ◌≢◌, ◌⊎◌, ℕ, ◌+◌, ◌<◌, ◌≤◌, ◌==◌, Bool, false, List, [], ◌++◌, count_by, Option, Some, None, length, map, take, drop, vec_len, vec_capacity}
use Rattle.std.specs.List.{All}
use Rattle.fjall_table.specs.Blocks.{Entry}
use Rattle.fjall_memtable.specs.Jobs.{AreBelow, AreFrom, merged_clears}
use Rattle.fjall_memtable.specs.Sorted.{flat}
use Rattle.fjall_table_reader.specs.Readers.{Reader}
use Rattle.fjall_memtable.specs.Parts.{HeldPart, Memory, clears_in}
use Rattle.fjall_jobs.specs.Tasks.{Task}
use Rattle.fjall_tree.specs.declared.tree.Tree.{Tree}
use Rattle.fjall_tree.specs.Trees.{Flushing, Merging, Shape, first_from, floor_of, is_l0}

-- ---- what a job is begun with

-- a flush of all these sealed parts
abbrev pub flush_of : (id keyspace watermark : ℕ) → List HeldPart → Task
flush_of id keyspace watermark sealed = record { id = id; keyspace = keyspace; watermark = watermark; runs = map (λ h. h.versions) sealed; clears = clears_in sealed }

-- a merge of all tables, which have these entries, and of all clears of the record
abbrev pub merge_of : (id keyspace watermark : ℕ) → List (List Entry) → List ℕ → Task
merge_of id keyspace watermark entries clears = record { id = id; keyspace = keyspace; watermark = watermark; runs = entries; clears = clears }

-- the tree with this flush out, which has all sealed parts
abbrev pub flush_begun : (id watermark : ℕ) → Shape → Shape
flush_begun id watermark shape = record shape { flush = Some (record { id = id; watermark = watermark; count = length shape.memory.sealed }) }

-- the tree with this merge out, which has all tables and all clears of the record
abbrev pub merge_begun : (id watermark : ℕ) → Shape → Shape
merge_begun id watermark shape =
    record shape { merge = Some (record { id = id; watermark = watermark; tables = length shape.tables; clears = length shape.clears; bound = floor_of shape.memory }) }

-- how many sealed parts a flush that is out was begun with; none where none is out
abbrev pub count_out : Option Flushing → ℕ
count_out None = 0
count_out (Some out) = out.count

-- where the parts of memory begin that a flush that is out leaves: all that it takes is numbered below
abbrev pub flush_end : Shape → ℕ
flush_end shape = first_from (drop (count_out shape.flush) shape.memory.sealed) shape.memory.active

-- the tree with no flush out
abbrev pub flush_dropped : Shape → Shape
flush_dropped shape = record shape { flush = None }

-- how many of the oldest tables, and of the record's first clears, a merge that is out was begun with
abbrev pub input_of : Merging → ℕ × ℕ
input_of out = (out.tables, out.clears)

-- the tree with no merge out
abbrev pub merge_dropped : Shape → Shape
merge_dropped shape = record shape { merge = None }

-- nothing is there to be merged, or too little, or a merge is out
abbrev pub MergesNothing : ℕ → Shape → Type 0
MergesNothing least shape = (shape.tables ≡ []) ⊎ ((count_by (λ t. is_l0 t.info.level) shape.tables < least) ⊎ (shape.merge ≢ None))

-- ---- jobs that are out

-- whether a flush of this number is out, or a merge
abbrev pub is_flush_out : ℕ → Option Flushing → Bool
is_flush_out id None = false
is_flush_out id (Some out) = id == out.id

abbrev pub is_merge_out : ℕ → Option Merging → Bool
is_merge_out id None = false
is_merge_out id (Some out) = id == out.id

-- A flush that is out was begun with this task: with the versions and clears of the oldest sealed parts.
pub record IsFlushing (shape : Shape) (task : Task) : Type 0 where
  pub out : Flushing
  pub is : shape.flush ≡ Some out
  pub id : task.id ≡ out.id
  pub watermark : task.watermark ≡ out.watermark
  pub within : out.count ≤ length shape.memory.sealed
  pub runs : task.runs ≡ map (λ h. h.versions) (take out.count shape.memory.sealed)
  pub clears : task.clears ≡ clears_in (take out.count shape.memory.sealed)

-- A merge that is out was begun with this task, where the tables have these entries: with the entries of the oldest tables
-- and the first clears of the record. All these are numbered below its bound, and what came since from it on.
pub record IsMerging (shape : Shape) (entries : List (List Entry)) (task : Task) : Type 0 where
  pub out : Merging
  pub is : shape.merge ≡ Some out
  pub id : task.id ≡ out.id
  pub watermark : task.watermark ≡ out.watermark
  pub within : out.tables ≤ length entries
  pub within_clears : out.clears ≤ length shape.clears
  pub runs : task.runs ≡ take out.tables entries
  pub clears : task.clears ≡ take out.clears shape.clears
  pub below : AreBelow out.bound (flat task.runs)
  pub clears_below : All (λ n. n < out.bound) task.clears
  pub from : AreFrom out.bound (flat (drop out.tables entries))
  pub floor : out.bound ≤ floor_of shape.memory

-- ---- finished jobs

-- without the oldest sealed parts
abbrev pub without_sealed : ℕ → Memory → Memory
without_sealed count memory = record memory { sealed = drop count memory.sealed }

-- the tables that a flush made stand behind all others, the clears of its input in the record, and its input is gone
abbrev pub flush_finished : List Reader → Flushing → Shape → Shape
flush_finished made out shape = record {
  tables = shape.tables ++ made;
  clears = shape.clears ++ clears_in (take out.count shape.memory.sealed);
  memory = without_sealed out.count shape.memory;
  flush = None;
  merge = shape.merge;
}

-- the tables that a merge made stand in the place of its input, and of the clears that it was begun with those stay that its
-- watermark doesn't reach
abbrev pub merge_finished : List Reader → Merging → Shape → Shape
merge_finished made out shape = record {
  tables = made ++ drop out.tables shape.tables;
  clears = merged_clears out.watermark (take out.clears shape.clears) ++ drop out.clears shape.clears;
  memory = shape.memory;
  flush = shape.flush;
  merge = None;
}

-- ---- in memory

-- There is room for so many tables and so many clears more.
pub record HasRoomForTables (tree : Tree) (table_count clear_count : ℕ) : Type 0 where
  pub tables : vec_len tree.tables + table_count ≤ vec_capacity tree.tables
  pub clears : vec_len tree.clears + clear_count ≤ vec_capacity tree.clears
