-- A finished flush, and what it makes of a keyspace's record, of its home, and of the tree.
use Rattle.std.specs.Prelude.{◌≡◌, ℕ, ◌+◌, ◌<◌, ◌≤◌, ◌^◌, max, true, List, [], ◌∷◌, ◌++◌, All, length, map, Option, Some, None}
use Rattle.std.specs.List.Sorted.{IsStrictlyIncreasing}
use Rattle.std.specs.FinMap.{get}
use Rattle.fjall_table.specs.declared.level.Level.TheVariants.{L0}
use Rattle.fjall_table.specs.declared.table_info.TableInfo.{TableInfo}
use Rattle.fjall_table.specs.Blocks.{Entry}
use Rattle.fjall_meta.specs.Contents.{is_beyond}
use Rattle.fjall_memtable.specs.Sorted.{flat}
use Rattle.fjall_memtable.specs.Jobs.{OnceEach}
use Rattle.fjall_jobs.specs.declared.flush_made.FlushMade.{FlushMade}
use Rattle.fjall_jobs.specs.declared.made_table.MadeTable.{MadeTable}
use Rattle.fjall_jobs.specs.Made.{flush_clears, flush_tables}
use Rattle.fjall_jobs.specs.Sequences.{AreMadeTables}
use Rattle.fjall_manifest.specs.Records.{Fields}
use Rattle.fjall_manifest.specs.Homes.{Home}
use Rattle.fjall_recovery.specs.Halves.{Tree, with_home_at}

-- A flush of a keyspace: the number up to which it covers all changes, the tables that it made, and the clears of its input.
pub record Flush : Type 0 where
  pub number : ℕ
  pub tables : List MadeTable
  pub clears : List ℕ

-- these tables and clears, under that number
abbrev pub flush_with : ℕ → List MadeTable → List ℕ → Flush
flush_with number tables clears = record { number = number; tables = tables; clears = clears }

-- what a flush made, where it covers all up to this number
abbrev pub flush_of : ℕ → FlushMade → Flush
flush_of number made = record { number = number; tables = flush_tables made; clears = flush_clears made }

-- ---- the record

-- the greater of a number and of one that there may be
abbrev pub raised : Option ℕ → ℕ → ℕ
raised None number = number
raised (Some other) number = max other number

-- what a record says of tables that were made: their ids follow one another from this one on, and they stand at level 0
abbrev pub flushed_infos : ℕ → List MadeTable → List TableInfo
flushed_infos next [] = []
flushed_infos next (t ∷ tables) = record { id = next; level = L0; file_len = length t.bytes.items; entry_count = t.entry_count } ∷ flushed_infos (next + 1) tables

-- The record after a flush: its tables and its clears stand behind those that were there, and both numbers reach the flush's.
abbrev pub record_after_flush : Flush → Fields → Fields
record_after_flush f last = record {
  persisted = Some (raised last.persisted f.number);
  highest = Some (raised last.highest f.number);
  next_table_id = last.next_table_id + length f.tables;
  next_keyspace_id = last.next_keyspace_id;
  tables = last.tables ++ flushed_infos last.next_table_id f.tables;
  clears = last.clears ++ f.clears;
}

-- Nothing that a flush made is beyond its number, with these as its tables' entries, and its clears ascend behind the record's. Its
-- versions are beyond the persisted number, and no key has two of one number.
pub record Follows (f : Flush) (lists : List (List Entry)) (last : Fields) : Type 0 where
  pub small : f.number < 2 ^ 63
  pub made : AreMadeTables f.tables lists
  pub versions : All (λ v. v.number ≤ f.number) (flat lists)
  pub beyond : All (λ v. is_beyond last.persisted v.number ≡ true) (flat lists)
  pub once : OnceEach (flat lists)
  pub clears : All (λ n. n ≤ f.number) f.clears
  pub ascend : IsStrictlyIncreasing (last.clears ++ f.clears)

-- ---- the home and the tree

-- the bytes of tables that were made
abbrev pub texts_of : List MadeTable → List (List ℕ)
texts_of tables = map (λ t. t.bytes.items) tables

-- the home after a flush
abbrev pub home_after : Flush → Home → Home
home_after f h = record { last = record_after_flush f h.last; texts = h.texts ++ texts_of f.tables }

-- The keyspace of this id has that home in the tree, with these versions in its tables.
pub record HasAt (t : Tree) (id : ℕ) (h : Home) (versions : List Entry) : Type 0 where
  pub home : get t.homes id ≡ Some h
  pub stored : get t.versions id ≡ Some versions

-- The tree after a flush of the keyspace of this id, which had that home with these versions: those that the flush made stand
-- behind them.
abbrev pub tree_after : ℕ → Flush → List (List Entry) → Home → List Entry → Tree → Tree
tree_after id f lists h versions t = with_home_at id (home_after f h) (versions ++ flat lists) t
