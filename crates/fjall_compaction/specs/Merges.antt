-- A finished merge, and what it makes of a keyspace's record, of its home, and of the tree.
use Rattle.std.specs.Prelude.{◌≡◌, ℕ, ◌+◌, ◌<◌, ◌^◌, List, [], ◌∷◌, ◌++◌, All, IfSome, drop, length, take}
use Rattle.fjall_compaction.specs.Flushes.{texts_of}
use Rattle.fjall_manifest.specs.Homes.{Home}
use Rattle.fjall_jobs.specs.declared.made_table.MadeTable.{MadeTable}
use Rattle.fjall_jobs.specs.declared.merge_made.MergeMade.{MergeMade}
use Rattle.fjall_jobs.specs.Made.{merge_clears, merge_tables}
use Rattle.fjall_jobs.specs.Sequences.{AreMadeTables}
use Rattle.fjall_recovery.specs.Halves.{Tree, with_home_at}
use Rattle.fjall_memtable.specs.Sorted.{flat}
use Rattle.fjall_table.specs.declared.level.Level.TheVariants.{L1}
use Rattle.fjall_table.specs.declared.table_info.TableInfo.{TableInfo}
use Rattle.fjall_table.specs.Blocks.{Entry, IsOrdered}
use Rattle.fjall_manifest.specs.Records.{Fields}
use Rattle.fjall_memtable.specs.Jobs.{AreBelow, AreFrom, Same, merged, merged_clears}

-- A merge of a keyspace: how many of its tables it takes, and how many of the clears of its record, the oldest ones; the tables that it
-- made of them, and the clears that stay of those.
pub record Merge : Type 0 where
  pub table_count : ℕ
  pub clear_count : ℕ
  pub tables : List MadeTable
  pub clears : List ℕ

-- what a merge made that takes so many tables and clears
abbrev pub merge_of : ℕ × ℕ → MergeMade → Merge
merge_of input made = record { table_count = input.0; clear_count = input.1; tables = merge_tables made; clears = merge_clears made }

-- ---- the record

-- what a record says of tables that a merge made: their ids follow one another from this one on, and they stand at level 1
abbrev pub merged_infos : ℕ → List MadeTable → List TableInfo
merged_infos next [] = []
merged_infos next (t ∷ tables) = record { id = next; level = L1; file_len = length t.bytes.items; entry_count = t.entry_count } ∷ merged_infos (next + 1) tables

-- The record after a merge: its tables stand in the place of those that it takes, and the clears that stay in the place of those that
-- it takes. The numbers are as they were.
abbrev pub record_after_merge : Merge → Fields → Fields
record_after_merge m last = record {
  persisted = last.persisted;
  highest = last.highest;
  next_table_id = last.next_table_id + length m.tables;
  next_keyspace_id = last.next_keyspace_id;
  tables = merged_infos last.next_table_id m.tables ++ drop m.table_count last.tables;
  clears = m.clears ++ drop m.clear_count last.clears;
}

-- A merge that was begun with the oldest tables and clears of a keyspace, whose tables have these entries and whose last record this is,
-- made tables of those entries that its watermark neither hides nor has spent, and left the clears that its watermark doesn't reach. All
-- that it takes is numbered below a bound, and the tables that came since hold what is numbered from it on. Numbers end at 2^63.
pub record MergesTables (m : Merge) (lists entries : List (List Entry)) (last : Fields) : Type 0 where
  pub watermark : ℕ
  pub persisted : IfSome last.persisted (λ n. n < 2 ^ 63)
  pub bound : ℕ
  pub made : AreMadeTables m.tables lists
  pub ordered : IsOrdered (flat lists)
  pub kept : Same (flat lists) (merged watermark (take m.clear_count last.clears) (flat (take m.table_count entries)))
  pub clears : m.clears ≡ merged_clears watermark (take m.clear_count last.clears)
  pub below : AreBelow bound (flat (take m.table_count entries))
  pub clears_below : All (λ n. n < bound) (take m.clear_count last.clears)
  pub from : AreFrom bound (flat (drop m.table_count entries))

-- ---- the home and the tree

-- the home after a merge
abbrev pub home_after : Merge → Home → Home
home_after m h = record { last = record_after_merge m h.last; texts = texts_of m.tables ++ drop m.table_count h.texts }

-- what the tables of the keyspace have after a merge that made these lists
abbrev pub entries_after : Merge → (lists entries : List (List Entry)) → List (List Entry)
entries_after m lists entries = lists ++ drop m.table_count entries

-- The tree after a merge of the keyspace of this id, which had that home with these entries in its tables.
abbrev pub tree_after : ℕ → Merge → List (List Entry) → Home → List (List Entry) → Tree → Tree
tree_after id m lists h entries t = with_home_at id (home_after m h) (flat (entries_after m lists entries)) t
