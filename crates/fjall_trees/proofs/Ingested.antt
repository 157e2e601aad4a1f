-- What an ingestion leaves of what the tables hold on a disk.
use Rattle.std.proofs.Common.{◌≡◌, ℕ, ◌≤◌, ◌^◌, List, ◌++◌, All, Some}
use Rattle.fjall_base.specs.Disk.{Meaning}
use Rattle.fjall_table.specs.Blocks.{Entry}
use Rattle.fjall_table_reader.specs.Readers.{AreRead, Reader}
use Rattle.fjall_memtable.specs.Jobs.{OnceEach}
use Rattle.fjall_memtable.specs.Sorted.{flat}
use Rattle.fjall_jobs.specs.declared.made_table.MadeTable.{MadeTable}
use Rattle.fjall_jobs.specs.Tasks.{IsFlushed}
use Rattle.fjall_tree.specs.Ingestions.{ingested, memory_task}
use Rattle.fjall_tree.specs.Trees.{ReadsAll, Shape}
use Rattle.fjall_tree.proofs.Ingested.{ingested_read}
use Rattle.fjall_trees.specs.Forests.{Forest, IsForest, IsTree, altered_at, tree_at}
use Rattle.fjall_trees.specs.Tables.{AreReadOn, entries_with}
use Rattle.fjall_trees.proofs.Changing.{altered_keeps, tree_under}
use Rattle.fjall_trees.proofs.Places.{tree_has}

pub ingested_stays_read : (disk : Meaning) (trees : Forest) (entries : ℕ → List (List Entry)) → IsForest trees → AreReadOn disk trees entries → (id n : ℕ) (shape : Shape) → tree_at id trees ≡ Some shape
    → n ≤ 2 ^ 63 → shape.memory.active.until ≤ n → (keyspace watermark : ℕ) (tables : List MadeTable) (clears : List ℕ) (made : IsFlushed (memory_task keyspace watermark shape.memory) tables clears)
    → (lists : List (List Entry)) → All (λ v. v.number ≡ n) (flat lists) → OnceEach (flat lists) → (readers : List Reader) → AreRead disk readers (made.lists ++ lists)
    → AreReadOn disk (altered_at id (ingested n readers) trees) (entries_with id (entries id ++ (made.lists ++ lists)) entries)
ingested_stays_read disk trees entries forest read id n shape has small until keyspace watermark tables clears made lists at each readers new =
    let tree = tree_has IsTree trees id shape forest.each has in
    let old = tree_under (λ k. ReadsAll disk k.shape (entries k.id)) trees id shape read has in
    altered_keeps (ReadsAll disk) trees entries read forest id shape has (ingested n readers) (entries id ++ (made.lists ++ lists))
    (ingested_read shape tree.held tree.apart keyspace watermark tables clears made n small until (entries id) lists old.below old.once at each disk readers old.tables new)
