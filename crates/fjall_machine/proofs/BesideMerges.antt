-- What is known of a flush stays known beside merges.
use Rattle.std.proofs.Common.{ℕ, List, refl, arith}
use Rattle.fjall_table_reader.specs.Readers.{Reader}
use Rattle.fjall_jobs.specs.Tasks.{Task}
use Rattle.fjall_tree.specs.Jobs.{merge_begun, merge_dropped, merge_finished}
use Rattle.fjall_tree.specs.Trees.{Merging}
use Rattle.fjall_manifest.specs.Records.{Fields}
use Rattle.fjall_trees.specs.Forests.{Forest}
use Rattle.fjall_trees.specs.Tables.{AreSameTrees}
use Rattle.fjall_trees.proofs.Outstanding.{flushing_begun, flushing_merge_dropped, flushing_merged}
use Rattle.fjall_machine.specs.Remembered.{KnowsTask, Remembered, merge_gone_in_memory, merge_out_in_memory, with_merge, with_merge_done, with_trees}
use Rattle.fjall_machine.proofs.Knowing.{after_read, flush_altered, known_on}

module _ (m : Remembered) (task : Task) where
  pub beside_begun : (id : ℕ) (trees : Forest) → AreSameTrees (merge_out_in_memory id m).trees trees → KnowsTask m task → KnowsTask (with_trees trees (merge_out_in_memory id m)) task
  beside_begun id trees same knows =
      let change = merge_begun m.next_job m.tickets.watermark in
      after_read (merge_out_in_memory id m) task trees same
      (known_on m (merge_out_in_memory id m) task (omega arith) (flush_altered task.keyspace id change (λ shape. refl) m.trees) (λ is. flushing_begun task.keyspace m.trees task is id m.next_job m.tickets.watermark) knows)

  pub beside_dropped : (id : ℕ) → KnowsTask m task → KnowsTask (merge_gone_in_memory id m) task
  beside_dropped id = known_on m (merge_gone_in_memory id m) task (omega arith) (flush_altered task.keyspace id merge_dropped (λ shape. refl) m.trees) (λ is. flushing_merge_dropped task.keyspace m.trees task is id)

  pub beside_finished : (id : ℕ) (out : Merging) (readers : List Reader) (last : Fields) → KnowsTask m task → KnowsTask (with_merge id out readers last m) task
  beside_finished id out readers last =
      known_on m (with_merge id out readers last m) task (omega arith) (flush_altered task.keyspace id (merge_finished readers out) (λ shape. refl) m.trees) (λ is. flushing_merged task.keyspace m.trees task is id readers out)

  pub beside_counted : KnowsTask m task → KnowsTask (with_merge_done m) task
  beside_counted knows = (knows.0, knows.1, knows.2)
