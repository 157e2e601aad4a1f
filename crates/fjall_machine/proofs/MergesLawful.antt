-- What merges leave lawful.
use Rattle.std.proofs.Common.{◌≡◌, ℕ, ◌+◌, ◌-◌, ◌<◌, ◌^◌, true, List, refl, ◌∙◌, arith}
use Rattle.std.proofs.lemmas.List.Elements.{All-weaker}
use Rattle.std.specs.FinMap.{get, insert}
use Rattle.std.specs.Option.{is_some}
use Rattle.fjall_table_reader.specs.Readers.{Reader}
use Rattle.fjall_tree.specs.Jobs.{merge_begun, merge_dropped, merge_finished}
use Rattle.fjall_tree.specs.Trees.{Merging}
use Rattle.fjall_trees.specs.MapTables.{LeavesMemory}
use Rattle.fjall_trees.proofs.Alike.{changed_alike_before, changed_alike_forest, changed_alike_has, merge_leaves}
use Rattle.fjall_trees.proofs.Finished.{merged_before, merged_forest, merged_has}
use Rattle.fjall_meta.specs.declared.living.LivingKeyspace.{LivingKeyspace}
use Rattle.fjall_manifest.specs.Records.{Fields}
use Rattle.fjall_trees.specs.Forests.{altered_at}
use Rattle.fjall_machine.specs.Remembered.{IsFlushBegun, IsLawful, IsMergeBegun, Remembered, merge_gone_in_memory, merge_out_in_memory, with_merge, with_merge_done}
use Rattle.fjall_machine.proofs.Flushing.{ids_stay, still_planted}
use Rattle.fjall_machine.proofs.Lawful.{alike, all_begun_later, all_merges_begun_later, other_kept, still_kept}
use Rattle.fjall_machine.proofs.SameTrees.{altered_flushes, given_merges}

-- a merge that is begun now, or one from before, was begun
pub merge_out_is_lawful : (id : ℕ) (m : Remembered) → IsLawful m → m.next_job < 2 ^ 64 - 1 → IsLawful (merge_out_in_memory id m)
merge_out_is_lawful id m is small =
    let w = m.tickets.watermark in
    let change = merge_begun m.next_job w in
    let leaves = merge_leaves m.next_job w in
    record {
      keyspaces = is.keyspaces;
      made = is.made;
      forest = changed_alike_forest change leaves id m.trees is.forest;
      planted = still_planted m (altered_at id change m.trees) (changed_alike_has change leaves id m.trees) is.planted;
      given = ids_stay m.keyspaces.next id change m.trees is.given;
      below = changed_alike_before change leaves id m.trees m.next is.below;
      small = is.small;
      reached = is.reached;
      spared = is.spared;
      above = is.above;
      recorded = is.recorded;
      kept = is.kept;
      begun = altered_flushes (IsFlushBegun (m.next_job + 1) w) m.trees (all_begun_later m.next_job (m.next_job + 1) w w m.trees (omega arith) (omega arith) is.begun) id change (λ shape. refl);
      merging = given_merges (IsMergeBegun (m.next_job + 1) w) m.trees (all_merges_begun_later m.next_job (m.next_job + 1) w w m.trees (omega arith) (omega arith) is.merging) id change
          (λ shape. (omega arith, omega arith));
      jobs = omega (arith, small);
    }

pub dropped_leaves : LeavesMemory merge_dropped
dropped_leaves shape = (refl, refl)

pub merge_gone_is_lawful : (id : ℕ) (m : Remembered) → IsLawful m → IsLawful (merge_gone_in_memory id m)
merge_gone_is_lawful id m is = record {
  keyspaces = is.keyspaces;
  made = is.made;
  forest = changed_alike_forest merge_dropped dropped_leaves id m.trees is.forest;
  planted = still_planted m (altered_at id merge_dropped m.trees) (changed_alike_has merge_dropped dropped_leaves id m.trees) is.planted;
  given = ids_stay m.keyspaces.next id merge_dropped m.trees is.given;
  below = changed_alike_before merge_dropped dropped_leaves id m.trees m.next is.below;
  small = is.small;
  reached = is.reached;
  spared = is.spared;
  above = is.above;
  recorded = is.recorded;
  kept = is.kept;
  begun = altered_flushes (IsFlushBegun m.next_job m.tickets.watermark) m.trees is.begun id merge_dropped (λ shape. refl);
  merging = given_merges (IsMergeBegun m.next_job m.tickets.watermark) m.trees is.merging id merge_dropped (λ shape. tt);
  jobs = is.jobs;
}

pub merge_done_is_lawful : (m : Remembered) → IsLawful m → IsLawful (with_merge_done m)
merge_done_is_lawful m is = alike m (with_merge_done m) is refl refl refl refl refl refl

-- of a keyspace whose id was given out
pub merged_is_lawful : (id : ℕ) (out : Merging) (readers : List Reader) (last : Fields) (m : Remembered) → IsLawful m → id < m.keyspaces.next → IsLawful (with_merge id out readers last m)
merged_is_lawful id out readers last m is given =
    let change = merge_finished readers out in
    record {
      keyspaces = is.keyspaces;
      made = is.made;
      forest = merged_forest readers out id m.trees is.forest;
      planted = still_planted m (altered_at id change m.trees) (λ other. merged_has readers out id other m.trees) is.planted;
      given = ids_stay m.keyspaces.next id change m.trees is.given;
      below = merged_before readers out m.next id m.trees is.below;
      small = is.small;
      reached = is.reached;
      spared = is.spared;
      above = is.above;
      recorded = All-weaker (λ (k : LivingKeyspace). is_some (get m.records k.id) ≡ true) (λ k. is_some (get (insert m.records id last) k.id) ≡ true) (λ k h. still_kept m.records id last k.id h) m.keyspaces.living is.recorded;
      kept = λ other le. other_kept m.records id last other (λ same. absurd (omega (arith, given, le, same))) ∙ is.kept other le;
      begun = altered_flushes (IsFlushBegun m.next_job m.tickets.watermark) m.trees is.begun id change (λ shape. refl);
      merging = given_merges (IsMergeBegun m.next_job m.tickets.watermark) m.trees is.merging id change (λ shape. tt);
      jobs = is.jobs;
    }
