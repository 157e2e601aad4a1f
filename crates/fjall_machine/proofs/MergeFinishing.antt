-- A merge that is finished, on the disk and in memory.
use Rattle.std.proofs.Common.{◌≡◌, ℕ, List, Option, None, Some, true, map, take, sym, ap, refl, subst, ◌∙◌}
use Rattle.std.proofs.lemmas.Bool.{true≢false}
use Rattle.std.specs.FinMap.{get}
use Rattle.std.specs.Option.{option_map}
use Rattle.fjall_base.specs.Disk.{Meaning}
use Rattle.fjall_base.specs.declared.error.Error.{Error}
use Rattle.fjall_base.specs.declared.error.Error.TheVariants.{Io}
use Rattle.fjall_table_reader.specs.Readers.{Reader}
use Rattle.fjall_files.specs.Names.{table_name}
use Rattle.fjall_jobs.specs.declared.made_table.MadeTable.{MadeTable}
use Rattle.fjall_jobs.specs.declared.merge_made.MergeMade.{MergeMade}
use Rattle.fjall_jobs.specs.Made.{merge_tables}
use Rattle.fjall_replay.specs.Known.{last_known}
use Rattle.fjall_tree.specs.Jobs.{input_of, is_merge_out}
use Rattle.fjall_tree.specs.Trees.{Merging}
use Rattle.fjall_compaction.specs.declared.merge.plan.MergePlan.{MergePlan}
use Rattle.fjall_compaction.specs.Merges.{Merge, merge_of, record_after_merge}
use Rattle.fjall_compaction.specs.MergePlans.{ForMergeOn, IsMergePlan, IsMergePlanRefusal}
use Rattle.fjall_compaction.proofs.Taking.{named_ids}
use Rattle.fjall_meta.specs.declared.living.LivingKeyspace.{LivingKeyspace}
use Rattle.fjall_meta.specs.Keyspaces.{keyspace_at}
use Rattle.fjall_recovery.specs.Halves.{Tree}
use Rattle.fjall_table.specs.declared.table_info.TableInfo.{TableInfo}
use Rattle.fjall_manifest.specs.Records.{Fields}
use Rattle.fjall_trees.specs.Tables.{shape_in}
use Rattle.fjall_machine.specs.Merging.{AreMergeReaders, AreTaken, ForMerging, IsMergeFinished, IsMergeRefusal, counted_as, keyspace_of}
use Rattle.fjall_machine.specs.Remembered.{IsLawful, Remembered, with_merge}
use Rattle.fjall_machine.proofs.TakenIngestions.{last_found}

-- ---- what is known of a merge that is finished

-- one that is out is there
pub merge_there : (job : ℕ) (merge : Option Merging) → is_merge_out job merge ≡ true → (out : Merging) × (merge ≡ Some out)
merge_there job None out = absurd (true≢false (sym out))
merge_there job (Some out) is = (out, refl)

-- Its keyspace has this last record, and it takes what the merge that is out was begun with.
pub record MayMerge (m : Remembered) (made : MergeMade) (last : Fields) (input : ℕ × ℕ) : Type 0 where
  pub lawful : IsLawful m
  pub known : Some last ≡ get m.records (keyspace_of made)
  pub takes : Some input ≡ option_map input_of (shape_in (keyspace_of made) m.trees).merge

pub may_merge : (a m : Remembered) (made : MergeMade) (last : Fields) (id : ℕ) (input : ℕ × ℕ) → IsLawful a → a ≡ m → id ≡ keyspace_of made → Some last ≡ get a.records id
    → Some input ≡ option_map input_of (shape_in id a.trees).merge → MayMerge m made last input
may_merge a m made last id input is same at known takes = record {
  lawful = subst IsLawful same is;
  known = known ∙ (λ i. get (same i).records (at i));
  takes = takes ∙ (λ i. option_map input_of (shape_in (at i) (same i).trees).merge);
}

module _ (m : Remembered) (made : MergeMade) (last : Fields) (input : ℕ × ℕ) (may : MayMerge m made last input) where
  abbrev id : ℕ
  id = keyspace_of made

  pub last_is : (k : LivingKeyspace) → keyspace_at id m.keyspaces.living ≡ Some k → last ≡ last_known m.records k
  last_is k at = last_found m may.lawful id last may.known k at

  pub input_is : (out : Merging) → (shape_in id m.trees).merge ≡ Some out → input ≡ input_of out
  input_is out was = let same : Some input ≡ Some (input_of out) = may.takes ∙ ap (option_map input_of) was in cc

  pub merge_is : (out : Merging) → (shape_in id m.trees).merge ≡ Some out → merge_of input made ≡ counted_as out made
  merge_is out was = ap (λ (takes : ℕ × ℕ). merge_of takes made) (input_is out was)

  -- ---- refusals

  refused_as : (does : Merge) (before after : ℕ) (error : Error) → IsMergePlanRefusal last does error → IsMergeRefusal last does before after error
  refused_as does before after (Io kind) is = absurd is
  refused_as does before after error is = is

  pub refused : (k : LivingKeyspace) (out : Merging) → keyspace_at id m.keyspaces.living ≡ Some k → (shape_in id m.trees).merge ≡ Some out → (before after : ℕ) (error : Error)
      → IsMergePlanRefusal last (merge_of input made) error → IsMergeRefusal (last_known m.records k) (counted_as out made) before after error
  refused k out at was before after error is =
      let known = last_is k at in
      let does = merge_is out was in
      let Refused : Fields × Merge → Type 0 = λ x. IsMergeRefusal x.0 x.1 before after error in
      subst Refused (λ i. (known i, does i)) (refused_as (merge_of input made) before after error is)

  -- ---- the disk

  -- what is so of a merge as it was planned
  pub on_disk : (disk : Meaning) (plan : MergePlan) → IsMergePlan id last (merge_of input made) plan → (tables : List MadeTable) → merge_tables made ≡ tables → (Holds : ℕ → List Fields → Tree → Tree → Type 0)
      → ForMergeOn disk plan tables (λ records t other next. Holds other records t next) → ForMerging disk m made (λ other records t h does next. Holds other records t next)
  on_disk disk plan planned tables are Holds so k out at was records t h entries lists lies has right same merges =
      let known = last_is k at ∙ sym same in
      let does = merge_is out was in
      let Planned : Fields × Merge → Type 0 = λ x. IsMergePlan id x.0 x.1 plan in
      so records t id (counted_as out made) h entries lists are lies has right (subst Planned (λ i. (known i, does i)) planned) merges

  -- the names that are planned are those of the tables that it takes
  pub taken : (k : LivingKeyspace) (out : Merging) → keyspace_at id m.keyspaces.living ≡ Some k → (shape_in id m.trees).merge ≡ Some out → (plan : MergePlan) → IsMergePlan id last (merge_of input made) plan
      → AreTaken id (last_known m.records k) out plan.taken.items
  taken k out at was plan planned =
      planned.taken ∙ named_ids id (take input.0 last.tables) ∙ (λ i. map (table_name id) (map (λ (t : TableInfo). t.id) (take (input_is out was i).0 (last_is k at i).tables)))

  -- ---- memory

  pub finished : (k : LivingKeyspace) (out : Merging) → keyspace_at id m.keyspaces.living ≡ Some k → (shape_in id m.trees).merge ≡ Some out → (a new : Remembered) (readers : List Reader) (written : Fields) → a ≡ m
      → AreMergeReaders id last.next_table_id (merge_tables made) readers → written ≡ record_after_merge (merge_of input made) last → new ≡ with_merge id out readers written a
      → IsMergeFinished m id (last_known m.records k) out (counted_as out made) new
  finished k out at was a new readers written same are says is = record {
    readers = readers;
    are = subst (λ (l : Fields). AreMergeReaders id l.next_table_id (merge_tables made) readers) (last_is k at) are;
    is = is ∙ (λ i. with_merge id out readers ((says ∙ (λ j. record_after_merge (merge_is out was j) (last_is k at j))) i) (same i));
  }
