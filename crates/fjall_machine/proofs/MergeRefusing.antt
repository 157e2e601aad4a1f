-- Why a merge isn't finished is a step of the machine, where the disk was left as it was.
use Rattle.std.proofs.Common.{◌≡◌, ℕ, true, false, List, Option, Some, refl, sym, ap, subst, ◌∙◌}
use Rattle.std.specs.Option.{is_some}
use Rattle.fjall_base.specs.declared.error.Error.{Error}
use Rattle.fjall_base.specs.declared.error.Error.TheVariants.{NumbersUsedUp, OutOfMemory, TooManyItems}
use Rattle.fjall_history.specs.declared.job.JobId.{JobId}
use Rattle.fjall_history.specs.declared.reply.Reply.TheVariants.{Refused}
use Rattle.fjall_jobs.specs.declared.made_table.MadeTable.{MadeTable}
use Rattle.fjall_jobs.specs.Merges.{IsMerged}
use Rattle.fjall_jobs.specs.Tasks.{Task}
use Rattle.fjall_replay.specs.Known.{last_known}
use Rattle.fjall_tree.specs.Jobs.{IsMerging}
use Rattle.fjall_tree.specs.Trees.{Merging}
use Rattle.fjall_compaction.specs.MergeFinishing as counting
use Rattle.fjall_compaction.specs.Merges.{Merge}
use Rattle.fjall_compaction.specs.MergePlans.{IsMergePlanRefusal}
use Rattle.fjall_meta.specs.declared.living.LivingKeyspace.{LivingKeyspace}
use Rattle.fjall_meta.specs.Keyspaces.{keyspace_at}
use Rattle.fjall_manifest.specs.Records.{Fields}
use Rattle.fjall_trees.specs.Tables.{shape_in}
use Rattle.fjall_machine.specs.Shapes.{OfMergeFinish}
use Rattle.fjall_machine.specs.Machine.{IsDueToMerge, LacksAt, LacksMergeIds, LacksMergeRoom, MayLack, State, StepOf, is_merging, options_in, present, target_size}
use Rattle.fjall_machine.specs.Remembered.{MemoryStandsFor, Remembered}
use Rattle.fjall_machine.proofs.Facts.{living_names}
use Rattle.fjall_machine.proofs.Flushing.{known_record}
use Rattle.fjall_machine.proofs.MergeSettings.{merges_are_out}
use Rattle.fjall_machine.proofs.Merging.{made_there, out_there}
use Rattle.fjall_machine.proofs.Standing.{living_agree}

module _ (m : Remembered) (table : ℕ) (s : State) (stands : MemoryStandsFor m table s) (job : JobId) (k : LivingKeyspace) (at : keyspace_at job.keyspace_id m.keyspaces.living ≡ Some k) (is_out : is_merging m.trees job ≡ true)
    (task : Task) (is : IsMerging (shape_in job.keyspace_id m.trees) (s.parts.entries job.keyspace_id) task) (target : ℕ) (sized : target ≡ target_size (options_in (present s) job.keyspace_id))
    (tables : List MadeTable) (clears : List ℕ) (made : IsMerged target task tables clears) where
  abbrev id : ℕ
  id = job.keyspace_id

  due_to_merge : IsDueToMerge s job
  due_to_merge = (
    merges_are_out m table s stands job ∙ is_out,
    living_agree m table s stands id ∙ living_names m.keyspaces m.trees id ∙ ap (λ (o : Option LivingKeyspace). is_some o) at,
  )

  -- what it made may lack what the record that is known lacks
  lacks : s.poisoned ≡ false → (Lacks : Fields → Merge → Type 0) → Lacks (last_known m.records k) (counting.merge_out is.out tables clears) → LacksAt s job Lacks
  lacks well Lacks missing =
      let tree = shape_in id s.parts.trees in
      let here = subst (λ (r : Fields). Lacks r (counting.merge_out is.out tables clears)) (sym (known_record m table s stands id k at)) missing in (
        due_to_merge,
        well,
        subst (λ (x : Option Merging × ℕ). MayLack x.0 x.1 id tree (s.parts.entries id) (s.parts.records id) Lacks) (λ i. (sym (out_there m table s stands id target task is tables clears made) i, sized i))
            (tables, clears, made_there m table s stands id target task is tables clears made, here),
      )

  pub refusal_steps : s.poisoned ≡ false → (error : Error) → IsMergePlanRefusal (last_known m.records k) (counting.merge_out is.out tables clears) error → StepOf s (OfMergeFinish job) (Refused error) s
  refusal_steps well OutOfMemory is = ((due_to_merge, well), refl)
  refusal_steps well NumbersUsedUp few = (lacks well LacksMergeIds few, refl)
  refusal_steps well TooManyItems long = (lacks well LacksMergeRoom long, refl)
  refusal_steps well error none = absurd none

pub a_merge_refusal_is_a_step : (m : Remembered) (table : ℕ) (s : State) → MemoryStandsFor m table s → (job : JobId) (k : LivingKeyspace)
    → keyspace_at job.keyspace_id m.keyspaces.living ≡ Some k → is_merging m.trees job ≡ true → (task : Task) (is : IsMerging (shape_in job.keyspace_id m.trees) (s.parts.entries job.keyspace_id) task)
    → (target : ℕ) → target ≡ target_size (options_in (present s) job.keyspace_id) → (tables : List MadeTable) (clears : List ℕ) → IsMerged target task tables clears → s.poisoned ≡ false → (error : Error)
    → IsMergePlanRefusal (last_known m.records k) (counting.merge_out is.out tables clears) error → StepOf s (OfMergeFinish job) (Refused error) s
a_merge_refusal_is_a_step m table s stands job k at is_out task is target sized tables clears made well error why = refusal_steps m table s stands job k at is_out task is target sized tables clears made well error why
