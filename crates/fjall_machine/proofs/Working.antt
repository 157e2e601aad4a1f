-- Why a flush isn't finished is a step of the machine, where the disk was left as it was.
use Rattle.std.proofs.Common.{◌≡◌, ℕ, ◌<◌, ◌≤◌, ◌^◌, ◌&&◌, nat_lt, true, false, length, Option, Some, refl, sym, ap, subst, ◌∙◌, arith}
use Rattle.std.proofs.lemmas.Bool.Decides.{nat_tests}
use Rattle.std.specs.Option.{is_some}
use Rattle.fjall_base.specs.declared.error.Error.{Error}
use Rattle.fjall_base.specs.declared.error.Error.TheVariants.{NumbersUsedUp, OutOfMemory, TooManyItems}
use Rattle.fjall_compaction.specs.Flushes.{record_after_flush}
use Rattle.fjall_compaction.specs.FlushPlans.{IsFlushPlanRefusal}
use Rattle.fjall_compaction.specs.Room.{IsTooLong, LacksNextId}
use Rattle.fjall_compaction.proofs.NewTables.{at_most_one}
use Rattle.fjall_history.specs.declared.job.JobId.{JobId}
use Rattle.fjall_history.specs.declared.reply.Reply.TheVariants.{Refused}
use Rattle.fjall_jobs.specs.declared.flush_made.FlushMade.{FlushMade}
use Rattle.fjall_jobs.specs.Made.{flush_tables}
use Rattle.fjall_replay.specs.Known.{last_known}
use Rattle.fjall_tree.specs.Jobs.{count_out}
use Rattle.fjall_tree.specs.Trees.{Flushing}
use Rattle.fjall_meta.specs.declared.living.LivingKeyspace.{LivingKeyspace}
use Rattle.fjall_meta.specs.Keyspaces.{keyspace_at}
use Rattle.fjall_manifest.specs.Records.{Fields, body}
use Rattle.fjall_trees.specs.Tables.{shape_in}
use Rattle.fjall_machine.specs.Shapes.{OfFlushFinish}
use Rattle.fjall_machine.specs.Machine.{FlushMeets, IsDueToFinish, State, StepOf, flush_with, is_flushing, is_living, present, takes_effect}
use Rattle.fjall_machine.specs.Remembered.{MemoryStandsFor, Remembered}
use Rattle.fjall_machine.proofs.Facts.{living_names}
use Rattle.fjall_machine.proofs.Flushing.{known_record, same_with}
use Rattle.fjall_machine.proofs.SameTrees.{same_in}
use Rattle.fjall_machine.proofs.Sizes.{out_agrees}
use Rattle.fjall_machine.proofs.Standing.{living_agree}

module _ (m : Remembered) (table : ℕ) (s : State) (stands : MemoryStandsFor m table s) (job : JobId) (k : LivingKeyspace) (at : keyspace_at job.keyspace_id m.keyspaces.living ≡ Some k) (is_out : is_flushing m.trees job ≡ true)
    (out : Flushing) (was : (shape_in job.keyspace_id m.trees).flush ≡ Some out) (some : 0 < out.count) where
  lives_there : is_living (present s) job.keyspace_id ≡ true
  lives_there = living_agree m table s stands job.keyspace_id ∙ living_names m.keyspaces m.trees job.keyspace_id ∙ ap (λ (o : Option LivingKeyspace). is_some o) at

  takes_there : takes_effect s job ≡ true
  takes_there =
      let flush : (shape_in job.keyspace_id s.parts.trees).flush ≡ Some out = sym (same_in job.keyspace_id s.parts.trees m.trees stands.trees).flush ∙ was in
      let least : nat_lt 0 out.count ≡ true = grind (arith, nat_tests, some) in
      (λ i. lives_there i && nat_lt 0 (count_out (flush i))) ∙ least

  due_to_finish : IsDueToFinish s job
  due_to_finish = (
    out_agrees m table s stands job ∙ is_out,
    takes_there,
  )

  record_there : s.parts.records job.keyspace_id ≡ last_known m.records k
  record_there = known_record m table s stands job.keyspace_id k at

  meets : (made : FlushMade) (Meets : Fields → Type 0) → Meets (record_after_flush (flush_with (shape_in job.keyspace_id m.trees) out (flush_tables made)) (last_known m.records k))
      → FlushMeets (shape_in job.keyspace_id s.parts.trees) (shape_in job.keyspace_id s.parts.trees).flush (s.parts.records job.keyspace_id) Meets
  meets made Meets so =
      let tree = shape_in job.keyspace_id s.parts.trees in
      let same = same_in job.keyspace_id s.parts.trees m.trees stands.trees in
      subst (λ (o : Option Flushing). FlushMeets tree o (s.parts.records job.keyspace_id) Meets) (sym (sym same.flush ∙ was)) (
        flush_tables made,
        at_most_one made,
        subst Meets (sym (λ i. record_after_flush (same_with tree (shape_in job.keyspace_id m.trees) same out (flush_tables made) i) (record_there i))) so,
      )

  pub refusal_steps : (made : FlushMade) → s.poisoned ≡ false → (error : Error) → IsFlushPlanRefusal (last_known m.records k) (flush_with (shape_in job.keyspace_id m.trees) out (flush_tables made)) error
      → StepOf s (OfFlushFinish job) (Refused error) s
  refusal_steps made well OutOfMemory is = ((due_to_finish, well), refl)
  refusal_steps made well NumbersUsedUp used = ((due_to_finish, well, meets made LacksNextId used), refl)
  refusal_steps made well TooManyItems long = ((due_to_finish, well, meets made IsTooLong long), refl)
  refusal_steps made well error is = absurd is
