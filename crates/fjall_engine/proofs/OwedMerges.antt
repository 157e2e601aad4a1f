-- What a merge owes that is to begin or to be finished is a step of the machine, unless it rests on what tables hold.
use Rattle.std.proofs.Common.{◌≡◌, ℕ, ◌-◌, ◌^◌, ◌<◌, Bool, true, false, length, None, Some, refl, sym, ◌∙◌, ap, subst}
use Rattle.fjall_journal.specs.Writer.{Journal}
use Rattle.fjall_history.specs.declared.job.JobId.{JobId}
use Rattle.fjall_history.specs.declared.reply.Reply.{Reply}
use Rattle.fjall_history.specs.declared.reply.Reply.TheVariants.{Began}
use Rattle.fjall_machine.specs.declared.merge_kind.MergeKind.{MergeKind}
use Rattle.fjall_machine.specs.Shapes.{OfMergeBegin, OfMergeFinish}
use Rattle.fjall_machine.specs.Machine.{BeginsMerge, FinishesMerge, State, begins_merge, is_living, is_merging, present, rotation_refusals}
use Rattle.fjall_machine.specs.Machine as machine
use Rattle.fjall_machine.specs.Remembered.{Remembered, facts_of}
use Rattle.fjall_machine.specs.Remembered as memory
use Rattle.fjall_machine.proofs.Dues.{is_so}
use Rattle.fjall_machine.proofs.MergeSettings.{merges_are_out, merges_begin}
use Rattle.fjall_machine.proofs.Merging.{a_begun_merge_stands, a_dropped_merge_stands}
use Rattle.fjall_machine.proofs.Standing as law
use Rattle.fjall_engine.specs.Holding.{Held}
use Rattle.fjall_engine.specs.Standing.{BeginsMergeAt, IsDueToMergeIn, OwesMerge, OwesMergeBegin, RestsOnTables, StandsFor, begins_merge_in, held_due, store_in}
use Rattle.fjall_engine.proofs.OwedStates.{Answered, same_due, still}
use Rattle.fjall_engine.proofs.Refusals.{none_due}

-- where nothing is due, the keyspace lives
merge_lives : (core : Held) (kind : MergeKind) (id : ℕ) → held_due core (OfMergeBegin kind id) ≡ None → is_living (store_in core) id ≡ true
merge_lives core kind id none = is_so (is_living (store_in core) id) (none_due (rotation_refusals (facts_of core.memory core.catalog.next_table_id) id) none).1.0

module _ (old : Held) (s : State) (stands : StandsFor old s) where
  abbrev table : ℕ
  table = old.catalog.next_table_id

  pub merge_out_there : (job : JobId) → is_merging s.parts.trees job ≡ is_merging old.memory.trees job
  merge_out_there job = merges_are_out old.memory table s stands.remembered job

  merge_lives_there : (id : ℕ) → is_living (present s) id ≡ is_living (store_in old) id
  merge_lives_there id = law.living_agree old.memory table s stands.remembered id

  -- it begins in the state too
  pub merge_begins_there : (kind : MergeKind) (id : ℕ) → held_due old (OfMergeBegin kind id) ≡ None → begins_merge (present s) s.parts.trees kind id ≡ begins_merge_in old kind id
  merge_begins_there kind id none = merges_begin old.memory table s stands.remembered kind id (merge_lives_there id ∙ merge_lives old kind id none)

  pub merge_due_there : (job : JobId) → IsDueToMergeIn old job → machine.IsDueToMerge s job
  merge_due_there job (out, lives) = (merge_out_there job ∙ out, merge_lives_there job.keyspace_id ∙ lives)

  -- a number of a job is left for the state too
  pub merge_number_there : old.memory.next_job < 2 ^ 64 - 1 → s.next_job < 2 ^ 64 - 1
  merge_number_there left = subst (λ (n : ℕ). n < 2 ^ 64 - 1) (sym stands.remembered.next_job) left

  module _ (new : Held) where
    -- ---- one that begins

    pub begun_merge_stands : (id : ℕ) → old.memory.next_job < 2 ^ 64 - 1 → BeginsMergeAt old id new → StandsFor new (machine.merge_out s id)
    begun_merge_stands id left at =
        let t = machine.merge_out s id in
        let trees = new.memory.trees in
        record {
          remembered = subst (λ (m : Remembered). memory.MemoryStandsFor m new.catalog.next_table_id t) (sym at.memory_is)
              (subst (λ c. memory.MemoryStandsFor (memory.with_trees trees (memory.merge_out_in_memory id old.memory)) c t) (ap (λ c. c.next_table_id) (sym at.catalog))
              (a_begun_merge_stands old.memory table s stands.remembered id left trees at.trees));
          journal = stands.journal ∙ ap (λ (j : Journal). j.len) (sym at.journal);
          buffer = stands.buffer ∙ ap (λ (j : Journal). length j.buffer) (sym at.journal);
        }

    pub merge_begin_steps : (kind : MergeKind) (id : ℕ) (reply : Reply) (begins : Bool) → begins_merge_in old kind id ≡ begins → held_due old (OfMergeBegin kind id) ≡ None
        → OwesMergeBegin begins old id reply new → Answered new s (OfMergeBegin kind id) reply
    merge_begin_steps kind id reply begins is none owes = by begins is owes
      where
        answers : (begins : Bool) (t : State) → begins_merge_in old kind id ≡ begins → BeginsMerge begins s id reply t
            → BeginsMerge (begins_merge (present s) s.parts.trees kind id) s id reply t
        answers begins t is at = subst (λ (b : Bool). BeginsMerge b s id reply t) (sym (merge_begins_there kind id none ∙ is)) at

        by : (begins : Bool) → begins_merge_in old kind id ≡ begins → OwesMergeBegin begins old id reply new → Answered new s (OfMergeBegin kind id) reply
        by true is (told, left, at) =
            let t = machine.merge_out s id in
            let same = told ∙ ap (λ (n : ℕ). Began (Some (record { number = n; keyspace_id = id }))) (sym stands.remembered.next_job) in
            (t, begun_merge_stands id left at, (same_due old s (OfMergeBegin kind id) stands ∙ none, answers true t is (same, merge_number_there left, refl)))
        by false is (told, same) = (s, still old new s same stands, (same_due old s (OfMergeBegin kind id) stands ∙ none, answers false s is (told, refl)))

    -- ---- one that is to be finished

    dropped_merge_stands : (job : JobId) → new ≡ record old { memory = memory.merge_gone_in_memory job.keyspace_id old.memory } → StandsFor new (machine.merge_gone s job.keyspace_id)
    dropped_merge_stands job is = subst (λ c. StandsFor c (machine.merge_gone s job.keyspace_id)) (sym is)
        (record { remembered = a_dropped_merge_stands old.memory table s stands.remembered job.keyspace_id; journal = stands.journal; buffer = stands.buffer })

    -- where it is stale
    pub finish_merge_steps : (job : JobId) (reply : Reply) (out : Bool) → is_merging old.memory.trees job ≡ out → (lives : Bool) → is_living (store_in old) job.keyspace_id ≡ lives
        → held_due old (OfMergeFinish job) ≡ None → (RestsOnTables old (OfMergeFinish job) reply → ⊥) → OwesMerge out lives old job reply new → Answered new s (OfMergeFinish job) reply
    finish_merge_steps job reply out out_is lives lives_is none bare owes =
        let way = by out lives out_is owes in (
          way.0,
          way.1,
          (
            same_due old s (OfMergeFinish job) stands ∙ none,
            subst (λ (b : Bool × Bool). FinishesMerge b.0 b.1 s job reply way.0)
                (sym (λ i. ((merge_out_there job ∙ out_is) i, (merge_lives_there job.keyspace_id ∙ lives_is) i))) way.2,
          ),
        )
      where
        by : (out lives : Bool) → is_merging old.memory.trees job ≡ out → OwesMerge out lives old job reply new → (t : State) × StandsFor new t × FinishesMerge out lives s job reply t
        by true true out_is (told, well, mid, merged, becomes) = absurd (subst (λ (r : Reply). RestsOnTables old (OfMergeFinish job) r → ⊥) told bare out_is)
        by true false out_is (told, is) = (machine.merge_gone s job.keyspace_id, dropped_merge_stands job is, (told, refl))
        by false lives out_is (told, same) = (s, still old new s same stands, (told, refl))
