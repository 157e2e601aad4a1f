-- Merges that are kept stay known to the state, whatever calls are served; and one that is out is run, or refused.
use Rattle.std.proofs.Common.{◌≡◌, ◌≢◌, ◌⊎◌, inl, inr, ℕ, ◌+◌, ◌&&◌, Bool, MatchBool, true, false, get_or, List, [], ◌∷◌, ◌++◌, Some, take, drop, refl, sym, ◌∙◌, ap, subst}
use Rattle.std.proofs.lemmas.List.Elements.{All-nil, All-push}
use Rattle.fjall_base.specs.Disk.{Meaning}
use Rattle.fjall_base.specs.declared.error.Error.{Error}
use Rattle.fjall_base.specs.declared.error.Error.TheVariants.{OutOfMemory, Storage}
use Rattle.fjall_base.specs.declared.error.StorageError.TheVariants.{TableDamaged}
use Rattle.fjall_files.proofs.Tidying.{stays_start}
use Rattle.fjall_history.specs.declared.job.JobId.{JobId}
use Rattle.fjall_history.specs.declared.reply.Reply.{Reply}
use Rattle.fjall_history.specs.declared.reply.Reply.TheVariants.{Began, Flag, Refused}
use Rattle.fjall_jobs.specs.declared.merge_job.MergeJob.{MergeJob}
use Rattle.fjall_jobs.specs.declared.merge_made.MergeMade.{MergeMade}
use Rattle.fjall_jobs.specs.Keeping.{AreSorted}
use Rattle.fjall_jobs.specs.Made.{merged_target, merged_task}
use Rattle.fjall_jobs.specs.Merges.{merge_target, merge_task}
use Rattle.fjall_jobs.specs.Tasks.{Task}
use Rattle.fjall_tree.specs.Jobs.{is_merge_out}
use Rattle.fjall_tree.specs.Trees.{ReadsAll}
use Rattle.fjall_tree.proofs.Staying.{input_sorted}
use Rattle.fjall_machine.specs.Machine.{BeginsMerge, FinishesMerge, State, StepOf, begins_merge, is_living, is_merging, merge_out, present}
use Rattle.fjall_machine.specs.Merging.{KnowsMerge}
use Rattle.fjall_machine.specs.Shapes.{CallShape, OfFlushFinish, OfMergeFinish}
use Rattle.fjall_machine.proofs.KnownMerges.{a_known_merge_stays}
use Rattle.fjall_machine.proofs.SameTrees.{same_in}
use Rattle.fjall_trees.specs.Forests.{Planted}
use Rattle.fjall_trees.specs.Tables.{shape_in}
use Rattle.fjall_trees.proofs.Changing.{tree_under}
use Rattle.fjall_trees.proofs.Outstanding.{merging_same, merging_tree}
use Rattle.fjall_engine.specs.Crashes.{BlamesDevice, IsSync, attempt}
use Rattle.fjall_engine.specs.Holding.{Held}
use Rattle.fjall_engine.specs.declared.jobs.Job.{Job}
use Rattle.fjall_engine.specs.declared.jobs.Job.TheVariants.{Flush, Merge}
use Rattle.fjall_engine.specs.declared.jobs.JobBegin.{JobBegin}
use Rattle.fjall_engine.specs.declared.jobs.JobBegin.TheVariants as begins
use Rattle.fjall_engine.specs.declared.jobs.JobKind.{JobKind}
use Rattle.fjall_engine.specs.declared.jobs.JobKind.TheVariants as kinds
use Rattle.fjall_engine.specs.Jobs.{Finds, IsMergeKnown, IsSameJob, KeepsMerges, KeepsOthers, KnowsMerges, begin_of, begun_kind, finish_of, is_out, kind_of}
use Rattle.fjall_engine.specs.Durables.{Passes}
use Rattle.fjall_engine.specs.Standing.{IsDueToMergeIn, KnowsMergeIfDue, MergeTook, OnDisk, Owes, OwesMerge, ReadsOn, Serves, ServesWhere, StandsFor, job_of, store_in}
use Rattle.fjall_engine.proofs.CrashesInRuns.{passes_still}
use Rattle.fjall_engine.proofs.FoundJobs.{at_place, without_one}
use Rattle.fjall_engine.proofs.FinishedFlushes.{stale_owes, stale_serves}
use Rattle.fjall_engine.proofs.KeptJobs.{gave_back}
use Rattle.fjall_engine.proofs.ServedCalls.{memory_owes, memory_serves}
use Rattle.fjall_engine.proofs.TablesAtHome.{trees_read}

-- ---- calls that are served from some states

-- what is served from any state is served from these
pub serves_where : (Meets : State → Type 0) (old new : Held) (shape : CallShape) (reply : Reply) → Serves old shape reply new → ServesWhere Meets old shape reply new
serves_where Meets old new shape reply serves = record { disk = serves.disk; goes_on = λ s stands reads meets. serves.goes_on s stands reads }

-- and from fewer
pub serves_fewer : (Meets Fewer : State → Type 0) (old new : Held) (shape : CallShape) (reply : Reply) → ((s : State) → Fewer s → Meets s) → ServesWhere Meets old shape reply new → ServesWhere Fewer old shape reply new
serves_fewer Meets Fewer old new shape reply among serves = record { disk = serves.disk; goes_on = λ s stands reads meets. serves.goes_on s stands reads (among s meets) }

-- A call that changes nothing and tries nothing, and is a step of the machine that changes nothing.
pub still_serves : (Meets : State → Type 0) (core : Held) (shape : CallShape) (reply : Reply) → OnDisk core shape reply core → BlamesDevice reply core.disk core.disk → ((s : State) → attempt s shape reply ≡ []) → ((s : State) → IsSync s shape reply → ⊥)
    → ((s : State) → StandsFor core s → ReadsOn core s → Meets s → StepOf s shape reply s) → ServesWhere Meets core shape reply core
still_serves Meets core shape reply disk blames none unsynced steps = record {
  disk = disk;
  goes_on = λ s stands reads meets. (
    s,
    stands,
    reads,
    steps s stands reads meets,
    λ d on. (
      d,
      on,
      (
        subst (λ l. Passes d l d) (sym (none s)) (passes_still d on.rests),
        λ sync. absurd (unsynced s sync),
        λ tidy. subst (λ (m : Meaning). BlamesDevice reply m m) (sym on.same) blames,
        stays_start d.meaning,
      ),
    ),
  );
}

-- ---- merges that are kept

-- what the state knows of a merge stays known
merge_stays : (old : Held) (kept : Job) (shape : CallShape) (reply : Reply) (s t : State) → StandsFor old s → IsMergeKnown s kept → StepOf s shape reply t → IsMergeKnown t kept
merge_stays old (Flush kept) shape reply s t stands known step = tt
merge_stays old (Merge kept) shape reply s t stands known step =
    a_known_merge_stays old.memory old.catalog.next_table_id s stands.remembered shape reply t step (merge_target kept) (merge_task kept) known

pub merges_stay : (old : Held) (jobs : List Job) (shape : CallShape) (reply : Reply) → KeepsMerges old jobs shape reply jobs
merges_stay old jobs shape reply s stands reads known t step = λ i d lt. merge_stays old (get_or jobs i d) shape reply s t stands (known i d lt) step

-- the same of another list of the same jobs
pub merges_same : (old : Held) (jobs others : List Job) (shape : CallShape) (reply : Reply) → others ≡ jobs → KeepsMerges old jobs shape reply others
merges_same old jobs others shape reply same = subst (λ (l : List Job). KeepsMerges old jobs shape reply l) (sym same) (merges_stay old jobs shape reply)

-- none are known of any state
pub none_known : (s : State) → KnowsMerges s []
none_known s = All-nil (λ (kept : Job). IsMergeKnown s kept)

-- one that begins is known, where the state knows it once it is out
pub begun_known : (old : Held) (begin : JobBegin) (id : ℕ) (jobs : List Job) (kept : Job) (job : JobId) → kind_of kept ≡ begun_kind begin
    → ((s : State) → StandsFor old s → ReadsOn old s → IsMergeKnown (merge_out s id) kept) → KeepsMerges old jobs (begin_of begin id) (Began (Some job)) (jobs ++ kept ∷ [])
begun_known old begin id jobs kept job is knows s stands reads known t step =
    All-push (λ (k : Job). IsMergeKnown t k) jobs kept (merges_stay old jobs (begin_of begin id) (Began (Some job)) s stands reads known t step) (by begin kept is step (knows s stands reads))
  where
    begun : (begins : Bool) → BeginsMerge begins s id (Began (Some job)) t → t ≡ merge_out s id
    begun true (told, numbered, is) = is
    begun false (told, same) = let bad : ⊥ = cc in absurd bad

    by : (b : JobBegin) (k : Job) → kind_of k ≡ begun_kind b → StepOf s (begin_of b id) (Began (Some job)) t → IsMergeKnown (merge_out s id) k → IsMergeKnown t k
    by b (Flush k) alike step known = tt
    by begins.Flush (Merge k) alike step known = let bad : ⊥ = cc in absurd bad
    by (begins.Merge kind) (Merge k) alike step known = subst (λ (x : State). KnowsMerge x (merge_target k) (merge_task k)) (sym (begun (begins_merge (present s) s.parts.trees kind id) step.1)) known

-- what is known of one is known of the same job
known_like : (s : State) (kept back : Job) → IsSameJob kept back → IsMergeKnown s kept → IsMergeKnown s back
known_like s (Flush kept) (Flush back) same known = tt
known_like s (Merge kept) (Merge back) (task, target) known = subst (λ (n : ℕ). KnowsMerge s n (merge_task back)) (sym target) (subst (KnowsMerge s (merge_target kept)) (sym task) known)
known_like s (Flush kept) (Merge back) same known = absurd same
known_like s (Merge kept) (Flush back) same known = absurd same

-- what is kept behind a call that finishes one is known
pub finished_known : (old : Held) (kind : JobKind) (job : JobId) (reply : Reply) (jobs others : List Job) → KeepsOthers kind job reply jobs others → KeepsMerges old jobs (finish_of kind job) reply others
finished_known old kind job reply jobs others (inl same) s stands reads known t step = merges_same old jobs others (finish_of kind job) reply same s stands reads known t step
finished_known old kind job reply jobs others (inr (kept, left, (name, place, at, is), inl (alike, given))) s stands reads known t step =
    let all = merges_stay old jobs (finish_of kind job) reply s stands reads known t step in
    subst (KnowsMerges t) (sym (alike ∙ is)) (without_one (λ (k : Job). IsMergeKnown t k) jobs place all)
finished_known old kind job reply jobs others (inr (kept, left, (name, place, at, is), inr (back, alike, given))) s stands reads known t step =
    let all = merges_stay old jobs (finish_of kind job) reply s stands reads known t step in
    let P = λ (k : Job). IsMergeKnown t k in
    subst (KnowsMerges t) (sym (alike ∙ ap (λ (l : List Job). l ++ back ∷ []) is))
    (All-push P (take place jobs ++ drop (place + 1) jobs) back (without_one P jobs place all) (known_like t kept back (gave_back kept reply back given) (at_place P jobs place kept all at)))

-- the one that is found is known, where all are
pub found_known : (s : State) (is : Job → Bool) (jobs others : List Job) (kept : Job) → Finds is jobs (Some kept) others → KnowsMerges s jobs → IsMergeKnown s kept
found_known s is jobs others kept (name, place, at, left) known = at_place (λ (k : Job). IsMergeKnown s k) jobs place kept known at

-- ---- a merge that isn't out

-- the state has the same merges out
same_out : (core : Held) (s : State) → StandsFor core s → (job : JobId) → is_merging s.parts.trees job ≡ is_merging core.memory.trees job
same_out core s stands job = ap (is_merge_out job.number) (sym (same_in job.keyspace_id s.parts.trees core.memory.trees stands.remembered.trees).merge)

unmerged_owes : (core : Held) (job : JobId) → is_merging core.memory.trees job ≡ false → Owes core (OfMergeFinish job) (Flag false) core
unmerged_owes core job none = (refl, subst (λ (out : Bool). OwesMerge out (is_living (store_in core) job.keyspace_id) core job (Flag false) core) (sym none) (refl, refl))

unmerged_serves : (Meets : State → Type 0) (core : Held) (job : JobId) → is_merging core.memory.trees job ≡ false → ServesWhere Meets core (OfMergeFinish job) (Flag false) core
unmerged_serves Meets core job none =
    still_serves Meets core (OfMergeFinish job) (Flag false)
    (subst (λ (out : Bool). MatchBool (out && is_living (store_in core) job.keyspace_id) (MergeTook core job.keyspace_id core) (core.disk ≡ core.disk)) (sym none) refl) refl (λ s. refl) (λ s sync. sync)
    (λ s stands reads meets. (refl, subst (λ (out : Bool). FinishesMerge out (is_living (present s) job.keyspace_id) s job (Flag false) s) (sym (same_out core s stands job ∙ none)) (refl, refl)))

-- the same of a job of either kind
pub unfinished_owes : (core : Held) (kind : JobKind) (job : JobId) → is_out core.memory kind job ≡ false → Owes core (finish_of kind job) (Flag false) core
unfinished_owes core kinds.Flush job none = stale_owes core job none
unfinished_owes core kinds.Merge job none = unmerged_owes core job none

pub unfinished_serves : (Meets : State → Type 0) (core : Held) (kind : JobKind) (job : JobId) → is_out core.memory kind job ≡ false → ServesWhere Meets core (finish_of kind job) (Flag false) core
unfinished_serves Meets core kinds.Flush job none = serves_where Meets core core (OfFlushFinish job) (Flag false) (stale_serves core job none)
unfinished_serves Meets core kinds.Merge job none = unmerged_serves Meets core job none

-- ---- a merge that is run

-- what it reads is in order, where the state knows it and the disk has the tables
merge_sorted : (core : Held) (s : State) → StandsFor core s → ReadsOn core s → (target : ℕ) (task : Task) → KnowsMerge s target task → is_merging core.memory.trees (job_of task) ≡ true → AreSorted task.runs
merge_sorted core s stands reads target task knows out =
    let id = task.keyspace in
    let begun = merging_same id s.parts.trees core.memory.trees stands.remembered.trees (s.parts.entries id) task (knows.begun (same_out core s stands (job_of task) ∙ out)) in
    let has = merging_tree id core.memory.trees (s.parts.entries id) task begun in
    let all = tree_under (λ (k : Planted). ReadsAll core.disk k.shape (s.parts.entries k.id)) core.memory.trees id (shape_in id core.memory.trees) (trees_read core s stands reads) has in
    input_sorted core.disk (shape_in id core.memory.trees) (s.parts.entries id) task all begun

-- what is served of a merge is so, from states that know it, of another of the same task and target
pub same_merge : (job other : MergeJob) (old new : Held) (reply : Reply) → merge_task other ≡ merge_task job → merge_target other ≡ merge_target job
    → ServesWhere (KnowsMergeIfDue old (merge_target other) (merge_task other)) old (OfMergeFinish (job_of (merge_task other))) reply new
    → ServesWhere (λ s. KnowsMerge s (merge_target job) (merge_task job)) old (OfMergeFinish (job_of (merge_task job))) reply new
same_merge job other old new reply task target serves =
    let known = serves_fewer (KnowsMergeIfDue old (merge_target other) (merge_task other)) (λ (s : State). KnowsMerge s (merge_target other) (merge_task other)) old new (OfMergeFinish (job_of (merge_task other))) reply
    (λ s knows due. knows) serves in
    subst (λ (t : Task). ServesWhere (λ s. KnowsMerge s (merge_target job) t) old (OfMergeFinish (job_of t)) reply new) task
    (subst (λ (n : ℕ). ServesWhere (λ s. KnowsMerge s n (merge_task other)) old (OfMergeFinish (job_of (merge_task other))) reply new) target known)

-- What is served from states that know the merge of what was made is so from those that know it if it would take effect, where it does.
pub if_due : (old mid new : Held) (made : MergeMade) (reply : Reply) → mid ≡ old → IsDueToMergeIn mid (job_of (merged_task made))
    → ServesWhere (λ s. KnowsMerge s (merged_target made) (merged_task made)) mid (OfMergeFinish (job_of (merged_task made))) reply new
    → ServesWhere (KnowsMergeIfDue old (merged_target made) (merged_task made)) old (OfMergeFinish (job_of (merged_task made))) reply new
if_due old mid new made reply same due serves =
    let task = merged_task made in
    let shape = OfMergeFinish (job_of task) in
    subst (λ (h : Held). ServesWhere (KnowsMergeIfDue h (merged_target made) task) h shape reply new) same
    (serves_fewer (λ (s : State). KnowsMerge s (merged_target made) task) (KnowsMergeIfDue mid (merged_target made) task) mid new shape reply (λ s knows. knows due) serves)

-- it was refused for want of memory, or not
is_memory : (error : Error) → (error ≡ OutOfMemory) ⊎ (error ≢ OutOfMemory)
is_memory OutOfMemory = inl refl
is_memory error = inr (λ is. let bad : ⊥ = cc in bad)

-- One that is refused: for want of memory, where what it reads is in order; and else, as a disk that lies may have it, what it reads is in none.
module _ (core : Held) (job : MergeJob) (error told : Error) (due : IsDueToMergeIn core (job_of (merge_task job))) (well : core.memory.poisoned ≡ false) (memory : error ≡ OutOfMemory → told ≡ OutOfMemory)
    (one : error ≢ OutOfMemory → told ≡ Storage TableDamaged) where
  pub run_owes : Owes core (OfMergeFinish (job_of (merge_task job))) (Refused told) core
  run_owes = by (is_memory error)
    where
      by : (error ≡ OutOfMemory) ⊎ (error ≢ OutOfMemory) → Owes core (OfMergeFinish (job_of (merge_task job))) (Refused told) core
      by (inl is) = subst (λ (e : Error). Owes core (OfMergeFinish (job_of (merge_task job))) (Refused e) core) (sym (memory is)) (memory_owes core (OfMergeFinish (job_of (merge_task job))) (due, well) refl)
      by (inr other) = subst (λ (e : Error). Owes core (OfMergeFinish (job_of (merge_task job))) (Refused e) core) (sym (one other)) (refl, inr (due.0, refl))

  pub run_serves : (AreSorted (merge_task job).runs → error ≡ OutOfMemory) → ServesWhere (λ s. KnowsMerge s (merge_target job) (merge_task job)) core (OfMergeFinish (job_of (merge_task job))) (Refused told) core
  run_serves sorted = by (is_memory error)
    where
      by : (error ≡ OutOfMemory) ⊎ (error ≢ OutOfMemory) → ServesWhere (λ s. KnowsMerge s (merge_target job) (merge_task job)) core (OfMergeFinish (job_of (merge_task job))) (Refused told) core
      by (inl is) =
          let shape = OfMergeFinish (job_of (merge_task job)) in
          subst (λ (e : Error). ServesWhere (λ s. KnowsMerge s (merge_target job) (merge_task job)) core shape (Refused e) core) (sym (memory is))
          (serves_where (λ s. KnowsMerge s (merge_target job) (merge_task job)) core core shape (Refused OutOfMemory) (memory_serves core shape (due, well) refl))
      by (inr other) =
          let shape = OfMergeFinish (job_of (merge_task job)) in
          subst (λ (e : Error). ServesWhere (λ s. KnowsMerge s (merge_target job) (merge_task job)) core shape (Refused e) core) (sym (one other))
          (record { disk = refl; goes_on = λ s stands reads knows. absurd (other (sorted (merge_sorted core s stands reads (merge_target job) (merge_task job) knows due.0))) })
