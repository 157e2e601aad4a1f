-- Jobs that a list of calls keeps: each is out, under its kind and the name that the call which began it was answered with.
use Rattle.std.specs.Prelude.{◌≡◌, ◌⊎◌, ℕ, ◌+◌, ◌<◌, ◌==◌, ◌&&◌, All, Bool, false, true, List, [], ◌∷◌, ◌++◌, Option, Some, None, Result, Ok, Err, drop, slice_get, take}
use Rattle.std.specs.List.{list_any}
use Rattle.fjall_base.specs.declared.error.Error.{Error}
use Rattle.fjall_history.specs.declared.job.JobId.{JobId}
use Rattle.fjall_history.specs.declared.reply.Reply.{Reply}
use Rattle.fjall_history.specs.declared.reply.Reply.TheVariants.{Began, Flag, Refused}
use Rattle.fjall_jobs.specs.Flushes.{flush_task}
use Rattle.fjall_jobs.specs.Merges.{merge_target, merge_task}
use Rattle.fjall_jobs.specs.Tasks.{Task}
use Rattle.fjall_machine.specs.Machine.{State, StepOf, is_flushing, is_merging}
use Rattle.fjall_machine.specs.Merging.{KnowsMerge}
use Rattle.fjall_machine.specs.Remembered.{KnowsTask, Remembered}
use Rattle.fjall_machine.specs.Shapes.{CallShape, OfCount, OfFlushBegin, OfFlushFinish, OfMergeBegin, OfMergeFinish}
use Rattle.fjall_engine.specs.declared.jobs.Job.{Job}
use Rattle.fjall_engine.specs.declared.jobs.Job.TheVariants.{Flush, Merge}
use Rattle.fjall_engine.specs.declared.jobs.JobBegin.{JobBegin}
use Rattle.fjall_engine.specs.declared.jobs.JobBegin.TheVariants as begins
use Rattle.fjall_engine.specs.declared.jobs.JobKind.{JobKind}
use Rattle.fjall_engine.specs.declared.jobs.JobKind.TheVariants as kinds
use Rattle.fjall_engine.specs.Holding.{Held}
use Rattle.fjall_engine.specs.Standing.{ReadsOn, StandsFor, job_of}

-- ---- one job

abbrev pub kind_of : Job → JobKind
kind_of (Flush job) = kinds.Flush
kind_of (Merge job) = kinds.Merge

abbrev pub task_of : Job → Task
task_of (Flush job) = flush_task job
task_of (Merge job) = merge_task job

abbrev pub name_of : Job → JobId
name_of job = job_of (task_of job)

-- whether it is this kind
abbrev pub is_kind : JobKind → JobKind → Bool
is_kind kinds.Flush kinds.Flush = true
is_kind kinds.Merge kinds.Merge = true
is_kind kind other = false

-- whether a task is that of the job of this name
abbrev pub has_name : JobId → Task → Bool
has_name job task = (task.id == job.number) && (task.keyspace == job.keyspace_id)

-- whether it is the job of this kind and name
abbrev pub is_named : JobKind → JobId → Job → Bool
is_named kind job kept = is_kind kind (kind_of kept) && has_name job (task_of kept)

-- whether the job of this kind and name is among these
abbrev pub is_kept : JobKind → JobId → List Job → Bool
is_kept kind job jobs = list_any (is_named kind job) jobs

-- whether the job of this kind and name is out
abbrev pub is_out : Remembered → JobKind → JobId → Bool
is_out m kinds.Flush job = is_flushing m.trees job
is_out m kinds.Merge job = is_merging m.trees job

-- ---- what is known of it

-- Memory knows it, where it is a flush.
abbrev pub IsFlushKnown : Remembered → Job → Type 0
IsFlushKnown m (Flush job) = KnowsTask m (flush_task job)
IsFlushKnown m (Merge job) = Unit {0}

-- The state knows it, where it is a merge.
abbrev pub IsMergeKnown : State → Job → Type 0
IsMergeKnown s (Flush job) = Unit {0}
IsMergeKnown s (Merge job) = KnowsMerge s (merge_target job) (merge_task job)

-- The number of this name was given out, and where its flush, or its merge, is out, that is kept.
pub record IsJobKnown (m : Remembered) (jobs : List Job) (job : JobId) : Type 0 where
  pub given : job.number < m.next_job
  pub kept : (kind : JobKind) → is_out m kind job ≡ true → is_kept kind job jobs ≡ true

-- Each flush that is kept is known to memory, and so is each job that a call began, as these replies tell.
pub record KeepsJobs (m : Remembered) (jobs : List Job) (replies : List Reply) : Type 0 where
  pub known : All (λ kept. IsFlushKnown m kept) jobs
  pub named : (place : ℕ) (job : JobId) → slice_get replies place ≡ Some (Began (Some job)) → IsJobKnown m jobs job

-- the state knows each merge of these jobs
abbrev pub KnowsMerges : State → List Job → Type 0
KnowsMerges s jobs = All (λ kept. IsMergeKnown s kept) jobs

-- Where a state knew the merges that were kept, it knows those that are kept now, in whatever state the step led to.
abbrev pub KeepsMerges : Held → List Job → CallShape → Reply → List Job → Type 0
KeepsMerges old before shape reply after =
    (s : State) → StandsFor old s → ReadsOn old s → KnowsMerges s before → (t : State) → StepOf s shape reply t → KnowsMerges t after

-- ---- calls on jobs

-- a call that neither begins nor finishes a job
abbrev pub IsPlain : CallShape → Type 0
IsPlain (OfFlushBegin id) = ⊥
IsPlain (OfFlushFinish job) = ⊥
IsPlain (OfMergeBegin kind id) = ⊥
IsPlain (OfMergeFinish job) = ⊥
IsPlain shape = Unit {0}

-- a call that counts
abbrev pub IsCount : CallShape → Type 0
IsCount (OfCount count) = Unit {0}
IsCount shape = ⊥

-- the call that begins this job of a keyspace
abbrev pub begin_of : JobBegin → ℕ → CallShape
begin_of begins.Flush id = OfFlushBegin id
begin_of (begins.Merge kind) id = OfMergeBegin kind id

abbrev pub begun_kind : JobBegin → JobKind
begun_kind begins.Flush = kinds.Flush
begun_kind (begins.Merge kind) = kinds.Merge

-- the reply to it
abbrev pub begun_reply : Result (Option Job) Error → Reply
begun_reply (Ok None) = Began None
begun_reply (Ok (Some job)) = Began (Some (name_of job))
begun_reply (Err error) = Refused error

-- the call that finishes the job of this kind and name
abbrev pub finish_of : JobKind → JobId → CallShape
finish_of kinds.Flush job = OfFlushFinish job
finish_of kinds.Merge job = OfMergeFinish job

-- What is found of the job of a name, and what is left of the list then: it is taken out; or it isn't there.
abbrev pub Finds : {Kept : Type 0} → (Kept → Bool) → List Kept → Option Kept → List Kept → Type 0
Finds is old None new = (list_any is old ≡ false) × (new ≡ old)
Finds is old (Some kept) new = (is kept ≡ true) × (place : ℕ) × (slice_get old place ≡ Some kept) × (new ≡ take place old ++ drop (place + 1) old)

-- What is kept behind a call that begins a job of this kind: the job, which memory knows, or nothing more.
abbrev pub Keeps : JobKind → Remembered → Reply → List Job → List Job → Type 0
Keeps kind m (Began (Some job)) old new = (kept : Job) × (new ≡ old ++ kept ∷ []) × IsFlushKnown m kept × (is_named kind job kept ≡ true)
Keeps kind m reply old new = new ≡ old

-- it is the same job, with all that it was begun with
abbrev pub IsSameJob : Job → Job → Type 0
IsSameJob (Flush job) (Flush other) = flush_task other ≡ flush_task job
IsSameJob (Merge job) (Merge other) = (merge_task other ≡ merge_task job) × (merge_target other ≡ merge_target job)
IsSameJob job other = ⊥

-- A job that was finished isn't given back; one that was refused is, with all that it was begun with.
abbrev pub IsGivenBack : Job → Reply → Option Job → Type 0
IsGivenBack job (Flag done) back = back ≡ None
IsGivenBack job (Refused error) None = ⊥
IsGivenBack job (Refused error) (Some kept) = IsSameJob job kept
IsGivenBack job reply back = ⊥

-- What is kept behind a call that finishes the job of this kind and name: all, where it isn't out; or all others, and it too where it was
-- refused.
abbrev pub KeepsOthers : JobKind → JobId → Reply → List Job → List Job → Type 0
KeepsOthers kind job reply old new =
    (new ≡ old)
    ⊎ ((kept : Job) × (others : List Job) × Finds (is_named kind job) old (Some kept) others
    × (((new ≡ others) × IsGivenBack kept reply None) ⊎ ((back : Job) × (new ≡ others ++ back ∷ []) × IsGivenBack kept reply (Some back))))
