-- Jobs that begin and are finished under the lock.
use Rattle.std.proofs.Common.{◌≡◌, ℕ, Bool, true, false, List, ◌++◌, length, get_or, suc, take, drop, set, Option, None, Some, Result, Ok, Err, IsTrue, refl, sym, ◌∙◌, ap, subst, arith}
use Rattle.std.specs.Prelude.{All, IfOk, IfSome, remove, slice_get}
use Rattle.std.proofs.lemmas.List.{append-nil, drop_all, set-get_or, take-append-drop, take-append-le}
use Rattle.std.proofs.lemmas.List.Elements.{All-append, All-drop, All-push, All-take}
use Rattle.std.proofs.lemmas.Option.{slice_get-get_or, slice_get_within}
use Rattle.fjall_base.specs.Store.{Command, Delete}
use Rattle.fjall_base.specs.declared.error.Error.{Error}
use Rattle.fjall_history.specs.declared.job.JobId.{JobId}
use Rattle.fjall_history.specs.declared.reply.Reply.{Reply}
use Rattle.fjall_history.specs.declared.reply.Reply.TheVariants.{Began}
use Rattle.fjall_jobs.specs.Tasks.{Task}
use Rattle.fjall_machine.specs.Machine.{BeginsMerge, State, StepOf, begins_merge, merge_out, present}
use Rattle.fjall_machine.specs.Merging.{KnowsMerge}
use Rattle.fjall_machine.specs.Shapes.{CallShape, OfFlushBegin, OfFlushFinish, OfMergeBegin, OfMergeFinish}
use Rattle.fjall_machine.specs.declared.merge_kind.MergeKind.{MergeKind}
use Rattle.fjall_core.specs.Holding.{Held}
use Rattle.fjall_core.specs.CoreStanding.{KnowsIfDue, KnowsMergeIfDue, Owes, ReadsOn, Serves, ServesWhere, StandsFor, flag_reply, job_of}
use Rattle.fjall_shared.specs.Labels.{Label}
use Rattle.fjall_core.specs.Standing.{GoesOn, CoreState}
use Rattle.fjall_core.proofs.Standing.{served_goes_on, shape_stands}
use Rattle.fjall_shared.specs.Takings.{Never, Says, Taking, taking}
use Rattle.fjall_shared.specs.Locked.{IsSettled, IsTied, KnowsMergeOf, Locked, list_of}
use Rattle.fjall_shared.specs.Does.{FinishesJob, IsFinished, MakesCall, begin_reply, with_begun, with_flushes, with_merges, without_finished}
use Rattle.fjall_shared.proofs.KnownJobs.{KnowsFlushOf, flushes_stay, merges_stay}
use Rattle.fjall_shared.proofs.Settled.{makes, settles, tells_none}

-- ---- lists

-- what holds of each holds of the one at a place
pub at_place : {X : Type 0} (P : X → Type 0) (xs : List X) (i : ℕ) (x : X) → slice_get xs i ≡ Some x → All P xs → P x
at_place P xs i x is all =
    let lt = slice_get_within xs i x is in
    let same : get_or xs i x ≡ x = let found : Some (get_or xs i x) ≡ Some x = sym (slice_get-get_or xs i x lt) ∙ is in cc in
    subst P same (all i x lt)

all_removed : {X : Type 0} (P : X → Type 0) (xs : List X) (i : ℕ) → All P xs → All P (remove xs i)
all_removed P xs i all = All-append P (take i xs) (drop (suc i) xs) (All-take P i xs all) (All-drop P (suc i) xs all)

-- with one more job, where one began
all_begun : (P : Label → Type 0) (jobs : List Label) (result : Result (Option Label) Error) → All P jobs → IfOk result (λ job. IfSome job P) → All P (with_begun result jobs)
all_begun P jobs (Ok (Some label)) all one = All-push P jobs label all one
all_begun P jobs (Ok None) all one = all
all_begun P jobs (Err error) all one = all

-- without the one that was finished
all_finished : (P : Label → Type 0) (place : ℕ) (jobs : List Label) (result : Result Bool Error) → All P jobs → All P (without_finished result place jobs)
all_finished P place jobs (Ok done) all = all_removed P jobs place all
all_finished P place jobs (Err error) all = all

-- ---- a finish

-- what an engine that is lent owes of what it knows, under the reply that is told
pub asked : (Gives : Held → Reply → Type 0) (Knows : Held → Type 0) (now old : Held) (raw reply : Reply) → now ≡ old → raw ≡ reply → Knows old → (Knows now → Gives now raw) → Gives old reply
asked Gives Knows now old raw reply same told knows gives = subst (λ (x : Held × Reply). Gives x.0 x.1) (λ i. (same i, told i)) (gives (subst Knows (sym same) knows))

-- what is found again where it was put back
pub put_back : (jobs : List Label) (place : ℕ) (label : Label) → slice_get jobs place ≡ Some label → set jobs place label ≡ jobs
put_back jobs place label out =
    let lt = slice_get_within jobs place label out in
    let same : get_or jobs place label ≡ label = let found : Some (get_or jobs place label) ≡ Some label = sym (slice_get-get_or jobs place label lt) ∙ out in cc in
    ap (λ (l : Label). set jobs place l) (sym same) ∙ set-get_or jobs place label

-- what is read at its place is that one
pub found_there : (jobs : List Label) (place : ℕ) (label there other : Label) → slice_get jobs place ≡ Some label → there ≡ get_or jobs place other → label ≡ there
found_there jobs place label there other out read =
    let lt = slice_get_within jobs place label out in
    let same : get_or jobs place other ≡ label = let found : Some (get_or jobs place other) ≡ Some label = sym (slice_get-get_or jobs place other lt) ∙ out in cc in
    sym same ∙ sym read

-- the jobs behind a look at them that changed none
pub written_back : (jobs new : List Label) (len : ℕ) → length jobs ≡ len → new ≡ jobs → take len (new ++ drop (length new) jobs) ≡ jobs
written_back jobs new len is same =
    ap (λ (l : List Label). take len (l ++ drop (length l) jobs)) same ∙ take-append-le len jobs (drop (length jobs) jobs) (omega (arith, is)) ∙ sym (append-nil (take len jobs))
    ∙ ap (λ (l : List Label). take len jobs ++ l) (sym (drop_all len jobs (omega (arith, is)))) ∙ take-append-drop len jobs

-- ---- a call that takes no number, and changes which jobs are out

module _ (honest : Bool) (old : Locked) (core : Held) (flushes merges : List Label) (shape : CallShape) (reply : Reply) (never : taking shape ≡ Never)
    (settled : IsSettled honest old) (owes : Owes old.core shape reply core) (flushes_are : All (KnowsFlushOf core) flushes)
    (merges_are : IsTrue honest → (t : CoreState) → IsTied old t → (s : State) → StepOf t.state shape reply s → All (KnowsMergeOf s) merges)
    (goes : IsTrue honest → (t : CoreState) → IsTied old t → GoesOn old.core t shape reply core old.kept) where
  abbrev new : Locked
  new = record old { core = core; flushes = flushes; merges = merges }

  any : Command
  any = Delete 0

  says : Says (taking shape) any
  says = subst (λ (k : Taking). Says k any) (sym never) tt

  job_settles : IsSettled honest new
  job_settles = settles honest old new shape reply any settled says (tells_none any old.core core shape reply (list_of old) never owes) owes flushes_are merges_are goes

  job_makes : (view : Locked) → old ≡ view → MakesCall honest view shape reply new
  job_makes view is =
      subst (λ (l : Locked). MakesCall honest l shape reply new) is
      (makes honest old new shape reply any settled says (tells_none any old.core core shape reply (list_of old) never owes) owes flushes_are merges_are goes)

-- ---- flushes

module _ (honest : Bool) (old : Locked) (core : Held) (id : ℕ) (result : Result (Option Label) Error) (settled : IsSettled honest old)
    (owes : Owes old.core (OfFlushBegin id) (begin_reply result) core) (serves : IsTrue honest → Serves old.core (OfFlushBegin id) (begin_reply result) core)
    (knows : IfOk result (λ job. IfSome job (KnowsFlushOf core))) where
  abbrev beginning : CallShape
  beginning = OfFlushBegin id

  abbrev out_now : List Label
  out_now = with_begun result old.flushes

  known : All (KnowsFlushOf core) out_now
  known = all_begun (KnowsFlushOf core) old.flushes result (flushes_stay old.core core beginning (begin_reply result) owes old.flushes settled.knows) knows

  known_merges : IsTrue honest → (t : CoreState) → IsTied old t → (s : State) → StepOf t.state beginning (begin_reply result) s → All (KnowsMergeOf s) old.merges
  known_merges is t tied s step = merges_stay old.core t.state s beginning (begin_reply result) tied.stands.machine step old.merges tied.knows

  goes : IsTrue honest → (t : CoreState) → IsTied old t → GoesOn old.core t beginning (begin_reply result) core old.kept
  goes is t tied = served_goes_on old.core core old.kept t beginning (begin_reply result) tied.stands tied.reads (serves is)

  pub flush_settles : IsSettled honest (with_flushes out_now (record old { core = core }))
  flush_settles = job_settles honest old core out_now old.merges beginning (begin_reply result) refl settled owes known known_merges goes

  pub flush_makes : (view : Locked) → old ≡ view → MakesCall honest view beginning (begin_reply result) (with_flushes out_now (record old { core = core }))
  flush_makes view is = job_makes honest old core out_now old.merges beginning (begin_reply result) refl settled owes known known_merges goes view is

-- what an engine is asked to finish, it knows
pub flush_known_at : (core : Held) (jobs : List Label) (place : ℕ) (label : Label) → slice_get jobs place ≡ Some label → All (KnowsFlushOf core) jobs → KnowsIfDue core label.task
flush_known_at core jobs place label out known = λ due. at_place (KnowsFlushOf core) jobs place label out known

module _ (honest : Bool) (old : Locked) (core : Held) (place : ℕ) (label : Label) (result : Result Bool Error) (settled : IsSettled honest old)
    (owes : Owes old.core (OfFlushFinish (job_of label.task)) (flag_reply result) core) (serves : IsTrue honest → Serves old.core (OfFlushFinish (job_of label.task)) (flag_reply result) core) where
  abbrev finishing : CallShape
  finishing = OfFlushFinish (job_of label.task)

  abbrev out_still : List Label
  out_still = without_finished result place old.flushes

  left_known : All (KnowsFlushOf core) out_still
  left_known = all_finished (KnowsFlushOf core) place old.flushes result (flushes_stay old.core core finishing (flag_reply result) owes old.flushes settled.knows)

  left_merges : IsTrue honest → (t : CoreState) → IsTied old t → (s : State) → StepOf t.state finishing (flag_reply result) s → All (KnowsMergeOf s) old.merges
  left_merges is t tied s step = merges_stay old.core t.state s finishing (flag_reply result) tied.stands.machine step old.merges tied.knows

  finish_goes : IsTrue honest → (t : CoreState) → IsTied old t → GoesOn old.core t finishing (flag_reply result) core old.kept
  finish_goes is t tied = served_goes_on old.core core old.kept t finishing (flag_reply result) tied.stands tied.reads (serves is)

  pub flushed_settles : IsSettled honest (with_flushes out_still (record old { core = core }))
  flushed_settles = job_settles honest old core out_still old.merges finishing (flag_reply result) refl settled owes left_known left_merges finish_goes

  pub flushed_done : (view : Locked) (number : ℕ) → old ≡ view → slice_get old.flushes place ≡ Some label → label.task.id ≡ number
      → FinishesJob honest OfFlushFinish view.flushes with_flushes view number result (with_flushes out_still (record old { core = core }))
  flushed_done view number is out named =
      subst (λ (l : Locked). FinishesJob honest OfFlushFinish l.flushes with_flushes l number result (with_flushes out_still (record old { core = core }))) is
      (IsFinished place label out named (job_makes honest old core out_still old.merges finishing (flag_reply result) refl settled owes left_known left_merges finish_goes old refl) refl)

-- ---- merges

-- a merge that began is out in the state that the engine stands for then
merge_is_out : (s t : State) (id : ℕ) (job : JobId) (begins : Bool) → BeginsMerge begins s id (Began (Some job)) t → t ≡ merge_out s id
merge_is_out s t id job true (told, small, is) = is
merge_is_out s t id job false (told, same) = let bad : ⊥ = cc in absurd bad

module _ (honest : Bool) (old : Locked) (core : Held) (kind : MergeKind) (id : ℕ) (result : Result (Option Label) Error) (settled : IsSettled honest old)
    (owes : Owes old.core (OfMergeBegin kind id) (begin_reply result) core) (serves : IsTrue honest → Serves old.core (OfMergeBegin kind id) (begin_reply result) core)
    (knows : IsTrue honest → (s : State) → StandsFor old.core s → ReadsOn old.core s → IfOk result (λ job. IfSome job (KnowsMergeOf (merge_out s id)))) where
  abbrev merging : CallShape
  merging = OfMergeBegin kind id

  abbrev out_then : List Label
  out_then = with_begun result old.merges

  one_known : (r : Result (Option Label) Error) (s t : State) → StepOf s merging (begin_reply r) t → IfOk r (λ job. IfSome job (KnowsMergeOf (merge_out s id))) → IfOk r (λ job. IfSome job (KnowsMergeOf t))
  one_known (Ok (Some label)) s t (none, begins) is = subst (λ (x : State). KnowsMergeOf x label) (sym (merge_is_out s t id (job_of label.task) (begins_merge (present s) s.parts.trees kind id) begins)) is
  one_known (Ok None) s t step is = tt
  one_known (Err error) s t step is = tt

  begun_merges : IsTrue honest → (t : CoreState) → IsTied old t → (s : State) → StepOf t.state merging (begin_reply result) s → All (KnowsMergeOf s) out_then
  begun_merges is t tied s step =
      all_begun (KnowsMergeOf s) old.merges result (merges_stay old.core t.state s merging (begin_reply result) tied.stands.machine step old.merges tied.knows)
      (one_known result t.state s step (knows is t.state tied.stands.machine tied.reads))

  begin_goes : IsTrue honest → (t : CoreState) → IsTied old t → GoesOn old.core t merging (begin_reply result) core old.kept
  begin_goes is t tied = served_goes_on old.core core old.kept t merging (begin_reply result) tied.stands tied.reads (serves is)

  pub merge_settles : IsSettled honest (with_merges out_then (record old { core = core }))
  merge_settles =
      job_settles honest old core old.flushes out_then merging (begin_reply result) refl settled owes (flushes_stay old.core core merging (begin_reply result) owes old.flushes settled.knows) begun_merges begin_goes

  pub merge_makes : (view : Locked) → old ≡ view → MakesCall honest view merging (begin_reply result) (with_merges out_then (record old { core = core }))
  merge_makes view is =
      job_makes honest old core old.flushes out_then merging (begin_reply result) refl settled owes (flushes_stay old.core core merging (begin_reply result) owes old.flushes settled.knows) begun_merges begin_goes view is

module _ (honest : Bool) (old : Locked) (core : Held) (place target : ℕ) (task : Task) (result : Result Bool Error) (settled : IsSettled honest old)
    (out : slice_get old.merges place ≡ Some (record { task = task; target = Some target })) (owes : Owes old.core (OfMergeFinish (job_of task)) (flag_reply result) core)
    (serves : IsTrue honest → ServesWhere (KnowsMergeIfDue old.core target task) old.core (OfMergeFinish (job_of task)) (flag_reply result) core) where
  abbrev joining : CallShape
  joining = OfMergeFinish (job_of task)

  abbrev out_yet : List Label
  out_yet = without_finished result place old.merges

  joined_merges : IsTrue honest → (t : CoreState) → IsTied old t → (s : State) → StepOf t.state joining (flag_reply result) s → All (KnowsMergeOf s) out_yet
  joined_merges is t tied s step = all_finished (KnowsMergeOf s) place old.merges result (merges_stay old.core t.state s joining (flag_reply result) tied.stands.machine step old.merges tied.knows)

  joined_flushes : All (KnowsFlushOf core) old.flushes
  joined_flushes = flushes_stay old.core core joining (flag_reply result) owes old.flushes settled.knows

  join_goes : IsTrue honest → (t : CoreState) → IsTied old t → GoesOn old.core t joining (flag_reply result) core old.kept
  join_goes is t tied =
      let label : Label = record { task = task; target = Some target } in
      let knows : KnowsMerge t.state target task = at_place (KnowsMergeOf t.state) old.merges place label out tied.knows in
      let (s, stay, on, step, led) = (serves is).goes_on t.state tied.stands.machine tied.reads (λ due. knows) in
      (s, shape_stands old.core core old.kept t s joining (flag_reply result) tied.stands step stay, on, step, led)

  pub merged_settles : IsSettled honest (with_merges out_yet (record old { core = core }))
  merged_settles = job_settles honest old core old.flushes out_yet joining (flag_reply result) refl settled owes joined_flushes joined_merges join_goes

  pub merged_done : (view : Locked) (number : ℕ) → old ≡ view → task.id ≡ number → FinishesJob honest OfMergeFinish view.merges with_merges view number result (with_merges out_yet (record old { core = core }))
  merged_done view number is named =
      subst (λ (l : Locked). FinishesJob honest OfMergeFinish l.merges with_merges l number result (with_merges out_yet (record old { core = core }))) is
      (IsFinished place (record { task = task; target = Some target }) out named (job_makes honest old core old.flushes out_yet joining (flag_reply result) refl settled owes joined_flushes joined_merges join_goes old refl) refl)
