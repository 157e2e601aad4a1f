-- Lists of jobs that are kept: one more, one less, and the one of a name that is found.
use Rattle.std.proofs.Common.{◌≡◌, ℕ, ◌+◌, ◌≤◌, ◌==◌, ◌&&◌, ◌||◌, All, Bool, true, false, get_or, List, [], ◌∷◌, ◌++◌, length, take, drop, Some, None, zero, suc, refl, sym, ◌∙◌, ap, subst, arith}
use Rattle.std.specs.List.{list_any, position, position_or_len, slice_get}
use Rattle.std.proofs.lemmas.Bool.{eq-eqb, eqb-true, true≢false}
use Rattle.std.proofs.lemmas.Grind.{common_steps}
use Rattle.std.proofs.lemmas.List.Elements.{All-append, All-drop, All-take}
use Rattle.std.proofs.lemmas.List.Folds.{list_any-append, list_any_none}
use Rattle.std.proofs.lemmas.List.Quantifiers.{position-Some}
use Rattle.std.proofs.lemmas.List.Sums.{fails_before_first}
use Rattle.std.proofs.lemmas.Option.{get_or_from_slice_get, slice_get-get_or, slice_get_within}
use Rattle.fjall_base.proofs.Codecs.{some_is}
use Rattle.fjall_history.specs.declared.job.JobId.{JobId}
use Rattle.fjall_jobs.specs.Tasks.{Task}
use Rattle.fjall_engine.specs.declared.jobs.Job.{Job}
use Rattle.fjall_engine.specs.declared.jobs.Job.TheVariants.{Flush, Merge}
use Rattle.fjall_engine.specs.declared.jobs.JobKind.{JobKind}
use Rattle.fjall_engine.specs.declared.jobs.JobKind.TheVariants as kinds
use Rattle.fjall_engine.specs.Jobs.{Finds, IsSameJob, finish_of, has_name, is_kind, is_named, kind_of, name_of, task_of}
use Rattle.fjall_engine.specs.Standing.{job_of}

-- ---- names

both : (a b : Bool) → (a && b) ≡ true → (a ≡ true) × (b ≡ true)
both true true is = (refl, refl)
both true false is = absurd (true≢false (sym is))
both false b is = absurd (true≢false (sym is))

kind_is : (kind other : JobKind) → is_kind kind other ≡ true → kind ≡ other
kind_is kinds.Flush kinds.Flush is = refl
kind_is kinds.Merge kinds.Merge is = refl
kind_is kinds.Flush kinds.Merge is = absurd (true≢false (sym is))
kind_is kinds.Merge kinds.Flush is = absurd (true≢false (sym is))

its_kind : (kind : JobKind) → is_kind kind kind ≡ true
its_kind kinds.Flush = refl
its_kind kinds.Merge = refl

-- the job of a name is that of its task
task_named : (job : JobId) (task : Task) → has_name job task ≡ true → job_of task ≡ job
task_named job task is =
    let two = both (task.id == job.number) (task.keyspace == job.keyspace_id) is in
    let number = eqb-true task.id job.number two.0 in
    let keyspace = eqb-true task.keyspace job.keyspace_id two.1 in
    λ i. record { number = number i; keyspace_id = keyspace i }

-- the kind and the name of a job that is found under them are its own
named_so : (kind : JobKind) (job : JobId) (kept : Job) → is_named kind job kept ≡ true → (kind_of kept ≡ kind) × (name_of kept ≡ job)
named_so kind job kept is =
    let two = both (is_kind kind (kind_of kept)) (has_name job (task_of kept)) is in
    (sym (kind_is kind (kind_of kept) two.0), task_named job (task_of kept) two.1)

-- and so the call that finishes it is
pub finish_of_named : (kind : JobKind) (job : JobId) (kept : Job) → is_named kind job kept ≡ true → finish_of (kind_of kept) (name_of kept) ≡ finish_of kind job
finish_of_named kind job kept is = let own = named_so kind job kept is in λ i. finish_of (own.0 i) (own.1 i)

-- two kinds and names of one job are one
pub same_name : (kind other : JobKind) (job name : JobId) (kept : Job) → is_named kind job kept ≡ true → is_named other name kept ≡ true → (kind ≡ other) × (job ≡ name)
same_name kind other job name kept is was =
    let one = named_so kind job kept is in
    let two = named_so other name kept was in
    (sym one.0 ∙ two.0, sym one.1 ∙ two.1)

-- it is found under its own
pub its_own : (kept : Job) → is_named (kind_of kept) (name_of kept) kept ≡ true
its_own kept =
    let task = task_of kept in
    ap (λ (b : Bool). b && has_name (name_of kept) task) (its_kind (kind_of kept))
    ∙ ap (λ (b : Bool). b && (task.keyspace == task.keyspace)) (eq-eqb task.id task.id refl) ∙ eq-eqb task.keyspace task.keyspace refl

-- and the same job under the same
pub named_like : (kept back : Job) → IsSameJob kept back → (kind : JobKind) (job : JobId) → is_named kind job back ≡ is_named kind job kept
named_like (Flush kept) (Flush back) same kind job = ap (λ (task : Task). is_kind kind kinds.Flush && has_name job task) same
named_like (Merge kept) (Merge back) same kind job = ap (λ (task : Task). is_kind kind kinds.Merge && has_name job task) same.0
named_like (Flush kept) (Merge back) same kind job = absurd same
named_like (Merge kept) (Flush back) same kind job = absurd same

or_true : (a b : Bool) → b ≡ true → (a || b) ≡ true
or_true true b is = refl
or_true false b is = is

module _ {Kept : Type 0} (is : Kept → Bool) where
  -- ---- one more

  pub any_more : (jobs : List Kept) (kept : Kept) → list_any is jobs ≡ true → list_any is (jobs ++ kept ∷ []) ≡ true
  any_more jobs kept has = list_any-append is jobs (kept ∷ []) ∙ ap (λ (b : Bool). b || list_any is (kept ∷ [])) has

  pub any_last : (jobs : List Kept) (kept : Kept) → is kept ≡ true → list_any is (jobs ++ kept ∷ []) ≡ true
  any_last jobs kept it = list_any-append is jobs (kept ∷ []) ∙ or_true (list_any is jobs) (list_any is (kept ∷ [])) (ap (λ (b : Bool). b || false) it)

  -- ---- one less, which it isn't

  pub any_without : (jobs : List Kept) (place : ℕ) (kept : Kept) → slice_get jobs place ≡ Some kept → is kept ≡ false → list_any is jobs ≡ true → list_any is (take place jobs ++ drop (place + 1) jobs) ≡ true
  any_without [] place kept at other has = absurd (true≢false (sym has))
  any_without (k ∷ jobs) zero kept at other has =
      let here : is k ≡ false = ap is (some_is k kept at) ∙ other in
      ap (λ (b : Bool). b || list_any is jobs) (sym here) ∙ has
  any_without (k ∷ jobs) (suc place) kept at other has =
      let more : (suc place) + 1 ≡ suc (place + 1) = omega arith in
      ap (λ (n : ℕ). is k || list_any is (take place jobs ++ drop n (k ∷ jobs))) more ∙ by (is k) refl (λ rest. any_without jobs place kept at other rest)
    where
      by : (b : Bool) → is k ≡ b → (list_any is jobs ≡ true → list_any is (take place jobs ++ drop (place + 1) jobs) ≡ true) → (is k || list_any is (take place jobs ++ drop (place + 1) jobs)) ≡ true
      by true here later = ap (λ (b : Bool). b || list_any is (take place jobs ++ drop (place + 1) jobs)) here
      by false here later =
          or_true (is k) (list_any is (take place jobs ++ drop (place + 1) jobs)) (later (ap (λ (b : Bool). b || list_any is jobs) (sym here) ∙ has))

  -- ---- the search in the list

  pub none_found : (jobs : List Kept) → position is jobs ≡ None → list_any is jobs ≡ false
  none_found jobs none =
      let past : length jobs ≤ position_or_len is jobs = grind (arith, common_steps) in
      list_any_none is jobs (λ k d lt. fails_before_first is jobs k d (omega (arith, past, lt)))

  pub one_found : (jobs others : List Kept) (place : ℕ) (kept : Kept) → position is jobs ≡ Some place → kept ≡ get_or jobs place kept → others ≡ take place jobs ++ drop (place + 1) jobs → Finds is jobs (Some kept) others
  one_found jobs others place kept found at left =
      let there = position-Some is jobs place kept found in
      (ap is at ∙ there.1, place, slice_get-get_or jobs place kept there.0 ∙ ap (λ (k : Kept). Some k) (sym at), left)

-- what holds of all holds of the one at a place
pub at_place : {Kept : Type 0} (P : Kept → Type 0) (jobs : List Kept) (place : ℕ) (kept : Kept) → All P jobs → slice_get jobs place ≡ Some kept → P kept
at_place P jobs place kept all at = subst P (get_or_from_slice_get jobs place kept kept at) (all place kept (slice_get_within jobs place kept at))

-- and of all others
pub without_one : {Kept : Type 0} (P : Kept → Type 0) (jobs : List Kept) (place : ℕ) → All P jobs → All P (take place jobs ++ drop (place + 1) jobs)
without_one P jobs place all = All-append P (take place jobs) (drop (place + 1) jobs) (All-take P place jobs all) (All-drop P (place + 1) jobs all)
