-- Behind a fault in a call that was to change the store nothing changes it.
use Rattle.std.proofs.Common.{◌≡◌, ◌≢◌, ℕ, nat_lt, Bool, true, false, ◌||◌, if◌then◌else◌, true≢false, List, [], ◌∷◌, ◌++◌, length, refl, ap, ◌∙◌}
use Rattle.fjall_base.specs.Pairs.{Bytes}
use Rattle.fjall_base.specs.Store.{Store, Create, fold}
use Rattle.fjall_base.specs.declared.error.Error.{Error}
use Rattle.fjall_base.specs.declared.error.Error.TheVariants.{Io}
use Rattle.fjall_history.specs.declared.reply.Reply.{Reply}
use Rattle.fjall_history.specs.declared.reply.Reply.TheVariants.{Done, Number, Refused}
use Rattle.fjall_calls.specs.declared.call.TxCall.{TxCall}
use Rattle.fjall_consistency.specs.Consistency.{IsAnswer, Known, accepted, after, attempted, begins, has_name, is_fault, no_store}
use Rattle.fjall_wrong_stories.specs.Stories as stories
use Rattle.fjall_wrong_stories.specs.Stories.{Ended, MakeNone, Never, Step, insert, keyspace}
use Rattle.fjall_wrong_stories.proofs.Chapters.{goes}
use Rattle.fjall_wrong_stories.proofs.Along.{AreTold, along, known_after, told_behind}
use Rattle.fjall_wrong_stories.proofs.Names.{unnamed}
use Rattle.fjall_wrong_stories.proofs.Values.{no_name}

-- behind a fault in a call that was to change the store none is accepted
none_accepted : (k : Known) (call : TxCall) (reply : Reply) → IsAnswer k call reply → k.broken ≡ true → accepted k call reply ≡ []
none_accepted k call (Refused error) is broken = refl
none_accepted k call reply is broken = is.2 broken

-- so that the store stays
abbrev IsStuck : Store → Known → Type 0
IsStuck s k = (k.broken ≡ true) × (k.present ≡ s)

stuck_stays : (s : Store) (k : Known) (step : Step) → IsAnswer k step.0 step.1 → Unit {0} → IsStuck s k → IsStuck s (after k step.0 step.1)
stuck_stays s k step is any stuck = (
  ap (λ (b : Bool). b || nat_lt (length (accepted k step.0 step.1)) (length (attempted k step.0 step.1))) stuck.0,
  ap (fold k.present) (none_accepted k step.0 step.1 is stuck.0) ∙ stuck.1,
)

-- such a fault is one that refuses to make a keyspace by a new name
breaks : (k : Known) (name : Bytes) (options : List Bytes) (error : Error) → is_fault (Refused error) ≡ true → has_name k.present name ≡ false
    → (after k (keyspace name options) (Refused error)).broken ≡ true
breaks k name options (Io kind) fault free =
    ap (λ (b : Bool). k.broken || nat_lt 0 (length (if b then [] else (Create name [] ∷ [])))) free ∙ either k.broken
  where
    either : (b : Bool) → (b || true) ≡ true
    either true = refl
    either false = refl
breaks k name options error fault free = cc

-- what is known behind it in a first life
record IsBehind (before last : List Step) : Type 0 where
  pub k : Known
  pub told : AreTold k last
  pub stuck : IsStuck (known_after (begins no_store) before).present k

free_after : (name : Bytes) (before more : List Step) → AreTold (begins no_store) (before ++ more) → MakeNone name before → has_name (known_after (begins no_store) before).present name ≡ false
free_after name before more are none =
    along (λ k. has_name k.present name ≡ false) (λ step. (options : List Bytes) (id : ℕ) → step ≢ (keyspace name options, Number id)) (unnamed name) (begins no_store) before more are none (no_name name)

behind_fault : (name : Bytes) (options : List Bytes) (error : Error) (before between last : List Step) → is_fault (Refused error) ≡ true → MakeNone name before
    → AreTold (begins no_store) (before ++ ((keyspace name options, Refused error) ∷ between ++ last)) → IsBehind before last
behind_fault name options error before between last fault none are = record { k = known_after broken between; told = told_behind broken between last fails.1; stuck = stuck }
  where
    fails : AreTold (known_after (begins no_store) before) ((keyspace name options, Refused error) ∷ between ++ last)
    fails = told_behind (begins no_store) before ((keyspace name options, Refused error) ∷ between ++ last) are

    broken : Known
    broken = after (known_after (begins no_store) before) (keyspace name options) (Refused error)

    breaks_here : broken.broken ≡ true
    breaks_here = breaks (known_after (begins no_store) before) name options error fault (free_after name before _ are none)

    stuck : IsStuck (known_after (begins no_store) before).present (known_after broken between)
    stuck = along (IsStuck (known_after (begins no_store) before).present) (λ step. Unit {0}) (stuck_stays (known_after (begins no_store) before).present) broken between last fails.1
        (λ i d below. tt) (breaks_here, refl)

-- no keyspace is made
makes_none : (k : Known) (name : Bytes) (options : List Bytes) (id : ℕ) → IsAnswer k (keyspace name options) (Number id) → k.broken ≡ true → has_name k.present name ≡ false → ⊥
makes_none k name options id is broken free = by (has_name k.present name) free (is.2 broken)
  where
    by : (b : Bool) → b ≡ false → (if b then [] else (Create name [] ∷ [])) ≡ [] → ⊥
    by true e none = true≢false e
    by false e none = cc

pub no_fault_shifts_ids : Never stories.AFaultShiftsTheIds
no_fault_shifts_ids wild lives told end are story =
    let (name, other, options, more, error, fault, id, before, between, behind, free, other_free, went) = story in
    let last = (keyspace other more, Number id) ∷ behind in
    let steps = before ++ ((keyspace name options, Refused error) ∷ between ++ last) in
    let life = goes wild no_store end lives told (Ended steps) [] are went in
    let at = behind_fault name options error before between last fault free life.served.answers in
    makes_none at.k other more id at.told.0 at.stuck.0 (ap (λ (s : Store). has_name s other) at.stuck.1 ∙ free_after other before _ life.served.answers other_free)

pub no_write_behind_a_fault : Never stories.AWriteBehindAFault
no_write_behind_a_fault wild lives told end are story =
    let (name, options, error, fault, id, key, value, before, between, behind, free, went) = story in
    let last = (insert id key value, Done) ∷ behind in
    let steps = before ++ ((keyspace name options, Refused error) ∷ between ++ last) in
    let life = goes wild no_store end lives told (Ended steps) [] are went in
    let at = behind_fault name options error before between last fault free life.served.answers in
    cc (at.told.0.2 at.stuck.0)
