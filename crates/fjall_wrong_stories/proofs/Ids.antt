-- Ids of keyspaces: the next one lies above all that live, and one that is gone doesn't come back.
use Rattle.std.proofs.Common.{◌≡◌, ◌≢◌, ◌⊎◌, ℕ, ◌+◌, ◌<◌, ◌≤◌, Bool, true, false, cond, if◌then◌else◌, true≢false, List, [], ◌∷◌, Some, None, is_some, refl, sym, ap, ap₂, ◌∙◌, inl, inr, arith}
use Rattle.std.specs.Cmp.{nat_cmp_total}
use Rattle.std.specs.FinMap.{get, get-insert, get-remove}
use Rattle.std.specs.Ordering.{nat_cmp, eq_by_cmp}
use Rattle.fjall_base.specs.Pairs.{Bytes}
use Rattle.fjall_base.specs.Store.{Store, Options, Item, Command, Write, Clear, Create, Delete, apply, fold}
use Rattle.fjall_history.specs.declared.reply.Reply.{Reply}
use Rattle.fjall_history.specs.declared.reply.Reply.TheVariants.{Flag, Number, Refused}
use Rattle.fjall_machine.specs.declared.call.Call.TheVariants as core
use Rattle.fjall_calls.specs.declared.call.TxCall.{TxCall}
use Rattle.fjall_calls.specs.declared.call.TxCall.TheVariants.{Commit, Core, Within}
use Rattle.fjall_consistency.specs.Consistency.{IsAnswer, IsMade, Known, accepted, after, asked, has_name, is_living, items_in, one_write}
use Rattle.fjall_wrong_stories.specs.Stories.{Step, keyspace}
use Rattle.fjall_wrong_stories.proofs.Names.{taken}
use Rattle.fjall_wrong_stories.proofs.Values.{deleted, same_id}

-- ---- the next id

-- all that live are below it
abbrev pub AreBelow : Store → Type 0
AreBelow s = (id : ℕ) → is_living s id ≡ true → id < s.next

below_apply : (s : Store) (command : Command) → AreBelow s → AreBelow (apply s command)
below_apply s (Write items) below = below
below_apply s (Clear id) below = below
below_apply s (Create name options) below = λ id living. by id (same_id id s.next) living
  where
    is : (id : ℕ) → is_living (apply s (Create name options)) id ≡ is_some (cond (eq_by_cmp nat_cmp id s.next) (Some name) (get s.names id))
    is id = ap is_some (get-insert nat_cmp_total s.names s.next name id)

    by : (id : ℕ) → ((eq_by_cmp nat_cmp id s.next ≡ true) × (id ≡ s.next)) ⊎ (eq_by_cmp nat_cmp id s.next ≡ false) → is_living (apply s (Create name options)) id ≡ true → id < s.next + 1
    by id (inl same) living = omega (arith, same.1)
    by id (inr other) living =
        let was = below id (sym (ap (λ (b : Bool). is_some (cond b (Some name) (get s.names id))) other) ∙ sym (is id) ∙ living) in
        omega (arith, was)
below_apply s (Delete gone) below = λ id living. below id (by id (eq_by_cmp nat_cmp id gone) (sym (ap is_some (get-remove nat_cmp_total s.names gone id)) ∙ living))
  where
    by : (id : ℕ) (b : Bool) → is_some (cond b None (get s.names id)) ≡ true → is_living s id ≡ true
    by id true e = cc
    by id false e = e

pub below_fold : (s : Store) (commands : List Command) → AreBelow s → AreBelow (fold s commands)
below_fold s [] below = below
below_fold s (command ∷ commands) below = below_fold (apply s command) commands (below_apply s command below)

-- ---- ids that are gone

-- an id that was given doesn't live
pub record IsGone (id : ℕ) (s : Store) : Type 0 where
  pub given : id < s.next
  pub gone : is_living s id ≡ false

next_up : (s : Store) (command : Command) → s.next ≤ (apply s command).next
next_up s (Write items) = omega arith
next_up s (Clear id) = omega arith
next_up s (Create name options) = omega arith
next_up s (Delete id) = omega arith

pub given_fold : (id : ℕ) (s : Store) (commands : List Command) → id < s.next → id < (fold s commands).next
given_fold id s [] given = given
given_fold id s (command ∷ commands) given = given_fold id (apply s command) commands (omega (arith, given, next_up s command))

-- one that doesn't live lives after a command only where it is the next one, and a keyspace is made
create_keeps : (s : Store) (name : Bytes) (options : Options) (id : ℕ) → id ≢ s.next → is_living s id ≡ false → is_living (apply s (Create name options)) id ≡ false
create_keeps s name options id apart gone = ap is_some (get-insert nat_cmp_total s.names s.next name id) ∙ by (same_id id s.next)
  where
    by : ((eq_by_cmp nat_cmp id s.next ≡ true) × (id ≡ s.next)) ⊎ (eq_by_cmp nat_cmp id s.next ≡ false) → is_some (cond (eq_by_cmp nat_cmp id s.next) (Some name) (get s.names id)) ≡ false
    by (inl same) = absurd (apart same.1)
    by (inr other) = ap (λ (b : Bool). is_some (cond b (Some name) (get s.names id))) other ∙ gone

delete_keeps : (s : Store) (other id : ℕ) → is_living s id ≡ false → is_living (apply s (Delete other)) id ≡ false
delete_keeps s other id gone = ap is_some (get-remove nat_cmp_total s.names other id) ∙ by (eq_by_cmp nat_cmp id other)
  where
    by : (b : Bool) → is_some (cond b None (get s.names id)) ≡ false
    by true = refl
    by false = gone

gone_apply : (id : ℕ) (s : Store) (command : Command) → id < s.next → is_living s id ≡ false → is_living (apply s command) id ≡ false
gone_apply id s (Write items) given gone = gone
gone_apply id s (Clear other) given gone = gone
gone_apply id s (Create name options) given gone = create_keeps s name options id (λ e. omega (arith, given, e)) gone
gone_apply id s (Delete other) given gone = delete_keeps s other id gone

pub gone_fold : (id : ℕ) (s : Store) (commands : List Command) → IsGone id s → IsGone id (fold s commands)
gone_fold id s [] is = is
gone_fold id s (command ∷ commands) is =
    gone_fold id (apply s command) commands (record { given = omega (arith, is.given, next_up s command); gone = gone_apply id s command is.given is.gone })

-- a deletion leaves one that is gone
pub deletion_leaves : (id : ℕ) (s : Store) → id < s.next → IsGone id (fold s (if is_living s id then (Delete id ∷ []) else []))
deletion_leaves id s given = by (is_living s id) refl
  where
    by : (b : Bool) → is_living s id ≡ b → IsGone id (fold s (if b then (Delete id ∷ []) else []))
    by true e = record { given = given; gone = deleted s id }
    by false e = record { given = given; gone = e }

-- ---- calls

-- a write makes no keyspace
writes_keep : (s : Store) (items : List Item) (id : ℕ) → is_living (fold s (one_write items)) id ≡ is_living s id
writes_keep s [] id = refl
writes_keep s (item ∷ items) id = refl

-- nor does a deletion
deletion_keeps : (s : Store) (other id : ℕ) → is_living s id ≡ false → is_living (fold s (if is_living s other then (Delete other ∷ []) else [])) id ≡ false
deletion_keeps s other id gone = by (is_living s other)
  where
    by : (b : Bool) → is_living (fold s (if b then (Delete other ∷ []) else [])) id ≡ false
    by true = delete_keeps s other id gone
    by false = gone

-- a creation of a new name tells the next id
tells_next : (s : Store) (name : Bytes) (told : ℕ) → has_name s name ≡ false → get (apply s (Create name [])).names told ≡ Some name → told ≡ s.next
tells_next s name told free named = by (same_id told s.next) (sym (get-insert nat_cmp_total s.names s.next name told) ∙ named)
  where
    by : ((eq_by_cmp nat_cmp told s.next ≡ true) × (told ≡ s.next)) ⊎ (eq_by_cmp nat_cmp told s.next ≡ false)
        → cond (eq_by_cmp nat_cmp told s.next) (Some name) (get s.names told) ≡ Some name → told ≡ s.next
    by (inl same) e = same.1
    by (inr other) e = absurd (true≢false (sym (taken s told name (sym (ap (λ (b : Bool). cond b (Some name) (get s.names told)) other) ∙ e)) ∙ free))

-- it makes the one whose id it tells
creation_keeps : (s : Store) (name : Bytes) (told id : ℕ) → get (fold s (if has_name s name then [] else (Create name [] ∷ []))).names told ≡ Some name → told ≢ id
    → is_living s id ≡ false → is_living (fold s (if has_name s name then [] else (Create name [] ∷ []))) id ≡ false
creation_keeps s name told id named apart gone = by (has_name s name) refl named
  where
    by : (b : Bool) → has_name s name ≡ b → get (fold s (if b then [] else (Create name [] ∷ []))).names told ≡ Some name → is_living (fold s (if b then [] else (Create name [] ∷ []))) id ≡ false
    by true e named = gone
    by false e named = create_keeps s name [] id (λ same. apart (tells_next s name told e named ∙ sym same)) gone

creation_makes : (s : Store) (name : Bytes) (told id : ℕ) → get (fold s (if has_name s name then [] else (Create name [] ∷ []))).names told ≡ Some name → told ≢ id
    → (IsMade s id → ⊥) → IsMade (fold s (if has_name s name then [] else (Create name [] ∷ []))) id → ⊥
creation_makes s name told id named apart unmade = by (has_name s name) refl named
  where
    by : (b : Bool) → has_name s name ≡ b → get (fold s (if b then [] else (Create name [] ∷ []))).names told ≡ Some name → IsMade (fold s (if b then [] else (Create name [] ∷ []))) id → ⊥
    by true e named made = unmade made
    by false e named made = unmade (made.0, omega (arith, made.1, tells_next s name told e named, apart))

abbrev IsNoCreation : TxCall → Type 0
IsNoCreation (Core (core.Keyspace name options)) = ⊥
IsNoCreation call = Unit {0}

-- so it is of what a call asks for
asked_keeps : (k : Known) (call : TxCall) (id : ℕ) → IsNoCreation call → is_living k.present id ≡ false → is_living (fold k.present (asked k call)) id ≡ false
asked_keeps k (Core (core.Keyspace name options)) id none gone = absurd none
asked_keeps k (Core (core.DeleteKeyspace other)) id none gone = deletion_keeps k.present other id gone
asked_keeps k (Core (core.Clear other)) id none gone = gone
asked_keeps k (Within place call) id none gone = gone
asked_keeps k call id none gone = writes_keep k.present (items_in k call) id ∙ gone

-- and of what was accepted of it
accepted_keeps : (k : Known) (call : TxCall) (reply : Reply) (id : ℕ) → IsNoCreation call → is_living k.present id ≡ false → is_living (fold k.present (accepted k call reply)) id ≡ false
accepted_keeps k call (Refused error) id none gone = gone
accepted_keeps k (Commit kind place) (Flag false) id none gone = gone
accepted_keeps k call reply id none gone = asked_keeps k call id none gone

-- an id that doesn't live lives after a call only where the call tells it
told_keeps : (k : Known) (call : TxCall) (reply : Reply) (id : ℕ) → IsAnswer k call reply
    → ((name : Bytes) (options : List Bytes) → call ≡ keyspace name options → reply ≡ Number id → ⊥)
    → is_living k.present id ≡ false → is_living (fold k.present (accepted k call reply)) id ≡ false
told_keeps k call (Refused error) id is other gone = gone
told_keeps k (Core (core.Keyspace name options)) reply id is other gone =
    creation_keeps k.present name is.0.0 id is.0.4 (λ e. other name options refl (is.0.1 ∙ ap Number e)) gone
told_keeps k call reply id is other gone = accepted_keeps k call reply id tt gone

-- other calls than creations take no id
deletion_takes : (s : Store) (other : ℕ) → (fold s (if is_living s other then (Delete other ∷ []) else [])).next ≡ s.next
deletion_takes s other = by (is_living s other)
  where
    by : (b : Bool) → (fold s (if b then (Delete other ∷ []) else [])).next ≡ s.next
    by true = refl
    by false = refl

writes_take : (s : Store) (items : List Item) → (fold s (one_write items)).next ≡ s.next
writes_take s [] = refl
writes_take s (item ∷ items) = refl

accepted_takes : (k : Known) (call : TxCall) (reply : Reply) → IsNoCreation call → (fold k.present (accepted k call reply)).next ≡ k.present.next
accepted_takes k call (Refused error) none = refl
accepted_takes k (Commit kind place) (Flag false) none = refl
accepted_takes k (Core (core.Keyspace name options)) reply none = absurd none
accepted_takes k (Core (core.DeleteKeyspace other)) reply none = deletion_takes k.present other
accepted_takes k (Core (core.Clear other)) reply none = refl
accepted_takes k (Within place call) reply none = refl
accepted_takes k call reply none = writes_take k.present (items_in k call)

same_made : (next other id : ℕ) → next ≡ other → (0 < id) × (id < next) → (0 < id) × (id < other)
same_made next other id e made = (made.0, omega (arith, e, made.1))

-- an id that wasn't made is made by a call only where the call tells it
told_makes : (k : Known) (call : TxCall) (reply : Reply) (id : ℕ) → IsAnswer k call reply
    → ((name : Bytes) (options : List Bytes) → call ≡ keyspace name options → reply ≡ Number id → ⊥)
    → (IsMade k.present id → ⊥) → IsMade (fold k.present (accepted k call reply)) id → ⊥
told_makes k call (Refused error) id is other unmade = unmade
told_makes k (Core (core.Keyspace name options)) reply id is other unmade =
    creation_makes k.present name is.0.0 id is.0.4 (λ e. other name options refl (is.0.1 ∙ ap Number e)) unmade
told_makes k call reply id is other unmade = λ made. unmade (same_made _ _ id (accepted_takes k call reply tt) made)

step_of : TxCall → Reply → Step
step_of call reply = (call, reply)

-- an id that no creation tells stays without a keyspace
pub untold : (id : ℕ) (k : Known) (step : Step) → IsAnswer k step.0 step.1 → ((name : Bytes) (options : List Bytes) → step ≢ (keyspace name options, Number id))
    → is_living k.present id ≡ false → is_living (after k step.0 step.1).present id ≡ false
unfolding step_of
untold id k step is other gone = told_keeps k step.0 step.1 id is (λ name options e g. other name options (ap₂ step_of e g)) gone

-- and stays one under which none was made
pub unmade : (id : ℕ) (k : Known) (step : Step) → IsAnswer k step.0 step.1 → ((name : Bytes) (options : List Bytes) → step ≢ (keyspace name options, Number id))
    → (IsMade k.present id → ⊥) → IsMade (after k step.0 step.1).present id → ⊥
unfolding step_of
unmade id k step is other gone = told_makes k step.0 step.1 id is (λ name options e g. other name options (ap₂ step_of e g)) gone
