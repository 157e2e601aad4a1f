-- Each line has an answer, and the one for bad lines is given to no command.
use Rattle.std.proofs.Common.{◌≡◌, ℕ, ◌+◌, ◌-◌, ◌<◌, ◌^◌, Bool, true, false, List, [], ◌∷◌, ◌++◌, if◌then◌else◌, length, drop, take, get_or, Option, Some, None, refl, sym, ap, ◌∙◌, append_assoc, codes, decimal, arith, lit<, subst, inl, inr, ◌⊎◌, Global, Vec}
use Rattle.std.specs.Prelude.{All}
use Rattle.std.specs.List.{AllZip}
use Rattle.std.specs.declared.ops.Bound.TheVariants.{Unbounded}
use Rattle.std.proofs.lemmas.Bool.{true≢false}
use Rattle.std.proofs.lemmas.List.{append-nil}
use Rattle.std.proofs.lemmas.List.Elements.{All-head, All-tail}
use Rattle.std.proofs.lemmas.Fmt.{first_decimal, decimal_nonempty}
use Rattle.fjall_journal.specs.declared.recovery_mode.RecoveryMode.{RecoveryMode}
use Rattle.fjall_base.specs.declared.error.Error.{Error}
use Rattle.fjall_base.specs.declared.error.Error.TheVariants.{Io}
use Rattle.fjall_base.specs.Errors.{number_of, name_of}
use Rattle.fjall_table_reader.specs.Readers.{Reader}
use Rattle.fjall_journal.specs.declared.op.Op.{Op}
use Rattle.fjall_journal.specs.declared.op.Op.TheVariants.{Put}
use Rattle.fjall_history.specs.declared.job.JobId.{JobId}
use Rattle.fjall_history.specs.declared.ticket.View.{View}
use Rattle.fjall_history.specs.declared.ticket.View.TheVariants.{Present, At}
use Rattle.fjall_history.specs.Queries as queries
use Rattle.fjall_history.specs.Queries.{Query}
use Rattle.fjall_history.specs.declared.reply.Reply.{Reply}
use Rattle.fjall_history.specs.declared.reply.Reply.TheVariants.{Began, Done, Ids, Value, Pairs, Number, Names, Flag, Opened, Refused}
use Rattle.fjall_machine.specs.declared.call.Call.{Call}
use Rattle.fjall_machine.specs.declared.call.Call.TheVariants.{FlushBegin, FlushFinish, MajorBegin, MergeFinish}
use Rattle.fjall_machine.specs.Places.{resolved, view_at}
use Rattle.fjall_machine.specs.declared.merge_kind.MergeKind.TheVariants.{Major}
use Rattle.fjall_machine.specs.Shapes.{CallShape, OfFlushBegin, OfFlushFinish, OfMergeBegin, OfMergeFinish, shape_of}
use Rattle.fjall_lines.specs.declared.command.Command.{Command}
use Rattle.fjall_lines.specs.declared.command.Command.TheVariants.{Ask, Crash, CrashWild, Reopen}
use Rattle.fjall_lines.specs.declared.command.Request.{Request}
use Rattle.fjall_lines.specs.declared.command.Request.TheVariants.{Keyspace, Delete, Insert, Remove, RemoveWeak, Clear, Batch, Get, Len, Scan, Snapshot, GetAt, CloseSnapshot, Begin, TxGet, TxInsert, Commit, Gc, Rotate, Flush, Merge, Persist}
use Rattle.fjall_script.specs.Answers.{bad_line, done_text, flag_text, is_idle, last_said, number_text, ok_line, reply_text, reply_to}
use Rattle.fjall_calls.specs.Holding.{Held}
use Rattle.fjall_calls.specs.Transactions.{Kept}
use Rattle.fjall_calls.specs.declared.call.Kind.TheVariants.{Optimistic}
use Rattle.fjall_calls.specs.declared.call.TxCall.{TxCall}
use Rattle.fjall_calls.specs.declared.call.TxCall.TheVariants as tx
use Rattle.fjall_calls.specs.declared.call.Within.TheVariants as within
use Rattle.fjall_calls.specs.Serving as served
use Rattle.fjall_calls.specs.Serving.{AllCome, ComesTo, Itself, OneComes, Others}
use Rattle.fjall_calls.specs.CoreStanding.{Gives, GivesRead, IsAnswerTo, Owes, OwesAll, OwesBegin, OwesFinish, OwesMerge, OwesMergeBegin, tables_of}
use Rattle.fjall_script.specs.Requests.{AreCallsBehind, IsCallOf, SoFar, all_calls, asked_with, begun_at, behind, calls_with, counts_of, finish_of, is_same, is_stop, job_of, left_of, named, none_so_far, place_in, numbers_before, requests_of}
use Rattle.fjall_script.specs.declared.calls.Job.{Job}
use Rattle.fjall_script.specs.declared.calls.Job.TheVariants as jobs
use Rattle.fjall_script.specs.Sessions.{answers_to, IsAnswer, IsReplyTo, Session, begun, run, restarted, Restarts}

-- no refusal has the number 0
numbered : (error : Error) → (0 < number_of error) × (number_of error < 2 ^ 64)
numbered (Io kind) = (lit< tt, lit< tt)
numbered error = (lit< tt, lit< tt)

get_or-front : (a b : List ℕ) → 0 < length a → get_or (a ++ b) 0 0 ≡ get_or a 0 0
get_or-front [] b h = absurd (omega arith)
get_or-front (x ∷ a) b h = refl

abbrev first_of : List ℕ → ℕ
first_of text = get_or text 0 0

-- no answer to a refusal is the one for bad lines
refusal_is_named : (number : ℕ) (request : Request) (error : Error) → reply_text number request (Refused error) ≡ bad_line → ⊥
refusal_is_named n request error h =
    let number = numbered error in
    let some = decimal_nonempty (number_of error) number.1 in
    let high = first_decimal (number_of error) number.0 number.1 in
    let at : get_or (decimal (number_of error) ++ (codes " " ++ name_of error)) 0 0 ≡ 48 = ap (λ (t : List ℕ). get_or (drop 6 t) 0 0) h in
    let front = get_or-front (decimal (number_of error)) (codes " " ++ name_of error) some in
    omega (arith, at, front, high)

done_is_named : (number : ℕ) (request : Request) → first_of (done_text number request) ≡ 101 → ⊥
done_is_named n Begin first = omega arith
done_is_named n request first = omega arith

flags_are_named : (request : Request) (flag : Bool) → first_of (flag_text request flag) ≡ 101 → ⊥
flags_are_named (Commit number) true first = omega arith
flags_are_named (Commit number) false first = omega arith
flags_are_named request true first = omega arith
flags_are_named request false first = omega arith

pairs_are_named : (number : ℕ) (request : Request) (pairs : Vec (List ℕ × List ℕ) Global) → first_of (reply_text number request (Pairs pairs)) ≡ 101 → ⊥
pairs_are_named n (Len id) pairs first = omega arith
pairs_are_named n request pairs first = omega arith

numbers_are_named : (request : Request) (count : ℕ) → first_of (number_text request count) ≡ 101 → ⊥
numbers_are_named (Keyspace name) count first = omega arith
numbers_are_named Gc count first = omega arith
numbers_are_named request count first = omega arith

-- no answer to a call is the one for bad lines
not_bad : (number : ℕ) (request : Request) (reply : Reply) → reply_text number request reply ≡ bad_line → ⊥
not_bad n request Done h = done_is_named n request (ap first_of h)
not_bad n request (Value None) h = let first = ap first_of h in omega arith
not_bad n request (Value (Some value)) h = let first = ap first_of h in omega arith
not_bad n request (Pairs pairs) h = pairs_are_named n request pairs (ap first_of h)
not_bad n request (Number count) h = numbers_are_named request count (ap first_of h)
not_bad n request (Names names) h = let first = ap first_of h in omega arith
not_bad n request (Flag flag) h = flags_are_named request flag (ap first_of h)
not_bad n request (Opened ticket) h = let first = ap first_of h in omega arith
not_bad n request (Began (Some job)) h = let first = ap first_of h in omega arith
not_bad n request (Began None) h = let first = ap first_of h in omega arith
not_bad n request (Ids ids) h = let first = ap first_of h in omega arith
not_bad n request (Refused error) h = refusal_is_named n request error h

ok_is_good : ok_line ≡ bad_line → ⊥
ok_is_good h = let first = ap first_of h in omega arith

-- a call is refused, or gives its reply
owed : (shape : CallShape) (reply : Reply) (old new : Held) → Owes old shape reply new → ((error : Error) × (reply ≡ Refused error)) ⊎ Gives old shape reply new
owed shape Done old new owes = inr owes.1
owed shape (Value found) old new owes = inr owes.1
owed shape (Pairs pairs) old new owes = inr owes.1
owed shape (Number count) old new owes = inr owes.1
owed shape (Names names) old new owes = inr owes.1
owed shape (Flag flag) old new owes = inr owes.1
owed shape (Opened ticket) old new owes = inr owes.1
owed shape (Began job) old new owes = inr owes.1
owed shape (Ids ids) old new owes = inr owes.1
owed shape (Refused error) old new owes = inl (error, refl)

-- what a read gives is an answer to its query
read_fits : (tables : List Reader) (view : View) (id : ℕ) (query : Query) (reply : Reply) (old : Held) → GivesRead tables old view id query reply → IsAnswerTo query reply
read_fits [] view id (queries.Get key) reply old gives = (_, gives)
read_fits [] view id (queries.Page range back max) reply old gives = (gives.0, gives.1)
read_fits (t ∷ tables) view id query reply old gives = gives

-- what a call of the core gives, behind others that got these replies
abbrev Given : List Reply → Reply → Held → Call → Held → Type 0
Given before reply old call new = Gives old (shape_of (resolved before call)) reply new

-- the query for all pairs
abbrev all : Query
all = queries.Page (Unbounded, Unbounded) false (2 ^ 64 - 1)

refusal_fits : (request : Request) (error : Error) → IsReplyTo request (Refused error)
refusal_fits request error = tt

-- a call of the core comes to itself, for which its reply is owed
owed_itself : (before : List Reply) (call : Call) (reply : Reply) (made : List Call) (told : List Reply) (old new : Held) → ComesTo before (tx.Core call) reply made told → OwesAll old made told new
    → (mid : Held) × Owes old (shape_of (resolved before call)) reply mid
owed_itself before call reply _ _ old new (Itself _ _) owes = (owes.0, owes.1)
owed_itself before call reply _ _ old new (Others _ _ fit _ _ each) owes = absurd fit

abbrev is_core : TxCall → Bool
is_core (tx.Core call) = true
is_core call = false

-- each other call has a reply of its kind
told_other : (before : List Reply) (call : TxCall) (reply : Reply) (made : List Call) (told : List Reply) → ComesTo before call reply made told → is_core call ≡ false → served.IsReplyToCall call reply
told_other before _ _ _ _ (Itself call reply) other = absurd (true≢false other)
told_other before _ _ _ _ (Others call reply fit made told each) other = fit

begin_told : (reply : Reply) → served.IsReplyToCall (tx.Begin Optimistic) reply → IsReplyTo Begin reply
begin_told Done fit = tt
begin_told (Refused error) fit = tt
begin_told reply fit = absurd fit

get_told : (name number id : ℕ) (key : List ℕ) (reply : Reply) → served.IsReplyToCall (tx.Within name (within.Get id key)) reply → IsReplyTo (TxGet number id key) reply
get_told name number id key (Value found) fit = tt
get_told name number id key (Refused error) fit = tt
get_told name number id key reply fit = absurd fit

insert_told : (name number id : ℕ) (key value : List ℕ) (op : Op) (reply : Reply) → served.IsReplyToCall (tx.Within name (within.Write id key op)) reply → IsReplyTo (TxInsert number id key value) reply
insert_told name number id key value op Done fit = tt
insert_told name number id key value op (Refused error) fit = tt
insert_told name number id key value op reply fit = absurd fit

commit_told : (name number : ℕ) (reply : Reply) → served.IsReplyToCall (tx.Commit Optimistic name) reply → IsReplyTo (Commit number) reply
commit_told name number (Flag committed) fit = tt
commit_told name number (Refused error) fit = tt
commit_told name number reply fit = absurd fit

some_is_not_none : {A : Type 0} {x : A} → Some x ≡ None → ⊥
some_is_not_none h = let bad : ⊥ = cc in bad

module _ (before : List Reply) (call : TxCall) (reply : Reply) (made : List Call) (told : List Reply) (old new : Held) (comes : ComesTo before call reply made told) (owes : OwesAll old made told new) where
  -- a call of the core is refused, or gives what it is asked for
  by_core : (request : Request) (c : Call) → call ≡ tx.Core c → ((mid : Held) → Given before reply old c mid → IsReplyTo request reply) → IsReplyTo request reply
  by_core request c is gives =
      let one = owed_itself before c reply made told old new (subst (λ (t : TxCall). ComesTo before t reply made told) is comes) owes in
      elim (owed (shape_of (resolved before c)) reply old one.0 one.1) [
        | inl refused ↦ subst (IsReplyTo request) (sym refused.1) (refusal_fits request refused.0)
        | inr given ↦ gives one.0 given
      ]

  by_other : (c : TxCall) → call ≡ c → is_core c ≡ false → served.IsReplyToCall c reply
  by_other c is other = told_other before c reply made told (subst (λ (t : TxCall). ComesTo before t reply made told) is comes) other

  -- it is a reply to the request, where that makes one call
  fits : (request : Request) (place : ℕ → ℕ) → job_of request ≡ None → IsCallOf place request call → IsReplyTo request reply
  fits (Keyspace name) place one is = by_core (Keyspace name) _ is (λ mid given. subst (IsReplyTo (Keyspace name)) (sym given.1) tt)
  fits (Delete id) place one is = by_core (Delete id) _ is (λ mid given. subst (IsReplyTo (Delete id)) (sym given.0) tt)
  fits (Insert id key value) place one is = by_core (Insert id key value) _ is (λ mid given. subst (IsReplyTo (Insert id key value)) (sym given.0) tt)
  fits (Remove id key) place one is = by_core (Remove id key) _ is (λ mid given. subst (IsReplyTo (Remove id key)) (sym given.0) tt)
  fits (RemoveWeak id key) place one is = by_core (RemoveWeak id key) _ is (λ mid given. subst (IsReplyTo (RemoveWeak id key)) (sym given.0) tt)
  fits (Clear id) place one is = by_core (Clear id) _ is (λ mid given. subst (IsReplyTo (Clear id)) (sym given.0) tt)
  fits (Batch writes) place one is = by_core (Batch writes) _ is.is (λ mid given. subst (IsReplyTo (Batch writes)) (sym given.0) tt)
  fits (Get id key) place one is =
      by_core (Get id key) _ is (λ mid given. subst (IsReplyTo (Get id key)) (sym (read_fits (tables_of old id) Present id (queries.Get key) reply old given.0).1) tt)
  fits (Len id) place one is = by_core (Len id) _ is (λ mid given. subst (IsReplyTo (Len id)) (sym (read_fits (tables_of old id) Present id all reply old given.0).1) tt)
  fits (Scan id) place one is = by_core (Scan id) _ is (λ mid given. subst (IsReplyTo (Scan id)) (sym (read_fits (tables_of old id) Present id all reply old given.0).1) tt)
  fits Snapshot place one is = by_core Snapshot _ is (λ mid given. subst (IsReplyTo Snapshot) (sym given.0.0) tt)
  fits (GetAt number id key) place one is =
      by_core (GetAt number id key) _ is
      (λ mid given. subst (IsReplyTo (GetAt number id key)) (sym (read_fits (tables_of old id) (view_at before (At (named (place number)))) id (queries.Get key) reply old given.0).1) tt)
  fits (CloseSnapshot number) place one is = by_core (CloseSnapshot number) _ is (λ mid given. subst (IsReplyTo (CloseSnapshot number)) (sym given.0.0) tt)
  fits Begin place one is = begin_told reply (by_other _ is refl)
  fits (TxGet number id key) place one is = get_told (place number) number id key reply (by_other _ is refl)
  fits (TxInsert number id key value) place one is = insert_told (place number) number id key value (Put value) reply (by_other _ is refl)
  fits (Commit number) place one is = commit_told (place number) number reply (by_other _ is refl)
  fits Gc place one is = by_core Gc _ is (λ mid given. subst (IsReplyTo Gc) (sym given.0.0) tt)
  fits (Rotate id) place one is = by_core (Rotate id) _ is (λ mid given. subst (IsReplyTo (Rotate id)) (sym given.0) tt)
  fits (Flush id) place one is = absurd (some_is_not_none one)
  fits (Merge id) place one is = absurd (some_is_not_none one)
  fits Persist place one is = by_core Persist _ is (λ mid given. subst (IsReplyTo Persist) (sym given.0) tt)

-- ---- the calls of a job

-- what a reply to one of a line's calls may be: it says nothing, or is one to the line's request
abbrev Fits : Request → Reply → Type 0
Fits request reply = (is_idle reply ≡ true) ⊎ IsReplyTo request reply

refused_fits : (request : Request) (error : Error) (reply : Reply) → reply ≡ Refused error → Fits request reply
refused_fits request error reply is = inr (subst (IsReplyTo request) (sym is) (refusal_fits request error))

begun_fits : (request : Request) (reply : Reply) (job : Option JobId) → reply ≡ Began job → Fits request reply
begun_fits request reply job is = inl (ap is_idle is)

flush_gives : (id : ℕ) (out lives : Bool) (job : JobId) (reply : Reply) (old new : Held) → OwesFinish out lives old job reply new → IsReplyTo (Flush id) reply
flush_gives id true true job reply old new gives = subst (IsReplyTo (Flush id)) (sym gives.0) tt
flush_gives id true false job reply old new gives = subst (IsReplyTo (Flush id)) (sym gives.0) tt
flush_gives id false lives job reply old new gives = subst (IsReplyTo (Flush id)) (sym gives.0) tt

-- a finish of a flush
flush_fits : (id : ℕ) (job : JobId) (reply : Reply) (old new : Held) → Owes old (OfFlushFinish job) reply new → Fits (Flush id) reply
flush_fits id job reply old new owes =
    elim (owed (OfFlushFinish job) reply old new owes) [
      | inl refused ↦ refused_fits (Flush id) refused.0 reply refused.1
      | inr gives ↦ inr (flush_gives id _ _ job reply old new gives)
    ]

begin_gives : (id : ℕ) (begins : Bool) (reply : Reply) (old new : Held) → OwesBegin begins old id reply new → Fits (Flush id) reply
begin_gives id true reply old new gives = begun_fits (Flush id) reply _ gives.0
begin_gives id false reply old new gives = begun_fits (Flush id) reply _ gives.0

-- its beginning
begin_fits : (id : ℕ) (reply : Reply) (old new : Held) → Owes old (OfFlushBegin id) reply new → Fits (Flush id) reply
begin_fits id reply old new owes =
    elim (owed (OfFlushBegin id) reply old new owes) [
      | inl refused ↦ refused_fits (Flush id) refused.0 reply refused.1
      | inr gives ↦ begin_gives id _ reply old new gives
    ]

merge_gives : (id : ℕ) (out lives : Bool) (job : JobId) (reply : Reply) (old new : Held) → OwesMerge out lives old job reply new → IsReplyTo (Merge id) reply
merge_gives id true true job reply old new gives = subst (IsReplyTo (Merge id)) (sym gives.0) tt
merge_gives id true false job reply old new gives = subst (IsReplyTo (Merge id)) (sym gives.0) tt
merge_gives id false lives job reply old new gives = subst (IsReplyTo (Merge id)) (sym gives.0) tt

-- a finish of a merge
merge_fits : (id : ℕ) (job : JobId) (reply : Reply) (old new : Held) → Owes old (OfMergeFinish job) reply new → Fits (Merge id) reply
merge_fits id job reply old new owes =
    elim (owed (OfMergeFinish job) reply old new owes) [
      | inl refused ↦ refused_fits (Merge id) refused.0 reply refused.1
      | inr gives ↦ inr (merge_gives id _ _ job reply old new gives)
    ]

major_gives : (id : ℕ) (begins : Bool) (reply : Reply) (old new : Held) → OwesMergeBegin begins old id reply new → Fits (Merge id) reply
major_gives id true reply old new gives = begun_fits (Merge id) reply _ gives.0
major_gives id false reply old new gives = begun_fits (Merge id) reply _ gives.0

-- its beginning
major_fits : (id : ℕ) (reply : Reply) (old new : Held) → Owes old (OfMergeBegin Major id) reply new → Fits (Merge id) reply
major_fits id reply old new owes =
    elim (owed (OfMergeBegin Major id) reply old new owes) [
      | inl refused ↦ refused_fits (Merge id) refused.0 reply refused.1
      | inr gives ↦ major_gives id _ reply old new gives
    ]

-- a call that a job's line makes
abbrev IsOfJob : Request → TxCall → Type 0
IsOfJob (Flush id) call = (call ≡ tx.Core (FlushBegin id)) ⊎ ((place : ℕ) × (call ≡ tx.Core (FlushFinish (begun_at place))))
IsOfJob (Merge id) call = (call ≡ tx.Core (MajorBegin id)) ⊎ ((place : ℕ) × (call ≡ tx.Core (MergeFinish (begun_at place))))
IsOfJob request call = ⊥

abbrev AreOfJob : Request → List TxCall → Type 0
AreOfJob request [] = Unit {0}
AreOfJob request (call ∷ calls) = IsOfJob request call × AreOfJob request calls

AreOfJob-append : (request : Request) (a b : List TxCall) → AreOfJob request a → AreOfJob request b → AreOfJob request (a ++ b)
AreOfJob-append request [] b h g = g
AreOfJob-append request (call ∷ a) b h g = (h.0, AreOfJob-append request a b h.1 g)

-- what earlier lines left of it
flushes_left : (id : ℕ) (list : List (Job × ℕ)) → AreOfJob (Flush id) (left_of (jobs.Flush id) list)
flushes_left id [] = tt
flushes_left id (job ∷ others) = either (is_same (jobs.Flush id) job.0) (flushes_left id others)
  where
    either : (same : Bool) → AreOfJob (Flush id) (left_of (jobs.Flush id) others) → AreOfJob (Flush id) (if same then finish_of (jobs.Flush id) job.1 ∷ left_of (jobs.Flush id) others else left_of (jobs.Flush id) others)
    either true h = (inr (job.1, refl), h)
    either false h = h

merges_left : (id : ℕ) (list : List (Job × ℕ)) → AreOfJob (Merge id) (left_of (jobs.Merge id) list)
merges_left id [] = tt
merges_left id (job ∷ others) = either (is_same (jobs.Merge id) job.0) (merges_left id others)
  where
    either : (same : Bool) → AreOfJob (Merge id) (left_of (jobs.Merge id) others) → AreOfJob (Merge id) (if same then finish_of (jobs.Merge id) job.1 ∷ left_of (jobs.Merge id) others else left_of (jobs.Merge id) others)
    either true h = (inr (job.1, refl), h)
    either false h = h

-- each of these replies fits
abbrev AllFit : Request → List Reply → Type 0
AllFit request [] = Unit {0}
AllFit request (reply ∷ replies) = Fits request reply × AllFit request replies

-- and so does the last that says something
last_fits : (request : Request) (before : Reply) (replies : List Reply) → IsReplyTo request before → AllFit request replies → IsReplyTo request (last_said before replies)
last_fits request before [] fit each = fit
last_fits request before (reply ∷ replies) fit each = last_fits request (if is_idle reply then before else reply) replies (said (is_idle reply) refl) each.1
  where
    said : (idle : Bool) → is_idle reply ≡ idle → IsReplyTo request (if idle then before else reply)
    said true is = fit
    said false is =
        elim each.0 [
          | inl idle ↦ absurd (true≢false (sym idle ∙ is))
          | inr fits ↦ fits
        ]

-- no other request is told of a job that began
none_began : (request : Request) (job : Option JobId) → IsReplyTo request (Began job) → ⊥
none_began (Flush id) job fit = fit
none_began request job fit = fit

-- the one reply to a request
one_fits : (request : Request) (reply : Reply) → IsReplyTo request reply → IsReplyTo request (reply_to (reply ∷ []))
one_fits request (Flag true) fit = fit
one_fits request (Flag false) fit = fit
one_fits request (Began job) fit = absurd (none_began request job fit)
one_fits request reply fit = fit

-- ---- the calls of a list

-- a call of a list comes to as many calls of the core as replies
as_many : (before : List Reply) (call : TxCall) (reply : Reply) (made : List Call) (told : List Reply) → ComesTo before call reply made told → length made ≡ length told
as_many before _ _ _ _ (Itself call reply) = refl
as_many before _ _ _ _ (Others call reply fit made told each) = each

-- what is owed for two parts is owed for each
owes_split : (made later : List Call) (told heard : List Reply) (old new : Held) → length made ≡ length told → OwesAll old (made ++ later) (told ++ heard) new → (mid : Held) × OwesAll old made told mid × OwesAll mid later heard new
owes_split [] later [] heard old new same owes = (old, refl, owes)
owes_split [] later (reply ∷ told) heard old new same owes = absurd (omega (arith, same))
owes_split (call ∷ made) later [] heard old new same owes = absurd (omega (arith, same))
owes_split (call ∷ made) later (reply ∷ told) heard old new same owes =
    let behind = owes_split made later told heard owes.0 new (omega (arith, same)) owes.2 in (behind.0, (owes.0, owes.1, behind.1), behind.2)

-- The first of the calls, and those behind it.
record Next (before : List Reply) (call : TxCall) (reply : Reply) (calls : List TxCall) (replies : List Reply) (old new : Held) : Type 0 where
  made : List Call
  told : List Reply
  mid : Held
  comes : ComesTo before call reply made told
  owes : OwesAll old made told mid
  later : List Call
  heard : List Reply
  others_come : AllCome (before ++ reply ∷ []) calls replies later heard
  others : OwesAll mid later heard new

next : (before : List Reply) (call : TxCall) (reply : Reply) (calls : List TxCall) (replies : List Reply) (made : List Call) (told : List Reply) (old new : Held) → AllCome before (call ∷ calls) (reply ∷ replies) made told → OwesAll old made told new
    → Next before call reply calls replies old new
next before call reply calls replies _ _ old new (OneComes _ _ _ made told _ _ later heard first rest) owes =
    let parts = owes_split made later told heard old new (as_many before call reply made told first) owes in
    record {
      made = made;
      told = told;
      mid = parts.0;
      comes = first;
      owes = parts.1;
      later = later;
      heard = heard;
      others_come = rest;
      others = parts.2;
    }

-- each call has a reply
none_left : (before : List Reply) (call : TxCall) (calls : List TxCall) (made : List Call) (told : List Reply) → AllCome before (call ∷ calls) [] made told → ⊥
none_left before call calls made told h = elim h [ ]

-- These calls are made behind others, and what is left of the replies is owed to them.
record Later (later : List TxCall) (replies : List Reply) (new : Held) : Type 0 where
  mid : Held
  before : List Reply
  made : List Call
  heard : List Reply
  comes : AllCome before later replies made heard
  owes : OwesAll mid made heard new

-- a call of a job gets a reply that fits
job_fits : (request : Request) (before : List Reply) (call : TxCall) (reply : Reply) (made : List Call) (told : List Reply) (old new : Held) → IsOfJob request call → ComesTo before call reply made told → OwesAll old made told new → Fits request reply
job_fits (Flush id) before call reply made told old new is comes owes =
    elim is [
      | inl begins ↦
          let one = owed_itself before (FlushBegin id) reply made told old new (subst (λ (c : TxCall). ComesTo before c reply made told) begins comes) owes in
          begin_fits id reply old one.0 one.1
      | inr ends ↦
          let one = owed_itself before (FlushFinish (begun_at ends.0)) reply made told old new (subst (λ (c : TxCall). ComesTo before c reply made told) ends.1 comes) owes in
          flush_fits id _ reply old one.0 one.1
    ]
job_fits (Merge id) before call reply made told old new is comes owes =
    elim is [
      | inl begins ↦
          let one = owed_itself before (MajorBegin id) reply made told old new (subst (λ (c : TxCall). ComesTo before c reply made told) begins comes) owes in
          major_fits id reply old one.0 one.1
      | inr ends ↦
          let one = owed_itself before (MergeFinish (begun_at ends.0)) reply made told old new (subst (λ (c : TxCall). ComesTo before c reply made told) ends.1 comes) owes in
          merge_fits id _ reply old one.0 one.1
    ]
job_fits request before call reply made told old new is comes owes = absurd is

-- and so do all of them
jobs_fit : (request : Request) (mine later : List TxCall) (before replies : List Reply) (made : List Call) (told : List Reply) (old new : Held) → AreOfJob request mine → AllCome before (mine ++ later) replies made told → OwesAll old made told new
    → AllFit request (take (length mine) replies) × Later later (drop (length mine) replies) new
jobs_fit request [] later before replies made told old new are come owes = (tt, record { mid = old; before = before; made = made; heard = told; comes = come; owes = owes })
jobs_fit request (call ∷ mine) later before [] made told old new are come owes = absurd (none_left before call (mine ++ later) made told come)
jobs_fit request (call ∷ mine) later before (reply ∷ replies) made told old new are come owes =
    let first = next before call reply (mine ++ later) replies made told old new come owes in
    let others = jobs_fit request mine later (before ++ reply ∷ []) replies first.later first.heard first.mid new are.1 first.others_come first.others in
    ((job_fits request before call reply first.made first.told old first.mid are.0 first.comes first.owes, others.0), others.1)

-- A request was replied to by its calls, and these are the calls behind them: what is left of the replies is owed to those.
record IsRepliedBy (request : Request) (mine later : List TxCall) (replies : List Reply) (new : Held) : Type 0 where
  fit : IsReplyTo request (reply_to (take (length mine) replies))
  rest : Later later (drop (length mine) replies) new

by_job : (request : Request) (mine later : List TxCall) (before replies : List Reply) (made : List Call) (told : List Reply) (old new : Held) → IsReplyTo request (Flag false) → AreOfJob request mine
    → AllCome before (mine ++ later) replies made told → OwesAll old made told new → IsRepliedBy request mine later replies new
by_job request mine later before replies made told old new none are come owes =
    let each = jobs_fit request mine later before replies made told old new are come owes in
    record { fit = last_fits request (Flag false) (take (length mine) replies) none each.0; rest = each.1 }

by_one : (request : Request) (place : ℕ → ℕ) (call : TxCall) (later : List TxCall) (before replies : List Reply) (made : List Call) (told : List Reply) (old new : Held) → job_of request ≡ None → IsCallOf place request call
    → AllCome before (call ∷ later) replies made told → OwesAll old made told new → IsRepliedBy request (call ∷ []) later replies new
by_one request place call later before [] made told old new one is come owes = absurd (none_left before call later made told come)
by_one request place call later before (reply ∷ replies) made told old new one is come owes =
    let first = next before call reply later replies made told old new come owes in
    record {
      fit = one_fits request reply (fits before call reply first.made first.told old first.mid first.comes first.owes request place one is);
      rest = record { mid = first.mid; before = before ++ reply ∷ []; made = first.later; heard = first.heard; comes = first.others_come; owes = first.others };
    }

-- the calls of a request, whose own call is this one
by_calls : (request : Request) (place : ℕ → ℕ) (out : List (Job × ℕ)) (count : ℕ) (call : TxCall) (later : List TxCall) (before replies : List Reply) (made : List Call) (told : List Reply) (old new : Held) → IsCallOf place request call
    → AllCome before (calls_with out count (job_of request) call ++ later) replies made told → OwesAll old made told new → IsRepliedBy request (calls_with out count (job_of request) call) later replies new
by_calls (Flush id) place out count call later before replies made told old new is come owes =
    by_job (Flush id) _ later before replies made told old new tt (AreOfJob-append (Flush id) _ _ (flushes_left id out) (inl is, (inr (count + length (left_of (jobs.Flush id) out), refl), tt))) come owes
by_calls (Merge id) place out count call later before replies made told old new is come owes =
    by_job (Merge id) _ later before replies made told old new tt (AreOfJob-append (Merge id) _ _ (merges_left id out) (inl is, (inr (count + length (left_of (jobs.Merge id) out), refl), tt))) come owes
by_calls request place out count call later before replies made told old new is come owes = by_one request place call later before replies made told old new refl is come owes

replied : (request : Request) (place : ℕ → ℕ) (out : List (Job × ℕ)) (count : ℕ) (call : TxCall) (mine later : List TxCall) (before replies : List Reply) (made : List Call) (told : List Reply) (old new : Held) → IsCallOf place request call
    → mine ≡ calls_with out count (job_of request) call → AllCome before (mine ++ later) replies made told → OwesAll old made told new → IsRepliedBy request mine later replies new
replied request place out count call mine later before replies made told old new is same come owes =
    subst (λ (m : List TxCall). IsRepliedBy request m later replies new) (sym same)
    (by_calls request place out count call later before replies made told old new is (subst (λ (m : List TxCall). AllCome before (m ++ later) replies made told) same come) owes)

abbrev IsCall : Option Command → Type 0
IsCall found = is_stop found ≡ false

-- the calls of a run
front_answers : (lines : List (Option Command)) (so_far : SoFar) (first earlier : ℕ) (before : List Reply) (calls : List (List TxCall)) (replies : List Reply) (made : List Call) (told : List Reply) (old new : Held) → All IsCall lines
    → AreCallsBehind first so_far (requests_of lines) calls → AllCome before (all_calls calls) replies made told → OwesAll old made told new → AllZip IsAnswer lines (answers_to earlier lines (counts_of calls) replies)
front_answers [] so_far first earlier before calls replies made told old new alone are come owes = tt
front_answers (None ∷ rest) so_far first earlier before calls replies made told old new alone are come owes =
    (record { said = refl; bad = λ h. refl }, front_answers rest so_far first earlier before calls replies made told old new (All-tail IsCall None rest alone) are come owes)
front_answers (Some (Crash keep) ∷ rest) so_far first earlier before calls replies made told old new alone are come owes = absurd (true≢false (All-head IsCall (Some (Crash keep)) rest alone))
front_answers (Some (CrashWild fills) ∷ rest) so_far first earlier before calls replies made told old new alone are come owes = absurd (true≢false (All-head IsCall (Some (CrashWild fills)) rest alone))
front_answers (Some Reopen ∷ rest) so_far first earlier before calls replies made told old new alone are come owes = absurd (true≢false (All-head IsCall (Some Reopen) rest alone))
front_answers (Some (Ask request) ∷ rest) so_far first earlier before [] replies made told old new alone are come owes = absurd are
front_answers (Some (Ask request) ∷ rest) so_far first earlier before (mine ∷ calls) replies made told old new alone are come owes =
    let makes = are.0 in
    let r = replied request (place_in so_far.numbered first) so_far.begun so_far.count makes.0 mine (all_calls calls) before replies made told old new makes.1 makes.2 come owes in
    let reply = reply_to (take (length mine) replies) in (
      record { said = record { number = earlier + 1; reply = reply; fits = r.fit; is = refl }; bad = λ h. absurd (not_bad (earlier + 1) request reply h) },
      front_answers rest (behind so_far request mine) first (asked_with earlier request) r.rest.before calls (drop (length mine) replies) r.rest.made r.rest.heard r.rest.mid new (All-tail IsCall (Some (Ask request)) rest alone) are.1 r.rest.comes
          r.rest.owes,
    )

AllZip-append : (a b : List (Option Command)) (x y : List (List ℕ)) → AllZip IsAnswer a x → AllZip IsAnswer b y → AllZip IsAnswer (a ++ b) (x ++ y)
AllZip-append [] b [] y h g = g
AllZip-append [] b (p ∷ x) y h g = absurd h
AllZip-append (c ∷ a) b [] y h g = absurd h
AllZip-append (c ∷ a) b (p ∷ x) y h g = (h.0, AllZip-append a b x y h.1 g)

-- a crash or a reopening is answered by ok, which is no bad line
ok_answer : (mode : RecoveryMode) (honest : Bool) (stop : Option Command) (old new : Held) → Restarts mode honest stop old new → IsAnswer stop ok_line
ok_answer mode honest (Some (Crash keep)) old new h = record { said = refl; bad = λ e. absurd (ok_is_good e) }
ok_answer mode honest (Some (CrashWild fills)) old new h = record { said = refl; bad = λ e. absurd (ok_is_good e) }
ok_answer mode honest (Some Reopen) old new h = record { said = refl; bad = λ e. absurd (ok_is_good e) }
ok_answer mode honest (Some (Ask request)) old new h = absurd h
ok_answer mode honest None old new h = absurd h

-- the commands that a session has gone through have an answer each
pub answered : (mode : RecoveryMode) (honest : Bool) (commands rest : List (Option Command)) (ran : Bool) (core : Held) (kept : Kept) (printed : List (List ℕ)) → Session mode honest commands ran core kept printed rest
    → (front : List (Option Command)) × (commands ≡ front ++ rest) × AllZip IsAnswer front printed
answered mode honest commands _ _ _ _ _ (begun core h) = ([], refl, tt)
answered mode honest commands _ _ _ _ _ (run old new before after printed lines rest made replies s alone stop are runs) =
    let so_far = answered mode honest commands (lines ++ rest) false old before printed s in
    let earlier = numbers_before commands (lines ++ rest) in
    let here = front_answers lines none_so_far earlier earlier [] made replies runs.made runs.told old new alone are runs.comes runs.owes in
    (so_far.0 ++ lines, so_far.1 ∙ sym (append_assoc so_far.0 lines rest), AllZip-append so_far.0 lines printed (answers_to earlier lines (counts_of made) replies) so_far.2 here)
answered mode honest commands _ _ _ _ _ (restarted old new before printed stop rest s r) =
    let so_far = answered mode honest commands (stop ∷ rest) true old before printed s in
    (so_far.0 ++ stop ∷ [], so_far.1 ∙ sym (append_assoc so_far.0 (stop ∷ []) rest), AllZip-append so_far.0 (stop ∷ []) printed (ok_line ∷ []) so_far.2 (ok_answer mode honest stop old new r, tt))

pub all_answered : (mode : RecoveryMode) (honest : Bool) (commands : List (Option Command)) (ran : Bool) (core : Held) (kept : Kept) (printed : List (List ℕ)) → Session mode honest commands ran core kept printed [] → AllZip IsAnswer commands printed
all_answered mode honest commands ran core kept printed s =
    let h = answered mode honest commands [] ran core kept printed s in
    let same : commands ≡ h.0 = h.1 ∙ append-nil h.0 in
    rw same h.2
