-- What a caller sees of a call.
use Rattle.std.proofs.Common.{◌≡◌, inl, inr, ◌∙◌, sym, ap, subst, refl, ℕ, [], ◌∷◌, List, Bool, true, false, not, cond, eqb, arith, IsTrue}
use Rattle.std.specs.Prelude.{IfErr, IfOk, OnOk, Option, Result, Ok, Err, Some, None, unwrap_or}
use Rattle.std.specs.Option.{option_eq}
use Rattle.std.specs.Result.{result_err}
use Rattle.std.proofs.lemmas.Bool.{eqb-true}
use Rattle.std.specs.FinMap.{get, get-insert, insert}
use Rattle.std.specs.Cmp.{nat_cmp_total}
use Rattle.std.specs.Ordering.{eq_by_cmp, nat_cmp}
use Rattle.std.proofs.lemmas.Bool.Decides.{nat_tests}
use Rattle.fjall_base.specs.Pairs.{Bytes, lookup}
use Rattle.fjall_base.specs.Store.{Create, Options, Store, fold, map_at}
use Rattle.fjall_base.specs.declared.error.Error.{Error}
use Rattle.fjall_base.specs.declared.error.Error.TheVariants.{SnapshotClosed}
use Rattle.fjall_journal.specs.Ops.{BatchItem}
use Rattle.fjall_tx.specs.Owns.{items_of, own_written}
use Rattle.fjall_tx.specs.declared.outcome.CommitOutcome.{CommitOutcome}
use Rattle.fjall_tx.specs.declared.outcome.CommitOutcome.TheVariants as outcomes
use Rattle.fjall_history.specs.declared.reply.Reply.{Reply}
use Rattle.fjall_history.specs.declared.reply.Reply.TheVariants.{Refused}
use Rattle.fjall_history.specs.declared.reply.Reply.TheVariants as replies
use Rattle.fjall_history.specs.declared.ticket.Ticket.{Ticket}
use Rattle.fjall_history.specs.declared.ticket.View.TheVariants.{At, Present}
use Rattle.fjall_history.specs.Histories.{History, commands_of, commits, grown, latest, number, plain, view}
use Rattle.fjall_history.specs.Queries.{Get}
use Rattle.fjall_machine.specs.Machine.{CreatesOrFinds, State, instant_of, present}
use Rattle.fjall_machine.specs.Shapes.{AsKeyspace, ByMode, OfCreation, OfRead, OfTickets, Open, of_write}
use Rattle.fjall_machine.proofs.Viewing.{latest_grown}
use Rattle.fjall_shared.specs.Holding.{Held}
use Rattle.fjall_shared.specs.CoreStanding.{Owes, StandsFor, number_reply, reply_of, ticket_reply, value_reply}
use Rattle.fjall_shared.specs.Standing.{CommitStep, IsCommitted, IsGone, IsIdle, IsMet, IsRefused, CoreState, history_of}
use Rattle.fjall_shared.specs.Transactions.{MeetsSome, Tx}
use Rattle.fjall_shared.specs.Takings.{Lists, Never, taking}
use Rattle.fjall_shared.specs.Locked.{IsTied, Locked, list_of}
use Rattle.fjall_shared.specs.Does.{ClosesNone, ClosesOne, ClosesTickets, Does, DoesCommit, entry_of}
use Rattle.fjall_shared.specs.Within.{ReadsOnce, seen_in}
use Rattle.fjall_shared.proofs.Committing.{committed_history, idle_history, refused_history}
use Rattle.fjall_shared.proofs.Viewing.{got_at}
use Rattle.fjall_seen.specs.Told.{CommitTold, EndsWithWrite, HasName, IsChangeCause, IsReadCause}
use Rattle.fjall_seen.proofs.Causes.{change_cause, read_cause}

-- the store after a history, as it is told
pub same_latest : (t : CoreState) (list : History) → commands_of t.accepted ≡ commands_of t.state.history.accepted → history_of t ≡ list → latest t.state.history ≡ latest list
same_latest t list same is = ap (λ l. fold t.state.history.opened l) (sym same) ∙ ap latest is

-- a state that the engine stands for has the store of the list
pub tied_present : (l : Locked) (t : CoreState) → IsTied l t → present t.state ≡ latest (list_of l)
tied_present l t tied = same_latest t (list_of l) tied.stands.same tied.is

-- ---- writes

-- one that was accepted is the last command
pub wrote : (item : BatchItem) (r : Result Unit Error) (g h : History) → Lists (taking (of_write item)) (reply_of r) g h → OnOk r (EndsWithWrite h item)
wrote item (Ok done) g h is = record { front = g; is = is }
wrote item (Err error) g h is = tt

-- one that was refused left the list as it was, which has the cause
pub write_cause : (honest : Bool) (old new : Locked) (item : BatchItem) (r : Result Unit Error) → IsTrue honest → Does honest old (of_write item) (reply_of r) new
    → IfErr r (IsChangeCause (latest (list_of new)) (item ∷ []))
write_cause honest old new item (Ok done) is does = tt
write_cause honest old new item (Err error) is does =
    let (t, tied) = does.makes.was.ties is in
    let (u, on, step, led) = does.makes.steps is t tied in
    let same : present t.state ≡ latest (list_of new) = tied_present old t tied ∙ ap latest (sym does.makes.list) in
    subst (λ (s : Store). IsChangeCause s (item ∷ []) error) same (change_cause t.state u.state (item ∷ []) (AsKeyspace item.0) error step)

-- ---- snapshots

-- a ticket of an opening
abbrev ticket_of : Reply → ℕ
ticket_of (replies.Opened t) = t.instant
ticket_of other = 0

-- it reads at the next number
opened_at : (old new : Held) (r : Result Ticket Error) (n : ℕ) → old.memory.next ≡ n → Owes old (OfTickets Open) (ticket_reply r) new → IfOk r (λ ticket. ticket.instant ≡ n)
opened_at old new (Ok ticket) n is owes = ap ticket_of owes.1.0.0 ∙ is
opened_at old new (Err error) n is owes = tt

pub opened_list : (honest : Bool) (old new : Locked) (r : Result Ticket Error) → Does honest old (OfTickets Open) (ticket_reply r) new → IfOk r (λ ticket. ticket.instant ≡ number (list_of new))
opened_list honest old new (Ok ticket) does = opened_at old.core new.core (Ok ticket) (number (list_of new)) (does.makes.was.next ∙ ap number (sym does.makes.list)) does.makes.owes
opened_list honest old new (Err error) does = tt

-- ---- reads

abbrev found_in : Reply → Option Bytes
found_in (replies.Value found) = found
found_in other = None

pub read_now : (honest : Bool) (old new : Locked) (id : ℕ) (key : Bytes) (r : Result (Option Bytes) Error) → IsTrue honest → Does honest old (OfRead Present id (Get key)) (value_reply r) new
    → IfOk r (λ v. v ≡ lookup (map_at (latest (list_of new)).maps id) key)
read_now honest old new id key (Ok v) is does =
    let (t, tied) = does.makes.was.ties is in
    let (u, on, step, led) = does.makes.steps is t tied in
    ap found_in step.1.0 ∙ ap (λ (s : Store). lookup (map_at s.maps id) key) (tied_present old t tied ∙ ap latest (sym does.makes.list))
read_now honest old new id key (Err error) is does = tt

pub get_cause : (honest : Bool) (old new : Locked) (id : ℕ) (key : Bytes) (r : Result (Option Bytes) Error) → IsTrue honest → Does honest old (OfRead Present id (Get key)) (value_reply r) new
    → IfErr r (IsReadCause (latest (list_of new)) id)
get_cause honest old new id key (Ok v) is does = tt
get_cause honest old new id key (Err error) is does =
    let (t, tied) = does.makes.was.ties is in
    let (u, on, step, led) = does.makes.steps is t tied in
    subst (λ (s : Store). IsReadCause s id error) (tied_present old t tied ∙ ap latest (sym does.makes.list)) (read_cause t.state u.state id (Get key) error step)

-- ---- keyspaces

abbrev number_in : Reply → ℕ
number_in (replies.Number n) = n
number_in other = 0

-- a key is itself
same_key : (k : ℕ) → eq_by_cmp nat_cmp k k ≡ true
same_key k = grind (arith, nat_tests)

-- a keyspace that was created has its name
created_named : (s : Store) (name : Bytes) → get (insert s.names s.next name) s.next ≡ Some name
created_named s name = get-insert nat_cmp_total s.names s.next name s.next ∙ ap (λ b. cond b (Some name) (get s.names s.next)) (same_key s.next)

after_create : (g h : History) (name : Bytes) (options : Options) → h ≡ grown g (plain (Create name options)) → get (latest h).names (latest g).next ≡ Some name
after_create g h name options is =
    ap (λ (k : History). get (latest k).names (latest g).next) is ∙ ap (λ (k : Store). get k.names (latest g).next) (latest_grown g (plain (Create name options))) ∙ created_named (latest g) name

-- one that is found or made has the name under the id that is told
found_or_created : (s t : State) (name : Bytes) (options : List Bytes) (id : ℕ) → CreatesOrFinds s name options id t → get (present t).names id ≡ Some name
found_or_created s t name options id (inl (there, at, same)) = ap (λ (k : State). get (present k).names id) same ∙ at
found_or_created s t name options id (inr (none, is, made)) = ap (get (present t).names) is ∙ after_create s.history t.history name _ (ap (λ (k : State). k.history) made)

pub named_now : (honest : Bool) (old new : Locked) (name : Bytes) (options : List Bytes) (r : Result ℕ Error) → IsTrue honest → Does honest old (OfCreation name options) (number_reply r) new
    → IfOk r (HasName (latest (list_of new)) name)
named_now honest old new name options (Ok n) is does =
    let (t, tied) = does.makes.was.ties is in
    let (u, on, step, led) = does.makes.steps is t tied in
    let (id, told, made) = step.1 in
    let there : get (present u.state).names id ≡ Some name = found_or_created t.state u.state name options id made in
    ap (λ (s : Store). get s.names n) (sym (tied_present new u on)) ∙ ap (get (present u.state).names) (ap number_in told) ∙ there
named_now honest old new name options (Err error) is does = tt

-- ---- reads at an instant

-- a call that takes no number leaves the list
never_lists : (reply : Reply) (g h : History) → Lists Never reply g h → h ≡ g
never_lists (Refused error) g h same = same
never_lists reply g h same = same

-- the instant of an open ticket is the one that it says
opened_instant : (l : Locked) (ticket : Ticket) → get l.core.memory.tickets.instants ticket.id ≡ Some ticket.instant → instant_of l.core.memory.tickets ticket.id ≡ ticket.instant
opened_instant l ticket at = ap (λ (o : Option ℕ). unwrap_or o 0) at

-- what was tested to be this number is it, and so is what was tested not to be another
pub same_option : (o : Option ℕ) (n : ℕ) → option_eq eqb o (Some n) ≡ true → o ≡ Some n
same_option None n is = let bad : ⊥ = cc in absurd bad
same_option (Some m) n is = ap Some (eqb-true m n is)

pub not_other : (o : Option ℕ) (n : ℕ) (b : Bool) → option_eq eqb o (Some n) ≡ b → not b ≡ false → o ≡ Some n
not_other o n true is same = same_option o n is
not_other o n false is same = let bad : ⊥ = cc in absurd bad

-- the engine holds a ticket as open whose own instant it told
pub held_open : (old engine : Held) (r : Option ℕ) (asked ticket : Ticket) → engine ≡ old → asked ≡ ticket → r ≡ Some asked.instant → r ≡ get engine.memory.tickets.instants asked.id
    → get old.memory.tickets.instants ticket.id ≡ Some ticket.instant
held_open old engine r asked ticket same is own held =
    let there : get old.memory.tickets.instants asked.id ≡ Some asked.instant = sym (held ∙ ap (λ (h : Held). get h.memory.tickets.instants asked.id) same) ∙ own in
    subst (λ (t : Ticket). get old.memory.tickets.instants t.id ≡ Some t.instant) is there

-- the view of an open ticket shows the list up to its instant
pub read_then : (honest : Bool) (old new : Locked) (ticket : Ticket) (id : ℕ) (key : Bytes) (r : Result (Option Bytes) Error) → IsTrue honest
    → get old.core.memory.tickets.instants ticket.id ≡ Some ticket.instant → Does honest old (OfRead (At ticket) id (Get key)) (value_reply r) new
    → IfOk r (λ v. v ≡ lookup (map_at (view (list_of new) ticket.instant).maps id) key)
read_then honest old new ticket id key (Ok found) is at does =
    got_at honest old new ticket id key found is does
    ∙ ap (λ (n : ℕ). lookup (map_at (view (list_of old) n).maps id) key) (opened_instant old ticket at)
    ∙ ap (λ (g : History). lookup (map_at (view g ticket.instant).maps id) key) (sym does.makes.list)
read_then honest old new ticket id key (Err error) is at does = tt

-- and so within a transaction, with its own writes applied
pub within_then : (honest : Bool) (old new : Locked) (tx : Tx) (id : ℕ) (key : Bytes) (r : Result (Option Bytes) Error)
    → get old.core.memory.tickets.instants tx.ticket.id ≡ Some tx.ticket.instant → ReadsOnce honest old (OfRead (At tx.ticket) id (Get key)) (result_err r) new
    → IfOk r (λ v. v ≡ lookup (seen_in old tx id) key) → IfOk r (λ v. v ≡ lookup (map_at (own_written (view (list_of new) tx.ticket.instant).maps tx.own) id) key)
within_then honest old new tx id key (Ok found) at reads is =
    is
    ∙ ap (λ (n : ℕ). lookup (map_at (own_written (view (list_of old) n).maps tx.own) id) key) (opened_instant old tx.ticket at)
    ∙ ap (λ (g : History). lookup (map_at (own_written (view g tx.ticket.instant).maps tx.own) id) key) (sym (never_lists reads.reply (list_of old) (list_of new) reads.does.makes.list))
within_then honest old new tx id key (Err error) at reads is = tt

-- ---- what is collected

-- tickets that are closed take no number, and leave the seat at its word
collected_list : (honest : Bool) (old new : Locked) → ClosesTickets honest old new → list_of new ≡ list_of old
collected_list honest old new ClosesNone = refl
collected_list honest old new (ClosesOne mid k before id reply closes) = never_lists reply (list_of mid) (list_of new) closes.makes.list ∙ collected_list honest old mid before

collected_table : (honest : Bool) (old new : Locked) → ClosesTickets honest old new → new.seat.table ≡ old.seat.table
collected_table honest old new ClosesNone = refl
collected_table honest old new (ClosesOne mid k before id reply closes) = closes.table ∙ collected_table honest old mid before

pub collected_seat : (honest : Bool) (old new : Locked) → ClosesTickets honest old new → new.seat ≡ old.seat
collected_seat honest old new closes = λ i. record { table = collected_table honest old new closes i; list = collected_list honest old new closes i }

-- ---- commits

meets_in : (instant : ℕ) (tx : Tx) (g h : History) → g ≡ h → MeetsSome instant tx.marks (commits g) → MeetsSome instant tx.marks (commits h)
meets_in instant tx g h same = subst (λ (k : History). MeetsSome instant tx.marks (commits k)) same

module _ (old new : Locked) (tx : Tx) (outcome : CommitOutcome Error) (t u : CoreState) (before : IsTied old t) (after : IsTied new u)
    (at : get t.state.tickets.instants tx.ticket.id ≡ Some tx.ticket.instant) where
  abbrev Tells : CommitOutcome Error → Type 0
  Tells o = CommitTold tx o (list_of new)

  told_so : (one : CommitOutcome Error) → outcome ≡ one → Tells one → Tells outcome
  told_so one told is = subst Tells (sym told) is

  -- it began at the ticket's instant
  began : (instant : ℕ) → get t.state.tickets.instants tx.ticket.id ≡ Some instant → instant ≡ tx.ticket.instant
  began instant opened = let same : Some instant ≡ Some tx.ticket.instant = sym opened ∙ at in cc

  pub told_commit : CommitStep t tx outcome u → CommitTold tx outcome (list_of new)
  told_commit (IsGone none told same) = told_so (outcomes.Aborted SnapshotClosed) told (inl refl)
  told_commit (IsIdle instant opened none told closes same) = told_so outcomes.Ok told (inl none)
  told_commit (IsMet instant opened some meets told closes same) =
      let stays = sym (idle_history t u tx.ticket.id closes same) ∙ after.is in
      told_so outcomes.Conflicted told (some, subst (λ n. MeetsSome n tx.marks (commits (list_of new))) (began instant opened) (meets_in instant tx (history_of t) (list_of new) stays meets))
  told_commit (IsRefused instant opened some apart error told mid refused closes same) =
      let stays = sym (refused_history t u mid tx error refused closes same) ∙ after.is in
      let apart_now : MeetsSome tx.ticket.instant tx.marks (commits (list_of new)) → ⊥ = λ met. apart (meets_in instant tx (list_of new) (history_of t) (sym stays) (subst (λ n. MeetsSome n tx.marks (commits (list_of new))) (sym (began instant opened)) met)) in
      let same_store : present t.state ≡ latest (list_of new) = tied_present old t before ∙ ap latest (sym before.is ∙ stays) in
      told_so (outcomes.Aborted error) told
      (inr (some, apart_now, subst (λ (s : Store). IsChangeCause s (items_of tx.own) error) same_store (change_cause t.state mid (items_of tx.own) (ByMode tx.mode) error refused)))
  told_commit (IsCommitted instant opened some apart told mid made closes grew) =
      let more = sym after.is ∙ committed_history t u mid tx (entry_of tx instant) made closes grew in
      told_so outcomes.Ok told
      (inr (
        history_of t,
        more ∙ ap (λ n. grown (history_of t) (entry_of tx n)) (began instant opened),
        λ met. apart (subst (λ n. MeetsSome n tx.marks (commits (history_of t))) (sym (began instant opened)) met),
      ))

-- and so does each state that the engine stands for
pub stood_open : (old engine : Held) (r : Option ℕ) (asked ticket : Ticket) → engine ≡ old → asked ≡ ticket → r ≡ Some asked.instant
    → ((s : State) → StandsFor engine s → r ≡ get s.tickets.instants asked.id) → (s : State) → StandsFor old s → get s.tickets.instants ticket.id ≡ Some ticket.instant
stood_open old engine r asked ticket same is own held s stands =
    let there : get s.tickets.instants asked.id ≡ Some asked.instant = sym (held s (subst (λ (h : Held). StandsFor h s) (sym same) stands)) ∙ own in
    subst (λ (t : Ticket). get s.tickets.instants t.id ≡ Some t.instant) is there

pub commit_seen : (honest : Bool) (old new : Locked) (tx : Tx) (outcome : CommitOutcome Error) → IsTrue honest
    → ((s : State) → StandsFor old.core s → get s.tickets.instants tx.ticket.id ≡ Some tx.ticket.instant) → DoesCommit honest old tx outcome new → CommitTold tx outcome (list_of new)
commit_seen honest old new tx outcome is at does =
    let (t, tied) = does.was.ties is in
    let (u, on, step, led) = does.steps is t tied in
    told_commit old new tx outcome t u tied on (at t.state tied.stands.machine) step
