-- What a commit makes of a state.
use Rattle.std.proofs.Common.{◌≡◌, ◌≤◌, ◌<◌, inl, inr, ℕ, List, [], ◌∷◌, ◌++◌, All, OnErr, OnOk, Option, None, Some, Result, Ok, Err, map, length, drop, refl, sym, ap, subst, ◌∙◌, arith}
use Rattle.std.specs.FinMap.{empty, get}
use Rattle.std.proofs.Math.Seq.{drop-append_seam, drop-length}
use Rattle.std.proofs.lemmas.List.{append-nil}
use Rattle.std.proofs.lemmas.List.Elements.{All-weaker}
use Rattle.fjall_base.specs.Store.{Command}
use Rattle.fjall_base.specs.declared.error.Error.{Error}
use Rattle.fjall_base.specs.declared.error.Error.TheVariants.{Io, NumbersUsedUp, OutOfMemory, Poisoned, Storage, TooManyItems, ValueTooLong}
use Rattle.fjall_journal.specs.Changes.{Change, Items}
use Rattle.fjall_journal.specs.Ops.{BatchItem, write_of}
use Rattle.fjall_tx.specs.Marks.{Marks}
use Rattle.fjall_tx.specs.declared.oracle.Committed.{Committed}
use Rattle.fjall_tx.specs.declared.outcome.CommitOutcome.{CommitOutcome}
use Rattle.fjall_tx.specs.declared.outcome.CommitOutcome.TheVariants as outcomes
use Rattle.fjall_tx.specs.Oracles.{Conflicts, commit_of, pruned, with_commit}
use Rattle.fjall_tx.proofs.Commits.{pruned_twice, with_last_commit}
use Rattle.fjall_tx.specs.Owns.{items_of}
use Rattle.fjall_history.specs.declared.reply.Reply.{Reply}
use Rattle.fjall_history.specs.declared.reply.Reply.TheVariants.{Done, Refused}
use Rattle.fjall_history.specs.Histories.{Accepted, Commit, History, commands_of, commits, grown, number, plain}
use Rattle.fjall_history.specs.Tickets.{IsDueOrMemory, Tickets}
use Rattle.fjall_history.proofs.Moving.{never_lower, sound_move}
use Rattle.fjall_history.proofs.Views.{commands_append}
use Rattle.fjall_history.specs.Checked.{IsChecked, MayCommit}
use Rattle.fjall_history.proofs.Growing.{checked_commit, still_pruned}
use Rattle.fjall_machine.specs.Shapes.{ByMode, CallShape, Close, OfChange, OfTickets, Persistence}
use Rattle.fjall_machine.specs.Machine.{MayFail, Refuses, State, StepOf, accepted, due, times}
use Rattle.fjall_machine.proofs.Moving.{shape_moves}
use Rattle.fjall_engine.proofs.OwedSteps.{owes_step}
use Rattle.fjall_engine.proofs.ServedCalls.{RunsOut, either_owes, either_serves}
use Rattle.fjall_engine.specs.Holding.{Held}
use Rattle.fjall_engine.specs.Standing.{LeadsOn, Owes, ReadsOn, RestsOnTables, Serves, StandsFor, held_due}
use Rattle.fjall_core.specs.Commits.{Comes, Commits, Ends, Fails, Gone, Idle, Lets, Meets, change_of}
use Rattle.fjall_core.specs.Standing.{CommitGoesOn, CommitStep, IsCommitted, IsGone, IsIdle, IsMet, IsRefused, StandFor, CoreState, accepted_of, gone_on, history_of}
use Rattle.fjall_core.specs.Transactions.{Kept, MeetsSome, Tx, committed, marks_of_items}
use Rattle.fjall_core.proofs.Items.{items_within, same_reads, some_items}
use Rattle.fjall_core.proofs.Leading.{IsBoth, IsClosing, IsStill, Through, leads_through}
use Rattle.fjall_core.proofs.Standing.{exact, kept_of_core, same_number, shape_stands, upto_within}

-- ---- what steps make of the history

-- a call that accepts nothing leaves what is told
same_told : (t : CoreState) (s : State) → s.history ≡ t.state.history → gone_on t s ≡ record { state = s; accepted = t.accepted }
same_told t s e =
    let none : drop (length t.state.history.accepted) s.history.accepted ≡ [] = ap (λ (h : History). drop (length t.state.history.accepted) h.accepted) e ∙ drop-length t.state.history.accepted in
    let first : gone_on t s ≡ record { state = s; accepted = t.accepted ++ [] } = ap (λ (l : List Accepted). record { state = s; accepted = t.accepted ++ map plain (commands_of l) }) none in
    first ∙ ap (λ (l : List Accepted). record { state = s; accepted = l }) (append-nil t.accepted)

-- one that accepts a command adds it
grown_told : (t : CoreState) (s : State) (command : Command) → s.history ≡ grown t.state.history (plain command) → gone_on t s ≡ record { state = s; accepted = t.accepted ++ plain command ∷ [] }
grown_told t s command e =
    let more : drop (length t.state.history.accepted) s.history.accepted ≡ plain command ∷ [] =
    ap (λ (h : History). drop (length t.state.history.accepted) h.accepted) e ∙ drop-append_seam t.state.history.accepted (plain command ∷ []) in
    ap (λ (l : List Accepted). record { state = s; accepted = t.accepted ++ map plain (commands_of l) }) more

failed_history : (s t : State) (change : Change) (how : Persistence) (error : Error) → MayFail (OfChange change how) error s t → t.history ≡ s.history
failed_history s t change how (Io kind) (inl (changes, fault)) = ap (λ (k : State). k.history) fault.is
failed_history s t change how (Io kind) (inr (inl (reads, same))) = ap (λ (k : State). k.history) same
failed_history s t change how (Io kind) (inr (inr fails)) = absurd fails
failed_history s t change how OutOfMemory (takes, same) = ap (λ (k : State). k.history) same
failed_history s t change how (Storage told) (is, damaged, same) = ap (λ (k : State). k.history) same
failed_history s t change how ValueTooLong (long, same) = ap (λ (k : State). k.history) same
failed_history s t change how Poisoned (late, same) = ap (λ (k : State). k.history) same
failed_history s t change how NumbersUsedUp (used_up, same) = ap (λ (k : State). k.history) same
failed_history s t change how TooManyItems (none_left, same) = ap (λ (k : State). k.history) same
failed_history s t change how error none = absurd none

-- a change that is refused accepts nothing
refused_history : (s t : State) (change : Change) (how : Persistence) (error : Error) (first : Option Error) → Refuses first (OfChange change how) error s t → t.history ≡ s.history
refused_history s t change how error (Some f) (is, same) = ap (λ (k : State). k.history) same
refused_history s t change how error None fails = failed_history s t change how error fails

-- a change of some items takes memory, and may run out of it
takes_memory : (core : Held) (items : List BatchItem) (how : Persistence) → (items ≡ [] → ⊥) → RunsOut core (OfChange (Items items) how)
takes_memory core [] how some = absurd (some refl)
takes_memory core (item ∷ items) how some = tt

-- one that is made accepts its command
made_history : (s t : State) (items : List BatchItem) (how : Persistence) → (items ≡ [] → ⊥) → t ≡ accepted s (Items items) how → t.history ≡ grown s.history (plain (write_of items))
made_history s t [] how some is = absurd (some refl)
made_history s t (item ∷ items) how some is = ap (λ (k : State). k.history) is

-- ---- a transaction that commits

-- up to which commits were forgotten is not above the next number
upto_number : (core : Held) (kept : Kept) (t : CoreState) (stands : StandFor core kept t) → stands.upto ≤ number (history_of t)
upto_number core kept t stands =
    subst (λ n. stands.upto ≤ n) (sym (same_number core kept t stands))
    (upto_within stands.upto core.memory.tickets.watermark core.memory.next (subst (λ (k : Tickets). stands.upto ≤ k.watermark) stands.machine.remembered.tickets stands.passed) stands.machine.remembered.lawful.spared)

marked_stands : (core new : Held) (kept : Kept) (t : CoreState) (s : State) (id instant : ℕ) (marks : Marks) (items : List BatchItem) (how : Persistence) → StandFor core kept t
    → get t.state.tickets.instants id ≡ Some instant → (Conflicts instant marks.reads (commits (history_of t)) → ⊥) → s.history ≡ grown t.state.history (plain (write_of items))
    → StepOf t.state (OfChange (Items items) how) Done s → StandsFor new s
    → StandFor new (record kept { commits = committed core.memory.next (Some marks) items kept.commits }) (record { state = s; accepted = t.accepted ++ accepted_of instant (Some marks) items ∷ [] })
marked_stands core new kept t s id instant marks items how stands there apart e step is =
    let one = accepted_of instant (Some marks) items in
    let c : Commit = record { instant = instant; marks = marks_of_items marks items } in
    let moves = shape_moves t.state s (OfChange (Items items) how) Done step in
    let told : record s.history { accepted = t.accepted ++ one ∷ [] } ≡ grown (history_of t) one = ap (λ (h : History). record h { accepted = t.accepted ++ one ∷ [] }) e in
    let next = same_number core kept t stands in
    let number_is : number (history_of t) ≡ number t.state.history = next ∙ sym stands.machine.remembered.number in
    let within = stands.sound id instant there in
    let may : MayCommit (history_of t) (write_of items) c = record {
      since = within.1;
      until = subst (λ n. instant ≤ n) (sym number_is) within.2;
      within = items_within items marks;
      apart = λ met. apart (subst (λ r. Conflicts instant r (commits (history_of t))) (same_reads items marks) met);
    } in
    let below : All (λ (d : Committed). d.number ≤ number (history_of t)) kept.commits =
    All-weaker (λ (d : Committed). d.number < core.memory.next) (λ (d : Committed). d.number ≤ number (history_of t)) (λ d lt. subst (λ n. d.number ≤ n) (sym next) (omega (arith, lt))) kept.commits (kept_of_core core kept t stands) in
    record {
      machine = is;
      same = commands_append t.accepted (one ∷ []) ∙ ap (λ l. l ++ write_of items ∷ []) stands.same ∙ sym (commands_append t.state.history.accepted (plain (write_of items) ∷ [])) ∙ sym (ap (λ (h : History). commands_of h.accepted) e);
      sound = sound_move (times t.state) (times s) stands.sound moves;
      checked = subst IsChecked (sym told) (checked_commit (history_of t) (write_of items) c stands.checked may);
      upto = stands.upto;
      passed = let before = stands.passed in let later = never_lower (times t.state) (times s) moves in omega (arith, before, later);
      keeps =
          ap (λ n. kept.commits ++ commit_of n (marks_of_items marks items).writes ∷ []) (sym next)
          ∙ sym (with_last_commit kept.commits (commit_of (number (history_of t)) (marks_of_items marks items).writes) below)
          ∙ ap (λ l. with_commit l (commit_of (number (history_of t)) (marks_of_items marks items).writes)) stands.keeps
          ∙ still_pruned (history_of t) (write_of items) c stands.upto (upto_number core kept t stands)
          ∙ ap (λ h. pruned (commits h) stands.upto) (sym told);
    }

-- the single writer's commits as any command
single_stands : (core new : Held) (kept : Kept) (t : CoreState) (s : State) (items : List BatchItem) (how : Persistence) → StandFor core kept t
    → s.history ≡ grown t.state.history (plain (write_of items)) → StepOf t.state (OfChange (Items items) how) Done s → StandsFor new s
    → StandFor new kept (record { state = s; accepted = t.accepted ++ plain (write_of items) ∷ [] })
single_stands core new kept t s items how stands e step is =
    subst (λ u. StandFor new kept u) (grown_told t s (write_of items) e) (shape_stands core new kept t s (OfChange (Items items) how) Done stands step is)

committed_stands : (core new : Held) (kept : Kept) (t : CoreState) (s : State) (id instant : ℕ) (marks : Option Marks) (items : List BatchItem) (how : Persistence) → StandFor core kept t
    → get t.state.tickets.instants id ≡ Some instant → (MeetsSome instant marks (commits (history_of t)) → ⊥) → s.history ≡ grown t.state.history (plain (write_of items))
    → StepOf t.state (OfChange (Items items) how) Done s → StandsFor new s
    → StandFor new (record kept { commits = committed core.memory.next marks items kept.commits }) (record { state = s; accepted = t.accepted ++ accepted_of instant marks items ∷ [] })
committed_stands core new kept t s id instant None items how stands there apart e step is = single_stands core new kept t s items how stands e step is
committed_stands core new kept t s id instant (Some marks) items how stands there apart e step is = marked_stands core new kept t s id instant marks items how stands there apart e step is

-- one that is refused leaves what is told
refused_stands : (core new : Held) (kept : Kept) (t : CoreState) (s : State) (change : Change) (how : Persistence) (error : Error) → StandFor core kept t
    → StepOf t.state (OfChange change how) (Refused error) s → StandsFor new s → StandFor new kept (record { state = s; accepted = t.accepted })
refused_stands core new kept t s change how error stands step is =
    subst (λ u. StandFor new kept u) (same_told t s (refused_history t.state s change how error (due t.state (OfChange change how)) step))
    (shape_stands core new kept t s (OfChange change how) (Refused error) stands step is)

-- ---- its ticket is closed

closed_stands : (core new : Held) (kept : Kept) (t : CoreState) (s : State) (id : ℕ) → StandFor core kept t → StepOf t.state (OfTickets (Close id)) Done s → StandsFor new s
    → StandFor new kept (record { state = s; accepted = t.accepted })
closed_stands core new kept t s id stands step is =
    subst (λ u. StandFor new kept u) (same_told t s (ap (λ (k : State). k.history) step.1.1)) (shape_stands core new kept t s (OfTickets (Close id)) Done stands step is)

pub pruned_stands : (core : Held) (kept : Kept) (t : CoreState) → StandFor core kept t → StandFor core (record kept { commits = pruned kept.commits core.memory.tickets.watermark }) t
pruned_stands core kept t stands =
    let same = stands.machine.remembered.tickets in
    let le : stands.upto ≤ core.memory.tickets.watermark = subst (λ (k : Tickets). stands.upto ≤ k.watermark) same stands.passed in
    record {
      machine = stands.machine;
      same = stands.same;
      sound = stands.sound;
      checked = stands.checked;
      upto = core.memory.tickets.watermark;
      passed = subst (λ (k : Tickets). k.watermark ≤ t.state.tickets.watermark) same (omega arith);
      keeps = ap (λ l. pruned l core.memory.tickets.watermark) stands.keeps ∙ pruned_twice (commits (history_of t)) stands.upto core.memory.tickets.watermark le;
    }

-- ---- conflicts

-- a conflict with those that are kept is one with all
met_all : (core : Held) (kept : Kept) (t : CoreState) (stands : StandFor core kept t) (id instant : ℕ) (marks : Option Marks) → get t.state.tickets.instants id ≡ Some instant
    → MeetsSome instant marks kept.commits → MeetsSome instant marks (commits (history_of t))
met_all core kept t stands id instant None there met = absurd met
met_all core kept t stands id instant (Some marks) there met = (exact core kept t stands id instant there marks.reads).0 met

met_kept : (core : Held) (kept : Kept) (t : CoreState) (stands : StandFor core kept t) (id instant : ℕ) (marks : Option Marks) → get t.state.tickets.instants id ≡ Some instant
    → MeetsSome instant marks (commits (history_of t)) → MeetsSome instant marks kept.commits
met_kept core kept t stands id instant None there met = absurd met
met_kept core kept t stands id instant (Some marks) there met = (exact core kept t stands id instant there marks.reads).1 met

-- ---- all together

-- what a call leaves of what is kept, once the ticket of a transaction was to be closed
pub closed_kept : (core : Held) (old new : Kept) (t : CoreState) (result : Result Unit Error) → OnOk result (new ≡ record old { commits = pruned old.commits core.memory.tickets.watermark }) → OnErr result (new ≡ old)
    → StandFor core old t → StandFor core new t
closed_kept core old new t (Ok u) is none stands = subst (λ (k : Kept). StandFor core k t) (sym is) (pruned_stands core old t stands)
closed_kept core old new t (Err error) none is stands = subst (λ (k : Kept). StandFor core k t) (sym is) stands

-- What the core does of a call makes it a step from each state that it stood for, of which more may be known, as of the step.
abbrev Goes : (Held → CallShape → Reply → Held → Type 0) → (Held → State → Type 0) → (Held → State → CallShape → Reply → Held → State → Type 0) → Type 0
Goes Does At More = (core new : Held) (shape : CallShape) (reply : Reply) → (RestsOnTables core shape reply → ⊥) → Does core shape reply new → (s : State) → StandsFor core s → At core s
    → (t : State) × StandsFor new t × At new t × StepOf s shape reply t × More core s shape reply new t

-- a refusal that the core wasn't asked for is one that it would have answered so
abbrev MayRefuse : (Held → CallShape → Reply → Held → Type 0) → Type 0
MayRefuse Does = (core : Held) (shape : CallShape) (error : Error) → RunsOut core shape → IsDueOrMemory (held_due core shape) error → Does core shape (Refused error) core

module _ (Does : Held → CallShape → Reply → Held → Type 0) (At : Held → State → Type 0) (More : Held → State → CallShape → Reply → Held → State → Type 0) (goes : Goes Does At More) (may : MayRefuse Does) where
  -- what a commit comes to, behind which its ticket is closed
  abbrev Ended : (core left : Held) (new : Kept) (t : CoreState) (tx : Tx) (outcome : CommitOutcome Error) → Type 0
  Ended core left new t tx outcome = (after : CoreState) × StandFor left new after × At left after.state × CommitStep t tx outcome after × Through Does More core t.state tx outcome left after.state

  -- what the core does as the ticket is closed
  finished : (core left : Held) (kept : Kept) (t : CoreState) (id : ℕ) → StandFor core kept t → At core t.state → Does core (OfTickets (Close id)) Done left
      → (s : State) × StandFor left (record kept { commits = pruned kept.commits left.memory.tickets.watermark }) (record { state = s; accepted = t.accepted }) × At left s × StepOf t.state (OfTickets (Close id)) Done s
      × More core t.state (OfTickets (Close id)) Done left s
  finished core left kept t id stands at closes =
      let (s, is, on, step, more) = goes core left (OfTickets (Close id)) Done (λ rests. rests) closes t.state stands.machine at in
      let stay : StandFor left kept (record { state = s; accepted = t.accepted }) = closed_stands core left kept t s id stands step is in
      (s, pruned_stands left kept (record { state = s; accepted = t.accepted }) stay, on, step, more)

  -- one that is refused, by the core or before it was asked
  refused_ended : (core mid left : Held) (kept : Kept) (t : CoreState) (tx : Tx) (outcome : CommitOutcome Error) (instant : ℕ) (error : Error) → StandFor core kept t → At core t.state
      → get t.state.tickets.instants tx.ticket.id ≡ Some instant → (tx.own ≡ empty → ⊥) → (MeetsSome instant tx.marks (commits (history_of t)) → ⊥) → outcome ≡ outcomes.Aborted error
      → Does core (change_of tx) (Refused error) mid → Does mid (OfTickets (Close tx.ticket.id)) Done left
      → Ended core left (record kept { commits = pruned kept.commits left.memory.tickets.watermark }) t tx outcome
  refused_ended core mid left kept t tx outcome instant error stands at there some free told refused closes =
      let (m, is, amid, step, more) = goes core mid (change_of tx) (Refused error) (λ rests. rests) refused t.state stands.machine at in
      let here : StandFor mid kept (record { state = m; accepted = t.accepted }) = refused_stands core mid kept t m (Items (items_of tx.own)) (ByMode tx.mode) error stands step is in
      let (s, stay, on, close, then) = finished mid left kept (record { state = m; accepted = t.accepted }) tx.ticket.id here amid closes in (
        record { state = s; accepted = t.accepted },
        stay,
        on,
        IsRefused instant there some free error told m step close refl,
        IsBoth mid m (Refused error) (inr (error, told, refl)) more closes then,
      )

  comes_stands : (core mid left : Held) (kept : Kept) (t : CoreState) (tx : Tx) (outcome : CommitOutcome Error) (instant : ℕ) (all : List Committed) → StandFor core kept t → At core t.state
      → get t.state.tickets.instants tx.ticket.id ≡ Some instant → Comes Does kept.commits core instant tx outcome all mid → Does mid (OfTickets (Close tx.ticket.id)) Done left
      → Ended core left (record kept { commits = pruned all left.memory.tickets.watermark }) t tx outcome
  comes_stands core mid left kept t tx outcome instant all stands at there (Idle none told same_commits same) closes =
      let closes_core = subst (λ m. Does m (OfTickets (Close tx.ticket.id)) Done left) same closes in
      let (s, stay, on, step, more) = finished core left kept t tx.ticket.id stands at closes_core in (
        record { state = s; accepted = t.accepted },
        subst (λ l. StandFor left (record kept { commits = pruned l left.memory.tickets.watermark }) (record { state = s; accepted = t.accepted })) (sym same_commits) stay,
        on,
        IsIdle instant there none told step refl,
        IsClosing (inl (none, told)) more,
      )
  comes_stands core mid left kept t tx outcome instant all stands at there (Meets some met told same_commits same) closes =
      let closes_core = subst (λ m. Does m (OfTickets (Close tx.ticket.id)) Done left) same closes in
      let (s, stay, on, step, more) = finished core left kept t tx.ticket.id stands at closes_core in (
        record { state = s; accepted = t.accepted },
        subst (λ l. StandFor left (record kept { commits = pruned l left.memory.tickets.watermark }) (record { state = s; accepted = t.accepted })) (sym same_commits) stay,
        on,
        IsMet instant there some (met_all core kept t stands tx.ticket.id instant tx.marks there met) told step refl,
        IsClosing (inr told) more,
      )
  comes_stands core mid left kept t tx outcome instant all stands at there (Fails some apart error told same_commits (inl refused)) closes =
      subst (λ l. Ended core left (record kept { commits = pruned l left.memory.tickets.watermark }) t tx outcome) (sym (same_commits (kept_of_core core kept t stands)))
      (refused_ended core mid left kept t tx outcome instant error stands at there some (λ met. apart (met_kept core kept t stands tx.ticket.id instant tx.marks there met)) told refused closes)
  comes_stands core mid left kept t tx outcome instant all stands at there (Fails some apart error told same_commits (inr (due, same))) closes =
      let refused = may core (change_of tx) error (takes_memory core (items_of tx.own) (ByMode tx.mode) (some_items tx.own some)) due in
      subst (λ l. Ended core left (record kept { commits = pruned l left.memory.tickets.watermark }) t tx outcome) (sym (same_commits (kept_of_core core kept t stands)))
      (refused_ended core core left kept t tx outcome instant error stands at there some (λ met. apart (met_kept core kept t stands tx.ticket.id instant tx.marks there met)) told refused
      (subst (λ m. Does m (OfTickets (Close tx.ticket.id)) Done left) same closes))
  comes_stands core mid left kept t tx outcome instant all stands at there (Commits some apart told grown_commits made) closes =
      let (m, is, amid, step, more) = goes core mid (change_of tx) Done (λ rests. rests) made t.state stands.machine at in
      let e = made_history t.state m (items_of tx.own) (ByMode tx.mode) (some_items tx.own some) step.1.1 in
      let free = λ (met : MeetsSome instant tx.marks (commits (history_of t))). apart (met_kept core kept t stands tx.ticket.id instant tx.marks there met) in
      let u : CoreState = record { state = m; accepted = t.accepted ++ accepted_of instant tx.marks (items_of tx.own) ∷ [] } in
      let here : StandFor mid (record kept { commits = committed core.memory.next tx.marks (items_of tx.own) kept.commits }) u =
      committed_stands core mid kept t m tx.ticket.id instant tx.marks (items_of tx.own) (ByMode tx.mode) stands there free e step is in
      let (s, stay, on, close, then) = finished mid left (record kept { commits = committed core.memory.next tx.marks (items_of tx.own) kept.commits }) u tx.ticket.id here amid closes in (
        record { state = s; accepted = u.accepted },
        subst (λ l. StandFor left (record kept { commits = pruned l left.memory.tickets.watermark }) (record { state = s; accepted = u.accepted })) (sym (grown_commits (kept_of_core core kept t stands))) stay,
        on,
        IsCommitted instant there some free told m step close refl,
        IsBoth mid m Done (inl (told, refl)) more closes then,
      )

  commit_ended : (core left : Held) (kept new : Kept) (t : CoreState) (tx : Tx) (outcome : CommitOutcome Error) → StandFor core kept t → At core t.state → Ends Does kept core tx outcome new left → Ended core left new t tx outcome
  commit_ended core left kept new t tx outcome stands at (Gone none told same_kept same) =
      let tickets = stands.machine.remembered.tickets in (
        t,
        subst (λ k. StandFor left k t) (sym same_kept) (subst (λ c. StandFor c kept t) (sym same) stands),
        subst (λ c. At c t.state) (sym same) at,
        IsGone (subst (λ (k : Tickets). get k.instants tx.ticket.id ≡ None) (sym tickets) none) told refl,
        IsStill none told same refl,
      )
  commit_ended core left kept new t tx outcome stands at (Lets instant opened all mid comes closes kept_is) =
      let tickets = stands.machine.remembered.tickets in
      let there : get t.state.tickets.instants tx.ticket.id ≡ Some instant = subst (λ (k : Tickets). get k.instants tx.ticket.id ≡ Some instant) (sym tickets) opened in
      subst (λ k. Ended core left k t tx outcome) (sym kept_is) (comes_stands core mid left kept t tx outcome instant all stands at there comes closes)

-- over a disk that returns what it holds
pub commit_goes_on : (core left : Held) (kept new : Kept) (t : CoreState) (tx : Tx) (outcome : CommitOutcome Error) → StandFor core kept t → ReadsOn core t.state → Ends Serves kept core tx outcome new left
    → CommitGoesOn core t tx outcome left new
commit_goes_on core left kept new t tx outcome stands reads ends =
    let (after, stay, on, step, through) =
    commit_ended Serves ReadsOn LeadsOn (λ old new shape reply bare serves. serves.goes_on) either_serves core left kept new t tx outcome stands reads ends in
    (after, stay, on, step, leads_through core left t.state after.state tx outcome stands.machine reads through)

-- over any disk
pub commit_stands : (core left : Held) (kept new : Kept) (t : CoreState) (tx : Tx) (outcome : CommitOutcome Error) → StandFor core kept t → Ends Owes kept core tx outcome new left
    → (after : CoreState) × StandFor left new after × CommitStep t tx outcome after
commit_stands core left kept new t tx outcome stands ends =
    let (after, stay, on, step, through) =
    commit_ended Owes (λ core s. Unit {0}) (λ core s shape reply left t. Unit {0})
    (λ old new shape reply bare owes s standing at. let (t, is, stepped) = owes_step old new shape reply s bare owes standing in (t, is, tt, stepped, tt))
    either_owes core left kept new t tx outcome stands tt ends in
    (after, stay, step)
