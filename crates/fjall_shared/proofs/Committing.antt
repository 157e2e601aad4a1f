-- A commit under the lock.
use Rattle.std.proofs.Common.{◌≡◌, ◌⊎◌, inl, inr, ℕ, ◌+◌, ◌==◌, Bool, true, false, MatchBool, List, [], ◌∷◌, ◌++◌, Err, Some, refl, sym, ◌∙◌, ap, subst, arith, IsTrue}
use Rattle.std.specs.Prelude.{All, map}
use Rattle.std.specs.FinMap.{empty, entries, get, len-empty, len-entries}
use Rattle.std.proofs.lemmas.Bool.Decides.{nat_tests}
use Rattle.std.proofs.lemmas.List.{nil_from_length}
use Rattle.fjall_base.specs.declared.error.Error.{Error}
use Rattle.fjall_base.specs.declared.error.Error.TheVariants.{SnapshotClosed}
use Rattle.fjall_tx.specs.declared.outcome.CommitOutcome.{CommitOutcome}
use Rattle.fjall_tx.specs.declared.outcome.CommitOutcome.TheVariants as outcomes
use Rattle.fjall_tx.specs.declared.oracle.Committed.{Committed}
use Rattle.fjall_tx.specs.Owns.{Own, item_of, items_of, key_order}
use Rattle.fjall_journal.specs.Changes.{Items}
use Rattle.fjall_journal.specs.Ops.{BatchItem}
use Rattle.fjall_journal.specs.declared.op.Op.{Op}
use Rattle.fjall_history.specs.declared.reply.Reply.TheVariants.{Done, Refused}
use Rattle.fjall_history.specs.Histories.{Accepted, History, grown, number}
use Rattle.fjall_machine.specs.Machine.{State, StepOf}
use Rattle.fjall_machine.specs.Shapes.{ByMode, Close, OfChange, OfTickets, Persistence}
use Rattle.fjall_machine.proofs.Viewing.{number_grown}
use Rattle.fjall_core.specs.Holding.{Held}
use Rattle.fjall_core.specs.CoreStanding.{Owes, ReadsOn, StandsFor}
use Rattle.fjall_core.specs.Commits.{AsksFor, Comes, Commits, Ends, Fails, Gone, Idle, Lets, Meets, change_of}
use Rattle.fjall_core.specs.Standing.{CommitGoesOn, CommitLeadsOn, CommitStep, IsCommitted, IsGone, IsIdle, IsMet, IsRefused, StandFor, CoreState, accepted_of, history_of}
use Rattle.fjall_core.specs.Transactions.{Kept, Tx}
use Rattle.fjall_core.proofs.Standing.{same_number}
use Rattle.fjall_history.specs.Seats.{Place}
use Rattle.fjall_shared.specs.Takings.{Adds, Always, Counts, Grows, May, Never, Taking, taking}
use Rattle.fjall_shared.specs.Locked.{IsSettled, IsTied, Locked, list_of}
use Rattle.fjall_shared.specs.Labels.{Label}
use Rattle.fjall_shared.specs.Does.{CommitLists, DoesCommit, entry_of}
use Rattle.fjall_shared.proofs.Numbers.{owed_next}
use Rattle.fjall_shared.proofs.Histories.{step_history}
use Rattle.fjall_shared.proofs.KnownJobs.{KnowsFlushOf, commit_merges, flushes_stay}
use Rattle.fjall_shared.proofs.Settled.{told_number_of}

-- ---- what a commit makes of the history, as it is told

-- a step keeps where the history begins
same_start : (takes : Taking) (g h : History) (x : List Accepted) → Adds takes g h → record h { accepted = x } ≡ record g { accepted = x }
same_start Never g h x is = ap (λ (k : History). record k { accepted = x }) is
same_start (Always c) g h x is = ap (λ (k : History). record k { accepted = x }) is
same_start (May c) g h x (inl is) = ap (λ (k : History). record k { accepted = x }) is
same_start (May c) g h x (inr is) = ap (λ (k : History). record k { accepted = x }) is

closed_history : (s t : State) (id : ℕ) → StepOf s (OfTickets (Close id)) Done t → t.history ≡ s.history
closed_history s t id step = step_history s t (OfTickets (Close id)) Done step

told_so : (t : CoreState) (s : State) (x : List Accepted) (old : CoreState) → t.state.history ≡ s.history → t.accepted ≡ x → s.history ≡ old.state.history → x ≡ old.accepted → history_of t ≡ history_of old
told_so t s x old a b c d = ap (λ (p : History × List Accepted). record p.0 { accepted = p.1 }) (λ i. ((a ∙ c) i, (b ∙ d) i))

-- it stays
abbrev pub Same : CoreState → CoreState → Type 0
Same old new = history_of new ≡ history_of old

pub idle_history : (old new : CoreState) (id : ℕ) → StepOf old.state (OfTickets (Close id)) Done new.state → new.accepted ≡ old.accepted → Same old new
idle_history old new id closes same = told_so new old.state old.accepted old (closed_history old.state new.state id closes) same refl refl

pub refused_history : (old new : CoreState) (mid : State) (tx : Tx) (error : Error) → StepOf old.state (change_of tx) (Refused error) mid → StepOf mid (OfTickets (Close tx.ticket.id)) Done new.state
    → new.accepted ≡ old.accepted → Same old new
refused_history old new mid tx error refused closes same =
    told_so new mid old.accepted old (closed_history mid new.state tx.ticket.id closes) same (step_history old.state mid (change_of tx) (Refused error) refused) refl

-- or the transaction is its last entry
pub committed_history : (old new : CoreState) (mid : State) (tx : Tx) (one : Accepted) → StepOf old.state (change_of tx) Done mid → StepOf mid (OfTickets (Close tx.ticket.id)) Done new.state
    → new.accepted ≡ old.accepted ++ one ∷ [] → history_of new ≡ grown (history_of old) one
committed_history old new mid tx one made closes grew =
    ap (λ (p : History × List Accepted). record p.0 { accepted = p.1 }) (λ i. (closed_history mid new.state tx.ticket.id closes i, grew i))
    ∙ same_start (taking (change_of tx)) old.state.history mid.history (old.accepted ++ one ∷ []) (step_history old.state mid (change_of tx) Done made)

pub commit_history : (old : CoreState) (tx : Tx) (outcome : CommitOutcome Error) (new : CoreState) → CommitStep old tx outcome new
    → Same old new
    ⊎ ((instant : ℕ) × (get old.state.tickets.instants tx.ticket.id ≡ Some instant) × (history_of new ≡ grown (history_of old) (accepted_of instant tx.marks (items_of tx.own))))
commit_history old tx outcome new (IsGone none told same) = inl (ap history_of same)
commit_history old tx outcome new (IsIdle instant opened none told closes same) = inl (idle_history old new tx.ticket.id closes same)
commit_history old tx outcome new (IsMet instant opened some meets told closes same) = inl (idle_history old new tx.ticket.id closes same)
commit_history old tx outcome new (IsRefused instant opened some apart error told mid refused closes same) = inl (refused_history old new mid tx error refused closes same)
commit_history old tx outcome new (IsCommitted instant opened some apart told mid made closes grew) =
    inr (instant, opened, committed_history old new mid tx (accepted_of instant tx.marks (items_of tx.own)) made closes grew)

-- ---- what it makes of the next number, whatever the disk is

-- none is taken, or one for the transaction's own writes
abbrev pub CommitCounts : List BatchItem → CommitOutcome Error → ℕ → ℕ → Type 0
CommitCounts [] outcomes.Ok n m = m ≡ n
CommitCounts (item ∷ items) outcomes.Ok n m = m ≡ n + 1
CommitCounts items other n m = m ≡ n

of_change : (items : List BatchItem) (how : Persistence) (n m : ℕ) → Counts (taking (OfChange (Items items) how)) n m → CommitCounts items outcomes.Ok n m
of_change [] how n m counts = counts
of_change (item ∷ items) how n m counts = counts

-- without own writes there are no items
no_items : (own : Own) → own ≡ empty → items_of own ≡ []
no_items own none = ap items_of none ∙ ap (map item_of) (nil_from_length (entries (empty {X = Op} {R = key_order})) (sym (len-entries (empty {X = Op} {R = key_order})) ∙ len-empty key_order Op))

of_nothing : (tx : Tx) (n m : ℕ) → tx.own ≡ empty → m ≡ n → CommitCounts (items_of tx.own) outcomes.Ok n m
of_nothing tx n m none same = subst (λ (items : List BatchItem). CommitCounts items outcomes.Ok n m) (sym (no_items tx.own none)) same

told_as : (items : List BatchItem) (one outcome : CommitOutcome Error) (n m : ℕ) → outcome ≡ one → CommitCounts items one n m → CommitCounts items outcome n m
told_as items one outcome n m told counts = subst (λ o. CommitCounts items o n m) (sym told) counts

next_same : (core left : Held) → left ≡ core → left.memory.next ≡ core.memory.next
next_same core left same = ap (λ (h : Held). h.memory.next) same

comes_next : (old : List Committed) (core : Held) (instant : ℕ) (tx : Tx) (outcome : CommitOutcome Error) (new : List Committed) (left : Held) → Comes Owes old core instant tx outcome new left
    → CommitCounts (items_of tx.own) outcome core.memory.next left.memory.next
comes_next old core instant tx outcome new left (Idle none told kept same) =
    told_as (items_of tx.own) outcomes.Ok outcome core.memory.next left.memory.next told (of_nothing tx core.memory.next left.memory.next none (next_same core left same))
comes_next old core instant tx outcome new left (Meets some meets told kept same) =
    told_as (items_of tx.own) outcomes.Conflicted outcome core.memory.next left.memory.next told (stays_out (items_of tx.own) (next_same core left same))
  where
    stays_out : (items : List BatchItem) → left.memory.next ≡ core.memory.next → CommitCounts items outcomes.Conflicted core.memory.next left.memory.next
    stays_out [] is = is
    stays_out (item ∷ items) is = is
comes_next old core instant tx outcome new left (Fails some apart error told kept refused) =
    told_as (items_of tx.own) (outcomes.Aborted error) outcome core.memory.next left.memory.next told (stays_out (items_of tx.own) (next refused))
  where
    stays_out : (items : List BatchItem) → left.memory.next ≡ core.memory.next → CommitCounts items (outcomes.Aborted error) core.memory.next left.memory.next
    stays_out [] is = is
    stays_out (item ∷ items) is = is

    next : AsksFor Owes core (change_of tx) (Err error) left → left.memory.next ≡ core.memory.next
    next (inl owes) = owed_next core left (change_of tx) (Refused error) owes
    next (inr (due, same)) = next_same core left same
comes_next old core instant tx outcome new left (Commits some apart told kept made) =
    told_as (items_of tx.own) outcomes.Ok outcome core.memory.next left.memory.next told
    (of_change (items_of tx.own) (ByMode tx.mode) core.memory.next left.memory.next (owed_next core left (change_of tx) Done made))

-- where its ticket isn't open
none_next : (items : List BatchItem) (error : Error) (outcome : CommitOutcome Error) (n m : ℕ) → outcome ≡ outcomes.Aborted error → m ≡ n → CommitCounts items outcome n m
none_next [] error outcome n m told same = told_as [] (outcomes.Aborted error) outcome n m told same
none_next (item ∷ items) error outcome n m told same = told_as (item ∷ items) (outcomes.Aborted error) outcome n m told same

pub ends_next : (old : Kept) (core : Held) (tx : Tx) (outcome : CommitOutcome Error) (new : Kept) (left : Held) → Ends Owes old core tx outcome new left
    → CommitCounts (items_of tx.own) outcome core.memory.next left.memory.next
ends_next old core tx outcome new left (Gone none told kept same) = none_next (items_of tx.own) SnapshotClosed outcome core.memory.next left.memory.next told (next_same core left same)
ends_next old core tx outcome new left (Lets instant opened commits mid comes closes kept) =
    subst (λ n. CommitCounts (items_of tx.own) outcome core.memory.next n) (sym (owed_next mid left (OfTickets (Close tx.ticket.id)) Done closes)) (comes_next old.commits core instant tx outcome commits mid comes)

pub same_or_next : (items : List BatchItem) (outcome : CommitOutcome Error) (n m : ℕ) → CommitCounts items outcome n m → (m ≡ n) ⊎ (m ≡ n + 1)
same_or_next [] outcomes.Ok n m same = inl same
same_or_next (item ∷ items) outcomes.Ok n m more = inr more
same_or_next [] outcomes.Conflicted n m same = inl same
same_or_next (item ∷ items) outcomes.Conflicted n m same = inl same
same_or_next [] (outcomes.Aborted error) n m same = inl same
same_or_next (item ∷ items) (outcomes.Aborted error) n m same = inl same

-- so the list is told
stays_told : (one : Accepted) (n m : ℕ) (g h : History) (b : Bool) → (n == m) ≡ b → m ≡ n → MatchBool b (h ≡ g) (h ≡ grown g one) → h ≡ g
stays_told one n m g h true is same told = told
stays_told one n m g h false is same told = absurd (grind (arith, nat_tests))

grows_told : (one : Accepted) (n m : ℕ) (g h : History) (b : Bool) → (n == m) ≡ b → m ≡ n + 1 → MatchBool b (h ≡ g) (h ≡ grown g one) → h ≡ grown g one
grows_told one n m g h true is more told = absurd (grind (arith, nat_tests))
grows_told one n m g h false is more told = told

commit_lists : (items : List BatchItem) (one : ℕ → Accepted) (instant : ℕ) (outcome : CommitOutcome Error) (n m : ℕ) (g h : History) → CommitCounts items outcome n m → Grows (one instant) n m g h
    → CommitLists items one outcome g h
commit_lists [] one instant outcomes.Ok n m g h same told = stays_told (one instant) n m g h (n == m) refl same told
commit_lists (item ∷ items) one instant outcomes.Ok n m g h more told = (instant, grows_told (one instant) n m g h (n == m) refl more told)
commit_lists [] one instant outcomes.Conflicted n m g h same told = stays_told (one instant) n m g h (n == m) refl same told
commit_lists (item ∷ items) one instant outcomes.Conflicted n m g h same told = stays_told (one instant) n m g h (n == m) refl same told
commit_lists [] one instant (outcomes.Aborted error) n m g h same told = stays_told (one instant) n m g h (n == m) refl same told
commit_lists (item ∷ items) one instant (outcomes.Aborted error) n m g h same told = stays_told (one instant) n m g h (n == m) refl same told

-- two lists of one number that may have grown by one command are one
grown_end : (one : Accepted) (n m : ℕ) (g h k : History) (b : Bool) → (n == m) ≡ b → number g ≡ n → number h ≡ m → (h ≡ g) ⊎ (h ≡ grown g one) → MatchBool b (k ≡ g) (k ≡ grown g one) → h ≡ k
grown_end one n m g h k true is at after (inl a) told = a ∙ sym told
grown_end one n m g h k false is at after (inr a) told = a ∙ sym told
grown_end one n m g h k true is at after (inr a) told = let same : n ≡ m = grind (arith, nat_tests) in absurd (omega (arith, same, at, after, ap number a, number_grown g one))
grown_end one n m g h k false is at after (inl a) told = let same : n ≡ m = omega (arith, at, after, ap number a) in absurd (grind (arith, nat_tests))

-- ---- the commit

-- what memory knows of flushes stays known
asked_flushes : (core left : Held) (tx : Tx) (error : Error) (jobs : List Label) → AsksFor Owes core (change_of tx) (Err error) left → All (KnowsFlushOf core) jobs → All (KnowsFlushOf left) jobs
asked_flushes core left tx error jobs (inl owes) known = flushes_stay core left (change_of tx) (Refused error) owes jobs known
asked_flushes core left tx error jobs (inr (due, same)) known = subst (λ (h : Held). All (KnowsFlushOf h) jobs) (sym same) known

comes_flushes : (old : List Committed) (core : Held) (instant : ℕ) (tx : Tx) (outcome : CommitOutcome Error) (new : List Committed) (left : Held) → Comes Owes old core instant tx outcome new left
    → (jobs : List Label) → All (KnowsFlushOf core) jobs → All (KnowsFlushOf left) jobs
comes_flushes old core instant tx outcome new left (Idle none told kept same) jobs known = subst (λ (h : Held). All (KnowsFlushOf h) jobs) (sym same) known
comes_flushes old core instant tx outcome new left (Meets some meets told kept same) jobs known = subst (λ (h : Held). All (KnowsFlushOf h) jobs) (sym same) known
comes_flushes old core instant tx outcome new left (Fails some apart error told kept refused) jobs known = asked_flushes core left tx error jobs refused known
comes_flushes old core instant tx outcome new left (Commits some apart told kept made) jobs known = flushes_stay core left (change_of tx) Done made jobs known

ends_flushes : (old : Kept) (core : Held) (tx : Tx) (outcome : CommitOutcome Error) (new : Kept) (left : Held) → Ends Owes old core tx outcome new left → (jobs : List Label) → All (KnowsFlushOf core) jobs
    → All (KnowsFlushOf left) jobs
ends_flushes old core tx outcome new left (Gone none told kept same) jobs known = subst (λ (h : Held). All (KnowsFlushOf h) jobs) (sym same) known
ends_flushes old core tx outcome new left (Lets instant opened commits mid comes closes kept) jobs known =
    flushes_stay mid left (OfTickets (Close tx.ticket.id)) Done closes jobs (comes_flushes old.commits core instant tx outcome commits mid comes jobs known)

module _ (honest : Bool) (old : Locked) (left : Held) (keeps : Kept) (after : Place) (tx : Tx) (outcome : CommitOutcome Error) (instant : ℕ)
    (settled : IsSettled honest old) (reads : (s : State) → StandsFor old.core s → (i : ℕ) → get s.tickets.instants tx.ticket.id ≡ Some i → i ≡ instant)
    (told : Grows (entry_of tx instant) old.core.memory.next left.memory.next (list_of old) after.list) (owes : Ends Owes old.kept old.core tx outcome keeps left)
    (goes : IsTrue honest → (t : CoreState) → StandFor old.core old.kept t → ReadsOn old.core t.state → CommitGoesOn old.core t tx outcome left keeps) where
  abbrev new : Locked
  new = record old { core = left; kept = keeps; seat = after }

  abbrev one : Accepted
  one = entry_of tx instant

  counts : CommitCounts (items_of tx.own) outcome old.core.memory.next left.memory.next
  counts = ends_next old.kept old.core tx outcome keeps left owes

  numbered : left.memory.next ≡ number after.list
  numbered =
      told_number_of one old.core.memory.next left.memory.next (list_of old) after.list (old.core.memory.next == left.memory.next) refl settled.next
      (same_or_next (items_of tx.own) outcome old.core.memory.next left.memory.next counts) told

  grew : (t u : CoreState) → IsTied old t → Same t u ⊎ ((i : ℕ) × (get t.state.tickets.instants tx.ticket.id ≡ Some i) × (history_of u ≡ grown (history_of t) (accepted_of i tx.marks (items_of tx.own))))
      → (history_of u ≡ list_of old) ⊎ (history_of u ≡ grown (list_of old) one)
  grew t u tied (inl same) = inl (same ∙ tied.is)
  grew t u tied (inr (i, opened, more)) = inr (more ∙ (λ j. grown (tied.is j) (accepted_of (reads t.state tied.stands.machine i opened j) tx.marks (items_of tx.own))))

  steps : IsTrue honest → (t : CoreState) → IsTied old t → (u : CoreState) × IsTied new u × CommitStep t tx outcome u × CommitLeadsOn old.core t.state tx outcome left u.state
  steps is t tied =
      let (u, stands, on, step, led) = goes is t tied.stands tied.reads in
      let at : number (list_of old) ≡ old.core.memory.next = sym settled.next in
      let same = grown_end one old.core.memory.next left.memory.next (list_of old) (history_of u) after.list (old.core.memory.next == left.memory.next) refl at (same_number left keeps u stands)
      (grew t u tied (commit_history t tx outcome u step)) told in
      (u, record { stands = stands; reads = on; is = same; knows = commit_merges old.merges t u tx outcome step tied.knows }, step, led)

  pub commit_settles : IsSettled honest new
  commit_settles = record {
    next = numbered;
    knows = ends_flushes old.kept old.core tx outcome keeps left owes old.flushes settled.knows;
    ties = λ is.
        let (t, tied) = settled.ties is in
        let (u, on, step, led) = steps is t tied in
        (u, on);
  }

  -- seen from outside
  pub commit_done : (view : Locked) → old ≡ view → after.table ≡ old.seat.table → DoesCommit honest view tx outcome new
  commit_done view is table =
      subst (λ (l : Locked). DoesCommit honest l tx outcome new) is
      record {
        was = settled;
        list = commit_lists (items_of tx.own) (entry_of tx) instant outcome old.core.memory.next left.memory.next (list_of old) after.list counts told;
        owes = owes;
        steps = steps;
        stays = refl;
        table = table;
      }
